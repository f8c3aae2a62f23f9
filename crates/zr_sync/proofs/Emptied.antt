-- The trees of a pool whose last root is saved: they are the saved root's, and the pool has streams of no words.
use Rattle.std.proofs.Common.{◌≡◌, ◌∙◌, ℕ, zero, suc, ◌<◌, inl, inr, List, [], ◌∷◌, ◌++◌, length, refl, sym, ap, subst, arith, false}
use Rattle.std.specs.Prelude.{All, None}
use Rattle.std.specs.List.{sum_by}
use Rattle.std.proofs.lemmas.Bool.{cases_lt}
use Rattle.std.proofs.lemmas.Bool.Decides.{nat_tests}
use Rattle.std.proofs.lemmas.List.Elements.{All-nil, All-cons}
use Rattle.std.proofs.Math.ListN.{get_or-eq_default}
use Rattle.zr_base.specs.declared.space.Entry.{Entry}
use Rattle.zr_beside.specs.Beside.{Standing, StandBeside, Stands, blocks_of, of_stream, rows_of}
use Rattle.zr_bptr.specs.declared.Bptr.{Bptr}
use Rattle.zr_bptr.specs.declared.Tree.{Tree}
use Rattle.zr_root.proofs.Words.{hole_bytes}
use Rattle.zr_rules.specs.Places.{part_of}
use Rattle.zr_rules.specs.Roles.{Role, saved}
use Rattle.zr_rules.specs.Space.{role_at}
use Rattle.zr_store.specs.Store.{Stored}
use Rattle.zr_tree.specs.Trees.{tree_reach}
use Rattle.zr_vdev.specs.Stores.{IsStoredAt, is_current}
use Rattle.zr_vdev.specs.declared.kind.Kind.TheVariants.{Meta as MetaKind}
use Rattle.zr_vdev.proofs.Moves.{bytes_now, holds_all}
use Rattle.zr_sync.specs.Checkpoints.{SavesRoot}
use Rattle.zr_sync.specs.Empty.{no_stream, no_streams}
use Rattle.zr_sync.specs.Heads.{IsSeen}
use Rattle.zr_sync.specs.Mappings.{IsSpelled, cond_stream}
use Rattle.zr_sync.specs.Streams.{HasMeta, streams_at}
use Rattle.zr_sync.specs.Trees.{Place, HasTrees, HoldsStreams, IsAt, MaySpell, cond_trees, device_trees, every, head_tree, one_stage, stream_in}
use Rattle.zr_sync.specs.Trees.Place.{OfLog, OfMapping, FirstLate, SecondLate}
use Rattle.zr_sync.specs.Trees.Stage.{Untold, Recorded}
use Rattle.zr_sync.specs.declared.mappings.MappingStream.{MappingStream}
use Rattle.zr_sync.specs.declared.mappings.MappingStream.TheVariants.{Entries, Counts}
use Rattle.zr_sync.specs.declared.open.CondStreams.{CondStreams}
use Rattle.zr_sync.specs.declared.open.DeviceStreams.{DeviceStreams}
use Rattle.zr_sync.specs.declared.open.OpenPool.{OpenPool}
use Rattle.zr_sync.specs.declared.open.Table.{Table}
use Rattle.zr_sync.specs.declared.words.Log.TheVariants.{Held, Kept, Fresh}
use Rattle.zr_sync.proofs.SavedRoots.{saves_seen}

-- ---- trees of no words

abbrev AreNone : List Standing → Type 0
AreNone [] = Unit {0}
AreNone (w ∷ ws) = (w ≡ of_stream no_stream []) × AreNone ws

none_behind : (xs ys : List Standing) → AreNone xs → AreNone ys → AreNone (xs ++ ys)
none_behind [] ys first rest = rest
none_behind (x ∷ xs) ys first rest = (first.0, none_behind xs ys first.1 rest)

none_rows : (row : ℕ → List Standing) → ((d : ℕ) → AreNone (row d)) → (n : ℕ) → AreNone (rows_of row n)
none_rows row each zero = tt
none_rows row each (suc n) = none_behind (rows_of row n) (row n) (none_rows row each n) (each n)

no_blocks : (s : Stored) (all : List Standing) → AreNone all → blocks_of s all ≡ []
no_blocks s [] none = refl
no_blocks s (w ∷ ws) none = ap (λ (v : Standing). tree_reach s v.tree ++ blocks_of s ws) none.0 ∙ no_blocks s ws none.1

all_stand : (s : Stored) (all : List Standing) → AreNone all → All (Stands s) all
all_stand s [] none = All-nil (Stands s)
all_stand s (w ∷ ws) none = All-cons (Stands s) w ws (subst (λ (v : Standing). Stands s v) (sym none.0) (hole_bytes s)) (all_stand s ws none.1)

no_count : (p : Place) → 0 ≡ (stream_in p no_streams).words
no_count (OfLog Held) = refl
no_count (OfLog Kept) = refl
no_count (OfLog Fresh) = refl
no_count (OfMapping Entries) = refl
no_count (OfMapping Counts) = refl
no_count FirstLate = refl
no_count SecondLate = refl

no_cond_count : (which : MappingStream) (t : CondStreams) → t.entries ≡ no_stream → t.counts ≡ no_stream → 0 ≡ (cond_stream which t).words
no_cond_count Entries t entries counts = ap (λ s. s.words) (sym entries)
no_cond_count Counts t entries counts = ap (λ s. s.words) (sym counts)

-- ---- a root that is saved

saved_current : (r : Role) → is_current (saved r) ≡ false
saved_current r = grind (arith, nat_tests)

module _ (t : Type 0) (disks : List (List ℕ)) (x y : OpenPool) (saves : SavesRoot x y) (trees : HasTrees Recorded t disks x) where
  abbrev h : HoldsStreams (every Recorded) (one_stage Recorded) (head_tree x.head trees.0) t disks x
  h = trees.1

  abbrev nothing : Stored
  nothing = record { pointers = []; bytes = bytes_now MetaKind y.table.slots disks y.space None }

  -- all that was metadata of the current root is the saved one's
  none_current : (d u : ℕ) → is_current (role_at y.space d u) ≡ false
  none_current d u = ap is_current (saves.holds.roles d u) ∙ saved_current (role_at saves.given d u)

  seen : IsSeen t disks y
  seen = saves_seen x y saves t disks (record { told = h.held.told; read = h.held.read })

  held : HasMeta t disks y nothing
  held =
      holds_all MetaKind y.table.slots t disks y.space None y.cache [] seen.told seen.read refl (All-nil (λ (b : Bptr). IsStoredAt MetaKind y.space None b.at)) (λ d u. omega arith)
      (record { used = λ d u is. absurd (let no = none_current d u in cc); current = λ d u some. absurd (omega (arith, some)) }) tt

  each : (dev : ℕ) → streams_at y dev ≡ no_streams
  each dev = elim (cases_lt dev (length y.streams.items)) [
    | inl lt ↦ saves.streams dev no_streams lt
    | inr ge ↦ get_or-eq_default y.streams.items no_streams {n = dev} (omega (arith, ge))
  ]

  abbrev none : Place → List ℕ
  none p = []

  abbrev none_kept : MappingStream → List ℕ
  none_kept which = []

  row_none : (dev : ℕ) → AreNone (device_trees (streams_at y dev) none)
  row_none dev = subst (λ (s : DeviceStreams). AreNone (device_trees s none)) (sym (each dev)) (refl, (refl, (refl, (refl, (refl, (refl, (refl, tt)))))))

  abbrev all : List Standing
  all = rows_of (λ dev. device_trees (streams_at y dev) none) y.table.count ++ (cond_trees y.cond none_kept ++ head_tree y.head [])

  all_none : AreNone all
  all_none =
      none_behind (rows_of (λ dev. device_trees (streams_at y dev) none) y.table.count) (cond_trees y.cond none_kept ++ head_tree y.head []) (none_rows (λ dev. device_trees (streams_at y dev) none) row_none y.table.count)
      (none_behind (cond_trees y.cond none_kept) (head_tree y.head []) (subst (λ (s : CondStreams). AreNone (cond_trees s none_kept)) (sym saves.cond) (refl, (refl, tt))) (subst (λ (r : Tree). AreNone (head_tree r [])) (sym saves.head) (refl, tt)))

  beside : StandBeside nothing all
  beside = record {
    stored = λ weight. let no = ap (λ (bs : List Bptr). sum_by weight bs) (no_blocks nothing all all_none) in omega (arith, no);
    whole = λ weight. omega arith;
    once = held.alone;
    stand = all_stand nothing all all_none;
  }

  table : y.table ≡ x.table
  table = ap (λ (o : OpenPool). o.table) saves.rest

  conds : y.space.parts.cond ≡ x.space.parts.cond
  conds = saves.holds.cond ∙ saves.gives.others.rows.cond

  -- mappings are as they were
  spelled : (dev : ℕ) → dev < x.table.count → MaySpell y dev
  spelled dev lt =
      let entries = (saves.holds.each dev).entries ∙ (saves.gives.others.rows.each dev).entries in
      let counts = (saves.holds.each dev).counts ∙ (saves.gives.others.rows.each dev).counts in
      subst (λ (es : List Entry). IsSpelled es (part_of y.space.parts.devs dev).counts) (sym entries) (subst (λ (cs : List ℕ). IsSpelled (part_of x.space.parts.devs dev).entries cs) (sym counts) (h.are dev (OfMapping Entries) lt).1)

  are : (dev : ℕ) (p : Place) → dev < y.table.count → IsAt Untold y dev p []
  are dev (OfLog log) lt = tt
  are dev (OfMapping which) lt = spelled dev (subst (λ (w : Table). dev < w.count) table lt)
  are dev FirstLate lt = tt
  are dev SecondLate lt = tt

  pub emptied : HasTrees Untold t disks y
  emptied = (
    [],
    record {
      stored = nothing;
      held = held;
      words = λ dev. none;
      cond = none_kept;
      beside = beside;
      counts = λ dev p lt. no_count p ∙ ap (λ (s : DeviceStreams). (stream_in p s).words) (sym (each dev));
      cond_counts = λ which. no_cond_count which y.cond (ap (λ (s : CondStreams). s.entries) saves.cond) (ap (λ (s : CondStreams). s.counts) saves.cond);
      are = are;
      are_cond = λ which c at. (h.are_cond which c (sym conds ∙ at)).1;
    },
  )
