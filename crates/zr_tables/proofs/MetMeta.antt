-- What a walk meets of the metadata of a pool is that of its current root, where the trees of its streams stand and no root is saved.
use Rattle.std.proofs.Common.{◌≡◌, ◌∙◌, ◌+◌, ◌≤◌, ◌<◌, ℕ, zero, suc, Bool, List, [], ◌∷◌, ◌++◌, Option, None, length, take, refl, sym, ap, arith}
use Rattle.std.specs.Prelude.{nat_lt, slice_index_or}
use Rattle.std.specs.List.{flat_map, sum_by}
use Rattle.std.proofs.lemmas.Bool.Decides.{nat_tests}
use Rattle.std.proofs.lemmas.List.{take_more}
use Rattle.std.proofs.lemmas.Grind.{flat_map-append}
use Rattle.std.proofs.lemmas.List.Sums.{sum_by-append}
use Rattle.zr_audit.proofs.Finds.{live_if_hit}
use Rattle.zr_audit.specs.Found.{AreMeta}
use Rattle.zr_base.specs.declared.space.Dva.{Dva}
use Rattle.zr_beside.proofs.Staying.{blocks_stay, weigh_two}
use Rattle.zr_beside.specs.Beside.{Standing, blocks_of, rows_of}
use Rattle.zr_bptr.specs.declared.Bptr.{Bptr}
use Rattle.zr_rules.specs.Equation.{devices_in, live_hits}
use Rattle.zr_rules.specs.Places.{one_if}
use Rattle.zr_rules.specs.Resolve.{resolve_hits}
use Rattle.zr_rules.specs.Roles.{Role, is_meta_role}
use Rattle.zr_rules.specs.Roles.Role.{SavedMeta}
use Rattle.zr_rules.specs.Space.{role_at}
use Rattle.zr_store.specs.Store.{Stored, one_at}
use Rattle.zr_store.proofs.Meeting.{at_each}
use Rattle.zr_sync.proofs.TreeMeta.{trees_once}
use Rattle.zr_sync.specs.Empty.{no_streams}
use Rattle.zr_sync.specs.Streams.{streams_at}
use Rattle.zr_sync.specs.Trees.{Place, HasTrees, HoldsStreams, device_trees, every, head_tree, one_stage}
use Rattle.zr_sync.specs.Trees as trees
use Rattle.zr_sync.specs.Trees.Stage.{Had}
use Rattle.zr_sync.specs.declared.open.Checkpoint.{Checkpoint}
use Rattle.zr_sync.specs.declared.open.DeviceStreams.{DeviceStreams}
use Rattle.zr_sync.specs.declared.open.OpenPool.{OpenPool}
use Rattle.zr_tree.specs.Trees.{tree_reach}
use Rattle.zr_tree.proofs.Frames.{Agree}
use Rattle.zr_vdev.proofs.Moves.{weight_of}
use Rattle.zr_vdev.specs.Stores.{HoldsRead, IsStoredAt, addresses_of, is_current}
use Rattle.zr_vdev.specs.declared.kind.Kind.TheVariants.{Meta}
use Rattle.zr_tables.specs.Audits.{metadata_of}
use Rattle.zr_tables.specs.Walks.{cond_trees, metadata_reach, saved_reach, streams_reach}

-- ---- the streams of the devices, one after another

module _ (s : Stored) (weight : Bptr → ℕ) (devices : List DeviceStreams) (words : ℕ → Place → List ℕ) where
  abbrev row : ℕ → List Standing
  row dev = device_trees (slice_index_or devices dev no_streams) (words dev)

  rows_weigh : (n : ℕ) → n ≤ length devices → sum_by weight (blocks_of s (rows_of row n)) ≡ sum_by weight (flat_map (streams_reach s) (take n devices))
  rows_weigh zero le = refl
  rows_weigh (suc n) le =
      let lt : n < length devices = omega (arith, le) in
      let rest = rows_weigh n (omega (arith, le)) in
      let two = weigh_two s (rows_of row n) (row n) weight in
      let more = ap (λ (ds : List DeviceStreams). sum_by weight (flat_map (streams_reach s) ds)) (next n lt) in
      let cut = ap (sum_by weight) (flat_map-append (streams_reach s) (take n devices) (slice_index_or devices n no_streams ∷ [])) in
      let last = sum_by-append weight (flat_map (streams_reach s) (take n devices)) (flat_map (streams_reach s) (slice_index_or devices n no_streams ∷ [])) in
      let one = sum_by-append weight (streams_reach s (slice_index_or devices n no_streams)) [] in
      omega (arith, rest, two, more, cut, last, one)
    where
      next : (n : ℕ) → n < length devices → take (suc n) devices ≡ take n devices ++ slice_index_or devices n no_streams ∷ []
      next n lt = let on : suc n ≡ n + 1 = omega arith in ap (λ (k : ℕ). take k devices) on ∙ take_more devices n no_streams lt

-- ---- all metadata

-- a unit of metadata that is none of a saved root is one of the current root
current_only : (r : Role) → (r ≡ SavedMeta → ⊥) → is_current r ≡ is_meta_role r
current_only r none = by r none
  where
    by : (r : Role) → (r ≡ SavedMeta → ⊥) → is_current r ≡ is_meta_role r
    by SavedMeta none = absurd (none refl)
    by r none = refl

some_one : (b : Bool) (n : ℕ) → n ≡ one_if b → nat_lt 0 n ≡ b
some_one b n is = grind (arith, nat_tests, is)

module _ (told told_read : Type 0) (disks : List (List ℕ)) (pool : OpenPool) (h : HasTrees Had told disks pool) (s : Stored) (read : HoldsRead pool.table.slots told_read disks pool.space pool.cache s)
    (listed : length pool.streams.items ≡ pool.table.count) (unsaved : pool.saved ≡ None) (none : (d u : ℕ) → role_at pool.space d u ≡ SavedMeta → ⊥) where
  abbrev streams : HoldsStreams (every Had) (one_stage Had) (head_tree pool.head h.0) told disks pool
  streams = h.1

  abbrev rest : List Standing
  rest = trees.cond_trees pool.cond streams.cond ++ head_tree pool.head h.0

  abbrev all : List Standing
  all = rows_of (λ dev. device_trees (streams_at pool dev) (streams.words dev)) pool.table.count ++ rest

  -- each block that is held reads as it is held
  agree : Agree streams.stored s (blocks_of streams.stored all)
  agree = record {
    same = λ b met.
        let held = streams.beside.stored (one_at b.at) in
        let there = at_each (λ (a : Dva). IsStoredAt Meta pool.space None a) streams.stored.pointers b.at streams.held.stored (omega (arith, held, met)) in
        read.bytes b ∙ sym (streams.held.there b there);
  }

  reach_weighs : (weight : Bptr → ℕ) → sum_by weight (metadata_reach s pool.head pool.streams.items pool.cond) ≡ sum_by weight (tree_reach s pool.head) + (sum_by weight (flat_map (streams_reach s) pool.streams.items) + sum_by weight (flat_map (tree_reach s) (cond_trees pool.cond)))
  reach_weighs weight =
      let one = sum_by-append weight (tree_reach s pool.head ++ flat_map (streams_reach s) pool.streams.items) (flat_map (tree_reach s) (cond_trees pool.cond)) in
      let two = sum_by-append weight (tree_reach s pool.head) (flat_map (streams_reach s) pool.streams.items) in
      omega (arith, one, two)

  -- what is met weighs what the trees weigh
  met_weighs : (weight : Bptr → ℕ) → sum_by weight (metadata_reach s pool.head pool.streams.items pool.cond) ≡ sum_by weight (blocks_of streams.stored all)
  met_weighs weight =
      let stay = ap (sum_by weight) (blocks_stay streams.stored s all agree) in
      let two = weigh_two s (rows_of (λ dev. device_trees (streams_at pool dev) (streams.words dev)) pool.table.count) rest weight in
      let three = weigh_two s (trees.cond_trees pool.cond streams.cond) (head_tree pool.head h.0) weight in
      let rows = rows_weigh s weight pool.streams.items streams.words pool.table.count (omega (arith, listed)) in
      let whole = ap (λ (n : ℕ). sum_by weight (flat_map (streams_reach s) (take n pool.streams.items))) (sym listed) in
      let taken = ap (λ (ds : List DeviceStreams). sum_by weight (flat_map (streams_reach s) ds)) (take_all pool.streams.items) in
      let devices : List Bptr = flat_map (streams_reach s) pool.streams.items in
      let condensing : List Bptr = flat_map (tree_reach s) (cond_trees pool.cond) in
      let first : sum_by weight (metadata_reach s pool.head pool.streams.items pool.cond) ≡ sum_by weight (tree_reach s pool.head) + (sum_by weight devices + sum_by weight condensing) = reach_weighs weight in
      let head = sum_by-append weight (tree_reach s pool.head) [] in
      let conds : sum_by weight (blocks_of s (trees.cond_trees pool.cond streams.cond)) ≡ sum_by weight condensing = refl in
      let heads : sum_by weight (blocks_of s (head_tree pool.head h.0)) ≡ sum_by weight (tree_reach s pool.head ++ []) = refl in
      omega (arith, stay, two, three, rows, whole, taken, first, head, conds, heads)
    where
      take_all : (ds : List DeviceStreams) → take (length ds) ds ≡ ds
      take_all [] = refl
      take_all (d ∷ ds) = ap (λ (more : List DeviceStreams). d ∷ more) (take_all ds)

  -- to each unit of metadata one block leads, and none to another
  met_once : (d u : ℕ) → live_hits (devices_in pool.space) (metadata_of s pool) d u ≡ one_if (is_current (role_at pool.space d u))
  met_once d u =
      let f : Dva → ℕ = λ a. resolve_hits (devices_in pool.space) a d u in
      let reach = metadata_reach s pool.head pool.streams.items pool.cond in
      let no_more : metadata_of s pool ≡ addresses_of reach ++ [] = ap (λ (o : Option Checkpoint). addresses_of reach ++ addresses_of (saved_reach s o)) unsaved in
      let cut = ap (sum_by f) no_more in
      let ends = sum_by-append f (addresses_of reach) [] in
      let x = weight_of f reach in
      let y = weight_of f (blocks_of streams.stored all) in
      let same = met_weighs (λ (b : Bptr). f b.at) in
      let once = trees_once (every Had) (one_stage Had) (head_tree pool.head h.0) told disks pool streams d u in
      omega (arith, cut, ends, x, y, same, once)

  pub meta_met : AreMeta pool.space (metadata_of s pool)
  meta_met = λ d u known lt.
      live_if_hit (devices_in pool.space) (metadata_of s pool) d u
      ∙ (some_one (is_current (role_at pool.space d u)) (live_hits (devices_in pool.space) (metadata_of s pool) d u) (met_once d u) ∙ current_only (role_at pool.space d u) (none d u))
