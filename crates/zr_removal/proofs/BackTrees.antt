-- Where a removal is given up, the trees of the pool's streams stand as the last root has them: the streams of the mapping that the device had are given back, and all others stay.
use Rattle.std.proofs.Common.{◌≡◌, ◌≢◌, ◌∙◌, ◌⊎◌, inl, inr, ℕ, ◌<◌, Bool, true, false, List, [], length, Option, Some, None, refl, sym, ap, subst, arith}
use Rattle.std.specs.Prelude.{◌&&◌, if◌then◌else◌, nat_eq, slice_index_or, slice_set}
use Rattle.std.proofs.lemmas.Bool.{cases_eq}
use Rattle.std.proofs.lemmas.Bool.Decides.{nat_tests}
use Rattle.std.proofs.lemmas.List.{append-nil}
use Rattle.std.proofs.lemmas.List.Elements.{All-nil}
use Rattle.zr_base.specs.declared.space.Dva.{Dva}
use Rattle.zr_base.specs.declared.space.Entry.{Entry}
use Rattle.zr_beside.proofs.Beside.{others}
use Rattle.zr_beside.specs.Beside.{Standing, StandBeside, Stands, blocks_of}
use Rattle.zr_cache.specs.declared.table.Cache.{Cache}
use Rattle.zr_rules.specs.Equation.{devices_in}
use Rattle.zr_rules.specs.Logs.{IsLog}
use Rattle.zr_rules.specs.Places.{is_leaving, part_of, state_of_dev, units_of_dev}
use Rattle.zr_rules.specs.Roles.{Role, given_up, is_meta_role}
use Rattle.zr_rules.specs.Roles.Role.{Meta as MetaRole, SavedMeta}
use Rattle.zr_rules.specs.Space.{Space, role_at}
use Rattle.zr_shelf.specs.Doings.{WritesOnly}
use Rattle.zr_shelf.specs.Moments.{World}
use Rattle.zr_space.specs.Drops.{HasRole, IsMeta}
use Rattle.zr_store.specs.Store.{IsOnce, Now, Stored, Swaps}
use Rattle.zr_sync.specs.Mappings.{HasFirst, IsSpelled, is_turned, turned_at}
use Rattle.zr_sync.proofs.Stages.{IsSameFrame}
use Rattle.zr_sync.specs.Streams.{HasMeta, streams_at}
use Rattle.zr_sync.specs.Trees.{Place, Stage, HasTrees, HoldsStreams, IsAt, IsCondAt, every, head_tree, one_stage}
use Rattle.zr_sync.specs.Trees.Place.{OfLog, OfMapping, FirstLate, SecondLate}
use Rattle.zr_sync.specs.Trees.Stage.{Had, Untold}
use Rattle.zr_sync.specs.Words.{IsLastLog, log_was}
use Rattle.zr_sync.specs.declared.mappings.MappingStream.{MappingStream}
use Rattle.zr_sync.specs.declared.mappings.MappingStream.TheVariants.{Counts, Entries}
use Rattle.zr_sync.specs.declared.open.OpenPool.{OpenPool}
use Rattle.zr_sync.specs.declared.open.Table.{Table}
use Rattle.zr_sync.specs.declared.words.Log.{Log}
use Rattle.zr_sync.specs.declared.words.Log.TheVariants.{Fresh, Held, Kept}
use Rattle.zr_vdev.proofs.Moves.{held_again}
use Rattle.zr_vdev.specs.Caches.{AreRead}
use Rattle.zr_vdev.specs.Copies.{IsWriteIntoFree}
use Rattle.zr_vdev.specs.Stores.{HoldsBlocks, KeepsOthers, addresses_of, is_current}
use Rattle.zr_vdev.specs.declared.kind.Kind.TheVariants.{Meta}
use Rattle.zr_view.specs.Views.{slot_of}
use Rattle.zr_removal.specs.Trees.{ForgetsFresh, HasNoMapping, freeing, is_of_mapping}
use Rattle.zr_removal.specs.Turns.{CancelsSpace}
use Rattle.zr_removal.proofs.Alike.{bytes_same, live_same}
use Rattle.zr_removal.proofs.CopyTrees.{meta_writes}
use Rattle.zr_removal.proofs.GivenTrees.{gone, marked, places_given, streams_left}
use Rattle.zr_removal.proofs.Outgoing.{TurnsOne, count, gone_same, maps_same, reads_turned, size_same}
use Rattle.zr_removal.proofs.Returning.{cancels_one}

-- ---- the metadata of a pool of which one device turns

module _ (s t : Space) (d : ℕ) (one : TurnsOne s t d) (roles : (e u : ℕ) (r : Role) → is_meta_role r ≡ true → role_at s e u ≡ r → role_at t e u ≡ r) (current : (e u : ℕ) → is_current (role_at t e u) ≡ is_current (role_at s e u)) where
  still_used : (a : Dva) → HasRole s a MetaRole ⊎ HasRole s a SavedMeta → HasRole t a MetaRole ⊎ HasRole t a SavedMeta
  still_used a (inl has) = inl (λ u inside. roles a.dev u MetaRole refl (has u inside))
  still_used a (inr has) = inr (λ u inside. roles a.dev u SavedMeta refl (has u inside))

  still_meta : (a : Dva) → IsMeta s a → IsMeta t a
  still_meta a is =
      let known = is.known in
      let within = is.within in
      let many : length t.parts.devs ≡ length s.parts.devs = count s t d one in
      let size : units_of_dev t.parts.devs a.dev ≡ units_of_dev s.parts.devs a.dev = size_same s t d one a.dev in
      record { known = omega (arith, known, many); some = is.some; within = omega (arith, within, size); used = still_used a is.used }

  pub meta_turned : (slots : List (Option ℕ)) (told : Type 0) (disks : List (List ℕ)) (c : Cache) (st : Stored) → HoldsBlocks Meta slots told disks s None c st → Now (HoldsBlocks Meta slots told disks t None c) (λ n. Swaps st n [] [])
  meta_turned slots told disks c st held =
      let es = devices_in t in
      let ds = devices_in s in
      let many = count s t d one in
      let left = gone_same s t d one in
      let size = size_same s t d one in
      let maps = maps_same s t d one in
      held_again Meta slots told told disks disks s t None c c st held.told (reads_turned s t d one disks slots c held.read)
      (λ a is. record { used = still_meta a is.used; whole = tt })
      (λ a is. bytes_same es ds many left size maps disks slots a)
      (λ e u. (let most = held.once e u in let same = live_same es ds many left size maps (addresses_of st.pointers) e u in omega (arith, most, same)))
      (record {
        used = λ e u is.
            let was = held.all.used e u (sym (current e u) ∙ is) in
            let same = live_same es ds many left size maps (addresses_of st.pointers) e u in
            omega (arith, was, same);
        current = λ e u some.
            let same = live_same es ds many left size maps (addresses_of st.pointers) e u in
            current e u ∙ held.all.current e u (omega (arith, some, same));
      })
      tt
      held

-- ---- the same trees in another store of the same blocks

still_beside : (s n : Stored) (all : List Standing) → StandBeside s all → Swaps s n [] [] → IsOnce n → StandBeside n all
still_beside s n all h swaps once =
    subst (λ (xs : List Standing). StandBeside n xs) (append-nil all)
    (others s n all [] [] [] (subst (λ (xs : List Standing). StandBeside s xs) (sym (append-nil all)) h) swaps once (All-nil (Stands n)))

-- the pool's trees stand as they stood, where it has the same streams and as many devices
module _ (stage next : ℕ → Place → Stage) (cond cond_next : MappingStream → Stage) (more : List Standing) (t1 t2 : Type 0) (d1 d2 : List (List ℕ)) (x y : OpenPool) (h : HoldsStreams stage cond more t1 d1 x) (streams : y.streams ≡ x.streams) (conds : y.cond ≡ x.cond) (table : y.table.count ≡ x.table.count) (n : Stored) (held : HasMeta t2 d2 y n) (swaps : Swaps h.stored n [] [])
    (are : (e : ℕ) (p : Place) (ws : List ℕ) → e < x.table.count → IsAt (stage e p) x e p ws → IsAt (next e p) y e p ws) (are_cond : (which : MappingStream) (ws : List ℕ) → IsCondAt (cond which) x which ws → IsCondAt (cond_next which) y which ws) where
  pub stand_on : HoldsStreams next cond_next more t2 d2 y
  stand_on =
      record {
        stored = n;
        held = held;
        words = h.words;
        cond = h.cond;
        beside = rw streams rw conds rw table (still_beside h.stored n _ h.beside swaps held.alone);
        counts = rw streams rw table h.counts;
        cond_counts = rw conds h.cond_counts;
        are = λ e p lt. let below = subst (λ (k : ℕ). e < k) table lt in are e p (h.words e p) below (h.are e p below);
        are_cond = λ which. are_cond which (h.cond which) (h.are_cond which);
      }

-- ---- a device comes back

given_current : (r : Role) → is_current (given_up r) ≡ is_current r
given_current r = grind (arith, nat_tests)

given_stays : (r : Role) → is_meta_role r ≡ true → given_up r ≡ r
given_stays r is = grind (arith, nat_tests, is)

spelled_none : (es : List Entry) (cs : List ℕ) → es ≡ [] → cs ≡ [] → IsSpelled es cs
spelled_none es cs entries counts =
    subst (λ (them : List Entry). IsSpelled them cs) (sym entries) (subst (λ (them : List ℕ). IsSpelled [] them) (sym counts) (record { storable = tt; each = refl }))

pub other_stage : (dev e : ℕ) (b : Bool) → e ≢ dev → Had ≡ (if nat_eq e dev && b then Untold else Had)
other_stage dev e b ne = grind (arith, nat_tests, ne)

pub this_stage : (dev : ℕ) (b : Bool) → (if b then Untold else Had) ≡ (if nat_eq dev dev && b then Untold else Had)
this_stage dev b = grind (arith, nat_tests)

module _ (x y : OpenPool) (d : ℕ) (h : CancelsSpace x y d) (root : ForgetsFresh x.space y.space d) where
  abbrev s : Space
  s = x.space

  abbrev t : Space
  t = y.space

  version_same : y.version ≡ x.version
  version_same = ap (λ (p : OpenPool). p.version) h.rest

  was_same : (log : Log) (e u : ℕ) → (log ≡ Fresh → e ≢ d) → log_was log t e u ≡ log_was log s e u
  was_same Held e u other = root.held e u
  was_same Kept e u other = root.kept e u
  was_same Fresh e u other = root.others e u (other refl)

  log_back : (e : ℕ) (log : Log) (ws : List ℕ) → (log ≡ Fresh → e ≢ d) → IsAt Had x e (OfLog log) ws → IsAt Had y e (OfLog log) ws
  log_back e log ws other is = subst (λ (v : ℕ). IsLastLog v t e log ws) (sym version_same) (record { set = is.set; log_is = is.log_is; units = λ u. is.units u ∙ sym (was_same log e u other) })

  mapping_back : (e : ℕ) (which : MappingStream) (ws : List ℕ) → e ≢ d → IsAt Had x e (OfMapping which) ws → IsAt Had y e (OfMapping which) ws
  mapping_back e which ws other is =
      let part = h.cancels.elsewhere.others e other in
      let same : is_turned which (turned_at y e) ≡ is_turned which (turned_at x e) = ap (λ (p : OpenPool). is_turned which (slice_index_or p.turned e (record { entries = false; counts = false }))) h.rest in (
        λ still. subst (λ (es : List Entry). HasFirst which es (part_of t.parts.devs e).counts ws) (sym part.entries) (subst (λ (cs : List ℕ). HasFirst which (part_of s.parts.devs e).entries cs ws) (sym part.counts) (is.0 (sym same ∙ still))),
        subst (λ (es : List Entry). IsSpelled es (part_of t.parts.devs e).counts) (sym part.entries) (subst (λ (cs : List ℕ). IsSpelled (part_of s.parts.devs e).entries cs) (sym part.counts) is.1),
      )

  had_back : (e : ℕ) (p : Place) (ws : List ℕ) → e ≢ d → IsAt Had x e p ws → IsAt Had y e p ws
  had_back e (OfLog log) ws other is = log_back e log ws (λ fresh. other) is
  had_back e (OfMapping which) ws other is = mapping_back e which ws other is
  had_back e FirstLate ws other is = tt
  had_back e SecondLate ws other is = tt

  own_back : (p : Place) (ws : List ℕ) → IsAt Had x d p ws → IsAt (if is_of_mapping p then Untold else Had) y d p ws
  own_back (OfLog Held) ws is = log_back d Held ws (λ fresh. cc) is
  own_back (OfLog Kept) ws is = log_back d Kept ws (λ fresh. cc) is
  own_back (OfLog Fresh) ws is = tt
  own_back (OfMapping which) ws is = spelled_none (part_of t.parts.devs d).entries (part_of t.parts.devs d).counts h.cancels.entries h.cancels.counts
  own_back FirstLate ws is = tt
  own_back SecondLate ws is = tt

  at_back : (e : ℕ) (p : Place) (ws : List ℕ) → IsAt Had x e p ws → IsAt (freeing is_of_mapping d e p) y e p ws
  at_back e p ws is = elim (cases_eq e d) [
    | inl here ↦
        subst (λ (k : ℕ). IsAt (freeing is_of_mapping d k p) y k p ws) (sym here)
        (subst (λ (g : Stage). IsAt g y d p ws) (this_stage d (is_of_mapping p)) (own_back p ws (subst (λ (k : ℕ). IsAt Had x k p ws) here is)))
    | inr other ↦ subst (λ (g : Stage). IsAt g y e p ws) (other_stage d e (is_of_mapping p) other) (had_back e p ws other is)
  ]

  cond_back : (which : MappingStream) (ws : List ℕ) → IsCondAt Had x which ws → IsCondAt Had y which ws
  cond_back which ws is c at =
      let had = is c (sym h.cancels.elsewhere.cond ∙ at) in
      (λ done. had.0 (sym (ap (λ (p : OpenPool). p.cond.done) h.rest) ∙ done), had.1)

  pub streams_returned : is_leaving (state_of_dev x.space.parts.devs d) ≡ true → (more : List Standing) (told : Type 0) (disks : List (List ℕ)) → HoldsStreams (every Had) (one_stage Had) more told disks x → HoldsStreams (freeing is_of_mapping d) (one_stage Had) more told disks y
  streams_returned leaving more told disks holds =
      let turned = meta_turned s t d (cancels_one s t d h.cancels leaving) (λ e u r meta is. h.cancels.roles e u ∙ (ap given_up is ∙ given_stays r meta)) (λ e u. ap is_current (h.cancels.roles e u) ∙ given_current (role_at s e u)) x.table.slots told disks x.cache holds.stored holds.held in
      let slots : y.table.slots ≡ x.table.slots = ap (λ (w : Table). w.slots) h.table in
      let cache : y.cache ≡ x.cache = ap (λ (p : OpenPool). p.cache) h.rest in
      let later = subst (λ (those : List (Option ℕ)). Now (HoldsBlocks Meta those told disks t None y.cache) (λ n. Swaps holds.stored n [] [])) (sym slots)
      (subst (λ (k : Cache). Now (HoldsBlocks Meta x.table.slots told disks t None k) (λ n. Swaps holds.stored n [] [])) (sym cache) turned) in
      stand_on (every Had) (freeing is_of_mapping d) (one_stage Had) (one_stage Had) more told told disks disks x y holds (ap (λ (p : OpenPool). p.streams) h.rest) (ap (λ (p : OpenPool). p.cond) h.rest) (ap (λ (w : Table). w.count) h.table)
      later.stored later.held later.is (λ e p ws lt is. at_back e p ws is) (λ which ws is. cond_back which ws is)

  -- it has no mapping any more
  pub none_mapped : HasNoMapping t d
  none_mapped = record { entries = h.cancels.entries; counts = h.cancels.counts; fresh = root.none }

-- ---- what streams of no words record

empty_log : (version dev : ℕ) → IsLog version dev [] []
empty_log version dev = record {
  changes = [];
  spelling = record { lawful = tt; spelling = refl };
  replay = record { turns = λ u. tt; members = λ u. refl; maximal = tt };
  anew = [];
  is_anew = record { runs = []; cut = refl; spelling = record { lawful = tt; spelling = refl } };
  short = omega arith;
}

first_none : (which : MappingStream) (entries : List Entry) (counts : List ℕ) → HasFirst which entries counts []
first_none Entries entries counts = (0, omega arith, refl)
first_none Counts entries counts = (0, omega arith, refl)

never : {A : Type 0} → false ≡ true → A
never e = absurd (let no_way : false ≡ true = e in cc)

pub unlogged : (x : OpenPool) (d : ℕ) (log : Log) → ((u : ℕ) → log_was log x.space d u ≡ false) → IsAt Had x d (OfLog log) []
unlogged x d log none = record { set = []; log_is = empty_log x.version d; units = λ u. sym (none u) }

-- that there is no mapping stays so where metadata is given back
none_stays : (s t : Space) (d : ℕ) → KeepsOthers Meta s t → HasNoMapping s d → HasNoMapping t d
none_stays s t d kept h = record { entries = (kept.rows.each d).entries ∙ h.entries; counts = (kept.rows.each d).counts ∙ h.counts; fresh = λ u. kept.root.fresh d u ∙ h.fresh u }

unmapped : (x : OpenPool) (d : ℕ) → HasNoMapping x.space d → (p : Place) → is_of_mapping p ≡ true → IsAt Had x d p []
unmapped x d h (OfLog Fresh) is = unlogged x d Fresh h.fresh
unmapped x d h (OfMapping which) is = (λ same. first_none which (part_of x.space.parts.devs d).entries (part_of x.space.parts.devs d).counts, spelled_none (part_of x.space.parts.devs d).entries (part_of x.space.parts.devs d).counts h.entries h.counts)
unmapped x d h (OfLog Held) is = never is
unmapped x d h (OfLog Kept) is = never is
unmapped x d h FirstLate is = never is
unmapped x d h SecondLate is = never is

-- Where a device without a mapping gives back its streams, all are as the last root has them.
pub mapping_given : (others : List Standing) (t1 t2 : Type 0) (d1 d2 : List (List ℕ)) (x y : OpenPool) → IsSameFrame x y → KeepsOthers Meta x.space y.space → y.cond ≡ x.cond → y.table.count ≡ x.table.count → (dev : ℕ) → dev < x.table.count → dev < length x.streams.items
    → (h : HoldsStreams (freeing is_of_mapping dev) (one_stage Had) others t1 d1 x) → y.streams.items ≡ slice_set x.streams.items dev (streams_left is_of_mapping (streams_at x dev)) → Now (HasMeta t2 d2 y) (λ n. Swaps h.stored n (blocks_of h.stored (gone (marked is_of_mapping (streams_at x dev) (h.words dev)))) [])
    → HasNoMapping x.space dev → HoldsStreams (every Had) (one_stage Had) others t2 d2 y
mapping_given others t1 t2 d1 d2 x y f kept same count dev there listed h streams gave none =
    places_given is_of_mapping others t1 t2 d1 d2 x y f kept same count dev there listed h streams gave (unmapped y dev (none_stays x.space y.space dev kept none))

-- ---- where nothing was copied, since a disk failed

pub trees_tried : (x y : OpenPool) (t1 t2 : Type 0) (before now : World) → ((d e slot : ℕ) → slot_of x.table.slots d ≡ Some slot → slot_of x.table.slots e ≡ Some slot → d ≡ e) → WritesOnly (IsWriteIntoFree x.table.slots x.space) before now
    → (AreRead before.now.seen x.table.slots x.space x.cache → AreRead now.now.seen x.table.slots x.space y.cache) → y ≡ record x { cache = y.cache } → t2 → HasTrees Had t1 before.now.seen x → HasTrees Had t2 now.now.seen y
trees_tried x y t1 t2 before now apart wrote read rest told trees =
    let h = trees.1 in
    let slots = x.table.slots in
    let tried : OpenPool = record x { cache = y.cache } in
    let again = held_again Meta slots t1 t2 before.now.seen now.now.seen x.space x.space None x.cache y.cache h.stored told (read h.held.read)
    (λ a is. record { used = is.used; whole = tt }) (λ a is. meta_writes slots x.space before now a apart wrote is.used) h.held.once h.held.all tt h.held in
    subst (λ (p : OpenPool). HasTrees Had t2 now.now.seen p) (sym rest)
    (trees.0, stand_on (every Had) (every Had) (one_stage Had) (one_stage Had) (head_tree x.head trees.0) t1 t2 before.now.seen now.now.seen x tried h refl refl refl again.stored again.held again.is (λ e p ws lt is. had_tried e p ws is) (λ which ws is. is))
  where
    had_tried : (e : ℕ) (p : Place) (ws : List ℕ) → IsAt Had x e p ws → IsAt Had (record x { cache = y.cache }) e p ws
    had_tried e (OfLog log) ws is = is
    had_tried e (OfMapping which) ws is = is
    had_tried e FirstLate ws is = tt
    had_tried e SecondLate ws is = tt
