-- Where a device is gone on which no metadata lay, the trees of the pool's streams stand as the last root has them: the streams of its sets are given back, and all others stay.
use Rattle.std.proofs.Common.{◌≡◌, ◌≢◌, ◌∙◌, ◌⊎◌, inl, inr, ℕ, zero, suc, ◌+◌, ◌<◌, ◌≤◌, Bool, true, false, List, [], ◌∷◌, map, length, Option, Some, None, refl, sym, ap, subst, arith}
use Rattle.std.specs.Prelude.{All, ◌==◌, ◌&&◌, if◌then◌else◌, nat_eq, slice_index_or, slice_set}
use Rattle.std.specs.List.{flat_map, range_with_len, sum_by}
use Rattle.std.proofs.Math.Path.{fun_ext}
use Rattle.std.proofs.lemmas.Bool.{cases_eq}
use Rattle.std.proofs.lemmas.Bool.Decides.{nat_tests}
use Rattle.std.proofs.lemmas.List.Elements.{All-head, All-tail}
use Rattle.std.proofs.lemmas.List.Sums.{sum_by-cons}
use Rattle.zr_base.specs.declared.space.DevRow.{DevRow}
use Rattle.zr_base.specs.declared.space.Dva.{Dva}
use Rattle.zr_base.specs.declared.space.Entry.{Entry}
use Rattle.zr_beside.specs.Beside.{Standing, blocks_of}
use Rattle.zr_bptr.specs.declared.Bptr.{Bptr}
use Rattle.zr_bptr.specs.declared.Tree.{Tree}
use Rattle.zr_cache.specs.declared.table.Cache.{Cache}
use Rattle.zr_rules.specs.Devices.{Devices}
use Rattle.zr_rules.specs.Equation.{devices_in, live_hits}
use Rattle.zr_rules.specs.Places.{Place as UnitPlace, is_gone, one_if, part_of, state_of_dev, units_of_dev}
use Rattle.zr_rules.specs.Resolve.{is_at, resolve_hits, resolved, resolved_units}
use Rattle.zr_rules.specs.Roles.{Role, is_meta_role, taken_over}
use Rattle.zr_rules.specs.Roles.Role.{Absent, Meta as MetaRole, SavedMeta}
use Rattle.zr_rules.specs.Space.{Space, role_at}
use Rattle.zr_rules.specs.Steps.{Finishes}
use Rattle.zr_space.specs.Drops.{HasRole, IsMeta}
use Rattle.zr_store.specs.Store.{Now, Stored, Swaps}
use Rattle.zr_sync.proofs.Stages.{IsSameFrame}
use Rattle.zr_sync.specs.Mappings.{HasFirst, IsSpelled, is_turned, turned_at}
use Rattle.zr_sync.specs.Streams.{HasMeta, streams_at}
use Rattle.zr_sync.specs.Trees.{Place, Stage, HasTrees, HoldsStreams, IsAt, IsCondAt, every, head_tree, one_stage}
use Rattle.zr_sync.specs.Trees.Place.{OfLog, OfMapping, FirstLate, SecondLate}
use Rattle.zr_sync.specs.Trees.Stage.{Had, Untold}
use Rattle.zr_sync.specs.Words.{IsLastLog, log_was}
use Rattle.zr_sync.specs.declared.mappings.MappingStream.{MappingStream}
use Rattle.zr_sync.specs.declared.open.OpenPool.{OpenPool}
use Rattle.zr_sync.specs.declared.open.Table.{Table}
use Rattle.zr_sync.specs.declared.words.Log.{Log}
use Rattle.zr_sync.specs.declared.words.Log.TheVariants.{Fresh, Held, Kept}
use Rattle.zr_vdev.proofs.Leading.{own_within}
use Rattle.zr_vdev.proofs.Moves.{held_again, retold}
use Rattle.zr_vdev.proofs.Uses.{meta_stays}
use Rattle.zr_vdev.specs.Caches.{AreRead}
use Rattle.zr_vdev.specs.Runs.{view_of}
use Rattle.zr_vdev.specs.Stores.{HoldsBlocks, IsStoredAt, KeepsOthers, addresses_of, is_current}
use Rattle.zr_vdev.specs.declared.kind.Kind.TheVariants.{Meta}
use Rattle.zr_view.specs.Views.{address_bytes, place_bytes}
use Rattle.zr_removal.specs.Trees.{ForgetsSets, HasNoSets, freeing, is_of_sets}
use Rattle.zr_removal.specs.Turns.{ForgetsSlot}
use Rattle.zr_removal.proofs.BackTrees.{other_stage, stand_on, this_stage, unlogged}
use Rattle.zr_removal.proofs.GivenTrees.{gone, marked, places_given, streams_left}
use Rattle.zr_removal.proofs.Gone.{address_still}

-- ---- metadata leads to its own units

units_alike : (es ds : Devices) (dev from n : ℕ) → ((v : ℕ) → from ≤ v → v < from + n → resolved es dev v ≡ resolved ds dev v)
    → map (λ (p : UnitPlace). resolved es p.0 p.1) (map (λ (v : ℕ). (dev, v)) (range_with_len from n)) ≡ map (λ (p : UnitPlace). resolved ds p.0 p.1) (map (λ (v : ℕ). (dev, v)) (range_with_len from n))
units_alike es ds dev from zero same = refl
units_alike es ds dev from (suc n) same =
    ap (λ (o : Option UnitPlace). o ∷ map (λ (p : UnitPlace). resolved es p.0 p.1) (map (λ (v : ℕ). (dev, v)) (range_with_len (from + 1) n))) (same from (omega arith) (omega arith))
    ∙ ap (λ (os : List (Option UnitPlace)). resolved ds dev from ∷ os) (units_alike es ds dev (from + 1) n (λ v low high. same v (omega (arith, low)) (omega (arith, high))))

meta_units : (s t : Space) (a : Dva) → IsMeta s a → IsMeta t a → resolved_units (devices_in t) a ≡ resolved_units (devices_in s) a
meta_units s t a was is =
    let k1 = was.known in
    let w1 = was.within in
    let k2 = is.known in
    let w2 = is.within in
    units_alike (devices_in t) (devices_in s) a.dev a.start a.len (λ v low high.
    own_within (devices_in t) a.dev (meta_stays t a is) v (omega (arith, k2)) (omega (arith, w2, high))
    ∙ sym (own_within (devices_in s) a.dev (meta_stays s a was) v (omega (arith, k1)) (omega (arith, w1, high))))

-- metadata stays metadata, on the same disks
module _ (s t : Space) (stays : (a : Dva) → IsMeta s a → IsMeta t a) (current : (e u : ℕ) → is_current (role_at t e u) ≡ is_current (role_at s e u)) where
  bytes_stay : (disks : List (List ℕ)) (slots : List (Option ℕ)) (a : Dva) → IsMeta s a → address_bytes (view_of disks slots t) a ≡ address_bytes (view_of disks slots s) a
  bytes_stay disks slots a is =
      ap (λ (ps : List (Option UnitPlace)). flat_map (place_bytes (view_of disks slots t)) ps) (meta_units s t a is (stays a is))
      ∙ ap (λ (f : Option UnitPlace → List ℕ). flat_map f (resolved_units (devices_in s) a)) (fun_ext place_same)
    where
      place_same : (p : Option UnitPlace) → place_bytes (view_of disks slots t) p ≡ place_bytes (view_of disks slots s) p
      place_same None = refl
      place_same (Some p) = refl

  one_alike : (d u : ℕ) (a : Dva) → resolved_units (devices_in t) a ≡ resolved_units (devices_in s) a → resolve_hits (devices_in t) a d u ≡ resolve_hits (devices_in s) a d u
  one_alike d u a same = ap (λ (ps : List (Option UnitPlace)). sum_by (λ p. one_if (is_at p d u)) ps) same

  hits_stay : (d u : ℕ) (ps : List Bptr) → All (λ (b : Bptr). IsStoredAt Meta s None b.at) ps → live_hits (devices_in t) (addresses_of ps) d u ≡ live_hits (devices_in s) (addresses_of ps) d u
  hits_stay d u [] all = refl
  hits_stay d u (b ∷ bs) all =
      let is = (All-head (λ (p : Bptr). IsStoredAt Meta s None p.at) b bs all).used in
      let rest = hits_stay d u bs (All-tail (λ (p : Bptr). IsStoredAt Meta s None p.at) b bs all) in
      let first : resolve_hits (devices_in t) b.at d u ≡ resolve_hits (devices_in s) b.at d u = one_alike d u b.at (meta_units s t b.at is (stays b.at is)) in
      let x = sum_by-cons (λ (a : Dva). resolve_hits (devices_in t) a d u) b.at (addresses_of bs) in
      let y = sum_by-cons (λ (a : Dva). resolve_hits (devices_in s) a d u) b.at (addresses_of bs) in
      omega (arith, rest, first, x, y)

  pub meta_kept : (slots : List (Option ℕ)) (told : Type 0) (disks : List (List ℕ)) (c k : Cache) (st : Stored) → AreRead disks slots t k → HoldsBlocks Meta slots told disks s None c st → Now (HoldsBlocks Meta slots told disks t None k) (λ n. Swaps st n [] [])
  meta_kept slots told disks c k st read held =
      held_again Meta slots told told disks disks s t None c k st held.told read
      (λ a is. record { used = stays a is.used; whole = tt })
      (λ a is. bytes_stay disks slots a is.used)
      (λ e u. (let most = held.once e u in let same = hits_stay e u st.pointers held.stored in omega (arith, most, same)))
      (record {
        used = λ e u is. (let was = held.all.used e u (sym (current e u) ∙ is) in let same = hits_stay e u st.pointers held.stored in omega (arith, was, same));
        current = λ e u some. (let same = hits_stay e u st.pointers held.stored in current e u ∙ held.all.current e u (omega (arith, some, same)));
      })
      tt
      held

-- ---- a device goes

never : {A : Type 0} → false ≡ true → A
never e = absurd (let no_way : false ≡ true = e in cc)

taken_stays : (r : Role) → is_meta_role r ≡ true → taken_over r ≡ r
taken_stays r is = grind (arith, nat_tests, is)

other_role : (e d : ℕ) (r : Role) → e ≢ d → (if e == d then Absent else r) ≡ r
other_role e d r ne = grind (arith, nat_tests, ne)

same_device : (e d : ℕ) → (e == d) ≡ true → e ≡ d
same_device e d is = grind (arith, nat_tests, is)

taken_current : (r : Role) → is_current (taken_over r) ≡ is_current r
taken_current r = grind (arith, nat_tests)

not_current : (r : Role) → is_meta_role r ≡ false → is_current r ≡ false
not_current r is = grind (arith, nat_tests, is)

gone_current : (b : Bool) (r : Role) → (b ≡ true → is_meta_role r ≡ false) → is_current (if b then Absent else taken_over r) ≡ is_current r
gone_current true r none = sym (not_current r (none refl))
gone_current false r none = taken_current r

module _ (s t : Space) (d txg : ℕ) (done : Finishes s t d txg) (clear : (u : ℕ) → is_meta_role (role_at s d u) ≡ false) where
  elsewhere : (a : Dva) (r : Role) → is_meta_role r ≡ true → 0 < a.len → HasRole s a r → a.dev ≢ d
  elsewhere a r meta some has here =
      never (sym (clear a.start) ∙ (ap (λ (e : ℕ). is_meta_role (role_at s e a.start)) (sym here) ∙ (ap is_meta_role (has a.start (grind (arith, nat_tests, some))) ∙ meta)))

  role_stays : (a : Dva) (r : Role) → is_meta_role r ≡ true → a.dev ≢ d → HasRole s a r → HasRole t a r
  role_stays a r meta other has u inside =
      done.roles a.dev u ∙ (other_role a.dev d (taken_over (role_at s a.dev u)) other ∙ (ap taken_over (has u inside) ∙ taken_stays r meta))

  -- the same units are metadata of the current root
  pub current_goes_on : (e u : ℕ) → is_current (role_at t e u) ≡ is_current (role_at s e u)
  current_goes_on e u = ap is_current (done.roles e u) ∙ gone_current (e == d) (role_at s e u) (λ here. ap (λ (k : ℕ). is_meta_role (role_at s k u)) (same_device e d here) ∙ clear u)

  pub meta_goes_on : (a : Dva) → IsMeta s a → IsMeta t a
  meta_goes_on a is = by is.used
    where
      there : a.dev ≢ d → HasRole t a MetaRole ⊎ HasRole t a SavedMeta → IsMeta t a
      there other used =
          let known = is.known in
          let within = is.within in
          let many = done.elsewhere.devices in
          let size : units_of_dev t.parts.devs a.dev ≡ units_of_dev s.parts.devs a.dev = ap (λ (r : DevRow). r.units) (done.elsewhere.others a.dev other).row in
          record { known = omega (arith, known, many); some = is.some; within = omega (arith, within, size); used = used }

      by : HasRole s a MetaRole ⊎ HasRole s a SavedMeta → IsMeta t a
      by (inl has) = let other = elsewhere a MetaRole refl is.some has in there other (inl (role_stays a MetaRole refl other has))
      by (inr has) = let other = elsewhere a SavedMeta refl is.some has in there other (inr (role_stays a SavedMeta refl other has))

module _ (x y : OpenPool) (d txg : ℕ) (done : Finishes x.space y.space d txg) (root : ForgetsSets x.space y.space d) (rest : y ≡ record x { space = y.space; table = y.table; cache = y.cache }) where
  abbrev s : Space
  s = x.space

  abbrev t : Space
  t = y.space

  version_same : y.version ≡ x.version
  version_same = ap (λ (p : OpenPool). p.version) rest

  was_same : (log : Log) (e u : ℕ) → (log ≢ Fresh → e ≢ d) → log_was log t e u ≡ log_was log s e u
  was_same Held e u other = root.held e u (other (λ fresh. cc))
  was_same Kept e u other = root.kept e u (other (λ fresh. cc))
  was_same Fresh e u other = root.fresh e u

  log_on : (e : ℕ) (log : Log) (ws : List ℕ) → (log ≢ Fresh → e ≢ d) → IsAt Had x e (OfLog log) ws → IsAt Had y e (OfLog log) ws
  log_on e log ws other is = subst (λ (v : ℕ). IsLastLog v t e log ws) (sym version_same) (record { set = is.set; log_is = is.log_is; units = λ u. is.units u ∙ sym (was_same log e u other) })

  mapping_as : (e : ℕ) (which : MappingStream) (ws : List ℕ) → (part_of t.parts.devs e).entries ≡ (part_of s.parts.devs e).entries → (part_of t.parts.devs e).counts ≡ (part_of s.parts.devs e).counts → IsAt Had x e (OfMapping which) ws → IsAt Had y e (OfMapping which) ws
  mapping_as e which ws entries counts is =
      let same : is_turned which (turned_at y e) ≡ is_turned which (turned_at x e) = ap (λ (p : OpenPool). is_turned which (slice_index_or p.turned e (record { entries = false; counts = false }))) rest in (
        λ still. subst (λ (es : List Entry). HasFirst which es (part_of t.parts.devs e).counts ws) (sym entries) (subst (λ (cs : List ℕ). HasFirst which (part_of s.parts.devs e).entries cs ws) (sym counts) (is.0 (sym same ∙ still))),
        subst (λ (es : List Entry). IsSpelled es (part_of t.parts.devs e).counts) (sym entries) (subst (λ (cs : List ℕ). IsSpelled (part_of s.parts.devs e).entries cs) (sym counts) is.1),
      )

  had_on : (e : ℕ) (p : Place) (ws : List ℕ) → e ≢ d → IsAt Had x e p ws → IsAt Had y e p ws
  had_on e (OfLog log) ws other is = log_on e log ws (λ log. other) is
  had_on e (OfMapping which) ws other is = let part = done.elsewhere.others e other in mapping_as e which ws part.entries part.counts is
  had_on e FirstLate ws other is = tt
  had_on e SecondLate ws other is = tt

  own_on : (p : Place) (ws : List ℕ) → IsAt Had x d p ws → IsAt (if is_of_sets p then Untold else Had) y d p ws
  own_on (OfLog Held) ws is = tt
  own_on (OfLog Kept) ws is = tt
  own_on (OfLog Fresh) ws is = log_on d Fresh ws (λ other. absurd (other refl)) is
  own_on (OfMapping which) ws is = mapping_as d which ws done.entries root.counts is
  own_on FirstLate ws is = tt
  own_on SecondLate ws is = tt

  at_on : (e : ℕ) (p : Place) (ws : List ℕ) → IsAt Had x e p ws → IsAt (freeing is_of_sets d e p) y e p ws
  at_on e p ws is = elim (cases_eq e d) [
    | inl here ↦
        subst (λ (k : ℕ). IsAt (freeing is_of_sets d k p) y k p ws) (sym here)
        (subst (λ (g : Stage). IsAt g y d p ws) (this_stage d (is_of_sets p)) (own_on p ws (subst (λ (k : ℕ). IsAt Had x k p ws) here is)))
    | inr other ↦ subst (λ (g : Stage). IsAt g y e p ws) (other_stage d e (is_of_sets p) other) (had_on e p ws other is)
  ]

  cond_on : (which : MappingStream) (ws : List ℕ) → IsCondAt Had x which ws → IsCondAt Had y which ws
  cond_on which ws is c at =
      let had = is c (sym done.elsewhere.cond ∙ at) in
      (λ finished. had.0 (sym (ap (λ (p : OpenPool). p.cond.done) rest) ∙ finished), had.1)

  pub streams_vanished : ((u : ℕ) → is_meta_role (role_at x.space d u) ≡ false) → y.table.count ≡ x.table.count → y.table.slots ≡ x.table.slots → (more : List Standing) (told : Type 0) (disks : List (List ℕ)) → AreRead disks x.table.slots y.space y.cache
      → HoldsStreams (every Had) (one_stage Had) more told disks x → HoldsStreams (freeing is_of_sets d) (one_stage Had) more told disks y
  streams_vanished clear count slots more told disks read holds =
      let turned = meta_kept s t (meta_goes_on s t d txg done clear) (current_goes_on s t d txg done clear) x.table.slots told disks x.cache y.cache holds.stored read holds.held in
      let later = subst (λ (those : List (Option ℕ)). Now (HoldsBlocks Meta those told disks t None y.cache) (λ n. Swaps holds.stored n [] [])) (sym slots) turned in
      stand_on (every Had) (freeing is_of_sets d) (one_stage Had) (one_stage Had) more told told disks disks x y holds (ap (λ (p : OpenPool). p.streams) rest) (ap (λ (p : OpenPool). p.cond) rest) count
      later.stored later.held later.is (λ e p ws lt is. at_on e p ws is) (λ which ws is. cond_on which ws is)

-- ---- by whatever the disks are told to read so

pub streams_told : (stage : ℕ → Place → Stage) (cond : MappingStream → Stage) (more : List Standing) (t1 t2 : Type 0) (disks : List (List ℕ)) (x : OpenPool) → t2 → HoldsStreams stage cond more t1 disks x → HoldsStreams stage cond more t2 disks x
streams_told stage cond more t1 t2 disks x told h = record {
  stored = h.stored;
  held = retold Meta x.table.slots t1 t2 disks x.space None x.cache h.stored told h.held;
  words = h.words;
  cond = h.cond;
  beside = h.beside;
  counts = h.counts;
  cond_counts = h.cond_counts;
  are = h.are;
  are_cond = h.are_cond;
}

-- ---- the streams of its sets

none_stays : (s t : Space) (d : ℕ) → KeepsOthers Meta s t → HasNoSets s d → HasNoSets t d
none_stays s t d kept h = record { held = λ u. kept.root.held d u ∙ h.held u; kept = λ u. kept.root.kept d u ∙ h.kept u }

unset : (x : OpenPool) (d : ℕ) → HasNoSets x.space d → (p : Place) → is_of_sets p ≡ true → IsAt Had x d p []
unset x d h (OfLog Held) is = unlogged x d Held h.held
unset x d h (OfLog Kept) is = unlogged x d Kept h.kept
unset x d h FirstLate is = tt
unset x d h SecondLate is = tt
unset x d h (OfLog Fresh) is = never is
unset x d h (OfMapping which) is = never is

-- Where a device of no sets gives back its streams, all are as the last root has them.
pub sets_given : (others : List Standing) (t1 t2 : Type 0) (d1 d2 : List (List ℕ)) (x y : OpenPool) → IsSameFrame x y → KeepsOthers Meta x.space y.space → y.cond ≡ x.cond → y.table.count ≡ x.table.count → (dev : ℕ) → dev < x.table.count → dev < length x.streams.items
    → (h : HoldsStreams (freeing is_of_sets dev) (one_stage Had) others t1 d1 x) → y.streams.items ≡ slice_set x.streams.items dev (streams_left is_of_sets (streams_at x dev)) → Now (HasMeta t2 d2 y) (λ n. Swaps h.stored n (blocks_of h.stored (gone (marked is_of_sets (streams_at x dev) (h.words dev)))) [])
    → HasNoSets x.space dev → HoldsStreams (every Had) (one_stage Had) others t2 d2 y
sets_given others t1 t2 d1 d2 x y f kept same count dev there listed h streams gave none =
    places_given is_of_sets others t1 t2 d1 d2 x y f kept same count dev there listed h streams gave (unset y dev (none_stays x.space y.space dev kept none))

-- ---- its disk is forgotten

module _ (x y : OpenPool) (d : ℕ) (h : ForgetsSlot x y d) (gone : is_gone (state_of_dev x.space.parts.devs d) ≡ true) (disks : List (List ℕ)) where
  still : (a : Dva) → address_bytes (view_of disks y.table.slots x.space) a ≡ address_bytes (view_of disks x.table.slots x.space) a
  still a = address_still x y d h gone disks a

  meta_forgotten : (told : Type 0) (st : Stored) → HoldsBlocks Meta x.table.slots told disks x.space None x.cache st → HoldsBlocks Meta y.table.slots told disks x.space None x.cache st
  meta_forgotten told st held = record {
    told = held.told;
    settled = held.settled;
    read = λ e among. (let was = held.read e among in record { runs_of = was.runs_of; same = was.same ∙ sym (still e.0.pointer.at) });
    stored = held.stored;
    once = held.once;
    all = held.all;
    back = held.back;
    alone = held.alone;
    resolves = held.resolves;
    there = λ b is. held.there b is ∙ sym (still b.at);
    nothing = held.nothing;
  }

  abbrev without : OpenPool
  without = record x { table = y.table }

  had_still : (e : ℕ) (p : Place) (ws : List ℕ) → IsAt Had x e p ws → IsAt Had without e p ws
  had_still e (OfLog log) ws is = is
  had_still e (OfMapping which) ws is = is
  had_still e FirstLate ws is = tt
  had_still e SecondLate ws is = tt

  pub trees_forgotten : (told : Type 0) → HasTrees Had told disks x → HasTrees Had told disks y
  trees_forgotten told trees =
      let holds = trees.1 in
      let same : Swaps holds.stored holds.stored [] [] = record { stored = λ weight. refl; kept = λ b none had. refl } in
      subst (λ (p : OpenPool). HasTrees Had told disks p) (sym h.rest) (
        trees.0,
        stand_on (every Had) (every Had) (one_stage Had) (one_stage Had) (head_tree x.head trees.0) told told disks disks x without holds refl refl (ap (λ (w : Table). w.count) h.table) holds.stored (meta_forgotten told holds.stored holds.held) same
            (λ e p ws lt is. had_still e p ws is) (λ which ws is. is),
      )

-- ---- a commit that writes all anew asks less

had_untold : (x : OpenPool) (e : ℕ) (p : Place) (ws : List ℕ) → IsAt Had x e p ws → IsAt Untold x e p ws
had_untold x e (OfLog log) ws is = tt
had_untold x e (OfMapping which) ws is = is.1
had_untold x e FirstLate ws is = tt
had_untold x e SecondLate ws is = tt

pub trees_untold : (told : Type 0) (disks : List (List ℕ)) (x : OpenPool) → HasTrees Had told disks x → HasTrees Untold told disks x
trees_untold told disks x trees =
    let holds = trees.1 in (
      trees.0,
      record {
        stored = holds.stored;
        held = holds.held;
        words = holds.words;
        cond = holds.cond;
        beside = holds.beside;
        counts = holds.counts;
        cond_counts = holds.cond_counts;
        are = λ e p lt. had_untold x e p (holds.words e p) (holds.are e p lt);
        are_cond = λ which c at. (holds.are_cond which c at).1;
      },
    )
