-- The end of a removal: what led to the device leads to its copies, so the disks hold the same objects.
use Rattle.std.proofs.Common.{◌≡◌, ◌∙◌, inl, inr, ℕ, zero, suc, ◌<◌, ◌≤◌, Bool, true, false, List, [], ◌∷◌, ◌++◌, Option, Some, None, refl, sym, ap, subst, arith}
use Rattle.std.specs.Prelude.{Contains, if◌then◌else◌, map, option_and_then}
use Rattle.std.specs.List.{flat_map}
use Rattle.std.proofs.lemmas.Bool.{cases_Bool}
use Rattle.std.proofs.lemmas.Bool.Decides.{nat_tests}
use Rattle.zr_base.specs.declared.space.DevRow.{DevRow}
use Rattle.zr_base.specs.declared.space.Dva.{Dva}
use Rattle.zr_cache.specs.Entries.{entries}
use Rattle.zr_cache.specs.Sums.{Entry as Cached}
use Rattle.zr_cache.specs.declared.table.Cache.{Cache}
use Rattle.zr_gone.proofs.Spending.{held_still}
use Rattle.zr_gone.specs.Order.{MayGo}
use Rattle.zr_label.specs.Blocks.{no_row}
use Rattle.zr_model.specs.Objects.{Objects}
use Rattle.zr_rules.specs.Devices.{Devices, state_at}
use Rattle.zr_rules.specs.Equation.{Spends, devices_in, live_hits}
use Rattle.zr_rules.specs.Mappings.{target}
use Rattle.zr_rules.specs.Places.{Place, is_gone, is_leaving, part_of, places_of, state_of_dev}
use Rattle.zr_rules.specs.Resolve.{is_there, resolve, resolved}
use Rattle.zr_rules.specs.Roles.{Role, is_copy_role, is_held_role, is_live_role}
use Rattle.zr_rules.specs.Space.{Space, role_at}
use Rattle.zr_rules.specs.Steps.{Finishes}
use Rattle.zr_space.specs.Leavings.{HasSource}
use Rattle.zr_store.specs.Store.{Now, Stored, Swaps}
use Rattle.zr_sync.proofs.Stays.{objects_stay}
use Rattle.zr_sync.specs.Copies.{HasCopies}
use Rattle.zr_sync.specs.Objects.{HoldsObjects}
use Rattle.zr_sync.specs.Pools.{IsOpen}
use Rattle.zr_sync.specs.declared.open.OpenPool.{OpenPool}
use Rattle.zr_vdev.proofs.Alike.{copies_stay, held_stays, metadata_no_copy}
use Rattle.zr_vdev.proofs.Back.{spends_same}
use Rattle.zr_vdev.proofs.Follows.{rows_devices}
use Rattle.zr_vdev.proofs.Moves.{held_again, retold}
use Rattle.zr_vdev.proofs.Uses.{use_along}
use Rattle.zr_vdev.proofs.Whole.{all_same}
use Rattle.zr_vdev.specs.Alike.{CopiesStand, IsCopyAt}
use Rattle.zr_vdev.specs.Caches.{AreRead}
use Rattle.zr_vdev.specs.Runs.{view_of}
use Rattle.zr_vdev.specs.Stores.{HoldsBlocks, KeepsOthers, KeepsRows, addresses_of, may_change}
use Rattle.zr_vdev.specs.declared.kind.Kind.TheVariants.{Block, Meta}
use Rattle.zr_view.specs.Views.{address_bytes, place_bytes, unit_bytes}
use Rattle.zr_removal.specs.Rows.{ArePast}
use Rattle.zr_removal.specs.Turns.{ForgetsSlot}
use Rattle.zr_removal.proofs.Standing.{slot_stays}
use Rattle.zr_removal.proofs.Turned.{gone_there}

-- the disks hold the same objects by whatever they are told
pub objects_told : (t1 t2 : Type 0) (disks : List (List ℕ)) (x : OpenPool) (objects : Objects) → t2 → HoldsObjects t1 disks x objects → HoldsObjects t2 disks x objects
objects_told t1 t2 disks x objects told h = record { stored = h.stored; held = retold Block x.table.slots t1 t2 disks x.space None x.cache h.stored told h.held; has = h.has }

-- ---- metadata is given back

live_apart : (r : Role) → is_live_role r ≡ true → may_change Meta r ≡ false
live_apart r is = grind (arith, nat_tests, is)

none_cached : (e : Cached) → Contains [] e → ⊥
none_cached e among = let lt = among.1 in omega (arith, lt)

-- an empty cache has nothing but what was read
pub none_read : (disks : List (List ℕ)) (slots : List (Option ℕ)) (s : Space) (k : Cache) → entries k ≡ [] → AreRead disks slots s k
none_read disks slots s k empty e among = absurd (none_cached e (subst (λ (them : List Cached). Contains them e) empty among))

not_held_live : (r : Role) → is_held_role r ≡ false → is_live_role r ≡ false
not_held_live r is = grind (arith, nat_tests, is)

-- the units in use by blocks are the same
live_given : (s t : Space) → KeepsOthers Meta s t → (d u : ℕ) → is_live_role (role_at t d u) ≡ is_live_role (role_at s d u)
live_given s t others d u = elim (cases_Bool (is_held_role (role_at s d u))) [
  | inl held ↦ ap is_live_role (others.stays d u (held_stays (role_at s d u) held))
  | inr free ↦ not_held_live (role_at t d u) (others.held d u ∙ free) ∙ sym (not_held_live (role_at s d u) free)
]

blocks_given : (slots : List (Option ℕ)) (tells : Type 0) (disks : List (List ℕ)) (s t : Space) (c k : Cache) (st : Stored) → KeepsOthers Meta s t → AreRead disks slots t k → HoldsBlocks Block slots tells disks s None c st → Now (HoldsBlocks Block slots tells disks t None k) (λ n. Swaps st n [] [])
blocks_given slots tells disks s t c k st others read held =
    let devices = rows_devices s t others.rows in
    let back : (list : List Dva) → Spends s list → Spends t list = λ list. spends_same s t list devices (λ d. (others.rows.each d).counts) others.marks in
    held_again Block slots tells tells disks disks s t None c k st held.told read
    (λ a is. record { used = use_along Block s t a devices (back (a ∷ [])) (λ d u led. others.stays d u (live_apart (role_at s d u) (is.used.used d u led))) is.used; whole = tt })
    (λ a is. ap (λ (ds : Devices). address_bytes (record { disks = disks; slots = slots; devices = ds }) a) devices)
    (λ d u. subst (λ (ds : Devices). live_hits ds (addresses_of st.pointers) d u ≤ 1) (sym devices) (held.once d u))
    (all_same s t (addresses_of st.pointers) devices (live_given s t others) (metadata_no_copy s t others) held.all)
    (back (addresses_of st.pointers) held.back)
    held

-- the disks hold the same objects where metadata is given back and nothing is cached
objects_uncached : (x : OpenPool) (given : Space) (k : Cache) → entries k ≡ [] → KeepsOthers Meta x.space given → (tells : Type 0) (disks : List (List ℕ)) (objects : Objects) → HoldsObjects tells disks x objects → HoldsObjects tells disks (record x { space = given; cache = k }) objects
objects_uncached x given k empty others tells disks objects holds =
    objects_stay x (record x { space = given; cache = k }) objects refl refl holds
    (blocks_given x.table.slots tells disks x.space given x.cache k holds.stored others (none_read disks x.table.slots given k empty) holds.held)

-- ---- the device is gone

-- those that were gone before went before this group
pub gone_before : (sizes : List ℕ) (x : OpenPool) (given : Space) (txg : ℕ) → IsOpen sizes x → KeepsRows x.space given → ArePast txg x.table.rows → (d : ℕ) → is_gone (state_of_dev given.parts.devs d) ≡ true → (part_of given.parts.devs d).row.gone < txg
gone_before sizes x given txg o rows past d gone =
    let same = (rows.each d).row in
    let there = gone_there x.space.parts.devs d (sym (ap (λ (r : DevRow). is_gone r.state) same) ∙ gone) in
    let count = o.devices in
    let size = o.table.size in
    let few = o.few in
    let known : d < x.table.count = omega (arith, there, count) in
    let before = (past d no_row (omega (arith, known, size, few))).gone in
    let is = ap (λ (r : DevRow). r.gone) (same ∙ o.rows d known) in
    omega (arith, before, is)

-- where no other device is leaving each copy is one of a unit of this one
pub source_here : (s : Space) (d : ℕ) → ((e : ℕ) → is_leaving (state_of_dev s.parts.devs e) ≡ true → e ≡ d) → (e v : ℕ) → is_copy_role (role_at s e v) ≡ true → HasSource s e v → (u : ℕ) × IsCopyAt s d u (e, v)
source_here s d alone e v copy from =
    let at : IsCopyAt s from.dev from.unit (e, v) = record { leaving = from.leaving; within = from.within; unmarked = from.unmarked; leads = from.leads; copy = copy } in
    (from.unit, subst (λ (k : ℕ). IsCopyAt s k from.unit (e, v)) (alone from.dev from.leaving) at)

-- behind metadata that was left on it, where the cache is emptied
pub objects_gone : (x y : OpenPool) (given : Space) (d txg : ℕ) → KeepsOthers Meta x.space given → MayGo given d txg → Finishes given y.space d txg → entries y.cache ≡ [] → y.table.slots ≡ x.table.slots → y.dir ≡ x.dir → y.group ≡ x.group
    → (tells : Type 0) (disks : List (List ℕ)) (objects : Objects) → HasCopies disks x → HoldsObjects tells disks x objects → HoldsObjects tells disks y objects
objects_gone x y given d txg others may done empty slots dir group tells disks objects copies holds =
    let mid : OpenPool = record x { space = given; cache = y.cache } in
    let first : HoldsObjects tells disks mid objects = objects_uncached x given y.cache empty others tells disks objects holds in
    let stand : CopiesStand disks x.table.slots given = copies_stay disks x.table.slots x.space given (metadata_no_copy x.space given others) copies in
    objects_stay mid y objects dir group first
    (subst (λ (those : List (Option ℕ)). Now (HoldsBlocks Block those tells disks y.space None y.cache) (λ n. Swaps first.stored n [] [])) (sym slots)
    (held_still given y.space d txg may done x.table.slots tells disks y.cache y.cache first.stored stand empty first.held))

-- ---- its disk is forgotten

-- no unit leads to a device that is gone
leads_there : (n : ℕ) (ds : Devices) (d u : ℕ) (p : Place) → resolve n ds d u ≡ Some p → is_gone (state_at ds p.0) ≡ false
leads_there zero ds d u p to = cc
leads_there (suc n) ds d u p to = by (is_gone (state_at ds d)) refl (λ q some. leads_there n ds q.0 q.1 p some)
  where
    followed : (o : Option Place) → option_and_then (λ (q : Place). resolve n ds q.0 q.1) o ≡ Some p → ((q : Place) → resolve n ds q.0 q.1 ≡ Some p → is_gone (state_at ds p.0) ≡ false) → is_gone (state_at ds p.0) ≡ false
    followed None none rest = cc
    followed (Some q) some rest = rest q some

    own : (b : Bool) → is_gone (state_at ds d) ≡ false → (if b then Some (d, u) else None) ≡ Some p → is_gone (state_at ds p.0) ≡ false
    own true stays same = let here : d ≡ p.0 = cc in subst (λ (k : ℕ). is_gone (state_at ds k) ≡ false) here stays
    own false stays none = cc

    step_gone : is_gone (state_at ds d) ≡ true → resolve (suc n) ds d u ≡ option_and_then (λ (q : Place). resolve n ds q.0 q.1) (target (ds.entries d) u)
    step_gone is = rw is refl

    step_there : is_gone (state_at ds d) ≡ false → resolve (suc n) ds d u ≡ (if is_there ds d u then Some (d, u) else None)
    step_there is = rw is refl

    by : (b : Bool) → is_gone (state_at ds d) ≡ b → ((q : Place) → resolve n ds q.0 q.1 ≡ Some p → is_gone (state_at ds p.0) ≡ false) → is_gone (state_at ds p.0) ≡ false
    by true is rest = followed (target (ds.entries d) u) (sym (step_gone is) ∙ to) rest
    by false is rest = own (is_there ds d u) is (sym (step_there is) ∙ to)

module _ (x y : OpenPool) (d : ℕ) (h : ForgetsSlot x y d) (gone : is_gone (state_of_dev x.space.parts.devs d) ≡ true) (disks : List (List ℕ)) where
  place_still : (o : Option Place) → ((p : Place) → o ≡ Some p → is_gone (state_of_dev x.space.parts.devs p.0) ≡ false) → place_bytes (view_of disks y.table.slots x.space) o ≡ place_bytes (view_of disks x.table.slots x.space) o
  place_still None there = refl
  place_still (Some p) there = ap (λ (slot : Option ℕ). unit_bytes disks slot p.1) (slot_stays x y d h gone p.0 (there p refl))

  units_still : (ps : List Place) → flat_map (place_bytes (view_of disks y.table.slots x.space)) (map (λ (p : Place). resolved (devices_in x.space) p.0 p.1) ps) ≡ flat_map (place_bytes (view_of disks x.table.slots x.space)) (map (λ (p : Place). resolved (devices_in x.space) p.0 p.1) ps)
  units_still [] = refl
  units_still (q ∷ qs) =
      let o = resolved (devices_in x.space) q.0 q.1 in
      let rest : List (Option Place) = map (λ (p : Place). resolved (devices_in x.space) p.0 p.1) qs in
      ap (λ (l : List ℕ). l ++ flat_map (place_bytes (view_of disks y.table.slots x.space)) rest) (place_still o (leads_there (devices_in x.space).count (devices_in x.space) q.0 q.1))
      ∙ ap (λ (l : List ℕ). place_bytes (view_of disks x.table.slots x.space) o ++ l) (units_still qs)

  pub address_still : (a : Dva) → address_bytes (view_of disks y.table.slots x.space) a ≡ address_bytes (view_of disks x.table.slots x.space) a
  address_still a = units_still (places_of a)

  blocks_still : (tells : Type 0) (st : Stored) → HoldsBlocks Block x.table.slots tells disks x.space None x.cache st → HoldsBlocks Block y.table.slots tells disks x.space None x.cache st
  blocks_still tells st held = record {
    told = held.told;
    settled = held.settled;
    read = λ e among. (let was = held.read e among in record { runs_of = was.runs_of; same = was.same ∙ sym (address_still e.0.pointer.at) });
    stored = held.stored;
    once = held.once;
    all = held.all;
    back = held.back;
    alone = held.alone;
    resolves = held.resolves;
    there = λ b is. held.there b is ∙ sym (address_still b.at);
    nothing = held.nothing;
  }

  -- the disks hold the same objects without it
  pub objects_forgotten : (tells : Type 0) (objects : Objects) → HoldsObjects tells disks x objects → HoldsObjects tells disks y objects
  objects_forgotten tells objects holds =
      let without : HoldsObjects tells disks (record x { table = y.table }) objects = record { stored = holds.stored; held = blocks_still tells holds.stored holds.held; has = holds.has } in
      subst (λ (p : OpenPool). HoldsObjects tells disks p objects) (sym h.rest) without
