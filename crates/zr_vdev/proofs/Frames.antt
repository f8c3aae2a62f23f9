-- What a store leaves of what a store of the other kind holds, and of the devices.
use Rattle.std.proofs.Common.{◌≡◌, ℕ, ◌*◌, ◌<◌, ◌≤◌, Bool, true, false, List, [], ◌∷◌, Option, Some, None, inl, inr, refl, sym, ◌∙◌, ap, subst, arith}
use Rattle.std.proofs.lemmas.Bool.Decides.{nat_tests}
use Rattle.zr_base.specs.declared.space.Dva.{Dva}
use Rattle.zr_shelf.specs.Counts.{Counts}
use Rattle.zr_shelf.specs.Disks.{Stand, PendingWrite, Meets, disk, part}
use Rattle.zr_shelf.specs.Moments.{World}
use Rattle.zr_shelf.specs.Doings.{Adds, WritesOnly}
use Rattle.zr_shelf.specs.Doings.Adds.{added_none, added}
use Rattle.zr_shelf.proofs.Doings.{added_throughout}
use Rattle.zr_label.specs.Geometry.{unit_at}
use Rattle.zr_chain.specs.Visits.{as_part}
use Rattle.zr_chain.proofs.Ways.{cases_bool}
use Rattle.zr_rules.specs.Places.{in_address}
use Rattle.zr_rules.specs.Devices.{Devices}
use Rattle.zr_rules.specs.Resolve.{leads_to}
use Rattle.zr_rules.specs.Roles.{Role, is_held_role, is_live_role}
use Rattle.zr_rules.specs.Space.{Space, role_at}
use Rattle.zr_rules.specs.Equation.{devices_in, live_hits}
use Rattle.zr_space.specs.Paths.{AreInService}
use Rattle.zr_store.specs.Store.{Stored, Swaps, Now}
use Rattle.zr_view.specs.Views.{slot_of, address_bytes}
use Rattle.zr_view.specs.Runs.{bytes_from, run_bytes}
use Rattle.zr_cache.specs.declared.table.Cache.{Cache}
use Rattle.zr_vdev.specs.declared.kind.Kind.{Kind}
use Rattle.zr_vdev.specs.declared.kind.Kind.TheVariants as kinds
use Rattle.zr_vdev.specs.Mounts.{AreMounted}
use Rattle.zr_vdev.specs.Stores.{IsAll, IsInUse, HoldsBlocks, MayGoBack, Continues, IsWriteInto, KeepsOthers, addresses_of, may_write, may_change}
use Rattle.zr_vdev.proofs.Overwriting.{untouched}
use Rattle.zr_vdev.proofs.Apart.{parts_apart}
use Rattle.zr_vdev.proofs.Uses.{is_of, use_roles, use_along}
use Rattle.zr_vdev.proofs.Back.{spends_same}
use Rattle.zr_vdev.proofs.Held.{one_unit, address_same, true_is_false}
use Rattle.zr_vdev.proofs.Moves.{held_again}
use Rattle.zr_vdev.proofs.Follows.{blocks_current, rows_devices}
use Rattle.zr_vdev.proofs.Alike.{held_stays, metadata_no_copy}
use Rattle.zr_vdev.proofs.Whole.{all_same, meta_same}

-- ---- devices

pub continues_devices : {kind : Kind} {slots : List (Option ℕ)} {n1 n2 : List ℕ} {c1 c2 : Counts} {t1 t2 : Type 0} {w1 w2 : World} (s t : Space) {k1 k2 : Cache} → Continues kind slots n1 n2 c1 c2 t1 t2 w1 w2 s t k1 k2 → devices_in t ≡ devices_in s
continues_devices s t h = rows_devices s t h.space.rows

pub continues_mounted : {kind : Kind} {slots : List (Option ℕ)} {n1 n2 : List ℕ} {c1 c2 : Counts} {t1 t2 : Type 0} {w1 w2 : World} (s t : Space) {k1 k2 : Cache} → Continues kind slots n1 n2 c1 c2 t1 t2 w1 w2 s t k1 k2
    → AreMounted n1 slots (devices_in s) → AreMounted n2 slots (devices_in t)
continues_mounted {kind} {slots} {n1} {n2} s t h mounted =
    subst (λ (n : List ℕ). AreMounted n slots (devices_in t)) (sym h.sizes) (subst (λ (ds : Devices). AreMounted n1 slots ds) (sym (rows_devices s t h.space.rows)) mounted)

pub continues_service : {kind : Kind} {slots : List (Option ℕ)} {n1 n2 : List ℕ} {c1 c2 : Counts} {t1 t2 : Type 0} {w1 w2 : World} (s t : Space) {k1 k2 : Cache} → Continues kind slots n1 n2 c1 c2 t1 t2 w1 w2 s t k1 k2
    → AreInService (devices_in s) → AreInService (devices_in t)
continues_service s t h on = subst AreInService (sym (rows_devices s t h.space.rows)) on

-- ---- bytes of units that may not be written

module _ (kind : Kind) (slots : List (Option ℕ)) (s : Space) (x : Dva) (some : 0 < x.len) (barred : (d u : ℕ) → in_address x d u ≡ true → may_write kind (role_at s d u) ≡ false) (apart : (d e slot : ℕ) → slot_of slots d ≡ Some slot → slot_of slots e ≡ Some slot → d ≡ e) where
  clear : (at : Dva) → ((u : ℕ) → in_address at at.dev u ≡ true → may_write kind (role_at s at.dev u) ≡ true) → (d u : ℕ) → in_address x d u ≡ true → in_address at d u ≡ false
  clear at may d u is = (elim (in_address at d u) as (λ (b : Bool). in_address at d u ≡ b → in_address at d u ≡ false) [
    | true ↦ λ both.
        let dev : d ≡ at.dev = grind (arith, nat_tests, both) in
        let own : in_address at at.dev u ≡ true = grind (arith, nat_tests, both) in
        let written = ap (λ (e : ℕ). may_write kind (role_at s e u)) dev ∙ may u own in
        absurd (true_is_false (may_write kind (role_at s d u)) written (barred d u is))
    | false ↦ λ out. out
  ]) refl

  not_met : (w : PendingWrite) (slot : ℕ) → IsWriteInto kind slots s w → slot_of slots x.dev ≡ Some slot → ¬ Meets w slot (unit_at x.start) (4096 * x.len)
  not_met w slot into there met =
      untouched slots into.at apart (as_part x) w slot into.is (parts_apart into.at x into.some some (clear into.at into.open_units)) there met

  step_kept : (slot : ℕ) → slot_of slots x.dev ≡ Some slot → (old new : Stand) → Adds (IsWriteInto kind slots s) old new → part (disk new.seen slot) (unit_at x.start) (4096 * x.len) ≡ part (disk old.seen slot) (unit_at x.start) (4096 * x.len)
  step_kept slot is old new (added_none same) = ap (λ (stand : Stand). part (disk stand.seen slot) (unit_at x.start) (4096 * x.len)) same
  step_kept slot is old new (added w may written) = written.seen.bytes slot (unit_at x.start) (4096 * x.len) (not_met w slot may is, tt)

  pub run_stays : (before now : World) → WritesOnly (IsWriteInto kind slots s) before now → run_bytes now.now.seen slots (as_part x) ≡ run_bytes before.now.seen slots (as_part x)
  run_stays before now writes = (elim (slot_of slots x.dev) as (λ o. slot_of slots x.dev ≡ o → bytes_from now.now.seen o x.start (4096 * x.len) ≡ bytes_from before.now.seen o x.start (4096 * x.len)) [
    | None ↦ λ is. refl
    | Some slot ↦ λ is.
        (added_throughout (λ stand. part (disk stand.seen slot) (unit_at x.start) (4096 * x.len) ≡ part (disk before.now.seen slot) (unit_at x.start) (4096 * x.len)) (IsWriteInto kind slots s)
        (λ old new step same. step_kept slot is old new step ∙ same) before now writes refl).1
  ]) refl

-- ---- the other kind

abbrev pub other : Kind → Kind
other kinds.Block = kinds.Meta
other kinds.Meta = kinds.Block

other_stays : (kind : Kind) (r : Role) → is_of kind r ≡ true → may_change (other kind) r ≡ false
other_stays kinds.Block r is = grind (arith, nat_tests, is)
other_stays kinds.Meta r is = grind (arith, nat_tests, is)

other_barred : (kind : Kind) (r : Role) → is_of kind r ≡ true → may_write (other kind) r ≡ false
other_barred kinds.Block r is = grind (arith, nat_tests, is)
other_barred kinds.Meta r is = grind (arith, nat_tests, is)

-- what may go back still may: metadata marks nothing, and passes nothing
beside_back : (kind : Kind) (s t : Space) → devices_in t ≡ devices_in s → KeepsOthers (other kind) s t → (list : List Dva) → MayGoBack kind s list → MayGoBack kind t list
beside_back kinds.Block s t devices others list back = spends_same s t list devices (λ d. (others.rows.each d).counts) others.marks back
beside_back kinds.Meta s t devices others list back = tt

not_held_live : (r : Role) → is_held_role r ≡ false → is_live_role r ≡ false
not_held_live r is = grind (arith, nat_tests, is)

-- units in use by blocks stay, and metadata makes none
beside_live : (s t : Space) → KeepsOthers kinds.Meta s t → (d u : ℕ) → is_live_role (role_at t d u) ≡ is_live_role (role_at s d u)
beside_live s t others d u = elim (cases_bool (is_held_role (role_at s d u))) [
  | inl held ↦ ap is_live_role (others.stays d u (held_stays (role_at s d u) held))
  | inr free ↦ not_held_live (role_at t d u) (others.held d u ∙ free) ∙ sym (not_held_live (role_at s d u) free)
]

-- so they are still all
beside_all : (kind : Kind) (s t : Space) → devices_in t ≡ devices_in s → KeepsOthers (other kind) s t → (list : List Dva) → IsAll kind s list → IsAll kind t list
beside_all kinds.Block s t devices others list all = all_same s t list devices (beside_live s t others) (metadata_no_copy s t others) all
beside_all kinds.Meta s t devices others list all = meta_same s t list devices (blocks_current s t others) all

-- what is held of one kind is held still once a store of the other kind has done its calls
pub held_beside : (kind : Kind) (slots : List (Option ℕ)) (n1 n2 : List ℕ) (c1 c2 : Counts) (t1 t2 : Type 0) (w1 w2 : World) (s t : Space) (lost : Option Dva) (k1 k2 : Cache) (st : Stored)
    → ((d e slot : ℕ) → slot_of slots d ≡ Some slot → slot_of slots e ≡ Some slot → d ≡ e) → Continues (other kind) slots n1 n2 c1 c2 t1 t2 w1 w2 s t k1 k2
    → HoldsBlocks kind slots t1 w1.now.seen s lost k1 st → Now (HoldsBlocks kind slots t2 w2.now.seen t None k2) (λ n. Swaps st n [] [])
held_beside kind slots n1 n2 c1 c2 t1 t2 w1 w2 s t lost k1 k2 st apart went held =
    let devices = rows_devices s t went.space.rows in
    let back = beside_back kind s t devices went.space in
    held_again kind slots t1 t2 w1.now.seen w2.now.seen s t lost k1 k2 st (went.told held.told) (went.read held.told held.read)
    (λ x h. record { used = use_along kind s t x devices (back (x ∷ [])) (λ d u led. went.space.stays d u (other_stays kind (role_at s d u) (use_roles kind s x h.used d u led))) h.used; whole = tt })
    (λ x h.
    ap (λ (ds : Devices). address_bytes (record { disks = w2.now.seen; slots = slots; devices = ds }) x) devices
    ∙ address_same slots (devices_in s) w1.now.seen w2.now.seen x (λ d u led. run_stays (other kind) slots s (one_unit d u) (omega arith) (unit_barred kind s x h.used d u led) apart w1 w2 (went.written held.told)))
    (λ d u. subst (λ (ds : Devices). live_hits ds (addresses_of st.pointers) d u ≤ 1) (sym devices) (held.once d u))
    (beside_all kind s t devices went.space (addresses_of st.pointers) held.all)
    (back (addresses_of st.pointers) held.back)
    held
  where
    unit_barred : (kind : Kind) (s : Space) (x : Dva) → IsInUse kind s x → (d u : ℕ) → leads_to (devices_in s) x d u ≡ true → (e v : ℕ) → in_address (one_unit d u) e v ≡ true → may_write (other kind) (role_at s e v) ≡ false
    unit_barred kind s x used d u led e v is =
        let dev : e ≡ d = grind (arith, nat_tests, is) in
        let unit : v ≡ u = grind (arith, nat_tests, is) in
        ap (λ (y : ℕ). may_write (other kind) (role_at s y v)) dev ∙ (ap (λ (w : ℕ). may_write (other kind) (role_at s d w)) unit ∙ other_barred kind (role_at s d u) (use_roles kind s x used d u led))

-- so it is where all devices are in service, of which nothing is asked
pub held_over : (kind : Kind) (slots : List (Option ℕ)) (n1 n2 : List ℕ) (c1 c2 : Counts) (t1 t2 : Type 0) (w1 w2 : World) (s t : Space) (lost : Option Dva) (k1 k2 : Cache) (st : Stored)
    → AreInService (devices_in s) → ((d e slot : ℕ) → slot_of slots d ≡ Some slot → slot_of slots e ≡ Some slot → d ≡ e) → Continues (other kind) slots n1 n2 c1 c2 t1 t2 w1 w2 s t k1 k2
    → HoldsBlocks kind slots t1 w1.now.seen s lost k1 st → Now (HoldsBlocks kind slots t2 w2.now.seen t None k2) (λ n. Swaps st n [] [])
held_over kind slots n1 n2 c1 c2 t1 t2 w1 w2 s t lost k1 k2 st on apart went held =
    held_beside kind slots n1 n2 c1 c2 t1 t2 w1 w2 s t lost k1 k2 st apart went held
