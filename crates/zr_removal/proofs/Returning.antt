-- A device that comes back into service is read as before, and no more is given back than copies and metadata: the disks hold the same objects, and show the last root.
use Rattle.std.proofs.Common.{◌≡◌, ◌∙◌, inl, inr, ℕ, ◌+◌, ◌<◌, Bool, true, false, List, [], map, length, Option, Some, None, refl, sym, ap, subst, arith}
use Rattle.std.specs.Prelude.{◌||◌, IfSome, slice_index_or}
use Rattle.std.proofs.lemmas.Bool.Decides.{nat_tests}
use Rattle.zr_base.specs.Extents.{has_unit}
use Rattle.zr_base.specs.declared.space.DevRow.{DevRow}
use Rattle.zr_base.specs.declared.space.DevState.{DevState}
use Rattle.zr_base.specs.declared.space.DevState.TheVariants.{On}
use Rattle.zr_base.specs.declared.space.Extent.{Extent}
use Rattle.zr_label.specs.Blocks.{no_row}
use Rattle.zr_last.proofs.Lasting.{units_last}
use Rattle.zr_last.specs.Last.{KeepsDevices, KeepsLast}
use Rattle.zr_model.specs.Objects.{Objects}
use Rattle.zr_rules.specs.Places.{is_gone, is_leaving, state_of_dev}
use Rattle.zr_rules.specs.Roles.{Role, given_up, is_copy_role, is_free_role, is_held_role, is_live_role, is_meta_role}
use Rattle.zr_rules.specs.Space.{Space, role_at}
use Rattle.zr_rules.specs.Steps.{Cancels}
use Rattle.zr_shelf.proofs.Doings.{writes_more}
use Rattle.zr_shelf.specs.Counts.{Counts}
use Rattle.zr_shelf.specs.Doings.{WritesOnly}
use Rattle.zr_shelf.specs.Moments.{World}
use Rattle.zr_store.specs.Store.{Now, Swaps}
use Rattle.zr_sync.proofs.Stays.{objects_stay}
use Rattle.zr_sync.specs.Commits.{IsNextRoot, IsShownFrom}
use Rattle.zr_sync.specs.Leads.{CommitsObjects}
use Rattle.zr_sync.specs.Objects.{HoldsObjects}
use Rattle.zr_sync.specs.Pools.{IsOpen, IsSamePool}
use Rattle.zr_sync.specs.Writes.{WritesIntoFree}
use Rattle.zr_sync.specs.declared.open.OpenPool.{OpenPool}
use Rattle.zr_sync.specs.declared.open.Table.{Table}
use Rattle.zr_vdev.proofs.Follows.{widen}
use Rattle.zr_vdev.proofs.Frames.{held_beside}
use Rattle.zr_vdev.specs.Caches.{AreRead}
use Rattle.zr_vdev.specs.Copies.{IsWriteIntoFree}
use Rattle.zr_vdev.specs.Puts.{IsWriteOf}
use Rattle.zr_vdev.specs.Stores.{HoldsBlocks, IsWriteInto, KeepsOthers, is_open_role}
use Rattle.zr_vdev.specs.declared.kind.Kind.TheVariants.{Block, Meta}
use Rattle.zr_view.specs.Views.{slot_of}
use Rattle.zr_removal.specs.Rows.{with_row}
use Rattle.zr_removal.specs.Streams.{GivesStreams}
use Rattle.zr_removal.specs.Turns.{CancelsInPart, CancelsSpace, ComesBack}
use Rattle.zr_removal.proofs.Outgoing.{KeepsUsed, TurnsOne, into_free, objects_tried, objects_turned, turned_devices, turned_last}
use Rattle.zr_removal.proofs.Turned.{leaving_is, leaving_there}

-- ---- roles

live_kept : (r : Role) → is_live_role r ≡ true → is_live_role (given_up r) ≡ true
live_kept r is = grind (arith, nat_tests, is)

free_before : (r : Role) → is_free_role (given_up r) ≡ true → is_open_role r ≡ true
free_before r is = grind (arith, nat_tests, is)

-- a unit may be written behind a removal that is given up where it might be before
pub open_before : (r : Role) → is_open_role (given_up r) ≡ true → is_open_role r ≡ true
open_before r is = grind (arith, nat_tests, is)

-- and no less
pub open_still : (r : Role) → is_open_role r ≡ true → is_open_role (given_up r) ≡ true
open_still r is = grind (arith, nat_tests, is)

-- ---- the device is back in service

-- a device that is leaving is there
pub there_still : (s : DevState) → is_leaving s ≡ true → is_gone s ≡ false
there_still s is = ap (λ (state : DevState). is_gone state) (leaving_is s is)

pub cancels_one : (s t : Space) (d : ℕ) → Cancels s t d → is_leaving (state_of_dev s.parts.devs d) ≡ true → TurnsOne s t d
cancels_one s t d h leaving = record {
  was = there_still (state_of_dev s.parts.devs d) leaving;
  is = ap (λ (r : DevRow). is_gone r.state) h.row_is;
  units = ap (λ (r : DevRow). r.units) h.row_is;
  fresh = λ u none. ap (λ (list : List Extent). has_unit list u) h.fresh;
  live = λ e u is. ap (λ (r : Role). is_live_role r) (h.roles e u) ∙ live_kept (role_at s e u) is;
  elsewhere = h.elsewhere;
}

live_before : (r : Role) → is_live_role (given_up r) ≡ true → is_live_role r ≡ true
live_before r is = grind (arith, nat_tests, is)

no_copy : (r : Role) → is_copy_role (given_up r) ≡ false
no_copy r = grind (arith)

-- no unit is a copy any more
cancels_used : (s t : Space) (d : ℕ) → Cancels s t d → KeepsUsed s t
cancels_used s t d h = record {
  live = λ e u is. live_before (role_at s e u) (sym (ap (λ (r : Role). is_live_role r) (h.roles e u)) ∙ is);
  copied = λ e u p copy. absurd (let no_way : false ≡ true = sym (ap (λ (r : Role). is_copy_role r) (h.roles p.0 p.1) ∙ no_copy (role_at s p.0 p.1)) ∙ copy.copy in cc);
}

pub objects_returned : (x y : OpenPool) (d : ℕ) → CancelsSpace x y d → is_leaving (state_of_dev x.space.parts.devs d) ≡ true → (t : Type 0) (disks : List (List ℕ)) (objects : Objects) → HoldsObjects t disks x objects → HoldsObjects t disks y objects
objects_returned x y d h leaving t disks objects holds =
    objects_turned x y d (cancels_one x.space y.space d h.cancels leaving) (cancels_used x.space y.space d h.cancels) (ap (λ (w : Table). w.slots) h.table) (ap (λ (p : OpenPool). p.cache) h.rest) (ap (λ (p : OpenPool). p.dir) h.rest) (ap (λ (p : OpenPool). p.group) h.rest) t disks objects holds

-- ---- metadata is given back

-- what is held of blocks is held still once metadata was given back
pub objects_given : (n1 n2 : List ℕ) (c1 c2 : Counts) (t1 t2 : Type 0) (w1 w2 : World) (x y : OpenPool) (objects : Objects) → ((d e slot : ℕ) → slot_of x.table.slots d ≡ Some slot → slot_of x.table.slots e ≡ Some slot → d ≡ e)
    → GivesStreams n1 n2 c1 c2 t1 t2 w1 w2 x y → HoldsObjects t1 w1.now.seen x objects → HoldsObjects t2 w2.now.seen y objects
objects_given n1 n2 c1 c2 t1 t2 w1 w2 x y objects apart gave holds =
    objects_stay x y objects (ap (λ (p : OpenPool). p.dir) gave.rest) (ap (λ (p : OpenPool). p.group) gave.rest) holds
    (subst (λ (w : Table). Now (HoldsBlocks Block w.slots t2 w2.now.seen y.space None y.cache) (λ n. Swaps holds.stored n [] [])) (sym (ap (λ (p : OpenPool). p.table) gave.rest))
    (held_beside Block x.table.slots n1 n2 c1 c2 t1 t2 w1 w2 x.space y.space None x.cache y.cache holds.stored apart gave.goes holds.held))

-- what is free behind a removal that is given up was free before, or a copy of the group's own
pub written_back : (x y : OpenPool) (d : ℕ) (before now : World) → CancelsSpace x y d → WritesOnly (IsWriteInto Meta y.table.slots y.space) before now → WritesIntoFree x before now
written_back x y d before now h wrote =
    widen (IsWriteInto Meta y.table.slots y.space) (IsWriteInto Block x.table.slots x.space)
    (λ w into. record {
      at = into.at;
      is = subst (λ (slots : List (Option ℕ)). IsWriteOf slots into.at w) (ap (λ (t : Table). t.slots) h.table) into.is;
      some = into.some;
      open_units = λ u inside. free_before (role_at x.space into.at.dev u) (sym (ap (λ (r : Role). is_free_role r) (h.cancels.roles into.at.dev u)) ∙ into.open_units u inside);
    })
    before now wrote

-- ---- its devices

-- a device that is leaving is one of the pool's
pub leaving_known : (sizes : List ℕ) (x : OpenPool) (d : ℕ) → IsOpen sizes x → is_leaving (state_of_dev x.space.parts.devs d) ≡ true → d < x.table.count
leaving_known sizes x d was leaving = let there = leaving_there x.space.parts.devs d leaving in let count = was.devices in omega (arith, there, count)

-- each is where it was
pub back_devices : (sizes : List ℕ) (x y : OpenPool) (d : ℕ) → IsOpen sizes x → is_leaving (state_of_dev x.space.parts.devs d) ≡ true → ComesBack x y d → KeepsDevices x y
back_devices sizes x y d was leaving h =
    turned_devices sizes x y d On h.table (sym (there_still (state_of_dev x.space.parts.devs d) leaving)) (leaving_known sizes x d was leaving) was (ap (λ (p : OpenPool). p.last) h.rest) (ap (λ (p : OpenPool). p.guid) h.rest)

-- ---- what may be written

-- where metadata is given back, no unit may be written that might not before
still_open : (r q : Role) → ((is_free_role r || is_meta_role r) ≡ false → q ≡ r) → is_held_role q ≡ is_held_role r → (is_free_role q ≡ true → is_free_role r ≡ true) → is_open_role q ≡ true → is_open_role r ≡ true
still_open r q stays held free is = by_change (is_free_role r || is_meta_role r) refl
  where
    free_open : (t : Role) → is_free_role t ≡ true → is_open_role t ≡ true
    free_open t was = grind (arith, nat_tests, was)

    by_free : (b : Bool) → is_free_role q ≡ b → (is_free_role r || is_meta_role r) ≡ true → is_open_role r ≡ true
    by_free true now changes = free_open r (free now)
    by_free false now changes = grind (arith, nat_tests, now, is, held, changes)

    by_change : (b : Bool) → (is_free_role r || is_meta_role r) ≡ b → is_open_role r ≡ true
    by_change false same = ap is_open_role (sym (stays same)) ∙ is
    by_change true changes = by_free (is_free_role q) refl changes

given_open : (s t : Space) → KeepsOthers Meta s t → (e u : ℕ) → is_open_role (role_at t e u) ≡ true → is_open_role (role_at s e u) ≡ true
given_open s t h e u is = still_open (role_at s e u) (role_at t e u) (h.stays e u) (h.held e u) (h.writable e u) is

-- so it is where the device has come back
pub back_open : (x y : OpenPool) (d : ℕ) → ComesBack x y d → (e u : ℕ) → is_open_role (role_at y.space e u) ≡ true → is_open_role (role_at x.space e u) ≡ true
back_open x y d h e u is = open_before (role_at x.space e u) (subst (λ (r : Role). is_open_role r ≡ true) (h.cancels.roles e u) (given_open h.back y.space h.streams e u is))

-- ---- the last root

-- a commit behind which the device is back in service shows its root, where the last one was the newest
pub back_last : (sizes first behind : List ℕ) (x y z : OpenPool) (d : ℕ) (before mid now : World) → IsOpen sizes x → is_leaving (state_of_dev x.space.parts.devs d) ≡ true → ComesBack x y d → map length before.now.seen ≡ sizes → WritesIntoFree x before mid
    → IsOpen first y → IsOpen behind z → map length mid.now.seen ≡ first → z.group.txg ≡ y.group.txg + 1 → IfSome z.last (IsNextRoot y true) → IfSome z.last (λ u. (middle : World) × WritesIntoFree y mid middle × IsShownFrom first y u middle now) → IsSamePool y z
    → KeepsLast before now x z
back_last sizes first behind x y z d before mid now was leaving comes sized written ready later resized txg next wrote same h =
    turned_last first behind x y z mid now (back_devices sizes x y d was leaving comes) (ap (λ (p : OpenPool). p.group.txg) comes.rest) was.after ready later resized txg next wrote same
    (units_last sizes x x before mid was sized written (record { last = refl; guid = refl; table = refl }) h)

-- ---- wherever it stops

-- the pool to which the device has come back is being committed
pub stops_back : (sizes first : List ℕ) (objects : Objects) (x y : OpenPool) (d : ℕ) (before mid now : World) → first ≡ sizes → is_leaving (state_of_dev x.space.parts.devs d) ≡ true → IsOpen first y → ComesBack x y d → WritesIntoFree x before mid → CommitsObjects ⊥ first y true objects mid now → CancelsInPart sizes objects x before now
stops_back sizes first objects x y d before mid now same leaving ready comes written commits =
    inr (record {
      dev = d;
      leaving = leaving;
      back = y;
      ready = subst (λ (n : List ℕ). IsOpen n y) same ready;
      comes = comes;
      start = mid;
      written = written;
      commits = subst (λ (n : List ℕ). CommitsObjects ⊥ n y true objects mid now) same commits;
    })

-- a device comes back to a pool as to one that has cached something else
comes_uncached : (x y z : OpenPool) (d : ℕ) → y ≡ record x { cache = y.cache } → ComesBack y z d → ComesBack x z d
comes_uncached x y z d same h = record {
  back = h.back;
  cancels = subst (λ (p : OpenPool). Cancels p.space h.back d) same h.cancels;
  streams = h.streams;
  table = subst (λ (p : OpenPool). z.table ≡ with_row p.table d (record (slice_index_or p.table.rows d no_row) { state = On })) same h.table;
  rest = subst (λ (p : OpenPool). z ≡ record p { space = z.space; table = z.table; cache = z.cache; streams = z.streams; cond = z.cond }) same h.rest;
}

-- where no more was written before than free units, and the cache alone changed, the giving up stops as from before
pub stops_after : (sizes first : List ℕ) (objects : Objects) (x y : OpenPool) (before mid now : World) → first ≡ sizes → y ≡ record x { cache = y.cache } → WritesIntoFree x before mid → CancelsInPart first objects y mid now → CancelsInPart sizes objects x before now
stops_after sizes first objects x y before mid now sized same wrote (inl more) =
    inl (writes_more (IsWriteInto Block x.table.slots x.space) before mid now wrote (subst (λ (p : OpenPool). WritesOnly (IsWriteInto Block p.table.slots p.space) mid now) same more))
stops_after sizes first objects x y before mid now sized same wrote (inr b) =
    stops_back sizes first objects x b.back b.dev before b.start now sized
    (subst (λ (p : OpenPool). is_leaving (state_of_dev p.space.parts.devs b.dev) ≡ true) same b.leaving) b.ready (comes_uncached x y b.back b.dev same b.comes)
    (writes_more (IsWriteInto Block x.table.slots x.space) before mid b.start wrote (subst (λ (p : OpenPool). WritesOnly (IsWriteInto Block p.table.slots p.space) mid b.start) same b.written)) b.commits

-- so where a copy failed before it, and nothing of the pool changed but its cache
pub stops_tried : (sizes first : List ℕ) (t1 t2 : Type 0) (objects : Objects) (x tried : OpenPool) (before mid now : World) → IsOpen sizes x → first ≡ sizes → tried.space ≡ x.space → tried ≡ record x { space = tried.space; cache = tried.cache } → (t1 → WritesOnly (IsWriteIntoFree x.table.slots x.space) before mid)
    → (t1 → AreRead before.now.seen x.table.slots x.space x.cache → AreRead mid.now.seen x.table.slots tried.space tried.cache) → (t1 → t2) → HoldsObjects t1 before.now.seen x objects → (HoldsObjects t2 mid.now.seen tried objects → CancelsInPart first objects tried mid now) → CancelsInPart sizes objects x before now
stops_tried sizes first t1 t2 objects x tried before mid now ready sized space rest wrote read tells h stops =
    let told = h.held.told in
    let same : tried ≡ record x { cache = tried.cache } = rest ∙ ap (λ (s : Space). record x { space = s; cache = tried.cache }) space in
    let held = objects_tried x tried t1 t2 before mid objects ready.mounted.apart (wrote told) (λ are. subst (λ (s : Space). AreRead mid.now.seen x.table.slots s tried.cache) space (read told are)) same (tells told) h in
    stops_after sizes first objects x tried before mid now sized same (into_free x.table.slots x.space before mid (wrote told)) (stops held)
