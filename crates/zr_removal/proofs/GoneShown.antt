-- Behind the end of a removal the disks show the pool's root: each device that is still there is in the slot in which it was, and the one that is gone has none.
use Rattle.std.proofs.Common.{◌≡◌, ◌≢◌, ◌∙◌, ◌⊎◌, inl, inr, ℕ, ◌+◌, ◌<◌, Bool, true, false, List, length, map, Option, Some, None, refl, sym, ap, subst, arith}
use Rattle.std.specs.Prelude.{◌==◌, IfSome, if◌then◌else◌, slice_index_or, slice_set, unwrap_or}
use Rattle.std.specs.List.{position}
use Rattle.std.proofs.lemmas.Bool.{cases_eq}
use Rattle.std.proofs.lemmas.Bool.Decides.{nat_tests}
use Rattle.std.proofs.lemmas.List.{get_or-set_same, get_or-set_other}
use Rattle.zr_base.specs.declared.space.DevRow.{DevRow}
use Rattle.zr_base.specs.declared.space.DevState.TheVariants.{Gone}
use Rattle.zr_current.specs.Current.{GoesOnFrom}
use Rattle.zr_image.specs.Current.{is_device, row_at, slots_of}
use Rattle.zr_label.specs.Blocks.{no_row}
use Rattle.zr_label.specs.declared.root.Seen.{Seen}
use Rattle.zr_label.specs.declared.root.Uber.{Uber}
use Rattle.zr_last.proofs.Lasting.{publishes}
use Rattle.zr_last.proofs.Units.{rings_kept, sized_now}
use Rattle.zr_last.specs.Last.{ShowsLast}
use Rattle.zr_newest.proofs.Kept.{labels_on, root_kept}
use Rattle.zr_newest.proofs.Newest.{above_newest, devices_own}
use Rattle.zr_newest.proofs.Seen.{listed, past_device}
use Rattle.zr_newest.specs.Newest.{AreAt, HasOwnDevices, IsAbove}
use Rattle.zr_rules.specs.Places.{is_gone}
use Rattle.zr_rules.specs.Roles.{Role, is_free_role, is_meta_role, taken_over}
use Rattle.zr_rules.specs.Roles.Role.{Absent, DeferredMeta}
use Rattle.zr_rules.specs.Space.{role_at}
use Rattle.zr_shelf.specs.Doings.{WritesOnly}
use Rattle.zr_shelf.specs.Moments.{World}
use Rattle.zr_slots.specs.Tables.{IsSlotInBoth, is_concrete_in}
use Rattle.zr_sync.specs.Commits.{IsNextRoot, IsShownFrom}
use Rattle.zr_sync.specs.Pools.{IsAfter, IsOpen, IsSamePool}
use Rattle.zr_sync.specs.Writes.{WritesIntoFree}
use Rattle.zr_sync.specs.declared.open.OpenPool.{OpenPool}
use Rattle.zr_sync.specs.declared.open.Table.{Table}
use Rattle.zr_vdev.proofs.Follows.{widen}
use Rattle.zr_vdev.specs.Puts.{IsWriteOf}
use Rattle.zr_vdev.specs.Stores.{IsWriteInto, is_open_role}
use Rattle.zr_vdev.specs.declared.kind.Kind.TheVariants.{Block, Meta}
use Rattle.zr_view.specs.Views.{slot_of}
use Rattle.zr_removal.specs.Rows.{without_slot}
use Rattle.zr_removal.specs.Turns.{FinishesSpace, ForgetsSlot, Vanishes}

-- ---- what is written before the commit

-- what is free behind the end was free before
free_taken : (b : Bool) (r : Role) → is_free_role (if b then Absent else taken_over r) ≡ true → is_free_role r ≡ true
free_taken b r is = grind (arith, nat_tests, is)

free_open : (r : Role) → is_free_role r ≡ true → is_open_role r ≡ true
free_open r is = grind (arith, nat_tests, is)

pub written_gone : (x y : OpenPool) (d : ℕ) (before now : World) → FinishesSpace x y d → WritesOnly (IsWriteInto Meta y.table.slots y.space) before now → WritesIntoFree x before now
written_gone x y d before now h wrote =
    widen (IsWriteInto Meta y.table.slots y.space) (IsWriteInto Block x.table.slots x.space)
    (λ w into. record {
      at = into.at;
      is = subst (λ (slots : List (Option ℕ)). IsWriteOf slots into.at w) (ap (λ (t : Table). t.slots) h.table) into.is;
      some = into.some;
      open_units = λ u inside. open_given into.at.dev u (sym (ap is_free_role (h.finishes.roles into.at.dev u)) ∙ into.open_units u inside);
    })
    before now wrote
  where
    by_role : (e u : ℕ) → is_free_role (role_at h.given e u) ≡ true → (role_at h.given e u ≡ role_at x.space e u) ⊎ ((is_meta_role (role_at x.space e u) ≡ true) × (role_at h.given e u ≡ DeferredMeta)) → is_open_role (role_at x.space e u) ≡ true
    by_role e u is (inl same) = free_open (role_at x.space e u) (sym (ap is_free_role same) ∙ is)
    by_role e u is (inr given) = let no_way : false ≡ true = sym (ap is_free_role given.1) ∙ is in absurd cc

    open_given : (e u : ℕ) → is_free_role (if e == d then Absent else taken_over (role_at h.given e u)) ≡ true → is_open_role (role_at x.space e u) ≡ true
    open_given e u is = by_role e u (free_taken (e == d) (role_at h.given e u) is) (h.gives.roles e u)

-- ---- the devices of the next root

-- The device is gone in the next root of the pool, and has no disk in the table: each other has its row and its slot.
module _ (sizes : List ℕ) (x y w : OpenPool) (d : ℕ) (was : IsOpen sizes x) (v : Vanishes x y d) (known : d < x.table.count) (table : w.table ≡ without_slot y.table d) (u : Uber) (next : IsNextRoot y true u) where
  abbrev gone_row : DevRow
  gone_row = record (slice_index_or x.table.rows d no_row) { state = Gone; gone = x.group.txg }

  rows_are : u.rows ≡ slice_set x.table.rows d gone_row
  rows_are = next.rows ∙ ap (λ (t : Table). t.rows) v.table

  count_is : u.count ≡ x.table.count
  count_is = next.count ∙ ap (λ (t : Table). t.count) v.table

  slots_are : w.table.slots ≡ slice_set x.table.slots d None
  slots_are = ap (λ (t : Table). t.slots) table ∙ ap (λ (t : Table). slice_set t.slots d None) v.table

  row_here : is_gone (row_at u d).state ≡ true
  row_here =
      let size = was.table.size in let few = was.few in
      ap (λ (rs : List DevRow). is_gone (slice_index_or rs d no_row).state) rows_are
      ∙ ap (λ (r : DevRow). is_gone r.state) (get_or-set_same x.table.rows d gone_row no_row (omega (arith, known, size, few)))

  row_else : (e : ℕ) → e ≢ d → row_at u e ≡ slice_index_or x.table.rows e no_row
  row_else e other = ap (λ (rs : List DevRow). slice_index_or rs e no_row) rows_are ∙ get_or-set_other x.table.rows d e gone_row no_row other

  slot_here : slot_of w.table.slots d ≡ None
  slot_here =
      let size = was.slots in let few = was.few in
      ap (λ (slots : List (Option ℕ)). slot_of slots d) slots_are ∙ get_or-set_same x.table.slots d None None (omega (arith, known, size, few))

  slot_else : (e : ℕ) → e ≢ d → slot_of w.table.slots e ≡ slot_of x.table.slots e
  slot_else e other = ap (λ (slots : List (Option ℕ)). slot_of slots e) slots_are ∙ get_or-set_other x.table.slots d e None None other

  -- a device that is there is another
  is_other : (e : ℕ) → is_gone (row_at u e).state ≡ false → e ≢ d
  is_other e there here = let no_way : false ≡ true = sym there ∙ subst (λ (k : ℕ). is_gone (row_at u k).state ≡ true) (sym here) row_here in absurd cc

  module _ (root : Uber) (from : GoesOnFrom root x) (seen : List Seen) (are : AreAt x.table.slots root seen) where
    row_from : (e : ℕ) → e ≢ d → row_at root e ≡ row_at u e
    row_from e other = ap (λ (rs : List DevRow). slice_index_or rs e no_row) (sym from.rows) ∙ sym (row_else e other)

    -- a device of the last root that is gone has no slot
    gone_slot : (e : ℕ) → e < root.count → is_gone (row_at root e).state ≡ true → slot_of x.table.slots e ≡ None
    gone_slot e some gone = are e ∙ (listed root seen e some ∙ ap (λ (b : Bool). if b then None else position (λ (s : Seen). is_device root e s.label) seen) gone)

    counts : u.count ≡ root.count
    counts = count_is ∙ from.count

    own_devices : HasOwnDevices root u x.table.slots w.table.slots
    own_devices = record {
      guid = next.guid ∙ (ap (λ (p : OpenPool). p.guid) v.rest ∙ from.guid);
      there = λ e some there.
          let other = is_other e there in
          let many = counts in
          (omega (arith, some, many), row_from e other, slot_else e other);
      gone = λ e some gone. by_device e some gone (cases_eq e d);
      past = λ e past.
          let many = counts in let mine = count_is in
          slot_else e (λ here. (let lt = known in omega (arith, here, lt, past, mine))) ∙ (are e ∙ past_device root seen e (omega (arith, past, many)));
    }
      where
        by_device : (e : ℕ) → e < u.count → is_gone (row_at u e).state ≡ true → (e ≡ d) ⊎ (e ≢ d) → slot_of w.table.slots e ≡ None
        by_device e some gone (inl here) = ap (slot_of w.table.slots) here ∙ slot_here
        by_device e some gone (inr other) =
            let many = counts in
            slot_else e other ∙ gone_slot e (omega (arith, some, many)) (ap (λ (r : DevRow). is_gone r.state) (row_from e other) ∙ gone)

    pub own_places : AreAt w.table.slots u seen
    own_places = devices_own root u x.table.slots w.table.slots seen are own_devices

  -- ---- the slots of the root

  concrete_there : (e : ℕ) → is_concrete_in u e ≡ true → is_gone (row_at u e).state ≡ false
  concrete_there e is = grind (arith, nat_tests, is)

  same_slot : (e : ℕ) → is_concrete_in u e ≡ true → slot_of w.table.slots e ≡ slot_of y.table.slots e
  same_slot e is = slot_else e (is_other e (concrete_there e is)) ∙ ap (λ (t : Table). slot_of t.slots e) (sym v.table)

  without : (last : Uber) (slot : ℕ) → IsSlotInBoth last u y.table.slots slot → IsSlotInBoth last u w.table.slots slot
  without last slot h = record { index = h.index; known = h.known; at_index = record { in_last = h.at_index.in_last; in_root = h.at_index.in_root; here = same_slot h.index h.at_index.in_root ∙ h.at_index.here } }

  within : (last : Uber) (slot : ℕ) → IsSlotInBoth last u w.table.slots slot → IsSlotInBoth last u y.table.slots slot
  within last slot h = record { index = h.index; known = h.known; at_index = record { in_last = h.at_index.in_last; in_root = h.at_index.in_root; here = sym (same_slot h.index h.at_index.in_root) ∙ h.at_index.here } }

  -- the root stands in the same slots, since the device that is gone has none by it
  pub shown_without : (now_sizes : List ℕ) (start now : World) → IsShownFrom now_sizes y u start now → IsShownFrom now_sizes (record w { last = y.last }) u start now
  shown_without now_sizes start now h = record {
    both = h.both;
    all = h.all;
    in_both = λ slot among. without (unwrap_or y.last u) slot (h.in_both slot among);
    all_both = λ slot is. h.all_both slot (within (unwrap_or y.last u) slot is);
    in_all = λ slot among. without u slot (h.in_all slot among);
    all_all = λ slot is. h.all_all slot (within u slot is);
    published = h.published;
  }

-- ---- the last root

-- A commit behind which a device is gone shows its root, where the last one was the newest.
module _ (sizes first : List ℕ) (x y z w : OpenPool) (d : ℕ) (before mid now : World) (was : IsOpen sizes x) (known : d < x.table.count) (v : Vanishes x y d) (sized : map length before.now.seen ≡ sizes) (written : WritesIntoFree x before mid) (ready : IsOpen first y) (resized : map length mid.now.seen ≡ first)
    (txg : z.group.txg ≡ y.group.txg + 1) (next : IfSome z.last (IsNextRoot y true)) (wrote : IfSome z.last (λ u. (start : World) × WritesIntoFree y mid start × IsShownFrom first y u start now)) (same : IsSamePool y z) (forgets : ForgetsSlot z w d) (left : IsOpen first w) (h : ShowsLast before.now.seen x) where
  table_is : w.table ≡ without_slot y.table d
  table_is = forgets.table ∙ ap (λ (t : Table). without_slot t d) same.table

  last_is : w.last ≡ z.last
  last_is = ap (λ (p : OpenPool). p.last) forgets.rest

  root_of : (o : Option Uber) → w.last ≡ o → IsAfter o w.group.txg → IfSome o (IsNextRoot y true) → IfSome o (λ u. (start : World) × WritesIntoFree y mid start × IsShownFrom first y u start now) → ShowsLast now.now.seen w
  root_of None is after n s = absurd (let first = ready.first in let group = txg in let kept = ap (λ (p : OpenPool). p.group.txg) forgets.rest in omega (arith, after, first, group, kept))
  root_of (Some u) is after n s =
      let start = s.0 in
      let mine = h.newest in
      let one = rings_kept sizes x before mid was sized written in
      let two = rings_kept first y mid start ready resized s.1 in
      let guid = n.guid ∙ (ap (λ (p : OpenPool). p.guid) v.rest ∙ h.from.guid) in
      let later = n.txg ∙ ap (λ (p : OpenPool). p.group.txg) v.rest in
      let group = (subst (λ (o : Option Uber). IsAfter o x.group.txg) h.from.last was.after).1 in
      let above : IsAbove before.now.seen u = above_newest before.now.seen h.root u x.table.slots mine guid (omega (arith, later, group)) in
      let still : IsAbove start.now.seen u = λ slot r is pool. above slot r (root_kept before.now.seen mid.now.seen one slot r (root_kept mid.now.seen start.now.seen two slot r is)) pool in
      let labels = labels_on mid.now.seen start.now.seen two.labels mine.seen (labels_on before.now.seen mid.now.seen one.labels mine.seen mine.labels) in
      record {
        root = u;
        from = record {
          last = is;
          guid = ap (λ (p : OpenPool). p.guid) forgets.rest ∙ (same.guid ∙ sym n.guid);
          count = ap (λ (t : Table). t.count) table_is ∙ sym n.count;
          rows = ap (λ (t : Table). t.rows) table_is ∙ sym n.rows;
        };
        newest = publishes first w y.last u start now mine.seen left (sized_now first y mid start ready resized s.1) after.0 (n.count ∙ sym (ap (λ (t : Table). t.count) table_is)) (n.rows ∙ sym (ap (λ (t : Table). t.rows) table_is))
            (shown_without sizes x y w d was v known table_is u n first start now s.2) still labels (own_places sizes x y w d was v known table_is u n h.root h.from mine.seen mine.devices);
      }

  pub gone_last : ShowsLast now.now.seen w
  gone_last =
      root_of w.last refl left.after (subst (λ (o : Option Uber). IfSome o (IsNextRoot y true)) (sym last_is) next)
      (subst (λ (o : Option Uber). IfSome o (λ u. (start : World) × WritesIntoFree y mid start × IsShownFrom first y u start now)) (sym last_is) wrote)
