-- What the slots show behind a commit.
use Rattle.std.proofs.Common.{◌≡◌, ◌⊎◌, inl, inr, ℕ, suc, ◌+◌, ◌-◌, ◌*◌, ◌<◌, ◌≤◌, Bool, true, false, List, [], ◌∷◌, length, map, take, get_or, Option, Some, None, Ok, refl, sym, ◌∙◌, ap, subst, arith, ⊎_elim}
use Rattle.std.specs.Prelude.{Contains, ◌==◌, ◌&&◌, slice_index, slice_index_or, if◌then◌else◌, unwrap_or}
use Rattle.std.specs.List.{list_any, position}
use Rattle.std.proofs.lemmas.Bool.{cases_lt, eqb-true}
use Rattle.std.proofs.lemmas.Bool.Decides.{nat_tests}
use Rattle.std.proofs.lemmas.List.{get_or-take, length-map, length-take-le}
use Rattle.std.proofs.lemmas.List.Folds.{list_any-append}
use Rattle.std.proofs.lemmas.List.FromFn.{get_or-map-range_with_len}
use Rattle.std.proofs.lemmas.List.Quantifiers.{position-Some}
use Rattle.std.proofs.Math.ListN.{get_or-map}
use Rattle.zr_base.specs.declared.space.DevRow.{DevRow}
use Rattle.zr_image.specs.Current.{FindsCurrent, ShowsAll, is_device, row_at, seen_at, slot_of_device, slots_of}
use Rattle.zr_label.specs.Blocks.{IsUber, no_row, uber_block}
use Rattle.zr_label.specs.Geometry.{label_at, label_block_at, ring_slot_at, unit_at, whole, slot_of as ring_of}
use Rattle.zr_label.specs.declared.root.Label.{Label}
use Rattle.zr_label.specs.declared.root.Seen.{Seen}
use Rattle.zr_label.specs.declared.root.Uber.{Uber}
use Rattle.zr_base.specs.declared.space.DevState.{DevState}
use Rattle.zr_base.specs.declared.space.DevState.TheVariants.{On, Leaving, Gone}
use Rattle.zr_rules.specs.Places.{in_address, is_gone, is_on, units_of_dev}
use Rattle.zr_rules.specs.Space.{Space, has_place, role_at}
use Rattle.zr_scan.specs.Scan.{IsRootFor, block_of, ring_block}
use Rattle.zr_shelf.specs.Disks.{Stand, PendingWrite, Meets, disk, part}
use Rattle.zr_shelf.specs.Doings.{Adds}
use Rattle.zr_shelf.specs.Doings.Adds.{added_none, added}
use Rattle.zr_shelf.specs.Moments.{World}
use Rattle.zr_shelf.proofs.Doings.{added_throughout}
use Rattle.zr_slots.specs.Tables.{IsSlotInBoth, is_concrete_in}
use Rattle.zr_sync.proofs.Rings.{uber_long}
use Rattle.zr_sync.proofs.Sizes.{disk_used, units_below}
use Rattle.zr_sync.specs.Commits.{IsNextRoot, IsShownFrom}
use Rattle.zr_sync.specs.Pools.{IsAfter, IsOpen, IsSamePool}
use Rattle.zr_sync.specs.Writes.{WritesIntoFree}
use Rattle.zr_sync.specs.declared.open.OpenPool.{OpenPool}
use Rattle.zr_sync.specs.declared.open.Table.{Table}
use Rattle.zr_vdev.specs.Stores.{IsWriteInto, is_open_role}
use Rattle.zr_vdev.specs.declared.kind.Kind.TheVariants.{Block}
use Rattle.zr_view.specs.Runs.{HasDisk}
use Rattle.zr_view.specs.Views.{slot_of}
use Rattle.zr_current.proofs.Next.{next_alone, next_found, slots_same}
use Rattle.zr_current.proofs.Published.{puts_root, stands_in}
use Rattle.zr_current.proofs.Put.{put_shown}
use Rattle.zr_current.specs.Current.{GoesOnFrom, HasSlots, IsCurrentOn}
use Rattle.zr_current.specs.Next.{IsNextOf, PutsRoot, ShowsNext, StandsSomewhere}

-- ---- writes into units

placed : (s : Space) (d u : ℕ) → is_open_role (role_at s d u) ≡ true → has_place s d u ≡ true
unfolding role_at
placed s d u is = grind (arith, nat_tests, is)

place_parts : (s : Space) (d u : ℕ) → has_place s d u ≡ true → (d < length s.parts.devs) × (u < units_of_dev s.parts.devs d)
place_parts s d u is = (grind (arith, nat_tests, is), grind (arith, nat_tests, is))

-- the bytes lie before all units, or behind the units of the slot's device
abbrev pub IsAside : ℕ → ℕ → Type 0
IsAside size at = (at + 4096 ≤ 4194304) ⊎ (label_at size 2 ≤ at)

high_label : (w a b n : ℕ) → a ≡ w - 262144 * (4 - n) → b ≡ w - 524288 → 2 ≤ n → b ≤ a
high_label w a b n is at le = omega (arith, is, at, le)

pub label_aside : (size n off : ℕ) → n < 4 → off + 4096 ≤ 262144 → IsAside size (label_at size n + off)
label_aside size n off few fits = elim (cases_lt 1 n) [
  | inl high ↦
      let at : label_at size n ≡ whole size - 262144 * (4 - n) = grind (arith, nat_tests, high) in
      let le = high_label (whole size) (label_at size n) (label_at size 2) n at refl high in
      inr (further (label_at size 2) (label_at size n) le)
  | inr low ↦
      let at : label_at size n ≡ 262144 * n = grind (arith, nat_tests, low) in
      inl (nearer (label_at size n) at low)
]
  where
    further : (b a : ℕ) → b ≤ a → b ≤ a + off
    further b a le = omega (arith, le)

    nearer : (a : ℕ) → a ≡ 262144 * n → n ≤ 1 → a + off + 4096 ≤ 4194304
    nearer a is le = omega (arith, is, le, fits)

pub ring_aside : (size n k : ℕ) → n < 4 → k < 32 → IsAside size (ring_slot_at size n k)
ring_aside size n k few low = by_sum (label_at size n) (label_aside size n (131072 + 4096 * k) few (omega (arith, low)))
  where
    by_sum : (a : ℕ) → IsAside size (a + (131072 + 4096 * k)) → IsAside size (a + 131072 + 4096 * k)
    by_sum a is = let e : a + (131072 + 4096 * k) ≡ a + 131072 + 4096 * k = omega arith in subst (IsAside size) e is

module _ (sizes : List ℕ) (pool : OpenPool) (ready : IsOpen sizes pool) where
  abbrev slots : List (Option ℕ)
  slots = pool.table.slots

  pub large : (d slot : ℕ) → d < pool.table.count → slot_of slots d ≡ Some slot → 8388608 ≤ whole (slice_index sizes slot)
  large d slot lt is = let used = disk_used (slice_index sizes slot) _ (ready.disks d slot lt is) in grind (arith, nat_tests, used)

  below : (d slot : ℕ) → d < pool.table.count → slot_of slots d ≡ Some slot → unit_at (units_of_dev pool.space.parts.devs d) ≤ label_at (slice_index sizes slot) 2
  below d slot lt is = subst (λ (r : DevRow). unit_at r.units ≤ label_at (slice_index sizes slot) 2) (sym (ready.rows d lt)) (units_below (slice_index sizes slot) _ (ready.disks d slot lt is))

  pub into_clear : (sl at : ℕ) → IsAside (slice_index sizes sl) at → (w : PendingWrite) → IsWriteInto Block slots pool.space w → ¬ Meets w sl at 4096
  into_clear sl at aside w h met =
      let last = h.at.start + (h.at.len - 1) in
      let inside : in_address h.at h.at.dev last ≡ true = grind (arith, nat_tests, h.some) in
      let there = place_parts pool.space h.at.dev last (placed pool.space h.at.dev last (h.open_units last inside)) in
      let many = ready.devices in
      let low = below h.at.dev sl (let lt = there.0 in omega (arith, lt, many)) (h.is.slot ∙ ap Some met.same) in
      apart (label_at (slice_index sizes sl) 2) (units_of_dev pool.space.parts.devs h.at.dev) aside low there.1 h.some h.is.at h.is.size met.begins met.ends
    where
      apart : (bound units : ℕ) → (at + 4096 ≤ 4194304) ⊎ (bound ≤ at) → 4194304 + 4096 * units ≤ bound → h.at.start + (h.at.len - 1) < units → 0 < h.at.len → w.at ≡ 4194304 + 4096 * h.at.start → length w.bytes ≡ 4096 * h.at.len → w.at < at + 4096 → at < w.at + length w.bytes → ⊥
      apart bound units (inl front) low lt some is size begins ends = omega (arith, front, is, begins)
      apart bound units (inr back) low lt some is size begins ends = omega (arith, back, low, lt, some, is, size, ends)

  pub part_kept : (sl at : ℕ) (before mid : World) → IsAside (slice_index sizes sl) at → WritesIntoFree pool before mid → part (disk mid.now.seen sl) at 4096 ≡ part (disk before.now.seen sl) at 4096
  part_kept sl at before mid aside writes =
      (added_throughout (λ (stand : Stand). part (disk stand.seen sl) at 4096 ≡ part (disk before.now.seen sl) at 4096) (IsWriteInto Block slots pool.space) step before mid writes refl).1
    where
      step : (a b : Stand) → Adds (IsWriteInto Block slots pool.space) a b → part (disk a.seen sl) at 4096 ≡ part (disk before.now.seen sl) at 4096 → part (disk b.seen sl) at 4096 ≡ part (disk before.now.seen sl) at 4096
      step a b (added_none is) same = ap (λ (s : Stand). part (disk s.seen sl) at 4096) is ∙ same
      step a b (added w may written) same = written.seen.bytes sl at 4096 (into_clear sl at aside w may, tt) ∙ same

  pub sizes_kept : (before mid : World) → WritesIntoFree pool before mid → map length mid.now.seen ≡ map length before.now.seen
  sizes_kept before mid writes = (added_throughout (λ (stand : Stand). map length stand.seen ≡ map length before.now.seen) (IsWriteInto Block slots pool.space) step before mid writes refl).1
    where
      step : (a b : Stand) → Adds (IsWriteInto Block slots pool.space) a b → map length a.seen ≡ map length before.now.seen → map length b.seen ≡ map length before.now.seen
      step a b (added_none is) same = ap (λ (s : Stand). map length s.seen) is ∙ same
      step a b (added w may written) same = written.seen.sizes ∙ same

-- ---- lengths of disks

pub length_at : (disks : List (List ℕ)) (sizes : List ℕ) (sl : ℕ) → map length disks ≡ sizes → length (disk disks sl) ≡ slice_index sizes sl
length_at disks sizes sl are = sym (get_or-map (λ (bytes : List ℕ). length bytes) disks sl []) ∙ ap (λ (ns : List ℕ). get_or ns sl 0) are

pub count_of : (a b : List (List ℕ)) → map length b ≡ map length a → length b ≡ length a
count_of a b are = sym (length-map b length) ∙ (ap (λ (ns : List ℕ). length ns) are ∙ length-map a length)

-- ---- a label of a device of the root

device_label : (last : Uber) (d : ℕ) (o : Option Label) → d < last.count → is_gone (row_at last d).state ≡ false → is_device last d o ≡ true → (l : Label) × (o ≡ Some l) × IsRootFor l last
device_label last d None some there is = absurd cc
device_label last d (Some l) some there is =
    let guid = and_both (l.guid == last.guid) _ is in
    let index = and_both (l.index == d) _ guid.1 in
    let added = and_both (l.added == (row_at last d).added) _ index.1 in
    let zero_is : l.index ≡ d = eqb-true l.index d index.0 in (
      l,
      refl,
      record {
        pool = sym (eqb-true l.guid last.guid guid.0);
        index = omega (arith, zero_is, some);
        added = ap (λ (i : ℕ). (row_at last i).added) zero_is ∙ sym (eqb-true l.added (row_at last d).added added.0);
        concrete = ap (λ (i : ℕ). is_gone (row_at last i).state) zero_is ∙ there;
      },
    )
  where
    and_both : (a b : Bool) → (a && b) ≡ true → (a ≡ true) × (b ≡ true)
    and_both true b h = (refl, h)
    and_both false b h = absurd cc

shown_place : (last : Uber) (d : ℕ) (seen : List Seen) (slot : ℕ) → slot_of_device last seen d ≡ Some slot → (slot < length seen) × (is_device last d (seen_at seen slot).label ≡ true)
shown_place last d seen slot is = by_state (is_gone (row_at last d).state) is
  where
    by_state : (gone : Bool) → (if gone then None else position (λ (s : Seen). is_device last d s.label) seen) ≡ Some slot → (slot < length seen) × (is_device last d (seen_at seen slot).label ≡ true)
    by_state true h = absurd cc
    by_state false h = let at = position-Some (λ (s : Seen). is_device last d s.label) seen slot (record { label = None; ubers = []; newer = None }) h in (at.0, at.1)

-- a row in service of some rows
record IsServing (rows : List DevRow) : Type 0 where
  pub index : ℕ
  pub inside : index < length rows
  pub there : is_gone (slice_index_or rows index no_row).state ≡ false

on_there : (state : DevState) → is_on state ≡ true → is_gone state ≡ false
on_there On on = refl
on_there Leaving on = cc
on_there Gone on = cc

serving_next : (r : DevRow) (rows : List DevRow) → (list_any (λ (x : DevRow). is_on x.state) rows ≡ true → IsServing rows) → list_any (λ (x : DevRow). is_on x.state) (r ∷ rows) ≡ true → (on : Bool) → is_on r.state ≡ on → IsServing (r ∷ rows)
serving_next r rows later any true on = record { index = 0; inside = omega arith; there = on_there r.state on }
serving_next r rows later any false off =
    let more = list_any-append (λ (x : DevRow). is_on x.state) (r ∷ []) rows in
    let rest = later (grind (arith, nat_tests, more, any, off)) in
    let lt = rest.inside in
    record { index = suc rest.index; inside = omega (arith, lt); there = rest.there }

serving : (rows : List DevRow) → list_any (λ (r : DevRow). is_on r.state) rows ≡ true → IsServing rows
serving [] any = absurd cc
serving (r ∷ rows) any = serving_next r rows (λ more. serving rows more) any (is_on r.state) refl

same_root_for : (last u : Uber) (l : Label) → IsNextOf last u → IsRootFor l last → IsRootFor l u
same_root_for last u l is h = record {
  pool = is.guid ∙ h.pool;
  index = let e = is.count in let lt = h.index in omega (arith, e, lt);
  added = ap (λ (rs : List DevRow). (slice_index_or rs l.index no_row).added) is.rows ∙ h.added;
  concrete = ap (λ (rs : List DevRow). is_gone (slice_index_or rs l.index no_row).state) is.rows ∙ h.concrete;
}

-- ---- a commit

module _ (sizes : List ℕ) (pool : OpenPool) (reset : Bool) (last u : Uber) (before mid now : World) (ready : IsOpen sizes pool) (from : GoesOnFrom last pool) (sized : map length before.now.seen ≡ sizes)
    (lawful : IsUber u) (next_root : IsNextRoot pool reset u) (wrote : WritesIntoFree pool before mid) (shown_from : IsShownFrom sizes pool u mid now) where
  is_next : IsNextOf last u
  is_next = record {
    txg = next_root.txg ∙ (subst (λ (o : Option Uber). IsAfter o pool.group.txg) from.last ready.after).1;
    guid = next_root.guid ∙ from.guid;
    count = next_root.count ∙ from.count;
    rows = next_root.rows ∙ from.rows;
  }

  mid_sizes : map length mid.now.seen ≡ map length before.now.seen
  mid_sizes = sizes_kept sizes pool ready before mid wrote

  large_slot : (root : Uber) (sl : ℕ) → IsSlotInBoth root u pool.table.slots sl → 8388608 ≤ whole (slice_index sizes sl)
  large_slot root sl h =
      let at = h.at_index in
      let count = next_root.count in
      let known : h.index < u.count = let is = at.in_root in grind (arith, nat_tests, is) in
      large sizes pool ready h.index sl (omega (arith, known, count)) at.here

  published : PutsRoot mid.now.seen now.now.seen u
  published =
      puts_root sizes shown_from.both shown_from.all u (uber_long u lawful) mid now (mid_sizes ∙ sized)
      (λ sl has. large_slot (unwrap_or pool.last u) sl (shown_from.in_both sl has)) (λ sl has. large_slot u sl (shown_from.in_all sl has)) shown_from.published

  same_size : (sl : ℕ) → length (disk mid.now.seen sl) ≡ length (disk before.now.seen sl)
  same_size sl = length_at mid.now.seen sizes sl (mid_sizes ∙ sized) ∙ sym (length_at before.now.seen sizes sl sized)

  label_kept : (sl n : ℕ) → n < 4 → block_of (length (disk before.now.seen sl)) (disk mid.now.seen sl) n ≡ block_of (length (disk before.now.seen sl)) (disk before.now.seen sl) n
  label_kept sl n few =
      subst (λ (size : ℕ). block_of size (disk mid.now.seen sl) n ≡ block_of size (disk before.now.seen sl) n) (sym (length_at before.now.seen sizes sl sized))
      (part_kept sizes pool ready sl (label_block_at (slice_index sizes sl) n) before mid (label_aside (slice_index sizes sl) n 16384 few (omega arith)) wrote)

  ring_kept : (sl n k : ℕ) → n < 4 → k < 32 → ring_block (length (disk before.now.seen sl)) (disk mid.now.seen sl) n k ≡ ring_block (length (disk before.now.seen sl)) (disk before.now.seen sl) n k
  ring_kept sl n k few low =
      subst (λ (size : ℕ). ring_block size (disk mid.now.seen sl) n k ≡ ring_block size (disk before.now.seen sl) n k) (sym (length_at before.now.seen sizes sl sized))
      (part_kept sizes pool ready sl (ring_slot_at (slice_index sizes sl) n k) before mid (ring_aside (slice_index sizes sl) n k few low) wrote)

  pub puts : PutsRoot before.now.seen now.now.seen u
  puts = record {
    count = published.count ∙ count_of before.now.seen mid.now.seen mid_sizes;
    sizes = λ sl. published.sizes sl ∙ same_size sl;
    labels = λ sl n few. subst (λ (size : ℕ). block_of size (disk now.now.seen sl) n ≡ block_of size (disk mid.now.seen sl) n) (same_size sl) (published.labels sl n few) ∙ label_kept sl n few;
    rings = λ sl n k few low.
        let put =
        subst (λ (size : ℕ). (ring_block size (disk now.now.seen sl) n k ≡ ring_block size (disk mid.now.seen sl) n k) ⊎ ((k ≡ ring_of u.txg) × (ring_block size (disk now.now.seen sl) n k ≡ uber_block u))) (same_size sl) (published.rings sl n k few low) in
        ⊎_elim (λ same. inl (same ∙ ring_kept sl n k few low)) (λ own. inr own) put;
  }

  -- a device in service
  on_row : IsServing (take pool.table.count pool.table.rows)
  on_row = serving (take pool.table.count pool.table.rows) (ready.table.on ready.some)

  abbrev dev : ℕ
  dev = on_row.index

  dev_known : dev < pool.table.count
  dev_known =
      let inside = on_row.inside in let size = ready.table.size in let few = ready.few in
      let long = length-take-le pool.table.count pool.table.rows (omega (arith, size, few)) in
      omega (arith, inside, long)

  dev_stays : is_gone (slice_index_or pool.table.rows dev no_row).state ≡ false
  dev_stays = sym (ap (λ (r : DevRow). is_gone r.state) (get_or-take pool.table.count pool.table.rows dev no_row dev_known)) ∙ on_row.there

  first_disk : HasDisk sizes pool.table.slots dev (units_of_dev pool.space.parts.devs dev)
  first_disk = ready.mounted.disks dev (let lt = dev_known in let many = ready.devices in omega (arith, lt, many)) (ap (λ (r : DevRow). is_gone r.state) (ready.rows dev dev_known) ∙ dev_stays)

  first_there : is_gone (row_at last dev).state ≡ false
  first_there = ap (λ (rs : List DevRow). is_gone (slice_index_or rs dev no_row).state) (sym from.rows) ∙ dev_stays

  some_device : dev < last.count
  some_device = let lt = dev_known in let count = from.count in omega (arith, lt, count)

  first_in : Contains shown_from.all first_disk.slot
  first_in =
      let gone : is_gone (row_at u dev).state ≡ false = ap (λ (rs : List DevRow). is_gone (slice_index_or rs dev no_row).state) is_next.rows ∙ first_there in
      let some : dev < u.count = let e = is_next.count in let lt = some_device in omega (arith, e, lt) in
      let concrete : is_concrete_in u dev ≡ true = grind (arith, nat_tests, gone, some) in
      shown_from.all_all first_disk.slot (record { index = dev; known = (let lt = dev_known in let few = ready.few in omega (arith, lt, few)); at_index = record { in_last = concrete; in_root = concrete; here = first_disk.is } })

  module _ (seen next : List Seen) (shown : ShowsAll before.now.seen seen) (current : FindsCurrent seen (Ok last)) (same : HasSlots (slots_of last seen) pool.table.slots) (later : ShowsAll now.now.seen next) where
    device_at : slot_of_device last seen dev ≡ Some first_disk.slot
    device_at = sym (get_or-map-range_with_len (slot_of_device last seen) 0 last.count dev dev None some_device (omega arith)) ∙ (sym (same dev) ∙ first_disk.is)

    somewhere : StandsSomewhere now.now.seen seen u
    somewhere =
        let place = shown_place last dev seen first_disk.slot device_at in
        let label = device_label last dev (seen_at seen first_disk.slot).label some_device first_there place.1 in
        record {
          slot = first_disk.slot;
          known = place.0;
          ring = 1;
          four = omega arith;
          stands = stands_in sizes shown_from.both shown_from.all u (uber_long u lawful) mid now (mid_sizes ∙ sized)
              (λ sl has. large_slot (unwrap_or pool.last u) sl (shown_from.in_both sl has)) (λ sl has. large_slot u sl (shown_from.in_all sl has)) shown_from.published first_disk.slot first_in;
          label = label.0;
          label_is = label.1;
          suits = same_root_for last u label.0 is_next label.2;
        }

    shows_next : ShowsNext seen next u
    shows_next = put_shown before.now.seen now.now.seen seen next u lawful shown later puts somewhere

    next_current : FindsCurrent next (Ok u)
    next_current = next_found before.now.seen seen next last u shown current is_next shows_next

    alone : (v : Uber) → FindsCurrent next (Ok v) → v ≡ u
    alone v other = next_alone before.now.seen seen next last u shown current is_next shows_next v other

    slots_next : HasSlots (slots_of u next) pool.table.slots
    slots_next = subst (λ (these : List (Option ℕ)). HasSlots these pool.table.slots) (sym (slots_same seen next u shows_next last is_next)) same

  module _ (seen : List Seen) (shown : ShowsAll before.now.seen seen) (current : FindsCurrent seen (Ok last)) (same : HasSlots (slots_of last seen) pool.table.slots) where
    pub commit_current : IsCurrentOn now.now.seen u pool
    commit_current = record {
      current = λ next later. next_current seen next shown current same later;
      alone = λ next later v other. alone seen next shown current same later v other;
      slots = λ next later. slots_next seen next shown current same later;
    }

-- the root that a commit leaves is the one that its pool goes on from
pub goes_on : (old new : OpenPool) (reset : Bool) (u : Uber) → new.last ≡ Some u → IsNextRoot old reset u → IsSamePool old new → GoesOnFrom u new
goes_on old new reset u last next same = record {
  last = last;
  guid = same.guid ∙ sym next.guid;
  count = ap (λ (t : Table). t.count) same.table ∙ sym next.count;
  rows = ap (λ (t : Table). t.rows) same.table ∙ sym next.rows;
}
