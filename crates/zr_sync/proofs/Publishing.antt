-- The root of a commit, and the slots in which it stands.
use Rattle.std.proofs.Common.{◌≡◌, ℕ, ◌+◌, ◌%◌, ◌≤◌, ◌<◌, ◌^◌, ◌⊎◌, Bool, true, false, List, length, Option, Some, None, inl, inr, ◌∙◌, ap, sym, subst, arith}
use Rattle.std.specs.Prelude.{◌&&◌, not, nat_lt, ◌==◌, if◌then◌else◌, slice_index, slice_index_or, Contains, unwrap_or}
use Rattle.std.proofs.lemmas.Bool.Decides.{nat_tests}
use Rattle.std.proofs.lemmas.List.Elements.{Contains-get_or}
use Rattle.zr_base.specs.declared.space.DevRow.{DevRow}
use Rattle.zr_label.specs.Blocks.{IsMetaRoot, IsUber, IsTable, IsName, no_row}
use Rattle.zr_label.specs.declared.root.Uber.{Uber}
use Rattle.zr_rules.specs.Equation.{devices_in}
use Rattle.zr_rules.specs.Devices.{state_at}
use Rattle.zr_rules.specs.Places.{is_gone, part_of}
use Rattle.zr_image.specs.Current.{row_at}
use Rattle.zr_shelf.specs.Moments.{World}
use Rattle.zr_slots.specs.Phases.{AreDisks, IsPublished, IsPublishedInPart}
use Rattle.zr_slots.specs.Tables.{IsSlotInBoth, is_concrete_in}
use Rattle.zr_view.specs.Runs.{HasDisk}
use Rattle.zr_sync.specs.Commits.{IsNextRoot, IsShownFrom, IsShownInPart, last_reset}
use Rattle.zr_sync.specs.Pools.{IsOpen, IsAfter}
use Rattle.zr_sync.specs.declared.open.OpenPool.{OpenPool}
use Rattle.zr_sync.proofs.Rows.{rows_table}
use Rattle.zr_sync.proofs.Sizes.{disk_used}

-- ---- the root

reset_of : (r t txg : ℕ) → r ≤ t → txg ≡ t + 1 → (if r == 0 then t else r) ≤ txg
reset_of r t txg le is = grind (arith, nat_tests, le, is)

reset_within : (last : Option Uber) (txg : ℕ) → IsAfter last txg → last_reset last txg ≤ txg
reset_within None txg h = omega arith
reset_within (Some u) txg h = reset_of u.reset u.txg txg h.0.head.reset h.1

pub reset_low : (b : Bool) (last : Option Uber) (txg : ℕ) → IsAfter last txg → (if b then txg else last_reset last txg) ≤ txg
reset_low true last txg h = omega arith
reset_low false last txg h = reset_within last txg h

newest : (version : ℕ) → (version ≡ 1) ⊎ (version ≡ 2) → (1 ≤ version) × (version ≤ 2)
newest version (inl one) = (omega (arith, one), omega (arith, one))
newest version (inr two) = (omega (arith, two), omega (arith, two))

pub next_lawful : (sizes : List ℕ) (pool : OpenPool) (reset : Bool) (u : Uber) → IsOpen sizes pool → IsNextRoot pool reset u → IsMetaRoot u.root u.len → u.len % 8 ≡ 0 → 8 ≤ u.len → u.len ≤ 35016 → u.txg < 2 ^ 64 → u.guid < 2 ^ 64 → IsUber u
next_lawful sizes pool reset u o next meta whole least short txg_fits guid_fits =
    let two = newest pool.version o.version in
    let first = o.first in
    let guid = o.guid in
    let some = o.some in
    let few = o.few in
    let low = reset_low reset pool.last pool.group.txg o.after in
    let e1 = next.version in
    let e2 = next.txg in
    let e3 = next.guid in
    let e4 = next.count in
    let e5 = next.reset_is in
    record {
      head = record {
        oldest = omega (arith, two, e1);
        newest = omega (arith, two, e1);
        txg = omega (arith, first, e2);
        guid = omega (arith, guid, e3);
        whole = whole;
        least = least;
        most = omega (arith, short);
        some = omega (arith, some, e4);
        devices = omega (arith, few, e4);
        reset = omega (arith, low, e5, e2);
        txg_fits = txg_fits;
        guid_fits = guid_fits;
      };
      root = meta;
      table = subst (λ (v : ℕ). IsTable v u.txg u.count u.rows) (sym next.version) (subst (λ (t : ℕ). IsTable pool.version t u.count u.rows) (sym next.txg) (subst (λ (n : ℕ). IsTable pool.version pool.group.txg n u.rows) (sym next.count) (subst (λ (rs : List DevRow). IsTable pool.version pool.group.txg pool.table.count rs) (sym next.rows) (rows_table pool.version pool.group.txg pool.table.count pool.table.rows o.some o.table))));
      name = subst IsName (sym next.name) o.name;
    }

-- ---- slots

pub last_few : (last : Option Uber) (txg : ℕ) (u : Uber) → IsAfter last txg → IsUber u → (unwrap_or last u).count ≤ 32
last_few None txg u h lawful = lawful.head.devices
last_few (Some v) txg u h lawful = h.0.head.devices

index_below : (u : Uber) (index : ℕ) → is_concrete_in u index ≡ true → index < u.count
index_below u index is = below index u.count (not (is_gone (row_at u index).state)) is
  where
    below : (i n : ℕ) (b : Bool) → (nat_lt i n && b) ≡ true → i < n
    below i n b h = grind (arith, nat_tests, h)

-- a device that is in service or leaving is not gone
row_there : (u : Uber) (index : ℕ) → is_concrete_in u index ≡ true → is_gone (row_at u index).state ≡ false
row_there u index is = other (nat_lt index u.count) (is_gone (row_at u index).state) is
  where
    other : (a b : Bool) → (a && not b) ≡ true → b ≡ false
    other a b h = grind (arith, nat_tests, h)

same_slot : (o : Option ℕ) (a b : ℕ) → o ≡ Some a → o ≡ Some b → a ≡ b
same_slot o a b p q = cc

-- the slots of a root's devices are those of disks of its pool
pub slots_disks : (sizes : List ℕ) (pool : OpenPool) (last u : Uber) (found : List ℕ) → IsOpen sizes pool → u.count ≡ pool.table.count → u.rows ≡ pool.table.rows → ((slot : ℕ) → Contains found slot → IsSlotInBoth last u pool.table.slots slot) → AreDisks sizes found
slots_disks sizes pool last u found o count rows each = λ k lt.
    let is = each (slice_index found k) (Contains-get_or found k 0 lt) in
    let below : is.index < pool.table.count = let h = index_below u is.index is.at_index.in_root in omega (arith, h, count) in
    let row : row_at u is.index ≡ (part_of pool.space.parts.devs is.index).row = ap (λ (rs : List DevRow). slice_index_or rs is.index no_row) rows ∙ sym (o.rows is.index below) in
    let there : is_gone (state_at (devices_in pool.space) is.index) ≡ false = ap (λ (r : DevRow). is_gone r.state) (sym row) ∙ row_there u is.index is.at_index.in_root in
    let has : HasDisk sizes pool.table.slots is.index ((devices_in pool.space).row is.index).units = o.mounted.disks is.index (let n = o.devices in omega (arith, below, n)) there in
    (subst (λ (s : ℕ). s < length sizes) (same_slot _ has.slot (slice_index found k) has.is is.at_index.here) has.exists, disk_used (slice_index sizes (slice_index found k)) _ (o.disks is.index (slice_index found k) below is.at_index.here))

-- a root that is published in the slots that were found is shown
pub shown : (sizes : List ℕ) (pool : OpenPool) (last u : Uber) (both all firsts rest : List ℕ) (before now : World) → last ≡ unwrap_or pool.last u → firsts ≡ both → rest ≡ all
    → ((slot : ℕ) → Contains both slot → IsSlotInBoth last u pool.table.slots slot) → ((slot : ℕ) → IsSlotInBoth last u pool.table.slots slot → Contains both slot)
    → ((slot : ℕ) → Contains all slot → IsSlotInBoth u u pool.table.slots slot) → ((slot : ℕ) → IsSlotInBoth u u pool.table.slots slot → Contains all slot)
    → IsPublished sizes firsts rest u before now → IsShownFrom sizes pool u before now
shown sizes pool last u both all firsts rest before now is firsts_are rest_are in_both all_both in_all all_all published = record {
  both = both;
  all = all;
  in_both = λ slot h. subst (λ (l : Uber). IsSlotInBoth l u pool.table.slots slot) is (in_both slot h);
  all_both = λ slot h. all_both slot (subst (λ (l : Uber). IsSlotInBoth l u pool.table.slots slot) (sym is) h);
  in_all = in_all;
  all_all = all_all;
  published = subst (λ (xs : List ℕ). IsPublished sizes xs all u before now) firsts_are (subst (λ (xs : List ℕ). IsPublished sizes firsts xs u before now) rest_are published);
}

-- one that was stopped is shown in part
pub shown_in_part : (sizes : List ℕ) (pool : OpenPool) (last u : Uber) (both all firsts rest : List ℕ) (before now : World) → last ≡ unwrap_or pool.last u → firsts ≡ both → rest ≡ all
    → ((slot : ℕ) → Contains both slot → IsSlotInBoth last u pool.table.slots slot) → ((slot : ℕ) → IsSlotInBoth last u pool.table.slots slot → Contains both slot)
    → ((slot : ℕ) → Contains all slot → IsSlotInBoth u u pool.table.slots slot) → ((slot : ℕ) → IsSlotInBoth u u pool.table.slots slot → Contains all slot)
    → IsPublishedInPart sizes firsts rest u before now → IsShownInPart sizes pool u before now
shown_in_part sizes pool last u both all firsts rest before now is firsts_are rest_are in_both all_both in_all all_all published = record {
  both = both;
  all = all;
  in_both = λ slot h. subst (λ (l : Uber). IsSlotInBoth l u pool.table.slots slot) is (in_both slot h);
  all_both = λ slot h. all_both slot (subst (λ (l : Uber). IsSlotInBoth l u pool.table.slots slot) (sym is) h);
  in_all = in_all;
  all_all = all_all;
  published = subst (λ (xs : List ℕ). IsPublishedInPart sizes xs all u before now) firsts_are (subst (λ (xs : List ℕ). IsPublishedInPart sizes firsts xs u before now) rest_are published);
}
