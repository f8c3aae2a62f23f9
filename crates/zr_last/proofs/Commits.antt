-- A root that is published is put into ring slots, and stands at a device of its own.
use Rattle.std.proofs.Common.{◌≡◌, ℕ, suc, ◌<◌, ◌≤◌, Bool, true, false, List, [], ◌∷◌, length, map, take, Option, refl, sym, ◌∙◌, ap, arith}
use Rattle.std.specs.Prelude.{Contains, slice_index, slice_index_or, unwrap_or}
use Rattle.std.specs.List.{list_any}
use Rattle.std.proofs.lemmas.Bool.Decides.{nat_tests}
use Rattle.std.proofs.lemmas.List.{get_or-take, length-take-le}
use Rattle.std.proofs.lemmas.List.Folds.{list_any-append}
use Rattle.zr_base.specs.declared.space.DevRow.{DevRow}
use Rattle.zr_base.specs.declared.space.DevState.{DevState}
use Rattle.zr_base.specs.declared.space.DevState.TheVariants.{On, Leaving, Gone}
use Rattle.zr_image.specs.Current.{row_at}
use Rattle.zr_label.specs.Blocks.{IsUber, no_row}
use Rattle.zr_label.specs.Geometry.{whole}
use Rattle.zr_label.specs.declared.root.Uber.{Uber}
use Rattle.zr_newest.specs.Newest.{PutsRoot, StandsAtDevice}
use Rattle.zr_rules.specs.Places.{is_gone, is_on, units_of_dev}
use Rattle.zr_shelf.specs.Moments.{World}
use Rattle.zr_slots.specs.Tables.{IsSlotInBoth, is_concrete_in}
use Rattle.zr_sync.proofs.Rings.{uber_long}
use Rattle.zr_sync.proofs.Sizes.{disk_used}
use Rattle.zr_sync.specs.Commits.{IsShownFrom}
use Rattle.zr_sync.specs.Pools.{IsOpen}
use Rattle.zr_sync.specs.declared.open.OpenPool.{OpenPool}
use Rattle.zr_view.specs.Runs.{HasDisk}
use Rattle.zr_current.proofs.Published.{puts_root, stands_in}
use Rattle.zr_current.specs.Next as current

-- ---- a device in service

-- a row in service of some rows
record IsServing (rows : List DevRow) : Type 0 where
  pub index : ℕ
  pub inside : index < length rows
  pub there : is_gone (slice_index_or rows index no_row).state ≡ false

on_there : (state : DevState) → is_on state ≡ true → is_gone state ≡ false
on_there On on = refl
on_there Leaving on = cc
on_there Gone on = cc

serving_next : (r : DevRow) (rows : List DevRow) → (list_any (λ (x : DevRow). is_on x.state) rows ≡ true → IsServing rows) → list_any (λ (x : DevRow). is_on x.state) (r ∷ rows) ≡ true → (on : Bool) → is_on r.state ≡ on → IsServing (r ∷ rows)
serving_next r rows later any true on = record { index = 0; inside = omega arith; there = on_there r.state on }
serving_next r rows later any false off =
    let more = list_any-append (λ (x : DevRow). is_on x.state) (r ∷ []) rows in
    let rest = later (grind (arith, nat_tests, more, any, off)) in
    let lt = rest.inside in
    record { index = suc rest.index; inside = omega (arith, lt); there = rest.there }

serving : (rows : List DevRow) → list_any (λ (r : DevRow). is_on r.state) rows ≡ true → IsServing rows
serving [] any = absurd cc
serving (r ∷ rows) any = serving_next r rows (λ more. serving rows more) any (is_on r.state) refl

-- ---- a root that is published

module _ (sizes : List ℕ) (pool : OpenPool) (last : Option Uber) (u : Uber) (before now : World) (ready : IsOpen sizes pool) (sized : map length before.now.seen ≡ sizes) (lawful : IsUber u)
    (count : u.count ≡ pool.table.count) (rows : u.rows ≡ pool.table.rows) (shown : IsShownFrom sizes (record pool { last = last }) u before now) where
  large_slot : (root : Uber) (slot : ℕ) → IsSlotInBoth root u pool.table.slots slot → 8388608 ≤ whole (slice_index sizes slot)
  large_slot root slot h =
      let at = h.at_index in
      let known : h.index < u.count = let is = at.in_root in grind (arith, nat_tests, is) in
      let used = disk_used (slice_index sizes slot) _ (ready.disks h.index slot (omega (arith, known, count)) at.here) in
      grind (arith, nat_tests, used)

  put : current.PutsRoot before.now.seen now.now.seen u
  put =
      puts_root sizes shown.both shown.all u (uber_long u lawful) before now sized
      (λ slot has. large_slot (unwrap_or last u) slot (shown.in_both slot has)) (λ slot has. large_slot u slot (shown.in_all slot has)) shown.published

  pub root_put : PutsRoot before.now.seen now.now.seen u
  root_put = record { labels = record { count = put.count; sizes = put.sizes; labels = put.labels }; rings = put.rings }

  on_row : IsServing (take pool.table.count pool.table.rows)
  on_row = serving (take pool.table.count pool.table.rows) (ready.table.on ready.some)

  abbrev dev : ℕ
  dev = on_row.index

  dev_known : dev < pool.table.count
  dev_known =
      let inside = on_row.inside in let size = ready.table.size in let few = ready.few in
      let long = length-take-le pool.table.count pool.table.rows (omega (arith, size, few)) in
      omega (arith, inside, long)

  dev_stays : is_gone (slice_index_or pool.table.rows dev no_row).state ≡ false
  dev_stays = sym (ap (λ (r : DevRow). is_gone r.state) (get_or-take pool.table.count pool.table.rows dev no_row dev_known)) ∙ on_row.there

  first_disk : HasDisk sizes pool.table.slots dev (units_of_dev pool.space.parts.devs dev)
  first_disk = ready.mounted.disks dev (let lt = dev_known in let many = ready.devices in omega (arith, lt, many)) (ap (λ (r : DevRow). is_gone r.state) (ready.rows dev dev_known) ∙ dev_stays)

  dev_there : is_gone (row_at u dev).state ≡ false
  dev_there = ap (λ (rs : List DevRow). is_gone (slice_index_or rs dev no_row).state) rows ∙ dev_stays

  dev_in : dev < u.count
  dev_in = let lt = dev_known in omega (arith, lt, count)

  first_in : Contains shown.all first_disk.slot
  first_in =
      let gone = dev_there in
      let some = dev_in in
      let concrete : is_concrete_in u dev ≡ true = grind (arith, nat_tests, gone, some) in
      shown.all_all first_disk.slot (record { index = dev; known = (let lt = dev_known in let few = ready.few in omega (arith, lt, few)); at_index = record { in_last = concrete; in_root = concrete; here = first_disk.is } })

  pub root_stands : StandsAtDevice now.now.seen u pool.table.slots
  root_stands = record {
    device = dev;
    known = dev_in;
    there = dev_there;
    slot = first_disk.slot;
    here = first_disk.is;
    ring = 1;
    four = omega arith;
    stands = stands_in sizes shown.both shown.all u (uber_long u lawful) before now sized
        (λ slot has. large_slot (unwrap_or last u) slot (shown.in_both slot has)) (λ slot has. large_slot u slot (shown.in_all slot has)) shown.published first_disk.slot first_in;
  }
