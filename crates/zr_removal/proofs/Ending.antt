-- The end of a removal: what the table says of the device, and what is told where the shelf went on before.
use Rattle.std.proofs.Common.{◌≡◌, ◌∙◌, ℕ, ◌<◌, true, List, length, get_or, ap, subst, arith}
use Rattle.std.specs.Prelude.{IfSome}
use Rattle.std.proofs.lemmas.List.{get_or-set_same}
use Rattle.zr_base.specs.declared.space.DevRow.{DevRow}
use Rattle.zr_base.specs.declared.space.DevState.TheVariants.{Gone}
use Rattle.zr_label.specs.Blocks.{no_row}
use Rattle.zr_label.specs.declared.root.Uber.{Uber}
use Rattle.zr_rules.specs.Places.{is_gone, part_of, state_of_dev}
use Rattle.zr_shelf.specs.Moments.{World}
use Rattle.zr_sync.specs.Commits.{IsShownFrom}
use Rattle.zr_sync.specs.Pools.{IsOpen}
use Rattle.zr_sync.specs.declared.open.OpenPool.{OpenPool}
use Rattle.zr_sync.specs.declared.open.Table.{Table}
use Rattle.zr_removal.specs.Rows.{with_row}
use Rattle.zr_removal.specs.Turns.{CancelsRemoval, EndsRemoval, Vanishes}

-- a device whose row is that of one that is gone is so in the space
pub gone_now : (sizes : List ℕ) (x y z : OpenPool) (d : ℕ) → IsOpen sizes x → IsOpen sizes z → Vanishes x y d → z.table ≡ y.table → d < z.table.count → is_gone (state_of_dev z.space.parts.devs d) ≡ true
gone_now sizes x y z d before o v same known =
    let row : DevRow = record (get_or x.table.rows d no_row) { state = Gone; gone = x.group.txg } in
    let table : z.table ≡ with_row x.table d row = same ∙ v.table in
    let count = ap (λ (t : Table). t.count) table in
    let size = before.table.size in
    let few = before.few in
    let inside : d < length x.table.rows = omega (arith, known, count, size, few) in
    let is : (part_of z.space.parts.devs d).row ≡ row = o.rows d known ∙ (ap (λ (t : Table). get_or t.rows d no_row) table ∙ get_or-set_same x.table.rows d row no_row inside) in
    ap (λ (r : DevRow). is_gone r.state) is

-- where no size changed and the shelf is told still, the end is the same from before
pub ends_before : (n m : List ℕ) (t1 t2 : Type 0) (now : World) (x y : OpenPool) (d : ℕ) → n ≡ m → (t1 → t2) → EndsRemoval n t2 now x y d → EndsRemoval m t1 now x y d
ends_before n m t1 t2 now x y d sizes told e = record {
  gone = e.gone;
  vanishes = e.vanishes;
  ended = e.ended;
  same = e.same;
  root = e.root;
  resets = e.resets;
  shown = λ t. subst (λ (k : List ℕ). IfSome y.last (λ (u : Uber). (before : World) × IsShownFrom k e.gone u before now)) sizes (e.shown (told t));
  forgets = e.forgets;
}

pub cancels_before : (n m : List ℕ) (t1 t2 : Type 0) (now : World) (x y : OpenPool) (d : ℕ) → n ≡ m → (t1 → t2) → CancelsRemoval n t2 now x y d → CancelsRemoval m t1 now x y d
cancels_before n m t1 t2 now x y d sizes told e = record {
  back = e.back;
  comes = e.comes;
  same = e.same;
  root = e.root;
  resets = e.resets;
  shown = λ t. subst (λ (k : List ℕ). IfSome y.last (λ (u : Uber). (before : World) × IsShownFrom k e.back u before now)) sizes (e.shown (told t));
}
