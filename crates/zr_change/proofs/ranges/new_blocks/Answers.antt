use Rattle.std.proofs.Common.{◌≡◌, ◌∙◌, ℕ, Bool, true, false, not, Option, sym, ap, arith}
use Rattle.std.specs.Prelude.{is_some, if◌then◌else◌}
use Rattle.zr_bptr.specs.declared.Ptr.{Ptr}
use Rattle.zr_txg.specs.Changes.{change_in}
use Rattle.zr_change.proofs.Indices.{new_more}
use Rattle.zr_change.proofs.ranges.new_blocks.Goals as goal
use Rattle.zr_change.proofs.ranges.new_blocks.Goals.{then-is_none, else-is_none}

weight_is : (o p : Option Ptr) (none : Bool) (known : Bool) → o ≡ p → is_some o ≡ not none → none ≡ known → ◌≡◌ {A = ℕ} (if is_some p then 0 else 1) (if not known then 0 else 1)
weight_is o p none known same is e = let weight : Bool → ℕ = λ b. if b then 0 else 1 in ap weight (ap is_some (sym same) ∙ is ∙ ap not e)

pub loop-index-preserved : goal.loop-index-preserved
loop-index-preserved c =
    let g = c.args.group.now in
    let id = c.args.id in
    let index = c.loop-index.index in
    let le = c.loop-index.auto.index in
    let more = new_more g id c.args.first index le in
    let inv = c.loop-index.invariant in
    elim c.if-is_none.branch [
      | then-is_none w ↦
          let one = weight_is c.find.result (change_in g id index) c.is_none.result true c.find.ensures c.is_none.ensures w.if-is_none.true in
          record { new = omega (arith, more, one, inv.new, w.new-is); most = omega (arith, inv.most, w.new-is, le) }
      | else-is_none w ↦
          let none = weight_is c.find.result (change_in g id index) c.is_none.result false c.find.ensures c.is_none.ensures w.if-is_none.false in
          record { new = omega (arith, more, none, inv.new, w.new-is); most = omega (arith, inv.most, w.new-is, le) }
    ]
