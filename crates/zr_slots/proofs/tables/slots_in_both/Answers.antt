use Rattle.std.proofs.Common.{◌∙◌, arith}
use Rattle.zr_slots.proofs.Gathered.{gathers_none, gathers_pushed, gathers_passed}
use Rattle.zr_slots.proofs.tables.slots_in_both.Goals as goal
use Rattle.zr_slots.proofs.tables.slots_in_both.Goals.{in-Some+in_ok-push, in_default}

pub loop-index-init : goal.loop-index-init
loop-index-init c = gathers_none c.args.last.now c.args.root.now c.args.slots.now c.new-found.result c.new-found.ensures

pub loop-index-preserved : goal.loop-index-preserved
loop-index-preserved c = elim c.match-slot_in_both.branch [
  | in-Some+in_ok-push w ↦
      gathers_pushed c.args.last.now c.args.root.now c.args.slots.now c.loop-index.index c.loop-index.found c.loop-index.invariant w.in-Some.slot c.match-slot_in_both.found c.loop-index-test.true
      (w.found-is ∙ w.in_ok-push.ensures) w.in-Some.ensures.some
  | in_default w ↦
      gathers_passed c.args.last.now c.args.root.now c.args.slots.now c.loop-index.index c.loop-index.found c.loop-index.invariant c.match-slot_in_both.found w.found-is (w.in_default.ensures.none)
]

pub returns-clause-all : goal.returns-clause-all
returns-clause-all c = λ slot h. let past = c.loop-index-test.false in let small = h.known in c.loop-index.invariant.all h.index (omega (arith, past, small)) slot h.at_index
