use Rattle.std.proofs.Common.{arith, sym, ◌∙◌}
use Rattle.std.proofs.lemmas.Bool.Decides.{nat_tests}
use Rattle.zr_session.proofs.Maps.{answers_read}
use Rattle.zr_session.proofs.table.ObjectTable.read.Goals as goal

pub returns : goal.returns
returns c = λ p. answers_read p c.args.self.now c.args.id c.args.off c.args.len c.in-Some.object.now _ (sym c.in-Some.ensures) (grind (arith, nat_tests)) (sym c.if-not-covers.ensures.within) (c.from_vec.ensures ∙ c.in_ok-bytes.ensures)
