use Rattle.std.proofs.Common.{sym}
use Rattle.zr_session.proofs.Maps.{answers_write}
use Rattle.zr_session.proofs.table.ObjectTable.write.Goals as goal

pub returns : goal.returns
returns c = λ p. answers_write p c.args.self.now c.change.new.self c.args.id c.args.off c.args.bytes.now c.in-Some.object.now (sym c.in-Some.ensures) (sym c.if-not-covers.ensures.within) c.in_ok-change.ensures
