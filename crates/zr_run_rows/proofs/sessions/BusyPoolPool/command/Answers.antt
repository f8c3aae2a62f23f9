use Rattle.std.proofs.Common.{refl, nat_lt}
use Rattle.zr_run_rows.proofs.sessions.BusyPoolPool.command.Goals as goal

pub returns-clause-step : goal.returns-clause-step
returns-clause-step g c = λ t n before s. record { after = nat_lt 0 c.act-reply.new.self.left; stands_for = refl; takes = tt }
