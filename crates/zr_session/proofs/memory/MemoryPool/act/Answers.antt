use Rattle.zr_session.proofs.Pools.{found_weaker, none_weaker, steps_open, unserved_open}
use Rattle.zr_session.proofs.memory.MemoryPool.act.Goals as goal

pub returns-in-Some-clause-done : goal.returns-in-Some-clause-done
returns-in-Some-clause-done c = found_weaker c.act.result _ _ (λ reply h. steps_open c.args.self.now.paths c.args.self.now.pool c.in-Some.pool c.act.new.self c.args.command.now reply c.in-Some.is c.act.ensures.name c.act.ensures.guid h) c.act.ensures.done

pub returns-in-Some-clause-none : goal.returns-in-Some-clause-none
returns-in-Some-clause-none c = none_weaker c.act.result _ _ (λ h. unserved_open _ _ _ _ c.in-Some.is h) c.act.ensures.none
