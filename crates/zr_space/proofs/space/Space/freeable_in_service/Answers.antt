use Rattle.zr_space.proofs.Freeables.{live_freeable, freeable_live}
use Rattle.zr_space.proofs.space.Space.freeable_in_service.Goals as goal

pub returns-clause-freeable : goal.returns-clause-freeable
returns-clause-freeable c = λ a live. live_freeable c.args.self.now a c.requires live

pub returns-clause-live : goal.returns-clause-live
returns-clause-live c = λ a free. freeable_live c.args.self.now a c.requires free
