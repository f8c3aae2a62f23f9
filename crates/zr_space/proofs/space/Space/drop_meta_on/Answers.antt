use Rattle.zr_space.proofs.MetaRuns.{no_metadata}
use Rattle.zr_space.proofs.space.Space.drop_meta_on.Goals as goal

pub returns-in_default-clause-last : goal.returns-in_default-clause-last
returns-in_default-clause-last c = λ is unsaved u. no_metadata c.args.self.now c.args.dev u unsaved c.in_default.ensures.none
