use Rattle.zr_reserve.proofs.Trees.{put_few, put_few_reset}
use Rattle.zr_reserve.proofs.streams.what_is_put_was_owed.Goals as goal

pub returns-clause-plain : goal.returns-clause-plain
returns-clause-plain c = put_few

pub returns-clause-reset : goal.returns-clause-reset
returns-clause-reset c = put_few_reset
