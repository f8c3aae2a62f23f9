use Rattle.std.proofs.Common.{refl}
use Rattle.std.specs.Fmt as fmt
use Rattle.hex.specs.Hex as hex
use Rattle.zr_laws.proofs.lines.the_texts_of_replies.Goals as goal

pub returns-clause-ok : goal.returns-clause-ok
unfolding fmt.digits
returns-clause-ok c = refl

pub returns-clause-data : goal.returns-clause-data
unfolding hex.encode_with
returns-clause-data c = refl

pub returns-clause-synced : goal.returns-clause-synced
unfolding fmt.digits
returns-clause-synced c = refl

pub returns-clause-cancelled : goal.returns-clause-cancelled
unfolding fmt.digits
returns-clause-cancelled c = refl

pub returns-clause-ended : goal.returns-clause-ended
unfolding fmt.digits
returns-clause-ended c = refl
