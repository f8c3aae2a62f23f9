use Rattle.zr_current.proofs.Showing.{commit_shown}
use Rattle.zr_current.proofs.laws.commit_is_shown.Goals as goal

pub returns : goal.returns
returns c = λ sizes pool reset last u before mid now ready from sized was lawful next wrote shown. commit_shown sizes pool reset last u before mid now ready from sized was lawful next wrote shown
