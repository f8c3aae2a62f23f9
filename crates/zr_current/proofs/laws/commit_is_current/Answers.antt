use Rattle.zr_current.proofs.Committed.{commit_current}
use Rattle.zr_current.proofs.laws.commit_is_current.Goals as goal

pub returns : goal.returns
returns c = λ sizes pool reset last u before mid now seen ready from sized shown current same lawful next_root wrote published.
    commit_current sizes pool reset last u before mid now ready from sized lawful next_root wrote published seen shown current same
