use Rattle.zr_open.proofs.Refound.{commit_found}
use Rattle.zr_open.proofs.laws.commit_is_found.Goals as goal

pub returns : goal.returns
returns c = λ paths sizes old new reset last u before mid now seen objects p ready from sized shown current slots wrote published next then on same is empty head held shows.
    commit_found paths sizes old new reset last u before mid now seen objects p ready from sized shown current slots wrote published next then on same is empty head held shows
