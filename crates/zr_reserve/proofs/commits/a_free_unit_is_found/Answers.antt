use Rattle.zr_reserve.proofs.Found.{none_refused}
use Rattle.zr_reserve.proofs.commits.a_free_unit_is_found.Goals as goal

pub returns : goal.returns
returns c = none_refused
