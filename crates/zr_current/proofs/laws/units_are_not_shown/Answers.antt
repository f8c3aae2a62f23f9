use Rattle.zr_current.proofs.Kept.{shown_still}
use Rattle.zr_current.proofs.laws.units_are_not_shown.Goals as goal

pub returns : goal.returns
returns c = λ sizes pool before now u ready sized wrote is. shown_still sizes pool before now ready sized wrote u is
