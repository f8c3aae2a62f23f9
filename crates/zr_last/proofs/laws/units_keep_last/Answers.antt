use Rattle.zr_last.proofs.Lasting.{units_last}
use Rattle.zr_last.proofs.laws.units_keep_last.Goals as goal

pub returns : goal.returns
returns c = λ sizes old new before now ready sized wrote same h. units_last sizes old new before now ready sized wrote same h
