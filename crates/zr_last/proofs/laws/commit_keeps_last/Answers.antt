use Rattle.zr_last.proofs.Lasting.{commit_last}
use Rattle.zr_last.proofs.laws.commit_keeps_last.Goals as goal

pub returns : goal.returns
returns c = λ sizes behind old new reset before now ready later sized txg next wrote guid table h. commit_last sizes behind old new reset before now ready later sized txg next wrote guid table h
