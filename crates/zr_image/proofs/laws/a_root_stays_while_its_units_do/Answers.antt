use Rattle.zr_image.proofs.Framing.{keeps_root, keeps_meaning, keeps_shelf}
use Rattle.zr_image.proofs.laws.a_root_stays_while_its_units_do.Goals as goal

pub returns-clause-root : goal.returns-clause-root
returns-clause-root c = keeps_root

pub returns-clause-meaning : goal.returns-clause-meaning
returns-clause-meaning c = keeps_meaning

pub returns-clause-shelf : goal.returns-clause-shelf
returns-clause-shelf c = keeps_shelf
