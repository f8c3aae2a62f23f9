use Rattle.zr_open.proofs.Same.{shown_is_held}
use Rattle.zr_open.proofs.laws.shown_is_held.Goals as goal

pub returns : goal.returns
returns c = λ paths disks sizes u pool objects p ready on from empty only head held shows. shown_is_held paths disks sizes u pool objects p ready on from empty only head held shows
