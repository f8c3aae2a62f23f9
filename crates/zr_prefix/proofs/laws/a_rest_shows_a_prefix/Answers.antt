use Rattle.zr_prefix.proofs.Stopping.{rest_shows}
use Rattle.zr_prefix.proofs.laws.a_rest_shows_a_prefix.Goals as goal

pub returns : goal.returns
returns c = λ p turns disks none run told rests due. rest_shows p turns disks none run told rests due
