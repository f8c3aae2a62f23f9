use Rattle.zr_prefix.proofs.Stopping.{line_shows}
use Rattle.zr_prefix.proofs.laws.a_line_shows_a_prefix.Goals as goal

pub returns : goal.returns
returns c = λ p turns command disks none run told covered within. line_shows p turns disks none run told command covered within
