use Rattle.std.proofs.Common.{refl}
use Rattle.zr_recorded.proofs.Reading.{cond_read}
use Rattle.zr_recorded.proofs.laws.a_condensing_is_read.Goals as goal

pub returns : goal.returns
returns g c = λ shelf disks sizes u pool stage cond others ready there from h. cond_read disks disks sizes u pool stage cond others (g.S.Shelf.tells shelf) ready there from (λ b is. refl) h
