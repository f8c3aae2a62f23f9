use Rattle.std.proofs.Common.{refl}
use Rattle.zr_recorded.proofs.Reading.{stream_read}
use Rattle.zr_recorded.proofs.laws.a_stream_is_read.Goals as goal

pub returns : goal.returns
returns g c = λ shelf disks sizes u pool stage cond others ready there from h. stream_read disks disks sizes u pool stage cond others (g.S.Shelf.tells shelf) ready there from (λ b is. refl) h
