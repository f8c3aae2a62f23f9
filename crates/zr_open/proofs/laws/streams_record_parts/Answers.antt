use Rattle.zr_open.proofs.Recorded.{streams_record}
use Rattle.zr_open.proofs.laws.streams_record_parts.Goals as goal

pub returns : goal.returns
returns c = λ disks u pool parts from none version ckpt cond devices. streams_record disks u pool parts from none version ckpt cond devices
