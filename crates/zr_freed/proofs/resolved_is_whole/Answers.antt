use Rattle.zr_freed.proofs.Bytes.{long_address}
use Rattle.zr_freed.proofs.resolved_is_whole.Goals as goal

pub returns : goal.returns
returns c = λ disks sizes slots ds at sized mounted all. long_address disks sizes slots ds sized mounted at all
