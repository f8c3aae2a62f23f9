use Rattle.std.proofs.Common.{refl}
use Rattle.zr_recorded.proofs.Parts.{parts_recorded}
use Rattle.zr_sync.specs.Trees.{head_tree}
use Rattle.zr_recorded.proofs.laws.recorded_streams_record_parts.Goals as goal

pub returns : goal.returns
returns c = λ disks sizes u pool ready from serves h. parts_recorded disks disks sizes u pool (head_tree pool.head h.0) (Unit {0}) ready from serves (λ b is. refl) h.1
