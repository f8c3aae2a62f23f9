use Rattle.zr_recorded.proofs.Parts.{pool_shown}
use Rattle.zr_sync.specs.Trees.{head_tree}
use Rattle.zr_recorded.proofs.laws.a_pool_is_shown.Goals as goal

pub returns : goal.returns
returns c = λ paths disks sizes u pool objects ready from serves unsaved empty slots head h held. pool_shown paths disks sizes u pool objects (head_tree pool.head h.0) (Unit {0}) ready from serves unsaved empty slots head h.1 held
