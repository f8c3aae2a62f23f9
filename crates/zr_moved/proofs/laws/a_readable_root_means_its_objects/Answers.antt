use Rattle.zr_moved.proofs.Objects.{shown_objects}
use Rattle.zr_moved.proofs.laws.a_readable_root_means_its_objects.Goals as goal

pub returns : goal.returns
returns c = λ paths disks sizes u pool p ready from readable has shows same_root slots. shown_objects paths disks sizes u pool p ready from readable has shows same_root slots
