use Rattle.zr_held.proofs.Making.{made}
use Rattle.zr_held.proofs.object_made.Goals as goal

pub returns : goal.returns
returns c = λ s a b objects id units low dir none sets has. made s a b objects id units low dir none sets has
