use Rattle.zr_held.proofs.Reading.{object_of, object_missing}
use Rattle.zr_held.proofs.object_found.Goals as goal

pub returns-clause-there : goal.returns-clause-there
returns-clause-there c = λ s a objects id r has found. let o = object_of s a objects id r has found in (o.0, o.1, o.2.units)

pub returns-clause-missing : goal.returns-clause-missing
returns-clause-missing c = λ s a objects id has none. object_missing s a objects id has none
