use Rattle.zr_vdev.proofs.Alike.{copies_stay, metadata_no_copy, commits_no_copy, copies_none}
use Rattle.zr_vdev.proofs.laws.copies_over_commits.Goals as goal

pub returns-clause-metadata : goal.returns-clause-metadata
returns-clause-metadata c = λ disks slots old new keeps stand. copies_stay disks slots old new (metadata_no_copy old new keeps) stand

pub returns-clause-commits : goal.returns-clause-commits
returns-clause-commits c = λ reset disks slots old new ends stand. copies_stay disks slots old new (commits_no_copy reset old new ends) stand

pub returns-clause-none : goal.returns-clause-none
returns-clause-none c = λ disks slots s none. copies_none disks slots s none
