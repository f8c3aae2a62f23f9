use Rattle.zr_recorded.proofs.Crashes.{crash_shows}
use Rattle.zr_sync.specs.Trees.{head_tree}
use Rattle.zr_recorded.proofs.laws.a_crash_shows_the_pool.Goals as goal

pub returns : goal.returns
returns c = λ paths sizes u pool objects before now was from serves unsaved shown head h wrote. crash_shows paths sizes u pool objects (head_tree pool.head h.0) (Unit {0}) before now was from serves unsaved shown head h.1 wrote
