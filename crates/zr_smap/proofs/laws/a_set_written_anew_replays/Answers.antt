use Rattle.zr_rules.specs.Logs.{longest_run}
use Rattle.zr_smap.proofs.Replaying.{anew_replays}
use Rattle.zr_smap.proofs.laws.a_set_written_anew_replays.Goals as goal

pub returns : goal.returns
returns c = λ version dev es words anew m. anew_replays (longest_run version) es anew.runs m anew.cut
