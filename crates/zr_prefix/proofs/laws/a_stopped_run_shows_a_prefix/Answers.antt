use Rattle.std.proofs.Common.{List, ℕ}
use Rattle.zr_model.specs.Runs.{Asks}
use Rattle.zr_prefix.proofs.Joining.{stopped}
use Rattle.zr_script.specs.Lines.{lines_of}
use Rattle.zr_script.specs.declared.command.Command.{Command}
use Rattle.zr_session.specs.Agenda.{IsGiven, agenda}
use Rattle.zr_session.specs.Generated.{due_in}
use Rattle.zr_session.specs.declared.replies.Replies.TheVariants.{Kept, Sent}
use Rattle.zr_prefix.proofs.laws.a_stopped_run_shows_a_prefix.Goals as goal

pub returns-clause-given : goal.returns-clause-given
returns-clause-given c = λ rounds opening stand m told. stopped (List ℕ) Asks Sent (agenda rounds (lines_of opening.left)) opening stand m told

pub returns-clause-generated : goal.returns-clause-generated
returns-clause-generated c = λ task opening stand m told. stopped Command IsGiven Kept (due_in task) opening stand m told
