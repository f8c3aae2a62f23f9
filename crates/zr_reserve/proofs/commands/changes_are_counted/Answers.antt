use Rattle.zr_reserve.proofs.Commanded.{all_changes}
use Rattle.zr_reserve.proofs.commands.changes_are_counted.Goals as goal

pub returns : goal.returns
returns c = λ old new changes h l. all_changes changes old new l h
