use Rattle.std.proofs.Common.{[]}
use Rattle.zr_base.specs.declared.refusal.Refusal.TheVariants as refusal
use Rattle.zr_script.specs.declared.command.Command.TheVariants.{Sync}
use Rattle.zr_run_rows.proofs.sessions.DamagedPoolPool.command.Goals as goal

pub returns-clause-may_damage : goal.returns-clause-may_damage
returns-clause-may_damage g c = λ at expected found met. (record { shelf = record { paths = []; disks = [] }; state = tt }, Sync, refusal.Damaged at expected found, tt)
