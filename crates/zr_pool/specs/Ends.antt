-- How what was done, refused or stopped is told to a run.
use Rattle.std.specs.Prelude.{Bool, true, false, Option, Some, Result, Ok, Err}
use Rattle.zr_command.specs.declared.pool.Stop as model
use Rattle.zr_command.specs.declared.pool.Stop.TheVariants as run
use Rattle.zr_script.specs.declared.command.Command.{Command}
use Rattle.zr_script.specs.declared.command.Command.TheVariants as cmd
use Rattle.zr_script.specs.declared.reply.Reply.{Reply}
use Rattle.zr_script.specs.declared.reply.Reply.TheVariants as reply
use Rattle.zr_sync.specs.declared.fault.Fault.{Fault}
use Rattle.zr_sync.specs.declared.fault.Fault.TheVariants.{No, Stops}
use Rattle.zr_sync.specs.declared.stop.Stop.{Stop}
use Rattle.zr_sync.specs.declared.stop.Stop.TheVariants.{DiskFault, Damaged, NoMemory}

abbrev pub stop_of : Stop → model.Stop
stop_of DiskFault = run.DiskFault
stop_of (Damaged at expected found) = run.Damaged at expected found
stop_of NoMemory = run.NoMemory

-- a refusal is an answer
abbrev pub answer_of : Result (Option Reply) Fault → Result (Option Reply) model.Stop
answer_of (Ok found) = Ok found
answer_of (Err (No r)) = Ok (Some (reply.No r))
answer_of (Err (Stops s)) = Err (stop_of s)

-- a pool is closed by its export, and where the run stops
abbrev pub is_closing : Command → Result (Option Reply) Fault → Bool
is_closing cmd.Export (Ok found) = true
is_closing command (Ok found) = false
is_closing command (Err (Stops s)) = true
is_closing command (Err (No r)) = false
