-- The replies to steps.
use Rattle.std.specs.Prelude.{ℕ, ◌==◌, if◌then◌else◌}
use Rattle.zr_base.specs.declared.space.Condensed.{Condensed}
use Rattle.zr_base.specs.declared.space.Condensed.TheVariants as condensed
use Rattle.zr_removal.specs.declared.evacuate.Evacuated.{Evacuated}
use Rattle.zr_removal.specs.declared.evacuate.Evacuated.TheVariants.{Copied, Gone, Cancelled}
use Rattle.zr_script.specs.declared.command.Command.{Command}
use Rattle.zr_script.specs.declared.command.Command.TheVariants as cmd
use Rattle.zr_script.specs.declared.reply.Reply.{Reply}
use Rattle.zr_script.specs.declared.reply.Reply.TheVariants as reply

-- the reply to a step of discarding
abbrev pub step_reply : ℕ → Reply
step_reply units = if units == 0 then reply.Ended else reply.Freed units

-- the reply to a step of a removal
abbrev pub evac_reply : Evacuated → Reply
evac_reply (Copied units) = reply.Copied units
evac_reply (Gone index) = reply.Gone index
evac_reply (Cancelled index) = reply.Cancelled index

-- and to one of condensing
abbrev pub condense_reply : Condensed → Reply
condense_reply (condensed.Kept entries) = reply.Kept entries
condense_reply condensed.Done = reply.Ended
condense_reply condensed.Nothing = reply.Ended

-- the answer tells that a device failed: a removal was given up that no line gave up
abbrev pub TellsFault : Command → Reply → Type 0
TellsFault cmd.StepEvac (reply.Cancelled index) = Unit {0}
TellsFault command answer = ⊥
