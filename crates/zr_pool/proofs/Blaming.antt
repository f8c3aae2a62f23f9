-- Which answers tell that a device failed.
use Rattle.std.proofs.Common.{◌≡◌, ℕ, List, Option, Some, None, Result, Ok, Err, subst}
use Rattle.std.specs.Prelude.{IfOk, IfSome}
use Rattle.zr_base.specs.Counts.{HasRisen}
use Rattle.zr_base.specs.declared.refusal.Refusal.{Refusal}
use Rattle.zr_base.specs.declared.space.Policy.{Policy}
use Rattle.zr_removal.specs.Steps.{StepsOn}
use Rattle.zr_removal.specs.declared.evacuate.Evacuated.{Evacuated}
use Rattle.zr_removal.specs.declared.evacuate.Evacuated.TheVariants.{Copied, Gone, Cancelled}
use Rattle.zr_script.specs.declared.command.Command.{Command}
use Rattle.zr_script.specs.declared.command.Command.TheVariants as cmd
use Rattle.zr_script.specs.declared.reply.Reply.{Reply}
use Rattle.zr_script.specs.declared.reply.Reply.TheVariants as reply
use Rattle.zr_shelf.specs.Counts.{Counts}
use Rattle.zr_shelf.specs.Moments.{World}
use Rattle.zr_sync.specs.declared.fault.Fault.{Fault}
use Rattle.zr_sync.specs.declared.fault.Fault.TheVariants.{No, Stops}
use Rattle.zr_sync.specs.declared.open.OpenPool.{OpenPool}
use Rattle.zr_pool.specs.Ends.{answer_of}
use Rattle.zr_pool.specs.Replies.{TellsFault, evac_reply}

-- a step of a removal that gives it up
pub step_blames : (policy : Policy) (sizes : List ℕ) (t : Type 0) (c1 c2 : Counts) (before now : World) (old new : OpenPool) (done : Evacuated) → StepsOn policy sizes t c1 c2 before now old new done → TellsFault cmd.StepEvac (evac_reply done) → HasRisen c1.disk c2.disk
step_blames policy sizes t c1 c2 before now old new (Copied n) h tells = absurd tells
step_blames policy sizes t c1 c2 before now old new (Gone d) h tells = absurd tells
step_blames policy sizes t c1 c2 before now old new (Cancelled d) h tells = h.failed

-- no refusal, and no other line that is done
no_blameless : (command : Command) (r : Refusal) → TellsFault command (reply.No r) → ⊥
no_blameless cmd.StepEvac r tells = tells
no_blameless command r tells = tells

done_blameless : (command : Command) → TellsFault command reply.Done → ⊥
done_blameless cmd.StepEvac tells = tells
done_blameless command tells = tells

module _ (command : Command) (Fails : Type 0) where
  -- the answer as the run has it
  pub blamed_answer : (r : Result (Option Reply) Fault) → IfOk r (λ found. IfSome found (λ answer. TellsFault command answer → Fails)) → IfOk (answer_of r) (λ found. IfSome found (λ answer. TellsFault command answer → Fails))
  blamed_answer (Ok None) h = tt
  blamed_answer (Ok (Some answer)) h = h
  blamed_answer (Err (No r)) h = λ tells. absurd (no_blameless command r tells)
  blamed_answer (Err (Stops stop)) h = tt

  -- where no pool was open
  pub blamed_closed : (r : Result (Option Reply) Fault) → IfOk r (λ found. IfSome found (λ answer. answer ≡ reply.Done)) → IfOk r (λ found. IfSome found (λ answer. TellsFault command answer → Fails))
  blamed_closed (Ok None) done = tt
  blamed_closed (Ok (Some answer)) done = λ tells. absurd (done_blameless command (subst (λ (a : Reply). TellsFault command a) done tells))
  blamed_closed (Err fault) done = tt
