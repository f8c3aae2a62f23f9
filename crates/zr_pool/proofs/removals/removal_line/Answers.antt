use Rattle.std.proofs.Common.{◌≡◌, ◌∙◌, inl, inr, true, false, map, Some, Err, refl, ap, sym, subst}
use Rattle.std.proofs.lemmas.Result.{err_from_is_err_and}
use Rattle.zr_base.specs.declared.refusal.Refusal.{Refusal}
use Rattle.zr_moves.specs.Answers.{leave_at, with_devs}
use Rattle.zr_removal.proofs.Condensed.{step_keeps}
use Rattle.zr_removal.specs.Refusals.{IsRemoveRefusal}
use Rattle.zr_script.specs.declared.command.Command.{Command}
use Rattle.zr_script.specs.declared.command.Command.TheVariants as cmd
use Rattle.zr_script.specs.declared.reply.Reply.{Reply}
use Rattle.zr_script.specs.declared.reply.Reply.TheVariants as reply
use Rattle.zr_pool.specs.Accounts.{IsRemovable, IsRemovalCause, Refuses, TakesAway, Turns}
use Rattle.zr_sync.proofs.Leading.{untold}
use Rattle.zr_sync.specs.States.{HoldsState}
use Rattle.zr_last.proofs.Lasting.{same_last}
use Rattle.zr_last.specs.Last.{KeepsRoot}
use Rattle.zr_lines.specs.Stops.{OpensNoUnit}
use Rattle.zr_sync.specs.Writes.{WritesIntoFree}
use Rattle.zr_sync.specs.declared.open.OpenPool.{OpenPool}
use Rattle.zr_pool.specs.Behind.{HasReset, WritesTold, copies_or_returns, ends_no_removal, is_resetting, is_return, is_writing_trees}
use Rattle.zr_pool.specs.Plain.{IsPlainOf, is_background}
use Rattle.zr_pool.specs.Replies.{TellsFault}
use Rattle.zr_pool.proofs.Acting.{back_ckpt, condense_acts, condense_no_move, condense_no_return, condensed_root, evac_acts, evac_copies, evac_moves, evac_returns, evac_shows, removed_as}
use Rattle.zr_pool.proofs.Blaming.{step_blames}
use Rattle.zr_pool.proofs.Groups.{left_to_copy, no_way, same_world}
use Rattle.zr_pool.proofs.Staying.{same_state, told_anew}
use Rattle.zr_pool.proofs.Leavings.{back_told, begins_told, condense_turn, evac_turn, evacuates_told, refusal_same, removal_more}
use Rattle.zr_pool.proofs.Refused.{fault_same}
use Rattle.zr_pool.proofs.Resets.{begun}
use Rattle.zr_shelf.proofs.Doings.{writes_nothing}
use Rattle.zr_shelf.proofs.Runs.{still}
use Rattle.zr_sync.specs.Trees.{HasTrees}
use Rattle.zr_sync.specs.Trees.Stage.{Had}
use Rattle.zr_vdev.specs.Stores.{IsWriteInto, is_open_role}
use Rattle.zr_vdev.specs.declared.kind.Kind.TheVariants.{Block}
use Rattle.zr_pool.proofs.removals.removal_line.Goals as goal

pub returns-in_ok-step_condense-in-StepCondense-clause-pool : goal.returns-in_ok-step_condense-in-StepCondense-clause-pool
returns-in_ok-step_condense-in-StepCondense-clause-pool g c = c.in_ok-step_condense-in-StepCondense.ensures.pool (g.S.Shelf.sizes c.args.shelf.now) c.requires.pool

-- ---- the account of a line that is done

pub returns-in_ok-remove-in-Remove-clause-account : goal.returns-in_ok-remove-in-Remove-clause-account
returns-in_ok-remove-in-Remove-clause-account g c = λ told.
    let paths = c.args.paths.now in
    let shelf = c.args.shelf.now in
    let sizes = g.S.Shelf.sizes shelf in
    let disks = (g.S.Shelf.world shelf).now.seen in
    let now = g.S.Shelf.world c.remove.new.shelf in
    let x = c.args.pool.now in
    let y = c.remove.new.pool in
    let dev = c.in-Remove.dev in
    let d = c.in_ok-dev-in-Remove.dev in
    let known = c.in_ok-dev-in-Remove.ensures in
    let at = known.device in
    let done = c.in_ok-remove-in-Remove.ensures in
    let removable : IsRemovable paths x dev d = record { may = record { clear = known.clear; alone = known.alone }; slot = at.0; named = at.1; on = at.2; other = done.other } in
    let taken : TakesAway paths sizes now.now.seen dev x y = record { device = d; removable = removable; enough = done.enough; begins = begins_told (g.S.Shelf.tells shelf) told sizes now x y d done.begins } in
    subst (λ (command : Command). Turns paths sizes disks x command reply.Done now.now.seen y) (sym c.in-Remove.is) taken

pub returns-in_ok-cancel-in-Cancel-clause-account : goal.returns-in_ok-cancel-in-Cancel-clause-account
returns-in_ok-cancel-in-Cancel-clause-account g c = λ told.
    let paths = c.args.paths.now in
    let shelf = c.args.shelf.now in
    let sizes = g.S.Shelf.sizes shelf in
    let disks = (g.S.Shelf.world shelf).now.seen in
    let now = g.S.Shelf.world c.cancel.new.shelf in
    let x = c.args.pool.now in
    let y = c.cancel.new.pool in
    let d = c.in_ok-cancel-in-Cancel.field-0 in
    let done = c.in_ok-cancel-in-Cancel.ensures in
    subst (λ (command : Command). Turns paths sizes disks x command (reply.Cancelled d) now.now.seen y) (sym c.in-Cancel.is)
    (d, refl, back_told (g.S.Shelf.tells shelf) told sizes now x y d done.leaving done.cancels)

pub returns-in_ok-step_evac-in-StepEvac-clause-account : goal.returns-in_ok-step_evac-in-StepEvac-clause-account
returns-in_ok-step_evac-in-StepEvac-clause-account g c = λ told.
    let paths = c.args.paths.now in
    let shelf = c.args.shelf.now in
    let sizes = g.S.Shelf.sizes shelf in
    let before = g.S.Shelf.world shelf in
    let now = g.S.Shelf.world c.step_evac.new.shelf in
    let x = c.args.pool.now in
    let y = c.step_evac.new.pool in
    let done = c.in_ok-step_evac-in-StepEvac.field-0 in
    subst (λ (command : Command). Turns paths sizes before.now.seen x command c.evac_reply.result now.now.seen y) (sym c.in-StepEvac.is)
    (subst (λ (answer : Reply). Turns paths sizes before.now.seen x cmd.StepEvac answer now.now.seen y) (sym c.evac_reply.ensures)
    (evac_turn paths sizes before.now.seen now.now.seen x y done
    (evacuates_told (g.S.Shelf.tells shelf) told c.args.pick.now.policy sizes (g.S.Shelf.counts shelf) (g.S.Shelf.counts c.step_evac.new.shelf) before now x y done c.in_ok-step_evac-in-StepEvac.ensures.steps)))

pub returns-in_ok-step_condense-in-StepCondense-clause-account : goal.returns-in_ok-step_condense-in-StepCondense-clause-account
returns-in_ok-step_condense-in-StepCondense-clause-account g c = λ told.
    let paths = c.args.paths.now in
    let shelf = c.args.shelf.now in
    let sizes = g.S.Shelf.sizes shelf in
    let disks = (g.S.Shelf.world shelf).now.seen in
    let x = c.args.pool.now in
    let y = c.step_condense.new.pool in
    let done = c.in_ok-step_condense-in-StepCondense.field-0 in
    let step = c.in_ok-step_condense-in-StepCondense.ensures in
    subst (λ (command : Command). Turns paths sizes disks x command c.condense_reply.result disks y) (sym c.in-StepCondense.is)
    (subst (λ (answer : Reply). Turns paths sizes disks x cmd.StepCondense answer disks y) (sym c.condense_reply.ensures)
    (condense_turn paths sizes disks disks x y done (record { due = step.due; condenses = step.condenses })))

-- ---- and of one that is refused

pub returns-in_err-dev-in-Remove-clause-account_no : goal.returns-in_err-dev-in-Remove-clause-account_no
returns-in_err-dev-in-Remove-clause-account_no g c = λ told r is.
    let paths = c.args.paths.now in
    let shelf = c.args.shelf.now in
    let x = c.args.pool.now in
    let dev = c.in-Remove.dev in
    let q = err_from_is_err_and c.from_residual.result c.from_residual.ensures.1 in
    let e = refusal_same c.in_err-dev-in-Remove.field-0.0 r q.0 c.from_residual.result q.1 q.2 is in
    let cause = subst (λ (n : Refusal). IsRemovalCause paths x dev (λ d why. ⊥) n) e c.in_err-dev-in-Remove.ensures.why in
    subst (λ (command : Command). Refuses paths (g.S.Shelf.sizes shelf) (g.S.Shelf.world shelf).now.seen x command r x) (sym c.in-Remove.is)
    (refl, removal_more paths x dev (IsRemoveRefusal x) r cause)

pub returns-in_err-remove-in-Remove-clause-account_no : goal.returns-in_err-remove-in-Remove-clause-account_no
returns-in_err-remove-in-Remove-clause-account_no g c = λ told r is.
    let paths = c.args.paths.now in
    let shelf = c.args.shelf.now in
    let x = c.args.pool.now in
    let res = c.from_residual-in_err-remove-in-Remove in
    let q = err_from_is_err_and res.result res.ensures.1 in
    let e = fault_same c.in_err-remove-in-Remove.field-0.0 q.0 r res.result q.1 q.2 is in
    let was = c.in_err-remove-in-Remove.was ∙ ap Err e in
    let known = c.in_ok-dev-in-Remove.ensures in
    let at = known.device in
    subst (λ (command : Command). Refuses paths (g.S.Shelf.sizes shelf) (g.S.Shelf.world shelf).now.seen x command r c.remove.new.pool) (sym c.in-Remove.is)
    (c.remove.ensures.unchanged r was, inr (record { clear = known.clear; alone = known.alone }, inr (at.0, at.1, inr (c.in_ok-dev-in-Remove.dev, at.2, c.remove.ensures.refused r was))))

pub returns-in_err-cancel-in-Cancel-clause-account_no : goal.returns-in_err-cancel-in-Cancel-clause-account_no
returns-in_err-cancel-in-Cancel-clause-account_no g c = λ told r is.
    let shelf = c.args.shelf.now in
    let res = c.from_residual-in_err-cancel-in-Cancel in
    let q = err_from_is_err_and res.result res.ensures.1 in
    let e = fault_same c.in_err-cancel-in-Cancel.field-0.0 q.0 r res.result q.1 q.2 is in
    let was = c.in_err-cancel-in-Cancel.was ∙ ap Err e in
    subst (λ (command : Command). Refuses c.args.paths.now (g.S.Shelf.sizes shelf) (g.S.Shelf.world shelf).now.seen c.args.pool.now command r c.cancel.new.pool) (sym c.in-Cancel.is)
    (c.cancel.ensures.unchanged r was, c.cancel.ensures.refused r was)

pub returns-in_err-step_evac-in-StepEvac-clause-account_no : goal.returns-in_err-step_evac-in-StepEvac-clause-account_no
returns-in_err-step_evac-in-StepEvac-clause-account_no g c = λ told r is.
    let shelf = c.args.shelf.now in
    let res = c.from_residual-in_err-step_evac-in-StepEvac in
    let q = err_from_is_err_and res.result res.ensures.1 in
    let e = fault_same c.in_err-step_evac-in-StepEvac.field-0.0 q.0 r res.result q.1 q.2 is in
    let was = c.in_err-step_evac-in-StepEvac.was ∙ ap Err e in
    subst (λ (command : Command). Refuses c.args.paths.now (g.S.Shelf.sizes shelf) (g.S.Shelf.world shelf).now.seen c.args.pool.now command r c.step_evac.new.pool) (sym c.in-StepEvac.is)
    (c.step_evac.ensures.unchanged r was, c.step_evac.ensures.refused r was)

pub returns-in_err-step_condense-in-StepCondense-clause-account_no : goal.returns-in_err-step_condense-in-StepCondense-clause-account_no
returns-in_err-step_condense-in-StepCondense-clause-account_no g c = λ told r is.
    let shelf = c.args.shelf.now in
    let res = c.from_residual-in_err-step_condense-in-StepCondense in
    let q = err_from_is_err_and res.result res.ensures.1 in
    let e = fault_same c.in_err-step_condense-in-StepCondense.field-0.0 q.0 r res.result q.1 q.2 is in
    let was = c.in_err-step_condense-in-StepCondense.was ∙ ap Err e in
    subst (λ (command : Command). Refuses c.args.paths.now (g.S.Shelf.sizes shelf) (g.S.Shelf.world shelf).now.seen c.args.pool.now command r c.step_condense.new.pool) (sym c.in-StepCondense.is)
    (c.step_condense.ensures.unchanged r was, c.step_condense.ensures.refused r was)

-- ---- what tells of a fault

pub returns-in_ok-remove-in-Remove-clause-blamed : goal.returns-in_ok-remove-in-Remove-clause-blamed
returns-in_ok-remove-in-Remove-clause-blamed g c = λ tells. absurd (subst (λ (command : Command). TellsFault command reply.Done) c.in-Remove.is tells)

pub returns-in_ok-cancel-in-Cancel-clause-blamed : goal.returns-in_ok-cancel-in-Cancel-clause-blamed
returns-in_ok-cancel-in-Cancel-clause-blamed g c = λ tells. absurd (subst (λ (command : Command). TellsFault command (reply.Cancelled c.in_ok-cancel-in-Cancel.field-0)) c.in-Cancel.is tells)

pub returns-in_ok-step_evac-in-StepEvac-clause-blamed : goal.returns-in_ok-step_evac-in-StepEvac-clause-blamed
returns-in_ok-step_evac-in-StepEvac-clause-blamed g c = λ tells.
    let shelf = c.args.shelf.now in
    let new = c.step_evac.new.shelf in
    let done = c.in_ok-step_evac-in-StepEvac.field-0 in
    let line = subst (λ (command : Command). TellsFault command c.evac_reply.result) c.in-StepEvac.is tells in
    step_blames c.args.pick.now.policy (g.S.Shelf.sizes shelf) (g.S.Shelf.tells shelf) (g.S.Shelf.counts shelf) (g.S.Shelf.counts new) (g.S.Shelf.world shelf) (g.S.Shelf.world new) c.args.pool.now c.step_evac.new.pool done c.in_ok-step_evac-in-StepEvac.ensures.steps
    (subst (λ (answer : Reply). TellsFault cmd.StepEvac answer) c.evac_reply.ensures line)

pub returns-in_ok-step_condense-in-StepCondense-clause-blamed : goal.returns-in_ok-step_condense-in-StepCondense-clause-blamed
returns-in_ok-step_condense-in-StepCondense-clause-blamed g c = λ tells. absurd (subst (λ (command : Command). TellsFault command c.condense_reply.result) c.in-StepCondense.is tells)

-- ---- the objects

pub returns-in_ok-remove-in-Remove-clause-acts : goal.returns-in_ok-remove-in-Remove-clause-acts
returns-in_ok-remove-in-Remove-clause-acts g c = λ copies stand p h.
    let new = c.remove.new.shelf in
    let done = c.in_ok-remove-in-Remove.ensures in
    let dev = c.in-Remove.dev in
    let q = with_devs p (map (leave_at dev) p.devs) in
    removed_as copies (HoldsState (g.S.Shelf.tells new) (g.S.Shelf.world new).now.seen c.remove.new.pool) p c.args.command.now dev c.in-Remove.is
    (same_state (g.S.Shelf.tells new) (g.S.Shelf.world new).now.seen c.args.pool.now c.remove.new.pool p q h.checkpoint done.ckpt refl refl (done.objects p.objects h.objects))

pub returns-in_ok-cancel-in-Cancel-clause-acts : goal.returns-in_ok-cancel-in-Cancel-clause-acts
returns-in_ok-cancel-in-Cancel-clause-acts g c = λ copies stand p h.
    let new = c.cancel.new.shelf in
    subst (λ (command : Command). IsPlainOf copies (HoldsState (g.S.Shelf.tells new) (g.S.Shelf.world new).now.seen c.cancel.new.pool) p command (reply.Cancelled c.in_ok-cancel-in-Cancel.field-0)) (sym c.in-Cancel.is)
    (record {
      after = p;
      holds = same_state (g.S.Shelf.tells new) (g.S.Shelf.world new).now.seen c.args.pool.now c.cancel.new.pool p p h.checkpoint (back_ckpt (g.S.Shelf.sizes c.args.shelf.now) (g.S.Shelf.tells c.args.shelf.now) (g.S.Shelf.world new) c.args.pool.now c.cancel.new.pool c.in_ok-cancel-in-Cancel.field-0 c.in_ok-cancel-in-Cancel.ensures.cancels) refl refl (c.in_ok-cancel-in-Cancel.ensures.objects p.objects h.objects);
      step = (record { objects = refl; saved = refl; discarding = refl }, refl);
    })

pub returns-in_ok-step_evac-in-StepEvac-clause-acts : goal.returns-in_ok-step_evac-in-StepEvac-clause-acts
returns-in_ok-step_evac-in-StepEvac-clause-acts g c = λ copies stand p h.
    let shelf = c.args.shelf.now in
    let new = c.step_evac.new.shelf in
    let x = c.args.pool.now in
    let y = c.step_evac.new.pool in
    let Holds = HoldsState (g.S.Shelf.tells new) (g.S.Shelf.world new).now.seen y in
    let done = c.in_ok-step_evac-in-StepEvac.field-0 in
    let step = c.in_ok-step_evac-in-StepEvac.ensures in
    subst (λ (command : Command). IsPlainOf copies Holds p command c.evac_reply.result) (sym c.in-StepEvac.is)
    (subst (λ (answer : Reply). IsPlainOf copies Holds p cmd.StepEvac answer) (sym c.evac_reply.ensures)
    (evac_acts copies c.args.pick.now.policy (g.S.Shelf.sizes shelf) (g.S.Shelf.tells shelf) (g.S.Shelf.counts shelf) (g.S.Shelf.counts new) (g.S.Shelf.world shelf) (g.S.Shelf.world new) x y Holds p done step.steps
    (λ ckpt n is. same_state (g.S.Shelf.tells new) (g.S.Shelf.world new).now.seen x y p p h.checkpoint ckpt refl refl (step.objects p.objects h.objects n is))
    (λ ckpt d is. same_state (g.S.Shelf.tells new) (g.S.Shelf.world new).now.seen x y p p h.checkpoint ckpt refl refl (step.back_objects p.objects h.objects d is))
    (λ told ckpt d is. same_state (g.S.Shelf.tells new) (g.S.Shelf.world new).now.seen x y p p h.checkpoint ckpt refl refl (step.gone_objects (stand told) p.objects h.objects d is))))

pub returns-in_ok-step_condense-in-StepCondense-clause-acts : goal.returns-in_ok-step_condense-in-StepCondense-clause-acts
returns-in_ok-step_condense-in-StepCondense-clause-acts g c = λ copies stand p h.
    let shelf = c.args.shelf.now in
    let tells = g.S.Shelf.tells shelf in
    let disks = (g.S.Shelf.world shelf).now.seen in
    let x = c.args.pool.now in
    let y = c.step_condense.new.pool in
    let Holds = HoldsState tells disks y in
    let done = c.in_ok-step_condense-in-StepCondense.field-0 in
    let step = c.in_ok-step_condense-in-StepCondense.ensures in
    let ckpt = (step_keeps x.space y.space done step.condenses.mapping.step).ckpt in
    let holds = told_anew (Unit {0}) tells disks y p h.objects.held.told (same_state (Unit {0}) disks x y p p h.checkpoint ckpt refl refl (step.objects disks p.objects (untold tells disks x p.objects h.objects))) in
    subst (λ (command : Command). IsPlainOf copies Holds p command c.condense_reply.result) (sym c.in-StepCondense.is)
    (subst (λ (answer : Reply). IsPlainOf copies Holds p cmd.StepCondense answer) (sym c.condense_reply.ensures) (condense_acts copies Holds p done holds))

-- ---- what the disks show

pub returns-in_ok-remove-in-Remove-clause-shown : goal.returns-in_ok-remove-in-Remove-clause-shown
returns-in_ok-remove-in-Remove-clause-shown g c = λ told. c.in_ok-remove-in-Remove.ensures.shown told

pub returns-in_ok-cancel-in-Cancel-clause-shown : goal.returns-in_ok-cancel-in-Cancel-clause-shown
returns-in_ok-cancel-in-Cancel-clause-shown g c = λ told. c.in_ok-cancel-in-Cancel.ensures.shown told

pub returns-in_ok-step_evac-in-StepEvac-clause-shown : goal.returns-in_ok-step_evac-in-StepEvac-clause-shown
returns-in_ok-step_evac-in-StepEvac-clause-shown g c = λ told.
    let done = c.in_ok-step_evac-in-StepEvac.ensures in
    evac_shows _ c.in_ok-step_evac-in-StepEvac.field-0 (done.shown told) (done.back_shown told) (done.gone_shown told)

pub returns-in_ok-step_condense-in-StepCondense-clause-shown : goal.returns-in_ok-step_condense-in-StepCondense-clause-shown
returns-in_ok-step_condense-in-StepCondense-clause-shown g c = λ told h.
    same_last (g.S.Shelf.world c.args.shelf.now).now.seen c.args.pool.now c.step_condense.new.pool (condensed_root c.args.pool.now c.step_condense.new.pool c.in_ok-step_condense-in-StepCondense.field-0 c.in_ok-step_condense-in-StepCondense.ensures.condenses) h

pub returns-in_ok-remove-in-Remove-clause-resets : goal.returns-in_ok-remove-in-Remove-clause-resets
returns-in_ok-remove-in-Remove-clause-resets g c = λ on p h.
    let new = c.remove.new.shelf in
    let done = c.in_ok-remove-in-Remove.ensures in
    record { leaves = done.ends p.objects h.objects; holds = untold (g.S.Shelf.tells new) (g.S.Shelf.world new).now.seen c.remove.new.pool p.objects (done.objects p.objects h.objects) }

pub returns-in_ok-cancel-in-Cancel-clause-resets : goal.returns-in_ok-cancel-in-Cancel-clause-resets
returns-in_ok-cancel-in-Cancel-clause-resets g c = λ on p h. no_way (subst (λ (command : Command). is_resetting command ≡ true) c.in-Cancel.is on)

pub returns-in_ok-step_evac-in-StepEvac-clause-resets : goal.returns-in_ok-step_evac-in-StepEvac-clause-resets
returns-in_ok-step_evac-in-StepEvac-clause-resets g c = λ on p h. no_way (subst (λ (command : Command). is_resetting command ≡ true) c.in-StepEvac.is on)

pub returns-in_ok-step_condense-in-StepCondense-clause-resets : goal.returns-in_ok-step_condense-in-StepCondense-clause-resets
returns-in_ok-step_condense-in-StepCondense-clause-resets g c = λ on p h. no_way (subst (λ (command : Command). is_resetting command ≡ true) c.in-StepCondense.is on)

-- ---- a removal that was given up

pub returns-in_ok-remove-in-Remove-clause-comes_back : goal.returns-in_ok-remove-in-Remove-clause-comes_back
returns-in_ok-remove-in-Remove-clause-comes_back g c = λ p h on. no_way on

pub returns-in_ok-cancel-in-Cancel-clause-comes_back : goal.returns-in_ok-cancel-in-Cancel-clause-comes_back
returns-in_ok-cancel-in-Cancel-clause-comes_back g c = λ p h on.
    let new = c.cancel.new.shelf in
    let done = c.in_ok-cancel-in-Cancel.ensures in
    record { leaves = done.ends p.objects h.objects; holds = untold (g.S.Shelf.tells new) (g.S.Shelf.world new).now.seen c.cancel.new.pool p.objects (done.objects p.objects h.objects) }

pub returns-in_ok-step_evac-in-StepEvac-clause-comes_back : goal.returns-in_ok-step_evac-in-StepEvac-clause-comes_back
returns-in_ok-step_evac-in-StepEvac-clause-comes_back g c = λ p h on.
    let new = c.step_evac.new.shelf in
    let y = c.step_evac.new.pool in
    let done = c.in_ok-step_evac-in-StepEvac.ensures in
    evac_returns (HasReset y (g.S.Shelf.world new).now p.objects) c.in_ok-step_evac-in-StepEvac.field-0 c.args.command.now
    (λ d is. record { leaves = done.back_ends p.objects h.objects d is; holds = untold (g.S.Shelf.tells new) (g.S.Shelf.world new).now.seen y p.objects (done.back_objects p.objects h.objects d is) })
    (subst (λ (answer : Reply). is_return answer c.args.command.now ≡ true) c.evac_reply.ensures on)

pub returns-in_ok-step_condense-in-StepCondense-clause-comes_back : goal.returns-in_ok-step_condense-in-StepCondense-clause-comes_back
returns-in_ok-step_condense-in-StepCondense-clause-comes_back g c = λ p h on. absurd (condense_no_return c.in_ok-step_condense-in-StepCondense.field-0 c.args.command.now (subst (λ (answer : Reply). is_return answer c.args.command.now ≡ true) c.condense_reply.ensures on))

-- ---- a step in the background

pub returns-in_ok-remove-in-Remove-clause-background : goal.returns-in_ok-remove-in-Remove-clause-background
returns-in_ok-remove-in-Remove-clause-background g c = λ told on. no_way (subst (λ (command : Command). is_background command reply.Done ≡ true) c.in-Remove.is on)

pub returns-in_ok-cancel-in-Cancel-clause-background : goal.returns-in_ok-cancel-in-Cancel-clause-background
returns-in_ok-cancel-in-Cancel-clause-background g c = λ told on. no_way (subst (λ (command : Command). is_background command (reply.Cancelled c.in_ok-cancel-in-Cancel.field-0) ≡ true) c.in-Cancel.is on)

pub returns-in_ok-step_evac-in-StepEvac-clause-background : goal.returns-in_ok-step_evac-in-StepEvac-clause-background
returns-in_ok-step_evac-in-StepEvac-clause-background g c = λ told on.
    let step = c.in_ok-step_evac-in-StepEvac.ensures in
    let x = c.args.pool.now in
    let y = c.step_evac.new.pool in
    evac_copies (WritesIntoFree x (g.S.Shelf.world c.args.shelf.now) (g.S.Shelf.world c.step_evac.new.shelf) × OpensNoUnit x y) c.in_ok-step_evac-in-StepEvac.field-0
    (λ n is. let rest = step.rest n is in
    let root : KeepsRoot x y = record { last = ap (λ (p : OpenPool). p.last) rest; guid = ap (λ (p : OpenPool). p.guid) rest; table = ap (λ (p : OpenPool). p.table) rest } in
    (step.written told n is, record { root = root; units = step.opens n is }))
    (subst (λ (answer : Reply). is_background cmd.StepEvac answer ≡ true) c.evac_reply.ensures (subst (λ (command : Command). is_background command c.evac_reply.result ≡ true) c.in-StepEvac.is on))

pub returns-in_ok-step_condense-in-StepCondense-clause-background : goal.returns-in_ok-step_condense-in-StepCondense-clause-background
returns-in_ok-step_condense-in-StepCondense-clause-background g c = λ told on.
    let x = c.args.pool.now in
    let y = c.step_condense.new.pool in
    let step = c.in_ok-step_condense-in-StepCondense.ensures in
    (writes_nothing (IsWriteInto Block x.table.slots x.space) (g.S.Shelf.world c.args.shelf.now), record { root = condensed_root x y c.in_ok-step_condense-in-StepCondense.field-0 step.condenses; units = λ d u is. ap is_open_role (sym (step.roles d u)) ∙ is })

-- ---- units that were copied, and a removal that was given up

pub returns-in_ok-remove-in-Remove-clause-trees : goal.returns-in_ok-remove-in-Remove-clause-trees
returns-in_ok-remove-in-Remove-clause-trees g c = λ told on. no_way (subst (λ (command : Command). copies_or_returns command reply.Done ≡ true) c.in-Remove.is on)

pub returns-in_ok-cancel-in-Cancel-clause-trees : goal.returns-in_ok-cancel-in-Cancel-clause-trees
returns-in_ok-cancel-in-Cancel-clause-trees g c = λ told on stood. c.in_ok-cancel-in-Cancel.ensures.trees stood told

pub returns-in_ok-step_evac-in-StepEvac-clause-trees : goal.returns-in_ok-step_evac-in-StepEvac-clause-trees
returns-in_ok-step_evac-in-StepEvac-clause-trees g c = λ told on stood.
    let step = c.in_ok-step_evac-in-StepEvac.ensures in
    evac_moves (HasTrees Had (Unit {0}) (g.S.Shelf.world c.step_evac.new.shelf).now.seen c.step_evac.new.pool) c.in_ok-step_evac-in-StepEvac.field-0 (λ n is. step.trees stood told n is) (λ d is. step.back_trees stood told d is)
    (subst (λ (answer : Reply). copies_or_returns cmd.StepEvac answer ≡ true) c.evac_reply.ensures (subst (λ (command : Command). copies_or_returns command c.evac_reply.result ≡ true) c.in-StepEvac.is on))

pub returns-in_ok-step_condense-in-StepCondense-clause-trees : goal.returns-in_ok-step_condense-in-StepCondense-clause-trees
returns-in_ok-step_condense-in-StepCondense-clause-trees g c = λ told on.
    absurd (condense_no_move c.in_ok-step_condense-in-StepCondense.field-0 (subst (λ (answer : Reply). copies_or_returns cmd.StepCondense answer ≡ true) c.condense_reply.ensures (subst (λ (command : Command). copies_or_returns command c.condense_reply.result ≡ true) c.in-StepCondense.is on)))

-- ---- copies keep the bytes of their units

pub returns-in_ok-step_condense-in-StepCondense-clause-copies : goal.returns-in_ok-step_condense-in-StepCondense-clause-copies
returns-in_ok-step_condense-in-StepCondense-clause-copies g c = λ told h. c.in_ok-step_condense-in-StepCondense.ensures.copies (g.S.Shelf.world c.args.shelf.now).now.seen h

-- ---- a step of condensing writes nothing

pub returns-in_ok-step_condense-in-StepCondense-clause-still : goal.returns-in_ok-step_condense-in-StepCondense-clause-still
returns-in_ok-step_condense-in-StepCondense-clause-still g c = λ step. same_world (g.S.Shelf.world c.args.shelf.now) (g.S.Shelf.world c.args.shelf.now) refl

pub returns-in_err-step_condense-in-StepCondense-clause-still : goal.returns-in_err-step_condense-in-StepCondense-clause-still
returns-in_err-step_condense-in-StepCondense-clause-still g c = λ step. same_world (g.S.Shelf.world c.args.shelf.now) (g.S.Shelf.world c.args.shelf.now) refl

-- ---- a removal that begins, wherever it stops

pub returns-in_err-dev-in-Remove-clause-stops_reset : goal.returns-in_err-dev-in-Remove-clause-stops_reset
returns-in_err-dev-in-Remove-clause-stops_reset g c = λ on p h. inl (inl (inl (still (g.S.Shelf.world c.args.shelf.now) (g.S.Shelf.world c.args.shelf.now) refl)))

pub returns-in_ok-remove-in-Remove-clause-stops_reset : goal.returns-in_ok-remove-in-Remove-clause-stops_reset
returns-in_ok-remove-in-Remove-clause-stops_reset g c = λ on p h.
    let old = c.args.shelf.now in
    let dev = c.in_ok-dev-in-Remove.ensures in
    inl (begun (WritesTold c.args.command.now c.args.pool.now (g.S.Shelf.world old)) (λ told. no_way (subst (λ (command : Command). is_writing_trees command ≡ true) c.in-Remove.is told.0)) (g.S.Shelf.sizes old) p.objects c.args.pool.now c.in_ok-dev-in-Remove.dev (g.S.Shelf.world old) (g.S.Shelf.world c.remove.new.shelf) c.requires.pool dev.on dev.known (c.remove.ensures.stops p.objects h.objects))

pub returns-in_err-remove-in-Remove-clause-stops_reset : goal.returns-in_err-remove-in-Remove-clause-stops_reset
returns-in_err-remove-in-Remove-clause-stops_reset g c = λ on p h.
    let old = c.args.shelf.now in
    let dev = c.in_ok-dev-in-Remove.ensures in
    inl (begun (WritesTold c.args.command.now c.args.pool.now (g.S.Shelf.world old)) (λ told. no_way (subst (λ (command : Command). is_writing_trees command ≡ true) c.in-Remove.is told.0)) (g.S.Shelf.sizes old) p.objects c.args.pool.now c.in_ok-dev-in-Remove.dev (g.S.Shelf.world old) (g.S.Shelf.world c.remove.new.shelf) c.requires.pool dev.on dev.known (c.remove.ensures.stops p.objects h.objects))

pub returns-in_ok-cancel-in-Cancel-clause-stops_reset : goal.returns-in_ok-cancel-in-Cancel-clause-stops_reset
returns-in_ok-cancel-in-Cancel-clause-stops_reset g c = λ on p h. no_way (subst (λ (command : Command). is_resetting command ≡ true) c.in-Cancel.is on)

pub returns-in_err-cancel-in-Cancel-clause-stops_reset : goal.returns-in_err-cancel-in-Cancel-clause-stops_reset
returns-in_err-cancel-in-Cancel-clause-stops_reset g c = λ on p h. no_way (subst (λ (command : Command). is_resetting command ≡ true) c.in-Cancel.is on)

pub returns-in_ok-step_evac-in-StepEvac-clause-stops_reset : goal.returns-in_ok-step_evac-in-StepEvac-clause-stops_reset
returns-in_ok-step_evac-in-StepEvac-clause-stops_reset g c = λ on p h. no_way (subst (λ (command : Command). is_resetting command ≡ true) c.in-StepEvac.is on)

pub returns-in_err-step_evac-in-StepEvac-clause-stops_reset : goal.returns-in_err-step_evac-in-StepEvac-clause-stops_reset
returns-in_err-step_evac-in-StepEvac-clause-stops_reset g c = λ on p h. no_way (subst (λ (command : Command). is_resetting command ≡ true) c.in-StepEvac.is on)

pub returns-in_ok-step_condense-in-StepCondense-clause-stops_reset : goal.returns-in_ok-step_condense-in-StepCondense-clause-stops_reset
returns-in_ok-step_condense-in-StepCondense-clause-stops_reset g c = λ on p h. no_way (subst (λ (command : Command). is_resetting command ≡ true) c.in-StepCondense.is on)

pub returns-in_err-step_condense-in-StepCondense-clause-stops_reset : goal.returns-in_err-step_condense-in-StepCondense-clause-stops_reset
returns-in_err-step_condense-in-StepCondense-clause-stops_reset g c = λ on p h. no_way (subst (λ (command : Command). is_resetting command ≡ true) c.in-StepCondense.is on)

-- ---- a line that ends no removal, wherever it stops

pub returns-in_err-dev-in-Remove-clause-stops_back : goal.returns-in_err-dev-in-Remove-clause-stops_back
returns-in_err-dev-in-Remove-clause-stops_back g c = λ on p h. no_way (subst (λ (command : Command). ends_no_removal (Some c.args.pool.now) command ≡ true) c.in-Remove.is on)

pub returns-in_ok-remove-in-Remove-clause-stops_back : goal.returns-in_ok-remove-in-Remove-clause-stops_back
returns-in_ok-remove-in-Remove-clause-stops_back g c = λ on p h. no_way (subst (λ (command : Command). ends_no_removal (Some c.args.pool.now) command ≡ true) c.in-Remove.is on)

pub returns-in_err-remove-in-Remove-clause-stops_back : goal.returns-in_err-remove-in-Remove-clause-stops_back
returns-in_err-remove-in-Remove-clause-stops_back g c = λ on p h. no_way (subst (λ (command : Command). ends_no_removal (Some c.args.pool.now) command ≡ true) c.in-Remove.is on)

pub returns-in_ok-cancel-in-Cancel-clause-stops_back : goal.returns-in_ok-cancel-in-Cancel-clause-stops_back
returns-in_ok-cancel-in-Cancel-clause-stops_back g c = λ on p h. c.cancel.ensures.stops p.objects h.objects

pub returns-in_err-cancel-in-Cancel-clause-stops_back : goal.returns-in_err-cancel-in-Cancel-clause-stops_back
returns-in_err-cancel-in-Cancel-clause-stops_back g c = λ on p h. c.cancel.ensures.stops p.objects h.objects

pub returns-in_ok-step_evac-in-StepEvac-clause-stops_back : goal.returns-in_ok-step_evac-in-StepEvac-clause-stops_back
returns-in_ok-step_evac-in-StepEvac-clause-stops_back g c = λ on p h. c.step_evac.ensures.stops (left_to_copy c.args.pool.now c.args.command.now c.in-StepEvac.is on) p.objects h.objects

pub returns-in_err-step_evac-in-StepEvac-clause-stops_back : goal.returns-in_err-step_evac-in-StepEvac-clause-stops_back
returns-in_err-step_evac-in-StepEvac-clause-stops_back g c = λ on p h. c.step_evac.ensures.stops (left_to_copy c.args.pool.now c.args.command.now c.in-StepEvac.is on) p.objects h.objects

pub returns-in_ok-step_condense-in-StepCondense-clause-stops_back : goal.returns-in_ok-step_condense-in-StepCondense-clause-stops_back
returns-in_ok-step_condense-in-StepCondense-clause-stops_back g c = λ on p h. inl (writes_nothing (IsWriteInto Block c.args.pool.now.table.slots c.args.pool.now.space) (g.S.Shelf.world c.args.shelf.now))

pub returns-in_err-step_condense-in-StepCondense-clause-stops_back : goal.returns-in_err-step_condense-in-StepCondense-clause-stops_back
returns-in_err-step_condense-in-StepCondense-clause-stops_back g c = λ on p h. inl (writes_nothing (IsWriteInto Block c.args.pool.now.table.slots c.args.pool.now.space) (g.S.Shelf.world c.args.shelf.now))
