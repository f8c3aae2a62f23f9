use Rattle.std.proofs.Common.{◌≡◌, inl, true, false, [], ◌∷◌, ◌++◌, ◌==◌, inr, sym, ◌∙◌, ap, subst, refl, Ok, Err}
use Rattle.std.proofs.lemmas.Result.{err_from_is_err_and}
use Rattle.zr_script.specs.declared.command.Command.{Command}
use Rattle.zr_script.specs.declared.command.Command.TheVariants as cmd
use Rattle.zr_sync.proofs.Leading.{untold}
use Rattle.zr_sync.specs.States.{HoldsState}
use Rattle.zr_sync.proofs.Ending.{ends_by}
use Rattle.zr_pool.specs.Plain.{IsPlainRefusal, IsPlainOf}
use Rattle.zr_script.specs.declared.reply.Reply.{Reply}
use Rattle.zr_script.specs.declared.reply.Reply.TheVariants as reply
use Rattle.zr_shelf.specs.Moments.{World}
use Rattle.zr_model.specs.State.{InService}
use Rattle.zr_moves.specs.Answers.{with_devs}
use Rattle.zr_sync.specs.declared.open.OpenPool.{OpenPool}
use Rattle.zr_pool.specs.Accounts.{Refuses, Turns}
use Rattle.zr_pool.proofs.Acting.{plain_refusal, synced_as, added_as, saved_as, given_up_as, stepped_as, upgraded_as}
use Rattle.zr_pool.specs.Turns.{IsOpenAnswer, IsOpenRefusal}
use Rattle.zr_pool.proofs.Groups.{no_way, refused_stays, same_world, step_opens_none}
use Rattle.zr_pool.proofs.Refused.{fault_same, add_refusal, take_cause, take_refusal, give_cause, give_refusal, step_cause, step_refusal}
use Rattle.zr_last.proofs.Lasting.{commit_last, same_last}
use Rattle.zr_shelf.specs.Disks.{Stand}
use Rattle.zr_pool.proofs.Shown.{same_root, still_last}
use Rattle.zr_pool.proofs.Copied.{step_copies}
use Rattle.zr_pool.proofs.Staying.{stays_still, same_state, held_state, discarding_state, stepped_state, objects_told, objects_anew_unit, step_answer, some_units}
use Rattle.zr_pool.proofs.Trees.{recorded_trees, writes_no_trees}
use Rattle.zr_pool.proofs.Resets.{reset_told}
use Rattle.zr_pool.specs.Behind.{WritesTold, is_writing_trees, spares_copies}
use Rattle.zr_sync.proofs.Retelling.{trees_told}
use Rattle.zr_sync.specs.Trees.{HasLastTrees}
use Rattle.zr_sync.specs.Trees.Stage.{Had}
use Rattle.zr_pool.proofs.Tellings.{checks_told, gives_told, stepped_turn, takes_told, upgrades_told}
use Rattle.zr_pool.proofs.lines.pool_line.Goals as goal

pub returns-in_err-add-in-Add-clause-stays : goal.returns-in_err-add-in-Add-clause-stays
returns-in_err-add-in-Add-clause-stays g c = λ p h r is.
    let res = c.from_residual-in_err-add-in-Add in
    let q = err_from_is_err_and res.result res.ensures.1 in
    let e = fault_same c.in_err-add-in-Add.field-0.0 q.0 r res.result q.1 q.2 is in
    let was = c.in_err-add-in-Add.was ∙ ap Err e in
    let told = h.objects.held.told in
    same_state _ _ c.args.pool.now c.add.new.pool p p h.checkpoint (ap (λ (x : OpenPool). x.space.parts.ckpt) (c.add.ensures.unchanged r was)) refl refl
    (stays_still _ _ (g.S.Shelf.world c.args.shelf.now).now.seen (g.S.Shelf.world c.add.new.shelf).now.seen c.args.pool.now c.add.new.pool p.objects (c.add.ensures.told told) (c.add.ensures.unchanged r was) (ap (λ stand. stand.seen) (c.add.ensures.untouched told r was).now) h.objects)

pub returns-in_err-add-in-Add-clause-cause : goal.returns-in_err-add-in-Add-clause-cause
returns-in_err-add-in-Add-clause-cause g c = λ p h r is.
    subst (λ (command : Command). IsPlainRefusal p command r) (sym c.in-Add.is) (plain_refusal p.objects (cmd.Add c.in-Add.dev) r (λ x. tt) (λ x. tt) (λ x. tt))

pub returns-in_err-add-in-Add-clause-refused : goal.returns-in_err-add-in-Add-clause-refused
returns-in_err-add-in-Add-clause-refused g c = λ r is.
    let res = c.from_residual-in_err-add-in-Add in
    let q = err_from_is_err_and res.result res.ensures.1 in
    let e = fault_same c.in_err-add-in-Add.field-0.0 q.0 r res.result q.1 q.2 is in
    subst (λ (command : Command). IsOpenRefusal command r) (sym c.in-Add.is) (add_refusal _ _ _ _ _ r (c.add.ensures.refused r (c.in_err-add-in-Add.was ∙ ap Err e)))

pub returns-in_ok-commit-in-Sync-clause-acts : goal.returns-in_ok-commit-in-Sync-clause-acts
returns-in_ok-commit-in-Sync-clause-acts g c = λ copies p h.
    let Holds = HoldsState (g.S.Shelf.tells c.commit.new.shelf) (g.S.Shelf.world c.commit.new.shelf).now.seen c.commit.new.pool in
    synced_as copies Holds p c.args.command.now _ c.in-Sync.is (same_state _ _ c.args.pool.now c.commit.new.pool p p h.checkpoint c.in_ok-commit-in-Sync.ensures.same.ckpt refl refl (c.in_ok-commit-in-Sync.ensures.stays p.objects h.objects))

pub returns-in_ok-add-in-Add-clause-acts : goal.returns-in_ok-add-in-Add-clause-acts
returns-in_ok-add-in-Add-clause-acts g c = λ copies p h.
    let Holds = HoldsState (g.S.Shelf.tells c.add.new.shelf) (g.S.Shelf.world c.add.new.shelf).now.seen c.add.new.pool in
    added_as copies Holds p c.args.command.now c.in-Add.dev c.in-Add.is (same_state _ _ c.args.pool.now c.add.new.pool p (with_devs p (p.devs ++ InService c.in-Add.dev ∷ [])) h.checkpoint c.in_ok-add-in-Add.ensures.grown.ckpt refl refl (c.in_ok-add-in-Add.ensures.objects p.objects h.objects))

-- ---- a checkpoint

pub returns-in_ok-take-in-Checkpoint-clause-acts : goal.returns-in_ok-take-in-Checkpoint-clause-acts
returns-in_ok-take-in-Checkpoint-clause-acts g c = λ copies p h.
    let tells = g.S.Shelf.tells c.take.new.shelf in
    let disks = (g.S.Shelf.world c.take.new.shelf).now.seen in
    saved_as copies (HoldsState tells disks c.take.new.pool) p c.args.command.now c.in-Checkpoint.is
    (held_state tells disks c.take.new.pool p (record { objects = p.objects; devs = p.devs }) _ c.in_ok-take-in-Checkpoint.ensures.held (c.in_ok-take-in-Checkpoint.ensures.objects p.objects h.objects))

pub returns-in_err-take-in-Checkpoint-clause-stays : goal.returns-in_err-take-in-Checkpoint-clause-stays
returns-in_err-take-in-Checkpoint-clause-stays g c = λ p h r is.
    let res = c.from_residual-in_err-take-in-Checkpoint in
    let q = err_from_is_err_and res.result res.ensures.1 in
    let e = fault_same c.in_err-take-in-Checkpoint.field-0.0 q.0 r res.result q.1 q.2 is in
    let was = c.in_err-take-in-Checkpoint.was ∙ ap Err e in
    let told = h.objects.held.told in
    same_state _ _ c.args.pool.now c.take.new.pool p p h.checkpoint (ap (λ (x : OpenPool). x.space.parts.ckpt) (c.take.ensures.unchanged r was)) refl refl
    (stays_still _ _ (g.S.Shelf.world c.args.shelf.now).now.seen (g.S.Shelf.world c.take.new.shelf).now.seen c.args.pool.now c.take.new.pool p.objects (c.take.ensures.told told) (c.take.ensures.unchanged r was) (ap (λ (w : World). w.now.seen) (c.take.ensures.untouched r was)) h.objects)

pub returns-in_err-take-in-Checkpoint-clause-cause : goal.returns-in_err-take-in-Checkpoint-clause-cause
returns-in_err-take-in-Checkpoint-clause-cause g c = λ p h r is.
    let res = c.from_residual-in_err-take-in-Checkpoint in
    let q = err_from_is_err_and res.result res.ensures.1 in
    let e = fault_same c.in_err-take-in-Checkpoint.field-0.0 q.0 r res.result q.1 q.2 is in
    subst (λ (command : Command). IsPlainRefusal p command r) (sym c.in-Checkpoint.is) (take_cause c.args.pool.now.space.parts.ckpt p c.args.pool.now r h.checkpoint (c.take.ensures.refused r (c.in_err-take-in-Checkpoint.was ∙ ap Err e)))

pub returns-in_err-take-in-Checkpoint-clause-refused : goal.returns-in_err-take-in-Checkpoint-clause-refused
returns-in_err-take-in-Checkpoint-clause-refused g c = λ r is.
    let res = c.from_residual-in_err-take-in-Checkpoint in
    let q = err_from_is_err_and res.result res.ensures.1 in
    let e = fault_same c.in_err-take-in-Checkpoint.field-0.0 q.0 r res.result q.1 q.2 is in
    subst (λ (command : Command). IsOpenRefusal command r) (sym c.in-Checkpoint.is) (take_refusal c.args.pool.now.space.parts.ckpt c.args.pool.now r (c.take.ensures.refused r (c.in_err-take-in-Checkpoint.was ∙ ap Err e)))

pub returns-in_ok-give_up-in-Discard-clause-acts : goal.returns-in_ok-give_up-in-Discard-clause-acts
returns-in_ok-give_up-in-Discard-clause-acts g c = λ copies p h.
    let tells = g.S.Shelf.tells c.give_up.new.shelf in
    let disks = (g.S.Shelf.world c.give_up.new.shelf).now.seen in
    given_up_as copies (HoldsState tells disks c.give_up.new.pool) p c.args.command.now c.in-Discard.is
    (discarding_state tells disks c.give_up.new.pool p c.in_ok-give_up-in-Discard.ensures.discarding (c.in_ok-give_up-in-Discard.ensures.objects p.objects h.objects))

pub returns-in_err-give_up-in-Discard-clause-stays : goal.returns-in_err-give_up-in-Discard-clause-stays
returns-in_err-give_up-in-Discard-clause-stays g c = λ p h r is.
    let res = c.from_residual-in_err-give_up-in-Discard in
    let q = err_from_is_err_and res.result res.ensures.1 in
    let e = fault_same c.in_err-give_up-in-Discard.field-0.0 q.0 r res.result q.1 q.2 is in
    let was = c.in_err-give_up-in-Discard.was ∙ ap Err e in
    let told = h.objects.held.told in
    same_state _ _ c.args.pool.now c.give_up.new.pool p p h.checkpoint (ap (λ (x : OpenPool). x.space.parts.ckpt) (c.give_up.ensures.unchanged r was)) refl refl
    (stays_still _ _ (g.S.Shelf.world c.args.shelf.now).now.seen (g.S.Shelf.world c.give_up.new.shelf).now.seen c.args.pool.now c.give_up.new.pool p.objects (c.give_up.ensures.told told) (c.give_up.ensures.unchanged r was) (ap (λ (w : World). w.now.seen) (c.give_up.ensures.untouched r was)) h.objects)

pub returns-in_err-give_up-in-Discard-clause-cause : goal.returns-in_err-give_up-in-Discard-clause-cause
returns-in_err-give_up-in-Discard-clause-cause g c = λ p h r is.
    let res = c.from_residual-in_err-give_up-in-Discard in
    let q = err_from_is_err_and res.result res.ensures.1 in
    let e = fault_same c.in_err-give_up-in-Discard.field-0.0 q.0 r res.result q.1 q.2 is in
    subst (λ (command : Command). IsPlainRefusal p command r) (sym c.in-Discard.is) (give_cause c.args.pool.now.space.parts.ckpt p c.args.pool.now r h.checkpoint (c.give_up.ensures.refused r (c.in_err-give_up-in-Discard.was ∙ ap Err e)))

pub returns-in_err-give_up-in-Discard-clause-refused : goal.returns-in_err-give_up-in-Discard-clause-refused
returns-in_err-give_up-in-Discard-clause-refused g c = λ r is.
    let res = c.from_residual-in_err-give_up-in-Discard in
    let q = err_from_is_err_and res.result res.ensures.1 in
    let e = fault_same c.in_err-give_up-in-Discard.field-0.0 q.0 r res.result q.1 q.2 is in
    subst (λ (command : Command). IsOpenRefusal command r) (sym c.in-Discard.is) (give_refusal c.args.pool.now.space.parts.ckpt c.args.pool.now r (c.give_up.ensures.refused r (c.in_err-give_up-in-Discard.was ∙ ap Err e)))

pub returns-in_ok-upgrade-in-Upgrade-clause-acts : goal.returns-in_ok-upgrade-in-Upgrade-clause-acts
returns-in_ok-upgrade-in-Upgrade-clause-acts g c = λ copies p h.
    let Holds = HoldsState (g.S.Shelf.tells c.upgrade.new.shelf) (g.S.Shelf.world c.upgrade.new.shelf).now.seen c.upgrade.new.pool in
    upgraded_as copies Holds p c.args.command.now c.in-Upgrade.is (same_state _ _ c.args.pool.now c.upgrade.new.pool p p h.checkpoint c.in_ok-upgrade-in-Upgrade.ensures.ckpt refl refl (c.in_ok-upgrade-in-Upgrade.ensures.objects p.objects h.objects))

pub returns-in_err-upgrade-in-Upgrade-clause-stays : goal.returns-in_err-upgrade-in-Upgrade-clause-stays
returns-in_err-upgrade-in-Upgrade-clause-stays g c = λ p h r is.
    let res = c.from_residual-in_err-upgrade-in-Upgrade in
    let q = err_from_is_err_and res.result res.ensures.1 in
    let e = fault_same c.in_err-upgrade-in-Upgrade.field-0.0 q.0 r res.result q.1 q.2 is in
    let was = c.in_err-upgrade-in-Upgrade.was ∙ ap Err e in
    let told = h.objects.held.told in
    same_state _ _ c.args.pool.now c.upgrade.new.pool p p h.checkpoint (ap (λ (x : OpenPool). x.space.parts.ckpt) (c.upgrade.ensures.unchanged r was)) refl refl
    (stays_still _ _ (g.S.Shelf.world c.args.shelf.now).now.seen (g.S.Shelf.world c.upgrade.new.shelf).now.seen c.args.pool.now c.upgrade.new.pool p.objects (c.upgrade.ensures.told told) (c.upgrade.ensures.unchanged r was) (ap (λ (w : World). w.now.seen) (c.upgrade.ensures.untouched r was)) h.objects)

pub returns-in_err-upgrade-in-Upgrade-clause-cause : goal.returns-in_err-upgrade-in-Upgrade-clause-cause
returns-in_err-upgrade-in-Upgrade-clause-cause g c = λ p h r is.
    subst (λ (command : Command). IsPlainRefusal p command r) (sym c.in-Upgrade.is) (plain_refusal p.objects cmd.Upgrade r (λ x. tt) (λ x. tt) (λ x. tt))

pub returns-in_err-upgrade-in-Upgrade-clause-refused : goal.returns-in_err-upgrade-in-Upgrade-clause-refused
returns-in_err-upgrade-in-Upgrade-clause-refused g c = λ r is.
    let res = c.from_residual-in_err-upgrade-in-Upgrade in
    let q = err_from_is_err_and res.result res.ensures.1 in
    let e = fault_same c.in_err-upgrade-in-Upgrade.field-0.0 q.0 r res.result q.1 q.2 is in
    subst (λ (command : Command). IsOpenRefusal command r) (sym c.in-Upgrade.is) (c.upgrade.ensures.refused r (c.in_err-upgrade-in-Upgrade.was ∙ ap Err e)).1

pub returns-in_ok-units-in-StepDiscard-clause-acts : goal.returns-in_ok-units-in-StepDiscard-clause-acts
returns-in_ok-units-in-StepDiscard-clause-acts g c = λ copies p h.
    let tells = g.S.Shelf.tells c.args.shelf.now in
    let disks = (g.S.Shelf.world c.args.shelf.now).now.seen in
    let units = c.in_ok-units-in-StepDiscard.units in
    let done = c.in_ok-units-in-StepDiscard.ensures in
    let objects = objects_told tells disks c.step.new.pool p.objects h.objects.held.told (done.objects disks p.objects (objects_anew_unit tells disks c.args.pool.now p.objects h.objects)) in
    let holds = stepped_state tells disks c.args.pool.now c.step.new.pool p (units == 0) h.checkpoint done.was done.ended objects in
    subst (λ (answer : Reply). IsPlainOf copies (HoldsState tells disks c.step.new.pool) p c.args.command.now answer) (sym c.step_reply.ensures)
    (stepped_as copies (HoldsState tells disks c.step.new.pool) p c.args.command.now units (units == 0) c.in-StepDiscard.is (some_units units) holds)

pub returns-in_ok-units-in-StepDiscard-clause-answer : goal.returns-in_ok-units-in-StepDiscard-clause-answer
returns-in_ok-units-in-StepDiscard-clause-answer g c =
    let units = c.in_ok-units-in-StepDiscard.units in
    subst (λ (command : Command). IsOpenAnswer command c.step_reply.result) (sym c.in-StepDiscard.is)
    (subst (λ (answer : Reply). IsOpenAnswer cmd.StepDiscard answer) (sym c.step_reply.ensures) (step_answer units (units == 0) (some_units units)))

pub returns-in_err-units-in-StepDiscard-clause-stays : goal.returns-in_err-units-in-StepDiscard-clause-stays
returns-in_err-units-in-StepDiscard-clause-stays g c = λ p h r is.
    let res = c.from_residual-in_err-units-in-StepDiscard in
    let q = err_from_is_err_and res.result res.ensures.1 in
    let e = fault_same c.in_err-units-in-StepDiscard.field-0.0 q.0 r res.result q.1 q.2 is in
    let was = c.in_err-units-in-StepDiscard.was ∙ ap Err e in
    let same = c.step.ensures.unchanged r was in
    let disks = (g.S.Shelf.world c.args.shelf.now).now.seen in
    same_state _ _ c.args.pool.now c.step.new.pool p p h.checkpoint (ap (λ (x : OpenPool). x.space.parts.ckpt) same) refl refl
    (stays_still _ _ disks disks c.args.pool.now c.step.new.pool p.objects h.objects.held.told same refl h.objects)

pub returns-in_err-units-in-StepDiscard-clause-cause : goal.returns-in_err-units-in-StepDiscard-clause-cause
returns-in_err-units-in-StepDiscard-clause-cause g c = λ p h r is.
    let res = c.from_residual-in_err-units-in-StepDiscard in
    let q = err_from_is_err_and res.result res.ensures.1 in
    let e = fault_same c.in_err-units-in-StepDiscard.field-0.0 q.0 r res.result q.1 q.2 is in
    subst (λ (command : Command). IsPlainRefusal p command r) (sym c.in-StepDiscard.is) (step_cause c.args.pool.now.space.parts.ckpt p r h.checkpoint (c.step.ensures.refused r (c.in_err-units-in-StepDiscard.was ∙ ap Err e)))

pub returns-in_err-units-in-StepDiscard-clause-refused : goal.returns-in_err-units-in-StepDiscard-clause-refused
returns-in_err-units-in-StepDiscard-clause-refused g c = λ r is.
    let res = c.from_residual-in_err-units-in-StepDiscard in
    let q = err_from_is_err_and res.result res.ensures.1 in
    let e = fault_same c.in_err-units-in-StepDiscard.field-0.0 q.0 r res.result q.1 q.2 is in
    subst (λ (command : Command). IsOpenRefusal command r) (sym c.in-StepDiscard.is) (step_refusal c.args.pool.now.space.parts.ckpt r (c.step.ensures.refused r (c.in_err-units-in-StepDiscard.was ∙ ap Err e)))

pub returns-in_ok-units-in-StepDiscard-clause-pool : goal.returns-in_ok-units-in-StepDiscard-clause-pool
returns-in_ok-units-in-StepDiscard-clause-pool g c = c.in_ok-units-in-StepDiscard.ensures.pool (g.S.Shelf.sizes c.args.shelf.now) c.requires.pool

-- ---- the account

pub returns-in_ok-commit-in-Sync-clause-account : goal.returns-in_ok-commit-in-Sync-clause-account
returns-in_ok-commit-in-Sync-clause-account g c = λ told.
    subst (λ (command : Command). Turns c.args.paths.now (g.S.Shelf.sizes c.args.shelf.now) (g.S.Shelf.world c.args.shelf.now).now.seen c.args.pool.now command (reply.Synced c.txg-txg.result) (g.S.Shelf.world c.commit.new.shelf).now.seen c.commit.new.pool) (sym c.in-Sync.is)
    (ap reply.Synced c.txg-txg.ensures, record { root = c.in_ok-commit-in-Sync.ensures.last; ends = c.in_ok-commit-in-Sync.ensures.ends; same = c.in_ok-commit-in-Sync.ensures.same; saved = c.in_ok-commit-in-Sync.ensures.saved; empty = c.in_ok-commit-in-Sync.ensures.empty; txg = c.in_ok-commit-in-Sync.ensures.txg })

pub returns-in_ok-commit-in-Export-clause-account : goal.returns-in_ok-commit-in-Export-clause-account
returns-in_ok-commit-in-Export-clause-account g c = λ told.
    subst (λ (command : Command). Turns c.args.paths.now (g.S.Shelf.sizes c.args.shelf.now) (g.S.Shelf.world c.args.shelf.now).now.seen c.args.pool.now command reply.Done (g.S.Shelf.world c.commit-in-Export.new.shelf).now.seen c.commit-in-Export.new.pool) (sym c.in-Export.is)
    (record { root = c.in_ok-commit-in-Export.ensures.last; ends = c.in_ok-commit-in-Export.ensures.ends; same = c.in_ok-commit-in-Export.ensures.same; saved = c.in_ok-commit-in-Export.ensures.saved; empty = c.in_ok-commit-in-Export.ensures.empty; txg = c.in_ok-commit-in-Export.ensures.txg })

pub returns-in_ok-add-in-Add-clause-account : goal.returns-in_ok-add-in-Add-clause-account
returns-in_ok-add-in-Add-clause-account g c = λ told.
    subst (λ (command : Command). Turns c.args.paths.now (g.S.Shelf.sizes c.args.shelf.now) (g.S.Shelf.world c.args.shelf.now).now.seen c.args.pool.now command reply.Done (g.S.Shelf.world c.add.new.shelf).now.seen c.add.new.pool) (sym c.in-Add.is) (
      c.in-Some.slot,
      sym c.slot_of.ensures ∙ c.in-Some.is,
      record {
        allowed = checks_told (g.S.Shelf.tells c.args.shelf.now) told (g.S.Shelf.sizes c.args.shelf.now) (g.S.Shelf.world c.args.shelf.now).now.seen c.args.pool.now c.in-Some.slot (Ok tt) c.in_ok-add-in-Add.ensures.allowed;
        grown = c.in_ok-add-in-Add.ensures.grown;
        txg = c.in_ok-add-in-Add.ensures.txg;
        empty = c.in_ok-add-in-Add.ensures.empty;
        root = c.in_ok-add-in-Add.ensures.root;
        settled = c.in_ok-add-in-Add.ensures.settled;
      },
    )

pub returns-in_err-add-in-Add-clause-account_no : goal.returns-in_err-add-in-Add-clause-account_no
returns-in_err-add-in-Add-clause-account_no g c = λ told r is.
    let res = c.from_residual-in_err-add-in-Add in
    let q = err_from_is_err_and res.result res.ensures.1 in
    let e = fault_same c.in_err-add-in-Add.field-0.0 q.0 r res.result q.1 q.2 is in
    let was = c.in_err-add-in-Add.was ∙ ap Err e in
    subst (λ (command : Command). Refuses c.args.paths.now (g.S.Shelf.sizes c.args.shelf.now) (g.S.Shelf.world c.args.shelf.now).now.seen c.args.pool.now command r c.add.new.pool) (sym c.in-Add.is)
    (c.add.ensures.unchanged r was, inr (c.in-Some.slot, sym c.slot_of.ensures ∙ c.in-Some.is, checks_told (g.S.Shelf.tells c.args.shelf.now) told (g.S.Shelf.sizes c.args.shelf.now) (g.S.Shelf.world c.args.shelf.now).now.seen c.args.pool.now c.in-Some.slot (Err r) (c.add.ensures.refused r was)))

pub returns-in_ok-take-in-Checkpoint-clause-account : goal.returns-in_ok-take-in-Checkpoint-clause-account
returns-in_ok-take-in-Checkpoint-clause-account g c = λ told.
    let now = g.S.Shelf.world c.take.new.shelf in
    subst (λ (command : Command). Turns c.args.paths.now (g.S.Shelf.sizes c.args.shelf.now) (g.S.Shelf.world c.args.shelf.now).now.seen c.args.pool.now command reply.Done now.now.seen c.take.new.pool) (sym c.in-Checkpoint.is)
    (record { enough = c.in_ok-take-in-Checkpoint.ensures.enough; remain = c.in_ok-take-in-Checkpoint.ensures.remain; held = c.in_ok-take-in-Checkpoint.ensures.held; takes = (now, refl, takes_told (g.S.Shelf.tells c.args.shelf.now) told (g.S.Shelf.sizes c.args.shelf.now) now c.args.pool.now c.take.new.pool c.in_ok-take-in-Checkpoint.ensures.takes) })

pub returns-in_err-take-in-Checkpoint-clause-account_no : goal.returns-in_err-take-in-Checkpoint-clause-account_no
returns-in_err-take-in-Checkpoint-clause-account_no g c = λ told r is.
    let res = c.from_residual-in_err-take-in-Checkpoint in
    let q = err_from_is_err_and res.result res.ensures.1 in
    let e = fault_same c.in_err-take-in-Checkpoint.field-0.0 q.0 r res.result q.1 q.2 is in
    let was = c.in_err-take-in-Checkpoint.was ∙ ap Err e in
    subst (λ (command : Command). Refuses c.args.paths.now (g.S.Shelf.sizes c.args.shelf.now) (g.S.Shelf.world c.args.shelf.now).now.seen c.args.pool.now command r c.take.new.pool) (sym c.in-Checkpoint.is)
    (c.take.ensures.unchanged r was, c.take.ensures.refused r was)

pub returns-in_ok-give_up-in-Discard-clause-account : goal.returns-in_ok-give_up-in-Discard-clause-account
returns-in_ok-give_up-in-Discard-clause-account g c = λ told.
    let now = g.S.Shelf.world c.give_up.new.shelf in
    subst (λ (command : Command). Turns c.args.paths.now (g.S.Shelf.sizes c.args.shelf.now) (g.S.Shelf.world c.args.shelf.now).now.seen c.args.pool.now command reply.Done now.now.seen c.give_up.new.pool) (sym c.in-Discard.is)
    (record { discarding = c.in_ok-give_up-in-Discard.ensures.discarding; gives = (now, refl, gives_told (g.S.Shelf.tells c.args.shelf.now) told (g.S.Shelf.sizes c.args.shelf.now) now c.args.pool.now c.give_up.new.pool c.in_ok-give_up-in-Discard.ensures.gives) })

pub returns-in_err-give_up-in-Discard-clause-account_no : goal.returns-in_err-give_up-in-Discard-clause-account_no
returns-in_err-give_up-in-Discard-clause-account_no g c = λ told r is.
    let res = c.from_residual-in_err-give_up-in-Discard in
    let q = err_from_is_err_and res.result res.ensures.1 in
    let e = fault_same c.in_err-give_up-in-Discard.field-0.0 q.0 r res.result q.1 q.2 is in
    let was = c.in_err-give_up-in-Discard.was ∙ ap Err e in
    subst (λ (command : Command). Refuses c.args.paths.now (g.S.Shelf.sizes c.args.shelf.now) (g.S.Shelf.world c.args.shelf.now).now.seen c.args.pool.now command r c.give_up.new.pool) (sym c.in-Discard.is)
    (c.give_up.ensures.unchanged r was, c.give_up.ensures.refused r was)

pub returns-in_ok-units-in-StepDiscard-clause-account : goal.returns-in_ok-units-in-StepDiscard-clause-account
returns-in_ok-units-in-StepDiscard-clause-account g c = λ told.
    let disks = (g.S.Shelf.world c.args.shelf.now).now.seen in
    subst (λ (command : Command). Turns c.args.paths.now (g.S.Shelf.sizes c.args.shelf.now) disks c.args.pool.now command c.step_reply.result disks c.step.new.pool) (sym c.in-StepDiscard.is)
    (subst (λ (answer : Reply). Turns c.args.paths.now (g.S.Shelf.sizes c.args.shelf.now) disks c.args.pool.now cmd.StepDiscard answer disks c.step.new.pool) (sym c.step_reply.ensures)
    (stepped_turn c.args.paths.now (g.S.Shelf.sizes c.args.shelf.now) disks disks c.args.pool.now c.step.new.pool c.in_ok-units-in-StepDiscard.units (record { was = c.in_ok-units-in-StepDiscard.ensures.was; root = c.in_ok-units-in-StepDiscard.ensures.root; steps = c.in_ok-units-in-StepDiscard.ensures.steps })))

pub returns-in_err-units-in-StepDiscard-clause-account_no : goal.returns-in_err-units-in-StepDiscard-clause-account_no
returns-in_err-units-in-StepDiscard-clause-account_no g c = λ told r is.
    let res = c.from_residual-in_err-units-in-StepDiscard in
    let q = err_from_is_err_and res.result res.ensures.1 in
    let e = fault_same c.in_err-units-in-StepDiscard.field-0.0 q.0 r res.result q.1 q.2 is in
    let was = c.in_err-units-in-StepDiscard.was ∙ ap Err e in
    subst (λ (command : Command). Refuses c.args.paths.now (g.S.Shelf.sizes c.args.shelf.now) (g.S.Shelf.world c.args.shelf.now).now.seen c.args.pool.now command r c.step.new.pool) (sym c.in-StepDiscard.is)
    (c.step.ensures.unchanged r was, c.step.ensures.refused r was)

pub returns-in_ok-upgrade-in-Upgrade-clause-account : goal.returns-in_ok-upgrade-in-Upgrade-clause-account
returns-in_ok-upgrade-in-Upgrade-clause-account g c = λ told.
    let now = g.S.Shelf.world c.upgrade.new.shelf in
    subst (λ (command : Command). Turns c.args.paths.now (g.S.Shelf.sizes c.args.shelf.now) (g.S.Shelf.world c.args.shelf.now).now.seen c.args.pool.now command reply.Done now.now.seen c.upgrade.new.pool) (sym c.in-Upgrade.is)
    (c.in_ok-upgrade-in-Upgrade.ensures.was, c.in_ok-upgrade-in-Upgrade.ensures.newest, (now, refl, upgrades_told (g.S.Shelf.tells c.args.shelf.now) told (g.S.Shelf.sizes c.args.shelf.now) now c.args.pool.now c.upgrade.new.pool c.in_ok-upgrade-in-Upgrade.ensures.upgrades))

pub returns-in_err-upgrade-in-Upgrade-clause-account_no : goal.returns-in_err-upgrade-in-Upgrade-clause-account_no
returns-in_err-upgrade-in-Upgrade-clause-account_no g c = λ told r is.
    let res = c.from_residual-in_err-upgrade-in-Upgrade in
    let q = err_from_is_err_and res.result res.ensures.1 in
    let e = fault_same c.in_err-upgrade-in-Upgrade.field-0.0 q.0 r res.result q.1 q.2 is in
    let was = c.in_err-upgrade-in-Upgrade.was ∙ ap Err e in
    subst (λ (command : Command). Refuses c.args.paths.now (g.S.Shelf.sizes c.args.shelf.now) (g.S.Shelf.world c.args.shelf.now).now.seen c.args.pool.now command r c.upgrade.new.pool) (sym c.in-Upgrade.is)
    (c.upgrade.ensures.unchanged r was, c.upgrade.ensures.refused r was)

-- ---- what the disks show

pub returns-in_ok-commit-in-Sync-clause-shown : goal.returns-in_ok-commit-in-Sync-clause-shown
returns-in_ok-commit-in-Sync-clause-shown g c = λ told.
    let shelf = c.args.shelf.now in
    let new = c.commit.new.shelf in
    let done = c.in_ok-commit-in-Sync.ensures in
    commit_last (g.S.Shelf.sizes shelf) (g.S.Shelf.sizes new) c.args.pool.now c.commit.new.pool false (g.S.Shelf.world shelf) (g.S.Shelf.world new) c.requires.pool done.pool (g.S.Shelf.sound shelf told).sized done.txg done.last (done.written told) done.same.guid done.same.table

pub returns-in_ok-commit-in-Export-clause-shown : goal.returns-in_ok-commit-in-Export-clause-shown
returns-in_ok-commit-in-Export-clause-shown g c = λ told.
    let shelf = c.args.shelf.now in
    let new = c.commit-in-Export.new.shelf in
    let done = c.in_ok-commit-in-Export.ensures in
    commit_last (g.S.Shelf.sizes shelf) (g.S.Shelf.sizes new) c.args.pool.now c.commit-in-Export.new.pool false (g.S.Shelf.world shelf) (g.S.Shelf.world new) c.requires.pool done.pool (g.S.Shelf.sound shelf told).sized done.txg done.last (done.written told) done.same.guid done.same.table

pub returns-in_ok-commit-in-Export-clause-left : goal.returns-in_ok-commit-in-Export-clause-left
returns-in_ok-commit-in-Export-clause-left g c = λ exports p h.
    let new = c.commit-in-Export.new.shelf in
    let done = c.in_ok-commit-in-Export.ensures in
    record {
      empty = done.empty;
      head = done.stands (record { told = h.objects.held.told; read = h.objects.held.read });
      holds = objects_anew_unit (g.S.Shelf.tells new) (g.S.Shelf.world new).now.seen c.commit-in-Export.new.pool p.objects (done.stays p.objects h.objects);
    }

pub returns-in_ok-upgrade-in-Upgrade-clause-shown : goal.returns-in_ok-upgrade-in-Upgrade-clause-shown
returns-in_ok-upgrade-in-Upgrade-clause-shown g c = λ told. c.in_ok-upgrade-in-Upgrade.ensures.shown told

pub returns-in_ok-units-in-StepDiscard-clause-shown : goal.returns-in_ok-units-in-StepDiscard-clause-shown
returns-in_ok-units-in-StepDiscard-clause-shown g c = λ told h. same_last (g.S.Shelf.world c.args.shelf.now).now.seen c.args.pool.now c.step.new.pool c.in_ok-units-in-StepDiscard.ensures.root h

pub returns-in_ok-add-in-Add-clause-shown : goal.returns-in_ok-add-in-Add-clause-shown
returns-in_ok-add-in-Add-clause-shown g c = λ told. c.in_ok-add-in-Add.ensures.shown told

pub returns-in_ok-take-in-Checkpoint-clause-shown : goal.returns-in_ok-take-in-Checkpoint-clause-shown
returns-in_ok-take-in-Checkpoint-clause-shown g c = λ told. c.in_ok-take-in-Checkpoint.ensures.shown told

pub returns-in_ok-give_up-in-Discard-clause-shown : goal.returns-in_ok-give_up-in-Discard-clause-shown
returns-in_ok-give_up-in-Discard-clause-shown g c = λ told. c.in_ok-give_up-in-Discard.ensures.shown told

pub returns-in_err-add-in-Add-clause-shown_no : goal.returns-in_err-add-in-Add-clause-shown_no
returns-in_err-add-in-Add-clause-shown_no g c = λ told r is.
    let res = c.from_residual-in_err-add-in-Add in
    let q = err_from_is_err_and res.result res.ensures.1 in
    let e = fault_same c.in_err-add-in-Add.field-0.0 q.0 r res.result q.1 q.2 is in
    let was = c.in_err-add-in-Add.was ∙ ap Err e in
    still_last (g.S.Shelf.world c.args.shelf.now) (g.S.Shelf.world c.add.new.shelf) c.args.pool.now c.add.new.pool (same_root c.args.pool.now c.add.new.pool (c.add.ensures.unchanged r was)) (ap (λ (stand : Stand). stand.seen) (c.add.ensures.untouched told r was).now)

pub returns-in_err-take-in-Checkpoint-clause-shown_no : goal.returns-in_err-take-in-Checkpoint-clause-shown_no
returns-in_err-take-in-Checkpoint-clause-shown_no g c = λ told r is.
    let res = c.from_residual-in_err-take-in-Checkpoint in
    let q = err_from_is_err_and res.result res.ensures.1 in
    let e = fault_same c.in_err-take-in-Checkpoint.field-0.0 q.0 r res.result q.1 q.2 is in
    let was = c.in_err-take-in-Checkpoint.was ∙ ap Err e in
    still_last (g.S.Shelf.world c.args.shelf.now) (g.S.Shelf.world c.take.new.shelf) c.args.pool.now c.take.new.pool (same_root c.args.pool.now c.take.new.pool (c.take.ensures.unchanged r was)) (ap (λ (w : World). w.now.seen) (c.take.ensures.untouched r was))

pub returns-in_err-give_up-in-Discard-clause-shown_no : goal.returns-in_err-give_up-in-Discard-clause-shown_no
returns-in_err-give_up-in-Discard-clause-shown_no g c = λ told r is.
    let res = c.from_residual-in_err-give_up-in-Discard in
    let q = err_from_is_err_and res.result res.ensures.1 in
    let e = fault_same c.in_err-give_up-in-Discard.field-0.0 q.0 r res.result q.1 q.2 is in
    let was = c.in_err-give_up-in-Discard.was ∙ ap Err e in
    still_last (g.S.Shelf.world c.args.shelf.now) (g.S.Shelf.world c.give_up.new.shelf) c.args.pool.now c.give_up.new.pool (same_root c.args.pool.now c.give_up.new.pool (c.give_up.ensures.unchanged r was)) (ap (λ (w : World). w.now.seen) (c.give_up.ensures.untouched r was))

pub returns-in_err-upgrade-in-Upgrade-clause-shown_no : goal.returns-in_err-upgrade-in-Upgrade-clause-shown_no
returns-in_err-upgrade-in-Upgrade-clause-shown_no g c = λ told r is.
    let res = c.from_residual-in_err-upgrade-in-Upgrade in
    let q = err_from_is_err_and res.result res.ensures.1 in
    let e = fault_same c.in_err-upgrade-in-Upgrade.field-0.0 q.0 r res.result q.1 q.2 is in
    let was = c.in_err-upgrade-in-Upgrade.was ∙ ap Err e in
    still_last (g.S.Shelf.world c.args.shelf.now) (g.S.Shelf.world c.upgrade.new.shelf) c.args.pool.now c.upgrade.new.pool (same_root c.args.pool.now c.upgrade.new.pool (c.upgrade.ensures.unchanged r was)) (ap (λ (w : World). w.now.seen) (c.upgrade.ensures.untouched r was))

pub returns-in_err-units-in-StepDiscard-clause-shown_no : goal.returns-in_err-units-in-StepDiscard-clause-shown_no
returns-in_err-units-in-StepDiscard-clause-shown_no g c = λ told r is.
    let res = c.from_residual-in_err-units-in-StepDiscard in
    let q = err_from_is_err_and res.result res.ensures.1 in
    let e = fault_same c.in_err-units-in-StepDiscard.field-0.0 q.0 r res.result q.1 q.2 is in
    let was = c.in_err-units-in-StepDiscard.was ∙ ap Err e in
    same_last (g.S.Shelf.world c.args.shelf.now).now.seen c.args.pool.now c.step.new.pool (same_root c.args.pool.now c.step.new.pool (c.step.ensures.unchanged r was))

-- ---- commits

pub returns-in_ok-commit-in-Sync-clause-commits : goal.returns-in_ok-commit-in-Sync-clause-commits
returns-in_ok-commit-in-Sync-clause-commits g c = λ ends p h.
    let done = c.in_ok-commit-in-Sync.ensures in
    ends_by c.commit.ensures.sizes done.pool done.same done.last done.txg done.written done.ends done.empty done.stands done.safe done.trees done.moves done.copies h.objects (done.stays p.objects h.objects)

pub returns-in_ok-commit-in-Sync-clause-stops : goal.returns-in_ok-commit-in-Sync-clause-stops
returns-in_ok-commit-in-Sync-clause-stops g c = λ ends p h. c.commit.ensures.leads p.objects h.objects

pub returns-in_err-commit-in-Sync-clause-stops : goal.returns-in_err-commit-in-Sync-clause-stops
returns-in_err-commit-in-Sync-clause-stops g c = λ ends p h. c.commit.ensures.leads p.objects h.objects

pub returns-in_ok-commit-in-Export-clause-commits : goal.returns-in_ok-commit-in-Export-clause-commits
returns-in_ok-commit-in-Export-clause-commits g c = λ ends p h.
    let done = c.in_ok-commit-in-Export.ensures in
    ends_by c.commit-in-Export.ensures.sizes done.pool done.same done.last done.txg done.written done.ends done.empty done.stands done.safe done.trees done.moves done.copies h.objects (done.stays p.objects h.objects)

pub returns-in_ok-commit-in-Export-clause-stops : goal.returns-in_ok-commit-in-Export-clause-stops
returns-in_ok-commit-in-Export-clause-stops g c = λ ends p h. c.commit-in-Export.ensures.leads p.objects h.objects

pub returns-in_err-commit-in-Export-clause-stops : goal.returns-in_err-commit-in-Export-clause-stops
returns-in_err-commit-in-Export-clause-stops g c = λ ends p h. c.commit-in-Export.ensures.leads p.objects h.objects

-- ---- a refusal stays in the group

pub returns-in_err-add-in-Add-clause-stays_no : goal.returns-in_err-add-in-Add-clause-stays_no
returns-in_err-add-in-Add-clause-stays_no g c = λ told r is.
    let res = c.from_residual-in_err-add-in-Add in
    let q = err_from_is_err_and res.result res.ensures.1 in
    let e = fault_same c.in_err-add-in-Add.field-0.0 q.0 r res.result q.1 q.2 is in
    let was = c.in_err-add-in-Add.was ∙ ap Err e in
    refused_stays c.args.pool.now c.add.new.pool (g.S.Shelf.world c.args.shelf.now) (g.S.Shelf.world c.add.new.shelf) (c.add.ensures.unchanged r was) (c.add.ensures.untouched told r was)

pub returns-in_err-take-in-Checkpoint-clause-stays_no : goal.returns-in_err-take-in-Checkpoint-clause-stays_no
returns-in_err-take-in-Checkpoint-clause-stays_no g c = λ told r is.
    let res = c.from_residual-in_err-take-in-Checkpoint in
    let q = err_from_is_err_and res.result res.ensures.1 in
    let e = fault_same c.in_err-take-in-Checkpoint.field-0.0 q.0 r res.result q.1 q.2 is in
    let was = c.in_err-take-in-Checkpoint.was ∙ ap Err e in
    refused_stays c.args.pool.now c.take.new.pool (g.S.Shelf.world c.args.shelf.now) (g.S.Shelf.world c.take.new.shelf) (c.take.ensures.unchanged r was) (same_world (g.S.Shelf.world c.args.shelf.now) (g.S.Shelf.world c.take.new.shelf) (c.take.ensures.untouched r was))

pub returns-in_err-give_up-in-Discard-clause-stays_no : goal.returns-in_err-give_up-in-Discard-clause-stays_no
returns-in_err-give_up-in-Discard-clause-stays_no g c = λ told r is.
    let res = c.from_residual-in_err-give_up-in-Discard in
    let q = err_from_is_err_and res.result res.ensures.1 in
    let e = fault_same c.in_err-give_up-in-Discard.field-0.0 q.0 r res.result q.1 q.2 is in
    let was = c.in_err-give_up-in-Discard.was ∙ ap Err e in
    refused_stays c.args.pool.now c.give_up.new.pool (g.S.Shelf.world c.args.shelf.now) (g.S.Shelf.world c.give_up.new.shelf) (c.give_up.ensures.unchanged r was) (same_world (g.S.Shelf.world c.args.shelf.now) (g.S.Shelf.world c.give_up.new.shelf) (c.give_up.ensures.untouched r was))

pub returns-in_err-upgrade-in-Upgrade-clause-stays_no : goal.returns-in_err-upgrade-in-Upgrade-clause-stays_no
returns-in_err-upgrade-in-Upgrade-clause-stays_no g c = λ told r is.
    let res = c.from_residual-in_err-upgrade-in-Upgrade in
    let q = err_from_is_err_and res.result res.ensures.1 in
    let e = fault_same c.in_err-upgrade-in-Upgrade.field-0.0 q.0 r res.result q.1 q.2 is in
    let was = c.in_err-upgrade-in-Upgrade.was ∙ ap Err e in
    refused_stays c.args.pool.now c.upgrade.new.pool (g.S.Shelf.world c.args.shelf.now) (g.S.Shelf.world c.upgrade.new.shelf) (c.upgrade.ensures.unchanged r was) (same_world (g.S.Shelf.world c.args.shelf.now) (g.S.Shelf.world c.upgrade.new.shelf) (c.upgrade.ensures.untouched r was))

pub returns-in_err-units-in-StepDiscard-clause-stays_no : goal.returns-in_err-units-in-StepDiscard-clause-stays_no
returns-in_err-units-in-StepDiscard-clause-stays_no g c = λ told r is.
    let res = c.from_residual-in_err-units-in-StepDiscard in
    let q = err_from_is_err_and res.result res.ensures.1 in
    let e = fault_same c.in_err-units-in-StepDiscard.field-0.0 q.0 r res.result q.1 q.2 is in
    let was = c.in_err-units-in-StepDiscard.was ∙ ap Err e in
    let world = g.S.Shelf.world c.args.shelf.now in
    refused_stays c.args.pool.now c.step.new.pool world world (c.step.ensures.unchanged r was) (same_world world world refl)

-- ---- a step of discarding

pub returns-in_ok-units-in-StepDiscard-clause-steps : goal.returns-in_ok-units-in-StepDiscard-clause-steps
returns-in_ok-units-in-StepDiscard-clause-steps g c = λ step. step_opens_none c.args.pool.now c.step.new.pool c.in_ok-units-in-StepDiscard.units c.in_ok-units-in-StepDiscard.ensures.root c.in_ok-units-in-StepDiscard.ensures.steps

pub returns-in_ok-units-in-StepDiscard-clause-step_copies : goal.returns-in_ok-units-in-StepDiscard-clause-step_copies
returns-in_ok-units-in-StepDiscard-clause-step_copies g c = λ step. step_copies (g.S.Shelf.world c.args.shelf.now).now.seen c.args.pool.now c.step.new.pool c.in_ok-units-in-StepDiscard.units c.in_ok-units-in-StepDiscard.ensures.root c.in_ok-units-in-StepDiscard.ensures.steps

pub returns-in_ok-commit-in-Sync-clause-copies : goal.returns-in_ok-commit-in-Sync-clause-copies
returns-in_ok-commit-in-Sync-clause-copies g c = λ told spares. no_way (subst (λ (command : Command). spares_copies command ≡ true) c.in-Sync.is spares)

pub returns-in_ok-commit-in-Export-clause-copies : goal.returns-in_ok-commit-in-Export-clause-copies
returns-in_ok-commit-in-Export-clause-copies g c = λ told spares. no_way (subst (λ (command : Command). spares_copies command ≡ true) c.in-Export.is spares)

pub returns-in_ok-add-in-Add-clause-copies : goal.returns-in_ok-add-in-Add-clause-copies
returns-in_ok-add-in-Add-clause-copies g c = λ told spares. c.in_ok-add-in-Add.ensures.copies told

pub returns-in_ok-take-in-Checkpoint-clause-copies : goal.returns-in_ok-take-in-Checkpoint-clause-copies
returns-in_ok-take-in-Checkpoint-clause-copies g c = λ told spares. no_way (subst (λ (command : Command). spares_copies command ≡ true) c.in-Checkpoint.is spares)

pub returns-in_ok-give_up-in-Discard-clause-copies : goal.returns-in_ok-give_up-in-Discard-clause-copies
returns-in_ok-give_up-in-Discard-clause-copies g c = λ told spares. no_way (subst (λ (command : Command). spares_copies command ≡ true) c.in-Discard.is spares)

pub returns-in_ok-units-in-StepDiscard-clause-copies : goal.returns-in_ok-units-in-StepDiscard-clause-copies
returns-in_ok-units-in-StepDiscard-clause-copies g c = λ told spares. no_way (subst (λ (command : Command). spares_copies command ≡ true) c.in-StepDiscard.is spares)

pub returns-in_ok-upgrade-in-Upgrade-clause-copies : goal.returns-in_ok-upgrade-in-Upgrade-clause-copies
returns-in_ok-upgrade-in-Upgrade-clause-copies g c = λ told spares. c.in_ok-upgrade-in-Upgrade.ensures.copies told

pub returns-in_ok-units-in-StepDiscard-clause-step_trees : goal.returns-in_ok-units-in-StepDiscard-clause-step_trees
returns-in_ok-units-in-StepDiscard-clause-step_trees g c = λ step. c.in_ok-units-in-StepDiscard.ensures.trees (g.S.Shelf.world c.args.shelf.now).now.seen

pub returns-in_ok-units-in-StepDiscard-clause-still : goal.returns-in_ok-units-in-StepDiscard-clause-still
returns-in_ok-units-in-StepDiscard-clause-still g c = λ step. same_world (g.S.Shelf.world c.args.shelf.now) (g.S.Shelf.world c.args.shelf.now) refl

pub returns-in_err-units-in-StepDiscard-clause-still : goal.returns-in_err-units-in-StepDiscard-clause-still
returns-in_err-units-in-StepDiscard-clause-still g c = λ step. same_world (g.S.Shelf.world c.args.shelf.now) (g.S.Shelf.world c.args.shelf.now) refl

-- ---- a line that ends with a reset

pub returns-in_ok-add-in-Add-clause-resets : goal.returns-in_ok-add-in-Add-clause-resets
returns-in_ok-add-in-Add-clause-resets g c = λ on p h.
    let new = c.add.new.shelf in
    let done = c.in_ok-add-in-Add.ensures in
    record {
      resets = record { leaves = done.ends p.objects h.objects; holds = untold (g.S.Shelf.tells new) (g.S.Shelf.world new).now.seen c.add.new.pool p.objects (done.objects p.objects h.objects) };
      trees = λ writes. recorded_trees (g.S.Shelf.tells c.args.shelf.now) (g.S.Shelf.tells new) (g.S.Shelf.world c.args.shelf.now) (g.S.Shelf.world new) c.args.pool.now c.add.new.pool h.objects.held.told (done.ends p.objects h.objects).settled done.trees;
      moves = λ told. done.moves (trees_told Had (Unit {0}) (g.S.Shelf.tells c.args.shelf.now) (g.S.Shelf.world c.args.shelf.now).now.seen c.args.pool.now h.objects.held.told told.1);
    }

pub returns-in_ok-take-in-Checkpoint-clause-resets : goal.returns-in_ok-take-in-Checkpoint-clause-resets
returns-in_ok-take-in-Checkpoint-clause-resets g c = λ on p h.
    let new = c.take.new.shelf in
    let done = c.in_ok-take-in-Checkpoint.ensures in
    record {
      resets = record { leaves = done.ends p.objects h.objects; holds = untold (g.S.Shelf.tells new) (g.S.Shelf.world new).now.seen c.take.new.pool p.objects (done.objects p.objects h.objects) };
      trees = λ writes. recorded_trees (g.S.Shelf.tells c.args.shelf.now) (g.S.Shelf.tells new) (g.S.Shelf.world c.args.shelf.now) (g.S.Shelf.world new) c.args.pool.now c.take.new.pool h.objects.held.told (done.ends p.objects h.objects).settled done.trees;
      moves = λ told. done.moves (trees_told Had (Unit {0}) (g.S.Shelf.tells c.args.shelf.now) (g.S.Shelf.world c.args.shelf.now).now.seen c.args.pool.now h.objects.held.told told.1);
    }

pub returns-in_ok-give_up-in-Discard-clause-resets : goal.returns-in_ok-give_up-in-Discard-clause-resets
returns-in_ok-give_up-in-Discard-clause-resets g c = λ on p h.
    let new = c.give_up.new.shelf in
    let done = c.in_ok-give_up-in-Discard.ensures in
    record { resets = record { leaves = done.ends p.objects h.objects; holds = untold (g.S.Shelf.tells new) (g.S.Shelf.world new).now.seen c.give_up.new.pool p.objects (done.objects p.objects h.objects) }; trees = λ writes. writes_no_trees (sym (ap is_writing_trees c.in-Discard.is) ∙ writes); moves = λ told. writes_no_trees (sym (ap is_writing_trees c.in-Discard.is) ∙ told.0) }

pub returns-in_ok-upgrade-in-Upgrade-clause-resets : goal.returns-in_ok-upgrade-in-Upgrade-clause-resets
returns-in_ok-upgrade-in-Upgrade-clause-resets g c = λ on p h.
    let new = c.upgrade.new.shelf in
    let done = c.in_ok-upgrade-in-Upgrade.ensures in
    record {
      resets = record { leaves = done.ends p.objects h.objects; holds = untold (g.S.Shelf.tells new) (g.S.Shelf.world new).now.seen c.upgrade.new.pool p.objects (done.objects p.objects h.objects) };
      trees = λ writes. recorded_trees (g.S.Shelf.tells c.args.shelf.now) (g.S.Shelf.tells new) (g.S.Shelf.world c.args.shelf.now) (g.S.Shelf.world new) c.args.pool.now c.upgrade.new.pool h.objects.held.told (done.ends p.objects h.objects).settled done.trees;
      moves = λ told. done.moves (trees_told Had (Unit {0}) (g.S.Shelf.tells c.args.shelf.now) (g.S.Shelf.world c.args.shelf.now).now.seen c.args.pool.now h.objects.held.told told.1);
    }

-- ---- wherever such a line stops

pub returns-in_ok-add-in-Add-clause-stops_reset : goal.returns-in_ok-add-in-Add-clause-stops_reset
returns-in_ok-add-in-Add-clause-stops_reset g c = λ on p h. inr (c.in-Some.slot, c.add.ensures.stops p.objects h.objects)

pub returns-in_err-add-in-Add-clause-stops_reset : goal.returns-in_err-add-in-Add-clause-stops_reset
returns-in_err-add-in-Add-clause-stops_reset g c = λ on p h. inr (c.in-Some.slot, c.add.ensures.stops p.objects h.objects)

pub returns-in_ok-take-in-Checkpoint-clause-stops_reset : goal.returns-in_ok-take-in-Checkpoint-clause-stops_reset
returns-in_ok-take-in-Checkpoint-clause-stops_reset g c = λ on p h. inl (reset_told (HasLastTrees (g.S.Shelf.world c.args.shelf.now).now.seen c.args.pool.now) (WritesTold c.args.command.now c.args.pool.now (g.S.Shelf.world c.args.shelf.now)) (g.S.Shelf.sizes c.args.shelf.now) p.objects c.args.pool.now (g.S.Shelf.world c.args.shelf.now) (g.S.Shelf.world c.take.new.shelf) (λ told. told.1) (c.take.ensures.stops p.objects h.objects))

pub returns-in_err-take-in-Checkpoint-clause-stops_reset : goal.returns-in_err-take-in-Checkpoint-clause-stops_reset
returns-in_err-take-in-Checkpoint-clause-stops_reset g c = λ on p h. inl (reset_told (HasLastTrees (g.S.Shelf.world c.args.shelf.now).now.seen c.args.pool.now) (WritesTold c.args.command.now c.args.pool.now (g.S.Shelf.world c.args.shelf.now)) (g.S.Shelf.sizes c.args.shelf.now) p.objects c.args.pool.now (g.S.Shelf.world c.args.shelf.now) (g.S.Shelf.world c.take.new.shelf) (λ told. told.1) (c.take.ensures.stops p.objects h.objects))

pub returns-in_ok-give_up-in-Discard-clause-stops_reset : goal.returns-in_ok-give_up-in-Discard-clause-stops_reset
returns-in_ok-give_up-in-Discard-clause-stops_reset g c = λ on p h. inl (reset_told ⊥ (WritesTold c.args.command.now c.args.pool.now (g.S.Shelf.world c.args.shelf.now)) (g.S.Shelf.sizes c.args.shelf.now) p.objects c.args.pool.now (g.S.Shelf.world c.args.shelf.now) (g.S.Shelf.world c.give_up.new.shelf) (λ told. writes_no_trees (sym (ap is_writing_trees c.in-Discard.is) ∙ told.0)) (c.give_up.ensures.stops p.objects h.objects))

pub returns-in_err-give_up-in-Discard-clause-stops_reset : goal.returns-in_err-give_up-in-Discard-clause-stops_reset
returns-in_err-give_up-in-Discard-clause-stops_reset g c = λ on p h. inl (reset_told ⊥ (WritesTold c.args.command.now c.args.pool.now (g.S.Shelf.world c.args.shelf.now)) (g.S.Shelf.sizes c.args.shelf.now) p.objects c.args.pool.now (g.S.Shelf.world c.args.shelf.now) (g.S.Shelf.world c.give_up.new.shelf) (λ told. writes_no_trees (sym (ap is_writing_trees c.in-Discard.is) ∙ told.0)) (c.give_up.ensures.stops p.objects h.objects))

pub returns-in_ok-upgrade-in-Upgrade-clause-stops_reset : goal.returns-in_ok-upgrade-in-Upgrade-clause-stops_reset
returns-in_ok-upgrade-in-Upgrade-clause-stops_reset g c = λ on p h. inl (reset_told (HasLastTrees (g.S.Shelf.world c.args.shelf.now).now.seen c.args.pool.now) (WritesTold c.args.command.now c.args.pool.now (g.S.Shelf.world c.args.shelf.now)) (g.S.Shelf.sizes c.args.shelf.now) p.objects c.args.pool.now (g.S.Shelf.world c.args.shelf.now) (g.S.Shelf.world c.upgrade.new.shelf) (λ told. told.1) (c.upgrade.ensures.stops p.objects h.objects))

pub returns-in_err-upgrade-in-Upgrade-clause-stops_reset : goal.returns-in_err-upgrade-in-Upgrade-clause-stops_reset
returns-in_err-upgrade-in-Upgrade-clause-stops_reset g c = λ on p h. inl (reset_told (HasLastTrees (g.S.Shelf.world c.args.shelf.now).now.seen c.args.pool.now) (WritesTold c.args.command.now c.args.pool.now (g.S.Shelf.world c.args.shelf.now)) (g.S.Shelf.sizes c.args.shelf.now) p.objects c.args.pool.now (g.S.Shelf.world c.args.shelf.now) (g.S.Shelf.world c.upgrade.new.shelf) (λ told. told.1) (c.upgrade.ensures.stops p.objects h.objects))
