use Rattle.zr_sync.specs.States.{HoldsState}
use Rattle.zr_script.specs.declared.reply.Reply.TheVariants as reply
use Rattle.std.proofs.Common.{◌≡◌, inl, ◌<◌, ℕ, List, length, replicate, true, refl, sym, ◌∙◌, ap, subst, Err}
use Rattle.std.specs.FinMap as map
use Rattle.zr_model.specs.Objects.{blank}
use Rattle.zr_model.specs.State.{with_objects}
use Rattle.std.specs.Prelude.{slice_index}
use Rattle.std.proofs.lemmas.List.{get_or-replicate, length-replicate}
use Rattle.zr_change.specs.Edits.{byte_put}
use Rattle.zr_lines.specs.Drops.{IsFoundToDrop}
use Rattle.zr_lines.specs.Reaches.{is_in_reach}
use Rattle.zr_lines.specs.declared.range.Reach.TheVariants.{Write, Fill, Punch}
use Rattle.std.proofs.lemmas.Result.{err_from_is_err_and}
use Rattle.zr_script.specs.declared.command.Command.{Command}
use Rattle.zr_sync.specs.declared.fault.Fault.TheVariants.{No}
use Rattle.zr_script.specs.declared.command.Command.TheVariants as cmd
use Rattle.zr_pool.specs.Accounts.{Refuses, Turns}
use Rattle.zr_pool.specs.Plain.{IsPlainRefusal, IsPlainOf, IsPlainOn}
use Rattle.zr_pool.proofs.Acting.{plain_refusal, made_on, dropped_on, read_on, sum_on, written_on, filled_on, punched_on, changed_by}
use Rattle.zr_pool.specs.Turns.{IsOpenRefusal}
use Rattle.zr_pool.proofs.Refused.{fault_same, change_refusal, answered_no, answered_ok}
use Rattle.zr_last.proofs.Lasting.{blocks_last}
use Rattle.zr_pool.proofs.Staying.{same_state, edited_state}
use Rattle.zr_pool.proofs.Tellings.{found_told, blocks_told, damage_told, puts_bytes, puts_none}
use Rattle.zr_pool.proofs.lines.object_line.Goals as goal

pub returns-in_err-make-in-Make-clause-refused : goal.returns-in_err-make-in-Make-clause-refused
returns-in_err-make-in-Make-clause-refused g c = λ r is.
    let p = err_from_is_err_and c.from_residual.result c.from_residual.ensures.1 in
    let e = fault_same c.in_err-make-in-Make.field-0.0 p.0 r c.from_residual.result p.1 p.2 is in
    subst (λ (command : Command). IsOpenRefusal command r) (sym c.in-Make.is) (c.make.ensures.refused r (c.in_err-make-in-Make.was ∙ ap Err e))

pub returns-in_err-drop-in-Drop-clause-refused : goal.returns-in_err-drop-in-Drop-clause-refused
returns-in_err-drop-in-Drop-clause-refused g c = λ r is.
    let p = err_from_is_err_and c.from_residual-in_err-drop-in-Drop.result c.from_residual-in_err-drop-in-Drop.ensures.1 in
    let e = fault_same c.in_err-drop-in-Drop.field-0.0 p.0 r c.from_residual-in_err-drop-in-Drop.result p.1 p.2 is in
    subst (λ (command : Command). IsOpenRefusal command r) (sym c.in-Drop.is) (c.drop.ensures.refused r (c.in_err-drop-in-Drop.was ∙ ap Err e))

pub returns-in_err-change-in-Write-clause-refused : goal.returns-in_err-change-in-Write-clause-refused
returns-in_err-change-in-Write-clause-refused g c = λ r is.
    let p = err_from_is_err_and c.from_residual-in_err-change-in-Write.result c.from_residual-in_err-change-in-Write.ensures.1 in
    let e = fault_same c.in_err-change-in-Write.field-0.0 p.0 r c.from_residual-in_err-change-in-Write.result p.1 p.2 is in
    subst (λ (command : Command). IsOpenRefusal command r) (sym c.in-Write.is) (change_refusal _ _ _ _ _ _ _ r (c.change.ensures.refused r (c.in_err-change-in-Write.was ∙ ap Err e)))

pub returns-in_err-change-in-Fill-clause-refused : goal.returns-in_err-change-in-Fill-clause-refused
returns-in_err-change-in-Fill-clause-refused g c = λ r is.
    let p = err_from_is_err_and c.from_residual-in_err-change-in-Fill.result c.from_residual-in_err-change-in-Fill.ensures.1 in
    let e = fault_same c.in_err-change-in-Fill.field-0.0 p.0 r c.from_residual-in_err-change-in-Fill.result p.1 p.2 is in
    subst (λ (command : Command). IsOpenRefusal command r) (sym c.in-Fill.is) (change_refusal _ _ _ _ _ _ _ r (c.change-in-Fill.ensures.refused r (c.in_err-change-in-Fill.was ∙ ap Err e)))

pub returns-in_err-change-in-Punch-clause-refused : goal.returns-in_err-change-in-Punch-clause-refused
returns-in_err-change-in-Punch-clause-refused g c = λ r is.
    let p = err_from_is_err_and c.from_residual-in_err-change-in-Punch.result c.from_residual-in_err-change-in-Punch.ensures.1 in
    let e = fault_same c.in_err-change-in-Punch.field-0.0 p.0 r c.from_residual-in_err-change-in-Punch.result p.1 p.2 is in
    subst (λ (command : Command). IsOpenRefusal command r) (sym c.in-Punch.is) (change_refusal _ _ _ _ _ _ _ r (c.change-in-Punch.ensures.refused r (c.in_err-change-in-Punch.was ∙ ap Err e)))

pub returns-in_err-make-in-Make-clause-stays : goal.returns-in_err-make-in-Make-clause-stays
returns-in_err-make-in-Make-clause-stays g c = λ p h r is.
    let q = err_from_is_err_and c.from_residual.result c.from_residual.ensures.1 in
    let e = fault_same c.in_err-make-in-Make.field-0.0 q.0 r c.from_residual.result q.1 q.2 is in
    let was = c.in_err-make-in-Make.was ∙ ap Err e in
    same_state _ _ c.args.pool.now c.make.new.pool p p h.checkpoint (c.make.ensures.same (answered_no c.make.result r was)).ckpt refl refl (c.make.ensures.objects p.objects h.objects r was)

pub returns-in_err-make-in-Make-clause-cause : goal.returns-in_err-make-in-Make-clause-cause
returns-in_err-make-in-Make-clause-cause g c = λ p h r is.
    let q = err_from_is_err_and c.from_residual.result c.from_residual.ensures.1 in
    let e = fault_same c.in_err-make-in-Make.field-0.0 q.0 r c.from_residual.result q.1 q.2 is in
    let was = c.in_err-make-in-Make.was ∙ ap Err e in
    subst (λ (command : Command). IsPlainRefusal p command r) (sym c.in-Make.is)
    (plain_refusal p.objects (cmd.Make c.in-Make.id c.in-Make.units) r (λ x. tt) (λ x. c.make.ensures.range.0 (was ∙ ap (λ y. Err (No y)) x)) (λ x. c.make.ensures.exists p.objects h.objects (was ∙ ap (λ y. Err (No y)) x)))

pub returns-in_err-drop-in-Drop-clause-stays : goal.returns-in_err-drop-in-Drop-clause-stays
returns-in_err-drop-in-Drop-clause-stays g c = λ p h r is.
    let q = err_from_is_err_and c.from_residual-in_err-drop-in-Drop.result c.from_residual-in_err-drop-in-Drop.ensures.1 in
    let e = fault_same c.in_err-drop-in-Drop.field-0.0 q.0 r c.from_residual-in_err-drop-in-Drop.result q.1 q.2 is in
    let was = c.in_err-drop-in-Drop.was ∙ ap Err e in
    same_state _ _ c.args.pool.now c.drop.new.pool p p h.checkpoint (c.drop.ensures.same (answered_no c.drop.result r was)).ckpt refl refl (c.drop.ensures.objects p.objects h.objects r was)

pub returns-in_err-bytes-in-Read-clause-cause : goal.returns-in_err-bytes-in-Read-clause-cause
returns-in_err-bytes-in-Read-clause-cause g c = λ p h r is.
    let q = err_from_is_err_and c.from_residual-in_err-bytes-in-Read.result c.from_residual-in_err-bytes-in-Read.ensures.1 in
    let e = fault_same c.in_err-bytes-in-Read.field-0.0 q.0 r c.from_residual-in_err-bytes-in-Read.result q.1 q.2 is in
    let was = c.in_err-bytes-in-Read.was ∙ ap Err e in
    subst (λ (command : Command). IsPlainRefusal p command r) (sym c.in-Read.is)
    (plain_refusal p.objects (cmd.Read c.in-Read.id c.in-Read.off c.in-Read.len) r (λ x. c.read.ensures.missing p.objects h.objects (was ∙ ap (λ y. Err (No y)) x)) (λ x. c.read.ensures.beyond p.objects h.objects (was ∙ ap (λ y. Err (No y)) x)) (λ x. tt))

pub returns-in_ok-make-in-Make-clause-acts : goal.returns-in_ok-make-in-Make-clause-acts
returns-in_ok-make-in-Make-clause-acts g c = λ copies p h.
    let Holds = HoldsState (g.S.Shelf.tells c.make.new.shelf) (g.S.Shelf.world c.make.new.shelf).now.seen c.make.new.pool in
    subst (λ (command : Command). IsPlainOf copies Holds p command reply.Done) (sym c.in-Make.is) (made_on Holds p c.in-Make.id c.in-Make.units (same_state _ _ c.args.pool.now c.make.new.pool p (with_objects p (map.insert p.objects c.in-Make.id (blank c.in-Make.units))) h.checkpoint (c.make.ensures.same (answered_ok c.make.result c.in_ok-make-in-Make.was)).ckpt refl refl (c.in_ok-make-in-Make.ensures.comes p.objects h.objects).1))

pub returns-in_ok-drop-in-Drop-clause-acts : goal.returns-in_ok-drop-in-Drop-clause-acts
returns-in_ok-drop-in-Drop-clause-acts g c = λ copies p h.
    let Holds = HoldsState (g.S.Shelf.tells c.drop.new.shelf) (g.S.Shelf.world c.drop.new.shelf).now.seen c.drop.new.pool in
    subst (λ (command : Command). IsPlainOf copies Holds p command reply.Done) (sym c.in-Drop.is) (dropped_on Holds p c.in-Drop.id (let gone = c.in_ok-drop-in-Drop.ensures.gone p.objects h.objects in (gone.0, gone.1, same_state _ _ c.args.pool.now c.drop.new.pool p (with_objects p (map.remove p.objects c.in-Drop.id)) h.checkpoint (c.drop.ensures.same (answered_ok c.drop.result c.in_ok-drop-in-Drop.was)).ckpt refl refl gone.2)))

pub returns-in_ok-bytes-in-Read-clause-acts : goal.returns-in_ok-bytes-in-Read-clause-acts
returns-in_ok-bytes-in-Read-clause-acts g c = λ copies p h.
    let Holds = HoldsState (g.S.Shelf.tells c.read.new.shelf) (g.S.Shelf.world c.read.new.shelf).now.seen c.read.new.pool in
    let there = read_on Holds p c.in-Read.id c.in-Read.off c.in-Read.len c.in_ok-bytes-in-Read.bytes.items (c.in_ok-bytes-in-Read.ensures.object p.objects h.objects) (same_state _ _ c.args.pool.now c.read.new.pool p p h.checkpoint c.read.ensures.same.ckpt refl refl (c.read.ensures.stays p.objects h.objects)) in
    subst (λ (command : Command). IsPlainOf copies Holds p command (reply.Data c.from_vec.result)) (sym c.in-Read.is) (subst (λ bytes. IsPlainOn Holds p (cmd.Read c.in-Read.id c.in-Read.off c.in-Read.len) (reply.Data bytes)) (sym c.from_vec.ensures) there)

pub returns-in_ok-sum-in-Sum-clause-acts : goal.returns-in_ok-sum-in-Sum-clause-acts
returns-in_ok-sum-in-Sum-clause-acts g c = λ copies p h.
    let Holds = HoldsState (g.S.Shelf.tells c.sum.new.shelf) (g.S.Shelf.world c.sum.new.shelf).now.seen c.sum.new.pool in
    subst (λ (command : Command). IsPlainOf copies Holds p command (reply.Sum c.in_ok-sum-in-Sum.field-0)) (sym c.in-Sum.is) (sum_on Holds p c.in-Sum.id c.in_ok-sum-in-Sum.field-0 (c.in_ok-sum-in-Sum.ensures.object p.objects h.objects) (same_state _ _ c.args.pool.now c.sum.new.pool p p h.checkpoint c.sum.ensures.same.ckpt refl refl (c.sum.ensures.stays p.objects h.objects)))

pub returns-in_err-change-in-Write-clause-stays : goal.returns-in_err-change-in-Write-clause-stays
returns-in_err-change-in-Write-clause-stays g c = λ p h r is.
    let q = err_from_is_err_and c.from_residual-in_err-change-in-Write.result c.from_residual-in_err-change-in-Write.ensures.1 in
    let e = fault_same c.in_err-change-in-Write.field-0.0 q.0 r c.from_residual-in_err-change-in-Write.result q.1 q.2 is in
    let was = c.in_err-change-in-Write.was ∙ ap Err e in
    same_state _ _ c.args.pool.now c.change.new.pool p p h.checkpoint (c.change.ensures.same_no r was).ckpt refl refl (c.change.ensures.stays_no p.objects h.objects r was)

pub returns-in_err-change-in-Write-clause-cause : goal.returns-in_err-change-in-Write-clause-cause
returns-in_err-change-in-Write-clause-cause g c = λ p h r is.
    let q = err_from_is_err_and c.from_residual-in_err-change-in-Write.result c.from_residual-in_err-change-in-Write.ensures.1 in
    let e = fault_same c.in_err-change-in-Write.field-0.0 q.0 r c.from_residual-in_err-change-in-Write.result q.1 q.2 is in
    let was = c.in_err-change-in-Write.was ∙ ap Err e in
    subst (λ (command : Command). IsPlainRefusal p command r) (sym c.in-Write.is)
    (plain_refusal p.objects (cmd.Write c.in-Write.id c.in-Write.off c.in-Write.bytes) r (λ x. c.change.ensures.absent_object p.objects h.objects (was ∙ ap (λ y. Err (No y)) x)) (λ x. (c.given-edit.result, c.given-edit.ensures.off, c.given-edit.ensures.len ∙ ap length c.as_slice.ensures, c.change.ensures.too_far_object p.objects h.objects (was ∙ ap (λ y. Err (No y)) x))) (λ x. tt))

pub returns-in_ok-change-in-Write-clause-acts : goal.returns-in_ok-change-in-Write-clause-acts
returns-in_ok-change-in-Write-clause-acts g c = λ copies p h.
    let Holds = HoldsState (g.S.Shelf.tells c.change.new.shelf) (g.S.Shelf.world c.change.new.shelf).now.seen c.change.new.pool in
    let bytes = c.as_slice.result.now in
    let done = edited_state _ _ c.args.pool.now c.change.new.pool p c.in-Write.id bytes c.given-edit.result h.checkpoint c.in_ok-change-in-Write.ensures.same.ckpt (λ o. is_in_reach Write o.units c.given-edit.result ≡ true) (c.in_ok-change-in-Write.ensures.edited p.objects bytes h.objects (sym c.given-edit.ensures.len) (λ k lt. sym (c.given-edit.ensures.puts k))) in
    let turn = written_on Holds p c.in-Write.id c.in-Write.off bytes (changed_by Holds p c.in-Write.id c.in-Write.off bytes c.given-edit.result (λ o. is_in_reach Write o.units c.given-edit.result ≡ true) c.given-edit.ensures.off done) in
    subst (λ (command : Command). IsPlainOf copies Holds p command reply.Done) (sym c.in-Write.is) (subst (λ (bs : List ℕ). IsPlainOn Holds p (cmd.Write c.in-Write.id c.in-Write.off bs) reply.Done) c.as_slice.ensures turn)

pub returns-in_err-change-in-Fill-clause-stays : goal.returns-in_err-change-in-Fill-clause-stays
returns-in_err-change-in-Fill-clause-stays g c = λ p h r is.
    let q = err_from_is_err_and c.from_residual-in_err-change-in-Fill.result c.from_residual-in_err-change-in-Fill.ensures.1 in
    let e = fault_same c.in_err-change-in-Fill.field-0.0 q.0 r c.from_residual-in_err-change-in-Fill.result q.1 q.2 is in
    let was = c.in_err-change-in-Fill.was ∙ ap Err e in
    same_state _ _ c.args.pool.now c.change-in-Fill.new.pool p p h.checkpoint (c.change-in-Fill.ensures.same_no r was).ckpt refl refl (c.change-in-Fill.ensures.stays_no p.objects h.objects r was)

pub returns-in_err-change-in-Fill-clause-cause : goal.returns-in_err-change-in-Fill-clause-cause
returns-in_err-change-in-Fill-clause-cause g c = λ p h r is.
    let q = err_from_is_err_and c.from_residual-in_err-change-in-Fill.result c.from_residual-in_err-change-in-Fill.ensures.1 in
    let e = fault_same c.in_err-change-in-Fill.field-0.0 q.0 r c.from_residual-in_err-change-in-Fill.result q.1 q.2 is in
    let was = c.in_err-change-in-Fill.was ∙ ap Err e in
    subst (λ (command : Command). IsPlainRefusal p command r) (sym c.in-Fill.is)
    (plain_refusal p.objects (cmd.Fill c.in-Fill.id c.in-Fill.off c.in-Fill.len c.in-Fill.byte) r (λ x. c.change-in-Fill.ensures.absent_object p.objects h.objects (was ∙ ap (λ y. Err (No y)) x)) (λ x. (c.filled-edit.result, c.filled-edit.ensures.off, c.filled-edit.ensures.len, c.change-in-Fill.ensures.too_far_object p.objects h.objects (was ∙ ap (λ y. Err (No y)) x))) (λ x. tt))

pub returns-in_ok-change-in-Fill-clause-acts : goal.returns-in_ok-change-in-Fill-clause-acts
returns-in_ok-change-in-Fill-clause-acts g c = λ copies p h.
    let Holds = HoldsState (g.S.Shelf.tells c.change-in-Fill.new.shelf) (g.S.Shelf.world c.change-in-Fill.new.shelf).now.seen c.change-in-Fill.new.pool in
    let n = c.in-Fill.len in
    let bytes : List ℕ = replicate n c.in-Fill.byte in
    let each : (k : ℕ) → k < c.filled-edit.result.len → slice_index bytes k ≡ byte_put c.filled-edit.result.bytes k = λ k lt. get_or-replicate n k c.in-Fill.byte 0 (subst (λ (m : ℕ). k < m) c.filled-edit.ensures.len lt) ∙ sym (c.filled-edit.ensures.puts k) in
    let done = edited_state _ _ c.args.pool.now c.change-in-Fill.new.pool p c.in-Fill.id bytes c.filled-edit.result h.checkpoint c.in_ok-change-in-Fill.ensures.same.ckpt (λ o. is_in_reach Fill o.units c.filled-edit.result ≡ true) (c.in_ok-change-in-Fill.ensures.edited p.objects bytes h.objects (length-replicate n c.in-Fill.byte ∙ sym c.filled-edit.ensures.len) each) in
    let turn = filled_on Holds p c.in-Fill.id c.in-Fill.off c.in-Fill.len c.in-Fill.byte (changed_by Holds p c.in-Fill.id c.in-Fill.off bytes c.filled-edit.result (λ o. is_in_reach Fill o.units c.filled-edit.result ≡ true) c.filled-edit.ensures.off done) in
    subst (λ (command : Command). IsPlainOf copies Holds p command reply.Done) (sym c.in-Fill.is) turn

pub returns-in_err-change-in-Punch-clause-stays : goal.returns-in_err-change-in-Punch-clause-stays
returns-in_err-change-in-Punch-clause-stays g c = λ p h r is.
    let q = err_from_is_err_and c.from_residual-in_err-change-in-Punch.result c.from_residual-in_err-change-in-Punch.ensures.1 in
    let e = fault_same c.in_err-change-in-Punch.field-0.0 q.0 r c.from_residual-in_err-change-in-Punch.result q.1 q.2 is in
    let was = c.in_err-change-in-Punch.was ∙ ap Err e in
    same_state _ _ c.args.pool.now c.change-in-Punch.new.pool p p h.checkpoint (c.change-in-Punch.ensures.same_no r was).ckpt refl refl (c.change-in-Punch.ensures.stays_no p.objects h.objects r was)

pub returns-in_err-change-in-Punch-clause-cause : goal.returns-in_err-change-in-Punch-clause-cause
returns-in_err-change-in-Punch-clause-cause g c = λ p h r is.
    let q = err_from_is_err_and c.from_residual-in_err-change-in-Punch.result c.from_residual-in_err-change-in-Punch.ensures.1 in
    let e = fault_same c.in_err-change-in-Punch.field-0.0 q.0 r c.from_residual-in_err-change-in-Punch.result q.1 q.2 is in
    let was = c.in_err-change-in-Punch.was ∙ ap Err e in
    subst (λ (command : Command). IsPlainRefusal p command r) (sym c.in-Punch.is)
    (plain_refusal p.objects (cmd.Punch c.in-Punch.id c.in-Punch.off c.in-Punch.len) r (λ x. c.change-in-Punch.ensures.absent_object p.objects h.objects (was ∙ ap (λ y. Err (No y)) x)) (λ x. (c.filled-edit-in-Punch.result, c.filled-edit-in-Punch.ensures.off, c.filled-edit-in-Punch.ensures.len, c.change-in-Punch.ensures.too_far_object p.objects h.objects (was ∙ ap (λ y. Err (No y)) x))) (λ x. tt))

pub returns-in_ok-change-in-Punch-clause-acts : goal.returns-in_ok-change-in-Punch-clause-acts
returns-in_ok-change-in-Punch-clause-acts g c = λ copies p h.
    let Holds = HoldsState (g.S.Shelf.tells c.change-in-Punch.new.shelf) (g.S.Shelf.world c.change-in-Punch.new.shelf).now.seen c.change-in-Punch.new.pool in
    let n = c.in-Punch.len in
    let bytes : List ℕ = replicate n 0 in
    let each : (k : ℕ) → k < c.filled-edit-in-Punch.result.len → slice_index bytes k ≡ byte_put c.filled-edit-in-Punch.result.bytes k = λ k lt. get_or-replicate n k 0 0 (subst (λ (m : ℕ). k < m) c.filled-edit-in-Punch.ensures.len lt) ∙ sym (c.filled-edit-in-Punch.ensures.puts k) in
    let done = edited_state _ _ c.args.pool.now c.change-in-Punch.new.pool p c.in-Punch.id bytes c.filled-edit-in-Punch.result h.checkpoint c.in_ok-change-in-Punch.ensures.same.ckpt (λ o. is_in_reach Punch o.units c.filled-edit-in-Punch.result ≡ true) (c.in_ok-change-in-Punch.ensures.edited p.objects bytes h.objects (length-replicate n 0 ∙ sym c.filled-edit-in-Punch.ensures.len) each) in
    let turn = punched_on Holds p c.in-Punch.id c.in-Punch.off c.in-Punch.len (changed_by Holds p c.in-Punch.id c.in-Punch.off bytes c.filled-edit-in-Punch.result (λ o. is_in_reach Punch o.units c.filled-edit-in-Punch.result ≡ true) c.filled-edit-in-Punch.ensures.off done) in
    subst (λ (command : Command). IsPlainOf copies Holds p command reply.Done) (sym c.in-Punch.is) turn

pub returns-in_err-bytes-in-Read-clause-stays : goal.returns-in_err-bytes-in-Read-clause-stays
returns-in_err-bytes-in-Read-clause-stays g c = λ p h r is. same_state _ _ c.args.pool.now c.read.new.pool p p h.checkpoint c.read.ensures.same.ckpt refl refl (c.read.ensures.stays p.objects h.objects)

pub returns-in_err-sum-in-Sum-clause-stays : goal.returns-in_err-sum-in-Sum-clause-stays
returns-in_err-sum-in-Sum-clause-stays g c = λ p h r is. same_state _ _ c.args.pool.now c.sum.new.pool p p h.checkpoint c.sum.ensures.same.ckpt refl refl (c.sum.ensures.stays p.objects h.objects)

-- ---- the account

pub returns-in_ok-make-in-Make-clause-account : goal.returns-in_ok-make-in-Make-clause-account
returns-in_ok-make-in-Make-clause-account g c = λ told paths.
    subst (λ (command : Command). Turns paths (g.S.Shelf.sizes c.args.shelf.now) (g.S.Shelf.world c.args.shelf.now).now.seen c.args.pool.now command reply.Done (g.S.Shelf.world c.make.new.shelf).now.seen c.make.new.pool) (sym c.in-Make.is)
    (record { sets = c.in_ok-make-in-Make.ensures.made; none = c.in_ok-make-in-Make.ensures.no_blocks; room = c.in_ok-make-in-Make.ensures.room; same = c.make.ensures.same (answered_ok c.make.result c.in_ok-make-in-Make.was) })

pub returns-in_err-make-in-Make-clause-account_no : goal.returns-in_err-make-in-Make-clause-account_no
returns-in_err-make-in-Make-clause-account_no g c = λ told paths r is.
    let q = err_from_is_err_and c.from_residual.result c.from_residual.ensures.1 in
    let e = fault_same c.in_err-make-in-Make.field-0.0 q.0 r c.from_residual.result q.1 q.2 is in
    let was = c.in_err-make-in-Make.was ∙ ap Err e in
    subst (λ (command : Command). Refuses paths (g.S.Shelf.sizes c.args.shelf.now) (g.S.Shelf.world c.args.shelf.now).now.seen c.args.pool.now command r c.make.new.pool) (sym c.in-Make.is)
    (record {
      lacks = λ needed free room. c.make.ensures.lacks needed free (was ∙ ap (λ y. Err (No y)) room);
      damage = λ at expected found damaged s held. c.make.ensures.damaged s (blocks_told (g.S.Shelf.tells c.args.shelf.now) told (g.S.Shelf.world c.args.shelf.now).now.seen c.args.pool.now s held) at expected found (was ∙ ap (λ y. Err (No y)) damaged);
      ready = c.make.ensures.group r was;
      same = c.make.ensures.same (answered_no c.make.result r was);
    })

pub returns-in_ok-drop-in-Drop-clause-account : goal.returns-in_ok-drop-in-Drop-clause-account
returns-in_ok-drop-in-Drop-clause-account g c = λ told paths.
    subst (λ (command : Command). Turns paths (g.S.Shelf.sizes c.args.shelf.now) (g.S.Shelf.world c.args.shelf.now).now.seen c.args.pool.now command reply.Done (g.S.Shelf.world c.drop.new.shelf).now.seen c.drop.new.pool) (sym c.in-Drop.is)
    (record { sets = c.in_ok-drop-in-Drop.ensures.dropped; same = c.drop.ensures.same (answered_ok c.drop.result c.in_ok-drop-in-Drop.was) })

pub returns-in_err-drop-in-Drop-clause-account_no : goal.returns-in_err-drop-in-Drop-clause-account_no
returns-in_err-drop-in-Drop-clause-account_no g c = λ told paths r is.
    let q = err_from_is_err_and c.from_residual-in_err-drop-in-Drop.result c.from_residual-in_err-drop-in-Drop.ensures.1 in
    let e = fault_same c.in_err-drop-in-Drop.field-0.0 q.0 r c.from_residual-in_err-drop-in-Drop.result q.1 q.2 is in
    let was = c.in_err-drop-in-Drop.was ∙ ap Err e in
    let disks = (g.S.Shelf.world c.args.shelf.now).now.seen in
    subst (λ (command : Command). Refuses paths (g.S.Shelf.sizes c.args.shelf.now) disks c.args.pool.now command r c.drop.new.pool) (sym c.in-Drop.is)
    (record {
      lacks = λ needed free room.
          let found = c.drop.ensures.lacks needed free (was ∙ ap (λ y. Err (No y)) room) in
          (found.0, found_told (g.S.Shelf.tells c.args.shelf.now) told disks c.args.pool.now c.in-Drop.id found.0 found.1, found.2);
      damage = λ at expected found damaged.
          damage_told (g.S.Shelf.tells c.args.shelf.now) told (IsFoundToDrop c.in-Drop.id c.args.pool.now disks) c.in-Drop.id (λ o index. ⊥) c.args.pool.now disks at expected found (c.drop.ensures.damaged at expected found (was ∙ ap (λ y. Err (No y)) damaged));
      ready = c.drop.ensures.group r was;
      same = c.drop.ensures.same (answered_no c.drop.result r was);
    })

pub returns-in_ok-change-in-Write-clause-account : goal.returns-in_ok-change-in-Write-clause-account
returns-in_ok-change-in-Write-clause-account g c = λ told paths.
    let disks = (g.S.Shelf.world c.args.shelf.now).now.seen in
    let after = (g.S.Shelf.world c.change.new.shelf).now.seen in
    subst (λ (command : Command). Turns paths (g.S.Shelf.sizes c.args.shelf.now) disks c.args.pool.now command reply.Done after c.change.new.pool) (sym c.in-Write.is)
    (puts_bytes (g.S.Shelf.tells c.args.shelf.now) told Write c.in-Write.id c.in-Write.off (length c.in-Write.bytes) c.given-edit.result disks (g.S.Shelf.tells c.change.new.shelf) after c.args.pool.now c.change.new.pool
    (c.given-edit.ensures.off, c.given-edit.ensures.len ∙ ap length c.as_slice.ensures) c.in_ok-change-in-Write.ensures.done c.in_ok-change-in-Write.ensures.same)

pub returns-in_err-change-in-Write-clause-account_no : goal.returns-in_err-change-in-Write-clause-account_no
returns-in_err-change-in-Write-clause-account_no g c = λ told paths r is.
    let q = err_from_is_err_and c.from_residual-in_err-change-in-Write.result c.from_residual-in_err-change-in-Write.ensures.1 in
    let e = fault_same c.in_err-change-in-Write.field-0.0 q.0 r c.from_residual-in_err-change-in-Write.result q.1 q.2 is in
    let was = c.in_err-change-in-Write.was ∙ ap Err e in
    let disks = (g.S.Shelf.world c.args.shelf.now).now.seen in
    subst (λ (command : Command). Refuses paths (g.S.Shelf.sizes c.args.shelf.now) disks c.args.pool.now command r c.change.new.pool) (sym c.in-Write.is)
    (puts_none (g.S.Shelf.tells c.args.shelf.now) told Write c.in-Write.id c.in-Write.off (length c.in-Write.bytes) c.given-edit.result disks c.args.pool.now r c.change.new.pool
    (c.given-edit.ensures.off, c.given-edit.ensures.len ∙ ap length c.as_slice.ensures) (c.change.ensures.refused r was) (λ at expected found damaged. c.change.ensures.damaged at expected found (was ∙ ap (λ y. Err (No y)) damaged)) (c.change.ensures.kept r was) (c.change.ensures.same_no r was))

pub returns-in_ok-change-in-Fill-clause-account : goal.returns-in_ok-change-in-Fill-clause-account
returns-in_ok-change-in-Fill-clause-account g c = λ told paths.
    let disks = (g.S.Shelf.world c.args.shelf.now).now.seen in
    let after = (g.S.Shelf.world c.change-in-Fill.new.shelf).now.seen in
    subst (λ (command : Command). Turns paths (g.S.Shelf.sizes c.args.shelf.now) disks c.args.pool.now command reply.Done after c.change-in-Fill.new.pool) (sym c.in-Fill.is)
    (puts_bytes (g.S.Shelf.tells c.args.shelf.now) told Fill c.in-Fill.id c.in-Fill.off c.in-Fill.len c.filled-edit.result disks (g.S.Shelf.tells c.change-in-Fill.new.shelf) after c.args.pool.now c.change-in-Fill.new.pool
    (c.filled-edit.ensures.off, c.filled-edit.ensures.len) c.in_ok-change-in-Fill.ensures.done c.in_ok-change-in-Fill.ensures.same)

pub returns-in_err-change-in-Fill-clause-account_no : goal.returns-in_err-change-in-Fill-clause-account_no
returns-in_err-change-in-Fill-clause-account_no g c = λ told paths r is.
    let q = err_from_is_err_and c.from_residual-in_err-change-in-Fill.result c.from_residual-in_err-change-in-Fill.ensures.1 in
    let e = fault_same c.in_err-change-in-Fill.field-0.0 q.0 r c.from_residual-in_err-change-in-Fill.result q.1 q.2 is in
    let was = c.in_err-change-in-Fill.was ∙ ap Err e in
    let disks = (g.S.Shelf.world c.args.shelf.now).now.seen in
    subst (λ (command : Command). Refuses paths (g.S.Shelf.sizes c.args.shelf.now) disks c.args.pool.now command r c.change-in-Fill.new.pool) (sym c.in-Fill.is)
    (puts_none (g.S.Shelf.tells c.args.shelf.now) told Fill c.in-Fill.id c.in-Fill.off c.in-Fill.len c.filled-edit.result disks c.args.pool.now r c.change-in-Fill.new.pool
    (c.filled-edit.ensures.off, c.filled-edit.ensures.len) (c.change-in-Fill.ensures.refused r was) (λ at expected found damaged. c.change-in-Fill.ensures.damaged at expected found (was ∙ ap (λ y. Err (No y)) damaged)) (c.change-in-Fill.ensures.kept r was) (c.change-in-Fill.ensures.same_no r was))

pub returns-in_ok-change-in-Punch-clause-account : goal.returns-in_ok-change-in-Punch-clause-account
returns-in_ok-change-in-Punch-clause-account g c = λ told paths.
    let disks = (g.S.Shelf.world c.args.shelf.now).now.seen in
    let after = (g.S.Shelf.world c.change-in-Punch.new.shelf).now.seen in
    subst (λ (command : Command). Turns paths (g.S.Shelf.sizes c.args.shelf.now) disks c.args.pool.now command reply.Done after c.change-in-Punch.new.pool) (sym c.in-Punch.is)
    (puts_bytes (g.S.Shelf.tells c.args.shelf.now) told Punch c.in-Punch.id c.in-Punch.off c.in-Punch.len c.filled-edit-in-Punch.result disks (g.S.Shelf.tells c.change-in-Punch.new.shelf) after c.args.pool.now c.change-in-Punch.new.pool
    (c.filled-edit-in-Punch.ensures.off, c.filled-edit-in-Punch.ensures.len) c.in_ok-change-in-Punch.ensures.done c.in_ok-change-in-Punch.ensures.same)

pub returns-in_err-change-in-Punch-clause-account_no : goal.returns-in_err-change-in-Punch-clause-account_no
returns-in_err-change-in-Punch-clause-account_no g c = λ told paths r is.
    let q = err_from_is_err_and c.from_residual-in_err-change-in-Punch.result c.from_residual-in_err-change-in-Punch.ensures.1 in
    let e = fault_same c.in_err-change-in-Punch.field-0.0 q.0 r c.from_residual-in_err-change-in-Punch.result q.1 q.2 is in
    let was = c.in_err-change-in-Punch.was ∙ ap Err e in
    let disks = (g.S.Shelf.world c.args.shelf.now).now.seen in
    subst (λ (command : Command). Refuses paths (g.S.Shelf.sizes c.args.shelf.now) disks c.args.pool.now command r c.change-in-Punch.new.pool) (sym c.in-Punch.is)
    (puts_none (g.S.Shelf.tells c.args.shelf.now) told Punch c.in-Punch.id c.in-Punch.off c.in-Punch.len c.filled-edit-in-Punch.result disks c.args.pool.now r c.change-in-Punch.new.pool
    (c.filled-edit-in-Punch.ensures.off, c.filled-edit-in-Punch.ensures.len) (c.change-in-Punch.ensures.refused r was) (λ at expected found damaged. c.change-in-Punch.ensures.damaged at expected found (was ∙ ap (λ y. Err (No y)) damaged)) (c.change-in-Punch.ensures.kept r was) (c.change-in-Punch.ensures.same_no r was))

pub returns-in_ok-bytes-in-Read-clause-account : goal.returns-in_ok-bytes-in-Read-clause-account
returns-in_ok-bytes-in-Read-clause-account g c = λ told paths.
    subst (λ (command : Command). Turns paths (g.S.Shelf.sizes c.args.shelf.now) (g.S.Shelf.world c.args.shelf.now).now.seen c.args.pool.now command (reply.Data c.from_vec.result) (g.S.Shelf.world c.read.new.shelf).now.seen c.read.new.pool) (sym c.in-Read.is)
    (record { group = c.read.ensures.group; rest = c.read.ensures.wrote.rest; space = c.read.ensures.wrote.goes.space })

pub returns-in_err-bytes-in-Read-clause-account_no : goal.returns-in_err-bytes-in-Read-clause-account_no
returns-in_err-bytes-in-Read-clause-account_no g c = λ told paths r is.
    let q = err_from_is_err_and c.from_residual-in_err-bytes-in-Read.result c.from_residual-in_err-bytes-in-Read.ensures.1 in
    let e = fault_same c.in_err-bytes-in-Read.field-0.0 q.0 r c.from_residual-in_err-bytes-in-Read.result q.1 q.2 is in
    let was = c.in_err-bytes-in-Read.was ∙ ap Err e in
    let disks = (g.S.Shelf.world c.args.shelf.now).now.seen in
    subst (λ (command : Command). Refuses paths (g.S.Shelf.sizes c.args.shelf.now) disks c.args.pool.now command r c.read.new.pool) (sym c.in-Read.is) (
      record { group = c.read.ensures.group; rest = c.read.ensures.wrote.rest; space = c.read.ensures.wrote.goes.space },
      λ at expected found damaged s held. c.read.ensures.damaged s (blocks_told (g.S.Shelf.tells c.args.shelf.now) told disks c.args.pool.now s held) at expected found (was ∙ ap (λ y. Err (No y)) damaged),
    )

pub returns-in_ok-sum-in-Sum-clause-account : goal.returns-in_ok-sum-in-Sum-clause-account
returns-in_ok-sum-in-Sum-clause-account g c = λ told paths.
    subst (λ (command : Command). Turns paths (g.S.Shelf.sizes c.args.shelf.now) (g.S.Shelf.world c.args.shelf.now).now.seen c.args.pool.now command (reply.Sum c.in_ok-sum-in-Sum.field-0) (g.S.Shelf.world c.sum.new.shelf).now.seen c.sum.new.pool) (sym c.in-Sum.is)
    (record { group = c.sum.ensures.group; rest = c.sum.ensures.wrote.rest; space = c.sum.ensures.wrote.goes.space })

pub returns-in_err-sum-in-Sum-clause-account_no : goal.returns-in_err-sum-in-Sum-clause-account_no
returns-in_err-sum-in-Sum-clause-account_no g c = λ told paths r is.
    let q = err_from_is_err_and c.from_residual-in_err-sum-in-Sum.result c.from_residual-in_err-sum-in-Sum.ensures.1 in
    let e = fault_same c.in_err-sum-in-Sum.field-0.0 q.0 r c.from_residual-in_err-sum-in-Sum.result q.1 q.2 is in
    let was = c.in_err-sum-in-Sum.was ∙ ap Err e in
    let disks = (g.S.Shelf.world c.args.shelf.now).now.seen in
    subst (λ (command : Command). Refuses paths (g.S.Shelf.sizes c.args.shelf.now) disks c.args.pool.now command r c.sum.new.pool) (sym c.in-Sum.is) (
      record { group = c.sum.ensures.group; rest = c.sum.ensures.wrote.rest; space = c.sum.ensures.wrote.goes.space },
      λ at expected found damaged s held. c.sum.ensures.damaged s (blocks_told (g.S.Shelf.tells c.args.shelf.now) told disks c.args.pool.now s held) at expected found (was ∙ ap (λ y. Err (No y)) damaged),
    )

-- ---- what the disks show

pub returns-in_err-make-in-Make-clause-shown_no : goal.returns-in_err-make-in-Make-clause-shown_no
returns-in_err-make-in-Make-clause-shown_no g c = λ told r is.
    let res = c.from_residual in
    let q = err_from_is_err_and res.result res.ensures.1 in
    let e = fault_same c.in_err-make-in-Make.field-0.0 q.0 r res.result q.1 q.2 is in
    let was = c.in_err-make-in-Make.was ∙ ap Err e in
    c.make.ensures.shown told (answered_no c.make.result r was)

pub returns-in_ok-make-in-Make-clause-shown : goal.returns-in_ok-make-in-Make-clause-shown
returns-in_ok-make-in-Make-clause-shown g c = λ told. c.make.ensures.shown told (answered_ok c.make.result c.in_ok-make-in-Make.was)

pub returns-in_err-drop-in-Drop-clause-shown_no : goal.returns-in_err-drop-in-Drop-clause-shown_no
returns-in_err-drop-in-Drop-clause-shown_no g c = λ told r is.
    let res = c.from_residual-in_err-drop-in-Drop in
    let q = err_from_is_err_and res.result res.ensures.1 in
    let e = fault_same c.in_err-drop-in-Drop.field-0.0 q.0 r res.result q.1 q.2 is in
    let was = c.in_err-drop-in-Drop.was ∙ ap Err e in
    c.drop.ensures.shown told (answered_no c.drop.result r was)

pub returns-in_ok-drop-in-Drop-clause-shown : goal.returns-in_ok-drop-in-Drop-clause-shown
returns-in_ok-drop-in-Drop-clause-shown g c = λ told. c.drop.ensures.shown told (answered_ok c.drop.result c.in_ok-drop-in-Drop.was)

pub returns-in_err-bytes-in-Read-clause-shown_no : goal.returns-in_err-bytes-in-Read-clause-shown_no
returns-in_err-bytes-in-Read-clause-shown_no g c = λ told r is.
    let res = c.from_residual-in_err-bytes-in-Read in
    let q = err_from_is_err_and res.result res.ensures.1 in
    let e = fault_same c.in_err-bytes-in-Read.field-0.0 q.0 r res.result q.1 q.2 is in
    let was = c.in_err-bytes-in-Read.was ∙ ap Err e in
    blocks_last c.requires.pool (g.S.Shelf.sound c.args.shelf.now told).sized told c.read.ensures.wrote

pub returns-in_ok-bytes-in-Read-clause-shown : goal.returns-in_ok-bytes-in-Read-clause-shown
returns-in_ok-bytes-in-Read-clause-shown g c = λ told. blocks_last c.requires.pool (g.S.Shelf.sound c.args.shelf.now told).sized told c.read.ensures.wrote

pub returns-in_err-sum-in-Sum-clause-shown_no : goal.returns-in_err-sum-in-Sum-clause-shown_no
returns-in_err-sum-in-Sum-clause-shown_no g c = λ told r is.
    let res = c.from_residual-in_err-sum-in-Sum in
    let q = err_from_is_err_and res.result res.ensures.1 in
    let e = fault_same c.in_err-sum-in-Sum.field-0.0 q.0 r res.result q.1 q.2 is in
    let was = c.in_err-sum-in-Sum.was ∙ ap Err e in
    blocks_last c.requires.pool (g.S.Shelf.sound c.args.shelf.now told).sized told c.sum.ensures.wrote

pub returns-in_ok-sum-in-Sum-clause-shown : goal.returns-in_ok-sum-in-Sum-clause-shown
returns-in_ok-sum-in-Sum-clause-shown g c = λ told. blocks_last c.requires.pool (g.S.Shelf.sound c.args.shelf.now told).sized told c.sum.ensures.wrote

pub returns-in_err-change-in-Write-clause-shown_no : goal.returns-in_err-change-in-Write-clause-shown_no
returns-in_err-change-in-Write-clause-shown_no g c = λ told r is.
    let res = c.from_residual-in_err-change-in-Write in
    let q = err_from_is_err_and res.result res.ensures.1 in
    let e = fault_same c.in_err-change-in-Write.field-0.0 q.0 r res.result q.1 q.2 is in
    let was = c.in_err-change-in-Write.was ∙ ap Err e in
    c.change.ensures.shown_no told r was

pub returns-in_ok-change-in-Write-clause-shown : goal.returns-in_ok-change-in-Write-clause-shown
returns-in_ok-change-in-Write-clause-shown g c = λ told. c.in_ok-change-in-Write.ensures.shown told

pub returns-in_err-change-in-Fill-clause-shown_no : goal.returns-in_err-change-in-Fill-clause-shown_no
returns-in_err-change-in-Fill-clause-shown_no g c = λ told r is.
    let res = c.from_residual-in_err-change-in-Fill in
    let q = err_from_is_err_and res.result res.ensures.1 in
    let e = fault_same c.in_err-change-in-Fill.field-0.0 q.0 r res.result q.1 q.2 is in
    let was = c.in_err-change-in-Fill.was ∙ ap Err e in
    c.change-in-Fill.ensures.shown_no told r was

pub returns-in_ok-change-in-Fill-clause-shown : goal.returns-in_ok-change-in-Fill-clause-shown
returns-in_ok-change-in-Fill-clause-shown g c = λ told. c.in_ok-change-in-Fill.ensures.shown told

pub returns-in_err-change-in-Punch-clause-shown_no : goal.returns-in_err-change-in-Punch-clause-shown_no
returns-in_err-change-in-Punch-clause-shown_no g c = λ told r is.
    let res = c.from_residual-in_err-change-in-Punch in
    let q = err_from_is_err_and res.result res.ensures.1 in
    let e = fault_same c.in_err-change-in-Punch.field-0.0 q.0 r res.result q.1 q.2 is in
    let was = c.in_err-change-in-Punch.was ∙ ap Err e in
    c.change-in-Punch.ensures.shown_no told r was

pub returns-in_ok-change-in-Punch-clause-shown : goal.returns-in_ok-change-in-Punch-clause-shown
returns-in_ok-change-in-Punch-clause-shown g c = λ told. c.in_ok-change-in-Punch.ensures.shown told

-- ---- one group

pub returns-in_err-make-in-Make-clause-one_group_no : goal.returns-in_err-make-in-Make-clause-one_group_no
returns-in_err-make-in-Make-clause-one_group_no g c = λ p h r is.
    let res = c.from_residual in
    let q = err_from_is_err_and res.result res.ensures.1 in
    let e = fault_same c.in_err-make-in-Make.field-0.0 q.0 r res.result q.1 q.2 is in
    let was = c.in_err-make-in-Make.was ∙ ap Err e in
    c.make.ensures.one_group p.objects h.objects (answered_no c.make.result r was)

pub returns-in_ok-make-in-Make-clause-one_group : goal.returns-in_ok-make-in-Make-clause-one_group
returns-in_ok-make-in-Make-clause-one_group g c = λ p h. c.make.ensures.one_group p.objects h.objects (answered_ok c.make.result c.in_ok-make-in-Make.was)

pub returns-in_err-make-in-Make-clause-writes : goal.returns-in_err-make-in-Make-clause-writes
returns-in_err-make-in-Make-clause-writes g c = λ p h. c.make.ensures.writes p.objects h.objects

pub returns-in_ok-make-in-Make-clause-writes : goal.returns-in_ok-make-in-Make-clause-writes
returns-in_ok-make-in-Make-clause-writes g c = λ p h. c.make.ensures.writes p.objects h.objects

pub returns-in_err-drop-in-Drop-clause-one_group_no : goal.returns-in_err-drop-in-Drop-clause-one_group_no
returns-in_err-drop-in-Drop-clause-one_group_no g c = λ p h r is.
    let res = c.from_residual-in_err-drop-in-Drop in
    let q = err_from_is_err_and res.result res.ensures.1 in
    let e = fault_same c.in_err-drop-in-Drop.field-0.0 q.0 r res.result q.1 q.2 is in
    let was = c.in_err-drop-in-Drop.was ∙ ap Err e in
    c.drop.ensures.one_group p.objects h.objects (answered_no c.drop.result r was)

pub returns-in_ok-drop-in-Drop-clause-one_group : goal.returns-in_ok-drop-in-Drop-clause-one_group
returns-in_ok-drop-in-Drop-clause-one_group g c = λ p h. c.drop.ensures.one_group p.objects h.objects (answered_ok c.drop.result c.in_ok-drop-in-Drop.was)

pub returns-in_err-drop-in-Drop-clause-writes : goal.returns-in_err-drop-in-Drop-clause-writes
returns-in_err-drop-in-Drop-clause-writes g c = λ p h. c.drop.ensures.writes p.objects h.objects

pub returns-in_ok-drop-in-Drop-clause-writes : goal.returns-in_ok-drop-in-Drop-clause-writes
returns-in_ok-drop-in-Drop-clause-writes g c = λ p h. c.drop.ensures.writes p.objects h.objects

pub returns-in_err-bytes-in-Read-clause-one_group_no : goal.returns-in_err-bytes-in-Read-clause-one_group_no
returns-in_err-bytes-in-Read-clause-one_group_no g c = λ p h r is.
    let res = c.from_residual-in_err-bytes-in-Read in
    let q = err_from_is_err_and res.result res.ensures.1 in
    let e = fault_same c.in_err-bytes-in-Read.field-0.0 q.0 r res.result q.1 q.2 is in
    let was = c.in_err-bytes-in-Read.was ∙ ap Err e in
    inl (c.read.ensures.in_group h.objects.held.told)

pub returns-in_ok-bytes-in-Read-clause-one_group : goal.returns-in_ok-bytes-in-Read-clause-one_group
returns-in_ok-bytes-in-Read-clause-one_group g c = λ p h. inl (c.read.ensures.in_group h.objects.held.told)

pub returns-in_err-bytes-in-Read-clause-writes : goal.returns-in_err-bytes-in-Read-clause-writes
returns-in_err-bytes-in-Read-clause-writes g c = λ p h. inl (c.read.ensures.in_group h.objects.held.told).written

pub returns-in_ok-bytes-in-Read-clause-writes : goal.returns-in_ok-bytes-in-Read-clause-writes
returns-in_ok-bytes-in-Read-clause-writes g c = λ p h. inl (c.read.ensures.in_group h.objects.held.told).written

pub returns-in_err-sum-in-Sum-clause-one_group_no : goal.returns-in_err-sum-in-Sum-clause-one_group_no
returns-in_err-sum-in-Sum-clause-one_group_no g c = λ p h r is.
    let res = c.from_residual-in_err-sum-in-Sum in
    let q = err_from_is_err_and res.result res.ensures.1 in
    let e = fault_same c.in_err-sum-in-Sum.field-0.0 q.0 r res.result q.1 q.2 is in
    let was = c.in_err-sum-in-Sum.was ∙ ap Err e in
    inl (c.sum.ensures.in_group h.objects.held.told)

pub returns-in_ok-sum-in-Sum-clause-one_group : goal.returns-in_ok-sum-in-Sum-clause-one_group
returns-in_ok-sum-in-Sum-clause-one_group g c = λ p h. inl (c.sum.ensures.in_group h.objects.held.told)

pub returns-in_err-sum-in-Sum-clause-writes : goal.returns-in_err-sum-in-Sum-clause-writes
returns-in_err-sum-in-Sum-clause-writes g c = λ p h. inl (c.sum.ensures.in_group h.objects.held.told).written

pub returns-in_ok-sum-in-Sum-clause-writes : goal.returns-in_ok-sum-in-Sum-clause-writes
returns-in_ok-sum-in-Sum-clause-writes g c = λ p h. inl (c.sum.ensures.in_group h.objects.held.told).written

pub returns-in_err-change-in-Write-clause-one_group_no : goal.returns-in_err-change-in-Write-clause-one_group_no
returns-in_err-change-in-Write-clause-one_group_no g c = λ p h r is.
    let res = c.from_residual-in_err-change-in-Write in
    let q = err_from_is_err_and res.result res.ensures.1 in
    let e = fault_same c.in_err-change-in-Write.field-0.0 q.0 r res.result q.1 q.2 is in
    let was = c.in_err-change-in-Write.was ∙ ap Err e in
    c.change.ensures.one_group_no p.objects h.objects r was

pub returns-in_ok-change-in-Write-clause-one_group : goal.returns-in_ok-change-in-Write-clause-one_group
returns-in_ok-change-in-Write-clause-one_group g c = λ p h. c.in_ok-change-in-Write.ensures.one_group p.objects h.objects

pub returns-in_err-change-in-Write-clause-writes : goal.returns-in_err-change-in-Write-clause-writes
returns-in_err-change-in-Write-clause-writes g c = λ p h. c.change.ensures.writes p.objects h.objects

pub returns-in_ok-change-in-Write-clause-writes : goal.returns-in_ok-change-in-Write-clause-writes
returns-in_ok-change-in-Write-clause-writes g c = λ p h. c.change.ensures.writes p.objects h.objects

pub returns-in_err-change-in-Fill-clause-one_group_no : goal.returns-in_err-change-in-Fill-clause-one_group_no
returns-in_err-change-in-Fill-clause-one_group_no g c = λ p h r is.
    let res = c.from_residual-in_err-change-in-Fill in
    let q = err_from_is_err_and res.result res.ensures.1 in
    let e = fault_same c.in_err-change-in-Fill.field-0.0 q.0 r res.result q.1 q.2 is in
    let was = c.in_err-change-in-Fill.was ∙ ap Err e in
    c.change-in-Fill.ensures.one_group_no p.objects h.objects r was

pub returns-in_ok-change-in-Fill-clause-one_group : goal.returns-in_ok-change-in-Fill-clause-one_group
returns-in_ok-change-in-Fill-clause-one_group g c = λ p h. c.in_ok-change-in-Fill.ensures.one_group p.objects h.objects

pub returns-in_err-change-in-Fill-clause-writes : goal.returns-in_err-change-in-Fill-clause-writes
returns-in_err-change-in-Fill-clause-writes g c = λ p h. c.change-in-Fill.ensures.writes p.objects h.objects

pub returns-in_ok-change-in-Fill-clause-writes : goal.returns-in_ok-change-in-Fill-clause-writes
returns-in_ok-change-in-Fill-clause-writes g c = λ p h. c.change-in-Fill.ensures.writes p.objects h.objects

pub returns-in_err-change-in-Punch-clause-one_group_no : goal.returns-in_err-change-in-Punch-clause-one_group_no
returns-in_err-change-in-Punch-clause-one_group_no g c = λ p h r is.
    let res = c.from_residual-in_err-change-in-Punch in
    let q = err_from_is_err_and res.result res.ensures.1 in
    let e = fault_same c.in_err-change-in-Punch.field-0.0 q.0 r res.result q.1 q.2 is in
    let was = c.in_err-change-in-Punch.was ∙ ap Err e in
    c.change-in-Punch.ensures.one_group_no p.objects h.objects r was

pub returns-in_ok-change-in-Punch-clause-one_group : goal.returns-in_ok-change-in-Punch-clause-one_group
returns-in_ok-change-in-Punch-clause-one_group g c = λ p h. c.in_ok-change-in-Punch.ensures.one_group p.objects h.objects

pub returns-in_err-change-in-Punch-clause-writes : goal.returns-in_err-change-in-Punch-clause-writes
returns-in_err-change-in-Punch-clause-writes g c = λ p h. c.change-in-Punch.ensures.writes p.objects h.objects

pub returns-in_ok-change-in-Punch-clause-writes : goal.returns-in_ok-change-in-Punch-clause-writes
returns-in_ok-change-in-Punch-clause-writes g c = λ p h. c.change-in-Punch.ensures.writes p.objects h.objects
