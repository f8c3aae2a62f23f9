use Rattle.std.proofs.Common.{◌≡◌, ◌∙◌, ap, subst, refl, sym, Err}
use Rattle.std.proofs.lemmas.Result.{err_from_is_err_and}
use Rattle.zr_base.specs.declared.refusal.Refusal.TheVariants as refusal
use Rattle.zr_removal.specs.Devices.{IsOnlyOne}
use Rattle.zr_script.specs.declared.command.Command.{Command}
use Rattle.zr_script.specs.declared.reply.Reply.TheVariants as reply
use Rattle.zr_sync.specs.States.{HoldsState}
use Rattle.zr_sync.specs.declared.open.OpenPool.{OpenPool}
use Rattle.zr_pool.specs.Accounts.{IsRemovalCause, Refuses, Turns}
use Rattle.zr_pool.proofs.Acting.{listed_as, status_as, audited_as, estimated_as, mapped_as}
use Rattle.zr_pool.proofs.Refused.{fault_same}
use Rattle.zr_shelf.specs.Disks.{Stand}
use Rattle.zr_lines.proofs.Stopping.{in_group_itself}
use Rattle.zr_pool.proofs.Groups.{table_stays}
use Rattle.zr_pool.proofs.Shown.{still_last}
use Rattle.zr_pool.proofs.Staying.{same_state}
use Rattle.zr_pool.proofs.Tellings.{refused_same}
use Rattle.zr_pool.proofs.tables.table_line.Goals as goal

pub returns-in_ok-list-in-List-clause-acts : goal.returns-in_ok-list-in-List-clause-acts
returns-in_ok-list-in-List-clause-acts g c = λ copies p h.
    let Holds = HoldsState (g.S.Shelf.tells c.args.shelf.now) (g.S.Shelf.world c.args.shelf.now).now.seen c.args.pool.now in
    listed_as copies Holds p c.args.command.now _ c.in-List.is h

pub returns-in_ok-status-in-Status-clause-acts : goal.returns-in_ok-status-in-Status-clause-acts
returns-in_ok-status-in-Status-clause-acts g c = λ copies p h.
    let Holds = HoldsState (g.S.Shelf.tells c.args.shelf.now) (g.S.Shelf.world c.args.shelf.now).now.seen c.args.pool.now in
    status_as copies Holds p c.args.command.now _ c.in-Status.is h

pub returns-in_ok-audit-in-Audit-clause-acts : goal.returns-in_ok-audit-in-Audit-clause-acts
returns-in_ok-audit-in-Audit-clause-acts g c = λ copies p h.
    let Holds = HoldsState (g.S.Shelf.tells c.audit.new.shelf) (g.S.Shelf.world c.audit.new.shelf).now.seen c.audit.new.pool in
    audited_as copies Holds p c.args.command.now _ c.in-Audit.is (same_state _ _ c.args.pool.now c.audit.new.pool p p h.checkpoint (ap (λ (x : OpenPool). x.space.parts.ckpt) c.audit.ensures.same) refl refl (c.audit.ensures.stays p.objects h.objects))

pub returns-in_err-audit-in-Audit-clause-stays : goal.returns-in_err-audit-in-Audit-clause-stays
returns-in_err-audit-in-Audit-clause-stays g c = λ p h r is. same_state _ _ c.args.pool.now c.audit.new.pool p p h.checkpoint (ap (λ (x : OpenPool). x.space.parts.ckpt) c.audit.ensures.same) refl refl (c.audit.ensures.stays p.objects h.objects)

pub returns-in_ok-estimate_of-in-Estimate-clause-acts : goal.returns-in_ok-estimate_of-in-Estimate-clause-acts
returns-in_ok-estimate_of-in-Estimate-clause-acts g c = λ copies p h.
    let Holds = HoldsState (g.S.Shelf.tells c.args.shelf.now) (g.S.Shelf.world c.args.shelf.now).now.seen c.args.pool.now in
    estimated_as copies Holds p c.args.command.now c.in-Estimate.dev _ c.in-Estimate.is h

pub returns-in_ok-map_lines-in-Map-clause-acts : goal.returns-in_ok-map_lines-in-Map-clause-acts
returns-in_ok-map_lines-in-Map-clause-acts g c = λ copies p h.
    let Holds = HoldsState (g.S.Shelf.tells c.args.shelf.now) (g.S.Shelf.world c.args.shelf.now).now.seen c.args.pool.now in
    mapped_as copies Holds p c.args.command.now c.in-Map.index _ c.in-Map.is h

-- ---- the account

pub returns-in_ok-list-in-List-clause-account : goal.returns-in_ok-list-in-List-clause-account
returns-in_ok-list-in-List-clause-account g c = λ told.
    subst (λ (command : Command). Turns c.args.paths.now (g.S.Shelf.sizes c.args.shelf.now) (g.S.Shelf.world c.args.shelf.now).now.seen c.args.pool.now command (reply.List c.in_ok-list-in-List.field-0) (g.S.Shelf.world c.args.shelf.now).now.seen c.args.pool.now) (sym c.in-List.is)
    (ap reply.List c.in_ok-list-in-List.ensures.lines, refl)

pub returns-in_ok-status-in-Status-clause-account : goal.returns-in_ok-status-in-Status-clause-account
returns-in_ok-status-in-Status-clause-account g c = λ told.
    subst (λ (command : Command). Turns c.args.paths.now (g.S.Shelf.sizes c.args.shelf.now) (g.S.Shelf.world c.args.shelf.now).now.seen c.args.pool.now command (reply.Status c.in_ok-status-in-Status.field-0) (g.S.Shelf.world c.args.shelf.now).now.seen c.args.pool.now) (sym c.in-Status.is)
    (c.in_ok-status-in-Status.ensures.lines, refl)

pub returns-in_ok-audit-in-Audit-clause-account : goal.returns-in_ok-audit-in-Audit-clause-account
returns-in_ok-audit-in-Audit-clause-account g c = λ told.
    subst (λ (command : Command). Turns c.args.paths.now (g.S.Shelf.sizes c.args.shelf.now) (g.S.Shelf.world c.args.shelf.now).now.seen c.args.pool.now command (reply.Audit c.in_ok-audit-in-Audit.field-0) (g.S.Shelf.world c.audit.new.shelf).now.seen c.audit.new.pool) (sym c.in-Audit.is)
    (record { indices = c.in_ok-audit-in-Audit.ensures.indices; allocated = c.in_ok-audit-in-Audit.ensures.allocated; rest = c.audit.ensures.same })

pub returns-in_err-audit-in-Audit-clause-account_no : goal.returns-in_err-audit-in-Audit-clause-account_no
returns-in_err-audit-in-Audit-clause-account_no g c = λ told r is.
    let res = c.from_residual-in_err-audit-in-Audit in
    let q = err_from_is_err_and res.result res.ensures.1 in
    let e = fault_same c.in_err-audit-in-Audit.field-0.0 q.0 r res.result q.1 q.2 is in
    let was = c.in_err-audit-in-Audit.was ∙ ap Err e in
    subst (λ (command : Command). Refuses c.args.paths.now (g.S.Shelf.sizes c.args.shelf.now) (g.S.Shelf.world c.args.shelf.now).now.seen c.args.pool.now command r c.audit.new.pool) (sym c.in-Audit.is)
    (c.audit.ensures.refused r was, c.audit.ensures.same)

pub returns-in_ok-estimate_of-in-Estimate-clause-account : goal.returns-in_ok-estimate_of-in-Estimate-clause-account
returns-in_ok-estimate_of-in-Estimate-clause-account g c = λ told.
    subst (λ (command : Command). Turns c.args.paths.now (g.S.Shelf.sizes c.args.shelf.now) (g.S.Shelf.world c.args.shelf.now).now.seen c.args.pool.now command (reply.Estimate c.in_ok-estimate_of-in-Estimate.field-0) (g.S.Shelf.world c.args.shelf.now).now.seen c.args.pool.now) (sym c.in-Estimate.is)
    (c.in_ok-estimate_of-in-Estimate.ensures.estimate.0, c.in_ok-estimate_of-in-Estimate.ensures.estimate.1, ap reply.Estimate c.in_ok-estimate_of-in-Estimate.ensures.estimate.2, refl)

pub returns-in_err-estimate_of-in-Estimate-clause-account_no : goal.returns-in_err-estimate_of-in-Estimate-clause-account_no
returns-in_err-estimate_of-in-Estimate-clause-account_no g c = λ told r is.
    let res = c.from_residual-in_err-estimate_of-in-Estimate in
    let pool = c.args.pool.now in
    let q = err_from_is_err_and res.result res.ensures.1 in
    let same = refused_same c.in_err-estimate_of-in-Estimate.field-0.0 r res.result (q.1 ∙ ap Err q.2) is in
    let why = subst (IsRemovalCause c.args.paths.now pool c.in-Estimate.dev (λ d why. (why ≡ refusal.OnlyDevice) × IsOnlyOne pool.space d)) (sym same) c.in_err-estimate_of-in-Estimate.ensures.why in
    subst (λ (command : Command). Refuses c.args.paths.now (g.S.Shelf.sizes c.args.shelf.now) (g.S.Shelf.world c.args.shelf.now).now.seen pool command r pool) (sym c.in-Estimate.is) (refl, why)

pub returns-in_ok-map_lines-in-Map-clause-account : goal.returns-in_ok-map_lines-in-Map-clause-account
returns-in_ok-map_lines-in-Map-clause-account g c = λ told.
    subst (λ (command : Command). Turns c.args.paths.now (g.S.Shelf.sizes c.args.shelf.now) (g.S.Shelf.world c.args.shelf.now).now.seen c.args.pool.now command (reply.Map c.in_ok-map_lines-in-Map.field-0) (g.S.Shelf.world c.args.shelf.now).now.seen c.args.pool.now) (sym c.in-Map.is)
    (c.in_ok-map_lines-in-Map.ensures.known, ap reply.Map c.in_ok-map_lines-in-Map.ensures.lines, refl)

pub returns-in_err-map_lines-in-Map-clause-account_no : goal.returns-in_err-map_lines-in-Map-clause-account_no
returns-in_err-map_lines-in-Map-clause-account_no g c = λ told r is.
    let res = c.from_residual-in_err-map_lines-in-Map in
    let q = err_from_is_err_and res.result res.ensures.1 in
    let e = fault_same c.in_err-map_lines-in-Map.field-0.0 q.0 r res.result q.1 q.2 is in
    let was = c.in_err-map_lines-in-Map.was ∙ ap Err e in
    subst (λ (command : Command). Refuses c.args.paths.now (g.S.Shelf.sizes c.args.shelf.now) (g.S.Shelf.world c.args.shelf.now).now.seen c.args.pool.now command r c.args.pool.now) (sym c.in-Map.is)
    (refl, (c.map_lines.ensures.refused r was).0, (c.map_lines.ensures.refused r was).1)

-- ---- what the disks show

pub returns-in_ok-audit-in-Audit-clause-shown : goal.returns-in_ok-audit-in-Audit-clause-shown
returns-in_ok-audit-in-Audit-clause-shown g c = λ told.
    still_last (g.S.Shelf.world c.args.shelf.now) (g.S.Shelf.world c.audit.new.shelf) c.args.pool.now c.audit.new.pool
    (record { last = ap (λ (x : OpenPool). x.last) c.audit.ensures.same; guid = ap (λ (x : OpenPool). x.guid) c.audit.ensures.same; table = ap (λ (x : OpenPool). x.table) c.audit.ensures.same })
    (ap (λ (stand : Stand). stand.seen) (c.audit.ensures.still told).now)

pub returns-in_err-audit-in-Audit-clause-shown_no : goal.returns-in_err-audit-in-Audit-clause-shown_no
returns-in_err-audit-in-Audit-clause-shown_no g c = λ told r is.
    still_last (g.S.Shelf.world c.args.shelf.now) (g.S.Shelf.world c.audit.new.shelf) c.args.pool.now c.audit.new.pool
    (record { last = ap (λ (x : OpenPool). x.last) c.audit.ensures.same; guid = ap (λ (x : OpenPool). x.guid) c.audit.ensures.same; table = ap (λ (x : OpenPool). x.table) c.audit.ensures.same })
    (ap (λ (stand : Stand). stand.seen) (c.audit.ensures.still told).now)

-- ---- the group

pub returns-in_ok-list-in-List-clause-in_group : goal.returns-in_ok-list-in-List-clause-in_group
returns-in_ok-list-in-List-clause-in_group g c = λ p h. in_group_itself c.args.pool.now (g.S.Shelf.world c.args.shelf.now)

pub returns-in_err-list-in-List-clause-in_group : goal.returns-in_err-list-in-List-clause-in_group
returns-in_err-list-in-List-clause-in_group g c = λ p h. in_group_itself c.args.pool.now (g.S.Shelf.world c.args.shelf.now)

pub returns-in_ok-status-in-Status-clause-in_group : goal.returns-in_ok-status-in-Status-clause-in_group
returns-in_ok-status-in-Status-clause-in_group g c = λ p h. in_group_itself c.args.pool.now (g.S.Shelf.world c.args.shelf.now)

pub returns-in_err-status-in-Status-clause-in_group : goal.returns-in_err-status-in-Status-clause-in_group
returns-in_err-status-in-Status-clause-in_group g c = λ p h. in_group_itself c.args.pool.now (g.S.Shelf.world c.args.shelf.now)

pub returns-in_ok-estimate_of-in-Estimate-clause-in_group : goal.returns-in_ok-estimate_of-in-Estimate-clause-in_group
returns-in_ok-estimate_of-in-Estimate-clause-in_group g c = λ p h. in_group_itself c.args.pool.now (g.S.Shelf.world c.args.shelf.now)

pub returns-in_err-estimate_of-in-Estimate-clause-in_group : goal.returns-in_err-estimate_of-in-Estimate-clause-in_group
returns-in_err-estimate_of-in-Estimate-clause-in_group g c = λ p h. in_group_itself c.args.pool.now (g.S.Shelf.world c.args.shelf.now)

pub returns-in_ok-map_lines-in-Map-clause-in_group : goal.returns-in_ok-map_lines-in-Map-clause-in_group
returns-in_ok-map_lines-in-Map-clause-in_group g c = λ p h. in_group_itself c.args.pool.now (g.S.Shelf.world c.args.shelf.now)

pub returns-in_err-map_lines-in-Map-clause-in_group : goal.returns-in_err-map_lines-in-Map-clause-in_group
returns-in_err-map_lines-in-Map-clause-in_group g c = λ p h. in_group_itself c.args.pool.now (g.S.Shelf.world c.args.shelf.now)

pub returns-in_ok-audit-in-Audit-clause-in_group : goal.returns-in_ok-audit-in-Audit-clause-in_group
returns-in_ok-audit-in-Audit-clause-in_group g c = λ p h. let kept = (c.audit.ensures.stays p.objects h.objects).held in table_stays (g.S.Shelf.tells c.audit.new.shelf) c.args.pool.now c.audit.new.pool (g.S.Shelf.world c.args.shelf.now) (g.S.Shelf.world c.audit.new.shelf) c.audit.ensures.same (record { told = kept.told; read = kept.read }) (c.audit.ensures.still h.objects.held.told)

pub returns-in_err-audit-in-Audit-clause-in_group : goal.returns-in_err-audit-in-Audit-clause-in_group
returns-in_err-audit-in-Audit-clause-in_group g c = λ p h. let kept = (c.audit.ensures.stays p.objects h.objects).held in table_stays (g.S.Shelf.tells c.audit.new.shelf) c.args.pool.now c.audit.new.pool (g.S.Shelf.world c.args.shelf.now) (g.S.Shelf.world c.audit.new.shelf) c.audit.ensures.same (record { told = kept.told; read = kept.read }) (c.audit.ensures.still h.objects.held.told)
