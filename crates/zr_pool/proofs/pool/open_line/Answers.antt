use Rattle.std.proofs.Common.{◌≡◌, true, ◌∙◌, inl, inr, ap, refl, subst, sym, Some, Err}
use Rattle.std.proofs.lemmas.Result.{err_from_is_err_and}
use Rattle.zr_shelf.proofs.Doings.{writes_still}
use Rattle.zr_shelf.specs.Moments.{World}
use Rattle.zr_sync.specs.declared.open.OpenPool.{OpenPool}
use Rattle.zr_script.specs.declared.command.Command.{Command}
use Rattle.zr_vdev.specs.Stores.{IsWriteInto}
use Rattle.zr_vdev.specs.declared.kind.Kind.TheVariants.{Block}
use Rattle.zr_lines.proofs.Stopping.{in_group_itself}
use Rattle.zr_pool.proofs.Copied.{copies_elsewhere, copies_on_pool, copies_somewhere}
use Rattle.zr_pool.proofs.Trees.{removal_writes_none}
use Rattle.zr_pool.proofs.Groups.{background_removal, commit_alone, commits_in_group, condense_background, ends_none, moved_removal, none_of_them, not_of_removal, not_opener, no_way, opens_no_reset, pool_commits, refused_stays, resets_elsewhere, resets_somewhere, return_elsewhere, same_world, silent_objects, silent_pool, silent_removal}
use Rattle.zr_pool.proofs.Leavings.{opener_refused}
use Rattle.zr_pool.proofs.Refused.{fault_same}
use Rattle.zr_pool.proofs.Shown.{same_root, still_last}
use Rattle.zr_pool.proofs.Staying.{same_state, stays_still}
use Rattle.zr_pool.specs.Turns.{is_on_objects, is_on_pool, is_table}
use Rattle.zr_pool.proofs.pool.open_line.Goals as goal

pub returns-in_err-object_line-clause-stays : goal.returns-in_err-object_line-clause-stays
returns-in_err-object_line-clause-stays g c = λ p h r is.
    let q = err_from_is_err_and c.from_residual.result c.from_residual.ensures.1 in
    let e = fault_same c.in_err-object_line.field-0.0 q.0 r c.from_residual.result q.1 q.2 is in
    c.object_line.ensures.stays p h r (c.in_err-object_line.was ∙ ap Err e)

pub returns-in_err-table_line-clause-stays : goal.returns-in_err-table_line-clause-stays
returns-in_err-table_line-clause-stays g c = λ p h r is.
    let res = c.from_residual-in_err-table_line in
    let q = err_from_is_err_and res.result res.ensures.1 in
    let e = fault_same c.in_err-table_line.field-0.0 q.0 r res.result q.1 q.2 is in
    c.table_line.ensures.stays p h r (c.in_err-table_line.was ∙ ap Err e)

pub returns-in_err-pool_line-clause-stays : goal.returns-in_err-pool_line-clause-stays
returns-in_err-pool_line-clause-stays g c = λ p h r is.
    let res = c.from_residual-in_err-pool_line in
    let q = err_from_is_err_and res.result res.ensures.1 in
    let e = fault_same c.in_err-pool_line.field-0.0 q.0 r res.result q.1 q.2 is in
    c.pool_line.ensures.stays p h r (c.in_err-pool_line.was ∙ ap Err e)

pub returns-in_err-removal_line-clause-stays : goal.returns-in_err-removal_line-clause-stays
returns-in_err-removal_line-clause-stays g c = λ p h r is.
    let res = c.from_residual-in_err-removal_line in
    let q = err_from_is_err_and res.result res.ensures.1 in
    let e = fault_same c.in_err-removal_line.field-0.0 q.0 r res.result q.1 q.2 is in
    let was = c.in_err-removal_line.was ∙ ap Err e in
    let told = h.objects.held.told in
    same_state _ _ c.args.pool.now c.removal_line.new.pool p p h.checkpoint (ap (λ (x : OpenPool). x.space.parts.ckpt) (c.removal_line.ensures.unchanged r was)) refl refl
    (stays_still _ _ (g.S.Shelf.world c.args.shelf.now).now.seen (g.S.Shelf.world c.removal_line.new.shelf).now.seen c.args.pool.now c.removal_line.new.pool p.objects (c.removal_line.ensures.told told) (c.removal_line.ensures.unchanged r was) (ap (λ (w : World). w.now.seen) (c.removal_line.ensures.untouched r was)) h.objects)

-- ---- the account

pub returns-in_err-object_line-clause-account_no : goal.returns-in_err-object_line-clause-account_no
returns-in_err-object_line-clause-account_no g c = λ told r is.
    let q = err_from_is_err_and c.from_residual.result c.from_residual.ensures.1 in
    let e = fault_same c.in_err-object_line.field-0.0 q.0 r c.from_residual.result q.1 q.2 is in
    c.object_line.ensures.account_no told c.args.paths.now r (c.in_err-object_line.was ∙ ap Err e)

pub returns-in_err-table_line-clause-account_no : goal.returns-in_err-table_line-clause-account_no
returns-in_err-table_line-clause-account_no g c = λ told r is.
    let res = c.from_residual-in_err-table_line in
    let q = err_from_is_err_and res.result res.ensures.1 in
    let e = fault_same c.in_err-table_line.field-0.0 q.0 r res.result q.1 q.2 is in
    c.table_line.ensures.account_no told r (c.in_err-table_line.was ∙ ap Err e)

pub returns-in_err-pool_line-clause-account_no : goal.returns-in_err-pool_line-clause-account_no
returns-in_err-pool_line-clause-account_no g c = λ told r is.
    let res = c.from_residual-in_err-pool_line in
    let q = err_from_is_err_and res.result res.ensures.1 in
    let e = fault_same c.in_err-pool_line.field-0.0 q.0 r res.result q.1 q.2 is in
    c.pool_line.ensures.account_no told r (c.in_err-pool_line.was ∙ ap Err e)

pub returns-in_err-removal_line-clause-account_no : goal.returns-in_err-removal_line-clause-account_no
returns-in_err-removal_line-clause-account_no g c = λ told r is.
    let res = c.from_residual-in_err-removal_line in
    let q = err_from_is_err_and res.result res.ensures.1 in
    let e = fault_same c.in_err-removal_line.field-0.0 q.0 r res.result q.1 q.2 is in
    c.removal_line.ensures.account_no told r (c.in_err-removal_line.was ∙ ap Err e)

pub returns-then-is_opener-clause-account_no : goal.returns-then-is_opener-clause-account_no
returns-then-is_opener-clause-account_no g c = λ told r is.
    opener_refused c.args.paths.now (g.S.Shelf.sizes c.args.shelf.now) (g.S.Shelf.world c.args.shelf.now).now.seen c.args.pool.now c.args.command.now r (sym c.is_opener.ensures ∙ c.if-is_opener.true)

-- ---- what the disks show

pub returns-in_err-object_line-clause-shown_no : goal.returns-in_err-object_line-clause-shown_no
returns-in_err-object_line-clause-shown_no g c = λ told r is.
    let res = c.from_residual in
    let q = err_from_is_err_and res.result res.ensures.1 in
    let e = fault_same c.in_err-object_line.field-0.0 q.0 r res.result q.1 q.2 is in
    c.object_line.ensures.shown_no told r (c.in_err-object_line.was ∙ ap Err e)

pub returns-in_err-table_line-clause-shown_no : goal.returns-in_err-table_line-clause-shown_no
returns-in_err-table_line-clause-shown_no g c = λ told r is.
    let res = c.from_residual-in_err-table_line in
    let q = err_from_is_err_and res.result res.ensures.1 in
    let e = fault_same c.in_err-table_line.field-0.0 q.0 r res.result q.1 q.2 is in
    c.table_line.ensures.shown_no told r (c.in_err-table_line.was ∙ ap Err e)

pub returns-in_err-pool_line-clause-shown_no : goal.returns-in_err-pool_line-clause-shown_no
returns-in_err-pool_line-clause-shown_no g c = λ told r is.
    let res = c.from_residual-in_err-pool_line in
    let q = err_from_is_err_and res.result res.ensures.1 in
    let e = fault_same c.in_err-pool_line.field-0.0 q.0 r res.result q.1 q.2 is in
    c.pool_line.ensures.shown_no told r (c.in_err-pool_line.was ∙ ap Err e)

pub returns-in_err-removal_line-clause-shown_no : goal.returns-in_err-removal_line-clause-shown_no
returns-in_err-removal_line-clause-shown_no g c = λ told r is.
    let res = c.from_residual-in_err-removal_line in
    let q = err_from_is_err_and res.result res.ensures.1 in
    let e = fault_same c.in_err-removal_line.field-0.0 q.0 r res.result q.1 q.2 is in
    let was = c.in_err-removal_line.was ∙ ap Err e in
    still_last (g.S.Shelf.world c.args.shelf.now) (g.S.Shelf.world c.removal_line.new.shelf) c.args.pool.now c.removal_line.new.pool (same_root c.args.pool.now c.removal_line.new.pool (c.removal_line.ensures.unchanged r was)) (ap (λ (w : World). w.now.seen) (c.removal_line.ensures.untouched r was))

-- ---- lines that write nothing

pub returns-then-is_on_objects-clause-still : goal.returns-then-is_on_objects-clause-still
returns-then-is_on_objects-clause-still g c = λ told on. no_way (sym (silent_objects _ on) ∙ (sym c.is_on_objects.ensures ∙ c.if-is_on_objects.true))

pub returns-in_err-object_line-clause-still : goal.returns-in_err-object_line-clause-still
returns-in_err-object_line-clause-still g c = λ told on. no_way (sym (silent_objects _ on) ∙ (sym c.is_on_objects.ensures ∙ c.if-is_on_objects.true))

pub returns-then-is_table-clause-still : goal.returns-then-is_table-clause-still
returns-then-is_table-clause-still g c = λ told on. c.table_line.ensures.still told

pub returns-in_err-table_line-clause-still : goal.returns-in_err-table_line-clause-still
returns-in_err-table_line-clause-still g c = λ told on. c.table_line.ensures.still told

pub returns-then-is_on_pool-clause-still : goal.returns-then-is_on_pool-clause-still
returns-then-is_on_pool-clause-still g c = λ told on. c.pool_line.ensures.still (silent_pool _ on (sym c.is_on_pool.ensures ∙ c.if-is_on_pool.true))

pub returns-in_err-pool_line-clause-still : goal.returns-in_err-pool_line-clause-still
returns-in_err-pool_line-clause-still g c = λ told on. c.pool_line.ensures.still (silent_pool _ on (sym c.is_on_pool.ensures ∙ c.if-is_on_pool.true))

pub returns-then-is_of_removal-clause-still : goal.returns-then-is_of_removal-clause-still
returns-then-is_of_removal-clause-still g c = λ told on. c.removal_line.ensures.still (silent_removal _ on (sym c.is_of_removal.ensures ∙ c.if-is_of_removal.true))

pub returns-in_err-removal_line-clause-still : goal.returns-in_err-removal_line-clause-still
returns-in_err-removal_line-clause-still g c = λ told on. c.removal_line.ensures.still (silent_removal _ on (sym c.is_of_removal.ensures ∙ c.if-is_of_removal.true))

pub returns-then-is_opener-clause-still : goal.returns-then-is_opener-clause-still
returns-then-is_opener-clause-still g c = λ told on. same_world (g.S.Shelf.world c.args.shelf.now) (g.S.Shelf.world c.args.shelf.now) refl

pub returns-clause-still : goal.returns-clause-still
returns-clause-still g c = λ told on. same_world (g.S.Shelf.world c.args.shelf.now) (g.S.Shelf.world c.args.shelf.now) refl

pub returns-then-is_on_objects-clause-opens : goal.returns-then-is_on_objects-clause-opens
returns-then-is_on_objects-clause-opens g c = λ on p h. no_way (sym (silent_objects _ on) ∙ (sym c.is_on_objects.ensures ∙ c.if-is_on_objects.true))

pub returns-then-is_table-clause-opens : goal.returns-then-is_table-clause-opens
returns-then-is_table-clause-opens g c = λ on p h. let stays = c.table_line.ensures.in_group p h in record { root = stays.root; units = λ d u is. stays.space.writable d u is }

pub returns-then-is_on_pool-clause-opens : goal.returns-then-is_on_pool-clause-opens
returns-then-is_on_pool-clause-opens g c = λ on p h. c.in_ok-pool_line.ensures.steps (silent_pool _ on (sym c.is_on_pool.ensures ∙ c.if-is_on_pool.true))

pub returns-then-is_of_removal-clause-opens : goal.returns-then-is_of_removal-clause-opens
returns-then-is_of_removal-clause-opens g c = λ on p h.
    let step = c.in_ok-removal_line.ensures in
    (step.background h.objects.held.told (condense_background _ _ (silent_removal _ on (sym c.is_of_removal.ensures ∙ c.if-is_of_removal.true)) step.done)).1

pub returns-clause-opens : goal.returns-clause-opens
returns-clause-opens g c = λ on p h. record { root = record { last = refl; guid = refl; table = refl }; units = λ d u is. is }

-- ---- one group

pub returns-in_err-object_line-clause-one_group_no : goal.returns-in_err-object_line-clause-one_group_no
returns-in_err-object_line-clause-one_group_no g c = λ p h r is.
    let res = c.from_residual in
    let q = err_from_is_err_and res.result res.ensures.1 in
    let e = fault_same c.in_err-object_line.field-0.0 q.0 r res.result q.1 q.2 is in
    c.object_line.ensures.one_group_no p h r (c.in_err-object_line.was ∙ ap Err e)

pub returns-in_err-object_line-clause-writes : goal.returns-in_err-object_line-clause-writes
returns-in_err-object_line-clause-writes g c = λ group p h. c.object_line.ensures.writes p h

pub returns-in_err-table_line-clause-one_group_no : goal.returns-in_err-table_line-clause-one_group_no
returns-in_err-table_line-clause-one_group_no g c = λ p h r is.
    inl (c.table_line.ensures.in_group p h)

pub returns-in_err-table_line-clause-writes : goal.returns-in_err-table_line-clause-writes
returns-in_err-table_line-clause-writes g c = λ group p h. inl (c.table_line.ensures.in_group p h).written

pub returns-in_err-pool_line-clause-one_group_no : goal.returns-in_err-pool_line-clause-one_group_no
returns-in_err-pool_line-clause-one_group_no g c = λ p h r is.
    let res = c.from_residual-in_err-pool_line in
    let q = err_from_is_err_and res.result res.ensures.1 in
    let e = fault_same c.in_err-pool_line.field-0.0 q.0 r res.result q.1 q.2 is in
    inl (c.pool_line.ensures.stays_no h.objects.held.told r (c.in_err-pool_line.was ∙ ap Err e))

pub returns-in_err-pool_line-clause-writes : goal.returns-in_err-pool_line-clause-writes
returns-in_err-pool_line-clause-writes g c = λ group p h. elim (pool_commits c.args.command.now (sym c.is_on_pool.ensures ∙ c.if-is_on_pool.true) group) [
  | inl ends ↦ inr (inl (c.pool_line.ensures.stops ends p h))
  | inr step ↦ inl (writes_still (IsWriteInto Block c.args.pool.now.table.slots c.args.pool.now.space) (g.S.Shelf.world c.args.shelf.now) (g.S.Shelf.world c.pool_line.new.shelf) (c.pool_line.ensures.still step))
]

pub returns-in_err-removal_line-clause-one_group_no : goal.returns-in_err-removal_line-clause-one_group_no
returns-in_err-removal_line-clause-one_group_no g c = λ p h r is.
    let res = c.from_residual-in_err-removal_line in
    let q = err_from_is_err_and res.result res.ensures.1 in
    let e = fault_same c.in_err-removal_line.field-0.0 q.0 r res.result q.1 q.2 is in
    let was = c.in_err-removal_line.was ∙ ap Err e in
    let old = g.S.Shelf.world c.args.shelf.now in
    let new = g.S.Shelf.world c.removal_line.new.shelf in
    inl (refused_stays c.args.pool.now c.removal_line.new.pool old new (c.removal_line.ensures.unchanged r was) (same_world old new (c.removal_line.ensures.untouched r was)))

pub returns-in_err-removal_line-clause-writes : goal.returns-in_err-removal_line-clause-writes
returns-in_err-removal_line-clause-writes g c = λ group p h. absurd (not_of_removal c.args.command.now (sym c.is_of_removal.ensures ∙ c.if-is_of_removal.true) group)

pub returns-then-is_opener-clause-one_group_no : goal.returns-then-is_opener-clause-one_group_no
returns-then-is_opener-clause-one_group_no g c = λ p h r is. inl (in_group_itself c.args.pool.now (g.S.Shelf.world c.args.shelf.now))

pub returns-then-is_opener-clause-writes : goal.returns-then-is_opener-clause-writes
returns-then-is_opener-clause-writes g c = λ group p h. absurd (not_opener c.args.command.now (sym c.is_opener.ensures ∙ c.if-is_opener.true) group)

pub returns-clause-writes : goal.returns-clause-writes
returns-clause-writes g c = λ group p h. absurd (none_of_them c.args.command.now (sym c.is_on_objects.ensures ∙ c.if-is_on_objects.false) (sym c.is_table.ensures ∙ c.if-is_table.false) (sym c.is_on_pool.ensures ∙ c.if-is_on_pool.false) group)

pub returns-clause-one_group : goal.returns-clause-one_group
returns-clause-one_group g c = λ group p h. absurd (none_of_them c.args.command.now (sym c.is_on_objects.ensures ∙ c.if-is_on_objects.false) (sym c.is_table.ensures ∙ c.if-is_table.false) (sym c.is_on_pool.ensures ∙ c.if-is_on_pool.false) group)

pub returns-clause-commits : goal.returns-clause-commits
returns-clause-commits g c = λ ends p h. absurd (none_of_them c.args.command.now (sym c.is_on_objects.ensures ∙ c.if-is_on_objects.false) (sym c.is_table.ensures ∙ c.if-is_table.false) (sym c.is_on_pool.ensures ∙ c.if-is_on_pool.false) (commits_in_group c.args.command.now ends))

pub returns-then-is_on_objects-clause-one_group : goal.returns-then-is_on_objects-clause-one_group
returns-then-is_on_objects-clause-one_group g c = λ group p h. inl (c.in_ok-object_line.ensures.one_group p h)

pub returns-then-is_table-clause-one_group : goal.returns-then-is_table-clause-one_group
returns-then-is_table-clause-one_group g c = λ group p h. inl (inl (c.table_line.ensures.in_group p h))

pub returns-then-is_on_pool-clause-one_group : goal.returns-then-is_on_pool-clause-one_group
returns-then-is_on_pool-clause-one_group g c = λ group p h. elim (pool_commits c.args.command.now (sym c.is_on_pool.ensures ∙ c.if-is_on_pool.true) group) [
  | inl ends ↦ inl (commit_alone (g.S.Shelf.sizes c.args.shelf.now) p.objects c.args.pool.now c.pool_line.new.pool (g.S.Shelf.world c.args.shelf.now) (g.S.Shelf.world c.pool_line.new.shelf) (c.in_ok-pool_line.ensures.commits ends p h))
  | inr step ↦ inr (step, (c.pool_line.ensures.still step, (c.in_ok-pool_line.ensures.steps step, (c.in_ok-pool_line.ensures.step_trees step, c.in_ok-pool_line.ensures.step_copies step))))
]

pub returns-then-is_on_pool-clause-writes : goal.returns-then-is_on_pool-clause-writes
returns-then-is_on_pool-clause-writes g c = λ group p h. elim (pool_commits c.args.command.now (sym c.is_on_pool.ensures ∙ c.if-is_on_pool.true) group) [
  | inl ends ↦ inr (inl (c.pool_line.ensures.stops ends p h))
  | inr step ↦ inl (writes_still (IsWriteInto Block c.args.pool.now.table.slots c.args.pool.now.space) (g.S.Shelf.world c.args.shelf.now) (g.S.Shelf.world c.pool_line.new.shelf) (c.pool_line.ensures.still step))
]

-- ---- a line that ends with a reset is one on a whole pool, or of a removal

pub returns-then-is_on_objects-clause-resets : goal.returns-then-is_on_objects-clause-resets
returns-then-is_on_objects-clause-resets g c = λ on p h. absurd (resets_elsewhere c.args.command.now on (inl (sym c.is_on_objects.ensures ∙ c.if-is_on_objects.true)))

pub returns-then-is_table-clause-resets : goal.returns-then-is_table-clause-resets
returns-then-is_table-clause-resets g c = λ on p h. absurd (resets_elsewhere c.args.command.now on (inr (sym c.is_table.ensures ∙ c.if-is_table.true)))

pub returns-then-is_of_removal-clause-resets : goal.returns-then-is_of_removal-clause-resets
returns-then-is_of_removal-clause-resets g c = λ on p h. record {
  resets = c.in_ok-removal_line.ensures.resets on p h;
  trees = λ writes. absurd (removal_writes_none c.args.command.now (sym c.is_of_removal.ensures ∙ c.if-is_of_removal.true) writes);
  moves = λ told. absurd (removal_writes_none c.args.command.now (sym c.is_of_removal.ensures ∙ c.if-is_of_removal.true) told.0);
}

pub returns-clause-resets : goal.returns-clause-resets
returns-clause-resets g c = λ on p h. absurd (resets_somewhere c.args.command.now on (sym c.is_on_pool.ensures ∙ c.if-is_on_pool.false) (sym c.is_of_removal.ensures ∙ c.if-is_of_removal.false))

-- ---- a removal is given up by a line of one

pub returns-then-is_on_objects-clause-comes_back : goal.returns-then-is_on_objects-clause-comes_back
returns-then-is_on_objects-clause-comes_back g c = λ p h on. absurd (return_elsewhere _ c.args.command.now on (inl (sym c.is_on_objects.ensures ∙ c.if-is_on_objects.true)))

pub returns-then-is_table-clause-comes_back : goal.returns-then-is_table-clause-comes_back
returns-then-is_table-clause-comes_back g c = λ p h on. absurd (return_elsewhere _ c.args.command.now on (inr (inl (sym c.is_table.ensures ∙ c.if-is_table.true))))

pub returns-then-is_on_pool-clause-comes_back : goal.returns-then-is_on_pool-clause-comes_back
returns-then-is_on_pool-clause-comes_back g c = λ p h on. absurd (return_elsewhere _ c.args.command.now on (inr (inr (sym c.is_on_pool.ensures ∙ c.if-is_on_pool.true))))

pub returns-then-is_on_objects-clause-stops_reset : goal.returns-then-is_on_objects-clause-stops_reset
returns-then-is_on_objects-clause-stops_reset g c = λ on p h. absurd (resets_elsewhere c.args.command.now on (inl (sym c.is_on_objects.ensures ∙ c.if-is_on_objects.true)))

pub returns-in_err-object_line-clause-stops_reset : goal.returns-in_err-object_line-clause-stops_reset
returns-in_err-object_line-clause-stops_reset g c = λ on p h. absurd (resets_elsewhere c.args.command.now on (inl (sym c.is_on_objects.ensures ∙ c.if-is_on_objects.true)))

pub returns-then-is_table-clause-stops_reset : goal.returns-then-is_table-clause-stops_reset
returns-then-is_table-clause-stops_reset g c = λ on p h. absurd (resets_elsewhere c.args.command.now on (inr (sym c.is_table.ensures ∙ c.if-is_table.true)))

pub returns-in_err-table_line-clause-stops_reset : goal.returns-in_err-table_line-clause-stops_reset
returns-in_err-table_line-clause-stops_reset g c = λ on p h. absurd (resets_elsewhere c.args.command.now on (inr (sym c.is_table.ensures ∙ c.if-is_table.true)))

pub returns-then-is_of_removal-clause-stops_reset : goal.returns-then-is_of_removal-clause-stops_reset
returns-then-is_of_removal-clause-stops_reset g c = λ on p h. c.removal_line.ensures.stops_reset on p h

pub returns-in_err-removal_line-clause-stops_reset : goal.returns-in_err-removal_line-clause-stops_reset
returns-in_err-removal_line-clause-stops_reset g c = λ on p h. c.removal_line.ensures.stops_reset on p h

pub returns-then-is_opener-clause-stops_reset : goal.returns-then-is_opener-clause-stops_reset
returns-then-is_opener-clause-stops_reset g c = λ on p h. absurd (opens_no_reset c.args.command.now (sym c.is_opener.ensures ∙ c.if-is_opener.true) on)

pub returns-clause-stops_reset : goal.returns-clause-stops_reset
returns-clause-stops_reset g c = λ on p h. absurd (resets_somewhere c.args.command.now on (sym c.is_on_pool.ensures ∙ c.if-is_on_pool.false) (sym c.is_of_removal.ensures ∙ c.if-is_of_removal.false))

-- ---- what copies is a step of a removal

pub returns-then-is_on_objects-clause-background : goal.returns-then-is_on_objects-clause-background
returns-then-is_on_objects-clause-background g c = λ told step. no_way (sym (background_removal _ _ step).objects ∙ (sym c.is_on_objects.ensures ∙ c.if-is_on_objects.true))

pub returns-then-is_table-clause-background : goal.returns-then-is_table-clause-background
returns-then-is_table-clause-background g c = λ told step. no_way (sym (background_removal _ _ step).table ∙ (sym c.is_table.ensures ∙ c.if-is_table.true))

pub returns-then-is_on_pool-clause-background : goal.returns-then-is_on_pool-clause-background
returns-then-is_on_pool-clause-background g c = λ told step. no_way (sym (background_removal _ _ step).pool ∙ (sym c.is_on_pool.ensures ∙ c.if-is_on_pool.true))

-- ---- a line that ends no removal is one of a removal, or of condensing

pub returns-then-is_on_objects-clause-stops_back : goal.returns-then-is_on_objects-clause-stops_back
returns-then-is_on_objects-clause-stops_back g c = λ on p h. no_way (sym (ends_none (Some c.args.pool.now) c.args.command.now on).objects ∙ (sym c.is_on_objects.ensures ∙ c.if-is_on_objects.true))

pub returns-in_err-object_line-clause-stops_back : goal.returns-in_err-object_line-clause-stops_back
returns-in_err-object_line-clause-stops_back g c = λ on p h. no_way (sym (ends_none (Some c.args.pool.now) c.args.command.now on).objects ∙ (sym c.is_on_objects.ensures ∙ c.if-is_on_objects.true))

pub returns-then-is_table-clause-stops_back : goal.returns-then-is_table-clause-stops_back
returns-then-is_table-clause-stops_back g c = λ on p h. no_way (sym (ends_none (Some c.args.pool.now) c.args.command.now on).table ∙ (sym c.is_table.ensures ∙ c.if-is_table.true))

pub returns-in_err-table_line-clause-stops_back : goal.returns-in_err-table_line-clause-stops_back
returns-in_err-table_line-clause-stops_back g c = λ on p h. no_way (sym (ends_none (Some c.args.pool.now) c.args.command.now on).table ∙ (sym c.is_table.ensures ∙ c.if-is_table.true))

pub returns-then-is_on_pool-clause-stops_back : goal.returns-then-is_on_pool-clause-stops_back
returns-then-is_on_pool-clause-stops_back g c = λ on p h. no_way (sym (ends_none (Some c.args.pool.now) c.args.command.now on).pool ∙ (sym c.is_on_pool.ensures ∙ c.if-is_on_pool.true))

pub returns-in_err-pool_line-clause-stops_back : goal.returns-in_err-pool_line-clause-stops_back
returns-in_err-pool_line-clause-stops_back g c = λ on p h. no_way (sym (ends_none (Some c.args.pool.now) c.args.command.now on).pool ∙ (sym c.is_on_pool.ensures ∙ c.if-is_on_pool.true))

pub returns-then-is_of_removal-clause-stops_back : goal.returns-then-is_of_removal-clause-stops_back
returns-then-is_of_removal-clause-stops_back g c = λ on p h. c.removal_line.ensures.stops_back on p h

pub returns-in_err-removal_line-clause-stops_back : goal.returns-in_err-removal_line-clause-stops_back
returns-in_err-removal_line-clause-stops_back g c = λ on p h. c.removal_line.ensures.stops_back on p h

pub returns-then-is_opener-clause-stops_back : goal.returns-then-is_opener-clause-stops_back
returns-then-is_opener-clause-stops_back g c = λ on p h. no_way (sym (sym c.is_of_removal.ensures ∙ c.if-is_of_removal.false) ∙ (ends_none (Some c.args.pool.now) c.args.command.now on).removal)

pub returns-clause-stops_back : goal.returns-clause-stops_back
returns-clause-stops_back g c = λ on p h. no_way (sym (sym c.is_of_removal.ensures ∙ c.if-is_of_removal.false) ∙ (ends_none (Some c.args.pool.now) c.args.command.now on).removal)

pub returns-then-is_on_objects-clause-trees : goal.returns-then-is_on_objects-clause-trees
returns-then-is_on_objects-clause-trees g c = λ told step. no_way (sym (moved_removal _ _ step).objects ∙ (sym c.is_on_objects.ensures ∙ c.if-is_on_objects.true))

pub returns-then-is_table-clause-trees : goal.returns-then-is_table-clause-trees
returns-then-is_table-clause-trees g c = λ told step. no_way (sym (moved_removal _ _ step).table ∙ (sym c.is_table.ensures ∙ c.if-is_table.true))

pub returns-then-is_on_pool-clause-trees : goal.returns-then-is_on_pool-clause-trees
returns-then-is_on_pool-clause-trees g c = λ told step. no_way (sym (moved_removal _ _ step).pool ∙ (sym c.is_on_pool.ensures ∙ c.if-is_on_pool.true))

-- ---- copies

pub returns-then-is_on_objects-clause-copies : goal.returns-then-is_on_objects-clause-copies
returns-then-is_on_objects-clause-copies g c = λ told on. absurd (copies_elsewhere c.args.command.now on (inl (sym c.is_on_objects.ensures ∙ c.if-is_on_objects.true)))

pub returns-then-is_table-clause-copies : goal.returns-then-is_table-clause-copies
returns-then-is_table-clause-copies g c = λ told on. absurd (copies_elsewhere c.args.command.now on (inr (sym c.is_table.ensures ∙ c.if-is_table.true)))

pub returns-then-is_on_pool-clause-copies : goal.returns-then-is_on_pool-clause-copies
returns-then-is_on_pool-clause-copies g c = λ told on. c.in_ok-pool_line.ensures.copies told (copies_on_pool c.args.command.now on (sym c.is_on_pool.ensures ∙ c.if-is_on_pool.true))

pub returns-clause-copies : goal.returns-clause-copies
returns-clause-copies g c = λ told on. absurd (copies_somewhere c.args.command.now on (sym c.is_on_pool.ensures ∙ c.if-is_on_pool.false) (sym c.is_of_removal.ensures ∙ c.if-is_of_removal.false))

pub returns-then-is_of_removal-clause-copies : goal.returns-then-is_of_removal-clause-copies
returns-then-is_of_removal-clause-copies g c = λ told on. c.in_ok-removal_line.ensures.copies told
