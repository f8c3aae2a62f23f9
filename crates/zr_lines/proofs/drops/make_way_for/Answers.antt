use Rattle.zr_sync.proofs.Disks.{works_more, works_writes}
use Rattle.zr_last.proofs.Lasting.{blocks_last}
use Rattle.std.proofs.Common.{ℕ, inl, subst}
use Rattle.std.proofs.lemmas.Result.{err_from_is_err_and}
use Rattle.zr_lines.proofs.Stopping.{in_group_by, in_group_itself, one_group_before, writes_before}
use Rattle.zr_lines.specs.Damage.{IsRecordDamage}
use Rattle.zr_lines.proofs.drops.make_way_for.Goals as goal

pub returns-in_err-need-clause-disks : goal.returns-in_err-need-clause-disks
returns-in_err-need-clause-disks g c = λ told. works_writes _ _ _ (c.need.ensures.wrote.goes.written told)

pub returns-in_err-need-clause-damaged : goal.returns-in_err-need-clause-damaged
returns-in_err-need-clause-damaged g c = λ s h at expected found is.
    let e = c.in_err-need in
    let was = err_from_is_err_and c.from_residual.result c.from_residual.ensures.1 in
    subst (λ (n : ℕ). IsRecordDamage s c.args.pool.now.dir n at expected found) c.from.ensures (e.ensures.damaged s h at expected found cc)

pub returns-in_err-make_way-clause-disks : goal.returns-in_err-make_way-clause-disks
returns-in_err-make_way-clause-disks g c = λ told.
    works_more (g.S.Shelf.world c.args.shelf.now) (g.S.Shelf.world c.need.new.shelf) (g.S.Shelf.world c.make_way.new.shelf)
    (works_writes _ _ _ (c.need.ensures.wrote.goes.written told)) (c.make_way.ensures.disks (c.need.ensures.wrote.goes.told told))

pub returns-clause-disks : goal.returns-clause-disks
returns-clause-disks g c = λ told.
    works_more (g.S.Shelf.world c.args.shelf.now) (g.S.Shelf.world c.need.new.shelf) (g.S.Shelf.world c.make_way.new.shelf)
    (works_writes _ _ _ (c.need.ensures.wrote.goes.written told)) (c.make_way.ensures.disks (c.need.ensures.wrote.goes.told told))

pub returns-clause-objects : goal.returns-clause-objects
returns-clause-objects g c = λ objects h answered. c.in_ok-make_way.ensures.objects objects (c.need.ensures.stays objects h)

-- ---- the last root

pub returns-in_err-need-clause-shown : goal.returns-in_err-need-clause-shown
returns-in_err-need-clause-shown g c = λ told answered. blocks_last c.requires.pool (g.S.Shelf.sound c.args.shelf.now told).sized told c.need.ensures.wrote

pub returns-clause-shown : goal.returns-clause-shown
returns-clause-shown g c = λ told answered h.
    c.in_ok-make_way.ensures.shown (c.need.ensures.wrote.goes.told told) (blocks_last c.requires.pool (g.S.Shelf.sound c.args.shelf.now told).sized told c.need.ensures.wrote h)

-- ---- one group

pub returns-then-fits-clause-one_group : goal.returns-then-fits-clause-one_group
returns-then-fits-clause-one_group g c = λ objects h answered. inl (in_group_itself c.args.pool.now (g.S.Shelf.world c.args.shelf.now))

pub returns-then-fits-clause-writes : goal.returns-then-fits-clause-writes
returns-then-fits-clause-writes g c = λ objects h. inl (in_group_itself c.args.pool.now (g.S.Shelf.world c.args.shelf.now)).written

pub returns-in_err-need-clause-one_group : goal.returns-in_err-need-clause-one_group
returns-in_err-need-clause-one_group g c = λ objects h answered. inl (in_group_by c.requires.pool c.need.ensures.wrote h.held.told)

pub returns-in_err-need-clause-writes : goal.returns-in_err-need-clause-writes
returns-in_err-need-clause-writes g c = λ objects h. inl (c.need.ensures.wrote.goes.written h.held.told)

pub returns-in_err-make_way-clause-writes : goal.returns-in_err-make_way-clause-writes
returns-in_err-make_way-clause-writes g c = λ objects h. writes_before c.requires.pool c.need.ensures.wrote h.held.told (c.make_way.ensures.writes objects (c.need.ensures.stays objects h))

pub returns-clause-one_group : goal.returns-clause-one_group
returns-clause-one_group g c = λ objects h answered. one_group_before c.requires.pool c.need.ensures.wrote h.held.told (c.in_ok-make_way.ensures.one_group objects (c.need.ensures.stays objects h))

pub returns-clause-writes : goal.returns-clause-writes
returns-clause-writes g c = λ objects h. writes_before c.requires.pool c.need.ensures.wrote h.held.told (c.make_way.ensures.writes objects (c.need.ensures.stays objects h))
