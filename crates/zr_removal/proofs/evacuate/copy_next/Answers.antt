use Rattle.std.proofs.Common.{ℕ, List, sym, subst}
use Rattle.zr_sync.specs.Pools.{IsOpen}
use Rattle.zr_sync.proofs.Disks.{works_writes}
use Rattle.zr_removal.proofs.Copied.{copied_keeps, on_ok_then}
use Rattle.zr_removal.proofs.Turned.{still_open}
use Rattle.zr_removal.proofs.evacuate.copy_next.Goals as goal

pub returns-clause-disks : goal.returns-clause-disks
returns-clause-disks g c = λ t. works_writes _ (g.S.Shelf.world c.args.shelf.now) (g.S.Shelf.world c.copy_step.new.shelf) (c.copy_step.ensures.written t)

pub returns-clause-pool : goal.returns-clause-pool
returns-clause-pool g c =
    let x = c.args.pool.now in
    let o = c.requires.pool in
    let s = c.copy_step.new.space in
    let sizes = g.S.Shelf.sizes c.args.shelf.now in
    on_ok_then c.copy_step.result
    (copied_keeps c.args.pick.now.policy x.table.slots (g.S.Shelf.tells c.args.shelf.now) (g.S.Shelf.world c.args.shelf.now) (g.S.Shelf.world c.copy_step.new.shelf) x.space s c.copy_step.result c.copy_step.ensures.units c.copy_step.ensures.same)
    (λ keeps. subst (λ (n : List ℕ). IsOpen n (record x { space = s; cache = c.copy_step.new.cache })) (sym c.copy_step.ensures.sizes) (still_open sizes x s c.copy_step.new.cache x.cond x.turned o keeps o.cond o.turned))
