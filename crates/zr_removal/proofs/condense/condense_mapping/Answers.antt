use Rattle.std.proofs.Common.{◌∙◌, refl, sym, subst}
use Rattle.zr_sync.specs.Pools.{AreCondStreams}
use Rattle.zr_removal.proofs.Condensed.{step_keeps}
use Rattle.zr_removal.proofs.CondensedObjects.{objects_condensed, roles_condensed}
use Rattle.zr_removal.proofs.Standing.{copies_condensed}
use Rattle.zr_removal.proofs.Turned.{still_open}
use Rattle.zr_removal.proofs.condense.condense_mapping.Goals as goal

pub returns-clause-pool : goal.returns-clause-pool
returns-clause-pool c = λ sizes o.
    let x = c.args.pool.now in
    still_open sizes x c.condense_step.new.self c.forget_places.new.cache c.note_done.new.cond _ o (step_keeps x.space c.condense_step.new.self c.in_ok-outcome.outcome c.in_ok-outcome.ensures.step)
    (subst AreCondStreams (sym c.note_done.ensures) (record { entries = o.cond.entries; counts = o.cond.counts })) (c.note_turned.ensures.length ∙ o.turned)

pub returns-clause-roles : goal.returns-clause-roles
returns-clause-roles c = roles_condensed c.args.pool.now.space c.condense_step.new.self c.in_ok-outcome.outcome c.in_ok-outcome.ensures.step

pub returns-clause-objects : goal.returns-clause-objects
returns-clause-objects c = λ disks objects holds.
    objects_condensed c.args.pool.now _ c.in_ok-outcome.outcome c.in_ok-outcome.ensures.step c.in_ok-outcome.ensures.leads c.condenses_in_order.ensures c.forget_places.ensures.entries refl refl refl (Unit {0}) disks objects holds

pub returns-clause-copies : goal.returns-clause-copies
returns-clause-copies c = λ disks stand.
    copies_condensed disks c.args.pool.now.table.slots c.args.pool.now.space c.condense_step.new.self c.in_ok-outcome.outcome c.in_ok-outcome.ensures.step c.condenses_in_order.ensures stand
