use Rattle.std.proofs.Common.{sym, subst}
use Rattle.zr_rules.specs.Space.{Space}
use Rattle.zr_vdev.specs.Alike.{CopiesStand}
use Rattle.zr_vdev.specs.Caches.{AreRead}
use Rattle.zr_vdev.proofs.Carrying.{not_copied}
use Rattle.zr_vdev.proofs.copy.copy_step.Goals as goal

pub returns-clause-left : goal.returns-clause-left
returns-clause-left g c = λ copied. absurd (not_copied c.args.space.now c.in-Some.ensures.some.0 c.in-Some.front c.in-Some.ensures.some.1 copied)

pub returns-clause-idle : goal.returns-clause-idle
returns-clause-idle g c = λ copied. absurd (not_copied c.args.space.now c.in-Some.ensures.some.0 c.in-Some.front c.in-Some.ensures.some.1 copied)

pub returns-clause-cache : goal.returns-clause-cache
returns-clause-cache g c = λ told read.
    c.copy_front-next.ensures.cache told (subst (λ (s : Space). AreRead (g.S.Shelf.world c.args.shelf.now).now.seen c.args.slots.now s c.args.cache.now) (sym c.replace-whole.ensures.value) read)

pub returns-clause-copies : goal.returns-clause-copies
returns-clause-copies g c = λ told stand.
    c.copy_front-next.ensures.copies told (subst (λ (s : Space). CopiesStand (g.S.Shelf.world c.args.shelf.now).now.seen c.args.slots.now s) (sym c.replace-whole.ensures.value) stand)
