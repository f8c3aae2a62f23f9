use Rattle.std.proofs.Common.{◌↔◌, sym, subst}
use Rattle.std.specs.Prelude.{IsTrue, IfOk}
use Rattle.zr_vdev.specs.declared.kind.Kind.{Kind}
use Rattle.zr_vdev.specs.Stores.{IsInUse}
use Rattle.zr_vdev.proofs.vdev.is_in_use.Goals as goal

pub returns-in-Block : goal.returns-in-Block
returns-in-Block c = subst (λ (k : Kind). IfOk c.is_freeable.result (λ answer. IsTrue answer ↔ IsInUse k c.args.space.now c.args.at.now)) (sym c.in-Block.is) c.is_freeable.ensures
