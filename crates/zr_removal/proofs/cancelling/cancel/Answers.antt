use Rattle.std.proofs.Common.{inl}
use Rattle.zr_shelf.proofs.Doings.{writes_nothing}
use Rattle.zr_vdev.specs.Stores.{IsWriteInto}
use Rattle.zr_vdev.specs.declared.kind.Kind.TheVariants.{Block}
use Rattle.zr_removal.proofs.cancelling.cancel.Goals as goal

pub returns-in_err-demand_to_cancel-clause-stops : goal.returns-in_err-demand_to_cancel-clause-stops
returns-in_err-demand_to_cancel-clause-stops g c = λ objects h. inl (writes_nothing (IsWriteInto Block c.args.pool.now.table.slots c.args.pool.now.space) (g.S.Shelf.world c.args.shelf.now))
