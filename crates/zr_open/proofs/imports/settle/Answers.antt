use Rattle.zr_shelf.proofs.Doings.{flushed_at_rest}
use Rattle.zr_open.proofs.Flushing.{flushes_call}
use Rattle.zr_open.proofs.imports.settle.Goals as goal

pub returns-in_err-flush-clause-flushes : goal.returns-in_err-flush-clause-flushes
returns-in_err-flush-clause-flushes g c = λ t. flushes_call c.flush.result (g.S.Shelf.world c.args.shelf.now) (g.S.Shelf.world c.flush.new.self) (c.flush.ensures.world t)

pub returns-clause-flushes : goal.returns-clause-flushes
returns-clause-flushes g c = λ t. flushes_call c.flush.result (g.S.Shelf.world c.args.shelf.now) (g.S.Shelf.world c.flush.new.self) (c.flush.ensures.world t)

pub returns-clause-rests : goal.returns-clause-rests
returns-clause-rests g c = λ t. flushed_at_rest (g.S.Shelf.world c.args.shelf.now).now (g.S.Shelf.world c.flush.new.self).now (c.in_ok-flush.ensures.world t).step
