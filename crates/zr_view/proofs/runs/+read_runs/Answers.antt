use Rattle.zr_shelf.proofs.Runs.{still_trans}
use Rattle.zr_view.proofs.runs.+read_runs.Goals as goal

pub returns-clause-still : goal.returns-clause-still
returns-clause-still g t c = λ told.
    still_trans (g.S.Shelf.world c.args.shelf.now) (g.S.Shelf.world c.read_run.new.shelf) (g.S.Shelf.world c.read_runs.new.shelf) (c.read_run.ensures.still told) (c.read_runs.ensures.still (c.read_run.ensures.told told))
