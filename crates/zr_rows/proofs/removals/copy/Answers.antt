use Rattle.zr_indirect.proofs.Entries.{still_there}
use Rattle.zr_rows.proofs.removals.copy.Goals as goal

pub returns-clause-there : goal.returns-clause-there
returns-clause-there c = λ e there u inside.
    still_there c.args.device.now _ _ _ _ _ u c.in_ok-reserve.ensures.same c.copied.ensures.copied (there u inside)
