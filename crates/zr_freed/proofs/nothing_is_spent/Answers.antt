use Rattle.zr_freed.proofs.Turns.{fits_spends}
use Rattle.zr_freed.proofs.nothing_is_spent.Goals as goal

pub returns : goal.returns
returns c = λ s fits. fits_spends s fits
