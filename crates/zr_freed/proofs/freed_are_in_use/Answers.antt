use Rattle.zr_freed.proofs.Turns.{freed_in_use}
use Rattle.zr_freed.proofs.freed_are_in_use.Goals as goal

pub returns : goal.returns
returns c = λ birth old new list none frees. freed_in_use birth old new list none frees
