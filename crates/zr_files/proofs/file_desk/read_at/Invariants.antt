use Rattle.std.proofs.Common.{◌≡◌, ◌≤◌, length}
use Rattle.zr_files.specs.Raised.{raised}
use Rattle.zr_files.proofs.file_desk.read_at.Given as goal

abbrev pub invariant-loop : goal.invariant-loop
invariant-loop l = (l.done ≤ length l.out) × (l.read ≡ raised l.before l.done) × (l.faults ≡ l.initial.faults)
