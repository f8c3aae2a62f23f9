use Rattle.std.proofs.Common.{◌≡◌, ◌≤◌, length}
use Rattle.zr_files.specs.Raised.{raised}
use Rattle.zr_files.proofs.file_desk.write_whole.Given as goal

abbrev pub invariant-loop : goal.invariant-loop
invariant-loop g l = (l.done ≤ length l.bytes) × (l.sent ≡ raised l.before l.done) × (l.faults ≡ l.initial.faults)
