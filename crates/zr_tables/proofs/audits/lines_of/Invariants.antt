use Rattle.std.proofs.Common.{◌≡◌, map}
use Rattle.std.specs.List.{filter, range_with_len}
use Rattle.zr_tables.specs.Audits.{audit_line}
use Rattle.zr_tables.proofs.Lines.{there}
use Rattle.zr_tables.proofs.audits.lines_of.Given as goal

abbrev pub invariant-loop-index : goal.invariant-loop-index
invariant-loop-index l = l.lines ≡ map (audit_line l.walked l.allocated) (filter (there l.space) (range_with_len 0 l.index))
