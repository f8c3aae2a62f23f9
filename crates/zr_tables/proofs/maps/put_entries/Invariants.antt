use Rattle.std.proofs.Common.{◌≡◌, ◌++◌, map}
use Rattle.std.specs.List.{range_with_len}
use Rattle.zr_base.specs.declared.space.DevPart.{DevPart}
use Rattle.zr_tables.specs.Tables.{entry_line}
use Rattle.zr_tables.proofs.maps.put_entries.Given as goal

abbrev pub invariant-loop-i : goal.invariant-loop-i
invariant-loop-i l = (p : DevPart) → p.entries ≡ l.entries → p.counts ≡ l.counts → l.lines ≡ l.initial.lines ++ map (entry_line p) (range_with_len 0 l.i)
