use Rattle.std.proofs.Common.{◌≡◌, ◌++◌, take}
use Rattle.std.specs.List.{flat_map}
use Rattle.zr_script.specs.ReplyText.{map_line}
use Rattle.zr_script.proofs.tables.put_map.Given as goal

abbrev pub invariant-loop-line : goal.invariant-loop-line
invariant-loop-line l = l.text.items ≡ l.fn.text.items ++ flat_map map_line (take l.line-index l.lines)
