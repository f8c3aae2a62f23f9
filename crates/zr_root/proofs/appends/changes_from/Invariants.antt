use Rattle.std.proofs.Common.{◌≡◌, ◌+◌, take}
use Rattle.zr_root.specs.Appends.{changes_from}
use Rattle.zr_root.proofs.appends.changes_from.Given as goal

abbrev pub invariant-loop-b : goal.invariant-loop-b
invariant-loop-b l = record {
  changes : l.changes.items ≡ changes_from l.first (take l.b-index l.leaves);
  index : l.index ≡ l.first + l.b-index;
}
