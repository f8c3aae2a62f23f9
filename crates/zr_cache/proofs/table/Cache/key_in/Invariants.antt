use Rattle.std.proofs.Common.{◌≡◌, find}
use Rattle.zr_cache.specs.Entries.{entries, is_in}
use Rattle.zr_cache.proofs.table.Cache.key_in.Given as goal

-- what is found is found in what is left
abbrev pub invariant-loop-key : goal.invariant-loop-key
invariant-loop-key l = record {
  left : find (is_in l.run) (entries l.self) ≡ find (is_in l.run) l.key-iterator;
  can_next : (goal.iterator-loop-key).can_next l.key-iterator;
  is_finite : (goal.iterator-loop-key).is_finite l.key-iterator;
}
