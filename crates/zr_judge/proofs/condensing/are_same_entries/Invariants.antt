use Rattle.std.proofs.Common.{◌≡◌, ℕ, ◌<◌, length}
use Rattle.zr_rules.specs.Mappings.{entry_at}
use Rattle.zr_judge.proofs.condensing.are_same_entries.Given as goal

abbrev pub invariant-loop-i : goal.invariant-loop-i
invariant-loop-i l = record {
  so_far : (k : ℕ) → k < l.i → entry_at l.a k ≡ entry_at l.b k;
  end : l.i-end ≡ length l.a;
}
