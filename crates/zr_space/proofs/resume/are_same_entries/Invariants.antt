use Rattle.std.proofs.Common.{◌≡◌, ℕ, ◌<◌, length}
use Rattle.zr_rules.specs.Mappings.{entry_at}
use Rattle.zr_space.proofs.resume.are_same_entries.Given as goal

abbrev pub invariant-loop-i : goal.invariant-loop-i
invariant-loop-i l = record {
  so_far : (i : ℕ) → i < l.i → entry_at l.a i ≡ entry_at l.b i;
  end : l.i-end ≡ length l.a;
}
