use Rattle.std.proofs.Common.{◌≡◌, ◌≤◌, ℕ, take}
use Rattle.zr_rules.specs.Places.{address_hits}
use Rattle.zr_space.proofs.open.are_known.Given as goal

abbrev pub invariant-loop-a : goal.invariant-loop-a
invariant-loop-a l = (d u : ℕ) → l.devices ≤ d → address_hits (take l.a-index l.meta) d u ≡ 0
