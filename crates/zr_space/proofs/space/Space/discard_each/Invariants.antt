use Rattle.std.proofs.Common.{◌≡◌, ◌+◌, ◌*◌, ◌^◌, ◌≤◌, ℕ, length}
use Rattle.std.specs.Prelude.{sum_by}
use Rattle.zr_base.specs.declared.space.Extent.{Extent}
use Rattle.zr_space.proofs.Giving.{IsGiving}
use Rattle.zr_space.proofs.space.Space.discard_each.Given as goal

abbrev pub invariant-loop-first : goal.invariant-loop-first
invariant-loop-first l = record {
  giving : IsGiving l.initial.self l.self l.list l.rest;
  few : length l.rest ≤ length l.list;
  so_far : l.units + sum_by (λ (e : ℕ × Extent). e.1.len) l.rest ≡ sum_by (λ (e : ℕ × Extent). e.1.len) l.list;
  most : l.units + length l.rest * 2 ^ 40 ≤ length l.list * 2 ^ 40;
}

abbrev pub decreases-loop-first : goal.decreases-loop-first
decreases-loop-first l = length l.rest
