use Rattle.std.proofs.Common.{◌≡◌, ◌^◌, ◌<◌, ◌≤◌, ℕ, drop}
use Rattle.std.specs.Prelude.{All}
use Rattle.zr_bptr.specs.declared.Ptr.TheVariants.{At}
use Rattle.zr_tree.specs.Blocks.{FitsAt}
use Rattle.zr_txg.specs.Tables.{value_at}
use Rattle.zr_lookup.specs.Lists.{IsBetween, overlaid}
use Rattle.zr_lookup.proofs.overlays.overlay.Given as goal

abbrev pub invariant-loop-change : goal.invariant-loop-change
invariant-loop-change l = record {
  out : IsBetween 0 l.next l.out.items;
  fit : All (λ leaf. FitsAt 0 (At leaf.1)) l.out.items;
  rest : IsBetween l.next (2 ^ 25) (drop l.change-index l.changes);
  same : (k : ℕ) → l.next ≤ k → value_at (drop l.change-index l.changes) k ≡ value_at l.changes k;
  done : (k : ℕ) → k < l.next → value_at l.out.items k ≡ overlaid (value_at l.changes k) (value_at l.leaves k);
}
