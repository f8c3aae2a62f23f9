use Rattle.std.proofs.Common.{◌≡◌, ◌+◌, ◌*◌, ◌<◌, ◌==◌, false, max, length, ℕ, if◌then◌else◌}
use Rattle.zr_metaslab.specs.Trees.{node_at}
use Rattle.zr_metaslab.proofs.maxima.Maxima.set.Given as goal

abbrev pub invariant-loop-n : goal.invariant-loop-n
invariant-loop-n l = record {
  height : l.self-inside.height ≡ l.initial.self-inside.height;
  size : l.self-inside.size ≡ l.initial.self-inside.size;
  length : length l.self-inside.nodes.items ≡ length l.initial.self-inside.nodes.items;
  below : l.n < l.self-inside.size;
  parents : (m : ℕ) → 0 < m → m < l.self-inside.size → (m == l.n) ≡ false → node_at l.self-inside.nodes.items m ≡ max (node_at l.self-inside.nodes.items (2 * m)) (node_at l.self-inside.nodes.items (2 * m + 1));
  leaves : (j : ℕ) → node_at l.self-inside.nodes.items (l.self-inside.size + j) ≡ (if j == l.fn.leaf then l.fn.value else node_at l.fn.self.nodes (l.self-inside.size + j));
}

abbrev pub decreases-loop-n : goal.decreases-loop-n
decreases-loop-n l = l.n
