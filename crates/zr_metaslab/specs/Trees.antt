-- A binary tree of maxima in one list: the root has index 1, and node n the children 2 n and 2 n + 1.
use Rattle.std.specs.Prelude.{◌≡◌, ℕ, ◌+◌, ◌*◌, ◌^◌, ◌<◌, ◌≤◌, List, length, max, slice_index_or}

pub record Tree : Type 0 where
  pub size : ℕ
  pub nodes : List ℕ

-- 0 past the end
abbrev pub node_at : List ℕ → ℕ → ℕ
node_at nodes n = slice_index_or nodes n 0

abbrev pub leaf_at : Tree → ℕ → ℕ
leaf_at t k = node_at t.nodes (t.size + k)

-- each node has the greater value of its children
pub record IsTree (height size : ℕ) (nodes : List ℕ) : Type 0 where
  pub power : size ≡ 2 ^ height
  pub some : 0 < size
  pub full : 0 < length nodes → length nodes ≡ 2 * size
  pub parents : (n : ℕ) → 0 < n → n < size → node_at nodes n ≡ max (node_at nodes (2 * n)) (node_at nodes (2 * n + 1))

-- the first leaf that has at least so much
pub record IsFirstLeaf (t : Tree) (want k : ℕ) : Type 0 where
  pub enough : want ≤ leaf_at t k
  pub before : (j : ℕ) → j < k → leaf_at t j < want

-- some leaf has this
pub record HasLeaf (t : Tree) (value : ℕ) : Type 0 where
  pub leaf : ℕ
  pub has : leaf_at t leaf ≡ value

-- no leaf before this one has so much
abbrev pub HasNoneBefore : Tree → ℕ → ℕ → Type 0
HasNoneBefore t from least = (j : ℕ) → j < from → leaf_at t j < least
