-- Trees that stand beside each other in one store.
use Rattle.std.specs.Prelude.{ℕ, zero, suc, ◌≤◌, List, [], ◌++◌, All}
use Rattle.std.specs.List.{flat_map, sum_by}
use Rattle.zr_base.specs.Words.{words}
use Rattle.zr_bptr.specs.declared.Bptr.{Bptr}
use Rattle.zr_bptr.specs.declared.Tree.{Tree}
use Rattle.zr_store.specs.Store.{Stored, AreStored, IsOnce}
use Rattle.zr_tree.specs.Trees.{tree_reach}
use Rattle.zr_meta.specs.declared.Stream.{Stream}
use Rattle.zr_root.specs.Streams.{HasBytes}

-- a tree, and the bytes that stand in it
pub record Standing : Type 0 where
  pub tree : Tree
  pub bytes : List ℕ

-- a tree with these bytes
abbrev pub of_tree : Tree → List ℕ → Standing
of_tree t bytes = record { tree = t; bytes = bytes }

-- the tree of a stream, with the bytes of these words
abbrev pub of_stream : Stream → List ℕ → Standing
of_stream stream ns = of_tree stream.tree (words ns)

-- the bytes stand in the tree
abbrev pub Stands : Stored → Standing → Type 0
Stands s w = HasBytes s w.tree w.bytes

-- the blocks of the trees, one tree after another
abbrev pub blocks_of : Stored → List Standing → List Bptr
blocks_of s all = flat_map (λ w. tree_reach s w.tree) all

-- The blocks of these trees are stored, none of them is one of two, and in each tree its bytes stand.
pub record StandIn (s : Stored) (some : List Standing) : Type 0 where
  pub stored : AreStored (blocks_of s some) s
  pub once : IsOnce s
  pub stand : All (Stands s) some

-- So it is of all trees of a store: no other block is stored.
pub record StandBeside (s : Stored) (all : List Standing) : Type 0 where
  pub stored : AreStored (blocks_of s all) s
  pub whole : (weight : Bptr → ℕ) → sum_by weight s.pointers ≤ sum_by weight (blocks_of s all)
  pub once : IsOnce s
  pub stand : All (Stands s) all

-- the trees of the first so many rows, one row after another
abbrev pub rows_of : (ℕ → List Standing) → ℕ → List Standing
rows_of row zero = []
rows_of row (suc n) = rows_of row n ++ row n
