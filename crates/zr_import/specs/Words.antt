-- The words of streams, and what stands in the trees of the metadata.
use Rattle.std.specs.Prelude.{ℕ, List, [], ◌∷◌, ◌++◌, ◌≡◌}
use Rattle.std.specs.List.{flat_map}
use Rattle.zr_base.specs.declared.space.SpaceParts.{SpaceParts}
use Rattle.zr_bptr.specs.declared.Bptr.{Bptr}
use Rattle.zr_label.specs.declared.root.Uber.{Uber}
use Rattle.zr_meta.specs.declared.Stream.{Stream}
use Rattle.zr_meta.specs.declared.Head.{Head}
use Rattle.zr_meta.specs.Heads.{head_bytes}
use Rattle.zr_meta.specs.Parts.{SpellsParts}
use Rattle.zr_store.specs.Store.{Stored}
use Rattle.zr_tree.specs.Trees.{tree_reach}
use Rattle.zr_root.specs.Streams.{HasBytes, HasWords}
use Rattle.zr_image.specs.Roots.{head_tree, late_counted, rows_of}

-- the words of these streams, one stream's behind the other's
abbrev pub HaveWords : Stored → List Stream → List ℕ → Type 0
HaveWords s [] words = words ≡ []
HaveWords s (t ∷ streams) words = (own : List ℕ) × ((rest : List ℕ) × ((words ≡ own ++ rest) × (HasWords s t own × HaveWords s streams rest)))

-- the blocks of the head, and then those of its streams
abbrev pub meta_reach : Stored → Uber → Head → List Bptr
meta_reach s u h = tree_reach s (head_tree u) ++ flat_map (λ (t : Stream). tree_reach s t.tree) h.streams

-- the head stands in the tree of the root, and the words of its streams record these parts
pub record ReadsMeta (s : Stored) (u : Uber) (h : Head) (counted : SpaceParts) : Type 0 where
  pub head : HasBytes s (head_tree u) (head_bytes h)
  pub words : List ℕ
  pub streams : HaveWords s h.streams words
  pub parts : SpaceParts
  pub spelled : SpellsParts u.version (rows_of u) h words parts
  pub counted_is : counted ≡ late_counted u parts
