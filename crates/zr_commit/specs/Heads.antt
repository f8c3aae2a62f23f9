-- A head that is stored.
use Rattle.std.specs.Prelude.{◌≡◌, ℕ, List, length}
use Rattle.zr_base.specs.declared.space.DevRow.{DevRow}
use Rattle.zr_bptr.specs.declared.Ptr.{Ptr}
use Rattle.zr_bptr.specs.declared.Tree.{Tree}
use Rattle.zr_store.specs.Store.{Stored}
use Rattle.zr_meta.specs.declared.Head.{Head}
use Rattle.zr_meta.specs.Heads.{SpellsHead}
use Rattle.zr_root.specs.Streams.{IsTreeFor, StoresBytes}

-- the bytes of the head stand in the tree of that length with this root, whose blocks came
pub record StoresHead (table : List DevRow) (old new : Stored) (h : Head) (root : Ptr) (len : ℕ) : Type 0 where
  pub bytes : List ℕ
  pub spells : SpellsHead table bytes h
  pub long : length bytes ≡ len
  pub stored : (t : Tree) → IsTreeFor len root t → StoresBytes old new t bytes
