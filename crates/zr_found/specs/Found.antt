-- The objects of a directory that was found, as a store of its blocks holds them.
use Rattle.std.specs.Prelude.{◌≡◌, ◌*◌, ◌<◌, length}
use Rattle.zr_bptr.specs.declared.Bptr.{Bptr}
use Rattle.zr_bptr.specs.declared.Tree.{Tree}
use Rattle.zr_store.specs.Store.{Stored, IsOnce, hits}
use Rattle.zr_objset.specs.Records.{all_reach}
use Rattle.zr_model.specs.Objects.{Objects}
use Rattle.zr_image.specs.StateOf.{AreObjects}
use Rattle.zr_moves.specs.Account.{Account}
use Rattle.zr_held.specs.Held.{HasObjects}

-- The store has the blocks to which the directory leads in an image, no address twice. They have the bytes that they have there, as many as their units.
pub record HasReached (image s : Stored) (dir : Tree) : Type 0 where
  pub pointers : s.pointers ≡ all_reach image dir
  pub once : IsOnce s
  pub bytes : (b : Bptr) → 0 < hits s.pointers b.at → s.bytes b ≡ image.bytes b
  pub sizes : (b : Bptr) → 0 < hits s.pointers b.at → length (s.bytes b) ≡ 4096 * b.at.len

-- each pointer of the store reads its bytes in the image
abbrev pub ReadsAlike : Stored → Stored → Type 0
ReadsAlike image s = (b : Bptr) → 0 < hits s.pointers b.at → image.bytes b ≡ s.bytes b

-- Some objects are those of the directory in the image, and the store holds them.
pub record HoldsFound (image s : Stored) (a : Account) : Type 0 where
  pub objects : Objects
  pub are : AreObjects image a.dir objects
  pub has : HasObjects s a objects
