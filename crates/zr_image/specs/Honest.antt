-- No crash makes up a label or a root.
use Rattle.std.specs.Prelude.{ℕ, ◌<◌, List, length}
use Rattle.zr_shelf.specs.Disks.{disk, Stand, MayLeave}
use Rattle.zr_shelf.specs.Publish.{IsHonestBlock}
use Rattle.zr_label.specs.Blocks.{SpellsLabel, SpellsUber, SpellsNewer}
use Rattle.zr_label.specs.Geometry.{label_block_at, ring_slot_at}
use Rattle.zr_label.specs.declared.root.Label.{Label}
use Rattle.zr_label.specs.declared.root.Uber.{Uber}

-- what a block of a label or of a ring may be: a label, a root, or a root of an unknown version
pub data Mark : Type 0 where
  of_device : Label → Mark
  of_group : Uber → Mark
  unknown : (guid version txg : ℕ) → Mark

-- the block is one
abbrev pub IsMark : List ℕ → Mark → Type 0
IsMark block (of_device l) = SpellsLabel block l
IsMark block (of_group u) = SpellsUber block u
IsMark block (unknown guid version txg) = SpellsNewer block guid version txg

-- No forgery: each label block and each block of a ring has its old bytes, those of one of the writes that wait, or bytes that are no label and no root.
pub record IsHonest (stand : Stand) (image : List (List ℕ)) : Type 0 where
  pub labels : (slot n : ℕ) → n < 4 → IsHonestBlock IsMark stand image slot (label_block_at (length (disk stand.durable slot)) n)
  pub rings : (slot n k : ℕ) → n < 4 → k < 32 → IsHonestBlock IsMark stand image slot (ring_slot_at (length (disk stand.durable slot)) n k)

-- an image that an honest crash may leave
pub record IsLeft (stand : Stand) (image : List (List ℕ)) : Type 0 where
  pub leaves : MayLeave stand image
  pub honest : IsHonest stand image

-- each image that an honest crash may leave has this
abbrev pub Leaves : (List (List ℕ) → Type 0) → Stand → Type 0
Leaves P stand = (image : List (List ℕ)) → IsLeft stand image → P image
