-- A root's space of which each block that a walk meets is freed.
use Rattle.std.specs.Prelude.{◌≡◌, ℕ, ◌<◌, ◌≤◌, List, []}
use Rattle.zr_base.specs.declared.space.DevPart.{DevPart}
use Rattle.zr_base.specs.declared.space.Dva.{Dva}
use Rattle.zr_base.specs.declared.space.SpaceParts.{SpaceParts}
use Rattle.zr_bptr.specs.declared.Bptr.{Bptr}
use Rattle.zr_image.specs.Roots.{without_late}
use Rattle.zr_rules.specs.Frees.{Frees}
use Rattle.zr_rules.specs.Places.{part_of}
use Rattle.zr_rules.specs.Space.{Space}
use Rattle.zr_space.specs.Live.{IsFreeable}
use Rattle.zr_space.specs.Opens.{IsOpened}
use Rattle.zr_import.specs.Units.{MarksAll, young_of}
use Rattle.zr_import.specs.declared.spent.Spent.{Spent}

-- the last group that there can be: no checkpoint keeps a block of it
abbrev pub last_group : ℕ
last_group = 18446744073709551615

-- the block could be freed, and it was
pub record SpendsBlock (old new : Space) (b : Bptr) : Type 0 where
  pub may : IsFreeable old b.at
  pub frees : Frees old new b.at last_group

-- the block may be freed, also of the older units if it is young
pub record MaySpend (s : Spent) (b : Bptr) : Type 0 where
  pub left : IsFreeable s.left b.at
  pub older : s.since < b.birth → IsFreeable s.older b.at

-- the block was freed, also of the older units if it is young
pub record Spends (old new : Spent) (b : Bptr) : Type 0 where
  pub left : SpendsBlock old.left new.left b
  pub young : old.since < b.birth → SpendsBlock old.older new.older b
  pub aged : b.birth ≤ old.since → new.older ≡ old.older
  pub since : new.since ≡ old.since

-- the space is that of a root with these parts, whatever their late sets are, and with this metadata
pub record IsSpaceOf (parts : SpaceParts) (meta : List Dva) (s : Space) : Type 0 where
  pub own : SpaceParts
  pub same : without_late own ≡ without_late parts
  pub opened : IsOpened own meta [] s

-- just the held units of the devices are held
abbrev pub HaveHeld : Space → List DevPart → Type 0
HaveHeld s devs = (d : ℕ) → (part_of s.parts.devs d).held ≡ (part_of devs d).held

-- just the kept units of the devices are held
abbrev pub HaveKept : Space → List DevPart → Type 0
HaveKept s devs = (d : ℕ) → (part_of s.parts.devs d).held ≡ (part_of devs d).kept

-- These blocks were freed one after another of the space of a root. Of the held units just the kept ones are left.
pub record MarksHeld (txg : ℕ) (parts : SpaceParts) (meta : List Dva) (blocks : List Bptr) : Type 0 where
  pub start : Space
  pub left : Space
  pub of_parts : IsSpaceOf parts meta start
  pub marks : MarksAll SpendsBlock txg start left blocks
  pub kept : HaveKept left parts.devs

-- The blocks that were born behind the group were freed of the space of a root. What is held then has no younger block.
pub record HasOlder (txg since : ℕ) (parts : SpaceParts) (meta : List Dva) (blocks : List Bptr) (older : Space) : Type 0 where
  pub start : Space
  pub of_parts : IsSpaceOf parts meta start
  pub young : MarksAll SpendsBlock txg start older (young_of since blocks)
