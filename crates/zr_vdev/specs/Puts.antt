-- What a new block takes, and what is written of it.
use Rattle.std.specs.Prelude.{◌≡◌, ℕ, ◌*◌, List, [], ◌∷◌, Option, Some, None, length}
use Rattle.zr_base.specs.declared.space.Dva.{Dva}
use Rattle.zr_base.specs.declared.space.Policy.{Policy}
use Rattle.zr_shelf.specs.Disks.{PendingWrite}
use Rattle.zr_shelf.specs.Moments.{World}
use Rattle.zr_shelf.specs.Doings.{WritesOnly}
use Rattle.zr_label.specs.Geometry.{unit_at}
use Rattle.zr_rules.specs.Space.{Space}
use Rattle.zr_rules.specs.Frees.{Allocates, AllocatesMeta, Frees, DropsMeta}
use Rattle.zr_space.specs.Drops.{KeepsParts}
use Rattle.zr_view.specs.Views.{slot_of}
use Rattle.zr_vdev.specs.declared.kind.Kind.{Kind}
use Rattle.zr_vdev.specs.declared.kind.Kind.TheVariants.{Block, Meta}

-- units are taken for a block, or for metadata
abbrev pub Takes : Kind → Policy → ℕ → Space → Space → Dva → Type 0
Takes Block policy want old new at = Allocates policy want old new at
Takes Meta policy want old new at = AllocatesMeta policy want old new at

-- units of a block, or of metadata, are given back
abbrev pub GivesBack : Kind → Space → Space → Dva → ℕ → Type 0
GivesBack Block old new at birth = Frees old new at birth
GivesBack Meta old new at birth = DropsMeta old new (at ∷ []) × KeepsParts old new

-- the write has just the units of the address
pub record IsWriteOf (slots : List (Option ℕ)) (a : Dva) (w : PendingWrite) : Type 0 where
  pub slot : slot_of slots a.dev ≡ Some w.slot
  pub at : w.at ≡ unit_at a.start
  pub size : length w.bytes ≡ 4096 * a.len

-- these units were taken, or none
abbrev pub MayTake : Kind → Policy → ℕ → Space → Space → Option Dva → Type 0
MayTake kind policy want old new None = new ≡ old
MayTake kind policy want old new (Some at) = Takes kind policy want old new at

-- these units were taken and nothing but them was written, or nothing at all was done
abbrev pub MayPut : Kind → Policy → ℕ → List (Option ℕ) → Space → Space → World → World → Option Dva → Type 0
MayPut kind policy want slots old new before after None = (new ≡ old) × (after ≡ before)
MayPut kind policy want slots old new before after (Some at) = Takes kind policy want old new at × WritesOnly (IsWriteOf slots at) before after
