-- What a step of a removal copies.
use Rattle.std.specs.Prelude.{◌≡◌, ℕ, List, Option}
use Rattle.zr_base.specs.declared.space.Extent.{Extent}
use Rattle.zr_base.specs.declared.space.Policy.{Policy}
use Rattle.zr_shelf.specs.Disks.{PendingWrite}
use Rattle.zr_shelf.specs.Moments.{World}
use Rattle.zr_shelf.specs.Doings.{WritesOnly}
use Rattle.zr_imap.specs.declared.image.Piece.{Piece}
use Rattle.zr_chain.specs.Visits.{as_part}
use Rattle.zr_rules.specs.Space.{Space}
use Rattle.zr_view.specs.Runs.{run_bytes}
use Rattle.zr_space.specs.Plans.{Plans, MakesCopy}
use Rattle.zr_space.specs.declared.copy.Plan.{Plan}
use Rattle.zr_vdev.specs.declared.kind.Kind.TheVariants.{Meta}
use Rattle.zr_vdev.specs.Puts.{IsWriteOf}
use Rattle.zr_vdev.specs.Stores.{IsWriteInto}

-- units of a device
abbrev pub run_of : ℕ → Extent → Piece
run_of d e = record { split = 0; dev = d; at = e }

-- The write has units that were free: what may be written for metadata.
abbrev pub IsWriteIntoFree : List (Option ℕ) → Space → PendingWrite → Type 0
IsWriteIntoFree slots s w = IsWriteInto Meta slots s w

-- So many units were copied: by a plan of the space, whose place is a copy of them from now on, and has their bytes. Nothing else was written.
pub record CopiesUnits (policy : Policy) (slots : List (Option ℕ)) (told : Type 0) (before after : World) (old new : Space) (n : ℕ) : Type 0 where
  pub dev : ℕ
  pub plan : Plan
  pub plans : Plans policy old dev plan
  pub makes : MakesCopy old new dev plan
  pub units : n ≡ plan.from.len
  pub written : told → WritesOnly (IsWriteOf slots plan.to) before after
  pub there : told → run_bytes after.now.seen slots (as_part plan.to) ≡ run_bytes before.now.seen slots (run_of dev plan.from)
