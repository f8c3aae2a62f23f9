-- What an open pool leaves on its disks for an import to find.
use Rattle.std.specs.Prelude.{◌≡◌, ℕ, ◌+◌, List, [], ◌∷◌, Option, IfSome}
use Rattle.zr_base.specs.declared.space.CkptPart.{CkptPart}
use Rattle.zr_base.specs.declared.space.DevPart.{DevPart}
use Rattle.zr_base.specs.declared.space.DevRow.{DevRow}
use Rattle.zr_base.specs.declared.space.DevState.TheVariants.{On}
use Rattle.zr_base.specs.declared.space.SpaceParts.{SpaceParts}
use Rattle.zr_image.specs.Current.{slots_of}
use Rattle.zr_image.specs.Roots as image
use Rattle.zr_image.specs.Roots.{late_counted, rows_of}
use Rattle.zr_image.specs.StateOf.{IsSaved}
use Rattle.zr_import.specs.Words.{HaveWords}
use Rattle.zr_label.specs.declared.root.Uber.{Uber}
use Rattle.zr_last.specs.Last.{ShowsLast}
use Rattle.zr_meta.specs.Parts.{SpellsParts}
use Rattle.zr_meta.specs.Streams.{SpellsPart}
use Rattle.zr_model.specs.Objects.{Objects}
use Rattle.zr_model.specs.State.{Saved}
use Rattle.zr_root.specs.Streams.{HasWords}
use Rattle.zr_shelf.specs.Disks.{Stand}
use Rattle.zr_store.specs.Store.{Stored}
use Rattle.zr_sync.specs.Ends.{LeavesCommitted}
use Rattle.zr_sync.specs.Heads.{HasHead, head_of}
use Rattle.zr_sync.specs.Moves.{TellsMoves}
use Rattle.zr_sync.specs.Objects.{HoldsObjects}
use Rattle.zr_sync.specs.declared.open.DeviceStreams.{DeviceStreams}
use Rattle.zr_sync.specs.declared.open.OpenPool.{OpenPool}
use Rattle.zr_current.specs.Current.{GoesOnFrom, IsShownFor}
use Rattle.zr_roots.specs.Standing.{image_of}
use Rattle.zr_open.specs.Shown.{IsShownBeside}

-- The device is in service. The words of its streams stand in the store, and record this part of a space.
pub record RecordsDevice (s : Stored) (version dev : ℕ) (ckpt : CkptPart) (row : DevRow) (t : DeviceStreams) (p : DevPart) : Type 0 where
  pub on : row.state ≡ On
  pub held : List ℕ
  pub held_stand : HasWords s t.held held
  pub kept : List ℕ
  pub kept_stand : HasWords s t.kept kept
  pub late1 : List ℕ
  pub late1_stand : HasWords s t.late1 late1
  pub late2 : List ℕ
  pub late2_stand : HasWords s t.late2 late2
  pub spelled : SpellsPart version dev ckpt (record { row = row; held = held; kept = kept; entries = []; counts = []; fresh = []; late1 = late1; late2 = late2 }) p

-- so do those of each device, from this index on
abbrev pub RecordsDevices : Stored → ℕ → CkptPart → ℕ → List DevRow → List DeviceStreams → List DevPart → Type 0
RecordsDevices s version ckpt dev [] [] [] = Unit {0}
RecordsDevices s version ckpt dev [] [] (p ∷ parts) = ⊥
RecordsDevices s version ckpt dev [] (t ∷ streams) parts = ⊥
RecordsDevices s version ckpt dev (row ∷ rows) [] parts = ⊥
RecordsDevices s version ckpt dev (row ∷ rows) (t ∷ streams) [] = ⊥
RecordsDevices s version ckpt dev (row ∷ rows) (t ∷ streams) (p ∷ parts) = RecordsDevice s version dev ckpt row t p × RecordsDevices s version ckpt (dev + 1) rows streams parts

-- the words of the pool's streams stand on the disks, and record some parts
pub record RecordsParts (disks : List (List ℕ)) (u : Uber) (pool : OpenPool) : Type 0 where
  pub words : List ℕ
  pub streams : HaveWords (image_of disks pool.table.slots u) (head_of pool).streams words
  pub parts : SpaceParts
  pub spelled : SpellsParts u.version (rows_of u) (head_of pool) words parts

-- the root, as the pool's head and these parts tell it
abbrev pub root_left : Uber → OpenPool → SpaceParts → image.Root
root_left u pool parts = record { uber = u; head = head_of pool; parts = late_counted u parts; meta = []; live = [] }

-- Nothing has changed since the pool's last root, and the disks have all that an import reads of it: the slots show it, its head stands at its pointer with the words of its streams, and what the head
-- tells of a saved root stands there too.
pub record LeavesRoot (paths disks : List (List ℕ)) (u : Uber) (pool : OpenPool) : Type 0 where
  pub from : GoesOnFrom u pool
  pub empty : pool.group.objects ≡ []
  pub slots : IsShownFor disks u pool
  pub head : HasHead disks pool u.root u.len
  pub records : RecordsParts disks u pool
  pub saved : Option image.Root
  pub beside : IsShownBeside disks (slots_of u slots.seen) (root_left u pool records.parts) (head_of pool).saved saved
  pub state : Option Saved
  pub means : IsSaved paths disks (slots_of u slots.seen) saved state

-- Nothing has changed since the pool's last root. The disks show it, its head stands there, and they hold these objects.
pub record LeavesObjects (disks : List (List ℕ)) (pool : OpenPool) (objects : Objects) : Type 0 where
  pub empty : pool.group.objects ≡ []
  pub last : ShowsLast disks pool
  pub head : HasHead disks pool last.root.root last.root.len
  pub holds : HoldsObjects (Unit {0}) disks pool objects

-- A pool that was opened stands as a commit left it, and the disks tell where the units of removed devices have moved.
abbrev pub IsLeftCommitted : Stand → OpenPool → Type 0
IsLeftCommitted now pool = LeavesCommitted pool now × IfSome pool.last (λ u. TellsMoves now.seen pool u.root u.len)
