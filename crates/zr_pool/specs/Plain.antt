-- What a line to the pool on devices makes of the plain objects that its disks hold.
use Rattle.std.specs.Prelude.{◌≡◌, ℕ, Bool, true, false, not, All, length, Some, None, is_some, MatchBool}
use Rattle.std.specs.FinMap as map
use Rattle.zr_base.specs.declared.refusal.Refusal.{Refusal}
use Rattle.zr_base.specs.declared.refusal.Refusal.TheVariants as refusal
use Rattle.zr_script.specs.declared.command.Command.{Command}
use Rattle.zr_script.specs.declared.command.Command.TheVariants as cmd
use Rattle.zr_script.specs.declared.reply.Reply.{Reply}
use Rattle.zr_script.specs.declared.reply.Reply.TheVariants as reply
use Rattle.zr_model.specs.Objects.{Objects}
use Rattle.zr_model.specs.State.{State, PoolState, Saved, ShelfPart, Empty, Refused, Is, IsOpened, no_pool, no_work, created}
use Rattle.zr_model.specs.Runs.{Shelf}
use Rattle.zr_shelf.specs.Disks.{Stand}
use Rattle.zr_open.specs.Shown.{Shows, ShowsGroup}
use Rattle.zr_open.specs.There.{IsStillThere}
use Rattle.zr_open.specs.Rewound.{ShowsNoSaved}
use Rattle.zr_open.specs.Groups.{ShowsNotKept}
use Rattle.zr_moves.specs.Answers.{Acts, needs_lost, rewound}
use Rattle.zr_held.specs.Steps.{IsObjectOf}
use Rattle.zr_lines.specs.Groups.{can_make}
use Rattle.zr_lines.specs.Reads.{can_read}
use Rattle.zr_change.specs.declared.ranges.Edit.{Edit}
use Rattle.zr_lines.specs.Reaches.{is_in_reach}
use Rattle.zr_lines.specs.declared.range.Reach.{Reach}
use Rattle.zr_lines.specs.declared.range.Reach.TheVariants as reach

-- ---- refusals

-- the line's object is not there
abbrev pub IsMissing : Objects → Command → Type 0
IsMissing objects (cmd.Drop id) = map.get objects id ≡ None
IsMissing objects (cmd.Write id off bytes) = map.get objects id ≡ None
IsMissing objects (cmd.Fill id off len byte) = map.get objects id ≡ None
IsMissing objects (cmd.Punch id off len) = map.get objects id ≡ None
IsMissing objects (cmd.Read id off len) = map.get objects id ≡ None
IsMissing objects (cmd.Sum id) = map.get objects id ≡ None
IsMissing objects command = Unit {0}

-- the object is there, and the range is not in the line's reach
abbrev pub IsOutOfReach : Objects → Reach → ℕ → ℕ → ℕ → Type 0
IsOutOfReach objects reach id off len = (e : Edit) × (e.off ≡ off) × (e.len ≡ len) × IsObjectOf objects id (λ o. is_in_reach reach o.units e ≡ false)

-- the line asks for what no object may be, or for a range that its object does not have
abbrev pub IsBeyond : Objects → Command → Type 0
IsBeyond objects (cmd.Make id units) = can_make id units ≡ false
IsBeyond objects (cmd.Write id off bytes) = IsOutOfReach objects reach.Write id off (length bytes)
IsBeyond objects (cmd.Fill id off len byte) = IsOutOfReach objects reach.Fill id off len
IsBeyond objects (cmd.Punch id off len) = IsOutOfReach objects reach.Punch id off len
IsBeyond objects (cmd.Read id off len) = IsObjectOf objects id (λ o. can_read o.units off len ≡ false)
IsBeyond objects command = Unit {0}

-- the line would make an object that is there
abbrev pub IsThere : Objects → Command → Type 0
IsThere objects (cmd.Make id units) = IsObjectOf objects id (λ o. Unit {0})
IsThere objects command = Unit {0}

-- A refusal that the objects decide has its cause in them.
abbrev pub IsObjectCause : Objects → Command → Refusal → Type 0
IsObjectCause objects command refusal.NoSuchObject = IsMissing objects command
IsObjectCause objects command refusal.OutOfRange = IsBeyond objects command
IsObjectCause objects command refusal.ObjectExists = IsThere objects command
IsObjectCause objects command r = Unit {0}

-- One that the checkpoint decides has its cause in how that stands.
abbrev pub IsCheckpointCause : PoolState → Refusal → Type 0
IsCheckpointCause p refusal.CheckpointExists = is_some p.saved ≡ true
IsCheckpointCause p refusal.DiscardingCheckpoint = p.discarding ≡ true
IsCheckpointCause p refusal.NoCheckpoint = (p.saved ≡ None) × (p.discarding ≡ false)
IsCheckpointCause p refusal.NothingToDo = p.discarding ≡ false
IsCheckpointCause p r = Unit {0}

abbrev pub IsPlainRefusal : PoolState → Command → Refusal → Type 0
IsPlainRefusal p cmd.Checkpoint r = IsCheckpointCause p r
IsPlainRefusal p cmd.Discard r = IsCheckpointCause p r
IsPlainRefusal p cmd.StepDiscard r = IsCheckpointCause p r
IsPlainRefusal p (cmd.Remove dev) r = IsCheckpointCause p r
IsPlainRefusal p (cmd.Estimate dev) r = IsCheckpointCause p r
IsPlainRefusal p command r = IsObjectCause p.objects command r

-- Nothing is gone back to where the pool that the disks show has no checkpoint, or where the group is not kept.
abbrev pub IsOpeningCause : Shelf → Command → Refusal → Type 0
IsOpeningCause shelf cmd.ImportRewind refusal.NoCheckpoint = ShowsNoSaved shelf.paths shelf.disks
IsOpeningCause shelf (cmd.ImportTxg txg) (refusal.GroupNotKept oldest) = ShowsNotKept shelf.disks txg oldest
IsOpeningCause shelf command r = Unit {0}

-- ---- lines

abbrev pub exported : PoolState → State
exported p = record { is_open = false; shelf = Is p; work = no_work }

-- the objects and the checkpoint are the same
pub record KeepsObjects (p q : PoolState) : Type 0 where
  pub objects : q.objects ≡ p.objects
  pub saved : q.saved ≡ p.saved
  pub discarding : q.discarding ≡ p.discarding

-- The step of plain objects. Where a removal was given up, or ended, the objects are told, and not yet which devices are in service then.
abbrev pub TakesStep : PoolState → Command → Reply → PoolState → Type 0
TakesStep p cmd.Cancel (reply.Cancelled i) q = KeepsObjects p q
TakesStep p cmd.StepEvac (reply.Cancelled i) q = KeepsObjects p q
TakesStep p cmd.StepEvac (reply.Gone i) q = KeepsObjects p q
TakesStep p command answer q = Acts p command answer q

-- a line that is done takes its step, and needs no lost block
abbrev pub IsStep : PoolState → Command → Reply → PoolState → Type 0
IsStep p command answer q = TakesStep p command answer q × (needs_lost p command ≡ false)

-- a pool is open, of whose objects nothing is told
pub record IsUntold (s : State) : Type 0 where
  pub is_open : s.is_open ≡ true
  pub shelf : s.shelf ≡ Empty

-- a removal begins, or a step of it, or of condensing a mapping
abbrev pub is_of_removal : Command → Bool
is_of_removal (cmd.Remove dev) = true
is_of_removal cmd.Cancel = true
is_of_removal cmd.StepEvac = true
is_of_removal cmd.StepCondense = true
is_of_removal command = false

-- A step in the background was done that commits nothing: units of a device that is leaving were copied, into units that were free, or entries of a mapping were worked through.
abbrev pub is_background : Command → Reply → Bool
is_background cmd.StepEvac (reply.Copied units) = true
is_background cmd.StepCondense (reply.No r) = false
is_background cmd.StepCondense answer = true
is_background command answer = false

-- units of a device that is leaving were copied
abbrev pub is_copy : Command → Reply → Bool
is_copy cmd.StepEvac (reply.Copied units) = true
is_copy command answer = false

-- What the objects are behind the line is not told, by whether copies are told to have the bytes of their units: a device is gone, and they are not.
abbrev pub is_untold_behind : Bool → Command → Reply → Bool
is_untold_behind copies cmd.StepEvac (reply.Gone i) = not copies
is_untold_behind copies command answer = false

-- What a line makes of the objects of an open pool, by whether copies are told to have the bytes of their units: an export closes it, behind a step that ends a removal nothing is told of them where copies are not told to,
-- and all else that is done is a step of plain objects.
abbrev pub IsPlainTurn : Bool → PoolState → Command → Reply → State → Type 0
IsPlainTurn copies p command (reply.No r) new = IsOpened p new × IsPlainRefusal p command r
IsPlainTurn copies p cmd.Export reply.Done new = new ≡ exported p
IsPlainTurn copies p command answer new = MatchBool (is_untold_behind copies command answer) (IsUntold new) ((q : PoolState) × IsStep p command answer q × IsOpened q new)

-- where nothing is told of the objects, nothing is until the pool is opened anew
abbrev pub IsUntoldTurn : Command → Reply → State → Type 0
IsUntoldTurn command (reply.No r) new = IsUntold new
IsUntoldTurn cmd.Export reply.Done new = new ≡ no_pool
IsUntoldTurn command answer new = IsUntold new

-- A pool that is made has no objects, one that is imported is what the disks show, by the current root or by that of a group that is kept, and one that goes back to its checkpoint is what this had saved.
abbrev pub IsOpeningTurn : Shelf → State → Command → Reply → State → Type 0
IsOpeningTurn shelf old command (reply.No r) new = (new ≡ old) × IsOpeningCause shelf command r
IsOpeningTurn shelf old (cmd.Create name guid devs) reply.Done new = IsOpened (created name guid devs) new
IsOpeningTurn shelf old (cmd.CreateOld name guid devs) reply.Done new = IsOpened (created name guid devs) new
IsOpeningTurn shelf old cmd.Import reply.Done new = (p : PoolState) × Shows shelf.paths shelf.disks p × IsOpened p new
IsOpeningTurn shelf old cmd.ImportRewind reply.Done new = (p : PoolState) × (saved : Saved) × Shows shelf.paths shelf.disks p × (p.saved ≡ Some saved) × IsOpened (rewound p saved) new
IsOpeningTurn shelf old (cmd.ImportTxg txg) reply.Done new = (p : PoolState) × ShowsGroup shelf.paths shelf.disks txg p × IsOpened p new
IsOpeningTurn shelf old command answer new = new ≡ old

-- What is found has the objects that were left, where none of its devices is removed.
abbrev pub IsRejoined : ShelfPart → ShelfPart → Type 0
IsRejoined (Is left) (Is p) = All IsStillThere p.devs → p.objects ≡ left.objects
IsRejoined left found = Unit {0}

-- What is found has the objects that were left, whatever devices are removed.
abbrev pub IsFoundAgain : ShelfPart → ShelfPart → Type 0
IsFoundAgain (Is left) (Is p) = p.objects ≡ left.objects
IsFoundAgain left found = Unit {0}

-- What a line makes of the objects, by whether copies are told to have the bytes of their units, and whether a pool is open. A state that is open has a pool, or nothing is told of it.
abbrev pub IsObjectsTurn : Bool → Bool → ShelfPart → Shelf → State → Command → Reply → State → Type 0
IsObjectsTurn copies true (Is p) shelf old command answer new = IsPlainTurn copies p command answer new
IsObjectsTurn copies true Empty shelf old command answer new = IsUntoldTurn command answer new
IsObjectsTurn copies true (Refused r) shelf old command answer new = ⊥
IsObjectsTurn copies false part shelf old command answer new = IsOpeningTurn shelf old command answer new

-- The line was answered, and what is behind it is held.
pub record IsPlainOn (Holds : PoolState → Type 0) (p : PoolState) (command : Command) (answer : Reply) : Type 0 where
  pub after : PoolState
  pub holds : Holds after
  pub step : IsStep p command answer after

-- the answer is no refusal
abbrev pub IsDone : Reply → Type 0
IsDone (reply.No r) = ⊥
IsDone answer = Unit {0}

-- so was each line but an export, behind which no pool is open to hold them, and a step of a removal behind which they are not told, by whether copies are told to have the bytes of their units, which was done
abbrev pub IsPlainOf : Bool → (PoolState → Type 0) → PoolState → Command → Reply → Type 0
IsPlainOf copies Holds p cmd.Export reply.Done = Unit {0}
IsPlainOf copies Holds p command answer = MatchBool (is_untold_behind copies command answer) (IsDone answer) (IsPlainOn Holds p command answer)

-- a pool that was made is a new one, one that was imported is what the disks showed, and one that went back to its checkpoint is what this had saved
abbrev pub IsMade : Shelf → (PoolState → Type 0) → Command → Type 0
IsMade shelf Holds (cmd.Create name guid devs) = Holds (created name guid devs)
IsMade shelf Holds (cmd.CreateOld name guid devs) = Holds (created name guid devs)
IsMade shelf Holds cmd.Import = (p : PoolState) × Shows shelf.paths shelf.disks p × Holds p
IsMade shelf Holds cmd.ImportRewind = (p : PoolState) × (saved : Saved) × Shows shelf.paths shelf.disks p × (p.saved ≡ Some saved) × Holds (rewound p saved)
IsMade shelf Holds (cmd.ImportTxg txg) = (p : PoolState) × ShowsGroup shelf.paths shelf.disks txg p × Holds p
IsMade shelf Holds command = Unit {0}

-- the shelf as it reads
abbrev pub shelf_of : Stand → Shelf
shelf_of stand = record { paths = stand.paths; disks = stand.seen }
