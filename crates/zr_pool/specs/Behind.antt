-- What a stop leaves of the pool on devices, in the group that is open and while it is committed.
use Rattle.std.specs.Prelude.{◌≡◌, ◌⊎◌, ℕ, IfSome, Bool, true, false, not, ◌&&◌, ◌||◌, List, [], ◌∷◌, Option, Some, None, is_some, if◌then◌else◌, nat_lt}
use Rattle.std.specs.FinMap as map
use Rattle.zr_base.specs.declared.space.DevPart.{DevPart}
use Rattle.zr_command.specs.Meanings.{Disks}
use Rattle.zr_sync.specs.Ends.{LeavesCommitted}
use Rattle.zr_create.specs.Adding.{AddsInPart}
use Rattle.zr_create.specs.Making.{MakesBehind}
use Rattle.zr_image.specs.Honest.{IsLeft}
use Rattle.zr_lines.specs.Stops.{OpensNoUnit, StaysInOneGroup, WritesReset}
use Rattle.zr_model.specs.Objects.{Objects}
use Rattle.zr_model.specs.Runs.{Shelf}
use Rattle.zr_model.specs.State.{PoolState, Saved, ShelfPart, Is}
use Rattle.zr_open.specs.Flushed.{FlushesOnly}
use Rattle.zr_open.specs.Going.{GoesBackInPart, RewindsInPart}
use Rattle.zr_open.specs.Shown.{Shows, ShowsGroup}
use Rattle.zr_rules.specs.Columns.{uncopied_units}
use Rattle.zr_rules.specs.Places.{is_gone}
use Rattle.zr_rules.specs.Space.{Space}
use Rattle.zr_script.specs.declared.command.Command.{Command}
use Rattle.zr_script.specs.declared.command.Command.TheVariants as cmd
use Rattle.zr_script.specs.declared.reply.Reply.{Reply}
use Rattle.zr_script.specs.declared.reply.Reply.TheVariants as reply
use Rattle.zr_shelf.specs.Disks.{IsAtRest, Stand}
use Rattle.zr_shelf.specs.Moments.{IsStill, World}
use Rattle.zr_stops.specs.Behind.{ShowsOnly}
use Rattle.zr_stops.specs.Either.{ShowsEither}
use Rattle.zr_sync.specs.Commits.{EndsGroup}
use Rattle.zr_sync.specs.Copies.{KeepsCopies}
use Rattle.zr_sync.specs.Moves.{TellsMoves}
use Rattle.zr_sync.specs.Objects.{HoldsObjects}
use Rattle.zr_sync.specs.Trees.{HasLastTrees, HasTrees}
use Rattle.zr_sync.specs.Trees.Stage.{Had}
use Rattle.zr_sync.specs.declared.open.OpenPool.{OpenPool}
use Rattle.zr_vdev.specs.Stores.{KeepsOthers}
use Rattle.zr_vdev.specs.declared.kind.Kind.TheVariants.{Block}
use Rattle.zr_pool.specs.Plain.{is_background, is_copy}
use Rattle.zr_pool.specs.Pools.{DeviceState, is_evacuating, settled, stand_of}

-- The lines that work in the group that is open, or end it by a commit: those on objects, tables, `step discard`, `sync` and `export`.
abbrev pub is_in_group : Command → Bool
is_in_group (cmd.Make id units) = true
is_in_group (cmd.Drop id) = true
is_in_group (cmd.Write id off bytes) = true
is_in_group (cmd.Fill id off len byte) = true
is_in_group (cmd.Punch id off len) = true
is_in_group (cmd.Read id off len) = true
is_in_group (cmd.Sum id) = true
is_in_group cmd.List = true
is_in_group cmd.Status = true
is_in_group cmd.Audit = true
is_in_group (cmd.Estimate dev) = true
is_in_group (cmd.Map index) = true
is_in_group cmd.StepDiscard = true
is_in_group cmd.Sync = true
is_in_group cmd.Export = true
is_in_group _ = false

-- those that end it
abbrev pub is_commit : Command → Bool
is_commit cmd.Sync = true
is_commit cmd.Export = true
is_commit _ = false

-- those that end with a reset: they change the pool and leave its objects
abbrev pub is_resetting : Command → Bool
is_resetting (cmd.Add dev) = true
is_resetting cmd.Checkpoint = true
is_resetting cmd.Discard = true
is_resetting cmd.Upgrade = true
is_resetting (cmd.Remove dev) = true
is_resetting _ = false

-- a removal was given up
abbrev pub is_return : Reply → Command → Bool
is_return (reply.Cancelled i) cmd.Cancel = true
is_return (reply.Cancelled i) cmd.StepEvac = true
is_return answer command = false

-- units of a device that is leaving were copied, or its removal was given up
abbrev pub copies_or_returns : Command → Reply → Bool
copies_or_returns command answer = is_copy command answer || is_return answer command

-- The line ended with a reset, and left the objects: one of those that do, or a removal was given up.
abbrev pub ends_reset : Reply → Command → Bool
ends_reset (reply.No r) command = false
ends_reset answer command = is_resetting command || is_return answer command

-- The line ended with a commit of a pool that holds these objects.
pub record HasReset (pool : OpenPool) (now : Stand) (objects : Objects) : Type 0 where
  pub leaves : LeavesCommitted pool now
  pub holds : HoldsObjects (Unit {0}) now.seen pool objects

-- the trees of the pool's streams stand on the disks still
abbrev pub KeepsTrees : OpenPool → OpenPool → World → World → Type 0
KeepsTrees old new before now = HasTrees Had (Unit {0}) before.now.seen old → HasTrees Had (Unit {0}) now.now.seen new

-- those that write the trees of the pool's streams, and leave them on the disks
abbrev pub is_writing_trees : Command → Bool
is_writing_trees (cmd.Add dev) = true
is_writing_trees cmd.Checkpoint = true
is_writing_trees cmd.Upgrade = true
is_writing_trees _ = false

-- those that leave copies the bytes of their units: the adding of a device, and an upgrade
abbrev pub spares_copies : Command → Bool
spares_copies (cmd.Add dev) = true
spares_copies cmd.Upgrade = true
spares_copies _ = false

-- It is told that the trees of the streams stood before the line, and it is one that writes them.
abbrev pub WritesTold : Command → OpenPool → World → Type 0
WritesTold command old before = (is_writing_trees command ≡ true) × HasLastTrees before.now.seen old

-- The line ended with a reset, which left the trees of the streams where it is one of those, and the disks tell then where the units of removed devices have moved.
pub record EndsReset (command : Command) (old new : OpenPool) (objects : Objects) (before now : World) : Type 0 where
  pub resets : HasReset new now.now objects
  pub trees : is_writing_trees command ≡ true → KeepsTrees old new before now
  pub moves : WritesTold command old before → IfSome new.last (λ u. TellsMoves now.now.seen new u.root u.len)

-- What such a line wrote, wherever it stopped: a reset that leaves each device where it was, or the adding of one.
abbrev pub StopsInReset : List ℕ → Objects → Command → OpenPool → World → World → Type 0
StopsInReset sizes objects command old before now = WritesReset (WritesTold command old before) sizes objects old before now ⊎ ((slot : ℕ) × AddsInPart sizes objects slot old before now)

-- a step would end no removal: no device is leaving, or units of one are left to copy
abbrev pub is_no_end : Option OpenPool → Bool
is_no_end None = true
is_no_end (Some pool) = not (is_evacuating pool.space) || nat_lt 0 (uncopied_units pool.space)

-- The line is a `remove -s`, a step of a removal that does not end it, or a step of condensing: it may give a removal up, and ends none.
abbrev pub ends_no_removal : Option OpenPool → Command → Bool
ends_no_removal account cmd.Cancel = true
ends_no_removal account cmd.StepEvac = is_no_end account
ends_no_removal account cmd.StepCondense = true
ends_no_removal account _ = false

-- the lines behind which the trees of the pool's streams stand still: those that work in a group or commit it, and those that write the trees
abbrev pub keeps_trees : Command → Bool
keeps_trees command = is_writing_trees command || is_in_group command

-- The line was done and left the trees standing: it is one of those, or units of a device that is leaving were copied, or its removal was given up.
abbrev pub leaves_trees : Command → Reply → Bool
leaves_trees command answer = keeps_trees command || copies_or_returns command answer

-- no device is gone
abbrev pub all_there : List DevPart → Bool
all_there [] = true
all_there (p ∷ parts) = not (is_gone p.row.state) && all_there parts

-- a pool is open, and no device of it is gone
abbrev pub are_there : Option OpenPool → Bool
are_there None = false
are_there (Some pool) = all_there pool.space.parts.devs

-- no device is gone of the pool that is open, if one is
abbrev pub none_gone : Option OpenPool → Bool
none_gone None = true
none_gone (Some pool) = all_there pool.space.parts.devs

-- Whoever reads a root of the pool is led where it is: no device is gone, or the trees of its streams are told to stand on the disks.
abbrev pub is_readable : Option OpenPool → Bool → Bool
is_readable account trees = none_gone account || trees

-- the lines that write nothing on a disk: the tables, and the steps of discarding and of condensing
abbrev pub is_silent : Command → Bool
is_silent cmd.List = true
is_silent cmd.Status = true
is_silent cmd.Audit = true
is_silent (cmd.Estimate dev) = true
is_silent (cmd.Map index) = true
is_silent cmd.StepDiscard = true
is_silent cmd.StepCondense = true
is_silent _ = false

-- the line was done and committed nothing: it writes nothing, or was a step in the background
abbrev pub commits_nothing : Command → Reply → Bool
commits_nothing command (reply.No r) = false
commits_nothing command answer = is_silent command || is_background command answer

-- The line is told to commit nothing that cannot be read: it works in the group that is open, or commits it, or writes the trees of the streams. Where no device is gone it may be any that ends with a reset, or one of a removal that
-- ends none.
abbrev pub may_commit : Option OpenPool → Bool → Command → Bool
may_commit account trees command = is_readable account trees && (keeps_trees command || (none_gone account && (is_resetting command || ends_no_removal account command)))

-- What a crash shows is told at each moment of the line, by whether the trees of the streams are told to stand there: it writes nothing, or commits nothing that cannot be read.
abbrev pub may_stop : Option OpenPool → Bool → Command → Bool
may_stop account trees command = is_silent command || may_commit account trees command

-- The line stayed in one group: it wrote units of the group that is open, or of the next one behind a commit of that, or is a step of discarding, which did nothing to the disks. The trees of the streams and the copies stand.
abbrev pub StaysTold : List ℕ → Objects → Command → OpenPool → OpenPool → World → World → Type 0
StaysTold sizes objects command old new before now = StaysInOneGroup sizes objects old new before now ⊎ ((command ≡ cmd.StepDiscard) × (IsStill before now × (OpensNoUnit old new × (KeepsTrees old new before now × KeepsCopies before now old new))))

-- How the space of an open pool went through a line on an object: units were taken where a policy places them, or were given back, one after another; where the group was too full, behind its commit.
abbrev pub GoesThrough : Space → Space → Type 0
GoesThrough old new = KeepsOthers Block old new ⊎ ((mid : Space) × EndsGroup false old mid × KeepsOthers Block mid new)

-- whatever an honest crash leaves of these disks shows these objects, if it shows a pool
abbrev pub LeavesOnly : Objects → Disks → Type 0
LeavesOnly objects disks = ShowsOnly objects (stand_of disks)

-- or these or those
abbrev pub LeavesEither : Objects → Objects → Disks → Type 0
LeavesEither before after disks = ShowsEither before after (stand_of disks)

-- the lines that make a pool
abbrev pub is_create : Command → Bool
is_create (cmd.Create name guid devs) = true
is_create (cmd.CreateOld name guid devs) = true
is_create _ = false

-- What the making of a pool wrote, wherever it stopped: nothing, or behind a flush slots were being prepared, or the pool was being committed on them.
abbrev pub StopsInCreate : List ℕ → World → World → Type 0
StopsInCreate sizes before now = FlushesOnly before now ⊎ ((start : World) × (named : List ℕ) × FlushesOnly before start × IsAtRest start.now × MakesBehind sizes named start now)

-- What a line wrote where no pool is open, wherever it stopped: the making of one, going back, or nothing.
abbrev pub StopsInOpening : List ℕ → Command → World → World → Type 0
StopsInOpening sizes (cmd.Create name guid devs) before now = StopsInCreate sizes before now
StopsInOpening sizes (cmd.CreateOld name guid devs) before now = StopsInCreate sizes before now
StopsInOpening sizes cmd.ImportRewind before now = RewindsInPart sizes before now
StopsInOpening sizes (cmd.ImportTxg txg) before now = GoesBackInPart sizes txg before now
StopsInOpening sizes command before now = FlushesOnly before now

-- an honest crash may have left it when the disks stood so, or behind a flush then
abbrev pub IsOfBeginning : Disks → List (List ℕ) → Type 0
IsOfBeginning first image = IsLeft (stand_of first) image ⊎ IsLeft (stand_of (settled first)) image

-- the disks showed a pool with these objects
abbrev pub Showed : Shelf → Objects → Type 0
Showed shelf objects = (p : PoolState) × Shows shelf.paths shelf.disks p × (p.objects ≡ objects)

-- By what the disks showed before it, the line makes a pool, which has no objects, or goes back to one with these objects.
abbrev pub OpensTo : Shelf → Command → Objects → Type 0
OpensTo shelf (cmd.Create name guid devs) objects = objects ≡ map.empty
OpensTo shelf (cmd.CreateOld name guid devs) objects = objects ≡ map.empty
OpensTo shelf cmd.ImportRewind objects = (p : PoolState) × (s : Saved) × Shows shelf.paths shelf.disks p × (p.saved ≡ Some s) × (s.objects ≡ objects)
OpensTo shelf (cmd.ImportTxg txg) objects = (p : PoolState) × ShowsGroup shelf.paths shelf.disks txg p × (p.objects ≡ objects)
OpensTo shelf command objects = ⊥

-- whatever an honest crash leaves of these disks shows these objects, or those that the line opens to, if it shows a pool
abbrev pub LeavesOpened : Shelf → Command → Objects → Disks → Type 0
LeavesOpened shelf command objects disks = (image : List (List ℕ)) → IsLeft (stand_of disks) image → (paths : List (List ℕ)) (p : PoolState) → Shows paths image p → (p.objects ≡ objects) ⊎ OpensTo shelf command p.objects

-- whatever an honest crash leaves of them it may have left at the beginning too, or it shows the objects that the disks showed before the line, or those that the line opens to, if it shows a pool
abbrev pub LeavesBegun : Shelf → Command → Disks → Disks → Type 0
LeavesBegun shelf command first disks =
    (image : List (List ℕ)) → IsLeft (stand_of disks) image → IsOfBeginning first image ⊎ ((paths : List (List ℕ)) (p : PoolState) → Shows paths image p → Showed shelf p.objects ⊎ OpensTo shelf command p.objects)

-- what is refused leaves it as it is whether anything was written
abbrev pub begun_behind : Option Disks → Reply → Option Disks
begun_behind begun (reply.No r) = begun
begun_behind begun answer = None

-- A commit will be known: whoever reads its root will be led where the pool is, and the last one is known, or the disks are told to show the last root.
abbrev pub is_known : DeviceState → Bool
is_known state = is_readable state.account state.trees && (if is_some state.behind then true else state.shown && is_some state.account)

-- the lines that open a pool which is there, as it is or by going back
abbrev pub is_import : Command → Bool
is_import cmd.Import = true
is_import cmd.ImportRewind = true
is_import (cmd.ImportTxg txg) = true
is_import _ = false

abbrev pub is_refusal : Reply → Bool
is_refusal (reply.No r) = true
is_refusal answer = false

-- the answer to the line acknowledges a commit of what was told before it
abbrev pub is_acknowledged : Reply → Command → Bool
is_acknowledged (reply.Synced txg) cmd.Sync = true
is_acknowledged reply.Done cmd.Export = true
is_acknowledged answer command = false

-- The line leaves it told which objects were committed last: it works in the group that is open, does a step in the background, or is refused.
abbrev pub leaves_told : Option OpenPool → Reply → Command → Bool
leaves_told (Some pool) answer command = is_refusal answer || (is_in_group command || is_background command answer)
leaves_told None answer command = is_refusal answer

-- the pool that is told has these objects
abbrev pub TellsOf : ShelfPart → Objects → Type 0
TellsOf part objects = (p : PoolState) × (part ≡ Is p) × (p.objects ≡ objects)

-- Where the objects come from that are told to be committed last, behind a line that was answered and left this told:
pub data ComesFrom (old : DeviceState) (command : Command) (answer : Reply) (told : ShelfPart) (objects : Objects) : Type 0 where
  -- they were so before it, and it acknowledged no commit,
  kept : (p : PoolState) → old.told.shelf ≡ Is p → leaves_told old.account answer command ≡ true → is_acknowledged answer command ≡ false → old.behind ≡ Some objects → ComesFrom old command answer told objects
  -- they were told before it, and it committed them,
  committed : leaves_told old.account answer command ≡ true → TellsOf old.told.shelf objects → ComesFrom old command answer told objects
  -- a line that ended with a reset committed them,
  changed : ends_reset answer command ≡ true → TellsOf old.told.shelf objects → ComesFrom old command answer told objects
  -- a pool was made, which has none,
  made : is_create command ≡ true → answer ≡ reply.Done → objects ≡ map.empty → ComesFrom old command answer told objects
  -- or one was opened, and they are those that are told behind it.
  found : is_import command ≡ true → answer ≡ reply.Done → TellsOf told objects → ComesFrom old command answer told objects

-- Which objects are told to be committed last, behind a line that was answered, and that left this told of the objects and this account.
pub record IsBehindTurn (old : DeviceState) (command : Command) (answer : Reply) (told : ShelfPart) (account : Option OpenPool) (behind : Option Objects) : Type 0 where
  pub from : (objects : Objects) → behind ≡ Some objects → ComesFrom old command answer told objects
  -- of a pool that is made they are told
  pub makes : old.account ≡ None → is_create command ≡ true → answer ≡ reply.Done → are_there account ≡ true → behind ≡ Some map.empty
  -- of a pool that is opened they are those that are told behind it
  pub opens : old.account ≡ None → is_import command ≡ true → answer ≡ reply.Done → (p : PoolState) → told ≡ Is p → behind ≡ Some p.objects
  -- a line that leaves them told does so, where a commit could be read, or it commits nothing
  pub keeps : (p : PoolState) → old.told.shelf ≡ Is p → is_some old.behind ≡ true → (is_readable old.account old.trees || commits_nothing command answer) ≡ true → leaves_told old.account answer command ≡ true → is_some behind ≡ true
  -- behind one that ended with a reset they are those that were told before it, while no device is gone, or the line writes the trees of the streams
  pub resets : (p : PoolState) → old.told.shelf ≡ Is p → is_known old ≡ true → ends_reset answer command ≡ true → (are_there account || (old.trees && is_writing_trees command)) ≡ true → behind ≡ Some p.objects
  -- behind a `sync` and an `export` they are those that were told before it
  pub commits : (p : PoolState) → old.told.shelf ≡ Is p → is_known old ≡ true → is_acknowledged answer command ≡ true → behind ≡ Some p.objects
