-- What the pool on devices says of its answers so far: each is one to its line, and the pool is open where it should be.
use Rattle.std.specs.Prelude.{◌≡◌, ◌⊎◌, ℕ, ◌<◌, ◌≤◌, if◌then◌else◌, Bool, true, false, not, ◌&&◌, ◌||◌, List, length, map, Option, Some, None, IfSome, IsSomeAnd}
use Rattle.zr_base.specs.declared.refusal.Refusal.{Refusal}
use Rattle.zr_base.specs.declared.refusal.Refusal.TheVariants as refusal
use Rattle.zr_script.specs.declared.command.Command.{Command}
use Rattle.zr_script.specs.declared.command.Command.TheVariants as cmd
use Rattle.zr_script.specs.declared.reply.Reply.{Reply}
use Rattle.zr_script.specs.declared.reply.Reply.TheVariants as reply
use Rattle.zr_lines.specs.Sought.{IsDamaged}
use Rattle.zr_open.specs.Opened.{IsImportRefusal}
use Rattle.zr_lines.specs.Answers.{IsNoRoom, IsSumRefusal, IsReadRefusal, IsMakeRefusal, IsDropRefusal}
use Rattle.zr_model.specs.Objects.{Objects}
use Rattle.zr_model.specs.State.{State, PoolState, ShelfPart, Is, Work, no_pool}
use Rattle.zr_model.specs.declared.actor.Actor.{Actor}
use Rattle.zr_model.specs.declared.actor.Actor.TheVariants.{Evac, Discard, Condense}
use Rattle.zr_command.specs.Meanings.{Disks, Meaning}
use Rattle.zr_model.specs.Runs.{Point, Shelf, Turn}
use Rattle.zr_sync.specs.Pools.{IsOpen}
use Rattle.zr_sync.specs.Trees.{HasMetaUnits}
use Rattle.zr_sync.specs.declared.open.OpenPool.{OpenPool}
use Rattle.zr_pool.specs.Accounts.{Turns, Begins, BeginsNone}
use Rattle.zr_pool.specs.Behind.{GoesThrough, IsBehindTurn, LeavesBegun, LeavesEither, LeavesOnly, LeavesOpened, begun_behind, is_commit, is_in_group, leaves_trees, may_stop}
use Rattle.zr_pool.specs.Plain.{IsFoundAgain, IsObjectsTurn, IsRejoined, is_background, is_of_removal}
use Rattle.zr_pool.specs.Pools.{DeviceState, IsUnwritten, is_evacuating, no_device_state, stand_of, HasLiveUnits}
use Rattle.zr_recorded.specs.Crashes.{ShowsPool}
use Rattle.zr_recorded.specs.Service.{IsWhole}
use Rattle.zr_pool.specs.Replies.{TellsFault}

-- the lines on objects
abbrev pub is_on_objects : Command → Bool
is_on_objects (cmd.Make id units) = true
is_on_objects (cmd.Drop id) = true
is_on_objects (cmd.Write id off bytes) = true
is_on_objects (cmd.Fill id off len byte) = true
is_on_objects (cmd.Punch id off len) = true
is_on_objects (cmd.Read id off len) = true
is_on_objects (cmd.Sum id) = true
is_on_objects _ = false

-- the lines on a whole pool that is open
abbrev pub is_on_pool : Command → Bool
is_on_pool cmd.Sync = true
is_on_pool cmd.Export = true
is_on_pool (cmd.Add dev) = true
is_on_pool cmd.Checkpoint = true
is_on_pool cmd.Discard = true
is_on_pool cmd.StepDiscard = true
is_on_pool cmd.Upgrade = true
is_on_pool _ = false

-- the lines that tell how an open pool stands
abbrev pub is_table : Command → Bool
is_table cmd.List = true
is_table cmd.Status = true
is_table cmd.Audit = true
is_table (cmd.Estimate dev) = true
is_table (cmd.Map index) = true
is_table _ = false

-- the lines that make a pool or open one
abbrev pub is_opener : Command → Bool
is_opener (cmd.Create name guid devs) = true
is_opener (cmd.CreateOld name guid devs) = true
is_opener cmd.Import = true
is_opener cmd.ImportRewind = true
is_opener (cmd.ImportTxg txg) = true
is_opener _ = false

-- the lines that are served, which are all but `quit`
abbrev pub IsServed : Command → Type 0
IsServed command = (is_opener command ≡ true) ⊎ ((is_on_objects command ≡ true) ⊎ ((is_on_pool command ≡ true) ⊎ ((is_table command ≡ true) ⊎ (is_of_removal command ≡ true))))

-- there is no room, or no run
abbrev pub IsFull : Refusal → Type 0
IsFull r = IsNoRoom r ⊎ ((needed longest : ℕ) × (r ≡ refusal.NoRun needed longest))

-- what a line that puts bytes may be refused for
abbrev pub IsChangeRefusal : Refusal → Type 0
IsChangeRefusal r = IsReadRefusal r ⊎ IsFull r

-- what an `add` may be refused for: its path is that of no slot, no pool of the version can have a disk of the size, a slot is in the way, or there are 32 devices
abbrev pub IsAddRefusal : Refusal → Type 0
IsAddRefusal refusal.NoSuchDevice = Unit {0}
IsAddRefusal (refusal.DeviceSize size) = Unit {0}
IsAddRefusal (refusal.DeviceInUse slot) = Unit {0}
IsAddRefusal (refusal.TooMany limit) = limit ≡ 32
IsAddRefusal r = ⊥

-- what a checkpoint may be refused for: a device is leaving, there is one, one is being discarded, or there is no room for it
abbrev pub IsCheckpointRefusal : Refusal → Type 0
IsCheckpointRefusal refusal.RemovalInProgress = Unit {0}
IsCheckpointRefusal refusal.CheckpointExists = Unit {0}
IsCheckpointRefusal refusal.DiscardingCheckpoint = Unit {0}
IsCheckpointRefusal (refusal.NoRoom needed free) = free < needed
IsCheckpointRefusal r = ⊥

-- and to give one up: there is none, it is being discarded, or a device is leaving
abbrev pub IsDiscardRefusal : Refusal → Type 0
IsDiscardRefusal refusal.RemovalInProgress = Unit {0}
IsDiscardRefusal refusal.NoCheckpoint = Unit {0}
IsDiscardRefusal refusal.DiscardingCheckpoint = Unit {0}
IsDiscardRefusal r = ⊥

-- to take a device out of service: a checkpoint is held or being discarded, another device is leaving, this one is none, is not in service or is the only one that is, or there is no room
abbrev pub IsRemoveRefusal : Refusal → Type 0
IsRemoveRefusal refusal.CheckpointExists = Unit {0}
IsRemoveRefusal refusal.DiscardingCheckpoint = Unit {0}
IsRemoveRefusal refusal.RemovalInProgress = Unit {0}
IsRemoveRefusal refusal.NoSuchDevice = Unit {0}
IsRemoveRefusal refusal.NotInService = Unit {0}
IsRemoveRefusal refusal.OnlyDevice = Unit {0}
IsRemoveRefusal (refusal.NoRoom needed free) = free < needed
IsRemoveRefusal r = ⊥

-- Whether the disks are told to show the pool behind a line, by whether one was open before it, and they were told so then: they show one that is made or opened, and so they do behind each line.
abbrev pub is_shown : Bool → Bool → Reply → Bool
is_shown is_open shown (reply.No r) = shown
is_shown true shown answer = shown
is_shown false shown answer = true

-- the objects are told
abbrev pub is_told : ShelfPart → Bool
is_told (Is p) = true
is_told part = false

-- Whether the trees of the streams are told to stand on the disks behind a line, by whether a pool was open before it, its objects were told, and they were told so then. They do of a pool that is made or opened.
abbrev pub is_standing : Bool → ShelfPart → Bool → Command → Reply → Bool
is_standing false part trees command (reply.No r) = trees
is_standing false part trees command answer = true
is_standing true part trees command (reply.No r) = trees && is_told part
is_standing true part trees command answer = trees && (is_told part && leaves_trees command answer)

-- Whether the slots are told to show the root of the open pool as the current one behind a line, by whether a pool was open before it, its objects were told, and the slots were told so then: they do behind an `import`
-- that is done, and stay so over each line that works in the group that is open or commits it, over a step in the background, and over a refusal.
abbrev pub is_current : Bool → ShelfPart → Bool → Command → Reply → Bool
is_current false part current command (reply.No r) = false
is_current false part current cmd.Import answer = true
is_current false part current command answer = false
is_current true part current command (reply.No r) = current && is_told part
is_current true part current command answer = current && (is_told part && (is_in_group command || is_background command answer))

-- no device of the pool that is open is leaving
abbrev pub none_leaving : Option OpenPool → Bool
none_leaving None = true
none_leaving (Some pool) = not (is_evacuating pool.space)

-- The line leaves copies the bytes of their units: it works in the group that is open or commits it, adds a device or takes one out of service, is an upgrade or a step in the background, or is refused.
abbrev pub leaves_copies : Command → Reply → Bool
leaves_copies command (reply.No r) = true
leaves_copies (cmd.Remove dev) answer = true
leaves_copies (cmd.Add dev) answer = true
leaves_copies cmd.Upgrade answer = true
leaves_copies command answer = is_in_group command || is_background command answer

-- Whether copies are told to have the bytes of their units behind a line, by whether a pool was open before it, its objects were told, and copies were told so then, and by the account behind it: they are where no device
-- is leaving, and stay so over those lines.
abbrev pub is_copied : Bool → ShelfPart → Bool → Command → Reply → Option OpenPool → Bool
is_copied is_open part copies command answer account = none_leaving account || (is_open && (copies && (is_told part && leaves_copies command answer)))

-- Whether an import is told to find what was committed last behind a line, by the account, and by whether the trees, the slots and a commit were told so before it: a commit is found where the trees of the streams stand and
-- the slots show the last root, and it stays so over tables, and where the trees stand over lines on objects and refusals, which may commit. Behind other lines it is not told until the next commit.
abbrev pub is_found : Option OpenPool → Bool → Bool → Bool → Command → Reply → Bool
is_found None trees current found command answer = false
is_found (Some pool) trees current found command (reply.No r) = trees && found
is_found (Some pool) trees current found command answer = (is_table command && found) || ((is_on_objects command && (trees && found)) || (is_commit command && (trees && current)))

-- what a line to an open pool may be refused for
abbrev pub IsOpenRefusal : Command → Refusal → Type 0
IsOpenRefusal (cmd.Create name guid devs) r = r ≡ refusal.PoolIsOpen
IsOpenRefusal (cmd.CreateOld name guid devs) r = r ≡ refusal.PoolIsOpen
IsOpenRefusal cmd.Import r = r ≡ refusal.PoolIsOpen
IsOpenRefusal cmd.ImportRewind r = r ≡ refusal.PoolIsOpen
IsOpenRefusal (cmd.ImportTxg txg) r = r ≡ refusal.PoolIsOpen
IsOpenRefusal (cmd.Make id units) r = IsMakeRefusal r
IsOpenRefusal (cmd.Drop id) r = IsDropRefusal r
IsOpenRefusal (cmd.Write id off bytes) r = IsChangeRefusal r
IsOpenRefusal (cmd.Fill id off len byte) r = IsChangeRefusal r
IsOpenRefusal (cmd.Punch id off len) r = IsChangeRefusal r
IsOpenRefusal (cmd.Read id off len) r = IsReadRefusal r
IsOpenRefusal (cmd.Sum id) r = IsSumRefusal r
IsOpenRefusal (cmd.Add dev) r = IsAddRefusal r
IsOpenRefusal cmd.Audit r = IsDamaged r
IsOpenRefusal cmd.Checkpoint r = IsCheckpointRefusal r
IsOpenRefusal cmd.Discard r = IsDiscardRefusal r
IsOpenRefusal cmd.StepDiscard r = r ≡ refusal.NothingToDo
IsOpenRefusal cmd.Upgrade r = r ≡ refusal.NothingToDo
IsOpenRefusal (cmd.Remove dev) r = IsRemoveRefusal r
IsOpenRefusal (cmd.Estimate dev) r = IsRemoveRefusal r
IsOpenRefusal cmd.Cancel r = r ≡ refusal.NoRemoval
IsOpenRefusal cmd.StepEvac r = r ≡ refusal.NothingToDo
IsOpenRefusal cmd.StepCondense r = r ≡ refusal.NothingToDo
IsOpenRefusal (cmd.Map index) r = r ≡ refusal.NoSuchDevice
IsOpenRefusal _ r = ⊥

-- what a line to an open pool is answered when it is done
abbrev pub IsOpenAnswer : Command → Reply → Type 0
IsOpenAnswer command (reply.No r) = IsOpenRefusal command r
IsOpenAnswer (cmd.Make id units) reply.Done = Unit {0}
IsOpenAnswer (cmd.Drop id) reply.Done = Unit {0}
IsOpenAnswer (cmd.Write id off bytes) reply.Done = Unit {0}
IsOpenAnswer (cmd.Fill id off len byte) reply.Done = Unit {0}
IsOpenAnswer (cmd.Punch id off len) reply.Done = Unit {0}
IsOpenAnswer (cmd.Read id off len) (reply.Data bytes) = length bytes ≡ len
IsOpenAnswer (cmd.Sum id) (reply.Sum sum) = Unit {0}
IsOpenAnswer cmd.Sync (reply.Synced txg) = Unit {0}
IsOpenAnswer cmd.Export reply.Done = Unit {0}
IsOpenAnswer (cmd.Add dev) reply.Done = Unit {0}
IsOpenAnswer cmd.List (reply.List lines) = Unit {0}
IsOpenAnswer cmd.Status (reply.Status lines) = Unit {0}
IsOpenAnswer cmd.Audit (reply.Audit lines) = Unit {0}
IsOpenAnswer cmd.Checkpoint reply.Done = Unit {0}
IsOpenAnswer cmd.Discard reply.Done = Unit {0}
IsOpenAnswer cmd.Upgrade reply.Done = Unit {0}
IsOpenAnswer cmd.StepDiscard (reply.Freed units) = 0 < units
IsOpenAnswer cmd.StepDiscard reply.Ended = Unit {0}
IsOpenAnswer (cmd.Remove dev) reply.Done = Unit {0}
IsOpenAnswer (cmd.Estimate dev) (reply.Estimate n) = Unit {0}
IsOpenAnswer cmd.Cancel (reply.Cancelled i) = Unit {0}
IsOpenAnswer cmd.StepEvac (reply.Copied n) = (1 ≤ n) × (n ≤ 256)
IsOpenAnswer cmd.StepEvac (reply.Gone i) = Unit {0}
IsOpenAnswer cmd.StepEvac (reply.Cancelled i) = Unit {0}
IsOpenAnswer cmd.StepCondense (reply.Kept n) = Unit {0}
IsOpenAnswer cmd.StepCondense reply.Ended = Unit {0}
IsOpenAnswer (cmd.Map index) (reply.Map lines) = Unit {0}
IsOpenAnswer _ _ = ⊥

-- what a line is refused for while no pool is open
abbrev pub IsClosedRefusal : Command → Refusal → Type 0
IsClosedRefusal (cmd.Create name guid devs) r = Unit {0}
IsClosedRefusal (cmd.CreateOld name guid devs) r = Unit {0}
IsClosedRefusal cmd.Import r = IsImportRefusal r
IsClosedRefusal cmd.ImportRewind r = IsImportRefusal r ⊎ (r ≡ refusal.NoCheckpoint)
IsClosedRefusal (cmd.ImportTxg txg) r = IsImportRefusal r ⊎ ((oldest : ℕ) × (r ≡ refusal.GroupNotKept oldest))
IsClosedRefusal _ r = r ≡ refusal.NoPoolOpen

abbrev pub IsClosedAnswer : Command → Reply → Type 0
IsClosedAnswer command (reply.No r) = IsClosedRefusal command r
IsClosedAnswer command reply.Done = is_opener command ≡ true
IsClosedAnswer _ _ = ⊥

-- whether a pool is open after a line to one that is
abbrev pub stays_open : Command → Reply → Bool
stays_open cmd.Export reply.Done = false
stays_open _ _ = true

-- whether one is open after a line where none was
abbrev pub is_opened : Reply → Bool
is_opened reply.Done = true
is_opened _ = false

-- the answer is one to the line, and the pool is open after it where it should be
abbrev pub IsTurn : Bool → Command → Reply → Bool → Type 0
IsTurn true command answer after = IsOpenAnswer command answer × (after ≡ stays_open command answer)
IsTurn false command answer after = IsClosedAnswer command answer × (after ≡ is_opened answer)

-- the actor has work on the devices of an open pool
abbrev pub works_on : Bool → Work → Actor → Bool
works_on true work Evac = work.evac
works_on true work Discard = work.discard
works_on true work Condense = work.condense
works_on false work actor = false

-- What commands mean to the objects that are told, by whether copies are told to have the bytes of their units: each answer is one to its line, the pool is open where it should be, and the objects are those of a pool of
-- plain objects. Of damage that ends a run nothing is said yet.
abbrev pub on_objects_told : Bool → Meaning
on_objects_told copies = record {
  State = State;
  none = λ disks. no_pool;
  takes = λ p t. IsTurn p.state.is_open t.command t.answer t.point.state.is_open × IsObjectsTurn copies p.state.is_open p.state.shelf p.shelf p.state t.command t.answer t.point.state;
  serves = λ paths state command. IsServed command;
  damages = λ p command found. Unit {0};
  blames = TellsFault;
  works = λ state actor. works_on state.is_open state.work actor;
  rests = λ p disks. Unit {0};
  within = λ p command disks. Unit {0};
}

-- how many bytes each disk has
abbrev pub sizes_of : List (List ℕ) → List ℕ
sizes_of disks = map length disks

-- What a line makes of the account, and why it is refused: of a pool that is open, and where none is.
abbrev pub IsAccountTurn : Shelf → Option OpenPool → Command → Reply → Shelf → Option OpenPool → Type 0
IsAccountTurn shelf (Some old) command answer after new =
    (left : OpenPool) × Turns shelf.paths (sizes_of shelf.disks) shelf.disks old command answer after.disks left × (new ≡ (if stays_open command answer then Some left else None))
IsAccountTurn shelf None command (reply.No r) after new = (new ≡ None) × BeginsNone shelf.paths (sizes_of shelf.disks) shelf.disks command r
IsAccountTurn shelf None command answer after new = IsSomeAnd new (Begins shelf.paths (sizes_of shelf.disks) shelf.disks command)

-- the point, as far as its objects are told
abbrev pub told_point : Point DeviceState → Point State
told_point p = record { shelf = p.shelf; state = p.state.told }

abbrev pub told_turn : Turn DeviceState → Turn State
told_turn t = record { command = t.command; answer = t.answer; point = told_point t.point }

-- Where the objects of an open pool are told, a line on one of them takes its space through placements and frees alone, and a commit between where the group was too full.
abbrev pub SpaceTurn : DeviceState → Command → Option OpenPool → Type 0
SpaceTurn before command after = (x : OpenPool) (q : PoolState) → before.account ≡ Some x → before.told.shelf ≡ Is q → is_on_objects command ≡ true → IfSome after (λ y. GoesThrough x.space y.space)

-- One line to the pool on devices: what it makes of the objects and of the account, which is that of a lawful pool on these disks, whether the disks are told to show it and to have the trees of its streams, which objects
-- are told to be committed last, whether nothing was written yet, whether the slots show its root and an import finds what was committed last, and whether copies have the bytes of their units. An import finds the objects that were left there, where no device is removed, or the trees of the streams were told to stand.
pub record IsDeviceTurn (p : Point DeviceState) (t : Turn DeviceState) : Type 0 where
  pub objects : (on_objects_told p.state.copies).takes (told_point p) (told_turn t)
  pub account : IsAccountTurn p.shelf p.state.account t.command t.answer t.point.shelf t.point.state.account
  pub spaces : SpaceTurn p.state t.command t.point.state.account
  pub lawful : IfSome t.point.state.account (IsOpen (sizes_of t.point.shelf.disks))
  pub shown : t.point.state.shown ≡ is_shown p.state.told.is_open p.state.shown t.answer
  pub trees : t.point.state.trees ≡ is_standing p.state.told.is_open p.state.told.shelf p.state.trees t.command t.answer
  pub behind : IsBehindTurn p.state t.command t.answer t.point.state.told.shelf t.point.state.account t.point.state.behind
  pub begun : t.point.state.begun ≡ begun_behind p.state.begun t.answer
  pub current : t.point.state.current ≡ is_current p.state.told.is_open p.state.told.shelf p.state.current t.command t.answer
  pub found : t.point.state.found ≡ is_found p.state.account p.state.trees p.state.current p.state.found t.command t.answer
  pub copies : t.point.state.copies ≡ is_copied p.state.told.is_open p.state.told.shelf p.state.copies t.command t.answer t.point.state.account
  pub rejoined : p.state.shown ≡ true → t.command ≡ cmd.Import → t.answer ≡ reply.Done → IsRejoined p.state.told.shelf t.point.state.told.shelf
  pub found_again : p.state.shown ≡ true → p.state.trees ≡ true → t.command ≡ cmd.Import → t.answer ≡ reply.Done → IsFoundAgain p.state.told.shelf t.point.state.told.shelf

-- How the disks may stand between two lines: they read as behind the last, whatever an honest crash shows are the objects that were committed last, and where nothing was written yet they stand as at the beginning.
-- Where an import is told to find what was committed last, each device is in service and no root is saved, whatever a crash leaves shows a pool with these objects. Where the objects of the open pool are told, its live units
-- are those to which their blocks and the directory's lead, each once; where the trees of its streams are, the metadata of its current root is theirs.
pub record RestsOn (p : Point DeviceState) (disks : Disks) : Type 0 where
  pub reads : disks.seen ≡ p.shelf.disks
  pub shows : (objects : Objects) → p.state.behind ≡ Some objects → LeavesOnly objects disks
  pub unwritten : (first : Disks) → p.state.begun ≡ Some first → IsUnwritten first disks
  pub finds : p.state.found ≡ true → IfSome p.state.account (λ x. IsWhole x → x.saved ≡ None → (objects : Objects) → p.state.behind ≡ Some objects → (paths : List (List ℕ)) → ShowsPool paths objects (stand_of disks))
  pub units : IfSome p.state.account (λ x. (q : PoolState) → p.state.told.shelf ≡ Is q → HasLiveUnits disks.seen x)
  pub metadata : p.state.trees ≡ true → IfSome p.state.account (HasMetaUnits disks.seen)

-- How the disks may stand at a moment of a line: while one tells how an open pool stands, they read as before it. Whatever an honest crash shows are the objects that were committed last, or those from before
-- the line, which it commits. Where no pool is open they are the former, or those that the line opens to; and where nothing was written yet, it is what a crash would have left at the beginning, or what is shown has the objects that were shown before the line, or those that it opens to.
pub record IsWithin (p : Point DeviceState) (command : Command) (disks : Disks) : Type 0 where
  pub tables : IfSome p.state.account (λ pool. is_table command ≡ true → disks.seen ≡ p.shelf.disks)
  pub shows : (objects : Objects) (q : PoolState) → p.state.behind ≡ Some objects → p.state.told.shelf ≡ Is q → may_stop p.state.account p.state.trees command ≡ true → LeavesEither objects q.objects disks
  pub opens : (objects : Objects) → p.state.account ≡ None → p.state.behind ≡ Some objects → LeavesOpened p.shelf command objects disks
  pub begins : (first : Disks) → p.state.begun ≡ Some first → LeavesBegun p.shelf command first disks

-- What commands mean to the pool on devices.
abbrev pub on_devices : Meaning
on_devices = record {
  State = DeviceState;
  none = no_device_state;
  takes = IsDeviceTurn;
  serves = λ paths state command. IsServed command;
  damages = λ p command found. Unit {0};
  blames = TellsFault;
  works = λ state actor. works_on state.told.is_open state.told.work actor;
  rests = RestsOn;
  within = IsWithin;
}
