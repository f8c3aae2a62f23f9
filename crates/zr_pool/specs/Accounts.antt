-- What a line makes of the account: of what an open pool holds beside its disks. Each answer to a line is tied to the account before it and behind it,
-- and each refusal has its cause in the account, or in what the slots show.
use Rattle.std.specs.Prelude.{◌≡◌, ◌⊎◌, ℕ, ◌+◌, ◌*◌, ◌<◌, ◌≤◌, Bool, true, false, List, [], length, map, Ok, Err, Some, None, IfSome}
use Rattle.zr_audit.specs.Found.{allocated_units}
use Rattle.zr_base.specs.declared.refusal.Refusal.{Refusal}
use Rattle.zr_base.specs.declared.refusal.Refusal.TheVariants as refusal
use Rattle.zr_base.specs.declared.space.CkptPart.TheVariants.{Clear, Held, Discarding}
use Rattle.zr_base.specs.declared.space.Condensed.{Condensed}
use Rattle.zr_base.specs.declared.space.Dva.{Dva}
use Rattle.zr_base.specs.declared.space.Policy.{Policy}
use Rattle.zr_bptr.specs.declared.Bptr.{Bptr}
use Rattle.zr_bptr.specs.declared.ObjRec.{ObjRec}
use Rattle.zr_change.specs.Edits.{IsPart}
use Rattle.zr_change.specs.declared.ranges.Edit.{Edit}
use Rattle.zr_create.specs.Blank.{IsNamed, IsResetAt, NothingWaits}
use Rattle.zr_create.specs.Devices.{Grows, HasDevicesIn}
use Rattle.zr_create.specs.Names.{AreSlotsOf, IsSlotMissing, slot_named}
use Rattle.zr_create.specs.Refusals.{ChecksNew, ChecksNext}
use Rattle.zr_label.specs.Blocks as blocks
use Rattle.zr_label.specs.declared.root.Name.{Name}
use Rattle.zr_last.specs.Last.{KeepsRoot}
use Rattle.zr_lines.specs.Causes.{IsLookRefusal, IsUndone}
use Rattle.zr_lines.specs.Changes.{IsDone}
use Rattle.zr_lines.specs.Damage.{FindsDamage, IsDamageOf, IsRecordDamage}
use Rattle.zr_lines.specs.Drops.{AreFoundIn, IsFoundToDrop}
use Rattle.zr_lines.specs.Groups.{IsReadyGroup, SetsInGroup, blank}
use Rattle.zr_lines.specs.Intents.{IsBehindCommit, IsFound}
use Rattle.zr_lines.specs.Refusals as kept
use Rattle.zr_lines.specs.Room.{LacksRoom, room_for_group, room_to_drop, room_to_make}
use Rattle.zr_lines.specs.Sought.{IsDamaged}
use Rattle.zr_lines.specs.Upgrades.{IsUpgradeRefusal, Upgrades}
use Rattle.zr_lines.specs.declared.range.Reach.{Reach}
use Rattle.zr_lines.specs.declared.range.Reach.TheVariants as reach
use Rattle.zr_lookup.specs.Objects.{IsTouched}
use Rattle.zr_open.specs.Opened.{CoversOwed}
use Rattle.zr_removal.specs.Condensing.{CondensesPool}
use Rattle.zr_removal.specs.Devices.{HasOther, IsDeviceOn, IsOnlyOne, copy_pieces}
use Rattle.zr_removal.specs.Refusals.{HasNoRemoval, IsCancelRefusal, IsCondenseRefusal, IsMayRefusal, IsRemoveRefusal, IsStepRefusal, free_beside, removal_needs}
use Rattle.zr_removal.specs.Turns.{BeginsRemoval, CancelsRemoval, EndsRemoval}
use Rattle.zr_removal.specs.declared.evacuate.Evacuated.{Evacuated}
use Rattle.zr_removal.specs.declared.evacuate.Evacuated.TheVariants.{Copied, Gone, Cancelled}
use Rattle.zr_rules.specs.Columns.{free_units}
use Rattle.zr_rules.specs.Places.{is_leaving, part_of, state_of_dev}
use Rattle.zr_rules.specs.Steps.{DiscardsSome, has_condensing}
use Rattle.zr_script.specs.declared.command.Command.{Command}
use Rattle.zr_script.specs.declared.command.Command.TheVariants as cmd
use Rattle.zr_script.specs.declared.reply.AuditLine.{AuditLine}
use Rattle.zr_script.specs.declared.reply.Reply.{Reply}
use Rattle.zr_script.specs.declared.reply.Reply.TheVariants as reply
use Rattle.zr_shelf.specs.Moments.{World}
use Rattle.zr_space.specs.Plans.{IsCopied}
use Rattle.zr_store.specs.Store.{Stored}
use Rattle.zr_sync.specs.Checkpoints.{GivesUpCheckpoint, TakesCheckpoint}
use Rattle.zr_sync.specs.Commits.{EndsGroup, IsNextRoot}
use Rattle.zr_sync.specs.Holds.{HasBlocks}
use Rattle.zr_sync.specs.Pools.{IsSamePool}
use Rattle.zr_sync.specs.declared.open.OpenPool.{OpenPool}
use Rattle.zr_tables.specs.Audits.{concrete}
use Rattle.zr_tables.specs.Tables.{IsStatus, list_lines, map_lines}
use Rattle.zr_txg.specs.Changes.{changes_in}
use Rattle.zr_vdev.specs.Copies.{CopiesUnits}
use Rattle.zr_vdev.specs.Stores.{KeepsOthers}
use Rattle.zr_vdev.specs.declared.kind.Kind.TheVariants.{Block}
use Rattle.zr_pool.specs.Replies.{condense_reply, evac_reply, step_reply}

-- something that a call left of a shelf is so of one that reads like these disks
abbrev pub Leaves : (World → Type 0) → List (List ℕ) → Type 0
Leaves P disks = (now : World) × (now.now.seen ≡ disks) × P now

-- ---- lines on objects

-- the line changes bytes from an offset on
abbrev pub IsOver : ℕ → ℕ → Edit → Type 0
IsOver off len e = (e.off ≡ off) × (e.len ≡ len)

-- Bytes were put, with the room that they need: what was planned for each block is recorded in the group, and nothing else.
abbrev pub PutsBytes : Reach → ℕ → ℕ → ℕ → List (List ℕ) → List (List ℕ) → OpenPool → OpenPool → Type 0
PutsBytes reach id off len disks after old new = (e : Edit) × IsOver off len e × IsDone (Unit {0}) reach id e old disks (Unit {0}) after new × IsSamePool old new

-- None were, for the object, for its range or for a damaged block; or more units are needed for what is planned than are free, both as they are told; or no run is as long as a block. The group is
-- as it was, or what a commit left, where it was too full. A damaged block is one of the directory, of the object's tree, or of those that the line changes in part.
pub record PutsNone (reach : Reach) (id off len : ℕ) (disks : List (List ℕ)) (old : OpenPool) (r : Refusal) (new : OpenPool) : Type 0 where
  pub edit : Edit
  pub over : IsOver off len edit
  pub why : IsLookRefusal r ⊎ IsUndone (Unit {0}) reach id edit old disks new r
  pub damage : (at : Dva) (expected found : List ℕ) → r ≡ refusal.Damaged at expected found → FindsDamage (Unit {0}) (IsFound reach id edit old disks) id (λ o. IsPart o.units edit) old disks at expected found
  pub kept : (new.group ≡ old.group) ⊎ IsBehindCommit reach id edit old new
  pub same : IsSamePool old new

-- the group has an object more, which has no block yet, and there is room for the group
pub record MakesObject (id units : ℕ) (old new : OpenPool) : Type 0 where
  pub sets : SetsInGroup id (Some (blank units)) old.group new.group
  pub none : changes_in new.group id ≡ []
  pub room : room_for_group new.space new.group ≤ free_units new.space
  pub same : IsSamePool old new

-- none was made; for want of room only where what it needs is more than is free, both as they are told; for damage only where a block of the directory has it, as the disks have that
pub record MakesNone (id : ℕ) (disks : List (List ℕ)) (old : OpenPool) (r : Refusal) (new : OpenPool) : Type 0 where
  pub lacks : (needed free : ℕ) → r ≡ refusal.NoRoom needed free → LacksRoom new.space (room_to_make new.space new.group id) needed free
  pub damage : (at : Dva) (expected found : List ℕ) → r ≡ refusal.Damaged at expected found → (s : Stored) → HasBlocks (Unit {0}) disks old s → IsRecordDamage s old.dir id at expected found
  pub ready : IsReadyGroup id old.group new.group
  pub same : IsSamePool old new

-- the group has the object no more
pub record DropsObject (id : ℕ) (old new : OpenPool) : Type 0 where
  pub sets : SetsInGroup id None old.group new.group
  pub same : IsSamePool old new

-- none was dropped; for want of room only where what a free of its blocks needs is more than is free; for damage only where a block of the directory or of the object's tree has it
pub record DropsNone (id : ℕ) (disks : List (List ℕ)) (old : OpenPool) (r : Refusal) (new : OpenPool) : Type 0 where
  pub lacks : (needed free : ℕ) → r ≡ refusal.NoRoom needed free
      → (found : List Bptr) × AreFoundIn (Unit {0}) disks old id found × LacksRoom new.space (room_to_drop new.space new.group id found) needed free
  pub damage : (at : Dva) (expected found : List ℕ) → r ≡ refusal.Damaged at expected found → FindsDamage (Unit {0}) (IsFoundToDrop id old disks) id (λ o index. ⊥) old disks at expected found
  pub ready : IsReadyGroup id old.group new.group
  pub same : IsSamePool old new

-- a line that reads leaves the group and all but what the store of blocks may change
pub record OnlyReads (old new : OpenPool) : Type 0 where
  pub group : new.group ≡ old.group
  pub rest : new ≡ record old { space = new.space; cache = new.cache; group = new.group }
  pub space : KeepsOthers Block old.space new.space

-- A refusal for damage tells of a block of the directory, of the object, or of those that the line needs of it, as the disks have them.
abbrev pub HasDamage : List (List ℕ) → OpenPool → ℕ → (ObjRec → ℕ → Type 0) → Refusal → Type 0
HasDamage disks old id Needs r =
    (at : Dva) (expected found : List ℕ) → r ≡ refusal.Damaged at expected found → (s : Stored) → HasBlocks (Unit {0}) disks old s → IsDamageOf s old.dir old.group id Needs at expected found

-- ---- lines on the pool

-- The open group ended with a commit of what it had, and the next is open and has changed nothing.
pub record EndsWith (reset : Bool) (old new : OpenPool) : Type 0 where
  pub root : IfSome new.last (IsNextRoot old reset)
  pub ends : EndsGroup reset old.space new.space
  pub same : IsSamePool old new
  pub saved : new.saved ≡ old.saved
  pub empty : new.group.objects ≡ []
  pub txg : new.group.txg ≡ old.group.txg + 1

-- the pool has the disk of this slot as its next device, behind a reset
pub record GrowsBy (sizes : List ℕ) (disks : List (List ℕ)) (slot : ℕ) (old new : OpenPool) : Type 0 where
  pub allowed : ChecksNext sizes (Unit {0}) disks old slot (Ok tt)
  pub grown : Grows sizes slot old new
  pub txg : new.group.txg ≡ old.group.txg + 2
  pub empty : new.group.objects ≡ []
  pub root : IsResetAt (old.group.txg + 1) new.last
  pub settled : NothingWaits new.space

-- a path is that of no slot, or what the slots show is in the way
abbrev pub IsAddCause : List (List ℕ) → List ℕ → List (List ℕ) → OpenPool → List ℕ → Refusal → Type 0
IsAddCause paths sizes disks old dev r =
    ((r ≡ refusal.NoSuchDevice) × (slot_named paths dev ≡ None)) ⊎ ((slot : ℕ) × (slot_named paths dev ≡ Some slot) × ChecksNext sizes (Unit {0}) disks old slot (Err r))

-- a walk answers for each device that is there, and tells how many units of it are allocated
pub record AuditsPool (lines : List AuditLine) (old new : OpenPool) : Type 0 where
  pub indices : map (λ (l : AuditLine). l.index) lines ≡ concrete old.space
  pub allocated : map (λ (l : AuditLine). l.allocated) lines ≡ map (allocated_units old.space) (concrete old.space)
  pub rest : new ≡ record old { cache = new.cache }

-- ---- lines on a checkpoint

pub record HoldsRoot (sizes : List ℕ) (after : List (List ℕ)) (old new : OpenPool) : Type 0 where
  pub enough : kept.checkpoint_needs old ≤ free_units old.space
  pub remain : kept.AllStay old.space
  pub held : new.space.parts.ckpt ≡ Held old.group.txg
  pub takes : Leaves (λ now. TakesCheckpoint sizes (Unit {0}) now old new) after

pub record GivesRoot (sizes : List ℕ) (after : List (List ℕ)) (old new : OpenPool) : Type 0 where
  pub discarding : new.space.parts.ckpt ≡ Discarding
  pub gives : Leaves (λ now. GivesUpCheckpoint sizes (Unit {0}) now old new) after

-- the lowest of what was kept is given back, and where none was the discarding is done
pub record GivesKept (units : ℕ) (old new : OpenPool) : Type 0 where
  pub was : old.space.parts.ckpt ≡ Discarding
  pub root : KeepsRoot old new
  pub steps : DiscardsSome old.space units new.space

-- ---- lines of a removal

-- no checkpoint is held or being discarded, and no device is leaving
pub record MayRemove (old : OpenPool) : Type 0 where
  pub clear : old.space.parts.ckpt ≡ Clear
  pub alone : HasNoRemoval old.space

-- the device in service that the line names, on a pool from which one may be taken, which is not the only one
pub record IsRemovable (paths : List (List ℕ)) (old : OpenPool) (dev : List ℕ) (d : ℕ) : Type 0 where
  pub may : MayRemove old
  pub slot : ℕ
  pub named : slot_named paths dev ≡ Some slot
  pub on : IsDeviceOn old slot d
  pub other : HasOther old.space d

-- The line names no device of the pool that is in service, or is refused for the one that it names.
abbrev pub IsNamedCause : List (List ℕ) → OpenPool → List ℕ → (ℕ → Refusal → Type 0) → Refusal → Type 0
IsNamedCause paths old dev Own r =
    ((r ≡ refusal.NoSuchDevice) × (slot_named paths dev ≡ None))
    ⊎ ((slot : ℕ) × (slot_named paths dev ≡ Some slot) × (((r ≡ refusal.NotInService) × ((d : ℕ) → IsDeviceOn old slot d → ⊥)) ⊎ ((d : ℕ) × IsDeviceOn old slot d × Own d r)))

-- a checkpoint comes before another removal, that before the device, and that before what it is refused for
abbrev pub IsRemovalCause : List (List ℕ) → OpenPool → List ℕ → (ℕ → Refusal → Type 0) → Refusal → Type 0
IsRemovalCause paths old dev Own r = IsMayRefusal old.space old.space.parts.ckpt r ⊎ (MayRemove old × IsNamedCause paths old dev Own r)

-- the device is leaving behind a reset, and the others had room for what that needs
pub record TakesAway (paths : List (List ℕ)) (sizes : List ℕ) (after : List (List ℕ)) (dev : List ℕ) (old new : OpenPool) : Type 0 where
  pub device : ℕ
  pub removable : IsRemovable paths old dev device
  pub enough : removal_needs old device ≤ free_beside old.space device
  pub begins : Leaves (λ now. BeginsRemoval sizes (Unit {0}) now old new device) after

-- the device was leaving, and is in service again behind a reset
pub record PutsBack (sizes : List ℕ) (after : List (List ℕ)) (old new : OpenPool) (d : ℕ) : Type 0 where
  pub leaving : is_leaving (state_of_dev old.space.parts.devs d) ≡ true
  pub tried : OpenPool
  pub same : tried ≡ record old { cache = tried.cache }
  pub cancels : Leaves (λ now. CancelsRemoval sizes (Unit {0}) now tried new d) after

-- nothing was left to copy of the device that was leaving, and it is gone behind a reset
pub record LetsGo (sizes : List ℕ) (after : List (List ℕ)) (old new : OpenPool) (d : ℕ) : Type 0 where
  pub leaving : is_leaving (state_of_dev old.space.parts.devs d) ≡ true
  pub copied : IsCopied old.space
  pub tried : OpenPool
  pub same : tried ≡ record old { cache = tried.cache }
  pub ends : Leaves (λ now. EndsRemoval sizes (Unit {0}) now tried new d) after

-- units were copied by some policy, and the disks have their bytes
abbrev pub CopiesSome : List (List ℕ) → List (List ℕ) → OpenPool → OpenPool → ℕ → Type 0
CopiesSome disks after old new n =
    (policy : Policy) × (before : World) × (before.now.seen ≡ disks) × Leaves (λ now. CopiesUnits policy old.table.slots (Unit {0}) before now old.space new.space n) after

-- a step copied units, ended the removal, or gave it up
abbrev pub Evacuates : List ℕ → List (List ℕ) → List (List ℕ) → OpenPool → OpenPool → Evacuated → Type 0
Evacuates sizes disks after old new (Copied n) = CopiesSome disks after old new n
Evacuates sizes disks after old new (Gone d) = LetsGo sizes after old new d
Evacuates sizes disks after old new (Cancelled d) = PutsBack sizes after old new d

pub record Condenses (outcome : Condensed) (old new : OpenPool) : Type 0 where
  pub due : has_condensing old.space ≡ true
  pub condenses : CondensesPool old new outcome

-- ---- any line to an open pool

-- what a line that is refused leaves, and why it is: all is as before but the group and the cache of a line on objects
abbrev pub Refuses : List (List ℕ) → List ℕ → List (List ℕ) → OpenPool → Command → Refusal → OpenPool → Type 0
Refuses paths sizes disks old (cmd.Make id units) r new = MakesNone id disks old r new
Refuses paths sizes disks old (cmd.Drop id) r new = DropsNone id disks old r new
Refuses paths sizes disks old (cmd.Write id off bytes) r new = PutsNone reach.Write id off (length bytes) disks old r new
Refuses paths sizes disks old (cmd.Fill id off len byte) r new = PutsNone reach.Fill id off len disks old r new
Refuses paths sizes disks old (cmd.Punch id off len) r new = PutsNone reach.Punch id off len disks old r new
Refuses paths sizes disks old (cmd.Read id off len) r new = OnlyReads old new × HasDamage disks old id (λ o. IsTouched o.units off len) r
Refuses paths sizes disks old (cmd.Sum id) r new = OnlyReads old new × HasDamage disks old id (λ o index. Unit {0}) r
Refuses paths sizes disks old cmd.Audit r new = IsDamaged r × (new ≡ record old { cache = new.cache })
Refuses paths sizes disks old (cmd.Add dev) r new = (new ≡ old) × IsAddCause paths sizes disks old dev r
Refuses paths sizes disks old cmd.Checkpoint r new = (new ≡ old) × kept.IsTakeRefusal old old.space.parts.ckpt r
Refuses paths sizes disks old cmd.Discard r new = (new ≡ old) × kept.IsGiveRefusal old old.space.parts.ckpt r
Refuses paths sizes disks old cmd.StepDiscard r new = (new ≡ old) × kept.IsStepRefusal old.space.parts.ckpt r
Refuses paths sizes disks old cmd.Upgrade r new = (new ≡ old) × IsUpgradeRefusal old.version r
Refuses paths sizes disks old (cmd.Remove dev) r new = (new ≡ old) × IsRemovalCause paths old dev (IsRemoveRefusal old) r
Refuses paths sizes disks old (cmd.Estimate dev) r new = (new ≡ old) × IsRemovalCause paths old dev (λ d why. (why ≡ refusal.OnlyDevice) × IsOnlyOne old.space d) r
Refuses paths sizes disks old cmd.Cancel r new = (new ≡ old) × IsCancelRefusal old.space r
Refuses paths sizes disks old cmd.StepEvac r new = (new ≡ old) × IsStepRefusal old.space r
Refuses paths sizes disks old cmd.StepCondense r new = (new ≡ old) × IsCondenseRefusal old.space r
Refuses paths sizes disks old (cmd.Map index) r new = (new ≡ old) × (r ≡ refusal.NoSuchDevice) × (length old.space.parts.devs ≤ index)
Refuses paths sizes disks old command r new = new ≡ old

-- One line to an open pool: `disks` read before it and `after` behind it.
abbrev pub Turns : List (List ℕ) → List ℕ → List (List ℕ) → OpenPool → Command → Reply → List (List ℕ) → OpenPool → Type 0
Turns paths sizes disks old command (reply.No r) after new = Refuses paths sizes disks old command r new
Turns paths sizes disks old (cmd.Make id units) answer after new = MakesObject id units old new
Turns paths sizes disks old (cmd.Drop id) answer after new = DropsObject id old new
Turns paths sizes disks old (cmd.Write id off bytes) answer after new = PutsBytes reach.Write id off (length bytes) disks after old new
Turns paths sizes disks old (cmd.Fill id off len byte) answer after new = PutsBytes reach.Fill id off len disks after old new
Turns paths sizes disks old (cmd.Punch id off len) answer after new = PutsBytes reach.Punch id off len disks after old new
Turns paths sizes disks old (cmd.Read id off len) answer after new = OnlyReads old new
Turns paths sizes disks old (cmd.Sum id) answer after new = OnlyReads old new
Turns paths sizes disks old cmd.Sync answer after new = (answer ≡ reply.Synced old.group.txg) × EndsWith false old new
Turns paths sizes disks old cmd.Export answer after new = EndsWith false old new
Turns paths sizes disks old (cmd.Add dev) answer after new = (slot : ℕ) × (slot_named paths dev ≡ Some slot) × GrowsBy sizes disks slot old new
Turns paths sizes disks old cmd.List answer after new = (answer ≡ reply.List (list_lines old paths)) × (new ≡ old)
Turns paths sizes disks old cmd.Status (reply.Status lines) after new = IsStatus old lines × (new ≡ old)
Turns paths sizes disks old cmd.Audit (reply.Audit lines) after new = AuditsPool lines old new
Turns paths sizes disks old cmd.Checkpoint answer after new = HoldsRoot sizes after old new
Turns paths sizes disks old cmd.Discard answer after new = GivesRoot sizes after old new
Turns paths sizes disks old cmd.StepDiscard answer after new = (units : ℕ) × (answer ≡ step_reply units) × GivesKept units old new
Turns paths sizes disks old cmd.Upgrade answer after new = (old.version ≡ 1) × (new.version ≡ 2) × Leaves (λ now. Upgrades sizes (Unit {0}) now old new) after
Turns paths sizes disks old (cmd.Estimate dev) answer after new =
    (d : ℕ) × IsRemovable paths old dev d × (answer ≡ reply.Estimate (24 * copy_pieces (part_of old.space.parts.devs d).held)) × (new ≡ old)
Turns paths sizes disks old (cmd.Map index) answer after new =
    (index < length old.space.parts.devs) × (answer ≡ reply.Map (map_lines (part_of old.space.parts.devs index))) × (new ≡ old)
Turns paths sizes disks old (cmd.Remove dev) answer after new = TakesAway paths sizes after dev old new
Turns paths sizes disks old cmd.Cancel answer after new = (d : ℕ) × (answer ≡ reply.Cancelled d) × PutsBack sizes after old new d
Turns paths sizes disks old cmd.StepEvac answer after new = (done : Evacuated) × (answer ≡ evac_reply done) × Evacuates sizes disks after old new done
Turns paths sizes disks old cmd.StepCondense answer after new = (done : Condensed) × (answer ≡ condense_reply done) × Condenses done old new
Turns paths sizes disks old command answer after new = ⊥

-- ---- lines where no pool is open

-- a new pool of this version, on the disks of the devices that the line names
pub record IsNew (version : ℕ) (paths : List (List ℕ)) (sizes : List ℕ) (disks : List (List ℕ)) (name : List ℕ) (guid : ℕ) (devs : List (List ℕ)) (new : OpenPool) : Type 0 where
  pub slots : List ℕ
  pub named : AreSlotsOf paths devs slots
  pub allowed : ChecksNew sizes (Unit {0}) disks version guid slots (Ok tt)
  pub full_name : Name
  pub name_is : blocks.name_of full_name ≡ name
  pub identity : IsNamed full_name guid version new
  pub devices : HasDevicesIn sizes 1 slots new
  pub clear : new.space.parts.ckpt ≡ Clear
  pub txg : new.group.txg ≡ 2
  pub empty : new.group.objects ≡ []
  pub root : IsResetAt 1 new.last
  pub settled : NothingWaits new.space

-- a device is in no slot, or what the slots show is in the way
abbrev pub IsCreateCause : ℕ → List (List ℕ) → List ℕ → List (List ℕ) → ℕ → List (List ℕ) → Refusal → Type 0
IsCreateCause version paths sizes disks guid devs r =
    ((r ≡ refusal.NoSuchDevice) × IsSlotMissing paths devs) ⊎ ((slots : List ℕ) × AreSlotsOf paths devs slots × ChecksNew sizes (Unit {0}) disks version guid slots (Err r))

-- the pool that a line makes or opens; one that it opens has room for what is owed
abbrev pub Begins : List (List ℕ) → List ℕ → List (List ℕ) → Command → OpenPool → Type 0
Begins paths sizes disks (cmd.Create name guid devs) new = IsNew 2 paths sizes disks name guid devs new
Begins paths sizes disks (cmd.CreateOld name guid devs) new = IsNew 1 paths sizes disks name guid devs new
Begins paths sizes disks command new = CoversOwed new.space

-- why none is made
abbrev pub BeginsNone : List (List ℕ) → List ℕ → List (List ℕ) → Command → Refusal → Type 0
BeginsNone paths sizes disks (cmd.Create name guid devs) r = IsCreateCause 2 paths sizes disks guid devs r
BeginsNone paths sizes disks (cmd.CreateOld name guid devs) r = IsCreateCause 1 paths sizes disks guid devs r
BeginsNone paths sizes disks command r = Unit {0}
