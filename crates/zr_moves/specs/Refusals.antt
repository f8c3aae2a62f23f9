-- What each command is refused for at once, by the state and the slots alone: the checks of a command in their order.
use Rattle.std.specs.Prelude.{◌≡◌, ◌≢◌, ◌⊎◌, ℕ, ◌+◌, ◌≤◌, ◌<◌, true, false, not, List, [], ◌∷◌, length, find, position, Contains, slice_index_or, Option, Some, None, unwrap_or, Bool, Ok, Err}
use Rattle.std.specs.List.{All}
use Rattle.std.specs.Str.{bytes_eq}
use Rattle.std.specs.FinMap as map
use Rattle.zr_base.specs.Blocks.{is_block_size}
use Rattle.zr_base.specs.declared.refusal.Refusal.TheVariants as refusal
use Rattle.zr_script.specs.declared.command.Command.{Command}
use Rattle.zr_script.specs.declared.command.Command.TheVariants as cmd
use Rattle.zr_label.specs.declared.root.Label.{Label}
use Rattle.zr_label.specs.declared.root.Uber.{Uber}
use Rattle.zr_label.specs.declared.root.Seen.{Seen}
use Rattle.zr_label.specs.Geometry.{is_disk_size}
use Rattle.zr_model.specs.Objects.{Object, is_within}
use Rattle.zr_model.specs.State.{InService, Leaving, PoolState, ShelfPart, Empty, Refused, Is, State}
use Rattle.zr_image.specs.Checks.{Check, ◌>>=◌, Demands, Finds, Excludes}
use Rattle.zr_image.specs.Current.{seen_at, IsInUse, IsLowest, IsCurrent, IsInWindow, IsOldest}
use Rattle.zr_moves.specs.Changes.{touched_blocks}

-- the slots: their paths, the sizes of their disks, and what they show
pub record Slots : Type 0 where
  pub paths : List (List ℕ)
  pub sizes : List ℕ
  pub seen : List Seen

-- no check: nothing of the state or the slots refuses it
abbrev pub Passes : Check (Unit {0})
Passes (Ok done) = Unit {0}
Passes (Err r) = ⊥

-- the slot of a path
abbrev pub slot_named : Slots → List ℕ → ℕ
slot_named s path = unwrap_or (position (bytes_eq path) s.paths) 0

abbrev pub size_of : Slots → List ℕ → ℕ
size_of s path = slice_index_or s.sizes (slot_named s path) 0

-- each path is that of a slot
abbrev pub AreSlots : Slots → List (List ℕ) → Check (Unit {0})
AreSlots s devs = Demands (All (Contains s.paths) devs) refusal.NoSuchDevice

-- the first of the devices whose disk a pool of this version cannot have
abbrev pub bad_size : Slots → ℕ → List (List ℕ) → Option (List ℕ)
bad_size s version devs = find (λ path. not (is_disk_size version (size_of s path))) devs

abbrev pub HaveSizes : Slots → ℕ → List (List ℕ) → Check (Unit {0})
HaveSizes s version devs = Excludes (λ path. bad_size s version devs ≡ Some path) (λ path. bad_size s version devs ≡ Some path) (λ path. refusal.DeviceSize (size_of s path))

-- the slot has a label of which this is true
abbrev pub HasLabel : List Seen → ℕ → (Label → Type 0) → Type 0
HasLabel seen slot Fits = (l : Label) × ((seen_at seen slot).label ≡ Some l) × Fits l

-- A new pool must not meet a slot in use, or a label of its identity in a slot that it does not take.
abbrev pub IsInTheWay : Slots → ℕ → List (List ℕ) → ℕ → Type 0
IsInTheWay s guid devs slot =
    (slot < length s.paths) × (IsInUse s.seen slot ⊎ (HasLabel s.seen slot (λ l. l.guid ≡ guid) × ¬ Contains devs (slice_index_or s.paths slot [])))

abbrev pub MayCreate : Slots → ℕ → ℕ → List (List ℕ) → Check (Unit {0})
MayCreate s version guid devs = do
  named ← AreSlots s devs
  sized ← HaveSizes s version devs
  Excludes (IsInTheWay s guid devs) (IsLowest (IsInTheWay s guid devs)) refusal.DeviceInUse

-- the slot of this path is a device of the pool, or in use by another pool
abbrev pub IsTaken : Slots → PoolState → List ℕ → ℕ → Type 0
IsTaken s p path slot =
    (slot ≡ slot_named s path)
    × (Contains p.devs (InService path) ⊎ (Contains p.devs (Leaving path) ⊎ (IsInUse s.seen slot × HasLabel s.seen slot (λ l. l.guid ≢ p.guid))))

-- another slot has the label that the device is to have: of the next index, and of the second group from now
abbrev pub HasItsLabel : Slots → PoolState → List ℕ → ℕ → Type 0
HasItsLabel s p path slot =
    (slot ≢ slot_named s path) × (u : Uber) × IsCurrent s.seen u × HasLabel s.seen slot (λ l. (l.guid ≡ p.guid) × (l.index ≡ length p.devs) × (l.added ≡ u.txg + 2))

-- the version of the pool, by its current root
abbrev pub HasSizeNow : Slots → List ℕ → Check (Unit {0})
HasSizeNow s path = Finds (IsCurrent s.seen) refusal.NoPoolOnDevices >>= (λ u. HaveSizes s u.version (path ∷ []))

abbrev pub MayAdd : Slots → PoolState → List ℕ → Check (Unit {0})
MayAdd s p path = do
  named ← AreSlots s (path ∷ [])
  sized ← HasSizeNow s path
  unused ← Excludes (IsTaken s p path) (IsTaken s p path) refusal.DeviceInUse
  alone ← Excludes (HasItsLabel s p path) (IsLowest (HasItsLabel s p path)) refusal.DeviceInUse
  Demands (length p.devs < 32) (refusal.TooMany 32)

-- a device is leaving
abbrev pub IsEvacuating : PoolState → Type 0
IsEvacuating p = (path : List ℕ) × Contains p.devs (Leaving path)

-- another device than this one is in service
abbrev pub HasAnother : PoolState → List ℕ → Type 0
HasAnother p path = (other : List ℕ) × (other ≢ path) × Contains p.devs (InService other)

abbrev pub MayRemove : Slots → PoolState → List ℕ → Check (Unit {0})
MayRemove s p path = do
  unsaved ← Demands (p.saved ≡ None) refusal.CheckpointExists
  kept ← Demands (p.discarding ≡ false) refusal.DiscardingCheckpoint
  idle ← Demands (¬ IsEvacuating p) refusal.RemovalInProgress
  named ← AreSlots s (path ∷ [])
  serves ← Demands (Contains p.devs (InService path)) refusal.NotInService
  Demands (HasAnother p path) refusal.OnlyDevice

abbrev pub MayCheckpoint : PoolState → Check (Unit {0})
MayCheckpoint p = do
  idle ← Demands (¬ IsEvacuating p) refusal.RemovalInProgress
  unsaved ← Demands (p.saved ≡ None) refusal.CheckpointExists
  Demands (p.discarding ≡ false) refusal.DiscardingCheckpoint

abbrev pub MayDiscard : PoolState → Check (Unit {0})
MayDiscard p = do
  there ← Demands ((p.saved ≢ None) ⊎ (p.discarding ≡ true)) refusal.NoCheckpoint
  Demands (p.discarding ≡ false) refusal.DiscardingCheckpoint

abbrev pub MayMake : PoolState → ℕ → ℕ → Check (Unit {0})
MayMake p id units = do
  lawful ← Demands ((id ≤ 65535) × (is_block_size units ≡ true)) refusal.OutOfRange
  Demands (map.get p.objects id ≡ None) refusal.ObjectExists

-- the object is there, and the range is lawful for it
abbrev pub MayTouch : PoolState → ℕ → (Object → Type 0) → Check (Unit {0})
MayTouch p id IsLawful = do
  o ← Finds (λ o. map.get p.objects id ≡ Some o) refusal.NoSuchObject
  Demands (IsLawful o) refusal.OutOfRange

abbrev pub IsWithin : ℕ → ℕ → Object → Type 0
IsWithin off len o = is_within o.units off len ≡ true

-- and it touches no more blocks than a group may change
abbrev pub IsFewBlocks : ℕ → ℕ → Object → Type 0
IsFewBlocks off len o = IsWithin off len o × (length (touched_blocks o off len) ≤ 64)

-- what an open pool is refused
abbrev pub AdmitsOpen : Slots → PoolState → Command → Check (Unit {0})
AdmitsOpen s p (cmd.Create name guid devs) = Demands ⊥ refusal.PoolIsOpen
AdmitsOpen s p (cmd.CreateOld name guid devs) = Demands ⊥ refusal.PoolIsOpen
AdmitsOpen s p cmd.Import = Demands ⊥ refusal.PoolIsOpen
AdmitsOpen s p cmd.ImportRewind = Demands ⊥ refusal.PoolIsOpen
AdmitsOpen s p (cmd.ImportTxg txg) = Demands ⊥ refusal.PoolIsOpen
AdmitsOpen s p (cmd.Make id units) = MayMake p id units
AdmitsOpen s p (cmd.Drop id) = MayTouch p id (λ o. Unit {0})
AdmitsOpen s p (cmd.Write id off bytes) = MayTouch p id (IsWithin off (length bytes))
AdmitsOpen s p (cmd.Fill id off len byte) = MayTouch p id (IsFewBlocks off len)
AdmitsOpen s p (cmd.Punch id off len) = MayTouch p id (IsFewBlocks off len)
AdmitsOpen s p (cmd.Read id off len) = MayTouch p id (λ o. IsWithin off len o × (len ≤ 4096))
AdmitsOpen s p (cmd.Sum id) = MayTouch p id (λ o. Unit {0})
AdmitsOpen s p (cmd.Add dev) = MayAdd s p dev
AdmitsOpen s p (cmd.Remove dev) = MayRemove s p dev
AdmitsOpen s p (cmd.Estimate dev) = MayRemove s p dev
AdmitsOpen s p cmd.Cancel = Demands (IsEvacuating p) refusal.NoRemoval
AdmitsOpen s p cmd.Checkpoint = MayCheckpoint p
AdmitsOpen s p cmd.Discard = MayDiscard p
AdmitsOpen s p cmd.StepEvac = Demands (IsEvacuating p) refusal.NothingToDo
AdmitsOpen s p cmd.StepDiscard = Demands (p.discarding ≡ true) refusal.NothingToDo
AdmitsOpen s p (cmd.Map index) = Demands (index < length p.devs) refusal.NoSuchDevice
AdmitsOpen s p command = Passes

-- the pool that the shelf has, or why it cannot be opened
abbrev pub HasPool : ShelfPart → Check PoolState
HasPool Empty result = result ≡ Err refusal.NoPoolOnDevices
HasPool (Refused r) result = result ≡ Err r
HasPool (Is p) result = result ≡ Ok p

-- the group is kept by the current root, or it is refused with the oldest that is
abbrev pub IsKept : List Seen → ℕ → Check (Unit {0})
IsKept seen txg (Ok done) = (u : Uber) × IsCurrent seen u × IsInWindow seen u txg
IsKept seen txg (Err r) = (u : Uber) × (oldest : ℕ) × IsCurrent seen u × ¬ IsInWindow seen u txg × IsOldest seen u oldest × (r ≡ refusal.GroupNotKept oldest)

abbrev pub MayRewind : ShelfPart → Check (Unit {0})
MayRewind part = HasPool part >>= (λ p. Demands (p.saved ≢ None) refusal.NoCheckpoint)

-- what a shelf with no open pool is refused
abbrev pub AdmitsClosed : Slots → ShelfPart → Command → Check (Unit {0})
AdmitsClosed s part (cmd.Create name guid devs) = MayCreate s 2 guid devs
AdmitsClosed s part (cmd.CreateOld name guid devs) = MayCreate s 1 guid devs
AdmitsClosed s part cmd.Import = HasPool part >>= (λ p. Passes)
AdmitsClosed s part cmd.ImportRewind = MayRewind part
AdmitsClosed s part (cmd.ImportTxg txg) = HasPool part >>= (λ p. IsKept s.seen txg)
AdmitsClosed s part command = Demands ⊥ refusal.NoPoolOpen

abbrev pub AdmitsBy : Bool → Slots → ShelfPart → Command → Check (Unit {0})
AdmitsBy true s (Is p) command = AdmitsOpen s p command
AdmitsBy true s part command = Demands ⊥ refusal.NoPoolOpen
AdmitsBy false s part command = AdmitsClosed s part command

-- The first refusal that the state and the slots show, if they show one.
abbrev pub Admits : Slots → State → Command → Check (Unit {0})
Admits s st command = AdmitsBy st.is_open s st.shelf command
