-- The number of each refusal.
use Rattle.std.specs.Prelude.{ℕ}
use Rattle.zr_base.specs.declared.refusal.Refusal.{Refusal}
use Rattle.zr_base.specs.declared.refusal.Refusal.TheVariants as refusal

-- as the reply prints it
abbrev pub number_of : Refusal → ℕ
number_of refusal.NoPoolOpen = 1
number_of refusal.PoolIsOpen = 2
number_of refusal.NoSuchObject = 3
number_of refusal.ObjectExists = 4
number_of refusal.OutOfRange = 5
number_of (refusal.NoRun needed longest) = 6
number_of (refusal.NoRoom needed free) = 7
number_of refusal.NoSuchDevice = 8
number_of refusal.NotInService = 9
number_of refusal.OnlyDevice = 10
number_of refusal.RemovalInProgress = 11
number_of refusal.NoRemoval = 12
number_of refusal.CheckpointExists = 13
number_of refusal.DiscardingCheckpoint = 14
number_of refusal.NoCheckpoint = 15
number_of (refusal.TooMany limit) = 16
number_of (refusal.DeviceInUse slot) = 17
number_of (refusal.DeviceSize size) = 18
number_of refusal.NothingToDo = 19
number_of (refusal.Damaged at expected found) = 20
number_of (refusal.MissingDevice index added) = 21
number_of refusal.NoPoolOnDevices = 22
number_of (refusal.TwoPools first second) = 23
number_of (refusal.BadRoot rule) = 24
number_of (refusal.GroupNotKept oldest) = 25
number_of (refusal.UnknownVersion found) = 26
