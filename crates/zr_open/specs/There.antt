-- Devices that are there: in service, or leaving.
use Rattle.std.specs.Prelude.{◌≡◌, ◌⊎◌, ℕ, false, List}
use Rattle.zr_label.specs.declared.root.Uber.{Uber}
use Rattle.zr_model.specs.State.{Device, InService, Leaving, Removed}
use Rattle.zr_rules.specs.Devices.{Devices, state_at}
use Rattle.zr_rules.specs.Equation.{devices_in}
use Rattle.zr_rules.specs.Places.{is_gone}
use Rattle.zr_sync.specs.Moves.{TellsMoves}
use Rattle.zr_sync.specs.Trees.{HasLastTrees}
use Rattle.zr_sync.specs.declared.open.OpenPool.{OpenPool}

-- No device is gone. So each address leads to units of its own device, whatever the mappings say.
abbrev pub AreThere : Devices → Type 0
AreThere ds = (d : ℕ) → is_gone (state_at ds d) ≡ false

-- Whoever reads the pool's root on these disks is led where the pool is: no device is gone, or they tell where the units of those that are have moved.
abbrev pub IsReadable : List (List ℕ) → OpenPool → Uber → Type 0
IsReadable disks pool u = AreThere (devices_in pool.space) ⊎ TellsMoves disks pool u.root u.len

-- So it will be behind a commit of the pool: no device is gone, or this is told of the streams before it.
abbrev pub StaysReadable : OpenPool → Type 0 → Type 0
StaysReadable pool Told = AreThere (devices_in pool.space) ⊎ Told

-- and it is told that their trees stand on these disks
abbrev pub WillBeReadable : List (List ℕ) → OpenPool → Type 0
WillBeReadable disks pool = StaysReadable pool (HasLastTrees disks pool)

-- the device is not removed
abbrev pub IsStillThere : Device → Type 0
IsStillThere (InService path) = Unit {0}
IsStillThere (Leaving path) = Unit {0}
IsStillThere Removed = ⊥
