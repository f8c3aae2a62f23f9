-- What contracts see of the allocator.
use Rattle.std.specs.Prelude.{◌≡◌, ℕ, ◌^◌, ◌+◌, ◌≤◌, ◌<◌, Bool, true, false, not, ◌&&◌, ◌||◌, ◌==◌, nat_lt, max, List, [], slice_index_or, length, if◌then◌else◌}
use Rattle.zr_base.specs.declared.space.Extent.{Extent}
use Rattle.zr_base.specs.declared.space.Dva.{Dva}
use Rattle.zr_base.specs.Extents.{has_unit, in_extent, unit_count}
use Rattle.zr_rules.specs.Placement.{Free}
use Rattle.zr_metaslab.specs.Metaslabs.{is_free, free_count, AreSlabs}

-- a device: whether it is in service, its units, and its free runs by metaslabs
pub record DeviceFree : Type 0 where
  pub on : Bool
  pub units : ℕ
  pub slabs : List (List Extent)

-- a device that is not there
abbrev pub no_device : DeviceFree
no_device = record { on = false; units = 0; slabs = [] }

abbrev pub device_at : List DeviceFree → ℕ → DeviceFree
device_at devs d = slice_index_or devs d no_device

-- the runs are where they should be
pub record IsSound (d : DeviceFree) : Type 0 where
  pub slabs : AreSlabs d.units d.slabs
  pub small : d.units < 2 ^ 40

abbrev pub AreSound : List DeviceFree → Type 0
AreSound devs = (d : ℕ) → IsSound (device_at devs d)

-- the devices are sound, and a device index has 32 bits
pub record IsAllocator (devs : List DeviceFree) : Type 0 where
  pub sound : AreSound devs
  pub few : length devs ≤ 2 ^ 32

-- What contracts see of the allocator: its devices by index, read by the functions that follow.
abbrev pub Devices : Type 0
Devices = List DeviceFree

-- the unit is free
unfoldable pub free_at : Devices → ℕ → ℕ → Bool
free_at devs d u = is_free (device_at devs d).slabs u

-- how many units of the device are free
unfoldable pub count_at : Devices → ℕ → ℕ
count_at devs d = free_count (device_at devs d).slabs

-- how many units the device has, 0 where there is none
unfoldable pub units_at : Devices → ℕ → ℕ
units_at devs d = (device_at devs d).units

-- the device is in service
unfoldable pub serves_at : Devices → ℕ → Bool
serves_at devs d = (device_at devs d).on

-- what an allocation sees
abbrev pub free_of : Devices → Free
free_of devs = record { devs = length devs; serves = serves_at devs; count = count_at devs; is_free = free_at devs }

abbrev pub extent_of : Dva → Extent
extent_of a = record { start = a.start; len = a.len }

-- the devices have their units, and stay in service or not
pub record KeepsDevices (old new : Devices) : Type 0 where
  pub devs : length new ≡ length old
  pub units : (d : ℕ) → units_at new d ≡ units_at old d
  pub serves : (d : ℕ) → serves_at new d ≡ serves_at old d

-- units that were free are free no more
pub record Takes (old new : Devices) (dev : ℕ) (e : Extent) : Type 0 where
  pub were_free : (u : ℕ) → in_extent e u ≡ true → free_at old dev u ≡ true
  pub within : e.start + e.len ≤ units_at old dev
  pub free : (d u : ℕ) → free_at new d u ≡ (free_at old d u && not ((d == dev) && in_extent e u))
  pub count : (d : ℕ) → count_at new d + (if d == dev then e.len else 0) ≡ count_at old d
  pub devices : KeepsDevices old new

-- units that were not free are free, and no more are free than the device has
pub record Gives (old new : Devices) (dev : ℕ) (e : Extent) : Type 0 where
  pub free : (d u : ℕ) → free_at new d u ≡ (free_at old d u || (d == dev) && in_extent e u)
  pub count : (d : ℕ) → count_at new d ≡ count_at old d + (if d == dev then e.len else 0)
  pub within : count_at new dev ≤ units_at new dev
  pub devices : KeepsDevices old new

-- the device is in service with n units, of which those that are not used are free
pub record AddsDevice (old new : Devices) (dev n : ℕ) (used : List Extent) : Type 0 where
  pub devs : length new ≡ max (length old) (dev + 1)
  pub units : (d : ℕ) → units_at new d ≡ (if d == dev then n else units_at old d)
  pub serves : (d : ℕ) → serves_at new d ≡ (if d == dev then true else serves_at old d)
  pub free : (d u : ℕ) → free_at new d u ≡ (if d == dev then nat_lt u n && not (has_unit used u) else free_at old d u)
  pub counted : count_at new dev + unit_count used ≡ n
  pub counts : (d : ℕ) → (d == dev) ≡ false → count_at new d ≡ count_at old d

-- the device is in service or not
pub record Turns (old new : Devices) (dev : ℕ) (on : Bool) : Type 0 where
  pub devs : length new ≡ length old
  pub units : (d : ℕ) → units_at new d ≡ units_at old d
  pub serves : (d : ℕ) → serves_at new d ≡ (if d == dev then on else serves_at old d)
  pub free : (d u : ℕ) → free_at new d u ≡ free_at old d u
  pub count : (d : ℕ) → count_at new d ≡ count_at old d

-- the device has no units any more
pub record Forgets (old new : Devices) (dev : ℕ) : Type 0 where
  pub devs : length new ≡ length old
  pub units : (d : ℕ) → units_at new d ≡ (if d == dev then 0 else units_at old d)
  pub serves : (d : ℕ) → serves_at new d ≡ (if d == dev then false else serves_at old d)
  pub free : (d u : ℕ) → free_at new d u ≡ (if d == dev then false else free_at old d u)
  pub count : (d : ℕ) → count_at new d ≡ (if d == dev then 0 else count_at old d)
