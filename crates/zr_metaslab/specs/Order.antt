-- The order in which devices are tried.
use Rattle.std.specs.Prelude.{◌≡◌, ℕ, ◌<◌, Bool, true, false, ◌&&◌, ◌||◌, ◌==◌, nat_le, nat_lt, List, length}
use Rattle.zr_metaslab.specs.Metaslabs.{free_count, longest_of}
use Rattle.zr_metaslab.specs.Devices.{DeviceFree, device_at}

abbrev pub free_on : List DeviceFree → ℕ → ℕ
free_on devs d = free_count (device_at devs d).slabs

-- the device is tried before the other one: it has more units free, or as many and a lower index
abbrev pub comes_before : List DeviceFree → ℕ → ℕ → Bool
comes_before devs a b = nat_lt (free_on devs b) (free_on devs a) || ((free_on devs a == free_on devs b) && nat_lt a b)

-- the device is in service and has a run of so many units
abbrev pub has_run : List DeviceFree → ℕ → ℕ → Bool
has_run devs want d = (device_at devs d).on && nat_le want (longest_of (device_at devs d).slabs)

-- the first device in the order that has a run
pub record IsFirstDevice (devs : List DeviceFree) (want d : ℕ) : Type 0 where
  pub there : d < length devs
  pub run : has_run devs want d ≡ true
  pub before : (j : ℕ) → comes_before devs j d ≡ true → has_run devs want j ≡ false

-- some device in service has this as its longest run
pub record HasLongest (devs : List DeviceFree) (n : ℕ) : Type 0 where
  pub dev : ℕ
  pub on : (device_at devs dev).on ≡ true
  pub longest : longest_of (device_at devs dev).slabs ≡ n
