-- The devices of which a removal speaks.
use Rattle.std.specs.Prelude.{◌≡◌, ◌≢◌, ℕ, ◌<◌, List, Some, sum_by, length}
use Rattle.std.specs.Int.{div_ceil}
use Rattle.zr_base.specs.declared.space.DevState.TheVariants.{On}
use Rattle.zr_base.specs.declared.space.Extent.{Extent}
use Rattle.zr_rules.specs.Places.{state_of_dev}
use Rattle.zr_rules.specs.Space.{Space}
use Rattle.zr_view.specs.Views.{slot_of}
use Rattle.zr_sync.specs.declared.open.OpenPool.{OpenPool}

-- the device is in service, and its disk is in the slot
pub record IsDeviceOn (pool : OpenPool) (slot d : ℕ) : Type 0 where
  pub known : d < pool.table.count
  pub on : state_of_dev pool.space.parts.devs d ≡ On
  pub here : slot_of pool.table.slots d ≡ Some slot

-- no other device is in service
abbrev pub IsOnlyOne : Space → ℕ → Type 0
IsOnlyOne s d = (other : ℕ) → other < length s.parts.devs → state_of_dev s.parts.devs other ≡ On → other ≡ d

-- another device is in service
pub record HasOther (s : Space) (d : ℕ) : Type 0 where
  pub device : ℕ
  pub known : device < length s.parts.devs
  pub on : state_of_dev s.parts.devs device ≡ On
  pub other : device ≢ d

-- into how many pieces of at most 256 units the extents are cut
abbrev pub copy_pieces : List Extent → ℕ
copy_pieces es = sum_by (λ (e : Extent). div_ceil e.len 256) es
