-- Devices that are all in service, and addresses that lead nowhere.
use Rattle.std.specs.Prelude.{◌≡◌, ℕ, ◌+◌, ◌≤◌, ◌<◌, false, None, []}
use Rattle.zr_base.specs.declared.space.DevPart.{DevPart}
use Rattle.zr_base.specs.declared.space.Dva.{Dva}
use Rattle.zr_rules.specs.Devices.{Devices, state_at}
use Rattle.zr_rules.specs.Places.{is_gone, is_leaving}
use Rattle.zr_rules.specs.Resolve.{resolved}
use Rattle.zr_chain.specs.declared.visit.ChainErr.{ChainErr}
use Rattle.zr_chain.specs.declared.visit.ChainErr.TheVariants.{NoEntry, NoMemory}

-- no device is leaving or gone
pub record AreInService (ds : Devices) : Type 0 where
  pub there : (d : ℕ) → is_gone (state_at ds d) ≡ false
  pub stays : (d : ℕ) → is_leaving (state_at ds d) ≡ false

-- the device has no mapping
pub record HasNoMapping (p : DevPart) : Type 0 where
  pub entries : p.entries ≡ []
  pub counts : p.counts ≡ []
  pub fresh : p.fresh ≡ []

-- the address lies on a device, and within its units where it is not gone
pub record StandsWithin (ds : Devices) (a : Dva) : Type 0 where
  pub known : a.dev < ds.count
  pub within : is_gone (state_at ds a.dev) ≡ false → a.start + a.len ≤ (ds.row a.dev).units

-- the unit that is named is on the way of a unit of the address that leads nowhere
abbrev pub LeadsNowhere : Devices → Dva → ChainErr → Type 0
LeadsNowhere ds a (NoEntry dev unit) = (k : ℕ) × (k < a.len) × (resolved ds a.dev (a.start + k) ≡ None)
LeadsNowhere ds a NoMemory = Unit {0}
