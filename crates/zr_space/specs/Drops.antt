-- Metadata that is given back.
use Rattle.std.specs.Prelude.{◌≡◌, ◌⊎◌, ℕ, ◌+◌, ◌≤◌, ◌<◌, true, length}
use Rattle.zr_base.specs.declared.space.Dva.{Dva}
use Rattle.zr_rules.specs.Places.{in_address, part_of, units_of_dev}
use Rattle.zr_rules.specs.Roles.{Role}
use Rattle.zr_rules.specs.Roles.Role.{Meta, SavedMeta}
use Rattle.zr_rules.specs.Space.{Space, role_at, IsLawful}
use Rattle.zr_rules.specs.Frees.{IsSamePart, IsSameRoot}

abbrev pub HasRole : Space → Dva → Role → Type 0
HasRole s a r = (u : ℕ) → in_address a a.dev u ≡ true → role_at s a.dev u ≡ r

-- the address has metadata of the current root alone, or of the saved one
pub record IsMeta (s : Space) (a : Dva) : Type 0 where
  pub known : a.dev < length s.parts.devs
  pub some : 0 < a.len
  pub within : a.start + a.len ≤ units_of_dev s.parts.devs a.dev
  pub used : HasRole s a Meta ⊎ HasRole s a SavedMeta

-- the version, the checkpoint, the condensing, the frontier, each device's records and the current root's sets are the same
pub record KeepsParts (old new : Space) : Type 0 where
  pub version : new.parts.version ≡ old.parts.version
  pub cond : new.parts.cond ≡ old.parts.cond
  pub ckpt : new.parts.ckpt ≡ old.parts.ckpt
  pub synced : new.synced ≡ old.synced
  pub devices : length new.parts.devs ≡ length old.parts.devs
  pub each : (d : ℕ) → IsSamePart (part_of old.parts.devs d) (part_of new.parts.devs d)
  pub root : IsSameRoot old new
  pub lawful : IsLawful new
