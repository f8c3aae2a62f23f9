-- Which addresses a free may be asked for.
use Rattle.std.specs.Prelude.{◌≡◌, ℕ, ◌<◌, ◌≤◌, ◌+◌, true, [], ◌∷◌, length}
use Rattle.zr_base.specs.declared.space.Dva.{Dva}
use Rattle.zr_rules.specs.Places.{units_of_dev}
use Rattle.zr_rules.specs.Resolve.{is_resolved, leads_to, resolve_hits}
use Rattle.zr_rules.specs.Roles.{is_live_role}
use Rattle.zr_rules.specs.Space.{Space, role_at}
use Rattle.zr_rules.specs.Equation.{devices_in, Spends}

-- the address lies on a device of the pool, and each unit to which it leads is in use by a block
pub record IsLive (s : Space) (a : Dva) : Type 0 where
  pub known : a.dev < length s.parts.devs
  pub some : 0 < a.len
  pub within : a.start + a.len ≤ units_of_dev s.parts.devs a.dev
  pub used : (d u : ℕ) → leads_to (devices_in s) a d u ≡ true → is_live_role (role_at s d u) ≡ true

-- An address may be freed: its units lead to as many units in use by blocks, over removed devices or not. None that it passes is obsolete, and no entry on the way has more
-- obsolete and passed units than units.
pub record IsFreeable (s : Space) (a : Dva) : Type 0 where
  pub known : a.dev < length s.parts.devs
  pub some : 0 < a.len
  pub resolves : is_resolved (devices_in s) a ≡ true
  pub once : (d u : ℕ) → resolve_hits (devices_in s) a d u ≤ 1
  pub used : (d u : ℕ) → leads_to (devices_in s) a d u ≡ true → is_live_role (role_at s d u) ≡ true
  pub spends : Spends s (a ∷ [])
