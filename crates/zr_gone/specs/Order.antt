-- How a device stands whose units are copied.
use Rattle.std.specs.Prelude.{◌≡◌, ℕ, ◌<◌, true, false}
use Rattle.zr_rules.specs.Equation.{devices_in}
use Rattle.zr_rules.specs.Mappings.{has_source}
use Rattle.zr_rules.specs.Places.{is_fresh, is_gone, is_held, is_leaving, part_of, state_of_dev}
use Rattle.zr_rules.specs.Resolve.{IsRanked}
use Rattle.zr_rules.specs.Roles.{is_copy_role}
use Rattle.zr_rules.specs.Space.{IsLawful, Space, frontier, role_at}
use Rattle.zr_space.specs.Plans.{IsCopied}
use Rattle.zr_vdev.specs.Alike.{IsCopyAt}

-- What the device holds below its frontier has an entry each and is not marked, and each copy is one of a unit of it. Mappings lead to devices that are there or went later.
pub record AreInOrder (s : Space) (d : ℕ) : Type 0 where
  pub lawful : IsLawful s
  pub leaving : is_leaving (state_of_dev s.parts.devs d) ≡ true
  pub copied : (u : ℕ) → is_held s.parts.devs d u ≡ true → u < frontier s d → has_source (part_of s.parts.devs d).entries u ≡ true
  pub unmarked : (u : ℕ) → is_held s.parts.devs d u ≡ true → u < frontier s d → is_fresh s.parts.devs d u ≡ false
  pub sources : (e v : ℕ) → is_copy_role (role_at s e v) ≡ true → (u : ℕ) × IsCopyAt s d u (e, v)
  pub ranked : IsRanked (devices_in s)

-- All that the device holds is copied, and it may be the last of those that are gone.
pub record MayGo (s : Space) (d txg : ℕ) : Type 0 where
  pub order : AreInOrder s d
  pub all : IsCopied s
  pub later : (e : ℕ) → is_gone (state_of_dev s.parts.devs e) ≡ true → (part_of s.parts.devs e).row.gone < txg
