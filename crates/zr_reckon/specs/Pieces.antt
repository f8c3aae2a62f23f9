-- The pieces of a free, as runs of units.
use Rattle.std.specs.Prelude.{◌≡◌, ◌⊎◌, ℕ, zero, suc, true, false, List, [], ◌∷◌, map, filter, if◌then◌else◌}
use Rattle.std.specs.List.{All, flat_map}
use Rattle.zr_base.specs.declared.space.Dva.{Dva}
use Rattle.zr_rules.specs.Places.{is_gone, is_leaving, is_fresh, part_of}
use Rattle.zr_rules.specs.Devices.{Devices, state_at}
use Rattle.zr_rules.specs.Mappings.{IsRising}
use Rattle.zr_rules.specs.Roles.Role.{FreshCopy, Copy}
use Rattle.zr_rules.specs.Space.{Space}
use Rattle.zr_rules.specs.Equation.{devices_in}
use Rattle.zr_rules.specs.Frees.{marks}
use Rattle.zr_rules.specs.Steps.{moved_part, meets}
use Rattle.zr_reckon.specs.Uses.{AllAre, IsWhole}

-- where the n units at u of a device lead, as runs on devices that are there
abbrev pub ends : ℕ → Devices → ℕ → ℕ → ℕ → List Dva
ends zero ds d u n = []
ends (suc hops) ds d u n =
    if is_gone (state_at ds d)
    then flat_map (λ (m : Dva). ends hops ds m.dev m.start m.len) (map (moved_part u n) (filter (meets u n) (ds.entries d)))
    else record { dev = d; start = u; len = n } ∷ []

abbrev pub ends_of : Devices → Dva → List Dva
ends_of ds a = ends ds.count ds a.dev a.start a.len

-- where a run of a device that is leaving was copied to
abbrev pub copies_at : Devices → Dva → List Dva
copies_at ds m = if is_leaving (state_at ds m.dev) then map (moved_part m.start m.len) (filter (meets m.start m.len) (ds.entries m.dev)) else []

abbrev pub copies_of : Devices → Dva → List Dva
copies_of ds a = flat_map (copies_at ds) (ends_of ds a)

-- a copy is one allocation too
abbrev pub IsWholeCopy : Space → Dva → Type 0
IsWholeCopy s a = AllAre s a FreshCopy ⊎ AllAre s a Copy

-- Each piece of the block, and each of its copies, was made in one group. Nothing that the free marks was marked before.
pub record IsFreeable (s : Space) (a : Dva) : Type 0 where
  pub blocks : All (IsWhole s) (ends_of (devices_in s) a)
  pub copies : All (IsWholeCopy s) (copies_of (devices_in s) a)
  pub unmarked : (d u : ℕ) → marks s a d u ≡ true → is_fresh s.parts.devs d u ≡ false
  pub rising : (d : ℕ) → IsRising (part_of s.parts.devs d).entries
