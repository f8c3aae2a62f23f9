-- Where a unit of a removed device has gone.
use Rattle.std.specs.Prelude.{◌≡◌, ◌≢◌, ◌⊎◌, ℕ, zero, suc, ◌+◌, ◌<◌, ◌≤◌, Bool, true, false, ◌&&◌, nat_lt, List, [], ◌∷◌, map, sum_by, if◌then◌else◌, Option, Some, None, is_some, option_and_then}
use Rattle.std.specs.List.{flat_map, list_all, list_any, All}
use Rattle.zr_base.specs.declared.space.Dva.{Dva}
use Rattle.zr_base.specs.declared.space.Entry.{Entry}
use Rattle.zr_rules.specs.Places.{Place, one_if, is_gone, is_place, places_of}
use Rattle.zr_rules.specs.Devices.{Devices, state_at}
use Rattle.zr_rules.specs.Mappings.{target}

-- the unit is one of a device that is in service or leaving
abbrev pub is_there : Devices → ℕ → ℕ → Bool
is_there ds d u = nat_lt d ds.count && nat_lt u (ds.row d).units

-- where the unit leads over at most so many devices
abbrev pub resolve : ℕ → Devices → ℕ → ℕ → Option Place
resolve zero ds d u = None
resolve (suc hops) ds d u =
    if is_gone (state_at ds d)
    then option_and_then (λ (p : Place). resolve hops ds p.0 p.1) (target (ds.entries d) u)
    else (if is_there ds d u then Some (d, u) else None)

-- A unit of a device that is there leads to itself, and one of a removed device to where its mapping leads. Each device on the way went later, so there are as many as devices at most.
abbrev pub resolved : Devices → ℕ → ℕ → Option Place
resolved ds d u = resolve ds.count ds d u

-- the units of removed devices on the way
abbrev pub passed : ℕ → Devices → ℕ → ℕ → List Place
passed zero ds d u = []
passed (suc hops) ds d u =
    if is_gone (state_at ds d)
    then (d, u) ∷ (flat_map (λ (p : Place). passed hops ds p.0 p.1) (places_at (target (ds.entries d) u)))
    else []
  where
    places_at : Option Place → List Place
    places_at None = []
    places_at (Some p) = p ∷ []

abbrev pub passed_units : Devices → ℕ → ℕ → List Place
passed_units ds d u = passed ds.count ds d u

-- where the units of an address lead, in order
abbrev pub resolved_units : Devices → Dva → List (Option Place)
resolved_units ds a = map (λ (p : Place). resolved ds p.0 p.1) (places_of a)

-- each unit of the address leads to one of a device that is there
abbrev pub is_resolved : Devices → Dva → Bool
is_resolved ds a = list_all (λ p. is_some p) (resolved_units ds a)

abbrev pub is_at : Option Place → ℕ → ℕ → Bool
is_at None d u = false
is_at (Some p) d u = is_place p d u

-- how many units of the address lead to the place
abbrev pub resolve_hits : Devices → Dva → ℕ → ℕ → ℕ
resolve_hits ds a d u = sum_by (λ p. one_if (is_at p d u)) (resolved_units ds a)

-- the address leads to the place
abbrev pub leads_to : Devices → Dva → ℕ → ℕ → Bool
leads_to ds a d u = list_any (λ p. is_at p d u) (resolved_units ds a)

-- how often the address passes the place
abbrev pub pass_hits : Devices → Dva → ℕ → ℕ → ℕ
pass_hits ds a d u = sum_by (λ (p : Place). sum_by (λ (q : Place). one_if (is_place q d u)) (passed_units ds p.0 p.1)) (places_of a)

abbrev pub passes : Devices → Dva → ℕ → ℕ → Bool
passes ds a d u = nat_lt 0 (pass_hits ds a d u)

-- A mapping of the device may lead to the other one: that one is there, or it went later. A device that is leaving counts as going after all that are gone.
abbrev pub MayLeadTo : Devices → ℕ → ℕ → Type 0
MayLeadTo ds d to = (is_gone (state_at ds to) ≡ false) ⊎ ((is_gone (state_at ds d) ≡ true) × ((ds.row d).gone < (ds.row to).gone))

-- a destination is on another device that is there or went later, within its units
pub record IsDestination (ds : Devices) (d : ℕ) (e : Entry) : Type 0 where
  pub known : e.dev < ds.count
  pub other : e.dev ≢ d
  pub within : e.dst + e.len ≤ (ds.row e.dev).units
  pub later : MayLeadTo ds d e.dev

-- each destination of each mapping is lawful
abbrev pub IsRanked : Devices → Type 0
IsRanked ds = (d : ℕ) → All (IsDestination ds d) (ds.entries d)
