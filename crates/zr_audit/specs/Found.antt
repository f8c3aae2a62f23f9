-- What a walk finds of the units of a device.
use Rattle.std.specs.Prelude.{◌≡◌, ℕ, ◌+◌, ◌<◌, ◌==◌, Bool, true, false, ◌&&◌, ◌||◌, nat_le, nat_lt, ◌-◌, min, List, map, length, if◌then◌else◌, None}
use Rattle.std.specs.List.{range_with_len, list_any}
use Rattle.zr_base.specs.declared.space.Extent.{Extent}
use Rattle.zr_base.specs.declared.space.Dva.{Dva}
use Rattle.zr_base.specs.Extents.{has_unit, in_extent}
use Rattle.zr_chain.specs.declared.visit.Visited.{Visited}
use Rattle.zr_chain.specs.declared.visit.Visited.TheVariants.{Hop, Piece}
use Rattle.zr_rules.specs.Devices.{Devices}
use Rattle.zr_rules.specs.Places.{count_below, units_of_dev}
use Rattle.zr_rules.specs.Resolve.{leads_to, resolved}
use Rattle.zr_rules.specs.Roles.{is_copy_role, is_meta_role}
use Rattle.zr_rules.specs.Space.{Space, role_at}
use Rattle.zr_rules.specs.Columns.{columns}
use Rattle.zr_rules.specs.Equation.{devices_in, is_live}

-- how many different units of a device a walk finds: those that live pointers lead to, copies, and those that the addresses of metadata lead to
abbrev pub found : Space → List Dva → List Dva → ℕ → ℕ
found s live meta d =
    count_below (units_of_dev s.parts.devs d) (λ u. if is_live (devices_in s) live d u then true else (if is_copy_role (role_at s d u) then true else is_live (devices_in s) meta d u))

-- the addresses lead to exactly the metadata units of the devices
abbrev pub AreMeta : Space → List Dva → Type 0
AreMeta s meta = (d u : ℕ) → d < length s.parts.devs → u < units_of_dev s.parts.devs d → is_live (devices_in s) meta d u ≡ is_meta_role (role_at s d u)

-- how many units of a device are counted as allocated
abbrev pub allocated_units : Space → ℕ → ℕ
allocated_units s d = (columns s d).allocated

-- a number for each device, by its index
abbrev pub for_each_device : Space → (ℕ → ℕ) → List ℕ
for_each_device s f = map f (range_with_len 0 (length s.parts.devs))

-- the new set is the old one with the units of an extent, of which it may have had some
abbrev pub IsUnion : List Extent → List Extent → Extent → Type 0
IsUnion old new e = (u : ℕ) → has_unit new u ≡ (has_unit old u || in_extent e u)

-- the same of the units from one on, up to another
abbrev pub IsUnionTo : List Extent → List Extent → ℕ → ℕ → Type 0
IsUnionTo old new from to = (u : ℕ) → has_unit new u ≡ (has_unit old u || (nat_le from u && nat_lt u to))

-- the visit is a part that is there, and has the unit of the device
abbrev pub is_end_at : ℕ → ℕ → Visited → Bool
is_end_at d u (Hop dev e) = false
is_end_at d u (Piece split dev e) = dev == d && in_extent e u

-- some part that is there has it
abbrev pub ends_at : List Visited → ℕ → ℕ → Bool
ends_at vs d u = list_any (is_end_at d u) vs

-- the parts that are there have the units that they had, and those that the address leads to
abbrev pub LeadsOn : Devices → Dva → List Visited → List Visited → Type 0
LeadsOn ds a old new = (d u : ℕ) → ends_at new d u ≡ (ends_at old d u || leads_to ds a d u)

-- they have just the units that the addresses lead to
abbrev pub AreEnds : Devices → List Dva → List Visited → Type 0
AreEnds ds list vs = (d u : ℕ) → ends_at vs d u ≡ is_live ds list d u

-- some unit of the address leads nowhere
abbrev pub HasLoose : Devices → Dva → Type 0
HasLoose ds a = (k : ℕ) × (k < a.len) × (resolved ds a.dev (a.start + k) ≡ None)

-- the units of the address below one
abbrev pub front_of : Dva → ℕ → Dva
front_of a end = if nat_le end a.start then record { dev = a.dev; start = 0; len = 0 } else record { dev = a.dev; start = a.start; len = min a.len (end - a.start) }
