-- A place is a device and a unit of it. What a root records of devices, read place by place.
use Rattle.std.specs.Prelude.{ℕ, zero, suc, ◌+◌, ◌==◌, Bool, true, false, ◌&&◌, ◌||◌, nat_le, nat_lt, List, [], ◌∷◌, map, slice_index_or, if◌then◌else◌, sum_by}
use Rattle.std.specs.List.{range_with_len}
use Rattle.zr_base.specs.declared.space.Dva.{Dva}
use Rattle.zr_base.specs.declared.space.LateRun.{LateRun}
use Rattle.zr_base.specs.declared.space.DevPart.{DevPart}
use Rattle.zr_base.specs.declared.space.DevState.{DevState}
use Rattle.zr_base.specs.declared.space.DevState.TheVariants.{On, Leaving, Gone}
use Rattle.zr_base.specs.Extents.{in_extent, has_unit}

-- a device and a unit
abbrev pub Place : Type 0
Place = ℕ × ℕ

-- the two places are one
abbrev pub is_place : Place → ℕ → ℕ → Bool
is_place p d u = p.0 == d && (p.1 == u)

abbrev pub one_if : Bool → ℕ
one_if b = if b then 1 else 0

-- for how many numbers below n the test holds
abbrev pub count_below : ℕ → (ℕ → Bool) → ℕ
count_below zero test = 0
count_below (suc n) test = count_below n test + one_if (test n)

abbrev pub is_on : DevState → Bool
is_on On = true
is_on _ = false

abbrev pub is_leaving : DevState → Bool
is_leaving Leaving = true
is_leaving _ = false

abbrev pub is_gone : DevState → Bool
is_gone Gone = true
is_gone _ = false

-- a device that was never there
abbrev pub no_part : DevPart
no_part = record { row = record { state = On; added = 0; units = 0; gone = 0 }; held = []; kept = []; entries = []; counts = []; fresh = []; late1 = []; late2 = [] }

-- what is recorded of a device
abbrev pub part_of : List DevPart → ℕ → DevPart
part_of parts d = slice_index_or parts d no_part

abbrev pub state_of_dev : List DevPart → ℕ → DevState
state_of_dev parts d = (part_of parts d).row.state

abbrev pub units_of_dev : List DevPart → ℕ → ℕ
units_of_dev parts d = (part_of parts d).row.units

-- the unit of the device is allocated
abbrev pub is_held : List DevPart → ℕ → ℕ → Bool
is_held parts d u = has_unit (part_of parts d).held u

-- only the checkpoint has it
abbrev pub is_kept : List DevPart → ℕ → ℕ → Bool
is_kept parts d u = has_unit (part_of parts d).kept u

-- it is obsolete, and not counted yet
abbrev pub is_fresh : List DevPart → ℕ → ℕ → Bool
is_fresh parts d u = has_unit (part_of parts d).fresh u

-- the unit is in a run of the late set
abbrev pub has_late : List LateRun → ℕ → Bool
has_late [] u = false
has_late (r ∷ runs) u = in_extent r.at u || has_late runs u

-- how often the unit is in a late set
abbrev pub hits_late : List LateRun → ℕ → ℕ
hits_late runs u = sum_by (λ (r : LateRun). one_if (in_extent r.at u)) runs

-- how often it is in the device's late sets
abbrev pub late_hits : List DevPart → ℕ → ℕ → ℕ
late_hits parts d u = hits_late (part_of parts d).late1 u + hits_late (part_of parts d).late2 u

-- the unit is one of the address
abbrev pub in_address : Dva → ℕ → ℕ → Bool
in_address a d u = a.dev == d && (nat_le a.start u && nat_lt u (a.start + a.len))

-- how many of the addresses have it
abbrev pub address_hits : List Dva → ℕ → ℕ → ℕ
address_hits list d u = sum_by (λ a. one_if (in_address a d u)) list

-- the places of an address in order
abbrev pub places_of : Dva → List Place
places_of a = map (λ u. (a.dev, u)) (range_with_len a.start a.len)
