-- The space of an open pool, and the role of each of its units.
use Rattle.std.specs.Prelude.{◌≡◌, ℕ, ◌+◌, ◌-◌, ◌≤◌, ◌==◌, Bool, true, false, not, ◌&&◌, ◌||◌, nat_le, nat_lt, List, [], ◌∷◌, length, slice_index_or, if◌then◌else◌, sum_by}
use Rattle.zr_base.specs.declared.space.Extent.{Extent}
use Rattle.zr_base.specs.declared.space.Dva.{Dva}
use Rattle.zr_base.specs.declared.space.Entry.{Entry}
use Rattle.zr_base.specs.declared.space.LateRun.{LateRun}
use Rattle.zr_base.specs.declared.space.DevPart.{DevPart}
use Rattle.zr_base.specs.declared.space.SpaceParts.{SpaceParts}
use Rattle.zr_base.specs.Extents.{in_extent, has_unit, IsMaximal, EndsBy}
use Rattle.zr_rules.specs.Places.{one_if, is_leaving, is_gone, part_of, state_of_dev, units_of_dev, is_held, is_kept, is_fresh, hits_late, address_hits}
use Rattle.zr_rules.specs.Mappings.{end_of_last}
use Rattle.zr_rules.specs.Roles.{Role}
use Rattle.zr_rules.specs.Roles.Role.{Absent, Free, FreshLive, Live, FreshCopy, Copy, Kept, DeferredBlock, DeferredMeta, Late1Block, Late1Meta, Late2Block, Late2Meta, Meta, SavedMeta}

-- what the open group changed in a set whose log a root keeps: the units that came to it, and those that went
pub record Gained : Type 0 where
  pub came : List Extent
  pub went : List Extent

abbrev pub nothing_gained : Gained
nothing_gained = record { came = []; went = [] }

-- What the open group did on a device: the units that it allocated and still has, the block units of earlier groups that it freed, the metadata units that
-- its commit gave back, and what it changed in the set of kept units and in that of fresh obsolete units.
pub record OpenSets : Type 0 where
  pub born : List Extent
  pub deferred : List Extent
  pub dropped : List Extent
  pub kept : Gained
  pub fresh : Gained

abbrev pub nothing_opened : OpenSets
nothing_opened = record { born = []; deferred = []; dropped = []; kept = nothing_gained; fresh = nothing_gained }

-- The space of an open pool: what the next root records, what the open group did on each device, the end of the last committed entry of the device that is
-- leaving, and the metadata units of the current and of the saved root.
pub record Space : Type 0 where
  pub parts : SpaceParts
  pub opened : List OpenSets
  pub synced : ℕ
  pub meta : List Dva
  pub saved_meta : List Dva

abbrev pub opened_of : Space → ℕ → OpenSets
opened_of s d = slice_index_or s.opened d nothing_opened

-- the unit was allocated in the open group
abbrev pub is_born : Space → ℕ → ℕ → Bool
is_born s d u = has_unit (opened_of s d).born u

-- the current root has the unit as held: the open group did not allocate it, and may have freed it
abbrev pub was_held : Space → ℕ → ℕ → Bool
was_held s d u = (is_held s.parts.devs d u && not (is_born s d u)) || has_unit (opened_of s d).deferred u

-- a unit that is or is not in the set now was in it at the group's start
abbrev pub was_in : Bool → Gained → ℕ → Bool
was_in now g u = (now && not (has_unit g.came u)) || has_unit g.went u

-- the current root has the unit as kept
abbrev pub was_kept : Space → ℕ → ℕ → Bool
was_kept s d u = was_in (is_kept s.parts.devs d u) (opened_of s d).kept u

-- it has it as obsolete and not counted yet
abbrev pub was_fresh : Space → ℕ → ℕ → Bool
was_fresh s d u = was_in (is_fresh s.parts.devs d u) (opened_of s d).fresh u

-- up to where the device is copied, synced or not
abbrev pub frontier : Space → ℕ → ℕ
frontier s d = end_of_last (part_of s.parts.devs d).entries

-- the unit of the device is to be copied yet
abbrev pub is_uncopied : Space → ℕ → ℕ → Bool
is_uncopied s d u = is_leaving (state_of_dev s.parts.devs d) && (is_held s.parts.devs d u && nat_le (frontier s d) u)

-- the entry has put an unmarked unit there
abbrev pub is_copy_by : DevPart → ℕ → ℕ → Entry → Bool
is_copy_by p d u e = e.dev == d && (nat_le e.dst u && (nat_lt u (e.dst + e.len) && not (has_unit p.fresh (e.src + (u - e.dst)))))

-- how many unmarked copies of a leaving device's units are there
abbrev pub copy_hits : List DevPart → ℕ → ℕ → ℕ
copy_hits parts d u = sum_by (λ p. if is_leaving p.row.state then sum_by (λ e. one_if (is_copy_by p d u e)) p.entries else 0) parts

-- the unit is in a run of this kind
abbrev pub has_late : Bool → List LateRun → ℕ → Bool
has_late meta [] u = false
has_late meta (r ∷ runs) u = ((if meta then r.meta else not r.meta) && in_extent r.at u) || has_late meta runs u

-- the device is there, and has the unit
abbrev pub has_place : Space → ℕ → ℕ → Bool
has_place s d u = nat_lt d (length s.parts.devs) && (not (is_gone (state_of_dev s.parts.devs d)) && nat_lt u (units_of_dev s.parts.devs d))

-- what a held unit is
abbrev pub held_role : Space → ℕ → ℕ → Role
held_role s d u =
    if is_kept s.parts.devs d u then Kept
    else (if nat_lt 0 (copy_hits s.parts.devs d u) then (if is_born s d u then FreshCopy else Copy)
    else (if is_born s d u then FreshLive else Live))

-- what a unit that is not held is
abbrev pub other_role : Space → ℕ → ℕ → Role
other_role s d u =
    if has_unit (opened_of s d).deferred u then DeferredBlock
    else (if has_unit (opened_of s d).dropped u then DeferredMeta
    else (if has_late false (part_of s.parts.devs d).late1 u then Late1Block
    else (if has_late true (part_of s.parts.devs d).late1 u then Late1Meta
    else (if has_late false (part_of s.parts.devs d).late2 u then Late2Block
    else (if has_late true (part_of s.parts.devs d).late2 u then Late2Meta
    else (if nat_lt 0 (address_hits s.meta d u) then Meta
    else (if nat_lt 0 (address_hits s.saved_meta d u) then SavedMeta
    else Free)))))))

-- the role of each unit of each device
unfoldable pub role_at : Space → ℕ → ℕ → Role
role_at s d u = if not (has_place s d u) then Absent else (if is_held s.parts.devs d u then held_role s d u else other_role s d u)

-- in how many of the sets that must be apart the unit is
abbrev pub set_hits : Space → ℕ → ℕ → ℕ
set_hits s d u =
    one_if (is_held s.parts.devs d u) + one_if (has_unit (opened_of s d).deferred u) + one_if (has_unit (opened_of s d).dropped u)
    + hits_late (part_of s.parts.devs d).late1 u + hits_late (part_of s.parts.devs d).late2 u + address_hits s.meta d u + address_hits s.saved_meta d u

-- the extents are the one list of their set, and lie within so many units
pub record IsSet (units : ℕ) (es : List Extent) : Type 0 where
  pub maximal : IsMaximal es
  pub within : EndsBy units es

-- each set of a device is kept as its maximal extents
pub record HasSets (p : DevPart) (o : OpenSets) : Type 0 where
  pub held : IsSet p.row.units p.held
  pub kept : IsSet p.row.units p.kept
  pub fresh : IsSet p.row.units p.fresh
  pub born : IsSet p.row.units o.born
  pub deferred : IsSet p.row.units o.deferred
  pub dropped : IsSet p.row.units o.dropped
  pub kept_came : IsSet p.row.units o.kept.came
  pub kept_went : IsSet p.row.units o.kept.went
  pub fresh_came : IsSet p.row.units o.fresh.came
  pub fresh_went : IsSet p.row.units o.fresh.went

-- Each unit has one use at most, so that its role tells all. Kept units, copies and what the open group allocated are held, and no copy is kept or there twice.
pub record IsLawful (s : Space) : Type 0 where
  pub devices : length s.opened ≡ length s.parts.devs
  pub sets : (d : ℕ) → HasSets (part_of s.parts.devs d) (opened_of s d)
  pub once : (d u : ℕ) → set_hits s d u ≤ one_if (has_place s d u)
  pub copies : (d u : ℕ) → copy_hits s.parts.devs d u + one_if (is_kept s.parts.devs d u) ≤ one_if (is_held s.parts.devs d u)
  pub born : (d u : ℕ) → is_born s d u ≡ true → is_held s.parts.devs d u ≡ true
