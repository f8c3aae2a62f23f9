-- What the units of a root, or of an open pool, add up to. A root is a space of which nothing is open.
use Rattle.std.specs.Prelude.{◌≡◌, ℕ, ◌+◌, ◌<◌, ◌≤◌, Bool, false, true, not, ◌&&◌, nat_lt, List, map, length, slice_index, if◌then◌else◌, sum_by, Option, Some, None}
use Rattle.std.specs.List.{list_any}
use Rattle.zr_base.specs.declared.space.Dva.{Dva}
use Rattle.zr_base.specs.declared.space.Entry.{Entry}
use Rattle.zr_base.specs.declared.space.DevPart.{DevPart}
use Rattle.zr_base.specs.declared.space.SpaceParts.{SpaceParts}
use Rattle.zr_base.specs.Extents.{has_unit}
use Rattle.zr_rules.specs.Places.{one_if, count_below, is_leaving, is_gone, part_of, state_of_dev, units_of_dev, is_fresh}
use Rattle.zr_rules.specs.Mappings.{has_source, entry_at}
use Rattle.zr_rules.specs.Devices.{Devices, devices_of}
use Rattle.zr_rules.specs.Resolve.{resolve_hits, pass_hits, leads_to}
use Rattle.zr_rules.specs.Roles.{is_live_role, is_copy_role, is_kept_role, is_meta_role}
use Rattle.zr_rules.specs.Space.{Space, nothing_opened, role_at, frontier}

-- the space of a root
abbrev pub root_space : SpaceParts → List Dva → List Dva → Space
root_space parts meta saved_meta =
    record { parts = parts; opened = map (λ (p : DevPart). nothing_opened) parts.devs; synced = 0; meta = meta; saved_meta = saved_meta }

abbrev pub devices_in : Space → Devices
devices_in s = devices_of s.parts.devs

-- how many units of the pointers lead to the place
abbrev pub live_hits : Devices → List Dva → ℕ → ℕ → ℕ
live_hits ds live d u = sum_by (λ a. resolve_hits ds a d u) live

-- some pointer leads there
abbrev pub is_live : Devices → List Dva → ℕ → ℕ → Bool
is_live ds live d u = list_any (λ a. leads_to ds a d u) live

-- the unmarked copies are those of the live units of the device that is leaving that were copied
abbrev pub AreCopies : Space → List Dva → Type 0
AreCopies s live =
    (d u : ℕ) → is_leaving (state_of_dev s.parts.devs d) ≡ true →
    (has_source (part_of s.parts.devs d).entries u && not (is_fresh s.parts.devs d u)) ≡ (is_live (devices_in s) live d u && nat_lt u (frontier s d))

-- the root that a checkpoint saved: its devices, with their own mappings, and its pointers
pub record SavedRoot : Type 0 where
  pub devices : Devices
  pub live : List Dva

-- the kept units are those that the saved root has and no pointer leads to now
abbrev pub AreKept : Space → List Dva → Option SavedRoot → Type 0
AreKept s live None = Unit {0}
AreKept s live (Some saved) =
    (d u : ℕ) → is_kept_role (role_at s d u) ≡ (is_live saved.devices saved.live d u && not (is_live (devices_in s) live d u))

-- Live units are those to which the pointers lead, each once. Copies and kept units are exactly what they must be.
pub record Adds (s : Space) (live : List Dva) (saved : Option SavedRoot) : Type 0 where
  pub once : (d u : ℕ) → live_hits (devices_in s) live d u ≡ one_if (is_live_role (role_at s d u))
  pub copies : AreCopies s live
  pub kept : AreKept s live saved

-- how often the pointers pass a unit of a removed device
abbrev pub way_hits : Devices → List Dva → ℕ → ℕ → ℕ
way_hits ds live d u = sum_by (λ a. pass_hits ds a d u) live

-- the units of an entry that some pointer passes
abbrev pub ways_in : Devices → List Dva → ℕ → Entry → ℕ
ways_in ds live d e = count_below e.len (λ k. nat_lt 0 (way_hits ds live d (e.src + k)))

-- and those that are obsolete and not counted yet
abbrev pub fresh_in : DevPart → Entry → ℕ
fresh_in p e = count_below e.len (λ k. has_unit p.fresh (e.src + k))

-- No pointer passes an obsolete unit, and no entry has more obsolete and passed units than units.
pub record Spends (s : Space) (live : List Dva) : Type 0 where
  pub passed : (d u : ℕ) → 0 < way_hits (devices_in s) live d u → is_fresh s.parts.devs d u ≡ false
  pub entries : (d i : ℕ) → is_gone (state_of_dev s.parts.devs d) ≡ true → i < length (part_of s.parts.devs d).entries →
      slice_index (part_of s.parts.devs d).counts i + fresh_in (part_of s.parts.devs d) (entry_at (part_of s.parts.devs d).entries i)
      + ways_in (devices_in s) live d (entry_at (part_of s.parts.devs d).entries i) ≤ (entry_at (part_of s.parts.devs d).entries i).len

-- how many different units of a device a walk finds: those that pointers lead to, copies, and metadata
abbrev pub walked : Space → List Dva → ℕ → ℕ
walked s live d =
    count_below (units_of_dev s.parts.devs d) (λ u. if is_live (devices_in s) live d u then true else (if is_copy_role (role_at s d u) then true else is_meta_role (role_at s d u)))
