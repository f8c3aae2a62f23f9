-- What allocations and frees do to the space.
use Rattle.std.specs.Prelude.{◌≡◌, ℕ, ◌+◌, ◌-◌, Bool, false, ◌&&◌, ◌||◌, nat_le, nat_lt, List, [], ◌∷◌, length, if◌then◌else◌}
use Rattle.std.specs.List.{list_any}
use Rattle.zr_base.specs.declared.space.Dva.{Dva}
use Rattle.zr_base.specs.declared.space.Entry.{Entry}
use Rattle.zr_base.specs.declared.space.DevPart.{DevPart}
use Rattle.zr_base.specs.declared.space.Policy.{Policy}
use Rattle.zr_base.specs.declared.space.CkptPart.{CkptPart}
use Rattle.zr_base.specs.declared.space.CkptPart.TheVariants.{Held}
use Rattle.zr_rules.specs.Places.{one_if, is_leaving, part_of, state_of_dev, is_fresh, in_address, address_hits}
use Rattle.zr_rules.specs.Resolve.{leads_to, passes}
use Rattle.zr_rules.specs.Placement.{IsPlacement}
use Rattle.zr_rules.specs.Roles.{Role, freed, kept_of, dropped}
use Rattle.zr_rules.specs.Roles.Role.{FreshLive, Meta}
use Rattle.zr_rules.specs.Space.{Space, role_at, frontier, is_copy_by, was_held, was_kept, was_fresh, IsLawful}
use Rattle.zr_rules.specs.Columns.{free_of}
use Rattle.zr_rules.specs.Equation.{devices_in}

-- while a checkpoint is held, what its root may have is kept
abbrev pub keeps : CkptPart → ℕ → Bool
keeps (Held txg) birth = nat_le birth txg
keeps _ birth = false

-- the row, the mapping and the late sets of a device are the same
pub record IsSamePart (old new : DevPart) : Type 0 where
  pub row : new.row ≡ old.row
  pub entries : new.entries ≡ old.entries
  pub counts : new.counts ≡ old.counts
  pub late1 : new.late1 ≡ old.late1
  pub late2 : new.late2 ≡ old.late2

-- what the current root has as held, as kept and as obsolete is the same
pub record IsSameRoot (old new : Space) : Type 0 where
  pub held : (d u : ℕ) → was_held new d u ≡ was_held old d u
  pub kept : (d u : ℕ) → was_kept new d u ≡ was_kept old d u
  pub fresh : (d u : ℕ) → was_fresh new d u ≡ was_fresh old d u

-- Each device, the checkpoint, the condensing, the frontier and the current root's sets are the same, and what was lawful stays so.
pub record IsSameFrame (old new : Space) : Type 0 where
  pub version : new.parts.version ≡ old.parts.version
  pub cond : new.parts.cond ≡ old.parts.cond
  pub ckpt : new.parts.ckpt ≡ old.parts.ckpt
  pub synced : new.synced ≡ old.synced
  pub saved_meta : new.saved_meta ≡ old.saved_meta
  pub devices : length new.parts.devs ≡ length old.parts.devs
  pub each : (d : ℕ) → IsSamePart (part_of old.parts.devs d) (part_of new.parts.devs d)
  pub root : IsSameRoot old new
  pub lawful : IsLawful old → IsLawful new

-- nothing is marked obsolete
abbrev pub MarksNothing : Space → Space → Type 0
MarksNothing old new = (d u : ℕ) → is_fresh new.parts.devs d u ≡ is_fresh old.parts.devs d u

-- an allocation for a block: units where the policy places them, which the open group has from now on
pub record Allocates (policy : Policy) (want : ℕ) (old new : Space) (at : Dva) : Type 0 where
  pub place : IsPlacement (free_of old) policy want at
  pub roles : (d u : ℕ) → role_at new d u ≡ (if in_address at d u then FreshLive else role_at old d u)
  pub fresh : MarksNothing old new
  pub meta : new.meta ≡ old.meta
  pub frame : IsSameFrame old new

-- an allocation for metadata
pub record AllocatesMeta (policy : Policy) (want : ℕ) (old new : Space) (at : Dva) : Type 0 where
  pub place : IsPlacement (free_of old) policy want at
  pub roles : (d u : ℕ) → role_at new d u ≡ (if in_address at d u then Meta else role_at old d u)
  pub fresh : MarksNothing old new
  pub meta : (d u : ℕ) → address_hits new.meta d u ≡ address_hits old.meta d u + one_if (in_address at d u)
  pub frame : IsSameFrame old new

-- the addresses have the unit
abbrev pub in_any : List Dva → ℕ → ℕ → Bool
in_any [] d u = false
in_any (a ∷ list) d u = in_address a d u || in_any list d u

-- metadata units are given back
pub record DropsMeta (old new : Space) (list : List Dva) : Type 0 where
  pub roles : (d u : ℕ) → role_at new d u ≡ (if in_any list d u then dropped (role_at old d u) else role_at old d u)
  pub fresh : MarksNothing old new
  pub meta : (d u : ℕ) → address_hits new.meta d u + address_hits new.saved_meta d u + address_hits list d u ≡ address_hits old.meta d u + address_hits old.saved_meta d u

-- the address leads to a unit of the leaving device that was copied, and whose copy is there
abbrev pub leads_to_copied : Space → Dva → DevPart → ℕ → ℕ → ℕ → Entry → Bool
leads_to_copied s a p source d u e = is_copy_by p d u e && leads_to (devices_in s) a source (e.src + (u - e.dst))

abbrev pub copy_from : Space → Dva → ℕ → List DevPart → ℕ → ℕ → Bool
copy_from s a source [] d u = false
copy_from s a source (p ∷ parts) d u = (is_leaving p.row.state && list_any (leads_to_copied s a p source d u) p.entries) || copy_from s a (source + 1) parts d u

-- the unit has a copy of a unit of the address
abbrev pub is_copy_of : Space → Dva → ℕ → ℕ → Bool
is_copy_of s a d u = copy_from s a 0 s.parts.devs d u

-- What becomes of a unit where a block of this birth is freed: the units to which its address leads are kept if the checkpoint may have them, and are else freed.
-- On a device that is leaving the copies of those that were copied are freed too, in flight or not.
abbrev pub freed_role : Space → Dva → ℕ → ℕ → ℕ → Role
freed_role s a birth d u =
    if leads_to (devices_in s) a d u then (if keeps s.parts.ckpt birth then kept_of (role_at s d u) else freed (role_at s d u))
    else (if is_copy_of s a d u then freed (role_at s d u) else role_at s d u)

-- the units that a free marks obsolete: those passed on removed devices, and of the leaving device those that were copied
abbrev pub marks : Space → Dva → ℕ → ℕ → Bool
marks s a d u = passes (devices_in s) a d u || (is_leaving (state_of_dev s.parts.devs d) && (leads_to (devices_in s) a d u && nat_lt u (frontier s d)))

-- a block is freed
pub record Frees (old new : Space) (a : Dva) (birth : ℕ) : Type 0 where
  pub roles : (d u : ℕ) → role_at new d u ≡ freed_role old a birth d u
  pub fresh : (d u : ℕ) → is_fresh new.parts.devs d u ≡ (is_fresh old.parts.devs d u || marks old a d u)
  pub meta : new.meta ≡ old.meta
  pub frame : IsSameFrame old new

-- one change after another
abbrev pub Chain : {A S : Type 0} → (A → S → S → Type 0) → List A → S → S → Type 0
Chain Change [] old new = new ≡ old
Chain {A} {S} Change (x ∷ xs) old new = (mid : S) × Change x old mid × Chain Change xs mid new
