-- A copy of units of a device that is leaving: where they go, and the entry for them.
use Rattle.std.specs.Prelude.{◌≡◌, ℕ, ◌≤◌, ◌<◌, true, false, [], ◌∷◌, ◌++◌, length, min, Some, if◌then◌else◌}
use Rattle.zr_base.specs.declared.space.DevState.TheVariants.{On}
use Rattle.zr_base.specs.declared.space.Extent.{Extent}
use Rattle.zr_base.specs.declared.space.Policy.{Policy}
use Rattle.zr_base.specs.Extents.{in_extent, first_part_from}
use Rattle.zr_rules.specs.Places.{is_leaving, part_of, state_of_dev, in_address}
use Rattle.zr_rules.specs.Space.{Space, role_at, frontier, is_uncopied}
use Rattle.zr_rules.specs.Roles.{is_held_role}
use Rattle.zr_rules.specs.Roles.Role.{Free, FreshCopy}
use Rattle.zr_rules.specs.Steps.{IsFirstHalf, IsSameElsewhere}
use Rattle.zr_space.specs.declared.copy.Plan.{Plan}

-- the device is leaving, and this is its lowest extent that is to be copied yet
pub record IsLowestOf (s : Space) (d : ℕ) (front : Extent) : Type 0 where
  pub leaving : is_leaving (state_of_dev s.parts.devs d) ≡ true
  pub lowest : first_part_from (frontier s d) (part_of s.parts.devs d).held ≡ Some front
  pub some : 0 < front.len
  pub above : frontier s d ≤ front.start
  pub gap : (u : ℕ) → frontier s d ≤ u → u < front.start → is_held_role (role_at s d u) ≡ false
  pub held : (u : ℕ) → in_extent front u ≡ true → is_held_role (role_at s d u) ≡ true

-- The device is leaving, and the units are those that it holds from its frontier on. As many free units of a device in service are to have them.
pub record IsPlan (s : Space) (d : ℕ) (p : Plan) : Type 0 where
  pub leaving : is_leaving (state_of_dev s.parts.devs d) ≡ true
  pub above : frontier s d ≤ p.from.start
  pub gap : (u : ℕ) → frontier s d ≤ u → u < p.from.start → is_held_role (role_at s d u) ≡ false
  pub held : (u : ℕ) → in_extent p.from u ≡ true → is_held_role (role_at s d u) ≡ true
  pub some : 0 < p.from.len
  pub few : p.from.len ≤ 256
  pub len : p.to.len ≡ p.from.len
  pub known : p.to.dev < length s.parts.devs
  pub on : state_of_dev s.parts.devs p.to.dev ≡ On
  pub free : (u : ℕ) → in_address p.to p.to.dev u ≡ true → role_at s p.to.dev u ≡ Free

-- a front of the lowest extent that is to be copied yet, and the place for it
pub record Plans (policy : Policy) (s : Space) (d : ℕ) (p : Plan) : Type 0 where
  pub front : Extent
  pub lowest : IsLowestOf s d front
  pub start : p.from.start ≡ front.start
  pub half : IsFirstHalf s policy (min 256 front.len) p.to.len p.to
  pub plan : IsPlan s d p

-- the place has copies, and the entry says so
pub record MakesCopy (old new : Space) (d : ℕ) (p : Plan) : Type 0 where
  pub row_is : (part_of new.parts.devs d).row ≡ (part_of old.parts.devs d).row
  pub entries : (part_of new.parts.devs d).entries ≡ (part_of old.parts.devs d).entries ++ record { src = p.from.start; dev = p.to.dev; dst = p.to.start; len = p.from.len } ∷ []
  pub counts : (part_of new.parts.devs d).counts ≡ (part_of old.parts.devs d).counts ++ 0 ∷ []
  pub fresh : (part_of new.parts.devs d).fresh ≡ (part_of old.parts.devs d).fresh
  pub synced : new.synced ≡ old.synced
  pub roles : (e u : ℕ) → role_at new e u ≡ (if in_address p.to e u then FreshCopy else role_at old e u)
  pub elsewhere : IsSameElsewhere old new d

-- nothing of a device is to be copied yet
abbrev pub IsCopied : Space → Type 0
IsCopied s = (d u : ℕ) → is_uncopied s d u ≡ false
