-- Kept extents that are given back.
use Rattle.std.specs.Prelude.{◌≡◌, ◌⊎◌, ℕ, ◌<◌, true, false, List, [], ◌∷◌, length, map}
use Rattle.zr_base.specs.declared.space.Extent.{Extent}
use Rattle.zr_base.specs.Extents.{in_extent}
use Rattle.zr_rules.specs.Roles.{discarded, is_kept_role}
use Rattle.zr_rules.specs.Space.{Space, role_at}
use Rattle.zr_rules.specs.Frees.{IsSameFrame}
use Rattle.zr_rules.specs.Steps.{is_among}

-- the extents, each with its device
abbrev pub on_device : ℕ → List Extent → List (ℕ × Extent)
on_device d es = map (λ (e : Extent). (d, e)) es

-- the extents are not empty, and no unit is in two of them
abbrev pub AreApart : List (ℕ × Extent) → Type 0
AreApart [] = Unit {0}
AreApart (p ∷ ps) = (0 < p.1.len) × ((u : ℕ) → in_extent p.1 u ≡ true → is_among ps p.0 u ≡ false) × AreApart ps

-- each of the extents lies on a device of the pool
abbrev pub AreKnown : ℕ → List (ℕ × Extent) → Type 0
AreKnown devices [] = Unit {0}
AreKnown devices (p ∷ ps) = (p.0 < devices) × AreKnown devices ps

-- the extents are kept, each once
pub record CanDiscard (s : Space) (es : List (ℕ × Extent)) : Type 0 where
  pub known : AreKnown (length s.parts.devs) es
  pub apart : AreApart es
  pub kept : (d u : ℕ) → is_among es d u ≡ true → is_kept_role (role_at s d u) ≡ true

-- some kept units are given back, or none, and nothing else is changed
pub record DiscardsPart (old new : Space) : Type 0 where
  pub roles : (d u : ℕ) → (role_at new d u ≡ role_at old d u) ⊎ (role_at new d u ≡ discarded (role_at old d u))
  pub meta : new.meta ≡ old.meta
  pub frame : IsSameFrame old new
