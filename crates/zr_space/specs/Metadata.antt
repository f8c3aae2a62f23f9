-- Metadata of the current root on one device.
use Rattle.std.specs.Prelude.{◌≡◌, ℕ, ◌+◌, ◌<◌, [], ◌∷◌, sum_by}
use Rattle.zr_base.specs.declared.space.Dva.{Dva}
use Rattle.zr_rules.specs.Columns.{late_meta_units, units_on}
use Rattle.zr_rules.specs.Frees.{DropsMeta}
use Rattle.zr_rules.specs.Places.{part_of}
use Rattle.zr_rules.specs.Roles.Role.{Meta}
use Rattle.zr_rules.specs.Space.{Space, role_at}
use Rattle.zr_space.specs.Drops.{IsMeta, HasRole, KeepsParts}

-- the address lies on the device, and has metadata of the current root
pub record IsMetaOn (s : Space) (d : ℕ) (a : Dva) : Type 0 where
  pub is : IsMeta s a
  pub dev : a.dev ≡ d
  pub current : HasRole s a Meta

-- its units on a device, with those of the two late sets
abbrev pub turning_on : Space → ℕ → ℕ
turning_on s d = units_on s.meta d + late_meta_units (part_of s.parts.devs d).late1 + late_meta_units (part_of s.parts.devs d).late2

-- no unit of the device has any
abbrev pub HasNoMeta : Space → ℕ → Type 0
HasNoMeta s d = (u : ℕ) → role_at s d u ≡ Meta → ⊥

-- how many units of it there are, on all devices
abbrev pub meta_left : Space → ℕ
meta_left s = sum_by (λ (a : Dva). a.len) s.meta

-- a run of it that lies on the device is given back, so that less is left
pub record GivesMeta (old new : Space) (d : ℕ) : Type 0 where
  pub at : Dva
  pub meta : IsMetaOn old d at
  pub drops : DropsMeta old new (at ∷ [])
  pub parts : KeepsParts old new
  pub saved : new.saved_meta ≡ old.saved_meta
  pub less : meta_left new < meta_left old
