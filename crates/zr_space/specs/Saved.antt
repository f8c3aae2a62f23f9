-- Metadata of the root that a checkpoint saved.
use Rattle.std.specs.Prelude.{ℕ, ◌<◌, [], ◌∷◌, sum_by}
use Rattle.zr_base.specs.declared.space.Dva.{Dva}
use Rattle.zr_rules.specs.Frees.{DropsMeta}
use Rattle.zr_rules.specs.Roles.Role.{SavedMeta}
use Rattle.zr_rules.specs.Space.{Space}
use Rattle.zr_space.specs.Drops.{IsMeta, HasRole, KeepsParts}

-- the address has metadata of the saved root
pub record IsSavedMeta (s : Space) (a : Dva) : Type 0 where
  pub is : IsMeta s a
  pub saved : HasRole s a SavedMeta

-- how many units of it there are
abbrev pub saved_left : Space → ℕ
saved_left s = sum_by (λ (a : Dva). a.len) s.saved_meta

-- a run of it is given back, so that less is left
pub record GivesSaved (old new : Space) : Type 0 where
  pub at : Dva
  pub saved : IsSavedMeta old at
  pub drops : DropsMeta old new (at ∷ [])
  pub parts : KeepsParts old new
  pub less : saved_left new < saved_left old
