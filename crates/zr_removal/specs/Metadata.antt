-- Metadata that is given back.
use Rattle.std.specs.Prelude.{◌≡◌, ◌⊎◌, ℕ, true}
use Rattle.zr_rules.specs.Roles.{is_meta_role}
use Rattle.zr_rules.specs.Roles.Role.{DeferredMeta}
use Rattle.zr_rules.specs.Space.{Space, role_at}
use Rattle.zr_vdev.specs.Stores.{KeepsOthers}
use Rattle.zr_vdev.specs.declared.kind.Kind.TheVariants.{Meta}

-- some metadata is given back, and nothing else is changed
pub record GivesMetadata (old new : Space) : Type 0 where
  pub roles : (d u : ℕ) → (role_at new d u ≡ role_at old d u) ⊎ ((is_meta_role (role_at old d u) ≡ true) × (role_at new d u ≡ DeferredMeta))
  pub others : KeepsOthers Meta old new
