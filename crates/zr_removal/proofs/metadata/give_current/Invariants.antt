use Rattle.std.proofs.Common.{◌≡◌, ℕ, ◌+◌, false, [], if◌then◌else◌}
use Rattle.zr_rules.specs.Roles.{is_meta_role}
use Rattle.zr_rules.specs.Space.{role_at}
use Rattle.zr_space.specs.Metadata.{meta_left}
use Rattle.zr_removal.specs.Metadata.{GivesMetadata}
use Rattle.zr_removal.proofs.metadata.give_current.Given as goal

abbrev pub invariant-loop-more : goal.invariant-loop-more
invariant-loop-more l = record {
  gives : GivesMetadata l.fn.space l.space;
  unsaved : l.space.saved_meta ≡ [];
  none : l.more ≡ false → (u : ℕ) → is_meta_role (role_at l.space l.dev u) ≡ false;
  idle : ((u : ℕ) → is_meta_role (role_at l.fn.space l.dev u) ≡ false) → l.space ≡ l.fn.space;
}

abbrev pub decreases-loop-more : goal.decreases-loop-more
decreases-loop-more l = meta_left l.space + (if l.more then 1 else 0)
