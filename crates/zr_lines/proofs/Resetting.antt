-- What a line that ends with a reset wrote, wherever it stopped.
use Rattle.std.proofs.Common.{◌≡◌, ◌⊎◌, inl, inr, ℕ, true, false, List, refl, sym, ap, subst}
use Rattle.zr_base.specs.declared.space.CkptPart.TheVariants.{Discarding}
use Rattle.zr_last.proofs.Lasting.{same_devices}
use Rattle.zr_model.specs.Objects.{Objects}
use Rattle.zr_rules.specs.Roles.{Role, saved}
use Rattle.zr_rules.specs.Roles.Role.{DeferredMeta, Meta, SavedMeta}
use Rattle.zr_rules.specs.Space.{Space, role_at}
use Rattle.zr_rules.specs.Steps.{with_ckpt}
use Rattle.zr_shelf.specs.Moments.{World}
use Rattle.zr_sync.proofs.SavedRoots.{ckpt_role}
use Rattle.zr_sync.specs.Checkpoints.{DropsRoot, GivesSavedMeta, GivesUpInPart, SavesRoot, TakesInPart}
use Rattle.zr_sync.specs.Leads.{CommitsObjects}
use Rattle.zr_sync.specs.Pools.{IsOpen}
use Rattle.zr_sync.specs.Trees.{HasLastTrees}
use Rattle.zr_sync.specs.declared.open.OpenPool.{OpenPool}
use Rattle.zr_vdev.specs.Stores.{is_open_role}
use Rattle.zr_lines.proofs.Versions.{version_role}
use Rattle.zr_lines.specs.Stops.{OpensNoUnit, StaysInPlace, WritesReset}
use Rattle.zr_lines.specs.Upgrades.{renewed}

in_place : (old new : OpenPool) → OpensNoUnit old new → StaysInPlace old new
in_place old new opens = record { devices = same_devices old new opens.root; units = opens.units }

-- ---- a checkpoint is given up

-- the saved root's metadata waits, and is not free yet
open_before : (old new : Role) → (new ≡ old) ⊎ ((old ≡ SavedMeta) × (new ≡ DeferredMeta)) → is_open_role new ≡ true → is_open_role old ≡ true
open_before old new (inl same) is = subst (λ (r : Role). is_open_role r ≡ true) same is
open_before old new (inr (saved, deferred)) is = let no_way : false ≡ true = subst (λ (r : Role). is_open_role r ≡ true) deferred is in absurd cc

gives_open : (old new : Space) → GivesSavedMeta old new → (d u : ℕ) → is_open_role (role_at new d u) ≡ true → is_open_role (role_at old d u) ≡ true
gives_open old new h d u is = open_before (role_at old d u) (role_at new d u) (h.roles d u) is

pub dropped_opens : (old new : OpenPool) → DropsRoot old new → OpensNoUnit old new
dropped_opens old new h = record {
  root = record { last = ap (λ (p : OpenPool). p.last) h.rest; guid = ap (λ (p : OpenPool). p.guid) h.rest; table = ap (λ (p : OpenPool). p.table) h.rest };
  units = λ d u is. subst (λ (r : Role). is_open_role r ≡ true) (ckpt_role old.space Discarding d u) (gives_open (with_ckpt old.space Discarding) new.space h.gives d u is);
}

pub given_up : (sizes : List ℕ) (objects : Objects) (old : OpenPool) (before now : World) → GivesUpInPart sizes objects old before now → WritesReset ⊥ sizes objects old before now
given_up sizes objects old before now (inl nothing) = inl (inl nothing)
given_up sizes objects old before now (inr (dropped, ready, drops, commits)) = inl (inr (dropped, ready, in_place old dropped (dropped_opens old dropped drops), commits))

-- ---- a checkpoint is taken

-- what the saved root has is not free
saved_open : (r : Role) → is_open_role (saved r) ≡ true → is_open_role r ≡ true
saved_open Meta is = let no_way : false ≡ true = is in absurd cc
saved_open r is = is

held_opens : (old new : OpenPool) → SavesRoot old new → OpensNoUnit old new
held_opens old new h = record {
  root = record { last = ap (λ (p : OpenPool). p.last) h.rest; guid = ap (λ (p : OpenPool). p.guid) h.rest; table = ap (λ (p : OpenPool). p.table) h.rest };
  units = λ d u is. gives_open old.space h.given h.gives d u (saved_open (role_at h.given d u) (subst (λ (r : Role). is_open_role r ≡ true) (h.holds.roles d u) is));
}

pub taken : (sizes : List ℕ) (objects : Objects) (old : OpenPool) (before now : World) → TakesInPart sizes objects old before now → WritesReset (HasLastTrees before.now.seen old) sizes objects old before now
taken sizes objects old before now (inl commits) = inr (inl commits)
taken sizes objects old before now (inr more) = inr (inr (record { next = more.ended; start = more.mid; commits = more.first; resets = inr (more.held, more.ready, in_place more.ended more.held (held_opens more.ended more.held more.saves), more.second) }))

-- ---- a pool becomes one of the second version

renewed_opens : (old : OpenPool) → OpensNoUnit old (renewed old)
renewed_opens old = record {
  root = record { last = refl; guid = refl; table = refl };
  units = λ d u is. subst (λ (r : Role). is_open_role r ≡ true) (version_role old.space 2 d u) is;
}

pub upgraded : (Told : Type 0) (sizes : List ℕ) (objects : Objects) (old changed : OpenPool) (before now : World) → changed ≡ renewed old → IsOpen sizes changed → CommitsObjects Told sizes changed true objects before now → WritesReset Told sizes objects old before now
upgraded Told sizes objects old changed before now is ready commits = inl (inr (changed, ready, in_place old changed (subst (OpensNoUnit old) (sym is) (renewed_opens old)), commits))
