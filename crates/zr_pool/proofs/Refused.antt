-- Refusals that are passed on.
use Rattle.std.proofs.Common.{◌≡◌, ◌⊎◌, inl, inr, ℕ, List, Result, Ok, Err, refl, sym, ◌∙◌, subst}
use Rattle.zr_base.specs.declared.refusal.Refusal.{Refusal}
use Rattle.zr_change.specs.declared.ranges.Edit.{Edit}
use Rattle.zr_lines.specs.Causes.{IsLookRefusal, IsUndone}
use Rattle.zr_lines.specs.declared.range.Reach.{Reach}
use Rattle.zr_rules.specs.Columns.{free_units}
use Rattle.zr_sync.specs.declared.fault.Fault.{Fault}
use Rattle.zr_sync.specs.declared.fault.Fault.TheVariants.{No}
use Rattle.zr_sync.specs.declared.open.OpenPool.{OpenPool}
use Rattle.zr_create.specs.Refusals.{ChecksNext}
use Rattle.zr_base.specs.declared.refusal.Refusal.TheVariants as refusal
use Rattle.zr_base.specs.declared.space.CkptPart.{CkptPart}
use Rattle.zr_base.specs.declared.space.CkptPart.TheVariants.{Clear, Held, Discarding}
use Rattle.zr_lines.specs.Refusals.{IsKeptRefusal, IsTakeRefusal, IsGiveRefusal, IsStepRefusal}
use Rattle.zr_model.specs.State.{PoolState}
use Rattle.zr_lines.specs.Answers.{IsAnswered}
use Rattle.zr_sync.specs.States.{HasCheckpoint}
use Rattle.zr_model.specs.Runs.{Shelf}
use Rattle.zr_open.specs.Groups.{ShowsNotKept}
use Rattle.zr_open.specs.Rewound.{ShowsNoSaved}
use Rattle.zr_script.specs.declared.command.Command.TheVariants as cmd
use Rattle.zr_pool.specs.Plain.{IsCheckpointCause, IsOpeningCause}
use Rattle.zr_removal.specs.Refusals.{IsMayRefusal}
use Rattle.zr_removal.specs.Refusals as removal
use Rattle.zr_rules.specs.Space.{Space}
use Rattle.zr_pool.specs.Turns.{IsAddRefusal, IsChangeRefusal, IsCheckpointRefusal, IsDiscardRefusal, IsRemoveRefusal}

-- the fault that was passed on
pub fault_same : {B : Type 0} (e f : Fault) (r : Refusal) (result : Result B Fault) → result ≡ Err f → f ≡ e → result ≡ Err (No r) → e ≡ No r
fault_same e f r result was same is = cc

pub change_refusal : (told : Type 0) (reach : Reach) (id : ℕ) (e : Edit) (old : OpenPool) (disks : List (List ℕ)) (new : OpenPool) (r : Refusal)
    → IsLookRefusal r ⊎ IsUndone told reach id e old disks new r → IsChangeRefusal r
change_refusal told reach id e old disks new r (inl h) = inl h
change_refusal told reach id e old disks new r (inr h) = elim h.cause [
  | inl short ↦ inr (inl (short.needed, free_units new.space, short.is))
  | inr long ↦ inr (inr (h.intent.rec.units, long.longest, long.is))
]

first_same : (e r : Refusal) (result : Result (Unit {0}) Refusal) → result ≡ Err e → result ≡ Err r → r ≡ e
first_same e r result is was = cc

pub add_refusal : (sizes : List ℕ) (tells : Type 0) (disks : List (List ℕ)) (pool : OpenPool) (slot : ℕ) (r : Refusal) → ChecksNext sizes tells disks pool slot (Err r) → IsAddRefusal r
add_refusal sizes tells disks pool slot r checks = elim checks.checks [
  | inr failed ↦ subst (λ (e : Refusal). IsAddRefusal e) (sym (first_same failed.0 r (Err r) failed.2 refl ∙ failed.1.2)) tt
  | inl sized ↦ elim sized.2 [
    | inr failed ↦ subst (λ (e : Refusal). IsAddRefusal e) (sym (first_same failed.0 r (Err r) failed.2 refl ∙ failed.1.2)) tt
    | inl unused ↦ elim unused.2 [
      | inr failed ↦ subst (λ (e : Refusal). IsAddRefusal e) (sym (first_same failed.0 r (Err r) failed.2 refl ∙ failed.1.2)) tt
      | inl alone ↦ subst (λ (e : Refusal). IsAddRefusal e) (sym alone.2.1) refl
    ]
  ]
]

-- a refusal is an answer, and so is what was done
pub answered_no : {T : Type 0} (result : Result T Fault) (r : Refusal) → result ≡ Err (No r) → IsAnswered result
answered_no result r is = subst IsAnswered (sym is) tt

pub answered_ok : {T : Type 0} {x : T} (result : Result T Fault) → result ≡ Ok x → IsAnswered result
answered_ok result is = subst IsAnswered (sym is) tt

-- ---- a checkpoint

-- why none is taken
kept_cause : (part : CkptPart) (p : PoolState) (pool : OpenPool) (r : Refusal) → HasCheckpoint part p.saved p.discarding → IsKeptRefusal pool part r → IsCheckpointCause p r
kept_cause Clear p pool r h is = subst (IsCheckpointCause p) (sym is.is) tt
kept_cause (Held txg) p pool r h is = subst (IsCheckpointCause p) (sym is) h.0
kept_cause Discarding p pool r h is = subst (IsCheckpointCause p) (sym is) h.1

pub take_cause : (part : CkptPart) (p : PoolState) (pool : OpenPool) (r : Refusal) → HasCheckpoint part p.saved p.discarding → IsTakeRefusal pool part r → IsCheckpointCause p r
take_cause part p pool r h (inl leaves) = subst (IsCheckpointCause p) (sym leaves.is) tt
take_cause part p pool r h (inr kept) = kept_cause part p pool r h kept.1

kept_refusal : (part : CkptPart) (pool : OpenPool) (r : Refusal) → IsKeptRefusal pool part r → IsCheckpointRefusal r
kept_refusal Clear pool r is = subst IsCheckpointRefusal (sym is.is) is.less
kept_refusal (Held txg) pool r is = subst IsCheckpointRefusal (sym is) tt
kept_refusal Discarding pool r is = subst IsCheckpointRefusal (sym is) tt

pub take_refusal : (part : CkptPart) (pool : OpenPool) (r : Refusal) → IsTakeRefusal pool part r → IsCheckpointRefusal r
take_refusal part pool r (inl leaves) = subst IsCheckpointRefusal (sym leaves.is) tt
take_refusal part pool r (inr kept) = kept_refusal part pool r kept.1

-- why none is given up
pub give_cause : (part : CkptPart) (p : PoolState) (pool : OpenPool) (r : Refusal) → HasCheckpoint part p.saved p.discarding → IsGiveRefusal pool part r → IsCheckpointCause p r
give_cause Clear p pool r h is = subst (IsCheckpointCause p) (sym is) h
give_cause (Held txg) p pool r h is = subst (IsCheckpointCause p) (sym is.is) tt
give_cause Discarding p pool r h is = subst (IsCheckpointCause p) (sym is) h.1

pub give_refusal : (part : CkptPart) (pool : OpenPool) (r : Refusal) → IsGiveRefusal pool part r → IsDiscardRefusal r
give_refusal Clear pool r is = subst IsDiscardRefusal (sym is) tt
give_refusal (Held txg) pool r is = subst IsDiscardRefusal (sym is.is) tt
give_refusal Discarding pool r is = subst IsDiscardRefusal (sym is) tt

-- why there is nothing to do
pub step_cause : (part : CkptPart) (p : PoolState) (r : Refusal) → HasCheckpoint part p.saved p.discarding → IsStepRefusal part r → IsCheckpointCause p r
step_cause Clear p r h is = subst (IsCheckpointCause p) (sym is) h.1
step_cause (Held txg) p r h is = subst (IsCheckpointCause p) (sym is) h.1
step_cause Discarding p r h is = absurd is

pub step_refusal : (part : CkptPart) (r : Refusal) → IsStepRefusal part r → r ≡ refusal.NothingToDo
step_refusal Clear r is = is
step_refusal (Held txg) r is = is
step_refusal Discarding r is = absurd is

-- ---- a pool that is made or opened

-- to go back is refused for want of a checkpoint where none is shown
pub rewind_cause : (shelf : Shelf) (r : Refusal) → (r ≡ refusal.NoCheckpoint → ShowsNoSaved shelf.paths shelf.disks) → IsOpeningCause shelf cmd.ImportRewind r
rewind_cause shelf refusal.NoCheckpoint why = why refl
rewind_cause shelf r why = tt

-- and a group where it is not kept
pub group_cause : (shelf : Shelf) (txg : ℕ) (r : Refusal) → ((oldest : ℕ) → r ≡ refusal.GroupNotKept oldest → ShowsNotKept shelf.disks txg oldest) → IsOpeningCause shelf (cmd.ImportTxg txg) r
group_cause shelf txg (refusal.GroupNotKept oldest) why = why oldest refl
group_cause shelf txg r why = tt

-- ---- a removal

-- why no removal begins
pub may_cause : (s : Space) (part : CkptPart) (p : PoolState) (r : Refusal) → HasCheckpoint part p.saved p.discarding → IsMayRefusal s part r → IsCheckpointCause p r
may_cause s Clear p r h is = subst (IsCheckpointCause p) (sym is.0) tt
may_cause s (Held txg) p r h is = subst (IsCheckpointCause p) (sym is) h.0
may_cause s Discarding p r h is = subst (IsCheckpointCause p) (sym is) h.1

pub may_refusal : (s : Space) (part : CkptPart) (r : Refusal) → IsMayRefusal s part r → IsRemoveRefusal r
may_refusal s Clear r is = subst IsRemoveRefusal (sym is.0) tt
may_refusal s (Held txg) r is = subst IsRemoveRefusal (sym is) tt
may_refusal s Discarding r is = subst IsRemoveRefusal (sym is) tt

pub remove_cause : (pool : OpenPool) (d : ℕ) (p : PoolState) (r : Refusal) → removal.IsRemoveRefusal pool d r → IsCheckpointCause p r
remove_cause pool d p r (inl only) = subst (IsCheckpointCause p) (sym only.0) tt
remove_cause pool d p r (inr short) = subst (IsCheckpointCause p) (sym short.is) tt

pub remove_refusal : (pool : OpenPool) (d : ℕ) (r : Refusal) → removal.IsRemoveRefusal pool d r → IsRemoveRefusal r
remove_refusal pool d r (inl only) = subst IsRemoveRefusal (sym only.0) tt
remove_refusal pool d r (inr short) = subst IsRemoveRefusal (sym short.is) short.less
