-- What is held stays where nothing is done to it.
use Rattle.std.proofs.Common.{◌≡◌, ℕ, ◌<◌, ◌==◌, Bool, true, false, List, length, Option, refl, sym, subst, arith, if◌then◌else◌}
use Rattle.std.proofs.lemmas.Bool.Decides.{nat_tests}
use Rattle.zr_base.specs.declared.space.CkptPart.{CkptPart}
use Rattle.zr_base.specs.declared.space.CkptPart.TheVariants.{Clear, Held, Discarding}
use Rattle.zr_moves.specs.Answers.{with_saved}
use Rattle.zr_script.specs.declared.command.Command.TheVariants as cmd
use Rattle.zr_script.specs.declared.reply.Reply.TheVariants as reply
use Rattle.zr_pool.specs.Turns.{IsOpenAnswer}
use Rattle.std.specs.FinMap as map
use Rattle.zr_change.specs.declared.ranges.Edit.{Edit}
use Rattle.zr_held.specs.Steps.{IsObjectOf}
use Rattle.zr_model.specs.Objects.{Object, Objects, with_bytes, changes_lost}
use Rattle.zr_model.specs.State.{PoolState, Saved, with_objects}
use Rattle.zr_vdev.proofs.Moves.{retold}
use Rattle.zr_vdev.specs.declared.kind.Kind.TheVariants.{Block}
use Rattle.std.specs.Prelude.{None, Some}
use Rattle.zr_sync.specs.Objects.{HoldsObjects}
use Rattle.zr_sync.specs.States.{HasCheckpoint, HoldsState}
use Rattle.zr_sync.specs.declared.open.OpenPool.{OpenPool}

-- what is held is held on a shelf that is told otherwise
objects_anew : (t1 t2 : Type 0) (disks : List (List ℕ)) (x : OpenPool) (objects : Objects) → t2 → HoldsObjects t1 disks x objects → HoldsObjects t2 disks x objects
objects_anew t1 t2 disks x objects told h = record { stored = h.stored; held = retold Block x.table.slots t1 t2 disks x.space None x.cache h.stored told h.held; has = h.has }

-- the same pool on the same disks
pub stays_still : (t1 t2 : Type 0) (d1 d2 : List (List ℕ)) (x y : OpenPool) (objects : Objects) → t2 → y ≡ x → d2 ≡ d1 → HoldsObjects t1 d1 x objects → HoldsObjects t2 d2 y objects
stays_still t1 t2 d1 d2 x y objects told pool disks h =
    subst (λ (p : OpenPool). HoldsObjects t2 d2 p objects) (sym pool) (subst (λ (d : List (List ℕ)). HoldsObjects t2 d x objects) (sym disks) (objects_anew t1 t2 d1 x objects told h))

pub told_anew : (t1 t2 : Type 0) (disks : List (List ℕ)) (x : OpenPool) (p : PoolState) → t2 → HoldsState t1 disks x p → HoldsState t2 disks x p
told_anew t1 t2 disks x p told h = record { objects = objects_anew t1 t2 disks x p.objects told h.objects; checkpoint = h.checkpoint }

-- a state whose checkpoint stands as it did
pub same_state : (t : Type 0) (disks : List (List ℕ)) (x y : OpenPool) (p q : PoolState) → HasCheckpoint x.space.parts.ckpt p.saved p.discarding → y.space.parts.ckpt ≡ x.space.parts.ckpt → q.saved ≡ p.saved → q.discarding ≡ p.discarding
    → HoldsObjects t disks y q.objects → HoldsState t disks y q
same_state t disks x y p q was ckpt saved discarding h = record {
  objects = h;
  checkpoint =
      subst (λ (k : CkptPart). HasCheckpoint k q.saved q.discarding) (sym ckpt)
      (subst (λ (s : Option Saved). HasCheckpoint x.space.parts.ckpt s q.discarding) (sym saved) (subst (λ (b : Bool). HasCheckpoint x.space.parts.ckpt p.saved b) (sym discarding) was));
}

-- so where the object was edited
pub edited_state : (t : Type 0) (disks : List (List ℕ)) (x y : OpenPool) (p : PoolState) (id : ℕ) (bytes : List ℕ) (e : Edit) → HasCheckpoint x.space.parts.ckpt p.saved p.discarding → y.space.parts.ckpt ≡ x.space.parts.ckpt → (In : Object → Type 0)
    → IsObjectOf p.objects id (λ o. In o × (changes_lost o e.off (length bytes) ≡ false) × HoldsObjects t disks y (map.insert p.objects id (with_bytes o e.off bytes)))
    → IsObjectOf p.objects id (λ o. In o × (changes_lost o e.off (length bytes) ≡ false) × HoldsState t disks y (with_objects p (map.insert p.objects id (with_bytes o e.off bytes))))
edited_state t disks x y p id bytes e was ckpt In h =
    (h.0, h.1, (h.2.0, h.2.1, same_state t disks x y p (with_objects p (map.insert p.objects id (with_bytes h.0 e.off bytes))) was ckpt refl refl h.2.2))

-- a checkpoint is held from now on
pub held_state : (t : Type 0) (disks : List (List ℕ)) (y : OpenPool) (p : PoolState) (saved : Saved) (txg : ℕ) → y.space.parts.ckpt ≡ Held txg → HoldsObjects t disks y p.objects → HoldsState t disks y (with_saved p (Some saved) false)
held_state t disks y p saved txg ckpt h = record { objects = h; checkpoint = subst (λ (k : CkptPart). HasCheckpoint k (Some saved) false) (sym ckpt) (refl, refl) }

-- it is being discarded
pub discarding_state : (t : Type 0) (disks : List (List ℕ)) (y : OpenPool) (p : PoolState) → y.space.parts.ckpt ≡ Discarding → HoldsObjects t disks y p.objects → HoldsState t disks y (with_saved p None true)
discarding_state t disks y p ckpt h = record { objects = h; checkpoint = subst (λ (k : CkptPart). HasCheckpoint k None true) (sym ckpt) (refl, refl) }

-- some of it was discarded, or the discarding has ended
pub stepped_state : (t : Type 0) (disks : List (List ℕ)) (x y : OpenPool) (p : PoolState) (b : Bool) → HasCheckpoint x.space.parts.ckpt p.saved p.discarding → x.space.parts.ckpt ≡ Discarding → y.space.parts.ckpt ≡ (if b then Clear else Discarding) → HoldsObjects t disks y p.objects
    → HoldsState t disks y (if b then with_saved p p.saved false else p)
stepped_state t disks x y p true was now ckpt h =
    let d : HasCheckpoint Discarding p.saved p.discarding = subst (λ (k : CkptPart). HasCheckpoint k p.saved p.discarding) now was in
    record { objects = h; checkpoint = subst (λ (k : CkptPart). HasCheckpoint k p.saved false) (sym ckpt) (d.0, refl) }
stepped_state t disks x y p false was now ckpt h =
    let d : HasCheckpoint Discarding p.saved p.discarding = subst (λ (k : CkptPart). HasCheckpoint k p.saved p.discarding) now was in
    record { objects = h; checkpoint = subst (λ (k : CkptPart). HasCheckpoint k p.saved p.discarding) (sym ckpt) d }

pub objects_anew_unit : (t : Type 0) (disks : List (List ℕ)) (x : OpenPool) (objects : Objects) → HoldsObjects t disks x objects → HoldsObjects (Unit {0}) disks x objects
objects_anew_unit t disks x objects h = objects_anew t (Unit {0}) disks x objects tt h

pub objects_told : (t : Type 0) (disks : List (List ℕ)) (x : OpenPool) (objects : Objects) → t → HoldsObjects (Unit {0}) disks x objects → HoldsObjects t disks x objects
objects_told t disks x objects told h = objects_anew (Unit {0}) t disks x objects told h

-- a step gives back some units, or none
pub step_answer : (units : ℕ) (b : Bool) → (b ≡ false → 0 < units) → IsOpenAnswer cmd.StepDiscard (if b then reply.Ended else reply.Freed units)
step_answer units true some = tt
step_answer units false some = some refl

pub some_units : (units : ℕ) → (units == 0) ≡ false → 0 < units
some_units units not_none = grind (arith, nat_tests, not_none)
