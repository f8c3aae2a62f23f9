-- Whether the trees of the pool's streams stand on the disks behind a line.
use Rattle.std.proofs.Common.{◌≡◌, ◌⊎◌, inl, inr, ℕ, List, Bool, true, false, Option, Some, None, Result, Ok, Err, refl, sym, subst}
use Rattle.std.specs.Prelude.{IfOk, IfSome, OnErr, OnOk, ◌&&◌, ◌||◌}
use Rattle.zr_base.specs.declared.refusal.Refusal.{Refusal}
use Rattle.zr_lines.specs.Stops.{StaysInOneGroup}
use Rattle.zr_model.specs.Objects.{Objects}
use Rattle.zr_model.specs.State.{PoolState, ShelfPart, Empty, Refused, Is}
use Rattle.zr_rules.specs.Space.{nothing_opened, opened_of}
use Rattle.zr_script.specs.declared.command.Command.{Command}
use Rattle.zr_script.specs.declared.command.Command.TheVariants as cmd
use Rattle.zr_script.specs.declared.reply.Reply.{Reply}
use Rattle.zr_script.specs.declared.reply.Reply.TheVariants as reply
use Rattle.zr_shelf.specs.Moments.{World}
use Rattle.zr_sync.proofs.Regrouping.{begins_again}
use Rattle.zr_sync.proofs.Retelling.{trees_told}
use Rattle.zr_sync.specs.States.{HoldsState}
use Rattle.zr_sync.specs.Trees.{HasTrees}
use Rattle.zr_sync.specs.Trees.Stage.{Had, Recorded}
use Rattle.zr_sync.specs.declared.fault.Fault.{Fault}
use Rattle.zr_sync.specs.declared.fault.Fault.TheVariants.{No, Stops}
use Rattle.zr_sync.specs.declared.open.OpenPool.{OpenPool}
use Rattle.zr_pool.specs.Behind.{EndsReset, KeepsTrees, StaysTold, copies_or_returns, is_in_group, is_resetting, is_writing_trees, keeps_trees, leaves_trees}
use Rattle.zr_pool.specs.Ends.{answer_of, is_closing}
use Rattle.zr_pool.specs.Plain.{IsDone, is_of_removal}
use Rattle.zr_pool.specs.Pools.{AreStanding, IsPartOf}
use Rattle.zr_pool.specs.Turns.{is_standing, is_told}
use Rattle.zr_pool.proofs.Groups.{no_way}
use Rattle.zr_pool.proofs.Turning.{left_of}

-- ---- of a line

-- the group that follows finds what was recorded
pub recorded_trees : (t1 t2 : Type 0) (before now : World) (x y : OpenPool) → t1 → ((d : ℕ) → opened_of y.space d ≡ nothing_opened) → (HasTrees Had t1 before.now.seen x → HasTrees Recorded t2 now.now.seen y) → KeepsTrees x y before now
recorded_trees t1 t2 before now x y told opened trees h = begins_again (Unit {0}) now.now.seen y opened (trees_told Recorded t2 (Unit {0}) now.now.seen y tt (trees (trees_told Had (Unit {0}) t1 before.now.seen x told h)))

-- a line that stayed in one group
pub one_group_trees : (sizes : List ℕ) (objects : Objects) (x y : OpenPool) (before now : World) → StaysInOneGroup sizes objects x y before now → KeepsTrees x y before now
one_group_trees sizes objects x y before now (inl stays) h = stays.trees h
one_group_trees sizes objects x y before now (inr behind) h = behind.stays.trees (begins_again (Unit {0}) behind.start.now.seen behind.next behind.commits.ends.ended.opened (behind.commits.trees h))

told_trees : (sizes : List ℕ) (objects : Objects) (command : Command) (x y : OpenPool) (before now : World) → StaysTold sizes objects command x y before now → KeepsTrees x y before now
told_trees sizes objects command x y before now (inl stays) = one_group_trees sizes objects x y before now stays
told_trees sizes objects command x y before now (inr step) = step.1.1.1.0

-- only lines that end with a reset write the trees anew
writing_resets : (command : Command) → is_writing_trees command ≡ true → is_resetting command ≡ true
writing_resets (cmd.Add dev) is = refl
writing_resets cmd.Checkpoint is = refl
writing_resets cmd.Upgrade is = refl
writing_resets command is = no_way is

-- a line that does not write them
pub writes_no_trees : {P : Type 0} → false ≡ true → P
writes_no_trees e = no_way e

pub removal_writes_none : (command : Command) → is_of_removal command ≡ true → is_writing_trees command ≡ true → ⊥
removal_writes_none (cmd.Remove dev) on is = no_way is
removal_writes_none cmd.Cancel on is = no_way is
removal_writes_none cmd.StepEvac on is = no_way is
removal_writes_none cmd.StepCondense on is = no_way is
removal_writes_none command on is = no_way on

-- ---- where a pool is open

both_true : (a b : Bool) → (a && b) ≡ true → (a ≡ true) × (b ≡ true)
both_true true b is = (refl, is)
both_true false b is = no_way is

either_true : (a b : Bool) → (a || b) ≡ true → (a ≡ true) ⊎ (b ≡ true)
either_true true b is = inl refl
either_true false b is = inr is

standing_done : (part : ShelfPart) (trees : Bool) (command : Command) (answer : Reply) → IsDone answer → is_standing true part trees command answer ≡ true → (trees ≡ true) × ((is_told part ≡ true) × (leaves_trees command answer ≡ true))
standing_done part trees command (reply.No r) done is = absurd done
standing_done part trees command answer done is =
    let both = both_true trees (is_told part && leaves_trees command answer) is in
    (both.0, both_true (is_told part) (leaves_trees command answer) both.1)

left_standing : (closing : Bool) (y : OpenPool) (disks : List (List ℕ)) → HasTrees Had (Unit {0}) disks y → AreStanding (left_of closing y) disks
left_standing true y disks h = tt
left_standing false y disks h = h

module _ (sizes : List ℕ) (old new : World) (part : ShelfPart) (trees : Bool) (command : Command) (x y : OpenPool) (held : IsPartOf old.now.seen x part) (stood : trees ≡ true → HasTrees Had (Unit {0}) old.now.seen x) where
  told_state : (part : ShelfPart) → IsPartOf old.now.seen x part → is_told part ≡ true → (p : PoolState) × HoldsState (Unit {0}) old.now.seen x p
  told_state (Is p) holds is = (p, holds)
  told_state Empty holds is = no_way is
  told_state (Refused r) holds is = no_way is

  pub open_standing : (r : Result (Option Reply) Fault) → IfOk r (λ found. IfSome found IsDone) → (is_in_group command ≡ true → (p : PoolState) → HoldsState (Unit {0}) old.now.seen x p → OnOk r (StaysTold sizes p.objects command x y old new))
      → ((p : PoolState) → HoldsState (Unit {0}) old.now.seen x p → (n : Refusal) → r ≡ Err (No n) → StaysInOneGroup sizes p.objects x y old new)
      → (is_resetting command ≡ true → (p : PoolState) → HoldsState (Unit {0}) old.now.seen x p → OnOk r (EndsReset command x y p.objects old new))
      → IfOk r (λ found. IfSome found (λ answer. copies_or_returns command answer ≡ true → KeepsTrees x y old new))
      → IfOk (answer_of r) (λ found. IfSome found (λ answer. is_standing true part trees command answer ≡ true → AreStanding (left_of (is_closing command r) y) new.now.seen))
  open_standing (Ok None) done group group_no resets moves = tt
  open_standing (Ok (Some answer)) done group group_no resets moves = λ is.
      let all = standing_done part trees command answer done is in
      let p = told_state part held all.1.0 in
      let h = stood all.0 in
      left_standing (is_closing command (Ok (Some answer))) y new.now.seen (elim (either_true (keeps_trees command) (copies_or_returns command answer) all.1.1) [
        | inl keeps ↦ elim (either_true (is_writing_trees command) (is_in_group command) keeps) [
          | inl writes ↦ (resets (writing_resets command writes) p.0 p.1).trees writes h
          | inr works ↦ told_trees sizes p.0.objects command x y old new (group works p.0 p.1) h
        ]
        | inr moved ↦ moves moved h
      ])
  open_standing (Err (No n)) done group group_no resets moves = λ is.
      let both = both_true trees (is_told part) is in
      let p = told_state part held both.1 in
      one_group_trees sizes p.0.objects x y old new (group_no p.0 p.1 n refl) (stood both.0)
  open_standing (Err (Stops s)) done group group_no resets moves = tt

-- ---- where none is open

-- a pool that was made or opened
pub made_standing : (tells : Type 0) (disks : List (List ℕ)) (pool : Option OpenPool) → IfSome pool (HasTrees Had tells disks) → AreStanding pool disks
made_standing tells disks None h = tt
made_standing tells disks (Some y) h = trees_told Had tells (Unit {0}) disks y tt h

module _ (now : World) (part : ShelfPart) (trees : Bool) (command : Command) (pool : Option OpenPool) where
  pub closed_standing : (r : Result (Option Reply) Fault) → IfOk r (λ found. IfSome found (λ answer. answer ≡ reply.Done)) → AreStanding pool now.now.seen → OnErr r (pool ≡ None)
      → IfOk (answer_of r) (λ found. IfSome found (λ answer. is_standing false part trees command answer ≡ true → AreStanding pool now.now.seen))
  closed_standing (Ok None) done made none = tt
  closed_standing (Ok (Some answer)) done made none = λ is. made
  closed_standing (Err (No n)) done made none = λ is. subst (λ (o : Option OpenPool). AreStanding o now.now.seen) (sym none) tt
  closed_standing (Err (Stops s)) done made none = tt
