-- How the space of an open pool goes through a line on an object.
use Rattle.std.proofs.Common.{◌≡◌, ◌∙◌, inl, inr, ℕ, List, Bool, true, false, Option, Some, None, Result, Ok, Err, refl, sym, subst}
use Rattle.std.specs.Prelude.{IfOk, IfSome, OnOk}
use Rattle.zr_base.specs.declared.refusal.Refusal.{Refusal}
use Rattle.zr_lines.specs.Stops.{StaysInOneGroup}
use Rattle.zr_model.specs.Objects.{Objects}
use Rattle.zr_model.specs.State.{PoolState, ShelfPart, Is}
use Rattle.zr_script.specs.declared.command.Command.{Command}
use Rattle.zr_script.specs.declared.command.Command.TheVariants as cmd
use Rattle.zr_script.specs.declared.reply.Reply.{Reply}
use Rattle.zr_shelf.specs.Moments.{World}
use Rattle.zr_sync.specs.States.{HoldsState}
use Rattle.zr_sync.specs.declared.fault.Fault.{Fault}
use Rattle.zr_sync.specs.declared.fault.Fault.TheVariants.{No, Stops}
use Rattle.zr_sync.specs.declared.open.OpenPool.{OpenPool}
use Rattle.zr_pool.specs.Behind.{GoesThrough, StaysTold, is_in_group}
use Rattle.zr_pool.specs.Ends.{answer_of, is_closing}
use Rattle.zr_pool.specs.Pools.{DeviceState, IsPartOf}
use Rattle.zr_pool.specs.Turns.{SpaceTurn, is_on_objects}
use Rattle.zr_pool.proofs.Groups.{no_way}
use Rattle.zr_pool.proofs.Turning.{left_of}

-- ---- of a line

one_group_spaces : (sizes : List ℕ) (objects : Objects) (x y : OpenPool) (before now : World) → StaysInOneGroup sizes objects x y before now → GoesThrough x.space y.space
one_group_spaces sizes objects x y before now (inl stays) = inl stays.space
one_group_spaces sizes objects x y before now (inr behind) = inr (behind.next.space, behind.commits.ends, behind.stays.space)

on_objects_group : (command : Command) → is_on_objects command ≡ true → is_in_group command ≡ true
on_objects_group (cmd.Make id units) is = refl
on_objects_group (cmd.Drop id) is = refl
on_objects_group (cmd.Write id off bytes) is = refl
on_objects_group (cmd.Fill id off len byte) is = refl
on_objects_group (cmd.Punch id off len) is = refl
on_objects_group (cmd.Read id off len) is = refl
on_objects_group (cmd.Sum id) is = refl
on_objects_group command is = no_way is

told_spaces : (sizes : List ℕ) (objects : Objects) (command : Command) (x y : OpenPool) (before now : World) → is_on_objects command ≡ true → StaysTold sizes objects command x y before now → GoesThrough x.space y.space
told_spaces sizes objects command x y before now on (inl stays) = one_group_spaces sizes objects x y before now stays
told_spaces sizes objects command x y before now on (inr step) = no_way (subst (λ (c : Command). is_on_objects c ≡ true) step.0 on)

-- ---- where a pool is open

left_spaces : (closing : Bool) (x y : OpenPool) → GoesThrough x.space y.space → IfSome (left_of closing y) (λ z. GoesThrough x.space z.space)
left_spaces true x y goes = tt
left_spaces false x y goes = goes

same_some : (x y : OpenPool) → Some x ≡ Some y → x ≡ y
same_some x y is = cc

module _ (sizes : List ℕ) (old new : World) (before : DeviceState) (command : Command) (x y : OpenPool) (account : before.account ≡ Some x) (held : IsPartOf old.now.seen x before.told.shelf) where
  state_held : (q : PoolState) → before.told.shelf ≡ Is q → HoldsState (Unit {0}) old.now.seen x q
  state_held q is = subst (IsPartOf old.now.seen x) is held

  from_here : (o : Option OpenPool) (z : OpenPool) → before.account ≡ Some z → IfSome o (λ w. GoesThrough x.space w.space) → IfSome o (λ w. GoesThrough z.space w.space)
  from_here o z is goes = subst (λ (v : OpenPool). IfSome o (λ w. GoesThrough v.space w.space)) (same_some x z (sym account ∙ is)) goes

  pub open_spaces : (r : Result (Option Reply) Fault) → (is_in_group command ≡ true → (p : PoolState) → HoldsState (Unit {0}) old.now.seen x p → OnOk r (StaysTold sizes p.objects command x y old new))
      → ((p : PoolState) → HoldsState (Unit {0}) old.now.seen x p → (n : Refusal) → r ≡ Err (No n) → StaysInOneGroup sizes p.objects x y old new)
      → IfOk (answer_of r) (λ found. IfSome found (λ answer. SpaceTurn before command (left_of (is_closing command r) y)))
  open_spaces (Ok None) group group_no = tt
  open_spaces (Ok (Some answer)) group group_no = λ z q is told on.
      let stays = group (on_objects_group command on) q (state_held q told) in
      from_here (left_of (is_closing command (Ok (Some answer))) y) z is (left_spaces (is_closing command (Ok (Some answer))) x y (told_spaces sizes q.objects command x y old new on stays))
  open_spaces (Err (No n)) group group_no = λ z q is told on. from_here (Some y) z is (one_group_spaces sizes q.objects x y old new (group_no q (state_held q told) n refl))
  open_spaces (Err (Stops s)) group group_no = tt

-- ---- where none is open

none_some : (x : OpenPool) → None ≡ Some x → ⊥
none_some x is = cc

module _ (before : DeviceState) (command : Command) (pool : Option OpenPool) (account : before.account ≡ None) where
  closed_none : SpaceTurn before command pool
  closed_none = λ x q is told on. absurd (none_some x (sym account ∙ is))

  pub closed_spaces : (r : Result (Option Reply) Fault) → IfOk (answer_of r) (λ found. IfSome found (λ answer. SpaceTurn before command pool))
  closed_spaces (Ok None) = tt
  closed_spaces (Ok (Some answer)) = closed_none
  closed_spaces (Err (No n)) = closed_none
  closed_spaces (Err (Stops s)) = tt
