-- The pool in memory as one of plain objects.
use Rattle.std.proofs.Common.{◌≡◌, ℕ, true, List, Option, Some, None, Result, Ok, Err, IfOk, IfSome, IfNone, sym, ap, subst}
use Rattle.zr_script.specs.declared.command.Command.{Command}
use Rattle.zr_script.specs.declared.reply.Reply.{Reply}
use Rattle.zr_model.specs.State.{State, PoolState, created, opened, with_objects}
use Rattle.zr_model.specs.Step.{Step, AnswersOpen, IsServed}
use Rattle.zr_session.specs.declared.memory.OpenPool.{OpenPool}
use Rattle.zr_session.specs.Memory.{state_in}

-- what follows for a value that was found, and for none
pub found_weaker : {T E : Type 0} (r : Result (Option T) E) (P Q : T → Type 0) → ((x : T) → P x → Q x) → IfOk r (λ f. IfSome f P) → IfOk r (λ f. IfSome f Q)
found_weaker (Err e) P Q f h = tt
found_weaker (Ok None) P Q f h = tt
found_weaker (Ok (Some x)) P Q f h = f x h

pub none_weaker : {T E : Type 0} (r : Result (Option T) E) (P Q : Type 0) → (P → Q) → IfOk r (λ f. IfNone f P) → IfOk r (λ f. IfNone f Q)
none_weaker (Err e) P Q f h = tt
none_weaker (Ok None) P Q f h = f h
none_weaker (Ok (Some x)) P Q f h = tt

pub steps_open : (paths : List (List ℕ)) (pool : Option OpenPool) (old new : OpenPool) (command : Command) (reply : Reply)
    → pool ≡ Some old → new.name ≡ old.name → new.guid ≡ old.guid → ((p : PoolState) → AnswersOpen (with_objects p old.objects) command reply (opened (with_objects p new.objects)))
    → Step paths (state_in paths pool) command reply (state_in paths (Some new))
steps_open paths pool old new command reply e n g h =
    subst (λ x. Step paths (state_in paths x) command reply (state_in paths (Some new))) (sym e)
    (subst (λ name. AnswersOpen (with_objects (created old.name old.guid paths) old.objects) command reply (opened (with_objects (created name new.guid paths) new.objects))) (sym n)
    (subst (λ guid. AnswersOpen (with_objects (created old.name old.guid paths) old.objects) command reply (opened (with_objects (created old.name guid paths) new.objects))) (sym g)
    (h (created old.name old.guid paths))))

pub unserved_open : (paths : List (List ℕ)) (pool : Option OpenPool) (old : OpenPool) (command : Command)
    → pool ≡ Some old → ((p : List (List ℕ)) (state : State) → state.is_open ≡ true → IsServed p state command → ⊥) → IsServed paths (state_in paths pool) command → ⊥
unserved_open paths pool old command e h s = h paths (state_in paths pool) (ap (λ x. (state_in paths x).is_open) e) s
