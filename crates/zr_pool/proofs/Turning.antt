-- A line to the pool on devices, from the state for which it stood to the one for which it stands.
use Rattle.std.proofs.Common.{◌≡◌, ℕ, List, Bool, true, false, Option, Some, None, Result, Ok, Err, refl, sym, subst}
use Rattle.std.specs.Prelude.{is_some, IfOk, IfSome, OnErr, if◌then◌else◌}
use Rattle.zr_base.specs.declared.refusal.Refusal.{Refusal}
use Rattle.zr_script.specs.declared.command.Command.{Command}
use Rattle.zr_script.specs.declared.command.Command.TheVariants as cmd
use Rattle.zr_script.specs.declared.reply.Reply.{Reply}
use Rattle.zr_script.specs.declared.reply.Reply.TheVariants as reply
use Rattle.zr_shelf.specs.Disks.{Stand}
use Rattle.zr_model.specs.State.{State, PoolState, ShelfPart, Empty, Refused, Is, IsOpened, Work, no_pool, untold, created}
use Rattle.zr_command.specs.Meanings.{TurnsTo}
use Rattle.zr_moves.specs.Answers.{rewound}
use Rattle.zr_sync.specs.States.{HoldsState}
use Rattle.zr_sync.specs.declared.fault.Fault.{Fault}
use Rattle.zr_sync.specs.declared.fault.Fault.TheVariants.{No, Stops}
use Rattle.zr_sync.specs.declared.open.OpenPool.{OpenPool}
use Rattle.zr_pool.specs.Ends.{answer_of, is_closing}
use Rattle.zr_pool.specs.Plain.{exported, IsMade, IsOpeningCause, IsPlainRefusal, IsPlainTurn, IsPlainOn, IsPlainOf, IsOpeningTurn, IsObjectsTurn, IsUntold, shelf_of}
use Rattle.zr_pool.specs.Pools.{IsPartOf, StandsFor, work_of}
use Rattle.zr_pool.specs.Turns.{on_objects_told, IsTurn, IsOpenAnswer, IsOpenRefusal, IsClosedAnswer, IsClosedRefusal, stays_open, is_opener}
use Rattle.zr_pool.proofs.Staying.{told_anew}

-- ---- the state of an open pool

-- the state for which a pool stands whose disks hold these objects
abbrev pub standing : OpenPool → PoolState → State
standing pool p = record { is_open = true; shelf = Is p; work = work_of pool.space }

pub stands_so : (told : Type 0) (disks : List (List ℕ)) (pool : OpenPool) (p : PoolState) → HoldsState told disks pool p → StandsFor (Some pool) disks (standing pool p)
stands_so told disks pool p holds = record { is_open = refl; part = told_anew told (Unit {0}) disks pool p tt holds; work = refl }

pub is_opened_so : (pool : OpenPool) (p : PoolState) → IsOpened p (standing pool p)
is_opened_so pool p = record { is_open = refl; shelf = refl }

-- and where nothing is told of them
pub stands_untold : (disks : List (List ℕ)) (pool : OpenPool) → StandsFor (Some pool) disks (untold (work_of pool.space))
stands_untold disks pool = record { is_open = refl; part = tt; work = refl }

pub is_untold_so : (w : Work) → IsUntold (untold w)
is_untold_so w = record { is_open = refl; shelf = refl }

-- ---- where no pool is open

module _ (copies : Bool) (old new : Stand) (before : State) (closed : before.is_open ≡ false) (told : Type 0) (is_told : told) (command : Command) where
  abbrev Turns : Option OpenPool → Reply → Type 0
  Turns pool answer = TurnsTo (on_objects_told copies) (λ disks state. StandsFor pool disks.seen state) before old command answer new

  takes_closed : (answer : Reply) (after : State) → IsTurn false command answer after.is_open → IsOpeningTurn (shelf_of old) before command answer after
      → IsTurn before.is_open command answer after.is_open × IsObjectsTurn copies before.is_open before.shelf (shelf_of old) before command answer after
  takes_closed answer after turn opening = subst (λ (b : Bool). IsTurn b command answer after.is_open × IsObjectsTurn copies b before.shelf (shelf_of old) before command answer after) (sym closed) (turn, opening)

  refused_closed : (pool : Option OpenPool) (r : Refusal) → pool ≡ None → IsClosedRefusal command r → IsOpeningCause (shelf_of old) command r → Turns pool (reply.No r)
  refused_closed pool r none why cause = record {
    after = before;
    stands_for = subst (λ (o : Option OpenPool). StandsFor o new.seen before) (sym none) closed;
    takes = takes_closed (reply.No r) before (subst (λ (b : Bool). IsTurn false command (reply.No r) b) (sym closed) (why, refl)) (refl, cause);
  }

  -- the pool stands for this one
  as_made : (pool : OpenPool) (p : PoolState) → HoldsState told new.seen pool p → IsClosedAnswer command reply.Done → IsOpeningTurn (shelf_of old) before command reply.Done (standing pool p) → Turns (Some pool) reply.Done
  as_made pool p holds answer opening = record {
    after = standing pool p;
    stands_for = stands_so told new.seen pool p holds;
    takes = takes_closed reply.Done (standing pool p) (answer, refl) opening;
  }

  made_to : (pool : OpenPool) → (name : List ℕ) (guid : ℕ) (devs : List (List ℕ)) → command ≡ cmd.Create name guid devs → IsClosedAnswer command reply.Done → HoldsState told new.seen pool (created name guid devs) → Turns (Some pool) reply.Done
  made_to pool name guid devs is answer holds =
      let p = created name guid devs in
      as_made pool p holds answer (subst (λ (k : Command). IsOpeningTurn (shelf_of old) before k reply.Done (standing pool p)) (sym is) (is_opened_so pool p))

  old_made_to : (pool : OpenPool) → (name : List ℕ) (guid : ℕ) (devs : List (List ℕ)) → command ≡ cmd.CreateOld name guid devs → IsClosedAnswer command reply.Done → HoldsState told new.seen pool (created name guid devs) → Turns (Some pool) reply.Done
  old_made_to pool name guid devs is answer holds =
      let p = created name guid devs in
      as_made pool p holds answer (subst (λ (k : Command). IsOpeningTurn (shelf_of old) before k reply.Done (standing pool p)) (sym is) (is_opened_so pool p))

  imported_to : (pool : OpenPool) → command ≡ cmd.Import → IsClosedAnswer command reply.Done → IsMade (shelf_of old) (HoldsState told new.seen pool) cmd.Import → Turns (Some pool) reply.Done
  imported_to pool is answer (p, shows, holds) =
      as_made pool p holds answer (subst (λ (k : Command). IsOpeningTurn (shelf_of old) before k reply.Done (standing pool p)) (sym is) (p, shows, is_opened_so pool p))

  rewound_to : (pool : OpenPool) → command ≡ cmd.ImportRewind → IsClosedAnswer command reply.Done → IsMade (shelf_of old) (HoldsState told new.seen pool) cmd.ImportRewind → Turns (Some pool) reply.Done
  rewound_to pool is answer (p, saved, shows, has, holds) =
      let q = rewound p saved in
      as_made pool q holds answer (subst (λ (k : Command). IsOpeningTurn (shelf_of old) before k reply.Done (standing pool q)) (sym is) (p, saved, shows, has, is_opened_so pool q))

  back_to : (pool : OpenPool) (txg : ℕ) → command ≡ cmd.ImportTxg txg → IsClosedAnswer command reply.Done → IsMade (shelf_of old) (HoldsState told new.seen pool) (cmd.ImportTxg txg) → Turns (Some pool) reply.Done
  back_to pool txg is answer (p, shows, holds) =
      as_made pool p holds answer (subst (λ (k : Command). IsOpeningTurn (shelf_of old) before k reply.Done (standing pool p)) (sym is) (p, shows, is_opened_so pool p))

done_to : (copies : Bool) (old new : Stand) (before : State) (closed : before.is_open ≡ false) (told : Type 0) (is_told : told) (command : Command) (pool : OpenPool) → is_opener command ≡ true
    → IsMade (shelf_of old) (HoldsState told new.seen pool) command → TurnsTo (on_objects_told copies) (λ disks state. StandsFor (Some pool) disks.seen state) before old command reply.Done new
done_to copies old new before closed told is_told (cmd.Create name guid devs) pool is made = made_to copies old new before closed told is_told (cmd.Create name guid devs) pool name guid devs refl is made
done_to copies old new before closed told is_told (cmd.CreateOld name guid devs) pool is made = old_made_to copies old new before closed told is_told (cmd.CreateOld name guid devs) pool name guid devs refl is made
done_to copies old new before closed told is_told cmd.Import pool is made = imported_to copies old new before closed told is_told cmd.Import pool refl is made
done_to copies old new before closed told is_told cmd.ImportRewind pool is made = rewound_to copies old new before closed told is_told cmd.ImportRewind pool refl is made
done_to copies old new before closed told is_told (cmd.ImportTxg txg) pool is made = back_to copies old new before closed told is_told (cmd.ImportTxg txg) pool txg refl is made
done_to copies old new before closed told is_told command pool is made = absurd (cc)

answered_closed : (copies : Bool) (old new : Stand) (before : State) (closed : before.is_open ≡ false) (told : Type 0) (is_told : told) (command : Command) (pool : Option OpenPool) (answer : Reply)
    → answer ≡ reply.Done → IsTurn false command answer (is_some pool) → IfSome pool (λ p. IsMade (shelf_of old) (HoldsState told new.seen p) command) → TurnsTo (on_objects_told copies) (λ disks state. StandsFor pool disks.seen state) before old command answer new
answered_closed copies old new before closed told is_told command None reply.Done done turn made = absurd (let e = turn.1 in cc)
answered_closed copies old new before closed told is_told command (Some pool) reply.Done done turn made = done_to copies old new before closed told is_told command pool turn.0 made
answered_closed copies old new before closed told is_told command pool answer done turn made = absurd cc

pub closed_turns : (copies : Bool) (old new : Stand) (before : State) → before.is_open ≡ false → (told : Type 0) → told → (command : Command) (pool : Option OpenPool) (r : Result (Option Reply) Fault)
    → IfOk r (λ found. IfSome found (λ answer. answer ≡ reply.Done)) → IfOk r (λ found. IfSome found (λ answer. IsTurn false command answer (is_some pool))) → ((x : Refusal) → r ≡ Err (No x) → IsClosedRefusal command x)
    → ((x : Refusal) → r ≡ Err (No x) → IsOpeningCause (shelf_of old) command x) → OnErr r (pool ≡ None)
    → IfSome pool (λ p. IsMade (shelf_of old) (HoldsState told new.seen p) command)
    → IfOk (answer_of r) (λ found. IfSome found (λ answer. TurnsTo (on_objects_told copies) (λ disks state. StandsFor pool disks.seen state) before old command answer new))
closed_turns copies old new before closed told is_told command pool (Ok None) done turn refused cause none made = tt
closed_turns copies old new before closed told is_told command pool (Ok (Some answer)) done turn refused cause none made = answered_closed copies old new before closed told is_told command pool answer done turn made
closed_turns copies old new before closed told is_told command pool (Err (No x)) done turn refused cause none made = refused_closed copies old new before closed told is_told command pool x none (refused x refl) (cause x refl)
closed_turns copies old new before closed told is_told command pool (Err (Stops s)) done turn refused cause none made = tt

-- ---- where one is open

refusal_stays : (command : Command) (r : Refusal) → stays_open command (reply.No r) ≡ true
refusal_stays cmd.Export r = refl
refusal_stays command r = refl

-- what is left of the pool
abbrev pub left_of : Bool → OpenPool → Option OpenPool
left_of closing pool = if closing then None else Some pool

module _ (copies : Bool) (old new : Stand) (told : Type 0) (command : Command) (y : OpenPool) where
  abbrev Leads : State → Option OpenPool → Reply → Type 0
  Leads before pool answer = TurnsTo (on_objects_told copies) (λ disks state. StandsFor pool disks.seen state) before old command answer new

  -- what a line makes of a state by its parts
  by_parts : (before after : State) (part : ShelfPart) (answer : Reply) (pool : Option OpenPool) → before.is_open ≡ true → before.shelf ≡ part → StandsFor pool new.seen after
      → IsTurn true command answer after.is_open → IsObjectsTurn copies true part (shelf_of old) before command answer after → Leads before pool answer
  by_parts before after part answer pool is_open shelf stands turn objects = record {
    after = after;
    stands_for = stands;
    takes = subst (λ (b : Bool). IsTurn b command answer after.is_open × IsObjectsTurn copies b before.shelf (shelf_of old) before command answer after) (sym is_open)
        (turn, subst (λ (q : ShelfPart). IsObjectsTurn copies true q (shelf_of old) before command answer after) (sym shelf) objects);
  }

  refused_open : (before : State) (p : PoolState) (r : Refusal) → before.is_open ≡ true → before.shelf ≡ Is p → HoldsState told new.seen y p → IsPlainRefusal p command r → IsOpenRefusal command r → Leads before (Some y) (reply.No r)
  refused_open before p r is_open shelf holds cause why =
      by_parts before (standing y p) (Is p) (reply.No r) (Some y) is_open shelf (stands_so told new.seen y p holds) (why, sym (refusal_stays command r)) (is_opened_so y p, cause)

  plain_open : (before : State) (p : PoolState) (answer : Reply) → before.is_open ≡ true → before.shelf ≡ Is p → (on : IsPlainOn (HoldsState told new.seen y) p command answer) → IsOpenAnswer command answer → stays_open command answer ≡ true
      → IsPlainTurn copies p command answer (standing y on.after) → Leads before (Some y) answer
  plain_open before p answer is_open shelf on a stays turn =
      by_parts before (standing y on.after) (Is p) answer (Some y) is_open shelf (stands_so told new.seen y on.after on.holds) (a, sym stays) turn

  untold_open : (before : State) (part : ShelfPart) (answer : Reply) → before.is_open ≡ true → before.shelf ≡ part → IsOpenAnswer command answer → stays_open command answer ≡ true
      → IsObjectsTurn copies true part (shelf_of old) before command answer (untold (work_of y.space)) → Leads before (Some y) answer
  untold_open before part answer is_open shelf a stays turn = by_parts before (untold (work_of y.space)) part answer (Some y) is_open shelf (stands_untold new.seen y) (a, sym stays) turn

-- a removal ended: the objects are told where copies were told to have the bytes of their units
gone_turn : (copies : Bool) (old new : Stand) (told : Type 0) (y : OpenPool) (before : State) (p : PoolState) (i : ℕ) → before.is_open ≡ true → before.shelf ≡ Is p → IsPlainOf copies (HoldsState told new.seen y) p cmd.StepEvac (reply.Gone i)
    → TurnsTo (on_objects_told copies) (λ disks state. StandsFor (Some y) disks.seen state) before old cmd.StepEvac (reply.Gone i) new
gone_turn true old new told y before p i is_open shelf on = plain_open true old new told cmd.StepEvac y before p (reply.Gone i) is_open shelf on tt refl (on.after, on.step, is_opened_so y on.after)
gone_turn false old new told y before p i is_open shelf on = untold_open false old new told cmd.StepEvac y before (Is p) (reply.Gone i) is_open shelf tt refl (is_untold_so (work_of y.space))

module _ (copies : Bool) (old new : Stand) (told : Type 0) (y : OpenPool) (before : State) (is_open : before.is_open ≡ true) where
  abbrev Comes : Command → Reply → Type 0
  Comes command answer = TurnsTo (on_objects_told copies) (λ disks state. StandsFor (left_of (is_closing command (Ok (Some answer))) y) disks.seen state) before old command answer new

  -- a line to a pool whose objects are told
  told_turns : (command : Command) (p : PoolState) (answer : Reply) → before.shelf ≡ Is p → IsOpenAnswer command answer → IsPlainOf copies (HoldsState told new.seen y) p command answer → Comes command answer
  told_turns cmd.Export p reply.Done shelf a on = by_parts copies old new told cmd.Export y before (exported p) (Is p) reply.Done None is_open shelf refl (a, refl) refl
  told_turns cmd.Export p answer shelf a on = absurd a
  told_turns cmd.StepEvac p (reply.No r) shelf a on = absurd on.step.0
  told_turns cmd.StepEvac p (reply.Gone i) shelf a on = gone_turn copies old new told y before p i is_open shelf on
  told_turns command p (reply.No r) shelf a on = absurd on.step.0
  told_turns command p answer shelf a on = plain_open copies old new told command y before p answer is_open shelf on a refl (on.after, on.step, is_opened_so y on.after)

  -- and to one whose objects are not
  untold_turns : (command : Command) (answer : Reply) → before.shelf ≡ Empty → IsOpenAnswer command answer → Comes command answer
  untold_turns cmd.Export (reply.No r) shelf a = absurd a
  untold_turns cmd.Export reply.Done shelf a = by_parts copies old new told cmd.Export y before no_pool Empty reply.Done None is_open shelf refl (a, refl) refl
  untold_turns cmd.Export answer shelf a = absurd a
  untold_turns command (reply.No r) shelf a = untold_open copies old new told command y before Empty (reply.No r) is_open shelf a refl (is_untold_so (work_of y.space))
  untold_turns command answer shelf a = untold_open copies old new told command y before Empty answer is_open shelf a refl (is_untold_so (work_of y.space))

  untold_refused : (command : Command) (r : Refusal) → before.shelf ≡ Empty → IsOpenRefusal command r → TurnsTo (on_objects_told copies) (λ disks state. StandsFor (Some y) disks.seen state) before old command (reply.No r) new
  untold_refused command r shelf why = untold_open copies old new told command y before Empty (reply.No r) is_open shelf why (refusal_stays command r) (is_untold_so (work_of y.space))

-- what a line makes of the state by what is told
abbrev Meets : Bool → Type 0 → Type 0 → Command → Stand → OpenPool → OpenPool → Result (Option Reply) Fault → PoolState → Stand → Type 0
Meets copies told1 told command old x y r p new = HoldsState told1 old.seen x p →
    IfOk r (λ found. IfSome found (IsPlainOf copies (HoldsState told new.seen y) p command)) × ((n : Refusal) → r ≡ Err (No n) → HoldsState told new.seen y p × IsPlainRefusal p command n)

turns_by : (copies : Bool) (old new : Stand) (before : State) (told1 told : Type 0) → told1 → (command : Command) (x y : OpenPool) (r : Result (Option Reply) Fault) (part : ShelfPart) → before.is_open ≡ true → before.shelf ≡ part → IsPartOf old.seen x part
    → ((p : PoolState) → Meets copies told1 told command old x y r p new)
    → IfOk r (λ found. IfSome found (IsOpenAnswer command)) → ((n : Refusal) → r ≡ Err (No n) → IsOpenRefusal command n)
    → IfOk (answer_of r) (λ found. IfSome found (λ answer. TurnsTo (on_objects_told copies) (λ disks state. StandsFor (left_of (is_closing command r) y) disks.seen state) before old command answer new))
turns_by copies old new before told1 told was command x y (Ok None) part is_open shelf stood meets a refused = tt
turns_by copies old new before told1 told was command x y (Err (Stops s)) part is_open shelf stood meets a refused = tt
turns_by copies old new before told1 told was command x y (Ok (Some answer)) (Is p) is_open shelf held meets a refused =
    told_turns copies old new told y before is_open command p answer shelf a (meets p (told_anew (Unit {0}) told1 old.seen x p was held)).0
turns_by copies old new before told1 told was command x y (Ok (Some answer)) Empty is_open shelf held meets a refused = untold_turns copies old new told y before is_open command answer shelf a
turns_by copies old new before told1 told was command x y (Ok (Some answer)) (Refused n) is_open shelf held meets a refused = absurd held
turns_by copies old new before told1 told was command x y (Err (No n)) (Is p) is_open shelf held meets a refused =
    let m = (meets p (told_anew (Unit {0}) told1 old.seen x p was held)).1 n refl in
    refused_open copies old new told command y before p n is_open shelf m.0 m.1 (refused n refl)
turns_by copies old new before told1 told was command x y (Err (No n)) Empty is_open shelf held meets a refused = untold_refused copies old new told y before is_open command n shelf (refused n refl)
turns_by copies old new before told1 told was command x y (Err (No n)) (Refused r) is_open shelf held meets a refused = absurd held

pub open_turns : (copies : Bool) (old new : Stand) (before : State) (told1 told : Type 0) → told1 → told → (command : Command) (x y : OpenPool) (r : Result (Option Reply) Fault) → StandsFor (Some x) old.seen before
    → ((p : PoolState) → HoldsState told1 old.seen x p → IfOk r (λ found. IfSome found (IsPlainOf copies (HoldsState told new.seen y) p command)))
    → ((p : PoolState) → HoldsState told1 old.seen x p → (n : Refusal) → r ≡ Err (No n) → HoldsState told new.seen y p)
    → ((p : PoolState) → HoldsState told1 old.seen x p → (n : Refusal) → r ≡ Err (No n) → IsPlainRefusal p command n)
    → IfOk r (λ found. IfSome found (IsOpenAnswer command)) → ((n : Refusal) → r ≡ Err (No n) → IsOpenRefusal command n)
    → IfOk (answer_of r) (λ found. IfSome found (λ answer. TurnsTo (on_objects_told copies) (λ disks state. StandsFor (left_of (is_closing command r) y) disks.seen state) before old command answer new))
open_turns copies old new before told1 told was is_told command x y r stood acts stays cause a refused =
    turns_by copies old new before told1 told was command x y r before.shelf stood.is_open refl stood.part (λ p h. (acts p h, λ n is. (stays p h n is, cause p h n is))) a refused
