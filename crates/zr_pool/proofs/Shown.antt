-- Whether the disks show the pool behind a line, and what an import finds of what was left.
use Rattle.std.proofs.Common.{◌≡◌, ℕ, List, Bool, true, false, length, map, Option, Some, None, Result, Ok, Err, refl, sym, ◌∙◌, ap, subst}
use Rattle.std.specs.Prelude.{IfOk, IfSome, OnErr, OnOk, is_some, ◌&&◌}
use Rattle.zr_base.specs.declared.refusal.Refusal.{Refusal}
use Rattle.zr_label.specs.declared.root.Uber.{Uber}
use Rattle.zr_last.proofs.Lasting.{same_last}
use Rattle.zr_last.specs.Last.{KeepsLast, KeepsRoot, ShowsLast}
use Rattle.zr_model.specs.State.{State, PoolState, ShelfPart, Empty, Refused, Is}
use Rattle.zr_open.proofs.Lasting.{left_found}
use Rattle.zr_open.specs.Shown.{Shows}
use Rattle.zr_script.specs.declared.command.Command.{Command}
use Rattle.zr_script.specs.declared.command.Command.TheVariants as cmd
use Rattle.zr_script.specs.declared.reply.Reply.{Reply}
use Rattle.zr_script.specs.declared.reply.Reply.TheVariants as reply
use Rattle.zr_shelf.specs.Disks.{Stand}
use Rattle.zr_shelf.specs.Moments.{World}
use Rattle.zr_sync.specs.Heads.{HasHead}
use Rattle.zr_sync.specs.Moves.{TellsMoves}
use Rattle.zr_sync.specs.Pools.{IsOpen}
use Rattle.zr_sync.specs.States.{HoldsState}
use Rattle.zr_sync.specs.Trees.{HasLastTrees}
use Rattle.zr_sync.specs.declared.fault.Fault.{Fault}
use Rattle.zr_sync.specs.declared.fault.Fault.TheVariants.{No, Stops}
use Rattle.zr_sync.specs.declared.open.OpenPool.{OpenPool}
use Rattle.zr_pool.specs.Ends.{answer_of, is_closing}
use Rattle.zr_pool.specs.Behind.{is_commit, leaves_trees}
use Rattle.zr_pool.specs.Plain.{IsFoundAgain, IsObjectsTurn, IsRejoined, shelf_of}
use Rattle.zr_pool.specs.Pools.{AreLeft, AreShown, DeviceState, IsAtRest, IsPartOf, IsStateOf}
use Rattle.zr_pool.specs.Turns.{IsOpenAnswer, IsTurn, is_shown, is_standing, is_told}
use Rattle.zr_pool.proofs.Finding.{moved_found}
use Rattle.zr_pool.proofs.Turning.{left_of}

-- ---- lines to an open pool

-- nothing was done to the disks, and the pool goes on from its root
pub still_last : (before now : World) (x y : OpenPool) → KeepsRoot x y → now.now.seen ≡ before.now.seen → KeepsLast before now x y
still_last before now x y same seen h = subst (λ (ds : List (List ℕ)). ShowsLast ds y) (sym seen) (same_last before.now.seen x y same h)

pub same_root : (x y : OpenPool) → y ≡ x → KeepsRoot x y
same_root x y same = record { last = ap (λ (p : OpenPool). p.last) same; guid = ap (λ (p : OpenPool). p.guid) same; table = ap (λ (p : OpenPool). p.table) same }

pub false_true : {P : Type 0} → false ≡ true → P
false_true e = absurd cc

-- ---- what is told behind a line

module _ (old new : Stand) (before : DeviceState) (command : Command) (pool : Option OpenPool) where
  -- what the line makes of the objects
  abbrev pub Takes : Reply → State → Type 0
  Takes answer after = IsTurn before.told.is_open command answer after.is_open × IsObjectsTurn before.copies before.told.is_open before.told.shelf (shelf_of old) before.told command answer after

  -- the disks show the pool where they are told to, and an import finds what was left
  pub record Lasts (answer : Reply) : Type 0 where
    pub last : (after : State) → Takes answer after → is_shown before.told.is_open before.shown answer ≡ true → AreShown pool new.seen after.shelf (is_standing before.told.is_open before.told.shelf before.trees command answer)
    pub rejoined : (after : State) → Takes answer after → before.shown ≡ true → command ≡ cmd.Import → answer ≡ reply.Done → IsRejoined before.told.shelf after.shelf
    pub found_again : (after : State) → Takes answer after → before.shown ≡ true → before.trees ≡ true → command ≡ cmd.Import → answer ≡ reply.Done → IsFoundAgain before.told.shelf after.shelf

not_done : {P : Type 0} (r : Refusal) → reply.No r ≡ reply.Done → P
not_done r e = absurd cc

-- ---- where a pool is open

both_true : (a b : Bool) → (a && b) ≡ true → (a ≡ true) × (b ≡ true)
both_true true true is = (refl, refl)
both_true true false is = false_true is
both_true false b is = false_true is

-- disks that are told to show the pool behind a line were told to before it
shown_before : (shown : Bool) (answer : Reply) → is_shown true shown answer ≡ true → shown ≡ true
shown_before shown (reply.No r) is = is
shown_before shown answer is = is

-- trees that are told to stand behind a line were told to before it
standing_before : (part : ShelfPart) (trees : Bool) (command : Command) (answer : Reply) → is_standing true part trees command answer ≡ true → trees ≡ true
standing_before part trees command (reply.No r) is = (both_true trees (is_told part) is).0
standing_before part trees command answer is = (both_true trees (is_told part && leaves_trees command answer) is).0

-- the pool is open still, but behind an export
closed_or_not : (command : Command) (answer : Reply) (y : OpenPool) (disks : List (List ℕ)) (part : ShelfPart) (trees : Bool) → IsOpenAnswer command answer → ShowsLast disks y → (command ≡ cmd.Export → answer ≡ reply.Done → AreShown None disks part trees)
    → AreShown (left_of (is_closing command (Ok (Some answer))) y) disks part trees
closed_or_not cmd.Export reply.Done y disks part trees a last exported = exported refl refl
closed_or_not cmd.Export answer y disks part trees a last exported = absurd a
closed_or_not command answer y disks part trees a last exported = last

-- an export is a commit
pub export_commits : (command : Command) → command ≡ cmd.Export → is_commit command ≡ true
export_commits command exports = subst (λ (k : Command). is_commit k ≡ true) (sym exports) refl

-- what a commit of an open pool tells at its root of the units of removed devices, if the trees of the streams stood before it
abbrev pub TellsAtLast : Stand → Stand → OpenPool → OpenPool → Type 0
TellsAtLast old new x y = HasLastTrees old.seen x → IfSome y.last (λ u. TellsMoves new.seen y u.root u.len)

module _ (old new : Stand) (before : DeviceState) (command : Command) (x y : OpenPool) (stood : IsStateOf old.seen x before.told) (was : before.shown ≡ true → ShowsLast old.seen x) (was_standing : before.trees ≡ true → HasLastTrees old.seen x) (s2 : List ℕ) (sized_new : map length new.seen ≡ s2) where
  -- what the pool has left
  left_there : (p : PoolState) (trees : Bool) → IsOpen s2 y → ShowsLast new.seen y → IsAtRest new.seen y p → (trees ≡ true → HasLastTrees old.seen x) → TellsAtLast old new x y → AreLeft new.seen p.objects trees
  left_there p trees lawful last rest standing moves = record {
    pool = y;
    lawful = subst (λ (sizes : List ℕ). IsOpen sizes y) (sym sized_new) lawful;
    leaves = record { empty = rest.empty; last = last; head = subst (λ (o : Option Uber). IfSome o (λ u. HasHead new.seen y u.root u.len)) last.from.last rest.head; holds = rest.holds };
    moves = λ is. subst (λ (o : Option Uber). IfSome o (λ u. TellsMoves new.seen y u.root u.len)) last.from.last (moves (standing is));
  }

  left_behind : (part : ShelfPart) (trees : Bool) (after : State) → IsPartOf old.seen x part → IsObjectsTurn before.copies true part (shelf_of old) before.told cmd.Export reply.Done after → ((p : PoolState) → HoldsState (Unit {0}) old.seen x p → AreLeft new.seen p.objects trees)
      → AreShown None new.seen after.shelf trees
  left_behind (Is p) trees after held turn left = subst (λ (s : State). AreShown None new.seen s.shelf trees) (sym turn) (left p held)
  left_behind Empty trees after held turn left = subst (λ (s : State). AreShown None new.seen s.shelf trees) (sym turn) tt
  left_behind (Refused r) trees after held turn left = absurd turn

  abbrev trees_behind : Reply → Bool
  trees_behind answer = is_standing before.told.is_open before.told.shelf before.trees command answer

  stood_before : (answer : Reply) → trees_behind answer ≡ true → HasLastTrees old.seen x
  stood_before answer is = was_standing (standing_before before.told.shelf before.trees command answer (sym (ap (λ (b : Bool). is_standing b before.told.shelf before.trees command answer) stood.is_open) ∙ is))

  in_open : (answer : Reply) (after : State) → Takes old new before command None answer after → IsTurn true command answer after.is_open × IsObjectsTurn before.copies true before.told.shelf (shelf_of old) before.told command answer after
  in_open answer after t = subst (λ (b : Bool). IsTurn b command answer after.is_open × IsObjectsTurn before.copies b before.told.shelf (shelf_of old) before.told command answer after) stood.is_open t

  not_imported : {P : Type 0} (answer : Reply) → command ≡ cmd.Import → answer ≡ reply.Done → IsOpenAnswer command answer → P
  not_imported answer imports answered a = absurd (subst (λ (q : Reply). IsOpenAnswer cmd.Import q) answered (subst (λ (k : Command). IsOpenAnswer k answer) imports a))

  pub open_lasts : (r : Result (Option Reply) Fault) → IfOk r (λ found. IfSome found (IsOpenAnswer command)) → OnOk r (ShowsLast old.seen x → ShowsLast new.seen y)
      → ((n : Refusal) → r ≡ Err (No n) → ShowsLast old.seen x → ShowsLast new.seen y) → (command ≡ cmd.Export → (p : PoolState) → HoldsState (Unit {0}) old.seen x p → OnOk r (IsAtRest new.seen y p))
      → (command ≡ cmd.Export → (p : PoolState) → HoldsState (Unit {0}) old.seen x p → OnOk r (TellsAtLast old new x y)) → OnOk r (IsOpen s2 y)
      → IfOk (answer_of r) (λ found. IfSome found (λ answer. Lasts old new before command (left_of (is_closing command r) y) answer))
  open_lasts (Ok None) a kept kept_no rest moves lawful = tt
  open_lasts (Ok (Some answer)) a kept kept_no rest moves lawful = record {
    last = λ after t is.
        let shows = kept (was (shown_before before.shown answer (sym (ap (λ (b : Bool). is_shown b before.shown answer) stood.is_open) ∙ is))) in
        let turn = (in_open answer after t).1 in
        closed_or_not command answer y new.seen after.shelf (trees_behind answer) a shows (λ exports answered.
        left_behind before.told.shelf (trees_behind answer) after stood.part
        (subst (λ (q : Reply). IsObjectsTurn before.copies true before.told.shelf (shelf_of old) before.told cmd.Export q after) answered
        (subst (λ (k : Command). IsObjectsTurn before.copies true before.told.shelf (shelf_of old) before.told k answer after) exports turn))
        (λ p held. left_there p (trees_behind answer) lawful shows (rest exports p held) (stood_before answer) (moves exports p held)));
    rejoined = λ after t shown imports answered. not_imported answer imports answered a;
    found_again = λ after t shown standing imports answered. not_imported answer imports answered a;
  }
  open_lasts (Err (No n)) a kept kept_no rest moves lawful = record {
    last = λ after t is. kept_no n refl (was is);
    rejoined = λ after t shown imports answered. not_done n answered;
    found_again = λ after t shown standing imports answered. not_done n answered;
  }
  open_lasts (Err (Stops s)) a kept kept_no rest moves lawful = tt

-- ---- where none is open

module _ (old new : Stand) (before : DeviceState) (command : Command) (pool : Option OpenPool) (closed : before.told.is_open ≡ false) (was : before.shown ≡ true → AreShown None old.seen before.told.shelf before.trees) where
  in_closed : (answer : Reply) (after : State) → Takes old new before command pool answer after → IsTurn false command answer after.is_open × IsObjectsTurn before.copies false before.told.shelf (shelf_of old) before.told command answer after
  in_closed answer after t = subst (λ (b : Bool). IsTurn b command answer after.is_open × IsObjectsTurn before.copies b before.told.shelf (shelf_of old) before.told command answer after) closed t

  abbrev trees_after : Bool → Reply → Bool
  trees_after is_open answer = is_standing is_open before.told.shelf before.trees command answer

  -- what was left is there still
  left_still : (n : Refusal) → pool ≡ None → new.seen ≡ old.seen → (after : State) → Takes old new before command pool (reply.No n) after → before.shown ≡ true → AreShown pool new.seen after.shelf (trees_after before.told.is_open (reply.No n))
  left_still n none same after t shown =
      let as_before = (in_closed (reply.No n) after t).1.0 in
      subst (λ (b : Bool). AreShown pool new.seen after.shelf (trees_after b (reply.No n))) (sym closed)
      (subst (λ (o : Option OpenPool). AreShown o new.seen after.shelf before.trees) (sym none)
      (subst (λ (ds : List (List ℕ)). AreShown None ds after.shelf before.trees) (sym same) (subst (λ (s : State). AreShown None old.seen s.shelf before.trees) (sym as_before) (was shown))))

  shown_anew : (o : Option OpenPool) (part : ShelfPart) (trees : Bool) → is_some o ≡ true → IfSome o (ShowsLast new.seen) → AreShown o new.seen part trees
  shown_anew None part trees some h = false_true some
  shown_anew (Some y) part trees some h = h

  -- what is found has the objects that were left
  rejoined_there : (left found : ShelfPart) (p : PoolState) → AreShown None old.seen left before.trees → Shows old.paths old.seen p → found ≡ Is p → IsRejoined left found
  rejoined_there (Is q) found p left shows is = subst (λ (part : ShelfPart). IsRejoined (Is q) part) (sym is) (λ there. left_found old.paths old.seen (map length old.seen) left.pool q.objects p left.lawful left.leaves shows there)
  rejoined_there Empty found p left shows is = tt
  rejoined_there (Refused r) found p left shows is = tt

  -- so where the disks tell where the units of removed devices have moved
  found_moved : (left found : ShelfPart) (p : PoolState) → before.trees ≡ true → AreShown None old.seen left before.trees → Shows old.paths old.seen p → found ≡ Is p → IsFoundAgain left found
  found_moved (Is q) found p standing left shows is = subst (λ (part : ShelfPart). IsFoundAgain (Is q) part) (sym is) (moved_found old.seen (map length old.seen) left.pool q.objects left.lawful left.leaves (left.moves standing) old.paths p shows)
  found_moved Empty found p standing left shows is = tt
  found_moved (Refused r) found p standing left shows is = tt

  -- an import opens what the disks show
  opens_shown : (answer : Reply) (after : State) → Takes old new before command pool answer after → command ≡ cmd.Import → answer ≡ reply.Done → (p : PoolState) × Shows old.paths old.seen p × (after.shelf ≡ Is p)
  opens_shown answer after t imports answered =
      let turn = (in_closed answer after t).1 in
      let found = subst (λ (q : Reply). IsObjectsTurn before.copies false before.told.shelf (shelf_of old) before.told cmd.Import q after) answered (subst (λ (k : Command). IsObjectsTurn before.copies false before.told.shelf (shelf_of old) before.told k answer after) imports turn) in
      (found.0, found.1, found.2.shelf)

  pub closed_lasts : (r : Result (Option Reply) Fault) → IfOk r (λ found. IfSome found (λ answer. answer ≡ reply.Done)) → IfOk r (λ found. IfSome found (λ answer. IsTurn false command answer (is_some pool))) → IfSome pool (ShowsLast new.seen)
      → ((n : Refusal) → r ≡ Err (No n) → new.seen ≡ old.seen) → OnErr r (pool ≡ None) → IfOk (answer_of r) (λ found. IfSome found (λ answer. Lasts old new before command pool answer))
  closed_lasts (Ok None) done turn opens same none = tt
  closed_lasts (Ok (Some answer)) done turn opens same none = record {
    last = λ after t is.
        let some : is_some pool ≡ true = (subst (λ (q : Reply). IsTurn false command q (is_some pool)) done turn).1 in
        shown_anew pool after.shelf (trees_after before.told.is_open answer) some opens;
    rejoined = λ after t shown imports answered.
        let found = opens_shown answer after t imports answered in
        rejoined_there before.told.shelf after.shelf found.0 (was shown) found.1 found.2;
    found_again = λ after t shown standing imports answered.
        let found = opens_shown answer after t imports answered in
        found_moved before.told.shelf after.shelf found.0 standing (was shown) found.1 found.2;
  }
  closed_lasts (Err (No n)) done turn opens same none = record {
    last = λ after t is. left_still n none (same n refl) after t is;
    rejoined = λ after t shown imports answered. not_done n answered;
    found_again = λ after t shown standing imports answered. not_done n answered;
  }
  closed_lasts (Err (Stops s)) done turn opens same none = tt
