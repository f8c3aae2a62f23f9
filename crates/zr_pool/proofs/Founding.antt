-- Whether the slots show the last root as the current one behind a line, and whether an import finds what was committed last.
use Rattle.std.proofs.Common.{◌≡◌, ◌⊎◌, inl, inr, ℕ, List, Bool, true, false, length, map, Option, Some, None, Result, Ok, Err, refl, sym, ◌∙◌, ap, subst, arith}
use Rattle.std.specs.Prelude.{IfOk, IfSome, OnOk, ◌&&◌, ◌||◌}
use Rattle.zr_base.specs.declared.refusal.Refusal.{Refusal}
use Rattle.zr_current.proofs.Committed.{goes_on, sizes_kept}
use Rattle.zr_current.proofs.Kept.{shown_still}
use Rattle.zr_current.specs.Current.{GoesOnFrom, HasSlots, IsShownFor}
use Rattle.zr_image.specs.Current.{FindsCurrent, slots_of}
use Rattle.zr_label.specs.declared.root.Uber.{Uber}
use Rattle.zr_last.proofs.Ending.{some_last}
use Rattle.zr_last.specs.Last.{KeepsRoot, ShowsLast}
use Rattle.zr_lines.specs.Stops.{OpensNoUnit, StaysInGroup, StaysInNextGroup, StaysInOneGroup}
use Rattle.zr_model.specs.Objects.{Objects}
use Rattle.zr_model.specs.State.{PoolState, ShelfPart, Empty, Refused, Is}
use Rattle.zr_newest.proofs.Newest.{devices_seen, only_newest}
use Rattle.zr_open.proofs.Flushing.{flushes_read}
use Rattle.zr_open.specs.Flushed.{FlushesOnly}
use Rattle.zr_open.specs.Shown.{Shows}
use Rattle.zr_recorded.proofs.Behind.{shown_new}
use Rattle.zr_recorded.proofs.Found.{commit_found, line_found, next_found}
use Rattle.zr_recorded.proofs.Whole.{commit_whole, line_whole, none_saved}
use Rattle.zr_recorded.specs.Found.{StandsFound}
use Rattle.zr_recorded.specs.Service.{IsWhole}
use Rattle.zr_script.specs.declared.command.Command.{Command}
use Rattle.zr_script.specs.declared.command.Command.TheVariants as cmd
use Rattle.zr_script.specs.declared.reply.Reply.{Reply}
use Rattle.zr_script.specs.declared.reply.Reply.TheVariants as reply
use Rattle.zr_shelf.proofs.Doings.{writes_still}
use Rattle.zr_shelf.specs.Moments.{World}
use Rattle.zr_sync.specs.Commits.{IsNextRoot}
use Rattle.zr_sync.specs.Ends.{EndsCommitted}
use Rattle.zr_sync.specs.Pools.{IsOpen}
use Rattle.zr_sync.specs.States.{HoldsState}
use Rattle.zr_sync.specs.Trees.{HasLastTrees}
use Rattle.zr_sync.specs.Writes.{WritesIntoFree}
use Rattle.zr_sync.specs.declared.fault.Fault.{Fault}
use Rattle.zr_sync.specs.declared.fault.Fault.TheVariants.{No, Stops}
use Rattle.zr_sync.specs.declared.open.OpenPool.{OpenPool}
use Rattle.zr_sync.specs.declared.open.Table.{Table}
use Rattle.zr_vdev.specs.Stores.{IsWriteInto}
use Rattle.zr_vdev.specs.declared.kind.Kind.TheVariants.{Block}
use Rattle.zr_pool.specs.Behind.{StaysTold, StopsInOpening, is_commit, is_in_group, is_silent}
use Rattle.zr_pool.specs.Ends.{answer_of, is_closing}
use Rattle.zr_pool.specs.Plain.{IsDone, IsMade, is_background, shelf_of}
use Rattle.zr_pool.specs.Pools.{AreCurrent, IsPartOf}
use Rattle.zr_pool.specs.Turns.{is_current, is_found, is_table, is_told}
use Rattle.zr_pool.proofs.Groups.{no_way}
use Rattle.zr_pool.proofs.Turning.{left_of}

-- ---- the current root over a line

-- the pool goes on from one root
one_root : (v u : Uber) (x : OpenPool) → GoesOnFrom v x → GoesOnFrom u x → v ≡ u
one_root v u x from other = let both : Some v ≡ Some u = sym from.last ∙ other.last in cc

pub shown_at : (disks : List (List ℕ)) (x : OpenPool) (u : Uber) → AreCurrent (Some x) disks → GoesOnFrom u x → IsShownFor disks u x
shown_at disks x u (v, goes, shown) from = subst (λ (w : Uber). IsShownFor disks w x) (one_root v u x goes from) shown

from_kept : (x y : OpenPool) (u : Uber) → KeepsRoot x y → GoesOnFrom u x → GoesOnFrom u y
from_kept x y u root from = record { last = root.last ∙ from.last; guid = root.guid ∙ from.guid; count = ap (λ (t : Table). t.count) root.table ∙ from.count; rows = ap (λ (t : Table). t.rows) root.table ∙ from.rows }

-- where only units were written, behind the same root
written_current : (sizes : List ℕ) (x y : OpenPool) (before now : World) → IsOpen sizes x → map length before.now.seen ≡ sizes → WritesIntoFree x before now → KeepsRoot x y → AreCurrent (Some x) before.now.seen → AreCurrent (Some y) now.now.seen
written_current sizes x y before now ready sized wrote root (u, from, was) =
    let s = shown_still sizes x before now ready sized wrote u was in
    (u, from_kept x y u root from, record { seen = s.seen; shown = s.shown; current = s.current; slots = subst (λ (t : Table). HasSlots (slots_of u s.seen) t.slots) (sym root.table) s.slots })

commit_current : (sizes : List ℕ) (objects : Objects) (x y : OpenPool) (before now : World) → IsOpen sizes x → map length before.now.seen ≡ sizes → EndsCommitted sizes false x y objects before now → AreCurrent (Some x) before.now.seen → AreCurrent (Some y) now.now.seen
commit_current sizes objects x y before now ready sized ends (u, from, was) =
    let first = ready.first in
    let txg = ends.txg in
    let root = some_last y.last y.group.txg ends.pool.after (omega (arith, first, txg)) in
    let goes = goes_on x y false root.0 root.1 (subst (λ (o : Option Uber). IfSome o (IsNextRoot x false)) root.1 ends.last) ends.same in
    (root.0, goes, shown_new sizes false u x y objects before now ready from sized was ends root.0 goes)

module _ (sizes : List ℕ) (objects : Objects) (x y : OpenPool) (before now : World) (ready : IsOpen sizes x) (sized : map length before.now.seen ≡ sizes) (sized_now : map length now.now.seen ≡ sizes) (was : AreCurrent (Some x) before.now.seen) where
  one_group_current : StaysInOneGroup sizes objects x y before now → AreCurrent (Some y) now.now.seen
  one_group_current (inl stays) = written_current sizes x y before now ready sized stays.written stays.root was
  one_group_current (inr more) =
      written_current sizes more.next y more.start now more.commits.pool (sym (sizes_kept sizes more.next more.commits.pool more.start now more.stays.written) ∙ sized_now) more.stays.written more.stays.root
      (commit_current sizes objects x more.next before more.start ready sized more.commits was)

  told_current : (command : Command) → StaysTold sizes objects command x y before now → AreCurrent (Some y) now.now.seen
  told_current command (inl stays) = one_group_current stays
  told_current command (inr (step, (nothing, (opens, trees)))) = written_current sizes x y before now ready sized (writes_still (IsWriteInto Block x.table.slots x.space) before now nothing) opens.root was

-- ---- behind a line to an open pool

both_true : (a b : Bool) → (a && b) ≡ true → (a ≡ true) × (b ≡ true)
both_true true b is = (refl, is)
both_true false b is = no_way is

either_true : (a b : Bool) → (a || b) ≡ true → (a ≡ true) ⊎ (b ≡ true)
either_true true b is = inl refl
either_true false b is = inr is

current_done : (part : ShelfPart) (current : Bool) (command : Command) (answer : Reply) → IsDone answer → is_current true part current command answer ≡ true → (current ≡ true) × ((is_told part ≡ true) × ((is_in_group command || is_background command answer) ≡ true))
current_done part current command (reply.No r) done is = absurd done
current_done part current command answer done is =
    let both = both_true current (is_told part && (is_in_group command || is_background command answer)) is in
    (both.0, both_true (is_told part) (is_in_group command || is_background command answer) both.1)

left_current : (closing : Bool) (y : OpenPool) (disks : List (List ℕ)) → AreCurrent (Some y) disks → AreCurrent (left_of closing y) disks
left_current true y disks h = tt
left_current false y disks h = h

module _ (sizes : List ℕ) (old new : World) (part : ShelfPart) (current : Bool) (command : Command) (x y : OpenPool) (ready : IsOpen sizes x) (sized_old : map length old.now.seen ≡ sizes) (sized_new : map length new.now.seen ≡ sizes) (held : IsPartOf old.now.seen x part) (stood : current ≡ true → AreCurrent (Some x) old.now.seen) where
  told_state : (part : ShelfPart) → IsPartOf old.now.seen x part → is_told part ≡ true → (p : PoolState) × HoldsState (Unit {0}) old.now.seen x p
  told_state (Is p) holds is = (p, holds)
  told_state Empty holds is = no_way is
  told_state (Refused r) holds is = no_way is

  pub open_current : (r : Result (Option Reply) Fault) → IfOk r (λ found. IfSome found IsDone) → (is_in_group command ≡ true → (p : PoolState) → HoldsState (Unit {0}) old.now.seen x p → OnOk r (StaysTold sizes p.objects command x y old new))
      → ((p : PoolState) → HoldsState (Unit {0}) old.now.seen x p → (n : Refusal) → r ≡ Err (No n) → StaysInOneGroup sizes p.objects x y old new)
      → IfOk r (λ found. IfSome found (λ answer. is_background command answer ≡ true → WritesIntoFree x old new × OpensNoUnit x y))
      → IfOk (answer_of r) (λ found. IfSome found (λ answer. is_current true part current command answer ≡ true → AreCurrent (left_of (is_closing command r) y) new.now.seen))
  open_current (Ok None) done group group_no steps = tt
  open_current (Ok (Some answer)) done group group_no steps = λ is.
      let all = current_done part current command answer done is in
      let p = told_state part held all.1.0 in
      let was = stood all.0 in
      left_current (is_closing command (Ok (Some answer))) y new.now.seen (elim (either_true (is_in_group command) (is_background command answer) all.1.1) [
        | inl works ↦ told_current sizes p.0.objects x y old new ready sized_old sized_new was command (group works p.0 p.1)
        | inr step ↦ written_current sizes x y old new ready sized_old (steps step).0 (steps step).1.root was
      ])
  open_current (Err (No n)) done group group_no steps = λ is.
      let both = both_true current (is_told part) is in
      let p = told_state part held both.1 in
      one_group_current sizes p.0.objects x y old new ready sized_old sized_new (stood both.0) (group_no p.0 p.1 n refl)
  open_current (Err (Stops s)) done group group_no steps = tt

-- ---- behind a line where none was open

-- an import is behind a flush, so the slots show what they showed
import_current : (old new : World) (y : OpenPool) (p : PoolState) → FlushesOnly old new → Shows old.now.paths old.now.seen p → ShowsLast new.now.seen y → AreCurrent (Some y) new.now.seen
import_current old new y p flushes shows last =
    let same = (flushes_read old new flushes).seen in
    let there : Shows old.now.paths new.now.seen p = subst (λ (ds : List (List ℕ)). Shows old.now.paths ds p) (sym same) shows in
    let one = only_newest new.now.seen last.root y.table.slots there.seen last.newest there.shown there.root.uber there.current in (
      last.root,
      last.from,
      record {
        seen = there.seen;
        shown = there.shown;
        current = subst (λ (u : Uber). FindsCurrent there.seen (Ok u)) one there.current;
        slots = λ d. devices_seen new.now.seen last.root y.table.slots there.seen last.newest there.shown d;
      },
    )

module _ (sizes : List ℕ) (old new : World) (part : ShelfPart) (current : Bool) (Holds : OpenPool → PoolState → Type 0) where
  opened_current : (command : Command) (pool : Option OpenPool) → StopsInOpening sizes command old new → IfSome pool (λ y. IsMade (shelf_of old.now) (Holds y) command) → IfSome pool (ShowsLast new.now.seen) → is_current false part current command reply.Done ≡ true → AreCurrent pool new.now.seen
  opened_current command None stops made last is = tt
  opened_current cmd.Import (Some y) stops made last is = import_current old new y made.0 stops made.1 last
  opened_current command (Some y) stops made last is = no_way is

  pub closed_current : (command : Command) (pool : Option OpenPool) (r : Result (Option Reply) Fault) → IfOk r (λ found. IfSome found (λ answer. answer ≡ reply.Done)) → StopsInOpening sizes command old new → IfSome pool (λ y. IsMade (shelf_of old.now) (Holds y) command) → IfSome pool (ShowsLast new.now.seen)
      → IfOk (answer_of r) (λ found. IfSome found (λ answer. is_current false part current command answer ≡ true → AreCurrent pool new.now.seen))
  closed_current command pool (Ok None) done stops made last = tt
  closed_current command pool (Ok (Some answer)) done stops made last = λ is. opened_current command pool stops made last (sym (ap (is_current false part current command) done) ∙ is)
  closed_current command pool (Err (No n)) done stops made last = λ is. no_way is
  closed_current command pool (Err (Stops s)) done stops made last = tt

-- ---- what an import finds

-- the pool was whole before the line, and no root was saved, where that is so behind it
pub record WasWhole (old new : OpenPool) : Type 0 where
  pub whole : IsWhole new → IsWhole old
  pub unsaved : new.saved ≡ None → old.saved ≡ None

was_through : (x y z : OpenPool) → WasWhole x y → WasWhole y z → WasWhole x z
was_through x y z first then = record { whole = λ is. first.whole (then.whole is); unsaved = λ is. first.unsaved (then.unsaved is) }

module _ (sizes : List ℕ) (objects : Objects) (x y : OpenPool) (before now : World) (was : IsOpen sizes x) (ready : IsOpen sizes y) where
  group_whole : StaysInGroup x y before now → WasWhole x y
  group_whole stays = record { whole = line_whole sizes x y was stays.space stays.root.table; unsaved = none_saved sizes x y was ready stays.space.rows.ckpt }

  commit_was : EndsCommitted sizes false x y objects before now → WasWhole x y
  commit_was ends = record { whole = commit_whole sizes false x y objects before now was ends; unsaved = none_saved sizes x y was ready ends.same.ckpt }

pub one_group_whole : (sizes : List ℕ) (objects : Objects) (x y : OpenPool) (before now : World) → IsOpen sizes x → IsOpen sizes y → StaysInOneGroup sizes objects x y before now → WasWhole x y
one_group_whole sizes objects x y before now was ready (inl stays) = group_whole sizes objects x y before now was ready stays
one_group_whole sizes objects x y before now was ready (inr more) =
    was_through x more.next y (commit_was sizes objects x more.next before more.start was more.commits.pool more.commits) (group_whole sizes objects more.next y more.start now more.commits.pool ready more.stays)

-- a line that stays in the group leaves it to be found
pub stays_found : (sizes : List ℕ) (objects : Objects) (x y : OpenPool) (before now : World) → StandsFound sizes objects x before.now → WritesIntoFree x before now → OpensNoUnit x y → StandsFound sizes objects y now.now
stays_found sizes objects x y before now h wrote opens = line_found sizes objects x before h y now wrote opens.units opens.root.table opens.root.last opens.root.guid

pub group_found : (sizes : List ℕ) (objects : Objects) (x y : OpenPool) (before now : World) → StandsFound sizes objects x before.now → StaysInGroup x y before now → StandsFound sizes objects y now.now
group_found sizes objects x y before now h stays = line_found sizes objects x before h y now stays.written stays.space.writable stays.root.table stays.root.last stays.root.guid

-- and so does one that is behind a commit in between
pub next_group_found : (sizes : List ℕ) (objects told : Objects) (x y : OpenPool) (before now : World) → IsOpen sizes x → IsOpen sizes y → (IsWhole x → x.saved ≡ None → StandsFound sizes objects x before.now) → HasLastTrees before.now.seen x → StaysInNextGroup sizes told x y before now → IsWhole y → y.saved ≡ None
    → StandsFound sizes told y now.now
next_group_found sizes objects told x y before now was ready h had more whole unsaved =
    let last = group_whole sizes told more.next y more.start now more.commits.pool ready more.stays in
    let first = commit_was sizes told x more.next before more.start was more.commits.pool more.commits in
    group_found sizes told more.next y more.start now
    (next_found sizes false objects told x more.next before more.start (h (first.whole (last.whole whole)) (first.unsaved (last.unsaved unsaved))) was had more.commits (last.whole whole) (last.unsaved unsaved)) more.stays

-- a commit is found where the slots show the last root
pub ends_found : (sizes : List ℕ) (objects : Objects) (x y : OpenPool) (before now : World) → IsOpen sizes x → map length before.now.seen ≡ sizes → ShowsLast before.now.seen x → AreCurrent (Some x) before.now.seen → HasLastTrees before.now.seen x → EndsCommitted sizes false x y objects before now → IsWhole y → y.saved ≡ None
    → StandsFound sizes objects y now.now
ends_found sizes objects x y before now ready sized last current had ends whole unsaved =
    commit_found sizes false last.root x y objects before now ready last.from sized last.newest (shown_at before.now.seen x last.root current last.from) had ends whole unsaved

-- ---- by what the line is

module _ (x : OpenPool) (trees current found : Bool) where
  -- only lines that work in the group leave it to be found
  pub found_in_group : (command : Command) (answer : Reply) → IsDone answer → is_found (Some x) trees current found command answer ≡ true → is_in_group command ≡ true
  found_in_group command (reply.No r) done is = absurd done
  found_in_group (cmd.Add dev) answer done is = no_way is
  found_in_group cmd.Checkpoint answer done is = no_way is
  found_in_group cmd.Discard answer done is = no_way is
  found_in_group cmd.Upgrade answer done is = no_way is
  found_in_group (cmd.Remove dev) answer done is = no_way is
  found_in_group cmd.Cancel answer done is = no_way is
  found_in_group cmd.StepEvac answer done is = no_way is
  found_in_group cmd.StepCondense answer done is = no_way is
  found_in_group (cmd.Create name guid devs) answer done is = no_way is
  found_in_group (cmd.CreateOld name guid devs) answer done is = no_way is
  found_in_group cmd.Import answer done is = no_way is
  found_in_group cmd.ImportRewind answer done is = no_way is
  found_in_group (cmd.ImportTxg txg) answer done is = no_way is
  found_in_group cmd.Quit answer done is = no_way is
  found_in_group command answer done is = refl

  only_first : (b : Bool) → (b || false) ≡ true → b ≡ true
  only_first true is = refl
  only_first false is = no_way is

  -- of those that write nothing, tables
  pub found_silent : (command : Command) (answer : Reply) → IsDone answer → is_silent command ≡ true → is_found (Some x) trees current found command answer ≡ true → (is_table command ≡ true) × (found ≡ true)
  found_silent command (reply.No r) done on is = absurd done
  found_silent cmd.List answer done on is = (refl, only_first found is)
  found_silent cmd.Status answer done on is = (refl, only_first found is)
  found_silent cmd.Audit answer done on is = (refl, only_first found is)
  found_silent (cmd.Estimate dev) answer done on is = (refl, only_first found is)
  found_silent (cmd.Map index) answer done on is = (refl, only_first found is)
  found_silent cmd.StepDiscard answer done on is = no_way is
  found_silent cmd.StepCondense answer done on is = no_way is
  found_silent command answer done on is = no_way on

  -- a commit
  pub found_commit : (command : Command) (answer : Reply) → IsDone answer → is_commit command ≡ true → is_found (Some x) trees current found command answer ≡ true → (trees ≡ true) × (current ≡ true)
  found_commit command (reply.No r) done on is = absurd done
  found_commit cmd.Sync answer done on is = both_true trees current is
  found_commit cmd.Export answer done on is = both_true trees current is
  found_commit command answer done on is = no_way on

  -- and of the others lines on objects
  pub found_line : (command : Command) (answer : Reply) → IsDone answer → is_silent command ≡ false → is_commit command ≡ false → is_found (Some x) trees current found command answer ≡ true → (trees ≡ true) × (found ≡ true)
  found_line command (reply.No r) done loud no_commit is = absurd done
  found_line (cmd.Make id units) answer done loud no_commit is = both_true trees found (only_first (trees && found) is)
  found_line (cmd.Drop id) answer done loud no_commit is = both_true trees found (only_first (trees && found) is)
  found_line (cmd.Write id off bytes) answer done loud no_commit is = both_true trees found (only_first (trees && found) is)
  found_line (cmd.Fill id off len byte) answer done loud no_commit is = both_true trees found (only_first (trees && found) is)
  found_line (cmd.Punch id off len) answer done loud no_commit is = both_true trees found (only_first (trees && found) is)
  found_line (cmd.Read id off len) answer done loud no_commit is = both_true trees found (only_first (trees && found) is)
  found_line (cmd.Sum id) answer done loud no_commit is = both_true trees found (only_first (trees && found) is)
  found_line cmd.Sync answer done loud no_commit is = no_way (sym no_commit)
  found_line cmd.Export answer done loud no_commit is = no_way (sym no_commit)
  found_line cmd.List answer done loud no_commit is = no_way (sym loud)
  found_line cmd.Status answer done loud no_commit is = no_way (sym loud)
  found_line cmd.Audit answer done loud no_commit is = no_way (sym loud)
  found_line (cmd.Estimate dev) answer done loud no_commit is = no_way (sym loud)
  found_line (cmd.Map index) answer done loud no_commit is = no_way (sym loud)
  found_line command answer done loud no_commit is = no_way is

-- a refusal
pub refused_found : (x : OpenPool) (trees current found : Bool) (command : Command) (n : Refusal) → is_found (Some x) trees current found command (reply.No n) ≡ true → (trees ≡ true) × (found ≡ true)
refused_found x trees current found command n is = both_true trees found is

-- a step in the background does not work in the group
pub background_alone : (command : Command) (answer : Reply) → is_background command answer ≡ true → is_in_group command ≡ true → ⊥
background_alone cmd.StepEvac answer step group = no_way group
background_alone cmd.StepCondense answer step group = no_way group
background_alone command answer step group = no_way step

-- a line that writes something is no step of discarding
pub in_one : (sizes : List ℕ) (objects : Objects) (command : Command) (x y : OpenPool) (before now : World) → (command ≡ cmd.StepDiscard → ⊥) → StaysTold sizes objects command x y before now → StaysInOneGroup sizes objects x y before now
in_one sizes objects command x y before now none (inl stays) = stays
in_one sizes objects command x y before now none (inr step) = absurd (none step.0)

pub table_no_step : (command : Command) → is_table command ≡ true → command ≡ cmd.StepDiscard → ⊥
table_no_step command table same = no_way (subst (λ (c : Command). is_table c ≡ true) same table)

pub loud_no_step : (command : Command) → is_silent command ≡ false → command ≡ cmd.StepDiscard → ⊥
loud_no_step command loud same = no_way (sym (subst (λ (c : Command). is_silent c ≡ false) same loud))
