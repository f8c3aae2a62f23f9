-- Which objects are told to be committed last behind a line, and what a crash shows at each moment of it.
use Rattle.std.proofs.Common.{◌≡◌, ◌⊎◌, inl, inr, ℕ, zero, suc, List, [], ◌∷◌, Bool, true, false, length, map, Option, Some, None, Result, Ok, Err, refl, sym, ◌∙◌, ap, subst, ⊎_elim}
use Rattle.std.specs.FinMap as map
use Rattle.std.specs.Prelude.{IfOk, IfSome, OnErr, OnOk, is_some, not, if◌then◌else◌, ◌&&◌, ◌||◌}
use Rattle.zr_base.specs.declared.refusal.Refusal.{Refusal}
use Rattle.zr_base.specs.declared.space.DevPart.{DevPart}
use Rattle.zr_command.specs.Meanings.{disks_of, Disks}
use Rattle.zr_current.specs.Current.{GoesOnFrom}
use Rattle.zr_label.specs.declared.root.Uber.{Uber}
use Rattle.zr_last.specs.Last.{KeepsDevices, KeepsLast, ShowsLast}
use Rattle.zr_sync.specs.Ends.{ComesCommitted, EndsCommitted}
use Rattle.zr_lines.specs.Stops.{OpensNoUnit, StaysInOneGroup, WritesInOneGroup, WritesOneReset, WritesReset}
use Rattle.zr_model.specs.Objects.{Objects}
use Rattle.zr_model.specs.Runs.{point}
use Rattle.zr_model.specs.State.{PoolState, ShelfPart, Empty, Refused, Is}
use Rattle.zr_open.specs.Flushed.{FlushesOnly}
use Rattle.zr_open.specs.Left.{IsLeftCommitted}
use Rattle.zr_recorded.proofs.Found.{same_found}
use Rattle.zr_recorded.specs.Found.{StandsFound}
use Rattle.zr_recorded.specs.Service.{IsWhole}
use Rattle.zr_rules.specs.Equation.{devices_in}
use Rattle.zr_rules.specs.Places.{is_gone, part_of}
use Rattle.zr_script.specs.declared.command.Command.{Command}
use Rattle.zr_script.specs.declared.command.Command.TheVariants as cmd
use Rattle.zr_script.specs.declared.reply.Reply.{Reply}
use Rattle.zr_script.specs.declared.reply.Reply.TheVariants as reply
use Rattle.zr_shelf.proofs.Runs.{joined, weaker}
use Rattle.zr_shelf.specs.Disks.{Stand, IsAtRest}
use Rattle.zr_shelf.specs.Moments.{IsStill, Throughout, World}
use Rattle.zr_open.specs.There.{AreThere, IsReadable, StaysReadable, WillBeReadable}
use Rattle.zr_removal.proofs.Returning.{back_devices, back_open}
use Rattle.zr_removal.specs.Turns.{CancelsInPart}
use Rattle.zr_stops.proofs.Committing.{there_alike, there_same}
use Rattle.zr_stops.proofs.Joining.{adds_show}
use Rattle.zr_stops.proofs.Behind.{behind_shows, commit_behind, commit_shows, line_behind, line_shows, left_behind, made_behind, shown_behind, stop_shows, turn_shows}
use Rattle.zr_stops.proofs.Within.{left_by, same_behind}
use Rattle.zr_stops.specs.Behind.{AreSameDisks, ShowsOnly, StandsBehind}
use Rattle.zr_stops.specs.Either.{ShowsEither}
use Rattle.zr_sync.specs.Moves.{TellsMoves}
use Rattle.zr_sync.specs.Pools.{IsOpen}
use Rattle.zr_sync.specs.Trees.{HasLastTrees}
use Rattle.zr_sync.specs.States.{HoldsState}
use Rattle.zr_sync.specs.Writes.{WorksOnDisks, WritesIntoFree}
use Rattle.zr_sync.specs.declared.fault.Fault.{Fault}
use Rattle.zr_sync.specs.declared.fault.Fault.TheVariants.{No, Stops}
use Rattle.zr_sync.specs.declared.open.OpenPool.{OpenPool}
use Rattle.zr_create.specs.Making.{HasNoRoot, MakesBehind}
use Rattle.zr_open.proofs.Flushing.{flushes_read}
use Rattle.zr_stops.proofs.Making.{in_the_way, makes_empty}
use Rattle.zr_pool.proofs.Beginning.{flushes_unwritten, of_beginning, unwritten_more}
use Rattle.zr_open.specs.Going.{PutsBack}
use Rattle.zr_open.specs.Shown.{Shows}
use Rattle.zr_stops.proofs.Returning.{returns_either}
use Rattle.zr_stops.proofs.Preparing.{settled_left}
use Rattle.zr_pool.proofs.Closed.{closed_behind, closed_shows, flushes_keep, still_closed, stands_as}
use Rattle.zr_pool.proofs.Groups.{acknowledged_commits, background_no_commit, background_no_reset, commits_in_group, not_ending, opening_stops, opens_no_commit, opens_no_end, silent_leaves, silent_no_commit, silent_no_reset, tables_silent, writing_resets}
use Rattle.zr_pool.proofs.Founding.{WasWhole, background_alone, ends_found, found_commit, found_in_group, found_line, found_silent, group_found, in_one, loud_no_step, next_group_found, one_group_whole, refused_found, stays_found, table_no_step}
use Rattle.zr_pool.proofs.Outside.{keeps_outside}
use Rattle.zr_pool.proofs.Resets.{behind_last, reset_behind}
use Rattle.zr_pool.proofs.Turning.{left_of}
use Rattle.zr_pool.specs.Behind.{ComesFrom, HasReset, IsBehindTurn, LeavesEither, LeavesOnly, OpensTo, StaysTold, StopsInCreate, StopsInOpening, StopsInReset, WritesTold, all_there, are_there, commits_nothing, ends_no_removal, ends_reset, is_acknowledged, is_commit, is_create, is_import, is_in_group, is_known, is_readable, is_refusal, is_resetting, is_silent, is_writing_trees, keeps_trees, leaves_told, may_commit, may_stop, none_gone}
use Rattle.zr_pool.specs.Behind.ComesFrom.{kept, committed, changed, made, found}
use Rattle.zr_pool.specs.Ends.{answer_of, is_closing}
use Rattle.zr_pool.specs.Plain.{IsDone, is_background}
use Rattle.zr_pool.specs.Pools.{AreCurrent, DeviceState, IsBehind, IsClosedBehind, IsFoundBehind, IsPartOf, stand_of, IsAsBegun, IsUnwritten}
use Rattle.zr_pool.specs.Turns.{IsClosedAnswer, IsTurn, IsWithin, is_found, is_opened, is_opener, is_table}
use Rattle.zr_shelf.proofs.Doings.{writes_still}
use Rattle.zr_vdev.specs.Stores.{IsWriteInto}
use Rattle.zr_vdev.specs.declared.kind.Kind.TheVariants.{Block}

no_way : {P : Type 0} → false ≡ true → P
no_way e = absurd cc

none_some : {A P : Type 0} (a : A) → None ≡ Some a → P
none_some a e = absurd cc

-- ---- devices that are there

first_there : (a b : Bool) → (not a && b) ≡ true → a ≡ false
first_there true b is = no_way is
first_there false b is = refl

rest_there : (a b : Bool) → (not a && b) ≡ true → b ≡ true
rest_there true b is = no_way is
rest_there false b is = is

rows_there : (parts : List DevPart) → all_there parts ≡ true → (d : ℕ) → is_gone (part_of parts d).row.state ≡ false
rows_there [] all d = refl
rows_there (p ∷ parts) all zero = first_there (is_gone p.row.state) (all_there parts) all
rows_there (p ∷ parts) all (suc d) = rows_there parts (rest_there (is_gone p.row.state) (all_there parts) all) d

all_rows : (parts : List DevPart) → ((d : ℕ) → is_gone (part_of parts d).row.state ≡ false) → all_there parts ≡ true
all_rows [] on = refl
all_rows (p ∷ parts) on = ap (λ (b : Bool). not b && all_there parts) (on zero) ∙ all_rows parts (λ d. on (suc d))

all_devices : (pool : OpenPool) → AreThere (devices_in pool.space) → are_there (Some pool) ≡ true
all_devices pool on = all_rows pool.space.parts.devs on

devices_there : (pool : OpenPool) → are_there (Some pool) ≡ true → AreThere (devices_in pool.space)
devices_there pool all d = rows_there pool.space.parts.devs all d

-- ---- a stand and its disks

same_disks : (s : Stand) → AreSameDisks s (stand_of (disks_of s))
same_disks s = record { durable = refl; writes = refl; seen = refl }

back_again : (s : Stand) → AreSameDisks (stand_of (disks_of s)) s
back_again s = record { durable = refl; writes = refl; seen = refl }

to_disks : (sizes : List ℕ) (objects : Objects) (pool : OpenPool) (s : Stand) → map length s.seen ≡ sizes → StandsBehind sizes objects pool s → IsBehind (Some pool) (disks_of s) objects
to_disks sizes objects pool s sized h = subst (λ (n : List ℕ). StandsBehind n objects pool (stand_of (disks_of s))) (sym sized) (same_behind sizes objects pool s (stand_of (disks_of s)) (same_disks s) h)

from_disks : (sizes : List ℕ) (objects : Objects) (pool : OpenPool) (s : Stand) → map length s.seen ≡ sizes → IsBehind (Some pool) (disks_of s) objects → StandsBehind sizes objects pool s
from_disks sizes objects pool s sized h = same_behind sizes objects pool (stand_of (disks_of s)) s (back_again s) (subst (λ (n : List ℕ). StandsBehind n objects pool (stand_of (disks_of s))) sized h)

to_found : (sizes : List ℕ) (objects : Objects) (pool : OpenPool) (s : Stand) → map length s.seen ≡ sizes → StandsFound sizes objects pool s → StandsFound (map length s.seen) objects pool (stand_of (disks_of s))
to_found sizes objects pool s sized h = subst (λ (n : List ℕ). StandsFound n objects pool (stand_of (disks_of s))) (sym sized) (same_found sizes objects pool s h (stand_of (disks_of s)) (same_disks s))

from_found : (sizes : List ℕ) (objects : Objects) (pool : OpenPool) (s : Stand) → map length s.seen ≡ sizes → StandsFound (map length s.seen) objects pool (stand_of (disks_of s)) → StandsFound sizes objects pool s
from_found sizes objects pool s sized h = same_found sizes objects pool (stand_of (disks_of s)) (subst (λ (n : List ℕ). StandsFound n objects pool (stand_of (disks_of s))) sized h) s (back_again s)

leaves_there : (a b : Objects) (s : Stand) → ShowsEither a b s → LeavesEither a b (disks_of s)
leaves_there a b s shows image left paths p is = shows image (left_by s (stand_of (disks_of s)) (same_disks s) image left) paths p is

first_of : (a b : Objects) (s : Stand) → ShowsOnly a s → ShowsEither a b s
first_of a b s shows image left paths p is = inl (shows image left paths p is)

second_of : (a b : Objects) (s : Stand) → ShowsOnly b s → ShowsEither a b s
second_of a b s shows image left paths p is = inr (shows image left paths p is)

both_told : (a b : Objects) (s : Stand) → ShowsEither b b s → ShowsEither a b s
both_told a b s shows image left paths p is = inr (one (shows image left paths p is))
  where
    one : (p.objects ≡ b) ⊎ (p.objects ≡ b) → p.objects ≡ b
    one (inl same) = same
    one (inr same) = same

-- ---- a line in its group

module _ (sizes : List ℕ) (objects told : Objects) (x : OpenPool) (old : World) (h : StandsBehind sizes objects x old.now) (lawful : IsOpen sizes x) (will : WillBeReadable old.now.seen x) where
  -- it leaves the objects that were committed last, or has committed those from before it
  record Committed (y : OpenPool) (new : World) : Type 0 where
    pub all : Objects
    pub which : (all ≡ objects) ⊎ (all ≡ told)
    pub behind : StandsBehind sizes all y new.now

  one_group_behind : (y : OpenPool) (new : World) → StaysInOneGroup sizes told x y old new → Committed y new
  one_group_behind y new (inl stays) = record { all = objects; which = inl refl; behind = line_behind sizes objects x old h y new stays.written stays.space.writable stays.root.table stays.root.last stays.root.guid }
  one_group_behind y new (inr more) =
      let b = commit_behind sizes objects x old h lawful false told more.start more.next will more.commits in
      record { all = told; which = inr refl; behind = line_behind sizes told more.next more.start b y new more.stays.written more.stays.space.writable more.stays.root.table more.stays.root.last more.stays.root.guid }

  writes_show : (new : World) → WritesInOneGroup sizes told x old new → Throughout (ShowsEither objects told) old new
  writes_show new (inl wrote) = weaker (ShowsOnly objects) (ShowsEither objects told) old new (first_of objects told) (line_shows sizes objects x old h new wrote)
  writes_show new (inr (inl commits)) = stop_shows sizes objects x old h lawful false told new (HasLastTrees old.now.seen x) will commits
  writes_show new (inr (inr more)) =
      let b = commit_behind sizes objects x old h lawful false told more.start more.next will more.commits in
      joined (ShowsEither objects told) old more.start new (commit_shows sizes objects x old h lawful false told more.start more.next will more.commits)
      (weaker (ShowsOnly told) (ShowsEither objects told) more.start new (second_of objects told) (line_shows sizes told more.next more.start b new more.written))

-- a reset: the pool is changed in memory before anything is written
module _ (Told : Type 0) (sizes : List ℕ) (objects told : Objects) (x : OpenPool) (old : World) (h : StandsBehind sizes objects x old.now) (lawful : IsOpen sizes x) (stays_so : StaysReadable x Told) where
  -- no device goes where each is where it was
  placed_so : (other : OpenPool) → IsOpen sizes other → KeepsDevices x other → StaysReadable x Told → StaysReadable other Told
  placed_so other ready keeps (inl there) = inl (there_alike sizes x other lawful ready keeps.count keeps.rows there)
  placed_so other ready keeps (inr is) = inr is

  one_reset_shows : (new : World) → WritesOneReset Told sizes told x old new → Throughout (ShowsEither objects told) old new
  one_reset_shows new (inl nothing) = weaker (λ s. s ≡ old.now) (ShowsEither objects told) old new (λ s same. subst (ShowsEither objects told) (sym same) (first_of objects told old.now (behind_shows sizes objects x old.now h))) nothing.since
  one_reset_shows new (inr (other, ready, stays, commits)) = turn_shows sizes objects x old h other stays.devices stays.units ready true told new Told (placed_so other ready stays.devices stays_so) commits

-- a line that ends with a reset, at once or behind the commit of the group
module _ (Told : Type 0) (sizes : List ℕ) (objects told : Objects) (x : OpenPool) (old : World) (h : StandsBehind sizes objects x old.now) (lawful : IsOpen sizes x) (will : WillBeReadable old.now.seen x) (stays_so : StaysReadable x Told) where
  next_so : (next : OpenPool) → IsOpen sizes next → next.table ≡ x.table → StaysReadable x Told → StaysReadable next Told
  next_so next ready table (inl there) = inl (there_same sizes x next lawful ready table there)
  next_so next ready table (inr is) = inr is

  reset_shows : (new : World) → WritesReset Told sizes told x old new → Throughout (ShowsEither objects told) old new
  reset_shows new (inl once) = one_reset_shows Told sizes objects told x old h lawful stays_so new once
  reset_shows new (inr (inl commits)) = stop_shows sizes objects x old h lawful false told new (HasLastTrees old.now.seen x) will commits
  reset_shows new (inr (inr more)) =
      let b = commit_behind sizes objects x old h lawful false told more.start more.next will more.commits in
      joined (ShowsEither objects told) old more.start new (commit_shows sizes objects x old h lawful false told more.start more.next will more.commits)
      (weaker (ShowsEither told told) (ShowsEither objects told) more.start new (both_told objects told) (one_reset_shows Told sizes told told more.next more.start b more.commits.pool (next_so more.next more.commits.pool more.commits.same.table stays_so) new more.resets))

module _ (sizes : List ℕ) (objects told : Objects) (x : OpenPool) (old : World) (h : StandsBehind sizes objects x old.now) (lawful : IsOpen sizes x) where
  -- or the adding of a device
  stop_in_reset : (command : Command) → WillBeReadable old.now.seen x → StaysReadable x (WritesTold command x old) → (new : World) → StopsInReset sizes told command x old new → Throughout (ShowsEither objects told) old new
  stop_in_reset command will stays_so new (inl resets) = reset_shows (WritesTold command x old) sizes objects told x old h lawful will stays_so new resets
  stop_in_reset command will stays_so new (inr (slot, adds)) = adds_show sizes objects told slot x lawful old new h will adds

  -- or a removal that is given up: free units are written, and the pool to which the device has come back is committed
  only_last : (new : World) → WritesIntoFree x old new → Throughout (ShowsEither objects told) old new
  only_last new wrote = weaker (ShowsOnly objects) (ShowsEither objects told) old new (first_of objects told) (line_shows sizes objects x old h new wrote)

  return_shows : AreThere (devices_in x.space) → (new : World) → CancelsInPart sizes told x old new → Throughout (ShowsEither objects told) old new
  return_shows there new (inl wrote) = only_last new wrote
  return_shows there new (inr b) =
      let keeps = back_devices sizes x b.back b.dev lawful b.leaving b.comes in
      let later = line_behind sizes objects x old h x b.start b.written (λ d u is. is) refl refl refl in
      joined (ShowsEither objects told) old b.start new (only_last b.start b.written)
      (turn_shows sizes objects x b.start later b.back keeps (back_open x b.back b.dev b.comes) b.ready true told new ⊥ (inl (there_alike sizes x b.back lawful b.ready keeps.count keeps.rows there)) b.commits)

-- ---- what is told behind a line

module _ (new : World) (before : DeviceState) (command : Command) (part : ShelfPart) where
  pub record Behinds (pool : Option OpenPool) (answer : Reply) : Type 0 where
    pub behind : Option Objects
    pub stands : IfSome behind (IsBehind pool (disks_of new.now))
    pub turn : IsBehindTurn before command answer part pool behind
    pub found : is_found before.account before.trees before.current before.found command answer ≡ true → IfSome behind (IsFoundBehind pool (disks_of new.now))

  -- nothing is told
  untold : (pool : Option OpenPool) (answer : Reply) → (before.account ≡ None → is_create command ≡ true → are_there pool ≡ true → ⊥) → (before.account ≡ None → is_import command ≡ true → answer ≡ reply.Done → (p : PoolState) → part ≡ Is p → ⊥) → ((p : PoolState) → before.told.shelf ≡ Is p → is_some before.behind ≡ true → (is_readable before.account before.trees || commits_nothing command answer) ≡ true → leaves_told before.account answer command ≡ true → ⊥)
      → ((p : PoolState) → before.told.shelf ≡ Is p → is_known before ≡ true → ends_reset answer command ≡ true → (are_there pool || (before.trees && is_writing_trees command)) ≡ true → ⊥) → ((p : PoolState) → before.told.shelf ≡ Is p → is_known before ≡ true → is_acknowledged answer command ≡ true → ⊥) → Behinds pool answer
  untold pool answer makes opens keeps resets commits = record {
    behind = None;
    stands = tt;
    turn = record {
      from = λ objects is. none_some objects is;
      makes = λ none create done there. absurd (makes none create there);
      opens = λ none import done p told. absurd (opens none import done p told);
      keeps = λ p told some readable leaves. absurd (keeps p told some readable leaves);
      resets = λ p told known on there. absurd (resets p told known on there);
      commits = λ p told known acknowledged. absurd (commits p told known acknowledged);
    };
    found = λ is. tt;
  }

  -- these are
  told_behind : (pool : Option OpenPool) (answer : Reply) (p : PoolState) (all : Objects) → (before.account ≡ None → is_create command ≡ true → answer ≡ reply.Done → ⊥) → (before.account ≡ None → is_import command ≡ true → answer ≡ reply.Done → ⊥) → before.told.shelf ≡ Is p → ComesFrom before command answer part all
      → IsBehind pool (disks_of new.now) all → (ends_reset answer command ≡ true → all ≡ p.objects) → (is_acknowledged answer command ≡ true → all ≡ p.objects) → (is_found before.account before.trees before.current before.found command answer ≡ true → IsFoundBehind pool (disks_of new.now) all) → Behinds pool answer
  told_behind pool answer p all not_made not_opened told comes stands reset_all committed_all finds = record {
    behind = Some all;
    stands = stands;
    found = finds;
    turn = record {
      from = λ objects is. let same : all ≡ objects = cc in subst (ComesFrom before command answer part) same comes;
      makes = λ none create done there. absurd (not_made none create done);
      opens = λ none import done q told_q. absurd (not_opened none import done);
      keeps = λ q told_q some readable leaves. refl;
      resets = λ q told_q known on there. let same : p ≡ q = (let both = sym told ∙ told_q in cc) in ap Some (reset_all on ∙ ap (λ (r : PoolState). r.objects) same);
      commits = λ q told_q known acknowledged. let same : p ≡ q = (let both = sym told ∙ told_q in cc) in ap Some (committed_all acknowledged ∙ ap (λ (r : PoolState). r.objects) same);
    };
  }

or_first : (a b : Bool) → a ≡ false → (a || b) ≡ true → b ≡ true
or_first true b off is = no_way (sym off)
or_first false b off is = is

or_last : (a b : Bool) → b ≡ false → (a || b) ≡ true → a ≡ true
or_last true b off is = refl
or_last false b off is = no_way (sym off ∙ is)

or_second : (a b : Bool) → b ≡ true → (a || b) ≡ true
or_second true b is = refl
or_second false b is = is

or_either : (a b : Bool) → a ≡ true → (a || b) ≡ true
or_either true b is = refl
or_either false b is = no_way is

or_neither : (a b : Bool) → a ≡ false → b ≡ false → (a || b) ≡ false
or_neither true b off none = no_way (sym off)
or_neither false b off none = none

no_refusal : (answer : Reply) → IsDone answer → is_refusal answer ≡ false
no_refusal (reply.No r) done = absurd done
no_refusal answer done = refl

-- what is done commits nothing where it writes nothing, or is a step in the background
commits_done : (command : Command) (answer : Reply) → IsDone answer → commits_nothing command answer ≡ (is_silent command || is_background command answer)
commits_done command (reply.No r) done = absurd done
commits_done command answer done = refl

closing_export : (command : Command) (answer : Reply) → is_closing command (Ok (Some answer)) ≡ true → command ≡ cmd.Export
closing_export cmd.Export answer is = refl
closing_export command answer is = no_way is

and_first : (a b : Bool) → (a && b) ≡ true → a ≡ true
and_first true b is = refl
and_first false b is = no_way is

and_second : (a b : Bool) → (a && b) ≡ true → b ≡ true
and_second true b is = is
and_second false b is = no_way is

and_both : (a b : Bool) → a ≡ true → b ≡ true → (a && b) ≡ true
and_both true b one two = two
and_both false b one two = no_way one

-- one of two is true
one_of : (a b : Bool) → (a || b) ≡ true → (a ≡ true) ⊎ (b ≡ true)
one_of true b is = inl refl
one_of false b is = inr is

-- what is known of the last commit
abbrev is_last_known : DeviceState → Option Objects → Bool
is_last_known state behind = if is_some behind then true else state.shown && is_some state.account

known_readable : (state : DeviceState) → is_known state ≡ true → is_readable state.account state.trees ≡ true
known_readable state known = and_first (is_readable state.account state.trees) (is_last_known state state.behind) known

known_some : (state : DeviceState) → is_some state.behind ≡ true → is_readable state.account state.trees ≡ true → is_known state ≡ true
known_some state some readable = and_both (is_readable state.account state.trees) (is_last_known state state.behind) readable (ap (λ (b : Bool). if b then true else state.shown && is_some state.account) some)

known_shown : (state : DeviceState) → state.behind ≡ None → is_known state ≡ true → state.shown ≡ true
known_shown state none known = and_first state.shown (is_some state.account) (sym (ap (is_last_known state) none) ∙ and_second (is_readable state.account state.trees) (is_last_known state state.behind) known)

-- an answer that acknowledges no commit
none_acknowledged : (answer : Reply) (command : Command) → (is_acknowledged answer command ≡ true → ⊥) → is_acknowledged answer command ≡ false
none_acknowledged answer command none = by (is_acknowledged answer command) refl
  where
    by : (b : Bool) → is_acknowledged answer command ≡ b → is_acknowledged answer command ≡ false
    by true is = absurd (none is)
    by false is = is

-- ---- where a pool is open

module _ (old new : World) (before : DeviceState) (command : Command) (x y : OpenPool) (sizes : List ℕ) (lawful : IsOpen sizes x) (sized_old : map length old.now.seen ≡ sizes) (sized_new : map length new.now.seen ≡ sizes)
    (part : IsPartOf old.now.seen x before.told.shelf) (account : before.account ≡ Some x) (was_shown : before.shown ≡ true → ShowsLast old.now.seen x) (was_standing : before.trees ≡ true → HasLastTrees old.now.seen x) (was : IfSome before.behind (IsBehind (Some x) (disks_of old.now))) (since : IfSome before.begun (IsAsBegun (Some x) (disks_of old.now))) (was_current : before.current ≡ true → AreCurrent (Some x) old.now.seen) (was_found : before.found ≡ true → IfSome before.behind (IsFoundBehind (Some x) (disks_of old.now))) where
  not_begun : (first : Disks) → before.begun ≡ Some first → ⊥
  not_begun first is = let some : Some x ≡ None = (subst (λ (o : Option Disks). IfSome o (IsAsBegun (Some x) (disks_of old.now))) is since).0 in cc

  is_open : before.account ≡ None → ⊥
  is_open none = let both = sym none ∙ account in absurd cc

  not_made : (pool : Option OpenPool) → before.account ≡ None → is_create command ≡ true → are_there pool ≡ true → ⊥
  not_made pool none create there = is_open none

  not_opened : (s : ShelfPart) (answer : Reply) → before.account ≡ None → is_import command ≡ true → answer ≡ reply.Done → (p : PoolState) → s ≡ Is p → ⊥
  not_opened s answer none import done p told = is_open none

  -- whoever reads a root behind a commit is led where the pool is
  will_read : is_readable before.account before.trees ≡ true → WillBeReadable old.now.seen x
  will_read readable = elim (one_of (none_gone (Some x)) before.trees (subst (λ (o : Option OpenPool). is_readable o before.trees ≡ true) account readable)) [
    | inl there ↦ inl (devices_there x there)
    | inr trees ↦ inr (was_standing trees)
  ]

  quiet_leaves : (answer : Reply) → (is_in_group command || is_background command answer) ≡ true → leaves_told before.account answer command ≡ true
  quiet_leaves answer quiet = subst (λ (o : Option OpenPool). leaves_told o answer command ≡ true) (sym account) (or_second (is_refusal answer) (is_in_group command || is_background command answer) quiet)

  group_leaves : (answer : Reply) → is_in_group command ≡ true → leaves_told before.account answer command ≡ true
  group_leaves answer group = quiet_leaves answer (or_either (is_in_group command) (is_background command answer) group)

  refused_leaves : (n : Refusal) → leaves_told before.account (reply.No n) command ≡ true
  refused_leaves n = subst (λ (o : Option OpenPool). leaves_told o (reply.No n) command ≡ true) (sym account) refl

  background_leaves : (answer : Reply) → is_background command answer ≡ true → leaves_told before.account answer command ≡ true
  background_leaves answer step = quiet_leaves answer (or_second (is_in_group command) (is_background command answer) step)

  -- what is done leaves it told only in the group, or by a step in the background
  done_leaves : (answer : Reply) → IsDone answer → leaves_told before.account answer command ≡ true → (is_in_group command || is_background command answer) ≡ true
  done_leaves answer done leaves = or_first (is_refusal answer) (is_in_group command || is_background command answer) (no_refusal answer done) (subst (λ (o : Option OpenPool). leaves_told o answer command ≡ true) account leaves)

  -- what is told is held
  held : (p : PoolState) → before.told.shelf ≡ Is p → HoldsState (Unit {0}) old.now.seen x p
  held p told = subst (λ (s : ShelfPart). IsPartOf old.now.seen x s) told part

  stood : (objects : Objects) → before.behind ≡ Some objects → StandsBehind sizes objects x old.now
  stood objects is = from_disks sizes objects x old.now sized_old (subst (λ (o : Option Objects). IfSome o (IsBehind (Some x) (disks_of old.now))) is was)

  -- it is found where it was told so
  found_at : (objects : Objects) → before.behind ≡ Some objects → before.found ≡ true → IsWhole x → x.saved ≡ None → StandsFound sizes objects x old.now
  found_at objects is on whole unsaved = from_found sizes objects x old.now sized_old (subst (λ (o : Option Objects). IfSome o (IsFoundBehind (Some x) (disks_of old.now))) is (was_found on) whole unsaved)

  -- what is told to be found behind the line
  abbrev IsFoundFor : Reply → Type 0
  IsFoundFor answer = is_found before.account before.trees before.current before.found command answer ≡ true

  of_open : (answer : Reply) → IsFoundFor answer → is_found (Some x) before.trees before.current before.found command answer ≡ true
  of_open answer is = subst (λ (o : Option OpenPool). is_found o before.trees before.current before.found command answer ≡ true) account is

  -- a commit of what is told
  commit_stands : (p : PoolState) → is_known before ≡ true → EndsCommitted sizes false x y p.objects old new → StandsBehind sizes p.objects y new.now
  commit_stands p known ends = by_last before.behind refl
    where
      by_last : (o : Option Objects) → before.behind ≡ o → StandsBehind sizes p.objects y new.now
      by_last (Some objects) is = commit_behind sizes objects x old (stood objects is) lawful false p.objects new y (will_read (known_readable before known)) ends
      by_last None is =
          let last = was_shown (known_shown before is known) in
          shown_behind sizes false last.root x y p.objects old new lawful last.from sized_old last.newest (will_read (known_readable before known)) ends

  -- the disks show the last root before a commit of what is told
  known_last : is_known before ≡ true → ShowsLast old.now.seen x
  known_last known = by_last before.behind refl
    where
      by_last : (o : Option Objects) → before.behind ≡ o → ShowsLast old.now.seen x
      by_last (Some objects) is = behind_last sizes objects x old.now (stood objects is)
      by_last None is = was_shown (known_shown before is known)

  readable_then : (answer : Reply) → commits_nothing command answer ≡ false → (is_readable before.account before.trees || commits_nothing command answer) ≡ true → is_readable before.account before.trees ≡ true
  readable_then answer commits either = or_last (is_readable before.account before.trees) (commits_nothing command answer) commits either

  module _ (now_told : ShelfPart) where
    -- a line that stays in one group
    line_told : (answer : Reply) (p : PoolState) → before.told.shelf ≡ Is p → commits_nothing command answer ≡ false → leaves_told before.account answer command ≡ true → (ends_reset answer command ≡ true → ⊥) → (is_acknowledged answer command ≡ true → ⊥) → IsOpen sizes y → (IsFoundFor answer → (before.trees ≡ true) × (before.found ≡ true)) → StaysInOneGroup sizes p.objects x y old new → Behinds new before command now_told (Some y) answer
    unfolding one_group_behind
    line_told answer p told commits leaves no_reset no_commit ready keeps_found stays = by_last before.behind refl
      where
        by_last : (o : Option Objects) → before.behind ≡ o → Behinds new before command now_told (Some y) answer
        by_last None is = untold new before command now_told (Some y) answer (not_made (Some y)) (not_opened now_told answer) (λ q told_q some readable left. no_way (sym (ap (λ (o : Option Objects). is_some o) is) ∙ some)) (λ q told_q known on there. no_reset on) (λ q told_q known acknowledged. no_commit acknowledged)
        by_last (Some objects) is = by_readable (is_readable before.account before.trees) refl
          where
            by_readable : (b : Bool) → is_readable before.account before.trees ≡ b → Behinds new before command now_told (Some y) answer
            by_readable false out = untold new before command now_told (Some y) answer (not_made (Some y)) (not_opened now_told answer) (λ q told_q some readable left. no_way (sym out ∙ readable_then answer commits readable)) (λ q told_q known on there. no_reset on) (λ q told_q known acknowledged. no_commit acknowledged)
            by_readable true readable =
                let c = one_group_behind sizes objects p.objects x old (stood objects is) lawful (will_read readable) y new stays in
                told_behind new before command now_told (Some y) answer p c.all (λ none create done. is_open none) (λ none import done. is_open none) told
                (elim c.which [
                  | inl same ↦ kept p told leaves (none_acknowledged answer command no_commit) (is ∙ ap Some (sym same))
                  | inr same ↦ committed leaves (p, told, sym same)
                ])
                (to_disks sizes c.all y new.now sized_new c.behind) (λ on. absurd (no_reset on)) (λ acknowledged. absurd (no_commit acknowledged))
                (λ is_so whole unsaved. let f = keeps_found is_so in to_found sizes c.all y new.now sized_new (line_finds objects is readable stays whole unsaved f.0 f.1))
              where
                line_finds : (objects : Objects) (is : before.behind ≡ Some objects) (readable : is_readable before.account before.trees ≡ true) (stays : StaysInOneGroup sizes p.objects x y old new) → IsWhole y → y.saved ≡ None → before.trees ≡ true → before.found ≡ true
                    → StandsFound sizes (one_group_behind sizes objects p.objects x old (stood objects is) lawful (will_read readable) y new stays).all y new.now
                line_finds objects is readable (inl stays) whole unsaved trees on = let w = one_group_whole sizes p.objects x y old new lawful ready (inl stays) in group_found sizes objects x y old new (found_at objects is on (w.whole whole) (w.unsaved unsaved)) stays
                line_finds objects is readable (inr more) whole unsaved trees on = next_group_found sizes objects p.objects x y old new lawful ready (found_at objects is on) (was_standing trees) more whole unsaved

    -- a line that commits nothing
    quiet_told : (answer : Reply) (p : PoolState) → before.told.shelf ≡ Is p → leaves_told before.account answer command ≡ true → (ends_reset answer command ≡ true → ⊥) → (is_acknowledged answer command ≡ true → ⊥) → WritesIntoFree x old new → OpensNoUnit x y → (IsFoundFor answer → (before.found ≡ true) × WasWhole x y) → Behinds new before command now_told (Some y) answer
    quiet_told answer p told leaves no_reset no_commit wrote opens keeps_found = by_last before.behind refl
      where
        by_last : (o : Option Objects) → before.behind ≡ o → Behinds new before command now_told (Some y) answer
        by_last None is =
            untold new before command now_told (Some y) answer (not_made (Some y)) (not_opened now_told answer) (λ q told_q some readable left. no_way (sym (ap (λ (o : Option Objects). is_some o) is) ∙ some)) (λ q told_q known on there. no_reset on)
            (λ q told_q known acknowledged. no_commit acknowledged)
        by_last (Some objects) is =
            told_behind new before command now_told (Some y) answer p objects (λ none create done. is_open none) (λ none import done. is_open none) told (kept p told leaves (none_acknowledged answer command no_commit) is)
            (to_disks sizes objects y new.now sized_new (line_behind sizes objects x old (stood objects is) y new wrote opens.units opens.root.table opens.root.last opens.root.guid)) (λ on. absurd (no_reset on))
            (λ acknowledged. absurd (no_commit acknowledged))
            (λ is_so whole unsaved. let f = keeps_found is_so in to_found sizes objects y new.now sized_new (stays_found sizes objects x y old new (found_at objects is f.0 (f.1.whole whole) (f.1.unsaved unsaved)) wrote opens))

    -- a `sync`, or an `export`, behind which the pool is closed
    commit_told : (pool : Option OpenPool) (answer : Reply) (p : PoolState) → before.told.shelf ≡ Is p → commits_nothing command answer ≡ false → leaves_told before.account answer command ≡ true → (ends_reset answer command ≡ true → ⊥) → EndsCommitted sizes false x y p.objects old new → (StandsBehind sizes p.objects y new.now → IsBehind pool (disks_of new.now) p.objects) → (is_known before ≡ true → IsFoundFor answer → IsFoundBehind pool (disks_of new.now) p.objects) → Behinds new before command now_told pool answer
    commit_told pool answer p told commits_some leaves no_reset ends to finds = by_known (is_known before) refl
      where
        by_known : (b : Bool) → is_known before ≡ b → Behinds new before command now_told pool answer
        by_known true known = told_behind new before command now_told pool answer p p.objects (λ none create done. is_open none) (λ none import done. is_open none) told (committed leaves (p, told, refl)) (to (commit_stands p known ends)) (λ on. refl) (λ acknowledged. refl) (finds known)
        by_known false known = untold new before command now_told pool answer (not_made pool) (not_opened now_told answer) (λ q told_q some readable left. no_way (sym known ∙ known_some before some (readable_then answer commits_some readable))) (λ q told_q knows on there. no_reset on) (λ q told_q knows acknowledged. no_way (sym known ∙ knows))

    pub open_behinds : (r : Result (Option Reply) Fault) → IfOk r (λ answered. IfSome answered IsDone) → OnOk r (IsOpen sizes y) → OnOk r (KeepsLast old new x y) → ((p : PoolState) → HoldsState (Unit {0}) old.now.seen x p → IfOk r (λ answered. IfSome answered (λ answer. ends_reset answer command ≡ true → HasReset y new.now p.objects))) → ((p : PoolState) → HoldsState (Unit {0}) old.now.seen x p → WritesTold command x old → OnOk r (IfSome y.last (λ u. TellsMoves new.now.seen y u.root u.len))) → (is_in_group command ≡ true → (p : PoolState) → HoldsState (Unit {0}) old.now.seen x p → OnOk r (StaysTold sizes p.objects command x y old new))
        → ((p : PoolState) → HoldsState (Unit {0}) old.now.seen x p → (n : Refusal) → r ≡ Err (No n) → StaysInOneGroup sizes p.objects x y old new) → IfOk r (λ answered. IfSome answered (λ answer. is_background command answer ≡ true → WritesIntoFree x old new × OpensNoUnit x y)) → (is_silent command ≡ true → IsStill old new) → (is_silent command ≡ true → (p : PoolState) → HoldsState (Unit {0}) old.now.seen x p → OnOk r (OpensNoUnit x y))
        → (is_commit command ≡ true → (p : PoolState) → HoldsState (Unit {0}) old.now.seen x p → OnOk r (EndsCommitted sizes false x y p.objects old new)) → ((n : Refusal) → r ≡ Err (No n) → IsOpen sizes y)
        → IfOk (answer_of r) (λ answered. IfSome answered (λ answer. Behinds new before command now_told (left_of (is_closing command r) y) answer))
    open_behinds (Ok None) done ready keeps resets moves one one_no stepped still opens commits ready_no = tt
    open_behinds (Ok (Some answer)) done ready keeps resets moves one one_no stepped still opens commits ready_no = by_closing (is_closing command (Ok (Some answer))) refl
      where
        -- what commits something
        commits_some : is_silent command ≡ false → is_background command answer ≡ false → commits_nothing command answer ≡ false
        commits_some loud no_step = commits_done command answer done ∙ or_neither (is_silent command) (is_background command answer) loud no_step

        untold_off : is_in_group command ≡ false → is_background command answer ≡ false → ((p : PoolState) → before.told.shelf ≡ Is p → is_known before ≡ true → ends_reset answer command ≡ true → (are_there (Some y) || (before.trees && is_writing_trees command)) ≡ true → ⊥) → Behinds new before command now_told (Some y) answer
        untold_off off no_step none =
            untold new before command now_told (Some y) answer (not_made (Some y)) (not_opened now_told answer) (λ p told some readable leaves. no_way (sym (or_neither (is_in_group command) (is_background command answer) off no_step) ∙ done_leaves answer done leaves)) (λ p told known on there. none p told known on there)
            (λ p told known acknowledged. no_way (sym off ∙ commits_in_group command (acknowledged_commits answer command acknowledged)))

        resets_no_background : ends_reset answer command ≡ true → is_background command answer ≡ false
        resets_no_background on = by_background (is_background command answer) refl
          where
            by_background : (b : Bool) → is_background command answer ≡ b → is_background command answer ≡ false
            by_background true step = absurd (background_no_reset command answer step on)
            by_background false none = none

        reads : (p : PoolState) → before.told.shelf ≡ Is p → (are_there (Some y) || (before.trees && is_writing_trees command)) ≡ true → (u : Uber) → GoesOnFrom u y → IsReadable new.now.seen y u
        reads p told read u from = elim (one_of (are_there (Some y)) (before.trees && is_writing_trees command) read) [
          | inl there ↦ inl (devices_there y there)
          | inr both ↦ inr (subst (λ (o : Option Uber). IfSome o (λ (v : Uber). TellsMoves new.now.seen y v.root v.len)) from.last (moves p (held p told) (and_second before.trees (is_writing_trees command) both, was_standing (and_first before.trees (is_writing_trees command) both))))
        ]

        -- a line that ended with a reset
        reset_told : is_in_group command ≡ false → ends_reset answer command ≡ true → (p : PoolState) → before.told.shelf ≡ Is p → is_known before ≡ true → (are_there (Some y) || (before.trees && is_writing_trees command)) ≡ true → Behinds new before command now_told (Some y) answer
        reset_told off on p told known there =
            told_behind new before command now_told (Some y) answer p p.objects (λ none create is_done. is_open none) (λ none import is_done. is_open none) told (changed on (p, told, refl))
            (to_disks sizes p.objects y new.now sized_new (reset_behind sizes p.objects y new.now (keeps (known_last known)) ready sized_new (resets p (held p told) on) (reads p told there))) (λ also. refl) (λ acknowledged. refl) (λ is_so. absurd (not_ending answer command on (found_in_group x before.trees before.current before.found command answer done (of_open answer is_so))))

        reset_known : is_in_group command ≡ false → ends_reset answer command ≡ true → (p : PoolState) → before.told.shelf ≡ Is p → (a b : Bool) → is_known before ≡ a → (are_there (Some y) || (before.trees && is_writing_trees command)) ≡ b → Behinds new before command now_told (Some y) answer
        reset_known off on p told true true known there = reset_told off on p told known there
        reset_known off on p told false b known there = untold_off off (resets_no_background on) (λ q told_q knows also there_all. no_way (sym known ∙ knows))
        reset_known off on p told true false known out = untold_off off (resets_no_background on) (λ q told_q knows also there_all. no_way (sym out ∙ there_all))

        reset_part : is_in_group command ≡ false → ends_reset answer command ≡ true → (s : ShelfPart) → before.told.shelf ≡ s → Behinds new before command now_told (Some y) answer
        reset_part off on (Is p) told = reset_known off on p told (is_known before) (are_there (Some y) || (before.trees && is_writing_trees command)) refl refl
        reset_part off on Empty told = untold_off off (resets_no_background on) (λ p is known also there. let both = sym told ∙ is in absurd cc)
        reset_part off on (Refused r) told = untold_off off (resets_no_background on) (λ p is known also there. let both = sym told ∙ is in absurd cc)

        by_reset : (b : Bool) → ends_reset answer command ≡ b → is_in_group command ≡ false → is_background command answer ≡ false → Behinds new before command now_told (Some y) answer
        by_reset true on off no_step = reset_part off on before.told.shelf refl
        by_reset false not_on off no_step = untold_off off no_step (λ p told known on there. no_way (sym not_on ∙ on))

        untold_part : (pool : Option OpenPool) → ((p : PoolState) → before.told.shelf ≡ Is p → ⊥) → Behinds new before command now_told pool answer
        untold_part pool none = untold new before command now_told pool answer (not_made pool) (not_opened now_told answer) (λ p told some readable leaves. none p told) (λ p told known on there. none p told) (λ p told known acknowledged. none p told)

        by_commit : (b : Bool) → is_commit command ≡ b → is_in_group command ≡ true → is_silent command ≡ false → commits_nothing command answer ≡ false → (p : PoolState) → before.told.shelf ≡ Is p → Behinds new before command now_told (Some y) answer
        by_commit true ends group loud some p told = commit_told (Some y) answer p told some (group_leaves answer group) (λ on. not_ending answer command on group) (commits ends p (held p told)) (to_disks sizes p.objects y new.now sized_new)
            (λ known is_so whole unsaved. let f = found_commit x before.trees before.current before.found command answer done ends (of_open answer is_so) in to_found sizes p.objects y new.now sized_new (ends_found sizes p.objects x y old new lawful sized_old (known_last known) (was_current f.1) (was_standing f.0) (commits ends p (held p told)) whole unsaved))
        by_commit false ends group loud some p told = line_told answer p told some (group_leaves answer group) (λ on. not_ending answer command on group) (λ acknowledged. no_way (sym ends ∙ acknowledged_commits answer command acknowledged)) ready
            (λ is_so. found_line x before.trees before.current before.found command answer done loud ends (of_open answer is_so)) (in_one sizes p.objects command x y old new (loud_no_step command loud) (one group p (held p told)))

        by_part : (s : ShelfPart) → before.told.shelf ≡ s → is_in_group command ≡ true → is_silent command ≡ false → commits_nothing command answer ≡ false → Behinds new before command now_told (Some y) answer
        by_part (Is p) told group loud some = by_commit (is_commit command) refl group loud some p told
        by_part Empty told group loud some = untold_part (Some y) (λ p is. let both = sym told ∙ is in absurd cc)
        by_part (Refused r) told group loud some = untold_part (Some y) (λ p is. let both = sym told ∙ is in absurd cc)

        by_group : (b : Bool) → is_in_group command ≡ b → is_silent command ≡ false → is_background command answer ≡ false → Behinds new before command now_told (Some y) answer
        by_group true group loud no_step = by_part before.told.shelf refl group loud (commits_some loud no_step)
        by_group false off loud no_step = by_reset (ends_reset answer command) refl off no_step

        -- a step in the background
        background_part : (s : ShelfPart) → before.told.shelf ≡ s → is_background command answer ≡ true → Behinds new before command now_told (Some y) answer
        background_part (Is p) told step = let c = stepped step in quiet_told answer p told (background_leaves answer step) (background_no_reset command answer step) (background_no_commit command answer step) c.0 c.1 (λ is_so. absurd (background_alone command answer step (found_in_group x before.trees before.current before.found command answer done (of_open answer is_so))))
        background_part Empty told step = untold_part (Some y) (λ p is. let both = sym told ∙ is in absurd cc)
        background_part (Refused r) told step = untold_part (Some y) (λ p is. let both = sym told ∙ is in absurd cc)

        by_background : (b : Bool) → is_background command answer ≡ b → is_silent command ≡ false → Behinds new before command now_told (Some y) answer
        by_background true step loud = background_part before.told.shelf refl step
        by_background false no_step loud = by_group (is_in_group command) refl loud no_step

        -- a line that writes nothing
        silent_part : (s : ShelfPart) → before.told.shelf ≡ s → is_silent command ≡ true → Behinds new before command now_told (Some y) answer
        silent_part (Is p) told on =
            quiet_told answer p told (quiet_leaves answer (silent_leaves command answer done on)) (silent_no_reset command answer done on) (silent_no_commit command answer on)
            (writes_still (IsWriteInto Block x.table.slots x.space) old new (still on)) (opens on p (held p told))
            (λ is_so. let f = found_silent x before.trees before.current before.found command answer done on (of_open answer is_so) in
            (f.1, one_group_whole sizes p.objects x y old new lawful ready (in_one sizes p.objects command x y old new (table_no_step command f.0) (one (found_in_group x before.trees before.current before.found command answer done (of_open answer is_so)) p (held p told)))))
        silent_part Empty told on = untold_part (Some y) (λ p is. let both = sym told ∙ is in absurd cc)
        silent_part (Refused r) told on = untold_part (Some y) (λ p is. let both = sym told ∙ is in absurd cc)

        by_silent : (b : Bool) → is_silent command ≡ b → Behinds new before command now_told (Some y) answer
        by_silent true on = silent_part before.told.shelf refl on
        by_silent false loud = by_background (is_background command answer) refl loud

        by_export : command ≡ cmd.Export → (s : ShelfPart) → before.told.shelf ≡ s → Behinds new before command now_told None answer
        by_export exports (Is p) told =
            let ends = commits (subst (λ (c : Command). is_commit c ≡ true) (sym exports) refl) p (held p told) in
            let group = subst (λ (c : Command). is_in_group c ≡ true) (sym exports) refl in
            let some = commits_done command answer done ∙ subst (λ (c : Command). (is_silent c || is_background c answer) ≡ false) (sym exports) refl in
            commit_told None answer p told some (group_leaves answer group) (λ on. not_ending answer command on group) ends (λ stands. closed_behind sizes false x y p.objects old new lawful ends (to_disks sizes p.objects y new.now sized_new stands)) (λ known _. tt)
        by_export exports Empty told = untold_part None (λ p is. let both = sym told ∙ is in absurd cc)
        by_export exports (Refused r) told = untold_part None (λ p is. let both = sym told ∙ is in absurd cc)

        by_closing : (b : Bool) → is_closing command (Ok (Some answer)) ≡ b → Behinds new before command now_told (left_of b y) answer
        by_closing true is = by_export (closing_export command answer is) before.told.shelf refl
        by_closing false is = by_silent (is_silent command) refl
    open_behinds (Err (No n)) done ready keeps resets moves one one_no stepped still opens commits ready_no = by_part before.told.shelf refl
      where
        untold_no : ((p : PoolState) → before.told.shelf ≡ Is p → ⊥) → Behinds new before command now_told (Some y) (reply.No n)
        untold_no none = untold new before command now_told (Some y) (reply.No n) (not_made (Some y)) (not_opened now_told (reply.No n)) (λ p told some readable leaves. none p told) (λ p told known on there. no_way on) (λ p told known acknowledged. no_way acknowledged)

        by_part : (s : ShelfPart) → before.told.shelf ≡ s → Behinds new before command now_told (Some y) (reply.No n)
        by_part (Is p) told = line_told (reply.No n) p told refl (refused_leaves n) (λ on. no_way on) (λ acknowledged. no_way acknowledged) (ready_no n refl) (λ is_so. refused_found x before.trees before.current before.found command n (of_open (reply.No n) is_so)) (one_no p (held p told) n refl)
        by_part Empty told = untold_no (λ p is. let both = sym told ∙ is in absurd cc)
        by_part (Refused r) told = untold_no (λ p is. let both = sym told ∙ is in absurd cc)
    open_behinds (Err (Stops s)) done ready keeps resets moves one one_no stepped still opens commits ready_no = tt

  -- ---- the moments of a line

  abbrev Within : Stand → Type 0
  Within stand = IsWithin (point old.now before) command (disks_of stand)

  at_table : (s : Stand) → (is_table command ≡ true → s.seen ≡ old.now.seen) → IfSome before.account (λ pool. is_table command ≡ true → s.seen ≡ old.now.seen)
  at_table s h = subst (λ (o : Option OpenPool). IfSome o (λ pool. is_table command ≡ true → s.seen ≡ old.now.seen)) (sym account) h

  pub open_within : (is_silent command ≡ true → IsStill old new) → WorksOnDisks old new → (is_in_group command ≡ true → (p : PoolState) → HoldsState (Unit {0}) old.now.seen x p → WritesInOneGroup sizes p.objects x old new)
      → (is_resetting command ≡ true → (p : PoolState) → HoldsState (Unit {0}) old.now.seen x p → StopsInReset sizes p.objects command x old new)
      → (ends_no_removal (Some x) command ≡ true → (p : PoolState) → HoldsState (Unit {0}) old.now.seen x p → CancelsInPart sizes p.objects x old new) → Throughout Within old new
  open_within nothing_done works writes resets returns = by_silent (is_silent command) refl
    where
      -- what was committed shows all the time
      still_shows : (objects : Objects) (q : PoolState) → before.behind ≡ Some objects → LeavesEither objects q.objects (disks_of old.now)
      still_shows objects q is = leaves_there objects q.objects old.now (first_of objects q.objects old.now (behind_shows sizes objects x old.now (stood objects is)))

      nothing : is_silent command ≡ false → ((objects : Objects) (q : PoolState) → before.behind ≡ Some objects → before.told.shelf ≡ Is q → may_stop before.account before.trees command ≡ true → ⊥) → Throughout Within old new
      nothing off none = weaker _ Within old new (λ s _. record { tables = at_table s (λ on. no_way (sym off ∙ tables_silent command on)); shows = λ objects q is told group. absurd (none objects q is told group); opens = λ objects closed is. absurd (is_open closed); begins = λ first is. absurd (not_begun first is) }) (keeps_outside old new works).since

      by_part : (o : Option Objects) (s : ShelfPart) → before.behind ≡ o → before.told.shelf ≡ s → is_silent command ≡ false → ((objects : Objects) → before.behind ≡ Some objects → (p : PoolState) → before.told.shelf ≡ Is p → Throughout (ShowsEither objects p.objects) old new) → Throughout Within old new
      by_part None s is told off shown = nothing off (λ objects q also told_q on. none_some objects (sym is ∙ also))
      by_part (Some objects) (Is p) is told off shown =
          weaker (ShowsEither objects p.objects) Within old new
          (λ s shows. record {
            tables = at_table s (λ on. no_way (sym off ∙ tables_silent command on));
            shows = λ all q also told_q on.
                let first : objects ≡ all = (let both = sym is ∙ also in cc) in
                let second : p ≡ q = (let both = sym told ∙ told_q in cc) in
                subst (λ (r : PoolState). LeavesEither all r.objects (disks_of s)) second (subst (λ (a : Objects). LeavesEither a p.objects (disks_of s)) first (leaves_there objects p.objects s shows));
            opens = λ all closed also. absurd (is_open closed);
            begins = λ first_disks begun. absurd (not_begun first_disks begun);
          })
          (shown objects is p told)
      by_part (Some objects) Empty is told off shown = nothing off (λ all q also told_q on. let both = sym told ∙ told_q in absurd cc)
      by_part (Some objects) (Refused r) is told off shown = nothing off (λ all q also told_q on. let both = sym told ∙ told_q in absurd cc)

      -- it may be stopped at any moment only where whoever reads a root is led where the pool is
      may_commit_so : is_silent command ≡ false → may_stop before.account before.trees command ≡ true → may_commit before.account before.trees command ≡ true
      may_commit_so off may = or_first (is_silent command) (may_commit before.account before.trees command) off may

      may_be : is_silent command ≡ false → may_stop before.account before.trees command ≡ true → (keeps_trees command || (none_gone before.account && (is_resetting command || ends_no_removal before.account command))) ≡ true
      may_be off may = and_second (is_readable before.account before.trees) (keeps_trees command || (none_gone before.account && (is_resetting command || ends_no_removal before.account command))) (may_commit_so off may)

      there_of : none_gone before.account ≡ true → AreThere (devices_in x.space)
      there_of none = devices_there x (sym (ap none_gone account) ∙ none)

      -- where it keeps no trees, no device is gone
      may_reset : is_silent command ≡ false → keeps_trees command ≡ false → may_stop before.account before.trees command ≡ true → none_gone before.account ≡ true
      may_reset silent off may = and_first (none_gone before.account) (is_resetting command || ends_no_removal before.account command) (or_first (keeps_trees command) (none_gone before.account && (is_resetting command || ends_no_removal before.account command)) off (may_be silent may))

      by_return : (b : Bool) → ends_no_removal before.account command ≡ b → keeps_trees command ≡ false → is_resetting command ≡ false → is_silent command ≡ false → Throughout Within old new
      by_return true on out none off = by_there (none_gone before.account) refl
        where
          by_there : (b : Bool) → none_gone before.account ≡ b → Throughout Within old new
          by_there true there =
              by_part before.behind before.told.shelf refl refl off
              (λ objects is p told. return_shows sizes objects p.objects x old (stood objects is) lawful (there_of there) new (returns (subst (λ (o : Option OpenPool). ends_no_removal o command ≡ true) account on) p (held p told)))
          by_there false gone = nothing off (λ objects q is told may. no_way (sym gone ∙ may_reset off out may))
      by_return false ends out none off =
          nothing off (λ objects q is told may. no_way (sym ends ∙ or_first (is_resetting command) (ends_no_removal before.account command) none (and_second (none_gone before.account) (is_resetting command || ends_no_removal before.account command) (or_first (keeps_trees command) (none_gone before.account && (is_resetting command || ends_no_removal before.account command)) out (may_be off may)))))

      -- a line that ends with a reset: it writes the trees of the streams, or no device is gone
      resets_show : WillBeReadable old.now.seen x → StaysReadable x (WritesTold command x old) → is_resetting command ≡ true → is_silent command ≡ false → Throughout Within old new
      resets_show will stays_so once off = by_part before.behind before.told.shelf refl refl off (λ objects is p told. stop_in_reset sizes objects p.objects x old (stood objects is) lawful command will stays_so new (resets once p (held p told)))

      by_reset : (b : Bool) → is_resetting command ≡ b → WillBeReadable old.now.seen x → is_in_group command ≡ false → is_silent command ≡ false → Throughout Within old new
      by_reset true once will out off = by_writing (is_writing_trees command) refl
        where
          told_so : is_writing_trees command ≡ true → WillBeReadable old.now.seen x → StaysReadable x (WritesTold command x old)
          told_so writes_them (inl there) = inl there
          told_so writes_them (inr trees) = inr (writes_them, trees)

          by_there : is_writing_trees command ≡ false → (b : Bool) → none_gone before.account ≡ b → Throughout Within old new
          by_there other true there = resets_show will (inl (there_of there)) once off
          by_there other false gone = nothing off (λ objects q is told may. no_way (sym gone ∙ may_reset off (or_neither (is_writing_trees command) (is_in_group command) other out) may))

          by_writing : (b : Bool) → is_writing_trees command ≡ b → Throughout Within old new
          by_writing true writes_them = resets_show will (told_so writes_them will) once off
          by_writing false other = by_there other (none_gone before.account) refl
      by_reset false none will out off = by_return (ends_no_removal before.account command) refl (or_neither (is_writing_trees command) (is_in_group command) (no_writer none) out) none off
        where
          no_writer : is_resetting command ≡ false → is_writing_trees command ≡ false
          no_writer no_reset = by_writer (is_writing_trees command) refl
            where
              by_writer : (b : Bool) → is_writing_trees command ≡ b → is_writing_trees command ≡ false
              by_writer true on = no_way (sym no_reset ∙ writing_resets command on)
              by_writer false is_none = is_none

      by_group : (b : Bool) → is_in_group command ≡ b → WillBeReadable old.now.seen x → is_silent command ≡ false → Throughout Within old new
      by_group true group will off = by_part before.behind before.told.shelf refl refl off (λ objects is p told. writes_show sizes objects p.objects x old (stood objects is) lawful will new (writes group p (held p told)))
      by_group false out will off = by_reset (is_resetting command) refl will out off

      by_readable : (b : Bool) → is_readable before.account before.trees ≡ b → is_silent command ≡ false → Throughout Within old new
      by_readable true readable off = by_group (is_in_group command) refl (will_read readable) off
      by_readable false gone off = nothing off (λ objects q is told may. no_way (sym gone ∙ and_first (is_readable before.account before.trees) (keeps_trees command || (none_gone before.account && (is_resetting command || ends_no_removal before.account command))) (may_commit_so off may)))

      by_silent : (b : Bool) → is_silent command ≡ b → Throughout Within old new
      by_silent true on =
          weaker _ Within old new
          (λ s same. record {
            tables = at_table s (λ _. ap (λ (t : Stand). t.seen) same);
            shows = λ objects q is told group. subst (λ (t : Stand). LeavesEither objects q.objects (disks_of t)) (sym same) (still_shows objects q is);
            opens = λ objects closed is. absurd (is_open closed);
            begins = λ first is. absurd (not_begun first is);
          })
          (nothing_done on).since
      by_silent false off = by_readable (is_readable before.account before.trees) refl off

-- ---- where none is open

no_import : (command : Command) → is_create command ≡ true → is_import command ≡ true → ⊥
no_import (cmd.Create name guid devs) create import = no_way import
no_import (cmd.CreateOld name guid devs) create import = no_way import
no_import command create import = no_way create

module _ (old new : World) (before : DeviceState) (command : Command) (account : before.account ≡ None) (was : IfSome before.behind (IsBehind None (disks_of old.now))) (since : IfSome before.begun (IsAsBegun None (disks_of old.now))) where
  begun_at : (first : Disks) → before.begun ≡ Some first → IsUnwritten first (disks_of old.now)
  begun_at first is = (subst (λ (o : Option Disks). IfSome o (IsAsBegun None (disks_of old.now))) is since).1

  closed_at : (objects : Objects) → before.behind ≡ Some objects → IsClosedBehind (disks_of old.now) objects
  closed_at objects is = subst (λ (o : Option Objects). IfSome o (IsBehind None (disks_of old.now))) is was

  leaves_closed : (n : Refusal) → leaves_told before.account (reply.No n) command ≡ true
  leaves_closed n = subst (λ (o : Option OpenPool). leaves_told o (reply.No n) command ≡ true) (sym account) refl

  -- what is done here does not leave it told
  none_left : leaves_told before.account reply.Done command ≡ true → ⊥
  none_left leaves = no_way (subst (λ (o : Option OpenPool). leaves_told o reply.Done command ≡ true) account leaves)

  -- where none is open nothing is told to be found
  closed_lost : {P : Type 0} → is_found before.account before.trees before.current before.found command reply.Done ≡ true → P
  closed_lost is = no_way (subst (λ (o : Option OpenPool). is_found o before.trees before.current before.found command reply.Done ≡ true) account is)

  module _ (now_told : ShelfPart) where
    module _ (opens : is_opener command ≡ true) where
      -- nothing is told behind a line that makes no pool of which no device is gone, and opens none
      closed_untold : (pool : Option OpenPool) → (is_create command ≡ true → are_there pool ≡ true → ⊥) → (is_import command ≡ true → (p : PoolState) → now_told ≡ Is p → ⊥) → Behinds new before command now_told pool reply.Done
      closed_untold pool makes imports =
          untold new before command now_told pool reply.Done (λ none create there. makes create there) (λ none import done p told. imports import p told) (λ p told some readable leaves. none_left leaves) (λ p told known on there. opens_no_end command opens on) (λ p told known acknowledged. opens_no_commit command opens acknowledged)

      was_made : (sizes : List ℕ) (y : OpenPool) → is_create command ≡ true → are_there (Some y) ≡ true → ComesCommitted sizes y map.empty new → ShowsLast new.now.seen y → map length new.now.seen ≡ sizes → Behinds new before command now_told (Some y) reply.Done
      was_made sizes y create there comes shows sized = record {
        behind = Some map.empty;
        stands = to_disks sizes map.empty y new.now sized (made_behind sizes y map.empty new comes shows sized (devices_there y there));
        turn = record {
          from = λ objects is. made create refl (let same : map.empty ≡ objects = cc in sym same);
          makes = λ none also done there_all. refl;
          opens = λ none import done p told. absurd (no_import command create import);
          keeps = λ p told some readable leaves. absurd (none_left leaves);
          resets = λ p told known on there_all. absurd (opens_no_end command opens on);
          commits = λ p told known acknowledged. absurd (opens_no_commit command opens acknowledged);
        };
        found = λ is. closed_lost is;
      }

      -- a pool that was opened is as it was found
      was_found : (sizes : List ℕ) (y : OpenPool) → is_import command ≡ true → IsOpen sizes y → ShowsLast new.now.seen y → IsLeftCommitted new.now y → map length new.now.seen ≡ sizes → (p : PoolState) → now_told ≡ Is p → HoldsState (Unit {0}) new.now.seen y p
          → Behinds new before command now_told (Some y) reply.Done
      was_found sizes y import ready shows leaves sized p told held = record {
        behind = Some p.objects;
        stands = to_disks sizes p.objects y new.now sized (left_behind sizes p.objects y new.now ready sized shows leaves.0 held.objects (λ u from. inr (subst (λ (o : Option Uber). IfSome o (λ (v : Uber). TellsMoves new.now.seen y v.root v.len)) from.last leaves.1)));
        turn = record {
          from = λ objects is. found import refl (p, told, let same : p.objects ≡ objects = cc in same);
          makes = λ none create done there_all. absurd (no_import command create import);
          opens = λ none also done q told_q. let same : p ≡ q = (let both = sym told ∙ told_q in cc) in ap (λ (r : PoolState). Some r.objects) same;
          keeps = λ q told_q some readable leaves_it. absurd (none_left leaves_it);
          resets = λ q told_q known on there_all. absurd (opens_no_end command opens on);
          commits = λ q told_q known acknowledged. absurd (opens_no_commit command opens acknowledged);
        };
        found = λ is. closed_lost is;
      }

      module _ (sizes : List ℕ) (sized : map length new.now.seen ≡ sizes) where
        -- a pool that was made
        by_there : (y : OpenPool) (b : Bool) → are_there (Some y) ≡ b → is_create command ≡ true → ComesCommitted sizes y map.empty new → ShowsLast new.now.seen y → Behinds new before command now_told (Some y) reply.Done
        by_there y true there create comes shows = was_made sizes y create there comes shows sized
        by_there y false out create comes shows = closed_untold (Some y) (λ also there. no_way (sym out ∙ there)) (λ import p told. no_import command create import)

        -- one that was opened
        module _ (y : OpenPool) (ready : IsOpen sizes y) (shows : ShowsLast new.now.seen y) where
          by_part : (s : ShelfPart) → now_told ≡ s → IsPartOf new.now.seen y s → is_import command ≡ true → IsLeftCommitted new.now y → Behinds new before command now_told (Some y) reply.Done
          by_part (Is p) told held import leaves = was_found sizes y import ready shows leaves sized p told held
          by_part Empty told held import leaves = closed_untold (Some y) (λ create also. no_import command create import) (λ also p is. let both = sym told ∙ is in cc)
          by_part (Refused r) told held import leaves = absurd held

          -- by what the line is
          by_import : (b : Bool) → is_import command ≡ b → is_create command ≡ false → (is_import command ≡ true → IsLeftCommitted new.now y) → IsPartOf new.now.seen y now_told → Behinds new before command now_told (Some y) reply.Done
          by_import true import other leaves held = by_part now_told refl held import (leaves import)
          by_import false not_import other leaves held = closed_untold (Some y) (λ create there. no_way (sym other ∙ create)) (λ import p told. no_way (sym not_import ∙ import))

          by_create : (b : Bool) → is_create command ≡ b → (is_create command ≡ true → ComesCommitted sizes y map.empty new) → (is_import command ≡ true → IsLeftCommitted new.now y) → IsPartOf new.now.seen y now_told → Behinds new before command now_told (Some y) reply.Done
          by_create true create comes leaves held = by_there y (are_there (Some y)) refl create (comes create) shows
          by_create false other comes leaves held = by_import (is_import command) refl other leaves held

        by_pool : (o : Option OpenPool) → is_some o ≡ true → IfSome o (IsOpen sizes) → (is_create command ≡ true → IfSome o (λ y. ComesCommitted sizes y map.empty new)) → (is_import command ≡ true → IfSome o (IsLeftCommitted new.now)) → IfSome o (ShowsLast new.now.seen) → IfSome o (λ y. IsPartOf new.now.seen y now_told)
            → Behinds new before command now_told o reply.Done
        by_pool None some ready comes leaves shows held = no_way some
        by_pool (Some y) some ready comes leaves shows held = by_create y ready shows (is_create command) refl comes leaves held

    -- a refusal writes nothing, and leaves what is told
    module _ (n : Refusal) (flushes : FlushesOnly old new) where
      untold_no : ((p : PoolState) → before.told.shelf ≡ Is p → is_some before.behind ≡ true → (is_readable before.account before.trees || commits_nothing command (reply.No n)) ≡ true → leaves_told before.account (reply.No n) command ≡ true → ⊥) → Behinds new before command now_told None (reply.No n)
      untold_no none = untold new before command now_told None (reply.No n) (λ also create there. no_way there) (λ also import done p told. let e : reply.No n ≡ reply.Done = done in cc) none (λ p told known on there. no_way on) (λ p told known acknowledged. no_way acknowledged)

      refused_part : (objects : Objects) → before.behind ≡ Some objects → (s : ShelfPart) → before.told.shelf ≡ s → Behinds new before command now_told None (reply.No n)
      refused_part objects is (Is p) told =
          told_behind new before command now_told None (reply.No n) p objects (λ none create done. absurd (let e : reply.No n ≡ reply.Done = done in cc)) (λ none import done. absurd (let e : reply.No n ≡ reply.Done = done in cc)) told (kept p told (leaves_closed n) refl is)
          (still_closed (disks_of old.now) new.now objects (flushes_keep old new objects (closed_at objects is) flushes).1 (closed_at objects is)) (λ on. no_way on) (λ acknowledged. no_way acknowledged) (λ _. tt)
      refused_part objects is Empty told = untold_no (λ p also some readable leaves. let both = sym told ∙ also in absurd cc)
      refused_part objects is (Refused r) told = untold_no (λ p also some readable leaves. let both = sym told ∙ also in absurd cc)

      refused_last : (o : Option Objects) → before.behind ≡ o → Behinds new before command now_told None (reply.No n)
      refused_last None is = untold_no (λ p told some readable leaves. no_way (sym (ap (λ (o : Option Objects). is_some o) is) ∙ some))
      refused_last (Some objects) is = refused_part objects is before.told.shelf refl

    pub closed_behinds : (sizes : List ℕ) (pool : Option OpenPool) → IfSome pool (IsOpen sizes) → (is_create command ≡ true → IfSome pool (λ y. ComesCommitted sizes y map.empty new)) → (is_import command ≡ true → IfSome pool (IsLeftCommitted new.now)) → IfSome pool (ShowsLast new.now.seen) → map length new.now.seen ≡ sizes
        → IfSome pool (λ y. IsPartOf new.now.seen y now_told) → (r : Result (Option Reply) Fault) → ((n : Refusal) → r ≡ Err (No n) → FlushesOnly old new) → IfOk r (λ answered. IfSome answered (λ answer. IsTurn false command answer (is_some pool))) → IfOk r (λ answered. IfSome answered (λ answer. answer ≡ reply.Done)) → OnErr r (pool ≡ None)
        → IfOk (answer_of r) (λ answered. IfSome answered (λ answer. Behinds new before command now_told pool answer))
    closed_behinds sizes pool ready comes leaves shows sized held (Ok None) flushes turn done closed = tt
    closed_behinds sizes pool ready comes leaves shows sized held (Ok (Some answer)) flushes turn done closed =
        subst (λ (a : Reply). Behinds new before command now_told pool a) (sym done) (by_pool (subst (IsClosedAnswer command) done turn.0) sizes sized pool (turn.1 ∙ ap is_opened done) ready comes leaves shows held)
    closed_behinds sizes pool ready comes leaves shows sized held (Err (No n)) flushes turn done closed = subst (λ (o : Option OpenPool). Behinds new before command now_told o (reply.No n)) (sym closed) (refused_last n (flushes n refl) before.behind refl)
    closed_behinds sizes pool ready comes leaves shows sized held (Err (Stops s)) flushes turn done closed = tt

  -- ---- the moments of a line

  abbrev ClosedWithin : Stand → Type 0
  ClosedWithin stand = IsWithin (point old.now before) command (disks_of stand)

  no_table : (s : Stand) → IfSome before.account (λ pool. is_table command ≡ true → s.seen ≡ old.now.seen)
  no_table s = subst (λ (o : Option OpenPool). IfSome o (λ pool. is_table command ≡ true → s.seen ≡ old.now.seen)) (sym account) tt

  -- the objects that were committed last were shown before the line
  showed_last : (p : PoolState) → Shows old.now.paths old.now.seen p → (objects : Objects) → before.behind ≡ Some objects → p.objects ≡ objects
  showed_last p shown objects is =
      let closed = closed_at objects is in
      closed_shows (disks_of old.now) objects closed old.now.seen (settled_left (stand_of (disks_of old.now)) closed.durable) old.now.paths p shown

  -- nothing was written up to there
  quiet : (s : Stand) → IsUnwritten (disks_of old.now) (disks_of s) → ClosedWithin s
  quiet s same = record {
    tables = no_table s;
    shows = λ all q also told group image left paths p shown. inl (only all also image left paths p shown);
    opens = λ all closed also image left paths p shown. inl (only all also image left paths p shown);
    begins = λ first is image left. inl (of_beginning first (disks_of s) image (unwritten_more first (disks_of old.now) (disks_of s) (begun_at first is) same) left);
  }
    where
      only : (all : Objects) → before.behind ≡ Some all → LeavesOnly all (disks_of s)
      only all also = closed_shows (disks_of s) all (still_closed (disks_of old.now) s all (stands_as (disks_of old.now) s (closed_at all also).durable (closed_at all also).writes same) (closed_at all also))

  unwritten_within : (mid : World) → FlushesOnly old mid → Throughout ClosedWithin old mid
  unwritten_within mid flushes = weaker (λ s. IsUnwritten (disks_of old.now) (disks_of s)) ClosedWithin old mid quiet (flushes_unwritten old mid flushes).0

  -- a pool is made, where none was committed
  module _ (opener : is_opener command ≡ true) where
    made_within : (sizes : List ℕ) (start : World) (named : List ℕ) → ((objects : Objects) → objects ≡ map.empty → OpensTo (point old.now before).shelf command objects) → map length start.now.seen ≡ sizes → FlushesOnly old start → IsAtRest start.now → MakesBehind sizes named start new → (o : Option Objects) → before.behind ≡ o
        → Throughout ClosedWithin old new
    made_within sizes start named empty sized flushes rest makes (Some objects) is =
        let closed = closed_at objects is in
        let same = subst HasNoRoot (flushes_read old start flushes).seen makes.unused in
        absurd (in_the_way (map length old.now.seen) objects closed.pool (stand_of (disks_of old.now)) closed.behind same)
    made_within sizes start named empty sized flushes rest makes None is =
        joined ClosedWithin old start new (unwritten_within start flushes)
        (weaker (ShowsOnly map.empty) ClosedWithin start new (λ s only. record {
          tables = no_table s;
          shows = λ objects q also told may. none_some objects (sym is ∙ also);
          opens = λ objects closed also. none_some objects (sym is ∙ also);
          begins = λ first begun image left. inr (λ paths p shown. inr (empty p.objects (only image (left_by s (stand_of (disks_of s)) (same_disks s) image left) paths p shown)));
        }) (makes_empty sizes named start new rest sized makes))

    stops_within : (sizes : List ℕ) → map length old.now.seen ≡ sizes → ((objects : Objects) → objects ≡ map.empty → OpensTo (point old.now before).shelf command objects) → StopsInCreate sizes old new → Throughout ClosedWithin old new
    stops_within sizes sized empty (inl nothing) = unwritten_within new nothing
    stops_within sizes sized empty (inr (start, named, flushes, rest, makes)) = made_within sizes start named empty (ap (λ (d : List (List ℕ)). map length d) (flushes_read old start flushes).seen ∙ sized) flushes rest makes before.behind refl

    -- a pool is gone back to: the one that was shown, or the other
    module _ (sizes : List ℕ) (read : World) (flushes : FlushesOnly old read) (rest : IsAtRest read.now) (p : PoolState) (shown : Shows old.now.paths old.now.seen p) (after : Objects) (puts : PutsBack sizes p.objects after read new) (opens : OpensTo (point old.now before).shelf command after) where
      either_within : (s : Stand) → ShowsEither p.objects after s → ClosedWithin s
      either_within s shows = record {
        tables = no_table s;
        shows = λ all q also told may. absurd (opening_stops before.account before.trees command opener may);
        opens = λ all closed also image left paths q is. ⊎_elim (λ same. inl (same ∙ showed_last p shown all also)) (λ same. inr (subst (OpensTo (point old.now before).shelf command) (sym same) opens)) (shows image (left_by s (stand_of (disks_of s)) (same_disks s) image left) paths q is);
        begins = λ first begun image left. inr (λ paths q is. ⊎_elim (λ same. inl (p, shown, sym same)) (λ same. inr (subst (OpensTo (point old.now before).shelf command) (sym same) opens)) (shows image (left_by s (stand_of (disks_of s)) (same_disks s) image left) paths q is));
      }

      back_within : Throughout ClosedWithin old new
      back_within = joined ClosedWithin old read new (unwritten_within read flushes) (weaker (ShowsEither p.objects after) ClosedWithin read new either_within (returns_either sizes p.objects after read new puts))

  -- what the line opens to, in its own words
  to_back : (c : Command) → command ≡ c → (objects : Objects) → OpensTo (point old.now before).shelf c objects → OpensTo (point old.now before).shelf command objects
  to_back c is objects h = subst (λ (d : Command). OpensTo (point old.now before).shelf d objects) (sym is) h

  opener_is : (c : Command) → command ≡ c → is_opener c ≡ true → is_opener command ≡ true
  opener_is c is on = subst (λ (d : Command). is_opener d ≡ true) (sym is) on

  by_command : (sizes : List ℕ) → map length old.now.seen ≡ sizes → (c : Command) → command ≡ c → StopsInOpening sizes c old new → Throughout ClosedWithin old new
  by_command sizes sized (cmd.Create name guid devs) is stops = stops_within (opener_is (cmd.Create name guid devs) is refl) sizes sized (λ objects none. to_back (cmd.Create name guid devs) is objects none) stops
  by_command sizes sized (cmd.CreateOld name guid devs) is stops = stops_within (opener_is (cmd.CreateOld name guid devs) is refl) sizes sized (λ objects none. to_back (cmd.CreateOld name guid devs) is objects none) stops
  by_command sizes sized cmd.ImportRewind is (inl nothing) = unwritten_within new nothing
  by_command sizes sized cmd.ImportRewind is (inr r) =
      back_within (opener_is cmd.ImportRewind is refl) sizes r.read r.flushes r.rest r.state r.shown r.saved.objects r.puts (to_back cmd.ImportRewind is r.saved.objects (r.state, r.saved, r.shown, r.saved_is, refl))
  by_command sizes sized (cmd.ImportTxg txg) is (inl nothing) = unwritten_within new nothing
  by_command sizes sized (cmd.ImportTxg txg) is (inr r) =
      back_within (opener_is (cmd.ImportTxg txg) is refl) sizes r.read r.flushes r.rest r.state r.shown r.group.objects r.puts (to_back (cmd.ImportTxg txg) is r.group.objects (r.group, r.group_shown, refl))
  by_command sizes sized c is stops = unwritten_within new stops

  pub closed_within : (sizes : List ℕ) → map length old.now.seen ≡ sizes → StopsInOpening sizes command old new → Throughout ClosedWithin old new
  closed_within sizes sized stops = by_command sizes sized command refl stops
