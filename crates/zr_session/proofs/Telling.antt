-- What holds at each moment of a generated run, and while devices are attached.
use Rattle.std.proofs.Common.{◌≡◌, inl, inr, ℕ, ◌+◌, ◌<◌, List, [], ◌∷◌, ◌++◌, length, map, take, drop, get_or, Option, Some, None, MatchOption, Result, refl, sym, ap, subst, ◌∙◌, take-append-drop}
use Rattle.std.proofs.lemmas.List.{map-append}
use Rattle.zr_shelf.specs.declared.desk.DeskErr.{DeskErr}
use Rattle.zr_shelf.specs.Disks.{Stand, with_disk}
use Rattle.zr_shelf.specs.Moments.{World, Throughout, Attaches}
use Rattle.zr_shelf.proofs.Runs.{weaker, joined, on_attach}
use Rattle.zr_script.specs.declared.command.Command.{Command}
use Rattle.zr_script.specs.declared.reply.Reply.{Reply}
use Rattle.zr_script.specs.CommandLine.{CommandLine}
use Rattle.zr_command.specs.Meanings.{Meaning, disks_of, beginning}
use Rattle.zr_model.specs.Runs.{point}
use Rattle.zr_session.specs.Agenda.{Given, rounds_of, agenda, IsGiven}
use Rattle.zr_session.specs.Answers.{IsStarted, paths_in, rounds_in, IsAttached}
use Rattle.zr_session.specs.Generated.{Task, task_in, due_in, given_answers}
use Rattle.zr_session.specs.Lines.{DoesCommand, DoesItems}
use Rattle.zr_session.specs.Moments.{IsSending, IsCommandMoment, IsMomentOf, IsStepsMoment, IsMoment, IsGeneratedMoment, IsAttaching, IsRunMoment, IsSessionMoment, IsProgramMoment}
use Rattle.zr_session.specs.Tallied.{DoesCommands}
use Rattle.zr_session.specs.Tally.{generated_text}
use Rattle.zr_session.specs.declared.replies.Replies.TheVariants.{Kept}
use Rattle.zr_session.specs.declared.tally.Tally.{Tally}
use Rattle.zr_session.proofs.Generating.{stage, generated, all_done}
use Rattle.zr_session.proofs.Moments.{given_moment, moment_before, moment_after, rounds_moment_among}
use Rattle.zr_session.proofs.Opening.{attached_next}
use Rattle.zr_session.proofs.Playing.{does_given}
use Rattle.zr_session.proofs.Tallied.{up_to, behind, split_agenda}

-- ---- commands one after another

-- a moment of one of them, with the rounds behind it
command_is_moment : (m : Meaning) (rounds : ℕ) (commands : List Command) (i : ℕ) (x : Command) (a b : m.State) (old mid stand : Stand) → i < length commands → x ≡ get_or commands i x
    → DoesItems Command m IsGiven Kept (up_to rounds commands i) a b old mid → IsMomentOf Command m IsGiven Kept (Given x ∷ rounds_of rounds) b mid stand → IsMomentOf Command m IsGiven Kept (agenda rounds commands) a old stand
command_is_moment m rounds commands i x a b old mid stand l e does h =
    subst (λ items. IsMomentOf Command m IsGiven Kept items a old stand) (sym (split_agenda rounds commands i x l e))
    (moment_after Command m IsGiven Kept (up_to rounds commands i) ((Given x ∷ rounds_of rounds) ++ behind rounds commands i) a b old mid stand does
    (moment_before Command m IsGiven Kept (Given x ∷ rounds_of rounds) (behind rounds commands i) b mid stand h))

pub given_moments : (m : Meaning) (rounds : ℕ) (commands : List Command) (i : ℕ) (x : Command) (tally : Tally) (a b : m.State) (old mid new : World) → i < length commands → x ≡ get_or commands i x
    → DoesCommands m (agenda rounds (take i commands)) tally a b old.now mid.now → Throughout (IsMomentOf Command m IsGiven Kept (agenda rounds commands) a old.now) old mid
    → Throughout (IsCommandMoment m Kept x b mid.now) mid new → Throughout (IsMomentOf Command m IsGiven Kept (agenda rounds commands) a old.now) old new
given_moments m rounds commands i x tally a b old mid new l e d h k =
    joined (IsMomentOf Command m IsGiven Kept (agenda rounds commands) a old.now) old mid new h
    (weaker (IsCommandMoment m Kept x b mid.now) (IsMomentOf Command m IsGiven Kept (agenda rounds commands) a old.now) mid new
    (λ stand at. command_is_moment m rounds commands i x a b old.now mid.now stand l e d.does (given_moment Command m IsGiven Kept x (rounds_of rounds) x b mid.now stand refl at)) k)

-- the rounds behind it
pub behind_moments : (m : Meaning) (rounds : ℕ) (commands : List Command) (i : ℕ) (x : Command) (answer : Reply) (tally : Tally) (a b b' : m.State) (old mid next new : World) → i < length commands → x ≡ get_or commands i x
    → DoesCommands m (agenda rounds (take i commands)) tally a b old.now mid.now → DoesCommand m Kept x answer b b' mid.now next.now → Throughout (IsMomentOf Command m IsGiven Kept (agenda rounds commands) a old.now) old mid
    → Throughout (IsCommandMoment m Kept x b mid.now) mid next → Throughout (IsStepsMoment m Kept (rounds_of rounds) b' next.now) next new → Throughout (IsMomentOf Command m IsGiven Kept (agenda rounds commands) a old.now) old new
behind_moments m rounds commands i x answer tally a b b' old mid next new l e d c h k r =
    joined (IsMomentOf Command m IsGiven Kept (agenda rounds commands) a old.now) old next new (given_moments m rounds commands i x tally a b old mid next l e d h k)
    (weaker (IsStepsMoment m Kept (rounds_of rounds) b' next.now) (IsMomentOf Command m IsGiven Kept (agenda rounds commands) a old.now) next new
    (λ stand at. command_is_moment m rounds commands i x a b old.now mid.now stand l e d.does
    (moment_after Command m IsGiven Kept (Given x ∷ []) (rounds_of rounds) b b' mid.now next.now stand (does_given Command m IsGiven Kept x x answer b b' mid.now next.now refl c)
    (rounds_moment_among Command m IsGiven Kept rounds b' next.now stand at))) r)

-- ---- a generated run

pub generated_moments : (m : Meaning) (task : Task) (old new : World) → Throughout (IsMomentOf Command m IsGiven Kept (due_in task) (m.none (disks_of old.now)) old.now) old new → Throughout (IsGeneratedMoment m task old.now) old new
generated_moments m task old new h = weaker (IsMomentOf Command m IsGiven Kept (due_in task) (m.none (disks_of old.now)) old.now) (IsGeneratedMoment m task old.now) old new (λ stand at. inl at) h

-- its line is sent
pub telling_moments : (m : Meaning) (task : Task) (state : m.State) (counted : Tally) (bytes : List ℕ) (old mid new : World) → (d : DoesCommands m (due_in task) counted (m.none (disks_of old.now)) state old.now mid.now)
    → bytes ≡ generated_text task.number task.count (given_answers m (due_in task) (beginning m old.now) d.does.turns) → m.rests (point mid.now state) (disks_of mid.now)
    → Throughout (IsMomentOf Command m IsGiven Kept (due_in task) (m.none (disks_of old.now)) old.now) old mid → Throughout (IsSending bytes mid.now) mid new → Throughout (IsGeneratedMoment m task old.now) old new
telling_moments m task state counted bytes old mid new d e rests h k =
    joined (IsGeneratedMoment m task old.now) old mid new (generated_moments m task old mid h)
    (weaker (IsSending bytes mid.now) (IsGeneratedMoment m task old.now) mid new
    (λ stand at. inr (record {
      stage = stage (due_in task) [] d.does.turns;
      part = at.0;
      done = refl;
      generated = generated m task old.now mid.now stand state (due_in task) [] at.0 (all_done task) d.does (record { left = ap (λ s. s.left) at.2; sent = ap (λ s. s.sent) at.2 });
      begins = (at.1.0, at.1.1 ∙ e);
      disks = subst (λ p. m.rests p (disks_of stand)) (sym d.does.ends) (subst (λ s. m.rests (point mid.now state) (disks_of s)) (sym at.2) rests);
    })) k)

-- ---- devices

-- first ones are attached
first_attached : {A : Type 0} (f : A → List ℕ × Option ℕ) (xs : List A) (j : ℕ) (old stand : Stand) → IsAttached (map f (take j xs)) old stand → IsAttaching (map f xs) old stand
first_attached f xs j old stand h = (map f (take j xs), map f (drop j xs), sym (map-append f (take j xs) (drop j xs)) ∙ ap (map f) (take-append-drop j xs), h)

-- a call that attaches one more, whatever it came to
pub attach_moments : {A : Type 0} (f : A → List ℕ × Option ℕ) (xs : List A) (i : ℕ) (d : A) (old mid new : World) (r : Result ℕ DeskErr) → i < length xs → IsAttached (map f (take i xs)) old.now mid.now
    → Throughout (IsAttaching (map f xs) old.now) old mid → Attaches (f (get_or xs i d)).0 (f (get_or xs i d)).1 r mid new → Throughout (IsAttaching (map f xs) old.now) old new
attach_moments f xs i d old mid new r l at h call =
    on_attach (IsAttaching (map f xs) old.now) old mid new h (first_attached f xs i old.now mid.now at) (f (get_or xs i d)).0 (f (get_or xs i d)).1 r call
    (λ bytes. first_attached f xs (i + 1) old.now (with_disk mid.now (f (get_or xs i d)).0 (f (get_or xs i d)).1 bytes) (attached_next f xs i d old.now mid.now (with_disk mid.now (f (get_or xs i d)).0 (f (get_or xs i d)).1 bytes) l at (bytes, refl)))

-- ---- the program

-- devices are attached
pub opening_moments : (m : Meaning) (line : CommandLine) (devs : List (List ℕ × Option ℕ)) (old new : World) → devs ≡ line.devs → Throughout (IsAttaching devs old.now) old new → Throughout (IsSessionMoment m line old.now) old new
opening_moments m line devs old new same h = weaker (IsAttaching devs old.now) (IsSessionMoment m line old.now) old new (λ stand at. inl (subst (λ ds. IsAttaching ds old.now stand) same at)) h

run_moments : (m : Meaning) (line : CommandLine) (old mid new : World) → IsAttached line.devs old.now mid.now → Throughout (IsRunMoment m line mid.now) mid new → Throughout (IsSessionMoment m line old.now) mid new
run_moments m line old mid new d h = weaker (IsRunMoment m line mid.now) (IsSessionMoment m line old.now) mid new (λ stand at. inr (mid.now, d, at)) h

-- and then the input is answered
pub serving_moments : (m : Meaning) (line : CommandLine) (devs : List (List ℕ × Option ℕ)) (rounds : ℕ) (old mid new : World) → line.generate ≡ None → devs ≡ line.devs → rounds ≡ rounds_in line → IsAttached line.devs old.now mid.now
    → Throughout (IsAttaching devs old.now) old mid → Throughout (IsMoment m rounds mid.now) mid new → Throughout (IsSessionMoment m line old.now) old new
serving_moments m line devs rounds old mid new none same r d h k =
    joined (IsSessionMoment m line old.now) old mid new (opening_moments m line devs old mid same h)
    (run_moments m line old mid new d
    (weaker (IsMoment m rounds mid.now) (IsRunMoment m line mid.now) mid new
    (λ stand at. subst (λ o. MatchOption o (IsMoment m (rounds_in line) mid.now stand) (λ n. IsGeneratedMoment m (task_in line n) mid.now stand)) (sym none) (subst (λ n. IsMoment m n mid.now stand) r at)) k))

-- or the generated run is done
pub generating_moments : (m : Meaning) (line : CommandLine) (devs : List (List ℕ × Option ℕ)) (paths : List (List ℕ)) (n : ℕ × ℕ) (rounds : ℕ) (old mid new : World) → line.generate ≡ Some n → devs ≡ line.devs → paths ≡ paths_in line → rounds ≡ rounds_in line → IsAttached line.devs old.now mid.now
    → Throughout (IsAttaching devs old.now) old mid → Throughout (IsGeneratedMoment m (record { number = n.0; count = n.1; devs = paths; rounds = rounds }) mid.now) mid new → Throughout (IsSessionMoment m line old.now) old new
generating_moments m line devs paths n rounds old mid new some alike same r d h k =
    joined (IsSessionMoment m line old.now) old mid new (opening_moments m line devs old mid alike h)
    (run_moments m line old mid new d
    (weaker (IsGeneratedMoment m (record { number = n.0; count = n.1; devs = paths; rounds = rounds }) mid.now) (IsRunMoment m line mid.now) mid new
    (λ stand at. subst (λ o. MatchOption o (IsMoment m (rounds_in line) mid.now stand) (λ k. IsGeneratedMoment m (task_in line k) mid.now stand)) (sym some)
    (subst (λ ps. IsGeneratedMoment m (record { number = n.0; count = n.1; devs = ps; rounds = rounds_in line }) mid.now stand) same
    (subst (λ k. IsGeneratedMoment m (record { number = n.0; count = n.1; devs = paths; rounds = k }) mid.now stand) r at))) k))

-- the words are the command line
pub program_moments : (m : Meaning) (names words : List (List ℕ)) (line : CommandLine) (old new : World) → IsStarted names words line
    → Throughout (IsSessionMoment m line old.now) old new → Throughout (IsProgramMoment m names words old.now) old new
program_moments m names words line old new s h = weaker (IsSessionMoment m line old.now) (IsProgramMoment m names words old.now) old new (λ stand at. (line, s, at)) h
