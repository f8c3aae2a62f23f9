-- What holds at each moment of a run, one part after another.
use Rattle.std.proofs.Common.{◌≡◌, ◌≢◌, ◌⊎◌, inl, inr, ℕ, suc, ◌+◌, ◌-◌, ◌<◌, true, List, [], ◌∷◌, ◌++◌, length, take, drop, get_or, Result, refl, sym, ap, subst, ◌∙◌, append_assoc, arith}
use Rattle.std.specs.List.{AllByRecursion}
use Rattle.std.proofs.lemmas.List.{append-nil, append_cancel_right}
use Rattle.std.proofs.lemmas.List.Concat.{flat_map-append}
use Rattle.zr_shelf.specs.declared.desk.DeskErr.{DeskErr}
use Rattle.zr_shelf.specs.Disks.{Stand, sent_more, taken_to}
use Rattle.zr_shelf.specs.Moments.{World, Throughout, Gives, Takes}
use Rattle.zr_shelf.proofs.Runs.{started, weaker, joined, on_give, on_take}
use Rattle.zr_script.specs.declared.command.Command.{Command}
use Rattle.zr_script.specs.declared.reply.Reply.{Reply}
use Rattle.zr_script.specs.Lines.{lines_of}
use Rattle.zr_script.specs.ReplyText.{InputLimit, End, last_line}
use Rattle.zr_model.specs.declared.actor.Actor.{Actor}
use Rattle.zr_command.specs.Meanings.{Meaning, Disks, disks_of, Run, step_of}
use Rattle.zr_model.specs.Runs.{Point, Turn, point, turn, end_of, Asks, IsOutside, KeepsOutside}
use Rattle.zr_session.specs.Agenda.{Item, Given, Inserted, round, rounds_of, agenda, GivesNone, Plays, IsDue}
use Rattle.zr_session.specs.Answers.{IsOpenLine}
use Rattle.zr_session.specs.Lines.{told_for, told, DoesItems, DoesSteps}
use Rattle.zr_session.specs.Moments.{IsOfLastLine, IsSending, MayStand, resting, under_way, replying, IsCommandMoment, IsMomentOf, IsStepsMoment, IsLineMoment, IsMoment}
use Rattle.zr_session.specs.Progress.{IsAt, IsNext}
use Rattle.zr_session.specs.declared.replies.Replies.{Replies}
use Rattle.zr_session.specs.declared.replies.Replies.TheVariants.{Sent}
use Rattle.zr_session.proofs.Going.{due_line, due_last}
use Rattle.zr_session.proofs.Playing.{plays_both, run_both, end_both, told_both, due_more, match_true, same_steps, the_steps, the_rounds, rounds_more, rounds_both, among, among_both, among_rounds, plays_among, due_among}

-- ---- moments of any kind

all_both : (P Q : Stand → Type 0) (stands : List Stand) → AllByRecursion P stands → AllByRecursion Q stands → AllByRecursion (λ s. P s × Q s) stands
all_both P Q [] h k = tt
all_both P Q (s ∷ stands) h k = ((h.0, k.0), all_both P Q stands h.1 k.1)

-- what holds at each moment, and what does too
pub both : (P Q : Stand → Type 0) (old new : World) → Throughout P old new → Throughout Q old new → Throughout (λ s. P s × Q s) old new
both P Q old new h k =
    let same : k.more ≡ h.more = append_cancel_right k.more h.more (old.now ∷ old.past) (sym k.joins ∙ h.joins) in
    record { more = h.more; joins = h.joins; each = all_both P Q h.more h.each (subst (AllByRecursion Q) same k.each) }

-- it holds at the last moment, unless there was none
pub at_last : (P : Stand → Type 0) (old new : World) → Throughout P old new → (new.now ≡ old.now) ⊎ P new.now
at_last P old new h = last h.more h.joins h.each
  where
    last : (more : List Stand) → new.now ∷ new.past ≡ more ++ old.now ∷ old.past → AllByRecursion P more → (new.now ≡ old.now) ⊎ P new.now
    last [] joins each = inl cc
    last (s ∷ more) joins each = let same : s ≡ new.now = cc in inr (subst P same each.0)

-- ---- what is sent

pub nothing_of_last : IsOfLastLine []
nothing_of_last = (InputLimit, (last_line InputLimit, refl))

-- a call that sends, whatever it came to
pub sending : (bytes : List ℕ) (old new : World) (r : Result (Unit {0}) DeskErr) → Gives bytes r old new → Throughout (IsSending bytes old.now) old new
sending bytes old new r call =
    on_give (IsSending bytes old.now) old old new (started (IsSending bytes old.now) old) ([], (bytes, refl), unsent old.now) bytes r call (λ front back e. (front, (back, e), refl))
  where
    unsent : (stand : Stand) → stand ≡ sent_more stand []
    unsent stand = ap (λ bytes. record { paths = stand.paths; makes = stand.makes; durable = stand.durable; writes = stand.writes; seen = stand.seen; left = stand.left; sent = bytes }) (sym (append-nil stand.sent))

-- ---- one command

-- the pool is at it
pub at_it : (m : Meaning) (replies : Replies) (command : Command) (state : m.State) (old new : World)
    → Throughout (λ stand. m.within (point old.now state) command (disks_of stand)) old new → Throughout (IsOutside old.now) old new → Throughout (IsCommandMoment m replies command state old.now) old new
at_it m replies command state old new h k =
    weaker _ (IsCommandMoment m replies command state old.now) old new
    (λ stand (at : m.within (point old.now state) command (disks_of stand) × IsOutside old.now stand). record {
      part = [];
      sent = at.1.sent ∙ sym (append-nil old.now.sent);
      disks = under_way command refl at.0 nothing_of_last;
    })
    (both (λ stand. m.within (point old.now state) command (disks_of stand)) (IsOutside old.now) old new h k)

module _ (m : Meaning) (replies : Replies) (command : Command) (state : m.State) (old mid new : World)
    (h : Throughout (λ stand. m.within (point old.now state) command (disks_of stand)) old mid) (k : KeepsOutside old mid) where
  -- it is done, and its reply is sent
  pub then_replied : (after : m.State) (answer : Reply) → m.takes (point old.now state) (turn command answer mid.now after) → m.rests (point mid.now after) (disks_of mid.now)
      → Throughout (IsSending (told_for replies answer) mid.now) mid new → Throughout (IsCommandMoment m replies command state old.now) old new
  then_replied after answer takes rests s =
      joined (IsCommandMoment m replies command state old.now) old mid new (at_it m replies command state old mid h k.since)
      (weaker (IsSending (told_for replies answer) mid.now) (IsCommandMoment m replies command state old.now) mid new
      (λ stand at. record {
        part = at.0;
        sent = ap (λ s. s.sent) at.2 ∙ ap (λ b. b ++ at.0) k.now.sent;
        disks = subst (λ s. MayStand m replies (λ c. c ≡ command) (point old.now state) at.0 (disks_of s)) (sym at.2) (replying (turn command answer mid.now after) refl takes rests at.1);
      }) s)

  -- it is not, and a last line is sent
  pub then_told : (bytes : List ℕ) (end : End) → bytes ≡ last_line end → m.rests (point old.now state) (disks_of old.now) → Throughout (IsSending bytes mid.now) mid new
      → Throughout (IsCommandMoment m replies command state old.now) old new
  then_told bytes end is rests s =
      joined (IsCommandMoment m replies command state old.now) old mid new (at_it m replies command state old mid h k.since)
      (weaker (IsSending bytes mid.now) (IsCommandMoment m replies command state old.now) mid new
      (λ stand at. record {
        part = at.0;
        sent = ap (λ s. s.sent) at.2 ∙ ap (λ b. b ++ at.0) k.now.sent;
        disks = subst (λ s. MayStand m replies (λ c. c ≡ command) (point old.now state) at.0 (disks_of s)) (sym at.2) (there at.0 (end, (at.1.0, at.1.1 ∙ is)) (at_last _ old mid h));
      }) s)
    where
      there : (part : List ℕ) → IsOfLastLine part → ((mid.now ≡ old.now) ⊎ m.within (point old.now state) command (disks_of mid.now)) → MayStand m replies (λ c. c ≡ command) (point old.now state) part (disks_of mid.now)
      there part last (inl same) = resting (subst (λ s. m.rests (point old.now state) (disks_of s)) (sym same) rests) last
      there part last (inr at) = under_way command refl at last

-- ---- items

-- what is due for other reasons
stand_due : (m : Meaning) (replies : Replies) (D E : Command → Type 0) (p : Point m.State) (part : List ℕ) (disks : Disks) → ((c : Command) → D c → E c) → MayStand m replies D p part disks → MayStand m replies E p part disks
stand_due m replies D E p part disks f (resting rests last) = resting rests last
stand_due m replies D E p part disks f (under_way c due at last) = under_way c (f c due) at last
stand_due m replies D E p part disks f (replying t due takes rests front) = replying t (f t.command due) takes rests front

-- a command is the first of the items

-- a command is due of these items
due_moment : (A : Type 0) (m : Meaning) (Means : A → Command → Type 0) (replies : Replies) (items : List (Item A)) (c : Command) (state : m.State) (old stand : Stand)
    → IsDue m Means items (point old state) c → IsCommandMoment m replies c state old stand → IsMomentOf A m Means replies items state old stand
due_moment A m Means replies items c state old stand due h = record {
  front = [];
  rest = items;
  turns = [];
  part = h.part;
  due = refl;
  plays = refl;
  run = tt;
  sent = h.sent;
  disks = stand_due m replies (λ d. d ≡ c) (IsDue m Means items (point old state)) (point old state) h.part (disks_of stand) (λ d same. subst (IsDue m Means items (point old state)) (sym same) due) h.disks;
}

-- that of a line
pub given_moment : (A : Type 0) (m : Meaning) (Means : A → Command → Type 0) (replies : Replies) (x : A) (more : List (Item A)) (c : Command) (state : m.State) (old stand : Stand)
    → Means x c → IsCommandMoment m replies c state old stand → IsMomentOf A m Means replies (Given x ∷ more) state old stand
given_moment A m Means replies x more c state old stand means h = due_moment A m Means replies (Given x ∷ more) c state old stand means h

-- or a step that has work
pub step_moment : (A : Type 0) (m : Meaning) (Means : A → Command → Type 0) (replies : Replies) (actor : Actor) (state : m.State) (old stand : Stand)
    → m.works state actor ≡ true → IsCommandMoment m replies (step_of actor) state old stand → IsMomentOf A m Means replies (Inserted actor ∷ []) state old stand
step_moment A m Means replies actor state old stand works h =
    due_moment A m Means replies (Inserted actor ∷ []) (step_of actor) state old stand
    (match_true (m.works state actor) (step_of actor ≡ step_of actor) (IsDue m Means [] (point old state) (step_of actor)) works refl) h

-- nothing is under way, and no more than a last line is sent
rest_moment : (A : Type 0) (m : Meaning) (Means : A → Command → Type 0) (replies : Replies) (state : m.State) (old stand : Stand) (part : List ℕ)
    → m.rests (point old state) (disks_of stand) → stand.sent ≡ old.sent ++ part → IsOfLastLine part → IsMomentOf A m Means replies [] state old stand
rest_moment A m Means replies state old stand part rests sent last =
    record { front = []; rest = []; turns = []; part = part; due = refl; plays = refl; run = tt; sent = sent; disks = resting rests last }

-- items that come later
pub moment_before : (A : Type 0) (m : Meaning) (Means : A → Command → Type 0) (replies : Replies) (xs ys : List (Item A)) (state : m.State) (old stand : Stand)
    → IsMomentOf A m Means replies xs state old stand → IsMomentOf A m Means replies (xs ++ ys) state old stand
moment_before A m Means replies xs ys state old stand h =
    let p = end_of (point old state) h.turns in
    record {
      front = h.front;
      rest = h.rest ++ ys;
      turns = h.turns;
      part = h.part;
      due = ap (λ l. l ++ ys) h.due ∙ append_assoc h.front h.rest ys;
      plays = h.plays;
      run = h.run;
      sent = h.sent;
      disks = stand_due m replies (IsDue m Means h.rest p) (IsDue m Means (h.rest ++ ys) p) p h.part (disks_of stand) (λ c due. due_more A m Means h.rest ys p c due) h.disks;
    }

-- items that were done before
moment_behind : (A : Type 0) (m : Meaning) (Means : A → Command → Type 0) (replies : Replies) (xs ys : List (Item A)) (turns : List (Turn m.State)) (a b : m.State) (old mid stand : Stand)
    → Plays m Means xs (point old a) turns → Run m (point old a) turns → end_of (point old a) turns ≡ point mid b → mid.sent ≡ old.sent ++ told replies turns
    → IsMomentOf A m Means replies ys b mid stand → IsMomentOf A m Means replies (xs ++ ys) a old stand
moment_behind A m Means replies xs ys turns a b old mid stand plays run ends sent h =
    let last : end_of (point old a) (turns ++ h.turns) ≡ end_of (point mid b) h.turns = end_both (point old a) turns h.turns ∙ ap (λ q. end_of q h.turns) ends in
    record {
      front = xs ++ h.front;
      rest = h.rest;
      turns = turns ++ h.turns;
      part = h.part;
      due = ap (λ l. xs ++ l) h.due ∙ sym (append_assoc xs h.front h.rest);
      plays = plays_both A m Means xs h.front (point old a) turns h.turns plays (subst (λ q. Plays m Means h.front q h.turns) (sym ends) h.plays);
      run = run_both m (point old a) turns h.turns run (subst (λ q. Run m q h.turns) (sym ends) h.run);
      sent = h.sent ∙ (ap (λ s. s ++ (told replies h.turns ++ h.part)) sent ∙ (append_assoc old.sent (told replies turns) (told replies h.turns ++ h.part)
          ∙ ap (λ s. old.sent ++ s) (sym (append_assoc (told replies turns) (told replies h.turns) h.part) ∙ ap (λ s. s ++ h.part) (sym (told_both replies turns h.turns)))));
      disks = subst (λ q. MayStand m replies (IsDue m Means h.rest q) q h.part (disks_of stand)) (sym last) h.disks;
    }

pub moment_after : (A : Type 0) (m : Meaning) (Means : A → Command → Type 0) (replies : Replies) (xs ys : List (Item A)) (a b : m.State) (old mid stand : Stand)
    → DoesItems A m Means replies xs a b old mid → IsMomentOf A m Means replies ys b mid stand → IsMomentOf A m Means replies (xs ++ ys) a old stand
moment_after A m Means replies xs ys a b old mid stand d h = moment_behind A m Means replies xs ys d.turns a b old mid stand d.plays d.run d.ends d.sends.sent h

-- a step of one of the actors
pub steps_moment : (m : Meaning) (replies : Replies) (actors : List Actor) (i : ℕ) (d : Actor) (a b : m.State) (old mid stand : Stand) → i < length actors
    → DoesSteps m replies (the_steps ⊥ (take i actors)) a b old mid → IsStepsMoment m replies (Inserted (get_or actors i d) ∷ []) b mid stand → IsStepsMoment m replies (the_steps ⊥ actors) a old stand
steps_moment m replies actors i d a b old mid stand l does h =
    subst (λ items. IsStepsMoment m replies items a old stand) (same_steps actors i d l)
    (moment_after ⊥ m GivesNone replies (the_steps ⊥ (take i actors)) (Inserted (get_or actors i d) ∷ the_steps ⊥ (drop (suc i) actors)) a b old mid stand does
    (moment_before ⊥ m GivesNone replies (Inserted (get_or actors i d) ∷ []) (the_steps ⊥ (drop (suc i) actors)) b mid stand h))

-- one of the rounds
pub rounds_moment : (m : Meaning) (replies : Replies) (rounds i : ℕ) (a b : m.State) (old mid stand : Stand) → i < rounds
    → DoesSteps m replies (rounds_of i) a b old mid → IsStepsMoment m replies (the_steps ⊥ round) b mid stand → IsStepsMoment m replies (rounds_of rounds) a old stand
rounds_moment m replies rounds i a b old mid stand l does h =
    let left : ℕ = rounds - (i + 1) in
    let all : (the_rounds ⊥ i ++ the_steps ⊥ round) ++ the_rounds ⊥ left ≡ the_rounds ⊥ rounds =
    ap (λ l. l ++ the_rounds ⊥ left) (rounds_more ⊥ i) ∙ (rounds_both ⊥ (i + 1) left ∙ ap (the_rounds ⊥) (omega arith)) in
    subst (λ items. IsStepsMoment m replies items a old stand) all
    (moment_before ⊥ m GivesNone replies (the_rounds ⊥ i ++ the_steps ⊥ round) (the_rounds ⊥ left) a old stand
    (moment_after ⊥ m GivesNone replies (the_rounds ⊥ i) (the_steps ⊥ round) a b old mid stand does h))

-- among items of any kind
pub rounds_moment_among : (A : Type 0) (m : Meaning) (Means : A → Command → Type 0) (replies : Replies) (n : ℕ) (state : m.State) (old stand : Stand)
    → IsStepsMoment m replies (rounds_of n) state old stand → IsMomentOf A m Means replies (rounds_of n) state old stand
rounds_moment_among A m Means replies n state old stand h =
    let p = end_of (point old state) h.turns in
    record {
      front = among A h.front;
      rest = among A h.rest;
      turns = h.turns;
      part = h.part;
      due = sym (among_rounds A n) ∙ (ap (among A) h.due ∙ among_both A h.front h.rest);
      plays = plays_among A m Means h.front (point old state) h.turns h.plays;
      run = h.run;
      sent = h.sent;
      disks = stand_due m replies (IsDue m GivesNone h.rest p) (IsDue m Means (among A h.rest) p) p h.part (disks_of stand) (λ c due. due_among A m Means h.rest p c due) h.disks;
    }

-- ---- the same of all moments between two points

pub step_moments : (m : Meaning) (replies : Replies) (actor : Actor) (state : m.State) (old new : World) → m.works state actor ≡ true
    → Throughout (IsCommandMoment m replies (step_of actor) state old.now) old new → Throughout (IsStepsMoment m replies (Inserted actor ∷ []) state old.now) old new
step_moments m replies actor state old new works h =
    weaker (IsCommandMoment m replies (step_of actor) state old.now) (IsStepsMoment m replies (Inserted actor ∷ []) state old.now) old new
    (λ stand at. step_moment ⊥ m GivesNone replies actor state old.now stand works at) h

pub steps_moments : (m : Meaning) (replies : Replies) (actors : List Actor) (i : ℕ) (d : Actor) (a b : m.State) (old mid new : World) → i < length actors
    → DoesSteps m replies (the_steps ⊥ (take i actors)) a b old.now mid.now → Throughout (IsStepsMoment m replies (the_steps ⊥ actors) a old.now) old mid
    → Throughout (IsStepsMoment m replies (Inserted (get_or actors i d) ∷ []) b mid.now) mid new → Throughout (IsStepsMoment m replies (the_steps ⊥ actors) a old.now) old new
steps_moments m replies actors i d a b old mid new l does h k =
    joined (IsStepsMoment m replies (the_steps ⊥ actors) a old.now) old mid new h
    (weaker (IsStepsMoment m replies (Inserted (get_or actors i d) ∷ []) b mid.now) (IsStepsMoment m replies (the_steps ⊥ actors) a old.now) mid new
    (λ stand at. steps_moment m replies actors i d a b old.now mid.now stand l does at) k)

pub rounds_moments : (m : Meaning) (replies : Replies) (rounds i : ℕ) (a b : m.State) (old mid new : World) → i < rounds
    → DoesSteps m replies (rounds_of i) a b old.now mid.now → Throughout (IsStepsMoment m replies (rounds_of rounds) a old.now) old mid
    → Throughout (IsStepsMoment m replies (the_steps ⊥ round) b mid.now) mid new → Throughout (IsStepsMoment m replies (rounds_of rounds) a old.now) old new
rounds_moments m replies rounds i a b old mid new l does h k =
    joined (IsStepsMoment m replies (rounds_of rounds) a old.now) old mid new h
    (weaker (IsStepsMoment m replies (the_steps ⊥ round) b mid.now) (IsStepsMoment m replies (rounds_of rounds) a old.now) mid new
    (λ stand at. rounds_moment m replies rounds i a b old.now mid.now stand l does at) k)

-- the command of a line
pub command_moments : (m : Meaning) (rounds : ℕ) (line : List ℕ) (c : Command) (state : m.State) (old new : World) → Asks line c
    → Throughout (IsCommandMoment m Sent c state old.now) old new → Throughout (IsLineMoment m rounds line state old.now) old new
command_moments m rounds line c state old new asks h =
    weaker (IsCommandMoment m Sent c state old.now) (IsLineMoment m rounds line state old.now) old new
    (λ stand at. given_moment (List ℕ) m Asks Sent line (rounds_of rounds) c state old.now stand asks at) h

-- and the rounds behind it
pub line_moments : (m : Meaning) (rounds : ℕ) (line : List ℕ) (c : Command) (a b : m.State) (old mid new : World) → Asks line c → DoesItems (List ℕ) m Asks Sent (Given line ∷ []) a b old.now mid.now
    → Throughout (IsCommandMoment m Sent c a old.now) old mid → Throughout (IsStepsMoment m Sent (rounds_of rounds) b mid.now) mid new → Throughout (IsLineMoment m rounds line a old.now) old new
line_moments m rounds line c a b old mid new asks does h k =
    joined (IsLineMoment m rounds line a old.now) old mid new (command_moments m rounds line c a old mid asks h)
    (weaker (IsStepsMoment m Sent (rounds_of rounds) b mid.now) (IsLineMoment m rounds line a old.now) mid new
    (λ stand at. moment_after (List ℕ) m Asks Sent (Given line ∷ []) (rounds_of rounds) a b old.now mid.now stand does (rounds_moment_among (List ℕ) m Asks Sent rounds b mid.now stand at)) k)

-- a last line is sent, and nothing else is done
pub told_moments : (A : Type 0) (m : Meaning) (Means : A → Command → Type 0) (replies : Replies) (items : List (Item A)) (state : m.State) (old new : World) (end : End) → m.rests (point old.now state) (disks_of old.now)
    → Throughout (IsSending (last_line end) old.now) old new → Throughout (IsMomentOf A m Means replies items state old.now) old new
told_moments A m Means replies items state old new end rests h =
    weaker (IsSending (last_line end) old.now) (IsMomentOf A m Means replies items state old.now) old new
    (λ stand at. moment_before A m Means replies [] items state old.now stand
    (rest_moment A m Means replies state old.now stand at.0 (subst (λ s. m.rests (point old.now state) (disks_of s)) (sym at.2) rests) (ap (λ s. s.sent) at.2) (end, at.1))) h

-- ---- a run over the input

the_agenda : (rounds : ℕ) (all lines more : List (List ℕ)) → all ≡ lines ++ more → agenda rounds all ≡ agenda rounds lines ++ agenda rounds more
the_agenda rounds all lines more e = ap (λ ls. agenda rounds ls) e ∙ flat_map-append (λ (line : List ℕ). Given line ∷ rounds_of rounds) lines more

-- the next line is taken up
line_is_moment : (m : Meaning) (rounds : ℕ) (opening now stand : Stand) (state : m.State) (line : List ℕ) (number : ℕ) → IsNext m rounds opening now state line number
    → IsLineMoment m rounds line state now stand → IsMoment m rounds opening stand
line_is_moment m rounds opening now stand state line number d h =
    subst (λ items. IsMomentOf (List ℕ) m Asks Sent items (m.none (disks_of opening)) opening stand) (sym (the_agenda rounds (lines_of opening.left) d.lines (line ∷ d.more) d.front))
    (moment_behind (List ℕ) m Asks Sent (agenda rounds d.lines) ((Given line ∷ rounds_of rounds) ++ agenda rounds d.more) d.turns (m.none (disks_of opening)) state opening now stand d.done.plays d.done.run d.done.ends d.done.sent
    (moment_before (List ℕ) m Asks Sent (Given line ∷ rounds_of rounds) (agenda rounds d.more) state now stand h))

-- none is, and no more than a last line is sent
rest_is_moment : (m : Meaning) (rounds : ℕ) (opening now stand : Stand) (state : m.State) (rest line : List ℕ) (count taken : ℕ) (part : List ℕ) → IsAt m rounds opening now state rest line count taken
    → m.rests (point now state) (disks_of stand) → stand.sent ≡ now.sent ++ part → IsOfLastLine part → IsMoment m rounds opening stand
rest_is_moment m rounds opening now stand state rest line count taken part a rests sent last =
    let more : List (List ℕ) = lines_of (line ++ (rest ++ now.left)) in
    subst (λ items. IsMomentOf (List ℕ) m Asks Sent items (m.none (disks_of opening)) opening stand) (sym (the_agenda rounds (lines_of opening.left) a.lines more (ap lines_of a.input ∙ a.split (rest ++ now.left))))
    (moment_behind (List ℕ) m Asks Sent (agenda rounds a.lines) (agenda rounds more) a.turns (m.none (disks_of opening)) state opening now stand a.done.plays a.done.run a.done.ends a.done.sent
    (moment_before (List ℕ) m Asks Sent [] (agenda rounds more) state now stand (rest_moment (List ℕ) m Asks Sent state now stand part rests sent last)))

next_moments : (m : Meaning) (rounds : ℕ) (opening : Stand) (mid new : World) (state : m.State) (line : List ℕ) (number : ℕ) → IsNext m rounds opening mid.now state line number
    → Throughout (IsLineMoment m rounds line state mid.now) mid new → Throughout (IsMoment m rounds opening) mid new
next_moments m rounds opening mid new state line number d h =
    weaker (IsLineMoment m rounds line state mid.now) (IsMoment m rounds opening) mid new (λ stand at. line_is_moment m rounds opening mid.now stand state line number d at) h

-- the line that a line feed ends within a piece
pub part_moments : (m : Meaning) (rounds : ℕ) (opening : Stand) (old mid new : World) (state : m.State) (rest line part more : List ℕ) (count taken : ℕ) → IsAt m rounds opening mid.now state rest line count taken
    → rest ≡ part ++ 10 ∷ more → IsOpenLine part → Throughout (IsMoment m rounds opening) old mid → Throughout (IsLineMoment m rounds (line ++ part) state mid.now) mid new → Throughout (IsMoment m rounds opening) old new
part_moments m rounds opening old mid new state rest line part more count taken a e k h l =
    joined (IsMoment m rounds opening) old mid new h
    (next_moments m rounds opening mid new state (line ++ part) (count + 1) (due_line m rounds opening mid.now state rest line part more count taken a e k) l)

-- the last line, which none ends
pub last_moments : (m : Meaning) (rounds : ℕ) (opening : Stand) (mid new : World) (state : m.State) (line : List ℕ) (count taken : ℕ) → length line ≢ 0 → IsAt m rounds opening mid.now state [] line count taken
    → mid.now.left ≡ [] → Throughout (IsLineMoment m rounds line state mid.now) mid new → Throughout (IsMoment m rounds opening) mid new
last_moments m rounds opening mid new state [] count taken z a e h = absurd (z refl)
last_moments m rounds opening mid new state (b ∷ line) count taken z a e h =
    next_moments m rounds opening mid new state (b ∷ line) (count + 1) (due_last m rounds opening mid.now state b line count taken a e) h

-- a last line is sent
pub end_moments : (m : Meaning) (rounds : ℕ) (opening : Stand) (old mid new : World) (state : m.State) (rest line : List ℕ) (count taken : ℕ) (end : End) → IsAt m rounds opening mid.now state rest line count taken
    → m.rests (point mid.now state) (disks_of mid.now) → Throughout (IsMoment m rounds opening) old mid → Throughout (IsSending (last_line end) mid.now) mid new → Throughout (IsMoment m rounds opening) old new
end_moments m rounds opening old mid new state rest line count taken end a rests h k =
    joined (IsMoment m rounds opening) old mid new h
    (weaker (IsSending (last_line end) mid.now) (IsMoment m rounds opening) mid new
    (λ stand at. rest_is_moment m rounds opening mid.now stand state rest line count taken at.0 a
    (subst (λ s. m.rests (point mid.now state) (disks_of s)) (sym at.2) rests) (ap (λ s. s.sent) at.2) (end, at.1)) k)

-- a call that takes of the input, whatever it came to
pub take_moments : (m : Meaning) (rounds : ℕ) (opening : Stand) (old new : World) (state : m.State) (line : List ℕ) (count taken : ℕ) (out : List ℕ) (r : Result ℕ DeskErr) → IsAt m rounds opening old.now state [] line count taken
    → m.rests (point old.now state) (disks_of old.now) → Takes out r old new → Throughout (IsMoment m rounds opening) old new
take_moments m rounds opening old new state line count taken out r a rests call =
    on_take (IsMoment m rounds opening) old old new (started (IsMoment m rounds opening) old) (still old.now.left) out r call still
  where
    still : (left : List ℕ) → IsMoment m rounds opening (taken_to old.now left)
    still left = rest_is_moment m rounds opening old.now (taken_to old.now left) state [] line count taken [] a rests (sym (append-nil old.now.sent)) nothing_of_last
