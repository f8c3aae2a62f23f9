-- Items that are done, one part after another.
use Rattle.std.proofs.Common.{◌≡◌, ℕ, zero, suc, ◌+◌, ◌-◌, ◌<◌, Bool, true, false, MatchBool, List, [], ◌∷◌, ◌++◌, length, map, take, drop, get_or, replicate, refl, sym, ap, subst, ◌∙◌, append_assoc, arith}
use Rattle.std.specs.List.{flat_map}
use Rattle.std.proofs.lemmas.List.{append-nil, replicate-append-replicate, take_more, map-append}
use Rattle.std.proofs.lemmas.List.Concat.{flat_map-append}
use Rattle.zr_shelf.specs.Disks.{Stand}
use Rattle.zr_script.specs.declared.command.Command.{Command}
use Rattle.zr_script.specs.declared.reply.Reply.{Reply}
use Rattle.zr_model.specs.declared.actor.Actor.{Actor}
use Rattle.zr_command.specs.Meanings.{Meaning, Run, step_of}
use Rattle.zr_model.specs.Runs.{Point, Turn, point, turn, end_of}
use Rattle.zr_session.specs.Agenda.{Item, Given, Inserted, round, rounds_of, agenda, GivesNone, IsGiven, Plays, IsDue}
use Rattle.zr_session.specs.declared.end.End.{End}
use Rattle.zr_session.specs.declared.replies.Replies.{Replies}
use Rattle.zr_session.specs.Lines.{told_for, told, Sends, DoesCommand, DoesItems, StopsAtCommand, StopsWithin, DoesSteps, StopsWithinSteps}
use Rattle.zr_session.proofs.Opening.{split_at}

match_weaker : (b : Bool) (X Y V W : Type 0) → (X → V) → (Y → W) → MatchBool b X Y → MatchBool b V W
match_weaker true X Y V W f g h = f h
match_weaker false X Y V W f g h = g h

pub match_true : (b : Bool) (X Y : Type 0) → b ≡ true → X → MatchBool b X Y
match_true b X Y e x = subst (λ c. MatchBool c X Y) (sym e) x

match_false : (b : Bool) (X Y : Type 0) → b ≡ false → Y → MatchBool b X Y
match_false b X Y e y = subst (λ c. MatchBool c X Y) (sym e) y

-- the step of an actor is put in
abbrev pub PutsIn : (A : Type 0) → (m : Meaning) → (A → Command → Type 0) → List (Item A) → Actor → List (Turn m.State) → Type 0
PutsIn A m Means items actor turns = (t : Turn m.State) × (more : List (Turn m.State)) × (turns ≡ t ∷ more) × (t.command ≡ step_of actor) × Plays m Means items t.point more

pub plays_both : (A : Type 0) (m : Meaning) (Means : A → Command → Type 0) (xs ys : List (Item A)) (p : Point m.State) (ts us : List (Turn m.State))
    → Plays m Means xs p ts → Plays m Means ys (end_of p ts) us → Plays m Means (xs ++ ys) p (ts ++ us)
plays_both A m Means [] ys p ts us h k = subst (λ l. Plays m Means ys p (l ++ us)) (sym h) (subst (λ l. Plays m Means ys (end_of p l) us) h k)
plays_both A m Means (Given x ∷ xs) ys p ts us h k =
    (h.0, h.1 ++ us, ap (λ l. l ++ us) h.2, h.3, plays_both A m Means xs ys h.0.point h.1 us h.4 (subst (λ l. Plays m Means ys (end_of p l) us) h.2 k))
plays_both A m Means (Inserted actor ∷ xs) ys p ts us h k =
    match_weaker (m.works p.state actor) (PutsIn A m Means xs actor ts) (Plays m Means xs p ts) (PutsIn A m Means (xs ++ ys) actor (ts ++ us)) (Plays m Means (xs ++ ys) p (ts ++ us))
    (λ i. (i.0, i.1 ++ us, ap (λ l. l ++ us) i.2, i.3, plays_both A m Means xs ys i.0.point i.1 us i.4 (subst (λ l. Plays m Means ys (end_of p l) us) i.2 k)))
    (λ i. plays_both A m Means xs ys p ts us i k) h

pub run_both : (m : Meaning) (p : Point m.State) (ts us : List (Turn m.State)) → Run m p ts → Run m (end_of p ts) us → Run m p (ts ++ us)
run_both m p [] us h k = k
run_both m p (t ∷ ts) us h k = (h.0, run_both m t.point ts us h.1 k)

pub end_both : {S : Type 0} (p : Point S) (ts us : List (Turn S)) → end_of p (ts ++ us) ≡ end_of (end_of p ts) us
end_both p [] us = refl
end_both p (t ∷ ts) us = end_both t.point ts us

pub due_more : (A : Type 0) (m : Meaning) (Means : A → Command → Type 0) (xs ys : List (Item A)) (p : Point m.State) (c : Command) → IsDue m Means xs p c → IsDue m Means (xs ++ ys) p c
due_more A m Means [] ys p c h = absurd h
due_more A m Means (Given x ∷ xs) ys p c h = h
due_more A m Means (Inserted actor ∷ xs) ys p c h =
    match_weaker (m.works p.state actor) (c ≡ step_of actor) (IsDue m Means xs p c) (c ≡ step_of actor) (IsDue m Means (xs ++ ys) p c) (λ e. e) (λ i. due_more A m Means xs ys p c i) h

-- what is sent for turns is sent in their order
pub told_both : {S : Type 0} (replies : Replies) (ts us : List (Turn S)) → told replies (ts ++ us) ≡ told replies ts ++ told replies us
told_both replies ts us = flat_map-append (λ t. told_for replies t.answer) ts us

sends_both : (old mid new : Stand) (xs ys zs : List ℕ) → Sends old mid xs → Sends mid new ys → zs ≡ xs ++ ys → Sends old new zs
sends_both old mid new xs ys zs h k e = record {
  left = k.left ∙ h.left;
  sent = k.sent ∙ (ap (λ s. s ++ ys) h.sent ∙ (append_assoc old.sent xs ys ∙ ap (λ t. old.sent ++ t) (sym e)));
}

-- nothing is due
pub does_none : (A : Type 0) (m : Meaning) (Means : A → Command → Type 0) (replies : Replies) (state : m.State) (now : Stand) → DoesItems A m Means replies [] state state now now
does_none A m Means replies state now = record {
  turns = [];
  plays = refl;
  run = tt;
  ends = refl;
  sends = record { left = refl; sent = sym (append-nil now.sent) };
}

-- some items are done, and then others
pub does_both : (A : Type 0) (m : Meaning) (Means : A → Command → Type 0) (replies : Replies) (xs ys : List (Item A)) (a b c : m.State) (old mid new : Stand)
    → DoesItems A m Means replies xs a b old mid → DoesItems A m Means replies ys b c mid new → DoesItems A m Means replies (xs ++ ys) a c old new
does_both A m Means replies xs ys a b c old mid new h k = record {
  turns = h.turns ++ k.turns;
  plays = plays_both A m Means xs ys (point old a) h.turns k.turns h.plays (subst (λ q. Plays m Means ys q k.turns) (sym h.ends) k.plays);
  run = run_both m (point old a) h.turns k.turns h.run (subst (λ q. Run m q k.turns) (sym h.ends) k.run);
  ends = end_both (point old a) h.turns k.turns ∙ (ap (λ q. end_of q k.turns) h.ends ∙ k.ends);
  sends = sends_both old mid new (told replies h.turns) (told replies k.turns) _ h.sends k.sends (told_both replies h.turns k.turns);
}

one_text : {S : Type 0} (replies : Replies) (old new : Stand) (t : Turn S) → Sends old new (told_for replies t.answer) → Sends old new (told replies (t ∷ []))
one_text replies old new t s = subst (λ b. Sends old new b) (sym (append-nil (told_for replies t.answer))) s

-- a command that is given is done
pub does_given : (A : Type 0) (m : Meaning) (Means : A → Command → Type 0) (replies : Replies) (x : A) (c : Command) (answer : Reply) (before after : m.State) (old new : Stand) → Means x c
    → DoesCommand m replies c answer before after old new → DoesItems A m Means replies (Given x ∷ []) before after old new
does_given A m Means replies x c answer before after old new means d =
    let t = turn c answer new after in
    record { turns = t ∷ []; plays = (t, [], refl, means, refl); run = (d.takes, tt); ends = refl; sends = one_text replies old new t d.sends }

-- a step that has work is done
pub does_step : (A : Type 0) (m : Meaning) (Means : A → Command → Type 0) (replies : Replies) (actor : Actor) (answer : Reply) (before after : m.State) (old new : Stand) → m.works before actor ≡ true
    → DoesCommand m replies (step_of actor) answer before after old new → DoesItems A m Means replies (Inserted actor ∷ []) before after old new
does_step A m Means replies actor answer before after old new works d =
    let t = turn (step_of actor) answer new after in
    record {
      turns = t ∷ [];
      plays = match_true (m.works before actor) (PutsIn A m Means [] actor (t ∷ [])) (Plays m Means [] (point old before) (t ∷ [])) works (t, [], refl, refl, refl);
      run = (d.takes, tt);
      ends = refl;
      sends = one_text replies old new t d.sends;
    }

-- one that has none is left out
pub does_without : (A : Type 0) (m : Meaning) (Means : A → Command → Type 0) (replies : Replies) (actor : Actor) (state : m.State) (now : Stand) → m.works state actor ≡ false
    → DoesItems A m Means replies (Inserted actor ∷ []) state state now now
does_without A m Means replies actor state now works = record {
  turns = [];
  plays = match_false (m.works state actor) (PutsIn A m Means [] actor []) (Plays m Means [] (point now state) []) works refl;
  run = tt;
  ends = refl;
  sends = record { left = refl; sent = sym (append-nil now.sent) };
}

-- the run stops at a step that has work
pub stops_step : (A : Type 0) (m : Meaning) (Means : A → Command → Type 0) (replies : Replies) (actor : Actor) (number : ℕ) (before : m.State) (old new : Stand) (end : End)
    → m.works before actor ≡ true → m.serves old.paths before (step_of actor) → StopsAtCommand m replies (step_of actor) number before old new end → StopsWithin A m Means replies (Inserted actor ∷ []) number before old new end
stops_step A m Means replies actor number before old new end works served s = record {
  front = [];
  rest = Inserted actor ∷ [];
  split = refl;
  state = before;
  mid = old;
  does = does_none A m Means replies before old;
  command = step_of actor;
  due = match_true (m.works before actor) (step_of actor ≡ step_of actor) (IsDue m Means [] (point old before) (step_of actor)) works refl;
  served = served;
  stops = s;
}

-- it stops behind items that are done
pub stops_behind : (A : Type 0) (m : Meaning) (Means : A → Command → Type 0) (replies : Replies) (xs ys : List (Item A)) (number : ℕ) (a b : m.State) (old mid new : Stand) (end : End)
    → DoesItems A m Means replies xs a b old mid → StopsWithin A m Means replies ys number b mid new end → StopsWithin A m Means replies (xs ++ ys) number a old new end
stops_behind A m Means replies xs ys number a b old mid new end h s = record {
  front = xs ++ s.front;
  rest = s.rest;
  split = ap (λ l. xs ++ l) s.split ∙ sym (append_assoc xs s.front s.rest);
  state = s.state;
  mid = s.mid;
  does = does_both A m Means replies xs s.front a b s.state old mid s.mid h s.does;
  command = s.command;
  due = s.due;
  served = s.served;
  stops = s.stops;
}

-- or before items that come later
pub stops_before : (A : Type 0) (m : Meaning) (Means : A → Command → Type 0) (replies : Replies) (xs ys : List (Item A)) (number : ℕ) (before : m.State) (old new : Stand) (end : End)
    → StopsWithin A m Means replies xs number before old new end → StopsWithin A m Means replies (xs ++ ys) number before old new end
stops_before A m Means replies xs ys number before old new end s = record {
  front = s.front;
  rest = s.rest ++ ys;
  split = ap (λ l. l ++ ys) s.split ∙ append_assoc s.front s.rest ys;
  state = s.state;
  mid = s.mid;
  does = s.does;
  command = s.command;
  due = due_more A m Means s.rest ys (point s.mid s.state) s.command s.due;
  served = s.served;
  stops = s.stops;
}

-- with the type of what is given
abbrev put_in : (A : Type 0) → Actor → Item A
put_in A actor = Inserted actor

abbrev pub the_steps : (A : Type 0) → List Actor → List (Item A)
the_steps A actors = map Inserted actors

abbrev pub the_rounds : (A : Type 0) → ℕ → List (Item A)
the_rounds A rounds = rounds_of rounds

-- so many rounds, and then others
pub rounds_both : (A : Type 0) (n k : ℕ) → the_rounds A n ++ the_rounds A k ≡ the_rounds A (n + k)
rounds_both A n k =
    sym (flat_map-append (λ (actors : List Actor). the_steps A actors) (replicate n round) (replicate k round))
    ∙ ap (flat_map (λ (actors : List Actor). the_steps A actors)) (replicate-append-replicate n k round)

one_round : (A : Type 0) → the_rounds A 1 ≡ the_steps A round
one_round A = append-nil (the_steps A round)

pub rounds_more : (A : Type 0) (n : ℕ) → the_rounds A n ++ the_steps A round ≡ the_rounds A (n + 1)
rounds_more A n = ap (λ l. the_rounds A n ++ l) (sym (one_round A)) ∙ rounds_both A n 1

pub agenda_more : (A : Type 0) (rounds : ℕ) (xs : List A) (x : A) → agenda rounds (xs ++ x ∷ []) ≡ agenda rounds xs ++ (Given x ∷ rounds_of rounds)
agenda_more A rounds xs x =
    flat_map-append (λ (y : A). Given y ∷ rounds_of rounds) xs (x ∷ []) ∙ ap (λ l. agenda rounds xs ++ l) (append-nil (Given x ∷ rounds_of rounds))

-- ---- the steps of actors

pub same_steps : (actors : List Actor) (i : ℕ) (d : Actor) → i < length actors → the_steps ⊥ (take i actors) ++ (Inserted (get_or actors i d) ∷ the_steps ⊥ (drop (suc i) actors)) ≡ the_steps ⊥ actors
same_steps actors i d l =
    sym (map-append (λ (x : Actor). put_in ⊥ x) (take i actors) (get_or actors i d ∷ drop (suc i) actors)) ∙ ap (the_steps ⊥) (split_at actors i d l)

-- the run stops at the step of one of them
pub stops_steps : (m : Meaning) (replies : Replies) (actors : List Actor) (i : ℕ) (d : Actor) (number : ℕ) (before state : m.State) (old mid new : Stand) (end : End) → i < length actors
    → DoesSteps m replies (the_steps ⊥ (take i actors)) before state old mid → StopsWithinSteps m replies (Inserted (get_or actors i d) ∷ []) number state mid new end → StopsWithinSteps m replies (the_steps ⊥ actors) number before old new end
stops_steps m replies actors i d number before state old mid new end l h s =
    subst (λ items. StopsWithinSteps m replies items number before old new end) (same_steps actors i d l)
    (stops_behind ⊥ m GivesNone replies (the_steps ⊥ (take i actors)) (Inserted (get_or actors i d) ∷ the_steps ⊥ (drop (suc i) actors)) number before state old mid new end h
    (stops_before ⊥ m GivesNone replies (Inserted (get_or actors i d) ∷ []) (the_steps ⊥ (drop (suc i) actors)) number state mid new end s))

-- one step more is made, where there is work
pub does_steps : (m : Meaning) (replies : Replies) (actors : List Actor) (i : ℕ) (d : Actor) (before state after : m.State) (old mid new : Stand) → i < length actors
    → DoesSteps m replies (the_steps ⊥ (take i actors)) before state old mid → DoesSteps m replies (Inserted (get_or actors i d) ∷ []) state after mid new → DoesSteps m replies (the_steps ⊥ (take (i + 1) actors)) before after old new
does_steps m replies actors i d before state after old mid new l h k =
    let next : the_steps ⊥ (take (i + 1) actors) ≡ the_steps ⊥ (take i actors) ++ Inserted (get_or actors i d) ∷ [] =
    ap (the_steps ⊥) (take_more actors i d l) ∙ map-append (λ (x : Actor). put_in ⊥ x) (take i actors) (get_or actors i d ∷ []) in
    subst (λ items. DoesSteps m replies items before after old new) (sym next)
    (does_both ⊥ m GivesNone replies (the_steps ⊥ (take i actors)) (Inserted (get_or actors i d) ∷ []) before state after old mid new h k)

-- the run stops in one of the rounds
pub stops_rounds : (m : Meaning) (replies : Replies) (rounds i : ℕ) (number : ℕ) (before state : m.State) (old mid new : Stand) (end : End) → i < rounds
    → DoesSteps m replies (rounds_of i) before state old mid → StopsWithinSteps m replies (the_steps ⊥ round) number state mid new end → StopsWithinSteps m replies (rounds_of rounds) number before old new end
stops_rounds m replies rounds i number before state old mid new end l d s =
    let left : ℕ = rounds - (i + 1) in
    let all : (the_rounds ⊥ i ++ the_steps ⊥ round) ++ the_rounds ⊥ left ≡ the_rounds ⊥ rounds =
    ap (λ l. l ++ the_rounds ⊥ left) (rounds_more ⊥ i) ∙ (rounds_both ⊥ (i + 1) left ∙ ap (the_rounds ⊥) (omega arith)) in
    subst (λ items. StopsWithinSteps m replies items number before old new end) all
    (stops_before ⊥ m GivesNone replies (the_rounds ⊥ i ++ the_steps ⊥ round) (the_rounds ⊥ left) number before old new end
    (stops_behind ⊥ m GivesNone replies (the_rounds ⊥ i) (the_steps ⊥ round) number before state old mid new end d s))

-- one round more is done
pub does_rounds : (m : Meaning) (replies : Replies) (i : ℕ) (before state after : m.State) (old mid new : Stand)
    → DoesSteps m replies (rounds_of i) before state old mid → DoesSteps m replies (the_steps ⊥ round) state after mid new → DoesSteps m replies (rounds_of (i + 1)) before after old new
does_rounds m replies i before state after old mid new d e =
    subst (λ items. DoesSteps m replies items before after old new) (rounds_more ⊥ i)
    (does_both ⊥ m GivesNone replies (the_rounds ⊥ i) (the_steps ⊥ round) before state after old mid new d e)

-- ---- steps among items of any kind

-- the same steps, where others may be given
abbrev pub among : (A : Type 0) → List (Item ⊥) → List (Item A)
among A [] = []
among A (Given x ∷ items) = absurd x
among A (Inserted actor ∷ items) = Inserted actor ∷ among A items

pub among_both : (A : Type 0) (xs ys : List (Item ⊥)) → among A (xs ++ ys) ≡ among A xs ++ among A ys
among_both A [] ys = refl
among_both A (Given x ∷ xs) ys = absurd x
among_both A (Inserted actor ∷ xs) ys = ap (λ l. put_in A actor ∷ l) (among_both A xs ys)

pub among_rounds : (A : Type 0) (n : ℕ) → among A (the_rounds ⊥ n) ≡ the_rounds A n
among_rounds A zero = refl
among_rounds A (suc n) = ap (λ l. the_steps A round ++ l) (among_rounds A n)

pub plays_among : (A : Type 0) (m : Meaning) (Means : A → Command → Type 0) (items : List (Item ⊥)) (p : Point m.State) (turns : List (Turn m.State)) → Plays m GivesNone items p turns → Plays m Means (among A items) p turns
plays_among A m Means [] p turns h = h
plays_among A m Means (Given x ∷ items) p turns h = absurd x
plays_among A m Means (Inserted actor ∷ items) p turns h =
    match_weaker (m.works p.state actor) (PutsIn ⊥ m GivesNone items actor turns) (Plays m GivesNone items p turns) (PutsIn A m Means (among A items) actor turns) (Plays m Means (among A items) p turns)
    (λ i. (i.0, i.1, i.2, i.3, plays_among A m Means items i.0.point i.1 i.4)) (λ i. plays_among A m Means items p turns i) h

pub due_among : (A : Type 0) (m : Meaning) (Means : A → Command → Type 0) (items : List (Item ⊥)) (p : Point m.State) (c : Command) → IsDue m GivesNone items p c → IsDue m Means (among A items) p c
due_among A m Means [] p c h = absurd h
due_among A m Means (Given x ∷ items) p c h = absurd x
due_among A m Means (Inserted actor ∷ items) p c h =
    match_weaker (m.works p.state actor) (c ≡ step_of actor) (IsDue m GivesNone items p c) (c ≡ step_of actor) (IsDue m Means (among A items) p c) (λ e. e) (λ i. due_among A m Means items p c i) h

does_among : (A : Type 0) (m : Meaning) (Means : A → Command → Type 0) (replies : Replies) (items : List (Item ⊥)) (before after : m.State) (old new : Stand)
    → DoesSteps m replies items before after old new → DoesItems A m Means replies (among A items) before after old new
does_among A m Means replies items before after old new h =
    record { turns = h.turns; plays = plays_among A m Means items (point old before) h.turns h.plays; run = h.run; ends = h.ends; sends = h.sends }

-- so many rounds are done
pub rounds_among : (A : Type 0) (m : Meaning) (Means : A → Command → Type 0) (replies : Replies) (n : ℕ) (before after : m.State) (old new : Stand)
    → DoesSteps m replies (rounds_of n) before after old new → DoesItems A m Means replies (rounds_of n) before after old new
rounds_among A m Means replies n before after old new h =
    let turns = plays_among A m Means (the_rounds ⊥ n) (point old before) h.turns h.plays in
    record { turns = h.turns; plays = subst (λ items. Plays m Means items (point old before) h.turns) (among_rounds A n) turns; run = h.run; ends = h.ends; sends = h.sends }

-- a command behind items that are done, and rounds behind it: the turns are theirs, its own and those of the rounds
pub does_with_rounds : (m : Meaning) (replies : Replies) (rounds : ℕ) (items : List (Item Command)) (c : Command) (answer : Reply) (before state mid_state after : m.State) (old mid next new : Stand)
    → (h : DoesItems Command m IsGiven replies items before state old mid) → DoesCommand m replies c answer state mid_state mid next → (r : DoesSteps m replies (rounds_of rounds) mid_state after next new)
    → (d : DoesItems Command m IsGiven replies (items ++ (Given c ∷ rounds_of rounds)) before after old new) × (d.turns ≡ h.turns ++ turn c answer next mid_state ∷ r.turns)
unfolding does_both does_given rounds_among
does_with_rounds m replies rounds items c answer before state mid_state after old mid next new h d r =
    let one = does_given Command m IsGiven replies c c answer state mid_state mid next refl d in
    let steps = rounds_among Command m IsGiven replies rounds mid_state after next new r in
    let more = does_both Command m IsGiven replies (Given c ∷ []) (rounds_of rounds) state mid_state after mid next new one steps in
    (does_both Command m IsGiven replies items (Given c ∷ rounds_of rounds) before state after old mid new h more, refl)

-- the run stops within them
pub stops_among : (A : Type 0) (m : Meaning) (Means : A → Command → Type 0) (replies : Replies) (n number : ℕ) (before : m.State) (old new : Stand) (end : End)
    → StopsWithinSteps m replies (rounds_of n) number before old new end → StopsWithin A m Means replies (rounds_of n) number before old new end
stops_among A m Means replies n number before old new end s = record {
  front = among A s.front;
  rest = among A s.rest;
  split = sym (among_rounds A n) ∙ (ap (among A) s.split ∙ among_both A s.front s.rest);
  state = s.state;
  mid = s.mid;
  does = does_among A m Means replies s.front before s.state old s.mid s.does;
  command = s.command;
  due = due_among A m Means s.rest (point s.mid s.state) s.command s.due;
  served = s.served;
  stops = s.stops;
}
