-- Generated commands that are done one after another, and what is counted of their replies.
use Rattle.std.proofs.Common.{◌≡◌, ℕ, zero, suc, ◌+◌, ◌<◌, Bool, true, false, MatchBool, List, [], ◌∷◌, ◌++◌, length, take, drop, get_or, if◌then◌else◌, refl, sym, ap, subst, ◌∙◌, append_assoc, arith}
use Rattle.std.proofs.lemmas.List.{take_more, length-take-le}
use Rattle.std.proofs.lemmas.List.Concat.{flat_map-append}
use Rattle.zr_shelf.specs.Disks.{Stand}
use Rattle.zr_script.specs.declared.command.Command.{Command}
use Rattle.zr_script.specs.declared.reply.Reply.{Reply}
use Rattle.zr_command.specs.Meanings.{Meaning}
use Rattle.zr_model.specs.Runs.{Point, Turn, point, turn, end_of}
use Rattle.zr_session.specs.Agenda.{Item, Given, Inserted, rounds_of, agenda, IsGiven, Plays}
use Rattle.zr_session.specs.Tally.{Answer, answer_of}
use Rattle.zr_session.specs.Generated.{given_answers, given_count}
use Rattle.zr_session.specs.Lines.{DoesCommand, DoesItems, DoesSteps, StopsAtCommand, StopsWithinSteps}
use Rattle.zr_session.specs.Tallied.{IsTallyOf, DoesCommands, StopsAmong, at_command, between}
use Rattle.zr_session.specs.declared.end.End.{End}
use Rattle.zr_session.specs.declared.end.End.TheVariants.{NoMemory}
use Rattle.zr_session.specs.declared.replies.Replies.TheVariants.{Kept}
use Rattle.zr_session.specs.declared.tally.Tally.{Tally}
use Rattle.zr_session.proofs.Opening.{split_at}
use Rattle.zr_session.proofs.Playing.{PutsIn, does_both, does_given, does_with_rounds, due_more, stops_among, the_rounds, among, among_rounds, agenda_more}

match_cases : (b : Bool) (X Y G : Type 0) → (b ≡ true → X → G) → (b ≡ false → Y → G) → MatchBool b X Y → G
match_cases true X Y G f g h = f refl h
match_cases false X Y G f g h = g refl h

either : (b : Bool) (x y z : List Answer) → x ≡ z → y ≡ z → (if b then x else y) ≡ z
either true x y z e f = e
either false x y z e f = f

-- ---- the answers to the commands that are given

given_none : (A : Type 0) (m : Meaning) (items : List (Item A)) (p : Point m.State) → given_answers m items p [] ≡ []
given_none A m [] p = refl
given_none A m (Given x ∷ items) p = refl
given_none A m (Inserted actor ∷ items) p = refl

given_skip : (A : Type 0) (m : Meaning) (actor : _) (items : List (Item A)) (p : Point m.State) (ts : List (Turn m.State)) → m.works p.state actor ≡ false → given_answers m (Inserted actor ∷ items) p ts ≡ given_answers m items p ts
given_skip A m actor items p [] e = sym (given_none A m items p)
given_skip A m actor items p (t ∷ ts) e = ap (λ b. if b then given_answers m items t.point ts else given_answers m items p (t ∷ ts)) e

given_step : (A : Type 0) (m : Meaning) (actor : _) (items : List (Item A)) (p : Point m.State) (t : Turn m.State) (ts : List (Turn m.State)) → m.works p.state actor ≡ true → given_answers m (Inserted actor ∷ items) p (t ∷ ts) ≡ given_answers m items t.point ts
given_step A m actor items p t ts e = ap (λ b. if b then given_answers m items t.point ts else given_answers m items p (t ∷ ts)) e

-- of some items, and then of others
abbrev AreBoth : (A : Type 0) → (m : Meaning) → List (Item A) → List (Item A) → Point m.State → List (Turn m.State) → List (Turn m.State) → Type 0
AreBoth A m xs ys p ts us = given_answers m (xs ++ ys) p (ts ++ us) ≡ given_answers m xs p ts ++ given_answers m ys (end_of p ts) us

given_both : (A : Type 0) (m : Meaning) (Means : A → Command → Type 0) (xs ys : List (Item A)) (p : Point m.State) (ts us : List (Turn m.State)) → Plays m Means xs p ts → AreBoth A m xs ys p ts us
given_both A m Means [] ys p ts us h = subst (λ l. AreBoth A m [] ys p l us) (sym h) refl
given_both A m Means (Given x ∷ xs) ys p ts us h =
    subst (λ l. AreBoth A m (Given x ∷ xs) ys p l us) (sym h.2) (ap (λ l. answer_of h.0 ∷ l) (given_both A m Means xs ys h.0.point h.1 us h.4))
given_both A m Means (Inserted actor ∷ xs) ys p ts us h =
    match_cases (m.works p.state actor) (PutsIn A m Means xs actor ts) (Plays m Means xs p ts) (AreBoth A m (Inserted actor ∷ xs) ys p ts us)
    (λ e i. subst (λ l. AreBoth A m (Inserted actor ∷ xs) ys p l us) (sym i.2)
    (given_step A m actor (xs ++ ys) p i.0 (i.1 ++ us) e ∙ (given_both A m Means xs ys i.0.point i.1 us i.4
    ∙ ap (λ l. l ++ given_answers m ys (end_of i.0.point i.1) us) (sym (given_step A m actor xs p i.0 i.1 e)))))
    (λ e i. given_skip A m actor (xs ++ ys) p (ts ++ us) e ∙ (given_both A m Means xs ys p ts us i ∙ ap (λ l. l ++ given_answers m ys (end_of p ts) us) (sym (given_skip A m actor xs p ts e))))
    h

-- steps that are put in give none
given_among : (A : Type 0) (m : Meaning) (items : List (Item ⊥)) (p : Point m.State) (ts : List (Turn m.State)) → given_answers m (among A items) p ts ≡ []
given_among A m [] p ts = refl
given_among A m (Given x ∷ items) p ts = absurd x
given_among A m (Inserted actor ∷ items) p [] = refl
given_among A m (Inserted actor ∷ items) p (t ∷ ts) =
    either (m.works p.state actor) (given_answers m (among A items) t.point ts) (given_answers m (among A items) p (t ∷ ts)) [] (given_among A m items t.point ts) (given_among A m items p (t ∷ ts))

given_rounds : (A : Type 0) (m : Meaning) (n : ℕ) (p : Point m.State) (ts : List (Turn m.State)) → given_answers m (the_rounds A n) p ts ≡ []
given_rounds A m n p ts = subst (λ items. given_answers m items p ts ≡ []) (among_rounds A n) (given_among A m (the_rounds ⊥ n) p ts)

-- ---- how many are given

count_both : (A : Type 0) (xs ys : List (Item A)) → given_count (xs ++ ys) ≡ given_count xs + given_count ys
count_both A [] ys = omega arith
count_both A (Given x ∷ xs) ys = let i = count_both A xs ys in omega arith
count_both A (Inserted actor ∷ xs) ys = count_both A xs ys

count_rounds : (A : Type 0) (n : ℕ) → given_count (the_rounds A n) ≡ 0
count_rounds A zero = refl
count_rounds A (suc n) = count_rounds A n

count_agenda : (A : Type 0) (rounds : ℕ) (xs : List A) → given_count (agenda rounds xs) ≡ length xs
count_agenda A rounds [] = refl
count_agenda A rounds (x ∷ xs) =
    let b = count_both A (the_rounds A rounds) (agenda rounds xs) in
    let r = count_rounds A rounds in
    let i = count_agenda A rounds xs in
    omega arith

-- ---- one command more

-- the items of the commands up to one, and behind it
abbrev pub up_to : ℕ → List Command → ℕ → List (Item Command)
up_to rounds commands i = agenda rounds (take i commands)

abbrev pub behind : ℕ → List Command → ℕ → List (Item Command)
behind rounds commands i = agenda rounds (drop (suc i) commands)

pub split_agenda : (rounds : ℕ) (commands : List Command) (i : ℕ) (x : Command) → i < length commands → x ≡ get_or commands i x
    → agenda rounds commands ≡ up_to rounds commands i ++ ((Given x ∷ rounds_of rounds) ++ behind rounds commands i)
split_agenda rounds commands i x l e =
    ap (agenda rounds) (sym (split_at commands i x l) ∙ ap (λ y. take i commands ++ y ∷ drop (suc i) commands) (sym e))
    ∙ flat_map-append (λ (y : Command). Given y ∷ rounds_of rounds) (take i commands) (x ∷ drop (suc i) commands)

-- a command is done behind those before it
done_command : (m : Meaning) (rounds : ℕ) (commands : List Command) (i : ℕ) (c : Command) (answer : Reply) (before state after : m.State) (old mid new : Stand)
    → DoesItems Command m IsGiven Kept (up_to rounds commands i) before state old mid → DoesCommand m Kept c answer state after mid new
    → DoesItems Command m IsGiven Kept (up_to rounds commands i ++ Given c ∷ []) before after old new
done_command m rounds commands i c answer before state after old mid new h d =
    does_both Command m IsGiven Kept (up_to rounds commands i) (Given c ∷ []) before state after old mid new h (does_given Command m IsGiven Kept c c answer state after mid new refl d)

-- and the rounds behind it
pub one_more : (m : Meaning) (rounds : ℕ) (commands : List Command) (i : ℕ) (x : Command) (answer : Reply) (tally counted : Tally) (before state mid_state after : m.State) (old mid next new : Stand) → i < length commands → x ≡ get_or commands i x
    → DoesCommands m (agenda rounds (take i commands)) tally before state old mid → DoesCommand m Kept x answer state mid_state mid next
    → ((given : List Answer) → IsTallyOf tally given → IsTallyOf counted (given ++ record { command = x; answer = answer } ∷ []))
    → DoesSteps m Kept (rounds_of rounds) mid_state after next new → DoesCommands m (agenda rounds (take (i + 1) commands)) counted before after old new
one_more m rounds commands i x answer tally counted before state mid_state after old mid next new l e h c count r =
    let t = turn x answer next mid_state in
    let all = does_with_rounds m Kept rounds (up_to rounds commands i) x answer before state mid_state after old mid next new h.does c r in
    let given : given_answers m (up_to rounds commands i ++ (Given x ∷ rounds_of rounds)) (point old before) all.0.turns ≡ given_answers m (up_to rounds commands i) (point old before) h.does.turns ++ answer_of t ∷ [] =
    ap (given_answers m (up_to rounds commands i ++ (Given x ∷ rounds_of rounds)) (point old before)) all.1
    ∙ (given_both Command m IsGiven (up_to rounds commands i) (Given x ∷ rounds_of rounds) (point old before) h.does.turns (t ∷ r.turns) h.does.plays
    ∙ ap (λ us. given_answers m (up_to rounds commands i) (point old before) h.does.turns ++ answer_of t ∷ us) (given_rounds Command m rounds t.point r.turns)) in
    let items : up_to rounds commands i ++ (Given x ∷ rounds_of rounds) ≡ agenda rounds (take (i + 1) commands) =
    sym (agenda_more Command rounds (take i commands) x) ∙ ap (agenda rounds) (sym (take_more commands i x l ∙ ap (λ y. take i commands ++ y ∷ []) (sym e))) in
    subst (λ xs. DoesCommands m xs counted before after old new) items
    (record { does = all.0; tallied = subst (λ ts. IsTallyOf counted ts) (sym given) (count _ h.tallied) })

-- ---- where it stops

-- at a command
pub stops_at : (m : Meaning) (rounds : ℕ) (commands : List Command) (i : ℕ) (x : Command) (tally : Tally) (before state : m.State) (old mid new : Stand) (number : ℕ) (end : End) → i < length commands → x ≡ get_or commands i x → number ≡ i + 1
    → DoesCommands m (agenda rounds (take i commands)) tally before state old mid → StopsAtCommand m Kept x number state mid new end → StopsAmong m (agenda rounds commands) before old new end
stops_at m rounds commands i x tally before state old mid new number end l e n h s =
    at_command (record { front = up_to rounds commands i; rest = (Given x ∷ rounds_of rounds) ++ behind rounds commands i; split = split_agenda rounds commands i x l e; state = state; mid = mid; does = h.does })
    x number refl (λ u. let k = count_agenda Command rounds (take i commands) in let t = length-take-le i commands (let q = l in omega arith) in omega (arith, n)) s

split_behind : (rounds : ℕ) (commands : List Command) (i : ℕ) (x : Command) → i < length commands → x ≡ get_or commands i x
    → agenda rounds commands ≡ (up_to rounds commands i ++ Given x ∷ []) ++ (rounds_of rounds ++ behind rounds commands i)
split_behind rounds commands i x l e = split_agenda rounds commands i x l e ∙ sym (append_assoc (up_to rounds commands i) (Given x ∷ []) (rounds_of rounds ++ behind rounds commands i))

-- behind one, whose reply there was no memory to count
pub stops_between : (m : Meaning) (rounds : ℕ) (commands : List Command) (i : ℕ) (x : Command) (answer : Reply) (tally : Tally) (before state after : m.State) (old mid new : Stand) → i < length commands → x ≡ get_or commands i x
    → DoesCommands m (agenda rounds (take i commands)) tally before state old mid → DoesCommand m Kept x answer state after mid new → StopsAmong m (agenda rounds commands) before old new NoMemory
stops_between m rounds commands i x answer tally before state after old mid new l e h c =
    between (record {
      front = up_to rounds commands i ++ Given x ∷ [];
      rest = rounds_of rounds ++ behind rounds commands i;
      split = split_behind rounds commands i x l e;
      state = after;
      mid = new;
      does = done_command m rounds commands i x answer before state after old mid new h.does c;
    }) refl refl

-- within the rounds behind it
pub stops_behind_command : (m : Meaning) (rounds : ℕ) (commands : List Command) (i : ℕ) (x : Command) (answer : Reply) (tally : Tally) (before state after : m.State) (old mid next new : Stand) (number : ℕ) (end : End) → i < length commands → x ≡ get_or commands i x
    → DoesCommands m (agenda rounds (take i commands)) tally before state old mid → DoesCommand m Kept x answer state after mid next
    → StopsWithinSteps m Kept (rounds_of rounds) number after next new end → StopsAmong m (agenda rounds commands) before old new end
stops_behind_command m rounds commands i x answer tally before state after old mid next new number end l e h c s =
    let w = stops_among Command m IsGiven Kept rounds number after next new end s in
    let one = done_command m rounds commands i x answer before state after old mid next h.does c in
    at_command (record {
      front = (up_to rounds commands i ++ Given x ∷ []) ++ w.front;
      rest = w.rest ++ behind rounds commands i;
      split = split_behind rounds commands i x l e ∙ (ap (λ r. (up_to rounds commands i ++ Given x ∷ []) ++ (r ++ behind rounds commands i)) w.split
          ∙ (ap (λ r. (up_to rounds commands i ++ Given x ∷ []) ++ r) (append_assoc w.front w.rest (behind rounds commands i))
          ∙ sym (append_assoc (up_to rounds commands i ++ Given x ∷ []) w.front (w.rest ++ behind rounds commands i))));
      state = w.state;
      mid = w.mid;
      does = does_both Command m IsGiven Kept (up_to rounds commands i ++ Given x ∷ []) w.front before after w.state old next w.mid one w.does;
    }) w.command number (due_more Command m IsGiven w.rest (behind rounds commands i) (point w.mid w.state) w.command w.due) (λ u. absurd (u w.served)) w.stops
