-- What has been answered where a run ends.
use Rattle.std.proofs.Common.{◌≡◌, ◌≢◌, inl, inr, ℕ, List, [], ◌∷◌, ◌++◌, length, ◌+◌, ◌≤◌, ◌<◌, ◌^◌, refl, sym, ap, subst, ◌∙◌, append_assoc, arith, length-append}
use Rattle.std.specs.List.{flat_map}
use Rattle.std.proofs.lemmas.List.{append-nil}
use Rattle.std.proofs.lemmas.List.Concat.{flat_map-append}
use Rattle.zr_shelf.specs.Disks.{Stand}
use Rattle.zr_base.specs.declared.refusal.Refusal.{Refusal}
use Rattle.zr_script.specs.declared.command.Command.{Command}
use Rattle.zr_script.specs.Grammar.{IsLine}
use Rattle.zr_script.specs.Lines.{lines_of}
use Rattle.zr_script.specs.ReplyText as text
use Rattle.zr_script.specs.ReplyText.{last_line}
use Rattle.zr_command.specs.Meanings.{Meaning, IsBad}
use Rattle.zr_model.specs.Runs.{Turn, point, texts, Asks, bytes_to}
use Rattle.zr_session.specs.Agenda.{Item, Given, rounds_of, agenda, IsDue}
use Rattle.zr_session.specs.Answers.{IsOpenLine, Reach, HasReached, IsBetween, IsNextText, reply, bad_line, limit, fault, damage, IsAtBadLine, IsAtCommand, IsAtDamage, IsDone}
use Rattle.zr_session.specs.declared.replies.Replies.TheVariants.{Sent}
use Rattle.zr_session.specs.declared.end.End.{End}
use Rattle.zr_session.specs.declared.end.End.TheVariants.{Answered, BadWords, InputFault, OutputFault, DiskFault, BadLine, Damaged, AttachFault, InputLimit, NoMemory}
use Rattle.zr_session.specs.Ends.{EndsAs}
use Rattle.zr_session.specs.Lines as sending
use Rattle.zr_session.specs.Lines.{Sends, SendsPartly, Tells, wholly, partly, IsTextFor, StopsAtCommand, StopsAtLine, outside, quit, command, within, memory, DoesItems, StopsWithin, AnswersLine, StopsAtRest, long, full}
use Rattle.zr_session.specs.Progress.{HasDone, IsAt, IsNext}
use Rattle.zr_session.proofs.Playing.{does_both, agenda_more}
use Rattle.zr_session.proofs.Going.{done_more, answered_more, IsLong, last_front, due_last, due_long, due_line}

sent_with : {S : Type 0} (opening now new : Stand) (turns : List (Turn S)) (bytes : List ℕ) → now.sent ≡ opening.sent ++ texts turns → new.sent ≡ now.sent ++ bytes → new.sent ≡ opening.sent ++ (texts turns ++ bytes)
sent_with opening now new turns bytes e f = f ∙ (ap (λ s. s ++ bytes) e ∙ append_assoc opening.sent (texts turns) bytes)

-- a point of a run: what is done up to here, and nothing is sent since
pub record IsPoint (m : Meaning) (rounds : ℕ) (opening now : Stand) (state : m.State) (r : Reach m.State) : Type 0 where
  pub begins : lines_of opening.left ≡ r.lines ++ r.more
  pub due : agenda rounds r.lines ≡ r.front ++ r.rest
  pub done : HasDone m opening now state r.front r.turns
  pub input : opening.left ≡ r.taken ++ now.left
  pub most : length r.taken ≤ 2 ^ 32

-- what is sent there
point_reached : (m : Meaning) (rounds : ℕ) (opening now new : Stand) (state : m.State) (r : Reach m.State) (bytes : List ℕ) → IsPoint m rounds opening now state r → Sends now new bytes → HasReached m rounds opening new r bytes
point_reached m rounds opening now new state r bytes p s = record {
  begins = p.begins;
  due = p.due;
  plays = p.done.plays;
  run = p.done.run;
  input = p.input ∙ ap (λ l. r.taken ++ l) (sym s.left);
  most = p.most;
  sent = sent_with opening now new r.turns bytes p.done.sent s.sent;
}

-- the next line, not taken up
abbrev reach_before : (m : Meaning) (rounds : ℕ) {opening now : Stand} {state : m.State} {line : List ℕ} {number : ℕ} → IsNext m rounds opening now state line number → Reach m.State
reach_before m rounds {line = line} d = record { lines = d.lines; more = line ∷ d.more; front = agenda rounds d.lines; rest = []; turns = d.turns; taken = d.taken }

before_point : (m : Meaning) (rounds : ℕ) (opening now : Stand) (state : m.State) (line : List ℕ) (number : ℕ) (d : IsNext m rounds opening now state line number) → IsPoint m rounds opening now state (reach_before m rounds d)
before_point m rounds opening now state line number d =
    record { begins = d.front; due = sym (append-nil (agenda rounds d.lines)); done = d.done; input = d.input; most = d.most }

-- the next line, taken up
abbrev reach_on : (m : Meaning) (rounds : ℕ) {opening now : Stand} {state : m.State} {line : List ℕ} {number : ℕ} → IsNext m rounds opening now state line number → Reach m.State
reach_on m rounds {line = line} d =
    record { lines = d.lines ++ line ∷ []; more = d.more; front = agenda rounds d.lines; rest = Given line ∷ rounds_of rounds; turns = d.turns; taken = d.taken }

begins_more : (all lines more : List (List ℕ)) (line : List ℕ) → all ≡ lines ++ line ∷ more → all ≡ (lines ++ line ∷ []) ++ more
begins_more all lines more line e = e ∙ sym (append_assoc lines (line ∷ []) more)

on_point : (m : Meaning) (rounds : ℕ) (opening now : Stand) (state : m.State) (line : List ℕ) (number : ℕ) (d : IsNext m rounds opening now state line number) → IsPoint m rounds opening now state (reach_on m rounds d)
on_point m rounds opening now state line number d =
    record { begins = begins_more _ d.lines d.more line d.front; due = agenda_more (List ℕ) rounds d.lines line; done = d.done; input = d.input; most = d.most }

-- some items of the rounds behind it are done
abbrev reach_within : (m : Meaning) (rounds : ℕ) {opening now : Stand} {state : m.State} {line : List ℕ} {number : ℕ} → IsNext m rounds opening now state line number → List (Item (List ℕ)) → List (Item (List ℕ)) → List (Turn m.State) → Reach m.State
reach_within m rounds {line = line} d front rest turns =
    record { lines = d.lines ++ line ∷ []; more = d.more; front = agenda rounds d.lines ++ front; rest = rest; turns = d.turns ++ turns; taken = d.taken }

within_point : (m : Meaning) (rounds : ℕ) (opening now mid : Stand) (state after : m.State) (line : List ℕ) (number : ℕ) (front rest : List (Item (List ℕ))) (d : IsNext m rounds opening now state line number)
    → Given line ∷ rounds_of rounds ≡ front ++ rest → (h : DoesItems (List ℕ) m Asks Sent front state after now mid) → IsPoint m rounds opening mid after (reach_within m rounds d front rest h.turns)
within_point m rounds opening now mid state after line number front rest d e h = record {
  begins = begins_more _ d.lines d.more line d.front;
  due = agenda_more (List ℕ) rounds d.lines line ∙ (ap (λ l. agenda rounds d.lines ++ l) e ∙ sym (append_assoc (agenda rounds d.lines) front rest));
  done = done_more m opening now mid state after (agenda rounds d.lines) front d.turns d.done h;
  input = d.input ∙ ap (λ l. d.taken ++ l) (sym h.sends.left);
  most = d.most;
}

-- a line that is a bad one is the next
pub record IsBadNext (m : Meaning) (rounds : ℕ) (opening now : Stand) (state : m.State) (number : ℕ) : Type 0 where
  pub r : Reach m.State
  pub point_is : IsPoint m rounds opening now state r
  pub bad : IsAtBadLine m opening r
  pub number_is : number ≡ length r.lines + 1

bad_next : (m : Meaning) (rounds : ℕ) (opening now : Stand) (state : m.State) (line : List ℕ) (number : ℕ) → IsNext m rounds opening now state line number → IsBad m (point now state) line → IsBadNext m rounds opening now state number
bad_next m rounds opening now state line number d b = record {
  r = reach_before m rounds d;
  point_is = before_point m rounds opening now state line number d;
  bad = (line, record { answered = refl; after = d.more; next = refl }, subst (λ p. IsBad m p line) (sym d.done.ends) b, d.prompt);
  number_is = d.number_is;
}

next_bad : (m : Meaning) (opening : Stand) (r : Reach m.State) (number : ℕ) → IsAtBadLine m opening r → number ≡ length r.lines + 1 → IsNextText m opening r (last_line (text.BadLine number))
next_bad m opening r number b e = subst (λ n. IsNextText m opening r (last_line (text.BadLine n))) (sym e) (bad_line b)

tells_bad : (m : Meaning) (rounds : ℕ) (opening now new : Stand) (state : m.State) (number : ℕ) → IsBadNext m rounds opening now state number → Sends now new (last_line (text.BadLine number)) → EndsAs m rounds BadLine opening new
tells_bad m rounds opening now new state number b s =
    (b.r, point_reached m rounds opening now new state b.r _ b.point_is (subst (λ n. Sends now new (last_line (text.BadLine n))) b.number_is s), b.bad)

-- a text was not sent whole
ends_partly : (m : Meaning) (rounds : ℕ) (opening now new : Stand) (state : m.State) (r : Reach m.State) (bytes : List ℕ) (end : End) → IsPoint m rounds opening now state r
    → IsNextText m opening r bytes → SendsPartly bytes now new end → EndsAs m rounds end opening new
ends_partly m rounds opening now new state r bytes OutputFault p t s = (r, s.0, s.1, bytes, s.2, t, point_reached m rounds opening now new state r s.0 p s.3)
ends_partly m rounds opening now new state r bytes NoMemory p t s = (r, point_reached m rounds opening now new state r [] p s)
ends_partly m rounds opening now new state r bytes Answered p t s = absurd s
ends_partly m rounds opening now new state r bytes BadWords p t s = absurd s
ends_partly m rounds opening now new state r bytes InputFault p t s = absurd s
ends_partly m rounds opening now new state r bytes DiskFault p t s = absurd s
ends_partly m rounds opening now new state r bytes BadLine p t s = absurd s
ends_partly m rounds opening now new state r bytes Damaged p t s = absurd s
ends_partly m rounds opening now new state r bytes AttachFault p t s = absurd s
ends_partly m rounds opening now new state r bytes InputLimit p t s = absurd s

-- a command is due, and where the pool does not serve it the line is a bad one
pub record IsCommandNext (m : Meaning) (rounds : ℕ) (opening now : Stand) (state : m.State) (c : Command) (number : ℕ) : Type 0 where
  pub r : Reach m.State
  pub point_is : IsPoint m rounds opening now state r
  pub due : IsDue m Asks r.rest (point now state) c
  pub prompt : length r.taken < length (flat_map (λ l. l ++ 10 ∷ []) r.lines) + 65536
  pub unserved : (m.serves now.paths state c → ⊥) → IsBadNext m rounds opening now state number

command_at : (m : Meaning) (rounds : ℕ) (opening now : Stand) (state : m.State) (c : Command) (number : ℕ) (n : IsCommandNext m rounds opening now state c number) → IsAtCommand m opening n.r c
command_at m rounds opening now state c number n = record { due = subst (λ p. IsDue m Asks n.r.rest p c) (sym n.point_is.done.ends) n.due; prompt = n.prompt }

damage_at : (m : Meaning) (rounds : ℕ) (opening now : Stand) (state : m.State) (c : Command) (number : ℕ) (found : Refusal) (n : IsCommandNext m rounds opening now state c number)
    → m.damages (point now state) c found → IsAtDamage m opening n.r found
damage_at m rounds opening now state c number found n h =
    (c, command_at m rounds opening now state c number n, subst (λ p. m.damages p c found) (sym n.point_is.done.ends) h)

-- a front of what is to be sent for it
fronts_text : (m : Meaning) (rounds : ℕ) (opening now new : Stand) (state : m.State) (c : Command) (number : ℕ) (front back bytes : List ℕ) (n : IsCommandNext m rounds opening now state c number)
    → front ++ back ≡ bytes → IsTextFor m Sent c number state now bytes → Sends now new front → EndsAs m rounds OutputFault opening new
fronts_text m rounds opening now new state c number front back bytes n e (sending.reply answer after sent takes) s =
    let t : Turn m.State = record { command = c; answer = answer; point = after } in
    (n.r, front, back, _, e, reply t (command_at m rounds opening now state c number n) (subst (λ p. m.takes p t) (sym n.point_is.done.ends) takes), point_reached m rounds opening now new state n.r front n.point_is s)
fronts_text m rounds opening now new state c number front back bytes n e (sending.bad_line u) s =
    let b = n.unserved u in
    (b.r, front, back, _, e, next_bad m opening b.r number b.bad b.number_is, point_reached m rounds opening now new state b.r front b.point_is s)
fronts_text m rounds opening now new state c number front back bytes n e sending.fault s =
    (n.r, front, back, _, e, fault c (command_at m rounds opening now state c number n), point_reached m rounds opening now new state n.r front n.point_is s)
fronts_text m rounds opening now new state c number front back bytes n e (sending.damage found h) s =
    (n.r, front, back, _, e, damage found (damage_at m rounds opening now state c number found n h), point_reached m rounds opening now new state n.r front n.point_is s)

-- the run ends at it
ends_command : (m : Meaning) (rounds : ℕ) (opening now new : Stand) (state : m.State) (c : Command) (number : ℕ) (end : End) → IsCommandNext m rounds opening now state c number
    → StopsAtCommand m Sent c number state now new end → EndsAs m rounds end opening new
ends_command m rounds opening now new state c number OutputFault n s = fronts_text m rounds opening now new state c number s.0 s.1 s.2 n s.3 s.4 s.5
ends_command m rounds opening now new state c number DiskFault n s =
    (n.r, c, point_reached m rounds opening now new state n.r _ n.point_is s, command_at m rounds opening now state c number n)
ends_command m rounds opening now new state c number BadLine n s = tells_bad m rounds opening now new state number (n.unserved s.0) s.1
ends_command m rounds opening now new state c number Damaged n s =
    (n.r, s.0, point_reached m rounds opening now new state n.r _ n.point_is s.2, damage_at m rounds opening now state c number s.0 n s.1)
ends_command m rounds opening now new state c number NoMemory n s = (n.r, point_reached m rounds opening now new state n.r [] n.point_is s)
ends_command m rounds opening now new state c number Answered n s = absurd s
ends_command m rounds opening now new state c number BadWords n s = absurd s
ends_command m rounds opening now new state c number InputFault n s = absurd s
ends_command m rounds opening now new state c number AttachFault n s = absurd s
ends_command m rounds opening now new state c number InputLimit n s = absurd s

-- less than a piece behind the line is less than one behind all lines to it
prompt_on : (lines : List (List ℕ)) (line : List ℕ) (taken : ℕ) → taken < bytes_to lines line + 65536 → taken < length (flat_map (λ l. l ++ 10 ∷ []) (lines ++ line ∷ [])) + 65536
prompt_on lines line taken p =
    let all = flat_map (λ (l : List ℕ). l ++ 10 ∷ []) lines in
    let last = line ++ 10 ∷ [] in
    let e = ap length (flat_map-append (λ (l : List ℕ). l ++ 10 ∷ []) lines (line ∷ [])) in
    let a = length-append all (last ++ []) in
    let b = length-append last [] in
    let d = length-append line (10 ∷ []) in
    omega arith

-- the command of the next line
line_command : (m : Meaning) (rounds : ℕ) (opening now : Stand) (state : m.State) (line : List ℕ) (number : ℕ) (c : Command) → IsNext m rounds opening now state line number → Asks line c → IsCommandNext m rounds opening now state c number
line_command m rounds opening now state line number c d a = record {
  r = reach_on m rounds d;
  point_is = on_point m rounds opening now state line number d;
  due = a;
  prompt = prompt_on d.lines line (length d.taken) d.prompt;
  unserved = λ u. bad_next m rounds opening now state line number d (inr (c, a, u));
}

-- a step within the rounds behind it
step_command : (m : Meaning) (rounds : ℕ) (opening now mid : Stand) (state after : m.State) (line : List ℕ) (number : ℕ) (end : End) (new : Stand) → IsNext m rounds opening now state line number
    → DoesItems (List ℕ) m Asks Sent (Given line ∷ []) state after now mid → (s : StopsWithin (List ℕ) m Asks Sent (rounds_of rounds) number after mid new end) → IsCommandNext m rounds opening s.mid s.state s.command number
step_command m rounds opening now mid state after line number end new d h s =
    let all = does_both (List ℕ) m Asks Sent (Given line ∷ []) s.front state after s.state now mid s.mid h s.does in
    record {
      r = reach_within m rounds d (Given line ∷ s.front) s.rest all.turns;
      point_is = within_point m rounds opening now s.mid state s.state line number (Given line ∷ s.front) s.rest d (ap (λ l. Given line ∷ l) s.split) all;
      due = s.due;
      prompt = prompt_on d.lines line (length d.taken) d.prompt;
      unserved = λ u. absurd (u s.served);
    }

same_sends : (now new : Stand) → new ≡ now → Sends now new []
same_sends now new e = record { left = ap (λ s. s.left) e; sent = ap (λ s. s.sent) e ∙ sym (append-nil now.sent) }

ends_outside : (m : Meaning) (rounds : ℕ) (opening now new : Stand) (state : m.State) (number : ℕ) (end : End) → IsBadNext m rounds opening now state number
    → Tells BadLine (last_line (text.BadLine number)) end now new → EndsAs m rounds end opening new
ends_outside m rounds opening now new state number end b (wholly is s) = subst (λ e. EndsAs m rounds e opening new) (sym is) (tells_bad m rounds opening now new state number b s)
ends_outside m rounds opening now new state number end b (partly p) = ends_partly m rounds opening now new state b.r _ end b.point_is (next_bad m opening b.r number b.bad b.number_is) p

-- the run ends at the next line
pub ends_line : (m : Meaning) (rounds : ℕ) (opening now new : Stand) (state : m.State) (line : List ℕ) (number : ℕ) (end : End) → IsNext m rounds opening now state line number → StopsAtLine m rounds line number state now new end → EndsAs m rounds end opening new
ends_line m rounds opening now new state line number end d (outside none t) = ends_outside m rounds opening now new state number end (bad_next m rounds opening now state line number d (inl none)) t
ends_line m rounds opening now new state line number end d (quit is e same) =
    subst (λ x. EndsAs m rounds x opening new) (sym e)
    (reach_before m rounds d, point_reached m rounds opening now new state _ [] (before_point m rounds opening now state line number d) (same_sends now new same), inr (line, record { answered = refl; after = d.more; next = refl }, is, d.prompt))
ends_line m rounds opening now new state line number end d (command c a s) = ends_command m rounds opening now new state c number end (line_command m rounds opening now state line number c d a) s
ends_line m rounds opening now new state line number end d (within after mid h s) =
    ends_command m rounds opening s.mid new s.state s.command number end (step_command m rounds opening now mid state after line number end new d h s) s.stops
ends_line m rounds opening now new state line number end d (memory e same) =
    subst (λ x. EndsAs m rounds x opening new) (sym e)
    (reach_before m rounds d, point_reached m rounds opening now new state _ [] (before_point m rounds opening now state line number d) (same_sends now new same))

-- it ends at a line that has become too long
pub ends_long : (m : Meaning) (rounds : ℕ) (opening now new : Stand) (state : m.State) (count : ℕ) (end : End) → IsLong m rounds opening now state count → Tells BadLine (last_line (text.BadLine (count + 1))) end now new → EndsAs m rounds end opening new
ends_long m rounds opening now new state count end l t =
    ends_line m rounds opening now new state l.line (count + 1) end l.due (outside (λ c (is : IsLine l.line c). let s = is.short in let k = l.long in absurd (omega arith)) t)

-- between two pieces, with all that was taken
abbrev reach_at : (m : Meaning) (rounds : ℕ) {opening now : Stand} {state : m.State} {rest line : List ℕ} {count taken : ℕ} → IsAt m rounds opening now state rest line count taken → Reach m.State
reach_at m rounds {now = now} {rest = rest} {line = line} a =
    record { lines = a.lines; more = lines_of (line ++ (rest ++ now.left)); front = agenda rounds a.lines; rest = []; turns = a.turns; taken = a.bytes ++ rest }

at_reached : (m : Meaning) (rounds : ℕ) (opening now new : Stand) (state : m.State) (rest line : List ℕ) (count taken : ℕ) (bytes : List ℕ) (a : IsAt m rounds opening now state rest line count taken) → Sends now new bytes → HasReached m rounds opening new (reach_at m rounds a) bytes
at_reached m rounds opening now new state rest line count taken bytes a s = record {
  begins = ap lines_of a.input ∙ a.split (rest ++ now.left);
  due = sym (append-nil (agenda rounds a.lines));
  plays = a.done.plays;
  run = a.done.run;
  input = a.input ∙ (sym (append_assoc a.bytes rest now.left) ∙ ap (λ l. (a.bytes ++ rest) ++ l) (sym s.left));
  most = let b = length-append a.bytes rest in let t = a.taken_is in let k = a.most in omega arith;
  sent = sent_with opening now new a.turns bytes a.done.sent s.sent;
}

at_between : (m : Meaning) (rounds : ℕ) (opening now : Stand) (state : m.State) (line : List ℕ) (count taken : ℕ) (a : IsAt m rounds opening now state [] line count taken) → IsBetween (reach_at m rounds a)
at_between m rounds opening now state line count taken a =
    record { answered = refl; line = line; whole = append-nil a.bytes ∙ a.whole; is_open = a.is_open; short = a.short }

pub ends_front : (m : Meaning) (rounds : ℕ) (opening now new : Stand) (state : m.State) (rest line : List ℕ) (count taken : ℕ) → IsAt m rounds opening now state rest line count taken → new ≡ now → EndsAs m rounds NoMemory opening new
ends_front m rounds opening now new state rest line count taken a e = (reach_at m rounds a, at_reached m rounds opening now new state rest line count taken [] a (same_sends now new e))

pub ends_taken : (m : Meaning) (rounds : ℕ) (opening now new : Stand) (state : m.State) (line : List ℕ) (count taken : ℕ) → IsAt m rounds opening now state [] line count taken → new ≡ now → EndsAs m rounds InputFault opening new
ends_taken m rounds opening now new state line count taken a e =
    (reach_at m rounds a, at_reached m rounds opening now new state [] line count taken [] a (same_sends now new e), at_between m rounds opening now state line count taken a)

limit_at : (m : Meaning) (rounds : ℕ) (opening now : Stand) (state : m.State) (line : List ℕ) (count taken : ℕ) (a : IsAt m rounds opening now state [] line count taken) → taken ≡ 2 ^ 32 → length (reach_at m rounds a).taken ≡ 2 ^ 32
limit_at m rounds opening now state line count taken a e = ap length (append-nil a.bytes) ∙ (let t = a.taken_is in omega arith)

-- too much was taken
pub ends_limit : (m : Meaning) (rounds : ℕ) (opening now new : Stand) (state : m.State) (line : List ℕ) (count taken : ℕ) (end : End)
    → IsAt m rounds opening now state [] line count taken → taken ≡ 2 ^ 32 → Tells InputLimit (last_line text.InputLimit) end now new → EndsAs m rounds end opening new
ends_limit m rounds opening now new state line count taken end a e (wholly is s) =
    subst (λ x. EndsAs m rounds x opening new) (sym is)
    (reach_at m rounds a, at_reached m rounds opening now new state [] line count taken _ a s, (limit_at m rounds opening now state line count taken a e, at_between m rounds opening now state line count taken a))
ends_limit m rounds opening now new state line count taken OutputFault a e (partly p) =
    (reach_at m rounds a, p.0, p.1, last_line text.InputLimit, p.2, limit (limit_at m rounds opening now state line count taken a e, at_between m rounds opening now state line count taken a), at_reached m rounds opening now new state [] line count taken p.0 a p.3)
ends_limit m rounds opening now new state line count taken NoMemory a e (partly p) = (reach_at m rounds a, at_reached m rounds opening now new state [] line count taken [] a p)
ends_limit m rounds opening now new state line count taken Answered a e (partly p) = absurd p
ends_limit m rounds opening now new state line count taken BadWords a e (partly p) = absurd p
ends_limit m rounds opening now new state line count taken InputFault a e (partly p) = absurd p
ends_limit m rounds opening now new state line count taken DiskFault a e (partly p) = absurd p
ends_limit m rounds opening now new state line count taken BadLine a e (partly p) = absurd p
ends_limit m rounds opening now new state line count taken Damaged a e (partly p) = absurd p
ends_limit m rounds opening now new state line count taken AttachFault a e (partly p) = absurd p
ends_limit m rounds opening now new state line count taken InputLimit a e (partly p) = absurd p

-- the input has ended, with no bytes behind the last line feed
pub done_whole : (m : Meaning) (rounds : ℕ) (opening now new : Stand) (state : m.State) (count taken : ℕ) → IsAt m rounds opening now state [] [] count taken → now.left ≡ [] → taken < 2 ^ 32 → new ≡ now → IsDone m rounds opening new
done_whole m rounds opening now new state count taken a e lt same = (
  reach_at m rounds a,
  at_reached m rounds opening now new state [] [] count taken [] a (same_sends now new same),
  inl (record { answered = refl; none = ap lines_of e; left = ap (λ s. s.left) same ∙ e; most = let b = ap length (append-nil a.bytes) in let t = a.taken_is in omega arith }),
)

-- or with a last line, which is answered
pub done_last : (m : Meaning) (rounds : ℕ) (opening now new : Stand) (before after : m.State) (b : ℕ) (line : List ℕ) (count taken : ℕ)
    → IsAt m rounds opening now before [] (b ∷ line) count taken → now.left ≡ [] → taken < 2 ^ 32 → AnswersLine m rounds (b ∷ line) before after now new → IsDone m rounds opening new
done_last m rounds opening now new before after b line count taken a e lt l =
    let h = answered_more m rounds opening now new before after a.lines a.turns (b ∷ line) a.done l in
    let all = a.lines ++ (b ∷ line) ∷ [] in
    let r : Reach m.State = record { lines = all; more = []; front = agenda rounds all; rest = []; turns = a.turns ++ l.turns; taken = a.bytes } in (
      r,
      record {
        begins = last_front m rounds opening now before b line count taken a e ∙ sym (append-nil all);
        due = sym (append-nil (agenda rounds all));
        plays = h.plays;
        run = h.run;
        input = a.input ∙ ap (λ x. a.bytes ++ x) (sym l.sends.left);
        most = let t = a.taken_is in let k = a.most in omega arith;
        sent = h.sent ∙ ap (λ t. opening.sent ++ t) (sym (append-nil _));
      },
      inl (record { answered = refl; none = refl; left = l.sends.left ∙ e; most = let t = a.taken_is in omega arith }),
    )

pub finish_empty : (m : Meaning) (rounds : ℕ) (opening now : Stand) (state : m.State) (line : List ℕ) (count taken : ℕ) → length line ≡ 0 → IsAt m rounds opening now state [] line count taken → now.left ≡ [] → taken < 2 ^ 32 → IsDone m rounds opening now
finish_empty m rounds opening now state [] count taken z a e lt = done_whole m rounds opening now now state count taken a e lt refl
finish_empty m rounds opening now state (b ∷ line) count taken z a e lt = absurd (omega arith)

pub finish_done : (m : Meaning) (rounds : ℕ) (opening now new : Stand) (before after : m.State) (line : List ℕ) (count taken : ℕ) → length line ≢ 0 → IsAt m rounds opening now before [] line count taken → now.left ≡ [] → taken < 2 ^ 32
    → AnswersLine m rounds line before after now new → IsDone m rounds opening new
finish_done m rounds opening now new before after [] count taken z a e lt l = absurd (z refl)
finish_done m rounds opening now new before after (b ∷ line) count taken z a e lt l = done_last m rounds opening now new before after b line count taken a e lt l

pub finish_ends : (m : Meaning) (rounds : ℕ) (opening now new : Stand) (state : m.State) (line : List ℕ) (count taken : ℕ) (end : End) → length line ≢ 0 → IsAt m rounds opening now state [] line count taken → now.left ≡ []
    → StopsAtLine m rounds line (count + 1) state now new end → EndsAs m rounds end opening new
finish_ends m rounds opening now new state [] count taken end z a e s = absurd (z refl)
finish_ends m rounds opening now new state (b ∷ line) count taken end z a e s = ends_line m rounds opening now new state (b ∷ line) (count + 1) end (due_last m rounds opening now state b line count taken a e) s

-- the bytes that are left of a piece are too many, or there is no memory for them
pub ends_rest : (m : Meaning) (rounds : ℕ) (opening now new : Stand) (state : m.State) (rest line : List ℕ) (count taken : ℕ) (end : End) → IsAt m rounds opening now state rest line count taken → IsOpenLine rest
    → StopsAtRest (line ++ rest) (count + 1) now new end → EndsAs m rounds end opening new
ends_rest m rounds opening now new state rest line count taken end a k (long l t) = ends_long m rounds opening now new state count end (due_long m rounds opening now state rest line count taken a k l) t
ends_rest m rounds opening now new state rest line count taken end a k (full e same) = subst (λ x. EndsAs m rounds x opening new) (sym e) (ends_front m rounds opening now new state rest line count taken a same)

pub ends_part : (m : Meaning) (rounds : ℕ) (opening now new : Stand) (state : m.State) (rest line part more : List ℕ) (count taken : ℕ) (end : End) → IsAt m rounds opening now state rest line count taken → rest ≡ part ++ 10 ∷ more → IsOpenLine part
    → StopsAtLine m rounds (line ++ part) (count + 1) state now new end → EndsAs m rounds end opening new
ends_part m rounds opening now new state rest line part more count taken end a e k s =
    ends_line m rounds opening now new state (line ++ part) (count + 1) end (due_line m rounds opening now state rest line part more count taken a e k) s
