-- How a run goes on.
use Rattle.std.proofs.Common.{min, take, length-take-le, add-zero, ◌≡◌, ◌≢◌, ℕ, ◌==◌, false, List, [], ◌∷◌, ◌++◌, length, ◌+◌, ◌-◌, ◌≤◌, ◌<◌, ◌^◌, refl, sym, ap, subst, ◌∙◌, append_assoc, inl, inr, arith, length-append}
use Rattle.std.specs.List.{flat_map}
use Rattle.std.proofs.lemmas.List.Concat.{flat_map-append}
use Rattle.std.proofs.lemmas.Bool.Decides.{eqb_tells}
use Rattle.std.proofs.lemmas.List.{append-nil, length-take}
use Rattle.zr_shelf.specs.Disks.{Stand, taken_to}
use Rattle.zr_script.specs.Lines.{lines_of, before_lines}
use Rattle.zr_command.specs.Meanings.{Meaning, Disks, disks_of, Run, beginning}
use Rattle.zr_model.specs.Runs.{Turn, point, end_of, texts, Asks, bytes_to}
use Rattle.zr_session.specs.Agenda.{Item, Given, rounds_of, agenda, Plays}
use Rattle.zr_session.specs.Answers.{IsOpenLine}
use Rattle.zr_session.specs.declared.replies.Replies.TheVariants.{Sent}
use Rattle.zr_session.specs.Lines.{StandsForOne, DoesItems, AnswersLine}
use Rattle.zr_session.specs.Progress.{HasDone, IsAt, IsNext, StandsAt}
use Rattle.zr_session.proofs.Playing.{plays_both, run_both, end_both, told_both, agenda_more}

-- items more are done
pub done_more : (meaning : Meaning) (opening old new : Stand) (before after : meaning.State) (items more : List (Item (List ℕ))) (turns : List (Turn meaning.State))
    → HasDone meaning opening old before items turns → (d : DoesItems (List ℕ) meaning Asks Sent more before after old new) → HasDone meaning opening new after (items ++ more) (turns ++ d.turns)
done_more meaning opening old new before after items more turns h d = record {
  plays = plays_both (List ℕ) meaning Asks items more (beginning meaning opening) turns d.turns h.plays (subst (λ p. Plays meaning Asks more p d.turns) (sym h.ends) d.plays);
  run = run_both meaning (beginning meaning opening) turns d.turns h.run (subst (λ p. Run meaning p d.turns) (sym h.ends) d.run);
  ends = end_both (beginning meaning opening) turns d.turns ∙ (ap (λ p. end_of p d.turns) h.ends ∙ d.ends);
  sent = d.sends.sent ∙ (ap (λ s. s ++ texts d.turns) h.sent ∙ (append_assoc opening.sent (texts turns) (texts d.turns) ∙ ap (λ s. opening.sent ++ s) (sym (told_both Sent turns d.turns))));
}

-- one line more is answered
pub answered_more : (meaning : Meaning) (rounds : ℕ) (opening old new : Stand) (before after : meaning.State) (lines : List (List ℕ)) (turns : List (Turn meaning.State)) (line : List ℕ)
    → HasDone meaning opening old before (agenda rounds lines) turns → (a : AnswersLine meaning rounds line before after old new)
    → HasDone meaning opening new after (agenda rounds (lines ++ line ∷ [])) (turns ++ a.turns)
answered_more meaning rounds opening old new before after lines turns line h a =
    subst (λ items. HasDone meaning opening new after items (turns ++ a.turns)) (sym (agenda_more (List ℕ) rounds lines line))
    (done_more meaning opening old new before after (agenda rounds lines) (Given line ∷ rounds_of rounds) turns h a)

no_feed : (b : ℕ) → b ≢ 10 → (b == 10) ≡ false
no_feed b n = elim (eqb_tells b 10) [ inl p ↦ absurd (n p.1) | inr p ↦ p.0 ]

-- a line feed ends an open line
pub lines_ended : (line more : List ℕ) → IsOpenLine line → lines_of (line ++ 10 ∷ more) ≡ line ∷ lines_of more
lines_ended [] more h = refl
lines_ended (b ∷ line) more h = rw (no_feed b h.0) (ap (before_lines b) (lines_ended line more h.1))

pub lines_last : (b : ℕ) (line : List ℕ) → IsOpenLine (b ∷ line) → lines_of (b ∷ line) ≡ (b ∷ line) ∷ []
lines_last b [] h = rw (no_feed b h.0) refl
lines_last b (c ∷ line) h = rw (no_feed b h.0) (ap (before_lines b) (lines_last c line h.1))

-- an open line that is not empty is the front of the first line
pub record BeginsWith (line : List ℕ) (lines : List (List ℕ)) : Type 0 where
  pub back : List ℕ
  pub more : List (List ℕ)
  pub is : lines ≡ (line ++ back) ∷ more

begins_by : (b : ℕ) (line : List ℕ) (lines : List (List ℕ)) → BeginsWith line lines → BeginsWith (b ∷ line) (before_lines b lines)
begins_by b line lines h = record { back = h.back; more = h.more; is = ap (before_lines b) h.is }

begins_first : (b : ℕ) (lines : List (List ℕ)) → BeginsWith (b ∷ []) (before_lines b lines)
begins_first b [] = record { back = []; more = []; is = refl }
begins_first b (l ∷ lines) = record { back = l; more = lines; is = refl }

pub lines_begin : (b : ℕ) (line more : List ℕ) → IsOpenLine (b ∷ line) → BeginsWith (b ∷ line) (lines_of (b ∷ line ++ more))
lines_begin b [] more h = rw (no_feed b h.0) (begins_first b (lines_of more))
lines_begin b (c ∷ line) more h = rw (no_feed b h.0) (begins_by b (c ∷ line) _ (lines_begin c line more h.1))

pub open_both : (line part : List ℕ) → IsOpenLine line → IsOpenLine part → IsOpenLine (line ++ part)
open_both [] part h k = k
open_both (b ∷ line) part h k = (h.0, open_both line part h.1 k)

-- nothing is taken yet
pub at_start : (meaning : Meaning) (rounds : ℕ) (opening : Stand) → IsAt meaning rounds opening opening (meaning.none (disks_of opening)) [] [] 0 0
at_start meaning rounds opening = record {
  lines = [];
  turns = [];
  bytes = [];
  done = record { plays = refl; run = tt; ends = refl; sent = sym (append-nil opening.sent) };
  input = refl;
  whole = refl;
  split = λ more. refl;
  is_open = tt;
  short = omega arith;
  count_is = refl;
  taken_is = refl;
  piece = omega arith;
  most = omega arith;
}

-- a piece is taken
pub at_taken : (meaning : Meaning) (rounds : ℕ) (opening old new : Stand) (state : meaning.State) (piece left line : List ℕ) (count taken : ℕ)
    → IsAt meaning rounds opening old state [] line count taken → old.left ≡ piece ++ left → new ≡ taken_to old left → taken + length piece ≤ 2 ^ 32 → length piece ≤ 65536
    → IsAt meaning rounds opening new state piece line count (taken + length piece)
at_taken meaning rounds opening old new state piece left line count taken a e n m f = record {
  lines = a.lines;
  turns = a.turns;
  bytes = a.bytes;
  done = record {
    plays = a.done.plays;
    run = a.done.run;
    ends = a.done.ends ∙ ap (λ s. point s state) (sym n);
    sent = ap (λ s. s.sent) n ∙ a.done.sent;
  };
  input = a.input ∙ ap (λ l. a.bytes ++ l) (e ∙ ap (λ s. piece ++ s.left) (sym n));
  whole = a.whole;
  split = a.split;
  is_open = a.is_open;
  short = a.short;
  count_is = a.count_is;
  taken_is = let t = a.taken_is in omega arith;
  piece = f;
  most = m;
}

line_split : (bytes line part more : List ℕ) (lines : List (List ℕ)) → ((xs : List ℕ) → lines_of (bytes ++ xs) ≡ lines ++ lines_of (line ++ xs)) → IsOpenLine line → IsOpenLine part
    → lines_of (bytes ++ (part ++ 10 ∷ more)) ≡ lines ++ (line ++ part) ∷ lines_of more
line_split bytes line part more lines s h k =
    s (part ++ 10 ∷ more) ∙ ap (λ l. lines ++ l) (ap lines_of (sym (append_assoc line part (10 ∷ more))) ∙ lines_ended (line ++ part) more (open_both line part h k))

ended_bytes : (bytes part more : List ℕ) → (bytes ++ (part ++ 10 ∷ [])) ++ more ≡ bytes ++ (part ++ 10 ∷ more)
ended_bytes bytes part more = append_assoc bytes (part ++ 10 ∷ []) more ∙ ap (λ x. bytes ++ x) (append_assoc part (10 ∷ []) more)

ended_whole : (lines : List (List ℕ)) (bytes line part : List ℕ) → bytes ≡ flat_map (λ l. l ++ 10 ∷ []) lines ++ line
    → bytes ++ (part ++ 10 ∷ []) ≡ flat_map (λ l. l ++ 10 ∷ []) (lines ++ (line ++ part) ∷ []) ++ []
ended_whole lines bytes line part e =
    let all = flat_map (λ l. l ++ 10 ∷ []) lines in
    ap (λ b. b ++ (part ++ 10 ∷ [])) e
    ∙ (append_assoc all line (part ++ 10 ∷ [])
    ∙ (ap (λ x. all ++ x) (sym (append_assoc line part (10 ∷ [])) ∙ sym (append-nil ((line ++ part) ++ 10 ∷ [])))
    ∙ (sym (flat_map-append (λ l. l ++ 10 ∷ []) lines ((line ++ part) ∷ [])) ∙ sym (append-nil _))))

ended_length : (bytes part more rest : List ℕ) (taken : ℕ) → rest ≡ part ++ 10 ∷ more → length bytes + length rest ≡ taken → length (bytes ++ (part ++ 10 ∷ [])) + length more ≡ taken
ended_length bytes part more rest taken e t =
    let r = ap length e ∙ length-append part (10 ∷ more) in
    let b = length-append bytes (part ++ 10 ∷ []) in
    let p = length-append part (10 ∷ []) in
    omega arith

-- the line that a line feed ends within a piece is answered
pub at_line : (meaning : Meaning) (rounds : ℕ) (opening old new : Stand) (before after : meaning.State) (rest line part more : List ℕ) (count taken : ℕ)
    → IsAt meaning rounds opening old before rest line count taken → rest ≡ part ++ 10 ∷ more → IsOpenLine part → AnswersLine meaning rounds (line ++ part) before after old new
    → IsAt meaning rounds opening new after more [] (count + 1) taken
at_line meaning rounds opening old new before after rest line part more count taken a e k l = record {
  lines = a.lines ++ (line ++ part) ∷ [];
  turns = a.turns ++ l.turns;
  bytes = a.bytes ++ (part ++ 10 ∷ []);
  done = answered_more meaning rounds opening old new before after a.lines a.turns (line ++ part) a.done l;
  input = a.input ∙ (ap (λ r. a.bytes ++ (r ++ old.left)) e ∙ (ap (λ x. a.bytes ++ x) (append_assoc part (10 ∷ more) old.left)
      ∙ (sym (ended_bytes a.bytes part (more ++ old.left)) ∙ ap (λ x. (a.bytes ++ (part ++ 10 ∷ [])) ++ (more ++ x)) (sym l.sends.left))));
  whole = ended_whole a.lines a.bytes line part a.whole;
  split = λ xs. ap lines_of (ended_bytes a.bytes part xs) ∙ (line_split a.bytes line part xs a.lines a.split a.is_open k ∙ sym (append_assoc a.lines ((line ++ part) ∷ []) (lines_of xs)));
  is_open = tt;
  short = omega arith;
  count_is = length-append a.lines ((line ++ part) ∷ []) ∙ ap (λ n. n + 1) a.count_is;
  taken_is = ended_length a.bytes part more rest taken e a.taken_is;
  piece = let r = ap length e ∙ length-append part (10 ∷ more) in let f = a.piece in omega arith;
  most = a.most;
}

-- what no line feed ends is carried over
pub at_kept : (meaning : Meaning) (rounds : ℕ) (opening now : Stand) (state : meaning.State) (rest line new : List ℕ) (count taken : ℕ)
    → IsAt meaning rounds opening now state rest line count taken → IsOpenLine rest → new ≡ line ++ rest → length new ≤ 16384 → IsAt meaning rounds opening now state [] new count taken
at_kept meaning rounds opening now state rest line new count taken a k e s = record {
  lines = a.lines;
  turns = a.turns;
  bytes = a.bytes ++ rest;
  done = a.done;
  input = a.input ∙ sym (append_assoc a.bytes rest now.left);
  whole = ap (λ b. b ++ rest) a.whole ∙ (append_assoc (flat_map (λ l. l ++ 10 ∷ []) a.lines) line rest ∙ ap (λ x. flat_map (λ l. l ++ 10 ∷ []) a.lines ++ x) (sym e));
  split = λ xs. ap lines_of (append_assoc a.bytes rest xs) ∙ (a.split (rest ++ xs) ∙ ap (λ x. a.lines ++ lines_of x) (sym (append_assoc line rest xs) ∙ ap (λ x. x ++ xs) (sym e)));
  is_open = subst IsOpenLine (sym e) (open_both line rest a.is_open k);
  short = s;
  count_is = a.count_is;
  taken_is = let b = length-append a.bytes rest in let t = a.taken_is in omega arith;
  piece = omega arith;
  most = a.most;
}

-- fewer than a piece behind the line
prompt_as : (all line part rest : ℕ) → line ≤ 16384 → rest ≤ 65536 → all + line + rest < all + min (line + part + 1) 16385 + 65536
prompt_as all line part rest l r = omega arith

pub taken_prompt : (lines : List (List ℕ)) (bytes rest line next : List ℕ) (more : ℕ) → bytes ≡ flat_map (λ l. l ++ 10 ∷ []) lines ++ line → length line ≤ 16384 → length rest ≤ 65536
    → length next ≡ length line + more → length (bytes ++ rest) < bytes_to lines next + 65536
taken_prompt lines bytes rest line next more w l r n =
    let b = ap length w ∙ length-append (flat_map (λ l. l ++ 10 ∷ []) lines) line in
    let t = length-append bytes rest in
    let p = prompt_as (length (flat_map (λ l. l ++ 10 ∷ []) lines)) (length line) more (length rest) l r in
    omega arith

-- the line that a line feed ends is the next
pub due_line : (meaning : Meaning) (rounds : ℕ) (opening now : Stand) (state : meaning.State) (rest line part more : List ℕ) (count taken : ℕ)
    → IsAt meaning rounds opening now state rest line count taken → rest ≡ part ++ 10 ∷ more → IsOpenLine part → IsNext meaning rounds opening now state (line ++ part) (count + 1)
due_line meaning rounds opening now state rest line part more count taken a e k = record {
  lines = a.lines;
  more = lines_of (more ++ now.left);
  turns = a.turns;
  taken = a.bytes ++ rest;
  done = a.done;
  input = a.input ∙ sym (append_assoc a.bytes rest now.left);
  most = let b = length-append a.bytes rest in let t = a.taken_is in let m = a.most in omega arith;
  front = ap lines_of (a.input ∙ ap (λ r. a.bytes ++ r) (ap (λ r. r ++ now.left) e ∙ append_assoc part (10 ∷ more) now.left))
      ∙ line_split a.bytes line part (more ++ now.left) a.lines a.split a.is_open k;
  number_is = ap (λ n. n + 1) (sym a.count_is);
  prompt = taken_prompt a.lines a.bytes rest line (line ++ part) (length part) a.whole a.short a.piece (length-append line part);
}

pub last_front : (meaning : Meaning) (rounds : ℕ) (opening now : Stand) (state : meaning.State) (b : ℕ) (line : List ℕ) (count taken : ℕ)
    → (a : IsAt meaning rounds opening now state [] (b ∷ line) count taken) → now.left ≡ [] → lines_of opening.left ≡ a.lines ++ (b ∷ line) ∷ []
last_front meaning rounds opening now state b line count taken a e =
    ap lines_of (a.input ∙ ap (λ l. a.bytes ++ l) e) ∙ (a.split [] ∙ ap (λ l. a.lines ++ l) (ap lines_of (append-nil (b ∷ line)) ∙ lines_last b line a.is_open))

-- the last line, which no line feed ends
pub due_last : (meaning : Meaning) (rounds : ℕ) (opening now : Stand) (state : meaning.State) (b : ℕ) (line : List ℕ) (count taken : ℕ)
    → IsAt meaning rounds opening now state [] (b ∷ line) count taken → now.left ≡ [] → IsNext meaning rounds opening now state (b ∷ line) (count + 1)
due_last meaning rounds opening now state b line count taken a e = record {
  lines = a.lines;
  more = [];
  turns = a.turns;
  taken = a.bytes;
  done = a.done;
  input = a.input;
  most = let t = a.taken_is in let m = a.most in omega arith;
  front = last_front meaning rounds opening now state b line count taken a e;
  number_is = ap (λ n. n + 1) (sym a.count_is);
  prompt = let p = taken_prompt a.lines a.bytes [] (b ∷ line) (b ∷ line) 0 a.whole a.short a.piece (omega arith) in let n = ap length (append-nil a.bytes) in omega arith;
}

-- a line that has become too long is the front of the next
pub record IsLong (meaning : Meaning) (rounds : ℕ) (opening now : Stand) (state : meaning.State) (count : ℕ) : Type 0 where
  pub line : List ℕ
  pub due : IsNext meaning rounds opening now state line (count + 1)
  pub long : 16384 < length line

long_due : (meaning : Meaning) (rounds : ℕ) (opening now : Stand) (state : meaning.State) (rest line : List ℕ) (count taken : ℕ)
    → IsAt meaning rounds opening now state rest line count taken → 16384 < length (line ++ rest) → BeginsWith (line ++ rest) (lines_of ((line ++ rest) ++ now.left)) → IsLong meaning rounds opening now state count
long_due meaning rounds opening now state rest line count taken a m w = record {
  line = (line ++ rest) ++ w.back;
  due = record {
    lines = a.lines;
    more = w.more;
    turns = a.turns;
    taken = a.bytes ++ rest;
    done = a.done;
    input = a.input ∙ sym (append_assoc a.bytes rest now.left);
    most = let b = length-append a.bytes rest in let t = a.taken_is in let m = a.most in omega arith;
    front = ap lines_of a.input ∙ (a.split (rest ++ now.left) ∙ ap (λ l. a.lines ++ l) (ap lines_of (sym (append_assoc line rest now.left)) ∙ w.is));
    number_is = ap (λ n. n + 1) (sym a.count_is);
    prompt = taken_prompt a.lines a.bytes rest line ((line ++ rest) ++ w.back) (length rest + length w.back) a.whole a.short a.piece (let l = length-append (line ++ rest) w.back in let k = length-append line rest in omega arith);
  };
  long = let l = length-append (line ++ rest) w.back in omega arith;
}

begins_all : (line more : List ℕ) → 16384 < length line → IsOpenLine line → BeginsWith line (lines_of (line ++ more))
begins_all [] more l h = absurd (omega arith)
begins_all (b ∷ line) more l h = lines_begin b line more h

pub due_long : (meaning : Meaning) (rounds : ℕ) (opening now : Stand) (state : meaning.State) (rest line : List ℕ) (count taken : ℕ)
    → IsAt meaning rounds opening now state rest line count taken → IsOpenLine rest → 16384 < length (line ++ rest) → IsLong meaning rounds opening now state count
due_long meaning rounds opening now state rest line count taken a k l =
    long_due meaning rounds opening now state rest line count taken a l (begins_all (line ++ rest) now.left l (open_both line rest a.is_open k))

-- the same, with the line and the count as they are kept
at_line_as : (meaning : Meaning) (rounds : ℕ) (opening old new : Stand) (before after : meaning.State) (rest line part more : List ℕ) (count taken : ℕ) (left : List ℕ) (number : ℕ)
    → IsAt meaning rounds opening old before rest line count taken → rest ≡ part ++ 10 ∷ more → IsOpenLine part → AnswersLine meaning rounds (line ++ part) before after old new → left ≡ [] → number ≡ count + 1
    → IsAt meaning rounds opening new after more left number taken
at_line_as meaning rounds opening old new before after rest line part more count taken left number a e k l empty is =
    subst (λ x. IsAt meaning rounds opening new after more x number taken) (sym empty)
    (subst (λ x. IsAt meaning rounds opening new after more [] x taken) (sym is) (at_line meaning rounds opening old new before after rest line part more count taken a e k l))

at_kept_as : (meaning : Meaning) (rounds : ℕ) (opening now new : Stand) (state : meaning.State) (rest line kept : List ℕ) (count number taken : ℕ)
    → IsAt meaning rounds opening now state rest line count taken → IsOpenLine rest → new ≡ now → kept ≡ line ++ rest → length kept ≤ 16384 → number ≡ count → IsAt meaning rounds opening new state [] kept number taken
at_kept_as meaning rounds opening now new state rest line kept count number taken a k same e s is =
    subst (λ x. IsAt meaning rounds opening x state [] kept number taken) (sym same)
    (subst (λ x. IsAt meaning rounds opening now state [] kept x taken) (sym is) (at_kept meaning rounds opening now state rest line kept count taken a k e s))

-- what a call that takes a piece did
abbrev pub TookPiece : ℕ → List ℕ → Stand → Stand → Type 0
TookPiece n out old new = (left : List ℕ) × (old.left ≡ take n out ++ left) × (new ≡ taken_to old left)

at_piece : (meaning : Meaning) (rounds : ℕ) (opening old new : Stand) (state : meaning.State) (out line : List ℕ) (n count taken : ℕ)
    → IsAt meaning rounds opening old state [] line count taken → TookPiece n out old new → n ≤ length out → taken + length out ≤ 2 ^ 32 → length out ≤ 65536 → IsAt meaning rounds opening new state (take n out) line count (taken + n)
at_piece meaning rounds opening old new state out line n count taken a t l m f =
    let e : length (take n out) ≡ n = length-take-le n out l in
    subst (λ x. IsAt meaning rounds opening new state (take n out) line count (taken + x)) e (at_taken meaning rounds opening old new state (take n out) t.0 line count taken a t.1 t.2 (let k = e in omega arith) (let k = e in omega arith))

at_end : (meaning : Meaning) (rounds : ℕ) (opening old new : Stand) (state : meaning.State) (out line : List ℕ) (n count taken : ℕ)
    → IsAt meaning rounds opening old state [] line count taken → TookPiece n out old new → n ≡ 0 → taken ≤ 2 ^ 32 → IsAt meaning rounds opening new state [] line count taken
at_end meaning rounds opening old new state out line n count taken a t z m =
    let p : take n out ≡ [] = ap (λ k. take k out) z in
    subst (λ x. IsAt meaning rounds opening new state [] line count x) (add-zero taken)
    (at_taken meaning rounds opening old new state [] t.0 line count taken a (t.1 ∙ ap (λ x. x ++ t.0) p) t.2 (let k = add-zero taken in omega arith) (omega arith))

pub left_end : (old new : Stand) (out : List ℕ) (n : ℕ) → TookPiece n out old new → n ≡ 0 → old.left ≡ [] → new.left ≡ []
left_end old new out n t z e = ap (λ s. s.left) t.2 ∙ (sym (t.1 ∙ ap (λ k. take k out ++ t.0) z) ∙ e)

-- a piece is no longer than what may still be taken
pub room_fits : {X : Type 0} (taken most : ℕ) (piece : List X) → taken < 2 ^ 32 → most ≡ min (2 ^ 32 - taken) 65536 → taken + length (take most piece) ≤ 2 ^ 32
room_fits taken most piece l e = let t = length-take most piece in omega arith

pub start_as : (meaning : Meaning) (rounds : ℕ) (stands : Disks → meaning.State → Type 0) (opening : Stand) (line : List ℕ) (count : ℕ) → ((disks : Disks) → stands disks (meaning.none disks)) → line ≡ [] → count ≡ 0
    → StandsAt meaning rounds stands opening opening [] line count 0
start_as meaning rounds stands opening line count closed l n = record {
  state = meaning.none (disks_of opening);
  stands_for = closed (disks_of opening);
  holds = subst (λ x. IsAt meaning rounds opening opening (meaning.none (disks_of opening)) [] x count 0) (sym l) (subst (λ x. IsAt meaning rounds opening opening (meaning.none (disks_of opening)) [] [] x 0) (sym n) (at_start meaning rounds opening));
}

-- the same of the state for which the pool stands
pub stands_line : (meaning : Meaning) (rounds : ℕ) (was stands : Disks → meaning.State → Type 0) (opening old new : Stand) (rest line part more : List ℕ) (count taken : ℕ) (left : List ℕ) (number : ℕ)
    → StandsAt meaning rounds was opening old rest line count taken → rest ≡ part ++ 10 ∷ more → IsOpenLine part
    → ((before : meaning.State) → was (disks_of old) before → StandsForOne stands new (λ after. AnswersLine meaning rounds (line ++ part) before after old new)) → left ≡ [] → number ≡ count + 1
    → StandsAt meaning rounds stands opening new more left number taken
stands_line meaning rounds was stands opening old new rest line part more count taken left number a e k f empty is =
    let l = f a.state a.stands_for in
    record { state = l.state; stands_for = l.stands_for; holds = at_line_as meaning rounds opening old new a.state l.state rest line part more count taken left number a.holds e k l.holds empty is }

pub stands_kept : (meaning : Meaning) (rounds : ℕ) (stands : Disks → meaning.State → Type 0) (opening now new : Stand) (rest line kept : List ℕ) (count number taken : ℕ)
    → StandsAt meaning rounds stands opening now rest line count taken → IsOpenLine rest → new ≡ now → kept ≡ line ++ rest → length kept ≤ 16384 → number ≡ count → StandsAt meaning rounds stands opening new [] kept number taken
stands_kept meaning rounds stands opening now new rest line kept count number taken a k same e s is = record {
  state = a.state;
  stands_for = subst (λ (n : Stand). stands (disks_of n) a.state) (sym same) a.stands_for;
  holds = at_kept_as meaning rounds opening now new a.state rest line kept count number taken a.holds k same e s is;
}

pub stands_piece : (meaning : Meaning) (rounds : ℕ) (stands : Disks → meaning.State → Type 0) (opening old new : Stand) (out line : List ℕ) (n count taken : ℕ)
    → StandsAt meaning rounds stands opening old [] line count taken → TookPiece n out old new → n ≤ length out → taken + length out ≤ 2 ^ 32 → length out ≤ 65536 → StandsAt meaning rounds stands opening new (take n out) line count (taken + n)
stands_piece meaning rounds stands opening old new out line n count taken a t l m f = record {
  state = a.state;
  stands_for = subst (λ (s : Stand). stands (disks_of s) a.state) (sym t.2) a.stands_for;
  holds = at_piece meaning rounds opening old new a.state out line n count taken a.holds t l m f;
}

pub stands_end : (meaning : Meaning) (rounds : ℕ) (stands : Disks → meaning.State → Type 0) (opening old new : Stand) (out line : List ℕ) (n count taken : ℕ)
    → StandsAt meaning rounds stands opening old [] line count taken → TookPiece n out old new → n ≡ 0 → taken ≤ 2 ^ 32 → StandsAt meaning rounds stands opening new [] line count taken
stands_end meaning rounds stands opening old new out line n count taken a t z m = record {
  state = a.state;
  stands_for = subst (λ (s : Stand). stands (disks_of s) a.state) (sym t.2) a.stands_for;
  holds = at_end meaning rounds opening old new a.state out line n count taken a.holds t z m;
}
