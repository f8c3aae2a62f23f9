-- How a generated run ends.
use Rattle.std.proofs.Common.{◌≡◌, ℕ, suc, List, [], ◌∷◌, ◌++◌, refl, sym, ap, subst, ◌∙◌}
use Rattle.std.proofs.lemmas.List.{append-nil}
use Rattle.zr_shelf.specs.Disks.{Stand}
use Rattle.zr_base.specs.declared.refusal.Refusal.{Refusal}
use Rattle.zr_script.specs.declared.command.Command.{Command}
use Rattle.zr_script.specs.ReplyText as text
use Rattle.zr_script.specs.ReplyText.{last_line}
use Rattle.zr_command.specs.Meanings.{Meaning, beginning, disks_of}
use Rattle.zr_model.specs.Runs.{Point, Turn, point}
use Rattle.zr_session.specs.Tally.{generated_text}
use Rattle.zr_session.specs.Agenda.{Item, IsGiven, IsDue}
use Rattle.zr_session.specs.Generated.{Task, due_in, given_answers, given_count, Stage, HasGenerated, tally_text, IsNextCommand, IsNextUnserved, IsNextDamage, unserved_text, tally, unserved, fault, damage}
use Rattle.zr_session.specs.Lines as sending
use Rattle.zr_session.specs.Lines.{told, Sends, SendsPartly, Tells, wholly, partly, IsTextFor, StopsAtCommand, DoesItems}
use Rattle.zr_session.specs.Tallied.{DoesCommands, IsAmong, StopsAmong, at_command, between}
use Rattle.zr_session.specs.Ends.{GeneratesAs}
use Rattle.zr_session.specs.declared.end.End.{End}
use Rattle.zr_session.specs.declared.end.End.TheVariants.{Answered, BadWords, InputFault, OutputFault, DiskFault, BadLine, Damaged, AttachFault, InputLimit, NoMemory}
use Rattle.zr_session.specs.declared.replies.Replies.{Replies}
use Rattle.zr_session.specs.declared.replies.Replies.TheVariants.{Sent, Kept}
use Rattle.zr_session.specs.declared.tally.Tally.{Tally}
use Rattle.zr_session.proofs.Playing.{does_none}
use Rattle.zr_session.proofs.Sending.{sends_nothing}

told_kept : {S : Type 0} (turns : List (Turn S)) → told Kept turns ≡ []
told_kept [] = refl
told_kept (t ∷ turns) = told_kept turns

is_kept : Replies → Type 0
is_kept Sent = ⊥
is_kept Kept = Unit {0}

not_sent : Kept ≡ Sent → ⊥
unfolding is_kept
not_sent e = subst (λ r. is_kept r) e tt

-- the stage behind items that are done
abbrev pub stage : {S : Type 0} → List (Item Command) → List (Item Command) → List (Turn S) → Stage S
stage front rest turns = record { front = front; rest = rest; turns = turns }

pub generated : (m : Meaning) (task : Task) (opening mid new : Stand) (state : m.State) (front rest : List (Item Command)) (bytes : List ℕ) → due_in task ≡ front ++ rest
    → (h : DoesItems Command m IsGiven Kept front (m.none (disks_of opening)) state opening mid) → Sends mid new bytes → HasGenerated m task opening new (stage front rest h.turns) bytes
generated m task opening mid new state front rest bytes e h s = record {
  due = e;
  plays = h.plays;
  run = h.run;
  left = s.left ∙ h.sends.left;
  sent = s.sent ∙ ap (λ b. b ++ bytes) (h.sends.sent ∙ (ap (λ b. opening.sent ++ b) (told_kept h.turns) ∙ append-nil opening.sent));
}

-- memory ran out before any command
pub none_generated : (m : Meaning) (task : Task) (opening : Stand) → GeneratesAs m task NoMemory opening opening
none_generated m task opening =
    let h = does_none Command m IsGiven Kept (m.none (disks_of opening)) opening in
    (stage [] (due_in task) h.turns, generated m task opening opening opening (m.none (disks_of opening)) [] (due_in task) [] refl h (sends_nothing opening opening refl))

-- ---- where all is done

pub all_done : (task : Task) → due_in task ≡ due_in task ++ []
all_done task = sym (append-nil (due_in task))

line_partly : (m : Meaning) (task : Task) (opening mid new : Stand) (state : m.State) (end : End) (h : DoesItems Command m IsGiven Kept (due_in task) (m.none (disks_of opening)) state opening mid)
    → SendsPartly (tally_text m task opening (stage (due_in task) [] h.turns)) mid new end → GeneratesAs m task end opening new
line_partly m task opening mid new state OutputFault h p =
    (stage (due_in task) [] h.turns, p.0, p.1, _, p.2, tally refl, generated m task opening mid new state (due_in task) [] p.0 (all_done task) h p.3)
line_partly m task opening mid new state NoMemory h p = (stage (due_in task) [] h.turns, generated m task opening mid new state (due_in task) [] [] (all_done task) h p)
line_partly m task opening mid new state Answered h p = absurd p
line_partly m task opening mid new state BadWords h p = absurd p
line_partly m task opening mid new state InputFault h p = absurd p
line_partly m task opening mid new state DiskFault h p = absurd p
line_partly m task opening mid new state BadLine h p = absurd p
line_partly m task opening mid new state Damaged h p = absurd p
line_partly m task opening mid new state AttachFault h p = absurd p
line_partly m task opening mid new state InputLimit h p = absurd p

-- the line is sent
pub line_sent : (m : Meaning) (task : Task) (opening mid new : Stand) (state : m.State) (tally : Tally) (bytes : List ℕ) (end : End) (d : DoesCommands m (due_in task) tally (m.none (disks_of opening)) state opening mid)
    → bytes ≡ generated_text task.number task.count (given_answers m (due_in task) (beginning m opening) d.does.turns) → Tells Answered bytes end mid new → GeneratesAs m task end opening new
line_sent m task opening mid new state counted bytes end d e (wholly is s) =
    subst (λ x. GeneratesAs m task x opening new) (sym is)
    (stage (due_in task) [] d.does.turns, generated m task opening mid new state (due_in task) [] _ (all_done task) d.does (subst (λ b. Sends mid new b) e s), refl)
line_sent m task opening mid new state counted bytes end d e (partly p) = line_partly m task opening mid new state end d.does (subst (λ b. SendsPartly b mid new end) e p)

-- nor was there memory for it
pub line_unmade : (m : Meaning) (task : Task) (opening mid : Stand) (state : m.State) (tally : Tally) → DoesCommands m (due_in task) tally (m.none (disks_of opening)) state opening mid → GeneratesAs m task NoMemory opening mid
line_unmade m task opening mid state counted d =
    (stage (due_in task) [] d.does.turns, generated m task opening mid mid state (due_in task) [] [] (all_done task) d.does (sends_nothing mid mid refl))

-- ---- where the run stops before its end

abbrev stage_of : {m : Meaning} {items : List (Item Command)} {opening : Stand} → IsAmong m items (m.none (disks_of opening)) opening → Stage m.State
stage_of a = stage a.front a.rest a.does.turns

there : (m : Meaning) (task : Task) (opening new : Stand) (bytes : List ℕ) (a : IsAmong m (due_in task) (m.none (disks_of opening)) opening) → Sends a.mid new bytes → HasGenerated m task opening new (stage_of a) bytes
there m task opening new bytes a s = generated m task opening a.mid new a.state a.front a.rest bytes a.split a.does s

next_command : (m : Meaning) (task : Task) (opening : Stand) (c : Command) (a : IsAmong m (due_in task) (m.none (disks_of opening)) opening) → IsDue m IsGiven a.rest (point a.mid a.state) c → IsNextCommand m opening (stage_of a) c
next_command m task opening c a d = subst (λ p. IsDue m IsGiven a.rest p c) (sym a.does.ends) d

next_unserved : (m : Meaning) (task : Task) (opening : Stand) (c : Command) (a : IsAmong m (due_in task) (m.none (disks_of opening)) opening) → IsDue m IsGiven a.rest (point a.mid a.state) c → (m.serves a.mid.paths a.state c → ⊥) → IsNextUnserved m opening (stage_of a)
next_unserved m task opening c a d u = (c, next_command m task opening c a d, subst (λ (p : Point m.State). m.serves p.shelf.paths p.state c → ⊥) (sym a.does.ends) u)

next_damage : (m : Meaning) (task : Task) (opening : Stand) (c : Command) (found : Refusal) (a : IsAmong m (due_in task) (m.none (disks_of opening)) opening) → IsDue m IsGiven a.rest (point a.mid a.state) c → m.damages (point a.mid a.state) c found → IsNextDamage m opening (stage_of a) found
next_damage m task opening c found a d h = (c, next_command m task opening c a d, subst (λ p. m.damages p c found) (sym a.does.ends) h)

told_number : (m : Meaning) (task : Task) (opening : Stand) (number : ℕ) (a : IsAmong m (due_in task) (m.none (disks_of opening)) opening) → number ≡ suc (given_count a.front) → last_line (text.BadLine number) ≡ unserved_text (stage_of a)
told_number m task opening number a e = ap (λ n. last_line (text.BadLine n)) e

-- a front of the text that is sent there
front_there : (m : Meaning) (task : Task) (opening new : Stand) (c : Command) (number : ℕ) (front back bytes : List ℕ) (a : IsAmong m (due_in task) (m.none (disks_of opening)) opening) → IsDue m IsGiven a.rest (point a.mid a.state) c
    → ((m.serves a.mid.paths a.state c → ⊥) → number ≡ suc (given_count a.front)) → front ++ back ≡ bytes → IsTextFor m Kept c number a.state a.mid bytes → Sends a.mid new front → GeneratesAs m task OutputFault opening new
front_there m task opening new c number front back bytes a d n e (sending.reply answer after sent takes) s = absurd (not_sent sent)
front_there m task opening new c number front back bytes a d n e (sending.bad_line u) s =
    (stage_of a, front, back, _, e ∙ told_number m task opening number a (n u), unserved (next_unserved m task opening c a d u), there m task opening new front a s)
front_there m task opening new c number front back bytes a d n e sending.fault s = (stage_of a, front, back, _, e, fault c (next_command m task opening c a d), there m task opening new front a s)
front_there m task opening new c number front back bytes a d n e (sending.damage found h) s =
    (stage_of a, front, back, _, e, damage found (next_damage m task opening c found a d h), there m task opening new front a s)

-- the run ends at a command
ends_at : (m : Meaning) (task : Task) (opening new : Stand) (c : Command) (number : ℕ) (end : End) (a : IsAmong m (due_in task) (m.none (disks_of opening)) opening) → IsDue m IsGiven a.rest (point a.mid a.state) c
    → ((m.serves a.mid.paths a.state c → ⊥) → number ≡ suc (given_count a.front)) → StopsAtCommand m Kept c number a.state a.mid new end → GeneratesAs m task end opening new
ends_at m task opening new c number OutputFault a d n s = front_there m task opening new c number s.0 s.1 s.2 a d n s.3 s.4 s.5
ends_at m task opening new c number DiskFault a d n s = (stage_of a, c, there m task opening new _ a s, next_command m task opening c a d)
ends_at m task opening new c number BadLine a d n s =
    (stage_of a, there m task opening new _ a (subst (λ b. Sends a.mid new b) (told_number m task opening number a (n s.0)) s.1), next_unserved m task opening c a d s.0)
ends_at m task opening new c number Damaged a d n s = (stage_of a, s.0, there m task opening new _ a s.2, next_damage m task opening c s.0 a d s.1)
ends_at m task opening new c number NoMemory a d n s = (stage_of a, there m task opening new [] a s)
ends_at m task opening new c number Answered a d n s = absurd s
ends_at m task opening new c number BadWords a d n s = absurd s
ends_at m task opening new c number InputFault a d n s = absurd s
ends_at m task opening new c number AttachFault a d n s = absurd s
ends_at m task opening new c number InputLimit a d n s = absurd s

pub ends_among : (m : Meaning) (task : Task) (opening new : Stand) (end : End) → StopsAmong m (due_in task) (m.none (disks_of opening)) opening new end → GeneratesAs m task end opening new
ends_among m task opening new end (at_command a c number d n s) = ends_at m task opening new c number end a d n s
ends_among m task opening new end (between a is same) =
    subst (λ x. GeneratesAs m task x opening new) (sym is) (stage_of a, there m task opening new [] a (sends_nothing a.mid new same))
