-- What was sent for a line, and why a run ends.
use Rattle.std.proofs.Common.{◌≡◌, ◌⊎◌, inl, inr, ℕ, ◌≤◌, List, [], ◌++◌, Result, Ok, Err, OnOk, IfErr, IsErrAnd, ap, sym, ◌∙◌, subst, arith}
use Rattle.std.proofs.lemmas.List.{append-nil}
use Rattle.zr_base.specs.Counts.{HasRisen}
use Rattle.zr_shelf.specs.Counts.{Counts, NoneFell}
use Rattle.zr_shelf.specs.Disks.{Stand, sent_more}
use Rattle.zr_base.specs.declared.refusal.Refusal.{Refusal}
use Rattle.zr_script.specs.declared.command.Command.{Command}
use Rattle.zr_script.specs.declared.reply.Reply.{Reply}
use Rattle.zr_script.specs.ReplyText as text
use Rattle.zr_script.specs.ReplyText.{reply_text, last_line}
use Rattle.zr_command.specs.Meanings.{Meaning, Disks, disks_of, TurnsTo}
use Rattle.zr_model.specs.Runs.{point, turn, IsOutside}
use Rattle.zr_session.specs.declared.replies.Replies.{Replies}
use Rattle.zr_session.specs.declared.end.End.{End}
use Rattle.zr_session.specs.declared.end.End.TheVariants.{Answered, BadWords, InputFault, OutputFault, DiskFault, BadLine, Damaged, AttachFault, InputLimit, NoMemory}
use Rattle.zr_session.specs.Ends.{HasCause}
use Rattle.zr_session.specs.Lines.{StandsForOne, told_for, DoesCommand, Sends, SendsPartly, SendsReplyPartly, Tells, wholly, partly, IsTextFor, reply, bad_line, fault, damage, StopsAtCommand}

pub sends_nothing : (old new : Stand) → new ≡ old → Sends old new []
sends_nothing old new e = record { left = ap (λ s. s.left) e; sent = ap (λ s. s.sent) e ∙ sym (append-nil old.sent) }

-- what was sent, where before it nothing was taken or sent
pub sends_from : (old mid new : Stand) (bytes : List ℕ) → IsOutside old mid → Sends mid new bytes → Sends old new bytes
sends_from old mid new bytes o s = record { left = s.left ∙ o.left; sent = s.sent ∙ ap (λ t. t ++ bytes) o.sent }

pub sends_all : (old mid new : Stand) (bytes : List ℕ) → IsOutside old mid → new ≡ sent_more mid bytes → Sends old new bytes
sends_all old mid new bytes o e = sends_from old mid new bytes o (record { left = ap (λ s. s.left) e; sent = ap (λ s. s.sent) e })

-- a command was answered, and the answer handed on
pub does_by : (meaning : Meaning) (stands : Disks → meaning.State → Type 0) (replies : Replies) (command : Command) (before : meaning.State) (old mid new : Stand) (answer : Reply)
    → IsOutside old mid → TurnsTo meaning stands before old command answer mid → new ≡ sent_more mid (told_for replies answer)
    → StandsForOne stands new (λ after. DoesCommand meaning replies command answer before after old new)
does_by meaning stands replies command before old mid new answer o t s = record {
  state = t.after;
  stands_for = subst (λ (n : Stand). stands (disks_of n) t.after) (sym s) t.stands_for;
  holds = record {
    takes = subst (λ n. meaning.takes (point old before) (turn command answer n t.after)) (sym s) t.takes;
    sends = sends_all old mid new (told_for replies answer) o s;
  };
}

-- what follows of the state that it stands for
pub for_one : {S : Type 0} (stands : Disks → S → Type 0) (now : Stand) (A B : S → Type 0) → ((state : S) → A state → B state) → StandsForOne stands now A → StandsForOne stands now B
for_one stands now A B f h = record { state = h.state; stands_for = h.stands_for; holds = f h.state h.holds }

pub fell_more : (a b c : Counts) → NoneFell a b → NoneFell b c → NoneFell a c
fell_more a b c h k = record { disk = omega (arith, h.disk, k.disk); attach = omega (arith, h.attach, k.attach); input = omega (arith, h.input, k.input); output = omega (arith, h.output, k.output) }

risen_later : (a b c : ℕ) → HasRisen a b → b ≤ c → HasRisen a c
risen_later a b c h k = omega arith

risen_before : (a b c : ℕ) → a ≤ b → HasRisen b c → HasRisen a c
risen_before a b c h k = omega arith

pub cause_later : (d : Type 0) (a b c : Counts) (end : End) → HasCause d a b end → NoneFell b c → HasCause d a c end
cause_later d a b c Answered h n = tt
cause_later d a b c BadWords h n = h
cause_later d a b c InputFault h n = risen_later a.input b.input c.input h n.input
cause_later d a b c OutputFault h n = risen_later a.output b.output c.output h n.output
cause_later d a b c DiskFault h n = risen_later a.disk b.disk c.disk h n.disk
cause_later d a b c BadLine h n = tt
cause_later d a b c Damaged h n = h
cause_later d a b c AttachFault h n = risen_later a.attach b.attach c.attach h n.attach
cause_later d a b c InputLimit h n = tt
cause_later d a b c NoMemory h n = tt

pub cause_before : (d : Type 0) (a b c : Counts) (end : End) → NoneFell a b → HasCause d b c end → HasCause d a c end
cause_before d a b c Answered n h = tt
cause_before d a b c BadWords n h = h
cause_before d a b c InputFault n h = risen_before a.input b.input c.input n.input h
cause_before d a b c OutputFault n h = risen_before a.output b.output c.output n.output h
cause_before d a b c DiskFault n h = risen_before a.disk b.disk c.disk n.disk h
cause_before d a b c BadLine n h = tt
cause_before d a b c Damaged n h = h
cause_before d a b c AttachFault n h = risen_before a.attach b.attach c.attach n.attach h
cause_before d a b c InputLimit n h = tt
cause_before d a b c NoMemory n h = tt

-- a call that meets no damage
pub cause_any : (d : Type 0) (a b : Counts) (end : End) → HasCause ⊥ a b end → HasCause d a b end
cause_any d a b Answered h = tt
cause_any d a b BadWords h = h
cause_any d a b InputFault h = h
cause_any d a b OutputFault h = h
cause_any d a b DiskFault h = h
cause_any d a b BadLine h = tt
cause_any d a b Damaged h = absurd h
cause_any d a b AttachFault h = h
cause_any d a b InputLimit h = tt
cause_any d a b NoMemory h = tt

pub cause_told : (d : Type 0) (a b c : Counts) (end result : End) → HasCause d a b end → NoneFell a b → NoneFell b c → ((result ≡ end) ⊎ HasCause ⊥ b c result) → HasCause d a c result
cause_told d a b c end result h m n (inl e) = subst (λ x. HasCause d a c x) (sym e) (cause_later d a b c end h n)
cause_told d a b c end result h m n (inr k) = cause_before d a b c result m (cause_any d b c result k)

pub cause_from : (d : Type 0) (a b c : Counts) (end : End) → NoneFell a b → HasCause ⊥ b c end → HasCause d a c end
cause_from d a b c end n h = cause_before d a b c end n (cause_any d b c end h)

-- a reply that was not sent whole
pub stops_reply : (meaning : Meaning) (replies : Replies) (command : Command) (number : ℕ) (before after : meaning.State) (old mid new : Stand) (answer : Reply) (end : End)
    → IsOutside old mid → meaning.takes (point old before) (turn command answer mid after) → SendsReplyPartly replies answer mid new end → StopsAtCommand meaning replies command number before old new end
stops_reply meaning replies command number before after old mid new answer OutputFault o t p =
    (p.1.0, p.1.1, reply_text answer, p.1.2, reply answer (point mid after) p.0 t, sends_from old mid new p.1.0 o p.1.3)
stops_reply meaning replies command number before after old mid new answer NoMemory o t p = sends_from old mid new [] o p.1
stops_reply meaning replies command number before after old mid new answer Answered o t p = absurd p.1
stops_reply meaning replies command number before after old mid new answer BadWords o t p = absurd p.1
stops_reply meaning replies command number before after old mid new answer InputFault o t p = absurd p.1
stops_reply meaning replies command number before after old mid new answer DiskFault o t p = absurd p.1
stops_reply meaning replies command number before after old mid new answer BadLine o t p = absurd p.1
stops_reply meaning replies command number before after old mid new answer Damaged o t p = absurd p.1
stops_reply meaning replies command number before after old mid new answer AttachFault o t p = absurd p.1
stops_reply meaning replies command number before after old mid new answer InputLimit o t p = absurd p.1

-- a last line that was not sent whole
stops_partly : (meaning : Meaning) (replies : Replies) (command : Command) (number : ℕ) (before : meaning.State) (old mid new : Stand) (bytes : List ℕ) (end : End)
    → IsOutside old mid → IsTextFor meaning replies command number before old bytes → SendsPartly bytes mid new end → StopsAtCommand meaning replies command number before old new end
stops_partly meaning replies command number before old mid new bytes OutputFault o t p = (p.0, p.1, bytes, p.2, t, sends_from old mid new p.0 o p.3)
stops_partly meaning replies command number before old mid new bytes NoMemory o t p = sends_from old mid new [] o p
stops_partly meaning replies command number before old mid new bytes Answered o t p = absurd p
stops_partly meaning replies command number before old mid new bytes BadWords o t p = absurd p
stops_partly meaning replies command number before old mid new bytes InputFault o t p = absurd p
stops_partly meaning replies command number before old mid new bytes DiskFault o t p = absurd p
stops_partly meaning replies command number before old mid new bytes BadLine o t p = absurd p
stops_partly meaning replies command number before old mid new bytes Damaged o t p = absurd p
stops_partly meaning replies command number before old mid new bytes AttachFault o t p = absurd p
stops_partly meaning replies command number before old mid new bytes InputLimit o t p = absurd p

-- the pool did not take the command
pub stops_unserved : (meaning : Meaning) (replies : Replies) (command : Command) (number : ℕ) (before : meaning.State) (old mid new : Stand) (paths : List (List ℕ)) (end : End)
    → IsOutside old mid → old.paths ≡ paths → (meaning.serves paths before command → ⊥) → Tells BadLine (last_line (text.BadLine number)) end mid new → StopsAtCommand meaning replies command number before old new end
stops_unserved meaning replies command number before old mid new paths end o e u (wholly is s) =
    subst (λ x. StopsAtCommand meaning replies command number before old new x) (sym is) (λ served. u (subst (λ p. meaning.serves p before command) e served), sends_from old mid new _ o s)
stops_unserved meaning replies command number before old mid new paths end o e u (partly p) =
    stops_partly meaning replies command number before old mid new _ end o (bad_line (λ served. u (subst (λ p. meaning.serves p before command) e served))) p

-- a device failed
pub stops_fault : (meaning : Meaning) (replies : Replies) (command : Command) (number : ℕ) (before : meaning.State) (old mid new : Stand) (bytes : List ℕ) (end : End)
    → IsOutside old mid → bytes ≡ last_line text.DiskFault → Tells DiskFault bytes end mid new → StopsAtCommand meaning replies command number before old new end
stops_fault meaning replies command number before old mid new bytes end o e (wholly is s) =
    subst (λ x. StopsAtCommand meaning replies command number before old new x) (sym is) (sends_from old mid new _ o (subst (λ b. Sends mid new b) e s))
stops_fault meaning replies command number before old mid new bytes end o e (partly p) =
    stops_partly meaning replies command number before old mid new _ end o fault (subst (λ b. SendsPartly b mid new end) e p)

-- damage was met
pub stops_damage : (meaning : Meaning) (replies : Replies) (command : Command) (number : ℕ) (before : meaning.State) (old mid new : Stand) (found : Refusal) (end : End)
    → IsOutside old mid → meaning.damages (point old before) command found → Tells Damaged (last_line (text.Damage found)) end mid new → StopsAtCommand meaning replies command number before old new end
stops_damage meaning replies command number before old mid new found end o h (wholly is s) =
    subst (λ x. StopsAtCommand meaning replies command number before old new x) (sym is) (found, h, sends_from old mid new _ o s)
stops_damage meaning replies command number before old mid new found end o h (partly p) =
    stops_partly meaning replies command number before old mid new _ end o (damage found h) p

-- what follows from three facts of an Ok
pub from_three : {T E : Type 0} (r : Result T E) (A B C D : Type 0) → OnOk r A → OnOk r B → OnOk r C → (A → B → C → D) → OnOk r D
from_three (Ok x) A B C D a b c f = f a b c
from_three (Err e) A B C D a b c f = tt

-- an error that is handed on by `?`
pub err_with : {T E : Type 0} (r : Result T E) (e : E) (P : E → Type 0) → IsErrAnd r (λ y. y ≡ e) → P e → IfErr r P
err_with (Ok x) e P h p = tt
err_with (Err y) e P h p = subst P (sym h) p
