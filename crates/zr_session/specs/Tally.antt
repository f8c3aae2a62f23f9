-- What the replies of a generated run come to: how many refuse, and the digest of those to its sums.
use Rattle.std.specs.Prelude.{ℕ, Bool, true, false, not, List, [], count_by}
use Rattle.std.specs.List.{flat_map}
use Rattle.sha2.specs.Sha256.{sha256}
use Rattle.zr_script.specs.declared.command.Command.{Command}
use Rattle.zr_script.specs.declared.command.Command.TheVariants as cmd
use Rattle.zr_script.specs.declared.reply.Reply.{Reply}
use Rattle.zr_script.specs.declared.reply.Reply.TheVariants as reply
use Rattle.zr_script.specs.ReplyText.{reply_text, generated_line}
use Rattle.zr_model.specs.Runs.{Turn}

-- a command and its answer
pub record Answer : Type 0 where
  pub command : Command
  pub answer : Reply

abbrev pub answer_of : {S : Type 0} → Turn S → Answer
answer_of t = record { command = t.command; answer = t.answer }

-- the reply is a refusal
abbrev pub refuses : Reply → Bool
refuses (reply.No r) = true
refuses answer = false

abbrev pub is_refused : Answer → Bool
is_refused a = refuses a.answer

abbrev pub is_accepted : Answer → Bool
is_accepted a = not (refuses a.answer)

-- the reply to a `sum`, a refusal among them
abbrev pub sum_reply : Command → Reply → List ℕ
sum_reply (cmd.Sum id) answer = reply_text answer
sum_reply command answer = []

abbrev pub sum_text : Answer → List ℕ
sum_text a = sum_reply a.command a.answer

-- the one line of a generated run: how many commands were accepted and refused, and the sum of the replies to its last sums
abbrev pub generated_text : ℕ → ℕ → List Answer → List ℕ
generated_text number count given = generated_line number count (count_by is_accepted given) (count_by is_refused given) (sha256 (flat_map sum_text given))
