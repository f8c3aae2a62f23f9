use Rattle.std.proofs.Common.{◌≡◌, ℕ, List, refl, sym, ap, ◌∙◌, map}
use Rattle.std.specs.String.{string_bytes}
use Rattle.zr_words.specs.Views.{line_of}
use Rattle.zr_words.specs.Choosing.{chosen}
use Rattle.zr_session.specs.Answers.{IsStarted, IsDone, TellsBadLine, TellsLimit, TellsFault, TellsDamage, AnswersTaken, AnswersPartly}
use Rattle.zr_session.specs.Ends.{EndsBy, IsOpenedTo}
use Rattle.zr_session.specs.Generated.{TellsTally, TellsPartly, TellsFaultThere, TellsUnserved, TellsDamageThere, Never}
use Rattle.zr_session.proofs.Devices.{is_chosen, none_chosen}
use Rattle.zr_session.proofs.Opening.{end_from, opened_with, runs_to, memory_at}
use Rattle.zr_session.proofs.Telling.{program_moments}
use Rattle.zr_session.proofs.program.run_on.Goals.{After-drop-line-in-Ok-Some}
use Rattle.zr_session.proofs.program.run_on.Goals as goal

started : (g : _) (c : After-drop-line-in-Ok-Some g) → IsStarted (map (λ x. string_bytes x.name) c.args.choosers.now) (map string_bytes c.args.words.now) (line_of c.in-Ok-Some.line)
started g c = record {
  is_line = rw c.in-Ok-Some.field-0-is at c.in-Ok-Some.ensures.some;
  chooser = is_chosen (λ x. string_bytes x.name) (line_of c.in-Ok-Some.line).policy c.args.choosers.now _ (sym c.in-Some.ensures);
}

opened : (g : _) (c : After-drop-line-in-Ok-Some g) (n : ℕ) → g.D.Shelf.tells c.args.desk.now → c.status-in-Ok-Some.result ≡ n
    → IsOpenedTo (EndsBy g.P.Pool.meaning (line_of c.in-Ok-Some.line)) (end_from n) (line_of c.in-Ok-Some.line).devs (g.D.Shelf.world c.args.desk.now).now (g.D.Shelf.world c.open_session.new.desk).now
opened g c n t r = opened_with g.P.Pool.meaning (line_of c.in-Ok-Some.line) c.open_session.result n _ _ _ (sym c.status-in-Ok-Some.ensures ∙ r) (c.open_session.ensures.ends t)

pub returns-in_default-clause-bad_words : goal.returns-in_default-clause-bad_words
returns-in_default-clause-bad_words g c = λ r. (
  λ line s.
      let only = rw c.in-Ok-Some.field-0-is at c.in-Ok-Some.ensures.only in
      let same = only line s.is_line in
      s.chooser (ap (λ l. chosen (λ (n : List ℕ). n) l.policy (map (λ x. string_bytes x.name) c.args.choosers.now)) same ∙ none_chosen (λ x. string_bytes x.name) (line_of c.in-Ok-Some.line).policy c.args.choosers.now (sym c.in_default.ensures)),
  refl,
)

pub returns-in-Ok-None-clause-bad_words : goal.returns-in-Ok-None-clause-bad_words
returns-in-Ok-None-clause-bad_words g c = λ r. (
  λ line s.
      let none = rw c.in-Ok-None.field-0-is at c.in-Ok-None.ensures.none in
      none line s.is_line,
  refl,
)

pub returns-in-Some-clause-words : goal.returns-in-Some-clause-words
returns-in-Some-clause-words g c = λ no. absurd (no (line_of c.in-Ok-Some.line) (started g c))

pub returns-in-Some-clause-done : goal.returns-in-Some-clause-done
returns-in-Some-clause-done g c = λ t r. runs_to (IsDone g.P.Pool.meaning) (TellsTally g.P.Pool.meaning) _ _ (line_of c.in-Ok-Some.line) _ _ (started g c) (opened g c 0 t r)

pub returns-in-Some-clause-taken : goal.returns-in-Some-clause-taken
returns-in-Some-clause-taken g c = λ t r. runs_to (AnswersTaken g.P.Pool.meaning) Never _ _ (line_of c.in-Ok-Some.line) _ _ (started g c) (opened g c 2 t r)

pub returns-in-Some-clause-partly : goal.returns-in-Some-clause-partly
returns-in-Some-clause-partly g c = λ t r. runs_to (AnswersPartly g.P.Pool.meaning) (TellsPartly g.P.Pool.meaning) _ _ (line_of c.in-Ok-Some.line) _ _ (started g c) (opened g c 3 t r)

pub returns-in-Some-clause-stopped : goal.returns-in-Some-clause-stopped
returns-in-Some-clause-stopped g c = λ t r. runs_to (TellsFault g.P.Pool.meaning) (TellsFaultThere g.P.Pool.meaning) _ _ (line_of c.in-Ok-Some.line) _ _ (started g c) (opened g c 4 t r)

pub returns-in-Some-clause-bad_line : goal.returns-in-Some-clause-bad_line
returns-in-Some-clause-bad_line g c = λ t r. runs_to (TellsBadLine g.P.Pool.meaning) (TellsUnserved g.P.Pool.meaning) _ _ (line_of c.in-Ok-Some.line) _ _ (started g c) (opened g c 5 t r)

pub returns-in-Some-clause-damaged : goal.returns-in-Some-clause-damaged
returns-in-Some-clause-damaged g c = λ t r. runs_to (TellsDamage g.P.Pool.meaning) (TellsDamageThere g.P.Pool.meaning) _ _ (line_of c.in-Ok-Some.line) _ _ (started g c) (opened g c 6 t r)

pub returns-in-Some-clause-limit : goal.returns-in-Some-clause-limit
returns-in-Some-clause-limit g c = λ t r. runs_to (TellsLimit g.P.Pool.meaning) Never _ _ (line_of c.in-Ok-Some.line) _ _ (started g c) (opened g c 8 t r)

pub returns-in-Some-clause-unattached : goal.returns-in-Some-clause-unattached
returns-in-Some-clause-unattached g c = λ t r. (line_of c.in-Ok-Some.line, started g c, opened g c 7 t r)

pub returns-in-Some-clause-memory : goal.returns-in-Some-clause-memory
returns-in-Some-clause-memory g c = λ t r. memory_at g.P.Pool.meaning _ _ (line_of c.in-Ok-Some.line) _ _ (started g c) (opened g c 9 t r)

pub returns-in-Some-clause-moments : goal.returns-in-Some-clause-moments
returns-in-Some-clause-moments g c = λ t. program_moments g.P.Pool.meaning _ _ (line_of c.in-Ok-Some.line) _ _ (started g c) (c.open_session.ensures.moments t)
