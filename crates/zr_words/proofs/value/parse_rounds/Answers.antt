use Rattle.std.proofs.Common.{arith}
use Rattle.zr_script.proofs.Reading.{same_number}
use Rattle.zr_words.specs.Reading.{IsRounds}
use Rattle.zr_words.proofs.Values.{gives_nothing}
use Rattle.zr_words.proofs.value.parse_rounds.Goals as goal

pub returns-then-rounds-gt-MAX_ROUNDS-clause-none : goal.returns-then-rounds-gt-MAX_ROUNDS-clause-none
returns-then-rounds-gt-MAX_ROUNDS-clause-none c = λ rounds h.
    gives_nothing IsRounds c.in-Some.digits.now
    (λ n p. let same = same_number _ c.in-Some-parse_number.rounds n c.in-Some-parse_number.ensures (rw c.as_bytes.ensures.value p.0) in let most = p.1 in absurd (omega arith))
    rounds (rw c.in-Some.is at h)
