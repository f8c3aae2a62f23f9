use Rattle.zr_words.specs.Reading.{IsGenerate}
use Rattle.zr_words.proofs.Values.{gives_nothing}
use Rattle.zr_words.proofs.value.parse_generate.Goals as goal

pub returns-in_default-parse_pair-clause-none : goal.returns-in_default-parse_pair-clause-none
returns-in_default-parse_pair-clause-none c = λ generate h. gives_nothing IsGenerate c.in-Some.text.now c.in_default-parse_pair.ensures generate (rw c.in-Some.is at h)
