use Rattle.std.proofs.Common.{sym, subst, lit<, None}
use Rattle.std.proofs.lemmas.Str.Pattern.{split_parts}
use Rattle.zr_script.specs.Words.{IsNumber}
use Rattle.zr_words.specs.Reading.{IsCount}
use Rattle.zr_words.proofs.Numbers.{pair_parts, no_pair}
use Rattle.zr_words.proofs.value.parse_pair.Goals as goal

pub returns-in_default : goal.returns-in_default
returns-in_default c = λ generate h. no_pair c.args.text.now generate (split_parts 58 c.args.text.now None c.in_default.ensures.cases (lit< tt)) h

pub returns-in_default-parse_number : goal.returns-in_default-parse_number
returns-in_default-parse_number c = λ generate h.
    let parts = pair_parts c.args.text.now generate c.in-Some.number c.in-Some.count c.in-Some.ensures.cases h in
    c.in_default-parse_number.ensures generate.0 (rw c.as_bytes.ensures.value (subst (λ w. IsNumber w generate.0) (sym parts.0) h.3))

pub returns-in_default-parse_count : goal.returns-in_default-parse_count
returns-in_default-parse_count c = λ generate h.
    let parts = pair_parts c.args.text.now generate c.in-Some.number c.in-Some.count c.in-Some.ensures.cases h in
    c.in_default-parse_count.ensures generate.1 (rw c.as_bytes-2.ensures.value (subst (λ w. IsCount w generate.1) (sym parts.1) h.4))
