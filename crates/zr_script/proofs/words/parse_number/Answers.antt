use Rattle.std.proofs.Common.{◌≡◌, ◌∙◌, rules}
use Rattle.std.proofs.lemmas.Str.{IsUtf8-from_ascii}
use Rattle.std.proofs.lemmas.Fmt.{IsAscii-decimal, parse-decimal}
use Rattle.zr_script.proofs.Reading.{printed_other, printed_same}
use Rattle.zr_script.proofs.words.parse_number.Goals as goal

pub returns-in_default : goal.returns-in_default
returns-in_default c = λ n h. c.in_default.ensures.cases.0 (rw h.spelling (IsUtf8-from_ascii _ (IsAscii-decimal n h.bound)))

pub returns-in_default-parse : goal.returns-in_default-parse
returns-in_default-parse c = λ n h.
    let e = parse-decimal 64 n c.in-Ok.text.now c.parse.result h.bound h.bound (c.in-Ok.ensures.cases.0 ∙ h.spelling) c.parse.ensures.value.0 in
    c.in_default-parse.not-Ok n e

pub returns-then-ne : goal.returns-then-ne
returns-then-ne c = λ n h.
    let e = parse-decimal 64 n c.in-Ok.text.now c.parse.result h.bound h.bound (c.in-Ok.ensures.cases.0 ∙ h.spelling) c.parse.ensures.value.0 in
    let same : c.in-Ok-parse.number ≡ n = cc in
    printed_other c.args.word.now c.as_bytes.result.now _ n c.if-ne.ensures (c.as_bytes.ensures.value ∙ c.format.ensures.text) same h

pub returns : goal.returns
returns c = record { spelling = printed_same c.args.word.now c.as_bytes.result.now _ c.if-ne.ensures (c.as_bytes.ensures.value ∙ c.format.ensures.text); bound = search rules }
