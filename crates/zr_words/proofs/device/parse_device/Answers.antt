use Rattle.std.proofs.Common.{sym, ap, ◌∙◌, arith, lit<, None}
use Rattle.std.proofs.lemmas.Bool.{false≢true}
use Rattle.std.proofs.lemmas.Str.Pattern.{split_parts}
use Rattle.zr_script.specs.Words.{is_path}
use Rattle.zr_script.proofs.Reading.{same_number}
use Rattle.zr_words.proofs.Devices.{none_whole, parts_of}
use Rattle.zr_words.proofs.device.parse_device.Goals as goal

pub returns-in_default-clause-none : goal.returns-in_default-clause-none
returns-in_default-clause-none c = λ path make h.
    none_whole c.args.word.now path make (split_parts 58 c.args.word.now None c.in_default.ensures.cases (lit< tt)) (sym (c.if-is_path.ensures ∙ ap is_path c.as_bytes.ensures.value)) h

pub returns-then-not-is_path-clause-none : goal.returns-then-not-is_path-clause-none
returns-then-not-is_path-clause-none c = λ path make h.
    let p = parts_of c.args.word.now path make c.in-Some.path c.in-Some.digits c.in-Some.ensures.cases h in
    false≢true (c.if-not-is_path.ensures ∙ (ap is_path (c.as_bytes-2.ensures.value ∙ p.path_is) ∙ p.is_path))

pub returns-in_default-parse_number-clause-none : goal.returns-in_default-parse_number-clause-none
returns-in_default-parse_number-clause-none c = λ path make h.
    let p = parts_of c.args.word.now path make c.in-Some.path c.in-Some.digits c.in-Some.ensures.cases h in
    c.in_default-parse_number.ensures p.size (rw c.as_bytes-3.ensures.value p.number)

pub returns-then-size-gt-MAX_SIZE-clause-none : goal.returns-then-size-gt-MAX_SIZE-clause-none
returns-then-size-gt-MAX_SIZE-clause-none c = λ path make h.
    let p = parts_of c.args.word.now path make c.in-Some.path c.in-Some.digits c.in-Some.ensures.cases h in
    let same = same_number _ c.in-Some-parse_number.size p.size c.in-Some-parse_number.ensures (rw c.as_bytes-3.ensures.value p.number) in
    let most = p.most in
    absurd (omega arith)
