use Rattle.std.proofs.Common.{map, subst}
use Rattle.std.specs.String.{string_bytes}
use Rattle.zr_words.specs.Reading.{IsWhole}
use Rattle.zr_words.proofs.Lines.{line_spells, line_whole}
use Rattle.zr_words.proofs.words.parse_words.Goals as goal

pub returns-in_default-clause-none : goal.returns-in_default-clause-none
returns-in_default-clause-none c = λ line h.
    let none = rw c.in_default.is at c.in_ok-line.ensures.none in
    none line (line_spells (map string_bytes c.args.words.now) line h)

pub returns-then-not-branch-clause-none : goal.returns-then-not-branch-clause-none
returns-then-not-branch-clause-none c = λ line h.
    let only = rw c.in-Some.is at c.in_ok-line.ensures.only in
    let same = only line (line_spells (map string_bytes c.args.words.now) line h) in
    c.in_ok-is_whole.ensures.other c.if-not-branch.true (subst IsWhole same (line_whole (map string_bytes c.args.words.now) line h))

pub returns-clause-only : goal.returns-clause-only
returns-clause-only c = λ other h.
    let only = rw c.in-Some.is at c.in_ok-line.ensures.only in
    only other (line_spells (map string_bytes c.args.words.now) other h)
