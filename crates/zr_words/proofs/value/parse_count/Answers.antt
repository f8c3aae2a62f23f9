use Rattle.std.proofs.Common.{arith}
use Rattle.zr_script.proofs.Reading.{same_number}
use Rattle.zr_words.proofs.value.parse_count.Goals as goal
use Rattle.zr_words.proofs.value.parse_count.Goals.{then-count-lt-MIN_COUNT-via-then-count-lt-MIN_COUNT, then-count-lt-MIN_COUNT-via-else-count-lt-MIN_COUNT+then-count-gt-MAX_COUNT}

pub returns-then-count-lt-MIN_COUNT : goal.returns-then-count-lt-MIN_COUNT
returns-then-count-lt-MIN_COUNT c = λ n h.
    let same = same_number _ c.in-Some.count n c.in-Some.ensures h.number in
    let some = h.some in
    let most = h.most in
    elim c.then-count-lt-MIN_COUNT.branch [
      | then-count-lt-MIN_COUNT-via-then-count-lt-MIN_COUNT w ↦ let t = w.if-count-lt-MIN_COUNT.true in absurd (omega arith)
      | then-count-lt-MIN_COUNT-via-else-count-lt-MIN_COUNT+then-count-gt-MAX_COUNT w ↦ let t = w.if-count-gt-MAX_COUNT.true in absurd (omega arith)
    ]
