-- The words of a space, split by what a reset keeps.
use Rattle.std.proofs.Common.{◌≡◌, ℕ, ◌+◌, true, length, arith}
use Rattle.std.specs.List.{range_with_len}
use Rattle.zr_rules.specs.Owed.{set_words}
use Rattle.zr_rules.specs.Places.{part_of}
use Rattle.zr_rules.specs.Space.{Space, opened_of, IsLawful}
use Rattle.zr_rules.specs.Columns.{device_words, late_blocks, sizes}
use Rattle.zr_rules.specs.Steps.{Commits}
use Rattle.zr_reckon.specs.Base.{device_base, base_words}
use Rattle.zr_reckon.specs.Uses.{freed_words, HasLateSets}
use Rattle.zr_reckon.proofs.Counting.{sum_both}
use Rattle.zr_reckon.proofs.Ended.{reset_words}

pub words_split : (s : Space) (blocks objects : ℕ) → (sizes s blocks objects).words ≡ base_words s + freed_words s
words_split s blocks objects =
    sum_both (device_words s) (device_base s) (λ (d : ℕ). set_words s.parts.version (opened_of s d).deferred + set_words s.parts.version (late_blocks (part_of s.parts.devs d).late1) + set_words s.parts.version (late_blocks (part_of s.parts.devs d).late2))
    (range_with_len 0 (length s.parts.devs)) (λ d. omega arith)

pub reset_base : (old new : Space) (blocks objects : ℕ) → Commits true old new → IsLawful old → HasLateSets new → (sizes new blocks objects).words ≡ base_words old
reset_base old new blocks objects c l k =
    let a = reset_words old new c l k blocks objects in
    let b = words_split old blocks objects in
    omega (arith, a, b)
