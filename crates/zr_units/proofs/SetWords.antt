-- The words of a set, and what is left of its extents.
use Rattle.std.proofs.Common.{◌≡◌, ℕ, zero, suc, ◌+◌, ◌≤◌, ◌<◌, List, [], ◌∷◌, length, drop, get_or, add-one, drop-cons, refl, arith}
use Rattle.zr_base.specs.declared.space.Extent.{Extent}
use Rattle.zr_base.specs.Extents.{IsMaximalFrom, unit_count}
use Rattle.zr_rules.specs.Owed.{set_words}
use Rattle.zr_ranges.proofs.Cuts as cuts

abbrev pub no_extent : Extent
no_extent = record { start = 0; len = 0 }

pub drop_first : (es : List Extent) (i : ℕ) → i < length es → drop i es ≡ get_or es i no_extent ∷ drop (i + 1) es
drop_first es i lt = rw (add-one, drop-cons es i no_extent)

pub drop_end : (es : List Extent) (i : ℕ) → length es ≤ i → drop i es ≡ []
drop_end [] zero le = refl
drop_end [] (suc i) le = refl
drop_end (e ∷ es) zero le = absurd (omega (arith, le))
drop_end (e ∷ es) (suc i) le = drop_end es i (omega (arith, le))

-- a set has at most as many words as units
pub words_at_most : (version low : ℕ) (es : List Extent) → IsMaximalFrom low es → set_words version es ≤ unit_count es
words_at_most version low es m = cuts.words_at_most version low es m
