-- What is worked through of a mapping so far is one thing.
use Rattle.std.proofs.Common.{◌≡◌, ℕ, List, [], ◌∷◌, length, map, take, refl, sym, ◌∙◌, ap, arith}
use Rattle.std.specs.List.{zip}
use Rattle.zr_base.specs.declared.space.CondPart.{CondPart}
use Rattle.zr_base.specs.declared.space.DevPart.{DevPart}
use Rattle.zr_base.specs.declared.space.Entry.{Entry}
use Rattle.zr_condense.specs.Condensing.{HasWorked}
use Rattle.zr_rules.specs.Condense.{IsWorked, condensed}

abbrev entry_in : Entry × ℕ → Entry
entry_in p = p.0

abbrev count_in : Entry × ℕ → ℕ
count_in p = p.1

entries_of : (es : List Entry) (ns : List ℕ) → length ns ≡ length es → map entry_in (zip es ns) ≡ es
entries_of [] [] e = refl
entries_of [] (n ∷ ns) e = absurd (omega (arith, e))
entries_of (x ∷ es) [] e = absurd (omega (arith, e))
entries_of (x ∷ es) (n ∷ ns) e = ap (λ (xs : List Entry). x ∷ xs) (entries_of es ns (omega (arith, e)))

counts_of : (es : List Entry) (ns : List ℕ) → length ns ≡ length es → map count_in (zip es ns) ≡ ns
counts_of [] [] e = refl
counts_of [] (n ∷ ns) e = absurd (omega (arith, e))
counts_of (x ∷ es) [] e = absurd (omega (arith, e))
counts_of (x ∷ es) (n ∷ ns) e = ap (λ (xs : List ℕ). n ∷ xs) (counts_of es ns (omega (arith, e)))

module _ (p : DevPart) (a b : CondPart) (same : a.at ≡ b.at) (x : IsWorked p a) (y : IsWorked p b) where
  both : zip a.entries a.counts ≡ zip b.entries b.counts
  both = x.kept ∙ ap (λ n. condensed (take n p.entries) (take n p.counts)) same ∙ sym y.kept

  pub one_mapping : a.entries ≡ b.entries
  one_mapping = sym (entries_of a.entries a.counts x.each) ∙ ap (map entry_in) both ∙ entries_of b.entries b.counts y.each

  pub one_count : a.counts ≡ b.counts
  one_count = sym (counts_of a.entries a.counts x.each) ∙ ap (map count_in) both ∙ counts_of b.entries b.counts y.each

-- the same, told of another record
pub worked_too : (p : DevPart) (a b : CondPart) → IsWorked p a → a.at ≡ b.at → a.entries ≡ b.entries → a.counts ≡ b.counts → IsWorked p b
worked_too p a b x at entries counts = record {
  within = rw (sym at) x.within;
  kept = rw (sym at, sym entries, sym counts) x.kept;
  each = rw (sym entries, sym counts) x.each;
}

-- what a step has worked through is so of the mapping
pub worked_of : (p : DevPart) (entries : List Entry) (counts : List ℕ) (c : CondPart) → entries ≡ p.entries → counts ≡ p.counts → HasWorked entries counts c → IsWorked p c
worked_of p entries counts c same each x = record {
  within = rw (sym same) x.within;
  kept = rw (sym same, sym each) x.kept;
  each = x.each;
}
