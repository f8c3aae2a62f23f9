-- The extents of a set, gone over from the lowest up.
use Rattle.std.proofs.Common.{◌≡◌, ◌⊎◌, inl, inr, ℕ, ◌+◌, ◌≤◌, ◌<◌, ◌^◌, true, false, nat_le, List, [], ◌∷◌, refl, sym, ◌∙◌, ap, arith, ⊎_elim}
use Rattle.std.proofs.lemmas.Bool.{cases_lt}
use Rattle.std.proofs.lemmas.Bool.Decides.{nat_tests}
use Rattle.zr_base.specs.declared.space.Extent.{Extent}
use Rattle.zr_base.specs.Extents.{in_extent, IsMaximalFrom, IsFirstPart, HasNoneFrom}
use Rattle.zr_base.proofs.ExtentSets.{has_unit-below}
use Rattle.std.specs.Prelude.{if◌then◌else◌}

-- the extents that do not begin below the unit
abbrev pub above : ℕ → List Extent → List Extent
above at [] = []
above at (e ∷ es) = if nat_le at e.start then e ∷ es else above at es

-- no extent goes over the unit
abbrev pub IsCut : ℕ → List Extent → Type 0
IsCut at [] = Unit {0}
IsCut at (e ∷ es) = ((e.start + e.len ≤ at) ⊎ (at ≤ e.start)) × IsCut at es

-- the extent is the lowest that does not begin below the unit
pub record IsNext (es : List Extent) (at : ℕ) (part : Extent) : Type 0 where
  pub here : above at es ≡ part ∷ above (part.start + part.len) es
  pub cut : IsCut (part.start + part.len) es
  pub some : 0 < part.len
  pub from : at ≤ part.start
  pub bound : part.start + part.len ≤ 2 ^ 62

pub cut_above : (low at : ℕ) (es : List Extent) → IsMaximalFrom low es → at ≤ low → IsCut at es
cut_above low at [] m le = tt
cut_above low at (e ∷ es) m le = (inr (let l = m.0 in omega (arith, l, le)), cut_above (e.start + e.len + 1) at es m.3 (let l = m.0 in omega (arith, l, le)))

pub all_above : (low at : ℕ) (es : List Extent) → IsMaximalFrom low es → at ≤ low → above at es ≡ es
all_above low at [] m le = refl
all_above low at (e ∷ es) m le = let l = m.0 in let is : nat_le at e.start ≡ true = grind (arith, nat_tests, l, le) in rw is refl

skip_first : (at : ℕ) (e : Extent) (es : List Extent) → e.start < at → above at (e ∷ es) ≡ above at es
skip_first at e es lt = let is : nat_le at e.start ≡ false = grind (arith, nat_tests, lt) in rw is refl

take_first : (at : ℕ) (e : Extent) (es : List Extent) → at ≤ e.start → above at (e ∷ es) ≡ e ∷ es
take_first at e es le = let is : nat_le at e.start ≡ true = grind (arith, nat_tests, le) in rw is refl

extent_is : (a b : Extent) → a.start ≡ b.start → a.len ≡ b.len → a ≡ b
extent_is a b s l = ap (λ (n : ℕ). record { start = n; len = a.len }) s ∙ ap (λ (n : ℕ). record { start = b.start; len = n }) l

outside : (e : Extent) (u : ℕ) → e.start + e.len ≤ u → in_extent e u ≡ false
outside e u le = grind (arith, nat_tests, le)

-- the first part from a unit that no extent goes over is an extent
pub next_part : (low at : ℕ) (es : List Extent) (part : Extent) → IsMaximalFrom low es → IsCut at es → IsFirstPart es at part → IsNext es at part
next_part low at [] part m cut f = absurd (let c = f.covered part.start (let s = f.not_empty in grind (arith, nat_tests, s)) in false_true c)
  where
    false_true : false ≡ true → ⊥
    false_true e = cc
next_part low at (e ∷ es) part m cut f = elim cut.0 [ inl below ↦ later below (next_part (e.start + e.len + 1) at es part m.3 cut.1) | inr here ↦ first here ]
  where
    some : 0 < e.len
    some = m.1

    later : e.start + e.len ≤ at → (IsFirstPart es at part → IsNext es at part) → IsNext (e ∷ es) at part
    later below again =
        let from = f.from in
        let in_rest : IsFirstPart es at part = record {
          not_empty = f.not_empty;
          from = from;
          covered = λ u is. let c = f.covered u is in let out = outside e u (grind (arith, nat_tests, below, from, is)) in grind (arith, c, out);
          gap = λ v ge lt. let g = f.gap v ge lt in grind (arith, nat_tests, g);
          ends = let g = f.ends in grind (arith, nat_tests, g);
        } in
        let rest = again in_rest in
        record {
          here = skip_first at e es (omega (arith, below, some)) ∙ (rest.here ∙ ap (λ (l : List Extent). part ∷ l) (sym (skip_first (part.start + part.len) e es (omega (arith, below, some, from)))));
          cut = (inl (omega (arith, below, from)), rest.cut);
          some = f.not_empty;
          from = from;
          bound = rest.bound;
        }

    first : at ≤ e.start → IsNext (e ∷ es) at part
    first here =
        let not_empty = f.not_empty in
        let begins : part.start ≤ e.start = ⊎_elim
        (λ lt. let g = f.gap e.start here lt in let is : in_extent e e.start ≡ true = grind (arith, nat_tests, some) in absurd (grind (arith, g, is)))
        (λ le. le)
        (cases_lt e.start part.start) in
        let begins_at : part.start ≡ e.start = ⊎_elim
        (λ lt.
        let c = f.covered part.start (grind (arith, nat_tests, not_empty)) in
        let none = has_unit-below (e.start + e.len + 1) part.start es m.3 (omega (arith, lt)) in
        absurd (grind (arith, nat_tests, c, none, lt)))
        (λ le. omega (arith, le, begins))
        (cases_lt part.start e.start) in
        let longest : part.len ≤ e.len = ⊎_elim
        (λ lt.
        let c = f.covered (e.start + e.len) (grind (arith, nat_tests, lt, begins_at)) in
        let none = has_unit-below (e.start + e.len + 1) (e.start + e.len) es m.3 (omega arith) in
        let out = outside e (e.start + e.len) (omega arith) in
        absurd (grind (arith, c, none, out)))
        (λ le. le)
        (cases_lt e.len part.len) in
        let shortest : e.len ≤ part.len = ⊎_elim
        (λ lt.
        let g = f.ends in
        let is : in_extent e (part.start + part.len) ≡ true = grind (arith, nat_tests, begins_at, lt) in
        absurd (grind (arith, g, is)))
        (λ le. le)
        (cases_lt part.len e.len) in
        let is : e ≡ part = extent_is e part (sym begins_at) (omega (arith, longest, shortest)) in
        let end : part.start + part.len ≡ e.start + e.len = omega (arith, begins_at, longest, shortest) in
        let rest : es ≡ above (part.start + part.len) (e ∷ es) =
        sym (skip_first (part.start + part.len) e es (omega (arith, begins_at, not_empty)) ∙ all_above (e.start + e.len + 1) (part.start + part.len) es m.3 (omega (arith, end))) in
        record {
          here = take_first at e es here ∙ (ap (λ (x : Extent). x ∷ es) is ∙ ap (λ (l : List Extent). part ∷ l) rest);
          cut = (inl (omega (arith, end)), cut_above (e.start + e.len + 1) (part.start + part.len) es m.3 (omega (arith, end)));
          some = not_empty;
          from = f.from;
          bound = let b = m.2 in omega (arith, end, b);
        }

-- where no unit is in the set from one on, no extent begins from there on
pub none_above : (low at : ℕ) (es : List Extent) → IsMaximalFrom low es → HasNoneFrom es at → above at es ≡ []
none_above low at [] m none = refl
none_above low at (e ∷ es) m none =
    ⊎_elim
    (λ lt. skip_first at e es lt ∙ none_above (e.start + e.len + 1) at es m.3 (λ v ge. let n = none v ge in grind (arith, nat_tests, n)))
    (λ ge. let n = none e.start ge in let some = m.1 in let is : in_extent e e.start ≡ true = grind (arith, nat_tests, some) in absurd (grind (arith, n, is)))
    (cases_lt e.start at)
