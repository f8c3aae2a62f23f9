use Rattle.std.proofs.Common.{◌∙◌, ap, map, List, ◌∷◌, ℕ, Bor, codes, rules, sym, Bool}
use Rattle.zr_script.proofs.Reading.{creates_old, creates_new, same_word, other_word}
use Rattle.zr_script.proofs.lines.parse_create.Goals as goal

pub returns-then-eq : goal.returns-then-eq
returns-then-eq c =
    creates_old _ _ c.parse_create_old.result
    (ap (map {A = Bor (List ℕ)} {B = List ℕ} (λ w. w.now)) c.in-Some.ensures.cases.0
    ∙ ap (λ (x : List ℕ). x ∷ map {A = Bor (List ℕ)} {B = List ℕ} (λ w. w.now) c.in-Some.others.now) (same_word _ _ (codes "-1") _ c.eq.ensures c.if-eq.true c.as_slice.ensures))
    c.parse_create_old.ensures

pub returns-else-eq : goal.returns-else-eq
returns-else-eq c =
    creates_new _ _ _ c.parse_create_new.result (ap (map {A = Bor (List ℕ)} {B = List ℕ} (λ w. w.now)) c.in-Some.ensures.cases.0)
    (λ is. other_word _ _ (codes "-1") _ c.eq.ensures c.if-eq.false c.as_slice.ensures is) c.parse_create_new.ensures
