-- What one entry more does to what is kept.
use Rattle.std.proofs.Common.{◌≡◌, ℕ, zero, suc, ◌+◌, ◌<◌, ◌≤◌, Bool, true, false, cond, List, [], ◌∷◌, ◌++◌, length, take, get_or, refl, sym, ◌∙◌, ap, subst, arith}
use Rattle.std.specs.List.{zip}
use Rattle.zr_base.specs.declared.space.Entry.{Entry}
use Rattle.zr_rules.specs.Condense.{condensed, is_used}
use Rattle.zr_rules.specs.Mappings.{entry_at, IsRisingFrom, IsRising, IsAfterAll}

cond_append : {X : Type 0} (b : Bool) (x : X) (xs ys : List X) → cond b (x ∷ (xs ++ ys)) (xs ++ ys) ≡ cond b (x ∷ xs) xs ++ ys
cond_append true x xs ys = refl
cond_append false x xs ys = refl

-- an entry more is kept if it has a unit in use
pub condensed_more : (es : List Entry) (cs : List ℕ) (i : ℕ) → i < length es → length cs ≡ length es
    → condensed (take (suc i) es) (take (suc i) cs) ≡ condensed (take i es) (take i cs) ++ cond (is_used (entry_at es i, get_or cs i 0)) ((entry_at es i, get_or cs i 0) ∷ []) []
condensed_more [] cs i i_in len = absurd (omega arith)
condensed_more (e ∷ es) [] i i_in len = absurd (omega arith)
condensed_more (e ∷ es) (c ∷ cs) zero i_in len = refl
condensed_more (e ∷ es) (c ∷ cs) (suc i) i_in len =
    let more = condensed_more es cs i (omega arith) (omega arith) in
    ap (λ (list : List (Entry × ℕ)). cond (is_used (e, c)) ((e, c) ∷ list) list) more
    ∙ cond_append (is_used (e, c)) (e, c) (condensed (take i es) (take i cs)) (cond (is_used (entry_at es i, get_or cs i 0)) ((entry_at es i, get_or cs i 0) ∷ []) [])

pub zip_push : (es : List Entry) (cs : List ℕ) (e : Entry) (c : ℕ) → length cs ≡ length es → zip (es ++ e ∷ []) (cs ++ c ∷ []) ≡ zip es cs ++ (e, c) ∷ []
zip_push [] [] e c len = refl
zip_push [] (x ∷ cs) e c len = absurd (omega arith)
zip_push (x ∷ es) [] e c len = absurd (omega arith)
zip_push (x ∷ es) (y ∷ cs) e c len = ap (λ (list : List (Entry × ℕ)). (x, y) ∷ list) (zip_push es cs e c (omega arith))

-- each of the pairs has an entry that ends by the source of this one
abbrev pub EndBy : List (Entry × ℕ) → Entry → Type 0
EndBy [] e = Unit {0}
EndBy (p ∷ ps) e = (p.0.src + p.0.len ≤ e.src) × EndBy ps e

low_le : (low i : ℕ) (xs : List Entry) → IsRisingFrom low xs → i < length xs → low ≤ (entry_at xs i).src
low_le low i [] m i_in = absurd (omega arith)
low_le low zero (x ∷ xs) m i_in = m.0
low_le low (suc i) (x ∷ xs) m i_in = omega (arith, low_le (x.src + x.len) i xs m.2 (omega arith))

cond_end : (b : Bool) (p : Entry × ℕ) (ps : List (Entry × ℕ)) (e : Entry) → p.0.src + p.0.len ≤ e.src → EndBy ps e → EndBy (cond b (p ∷ ps) ps) e
cond_end true p ps e h k = (h, k)
cond_end false p ps e h k = k

condensed_end : (low i : ℕ) (es : List Entry) (cs : List ℕ) → IsRisingFrom low es → i < length es → length cs ≡ length es → EndBy (condensed (take i es) (take i cs)) (entry_at es i)
condensed_end low i [] cs m i_in len = absurd (omega arith)
condensed_end low i (e ∷ es) [] m i_in len = absurd (omega arith)
condensed_end low zero (e ∷ es) (c ∷ cs) m i_in len = tt
condensed_end low (suc i) (e ∷ es) (c ∷ cs) m i_in len =
    cond_end (is_used (e, c)) (e, c) (condensed (take i es) (take i cs)) (entry_at es i)
    (low_le (e.src + e.len) i es m.2 (omega arith)) (condensed_end (e.src + e.len) i es cs m.2 (omega arith) (omega arith))

zip_after : (es : List Entry) (cs : List ℕ) (e : Entry) → length cs ≡ length es → EndBy (zip es cs) e → IsAfterAll es e
zip_after [] cs e len h = tt
zip_after (x ∷ es) [] e len h = absurd (omega arith)
zip_after (x ∷ es) (c ∷ cs) e len h = (h.0, zip_after es cs e (omega arith) h.1)

-- the next entry is behind all that are kept
pub after_kept : (es : List Entry) (cs : List ℕ) (i : ℕ) (kept : List Entry) (counts : List ℕ) → IsRising es → i < length es → length cs ≡ length es → length counts ≡ length kept
    → zip kept counts ≡ condensed (take i es) (take i cs) → IsAfterAll kept (entry_at es i)
after_kept es cs i kept counts m i_in len each is =
    zip_after kept counts (entry_at es i) each (subst (λ (ps : List (Entry × ℕ)). EndBy ps (entry_at es i)) (sym is) (condensed_end 0 i es cs m i_in len))
