-- Where the units of the entries that are kept lead.
use Rattle.std.proofs.Common.{◌≡◌, ℕ, zero, suc, ◌+◌, ◌<◌, ◌≤◌, Bool, true, false, cond, List, [], ◌∷◌, map, length, take, get_or, refl, sym, ◌∙◌, ap, arith}
use Rattle.std.proofs.lemmas.Bool.Decides.{nat_tests}
use Rattle.std.proofs.lemmas.List.{take_all}
use Rattle.std.specs.List.{zip}
use Rattle.zr_base.specs.declared.space.Entry.{Entry}
use Rattle.zr_rules.specs.Condense.{condensed, is_used}
use Rattle.zr_rules.specs.Mappings.{entry_at, in_source, target, IsRisingFrom, IsRising, HasSourceAt}
use Rattle.zr_base.specs.declared.space.CondPart.{CondPart}
use Rattle.zr_condense.specs.Condensing.{HasWorked}

abbrev pub entries_in : List (Entry × ℕ) → List Entry
entries_in ps = map (λ (p : Entry × ℕ). p.0) ps

pub zip_entries : (es : List Entry) (cs : List ℕ) → length cs ≡ length es → entries_in (zip es cs) ≡ es
zip_entries [] [] len = refl
zip_entries [] (c ∷ cs) len = absurd (omega (arith, len))
zip_entries (e ∷ es) [] len = absurd (omega (arith, len))
zip_entries (e ∷ es) (c ∷ cs) len = ap (λ xs. e ∷ xs) (zip_entries es cs (omega (arith, len)))

-- a source behind is not the first entry's
behind : (low u i : ℕ) (es : List Entry) → IsRisingFrom low es → i < length es → HasSourceAt es i u → low ≤ u
behind low u i [] m lt at = absurd (omega (arith, lt))
behind low u zero (e ∷ es) m lt at = let s = at.starts in let l = m.0 in omega (arith, s, l)
behind low u (suc i) (e ∷ es) m lt at =
    let r = behind (e.src + e.len) u i es m.2 (omega (arith, lt)) (record { starts = at.starts; ends = at.ends }) in
    let l = m.0 in
    omega (arith, r, l)

not_first : (e : Entry) (u : ℕ) → e.src + e.len ≤ u → in_source e u ≡ false
not_first e u le = grind (arith, nat_tests, le)

first_has : (e : Entry) (u : ℕ) → e.src ≤ u → u < e.src + e.len → in_source e u ≡ true
first_has e u a b = grind (arith, nat_tests, a, b)

skip : (b : Bool) (p : Entry × ℕ) (ps : List (Entry × ℕ)) (u : ℕ) → in_source p.0 u ≡ false → target (entries_in (cond b (p ∷ ps) ps)) u ≡ target (entries_in ps) u
skip true p ps u out = rw out refl
skip false p ps u out = refl

pub target_kept : (low u i : ℕ) (es : List Entry) (cs : List ℕ) → IsRisingFrom low es → length cs ≡ length es → i < length es → HasSourceAt es i u → is_used (entry_at es i, get_or cs i 0) ≡ true
    → target (entries_in (condensed es cs)) u ≡ target es u
target_kept low u i [] cs m len lt at used = absurd (omega (arith, lt))
target_kept low u i (e ∷ es) [] m len lt at used = absurd (omega (arith, len))
target_kept low u zero (e ∷ es) (c ∷ cs) m len lt at used =
    let has = first_has e u at.starts at.ends in
    ap (λ b. target (entries_in (cond b ((e, c) ∷ condensed es cs) (condensed es cs))) u) used ∙ (rw has refl)
target_kept low u (suc i) (e ∷ es) (c ∷ cs) m len lt at used =
    let later : HasSourceAt es i u = record { starts = at.starts; ends = at.ends } in
    let le = behind (e.src + e.len) u i es m.2 (omega (arith, lt)) later in
    let out = not_first e u le in
    let rest = target_kept (e.src + e.len) u i es cs m.2 (omega (arith, len)) (omega (arith, lt)) later used in
    skip (is_used (e, c)) (e, c) (condensed es cs) u out ∙ (rest ∙ rw out refl)

pub leads : (entries : List Entry) (counts : List ℕ) (c : CondPart) (i u : ℕ) → IsRising entries → length counts ≡ length entries → HasWorked entries counts c → length entries ≤ c.at
    → i < length entries → HasSourceAt entries i u → is_used (entry_at entries i, get_or counts i 0) ≡ true → target c.entries u ≡ target entries u
leads entries counts c i u m len w all lt at used =
    let es : take c.at entries ≡ entries = take_all c.at entries all in
    let cs : take c.at counts ≡ counts = take_all c.at counts (omega (arith, len, all)) in
    let kept : zip c.entries c.counts ≡ condensed entries counts = w.kept ∙ (ap (λ (xs : List Entry). condensed xs (take c.at counts)) es ∙ ap (λ (ns : List ℕ). condensed entries ns) cs) in
    let is : c.entries ≡ entries_in (condensed entries counts) = sym (zip_entries c.entries c.counts w.each) ∙ ap entries_in kept in
    ap (λ (xs : List Entry). target xs u) is ∙ target_kept 0 u i entries counts m len lt at used
