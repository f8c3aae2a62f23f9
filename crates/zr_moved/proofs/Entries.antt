-- Words spell at most one list of entries, and each of them fits 64 bits.
use Rattle.std.proofs.Common.{◌≡◌, ℕ, ◌+◌, ◌*◌, ◌<◌, ◌^◌, List, [], ◌∷◌, refl, ◌∙◌, ap, arith}
use Rattle.std.specs.Prelude.{All}
use Rattle.std.specs.List.{AllByRecursion, flat_map}
use Rattle.std.proofs.lemmas.List.Elements.{All-cons, All-nil}
use Rattle.zr_base.specs.declared.space.Entry.{Entry}
use Rattle.zr_rules.specs.Logs.{IsStorable, entry_words}

abbrev made : ℕ → ℕ → ℕ → ℕ → Entry
made src dev dst len = record { src = src; dev = dev; dst = dst; len = len }

-- the three words tell the entry
one_entry : (e f : Entry) → IsStorable e → IsStorable f → 8 * e.src ≡ 8 * f.src → 8 * e.len + 2 ^ 32 * e.dev ≡ 8 * f.len + 2 ^ 32 * f.dev → 8 * e.dst ≡ 8 * f.dst → e ≡ f
one_entry e f is has a b c =
    let short = is.to.short in
    let also = has.to.short in
    let src : e.src ≡ f.src = omega (arith, a) in
    let dev : e.dev ≡ f.dev = omega (arith, b, short, also) in
    let len : e.len ≡ f.len = omega (arith, b, dev) in
    let dst : e.dst ≡ f.dst = omega (arith, c) in
    ap (λ (n : ℕ). made n e.dev e.dst e.len) src ∙ ap (λ (n : ℕ). made f.src n e.dst e.len) dev ∙ ap (λ (n : ℕ). made f.src f.dev n e.len) dst ∙ ap (λ (n : ℕ). made f.src f.dev f.dst n) len

pub one_mapping : (es fs : List Entry) → AllByRecursion IsStorable es → AllByRecursion IsStorable fs → flat_map entry_words es ≡ flat_map entry_words fs → es ≡ fs
one_mapping [] [] is has same = refl
one_mapping [] (f ∷ fs) is has same = absurd cc
one_mapping (e ∷ es) [] is has same = absurd cc
one_mapping (e ∷ es) (f ∷ fs) is has same =
    let a : 8 * e.src ≡ 8 * f.src = cc in
    let b : 8 * e.len + 2 ^ 32 * e.dev ≡ 8 * f.len + 2 ^ 32 * f.dev = cc in
    let c : 8 * e.dst ≡ 8 * f.dst = cc in
    let rest : flat_map entry_words es ≡ flat_map entry_words fs = cc in
    ap (λ (x : Entry). x ∷ es) (one_entry e f is.0 has.0 a b c) ∙ ap (λ (xs : List Entry). f ∷ xs) (one_mapping es fs is.1 has.1 rest)

pub words_small : (es : List Entry) → AllByRecursion IsStorable es → All (λ (n : ℕ). n < 2 ^ 64) (flat_map entry_words es)
words_small [] is = All-nil (λ (n : ℕ). n < 2 ^ 64)
words_small (e ∷ es) is =
    let source = is.0.source in
    let short = is.0.to.short in
    let dev = is.0.to.dev in
    let start = is.0.to.start in
    All-cons (λ (n : ℕ). n < 2 ^ 64) (8 * e.src) ((8 * e.len + 2 ^ 32 * e.dev) ∷ 8 * e.dst ∷ flat_map entry_words es) (omega (arith, source))
    (All-cons (λ (n : ℕ). n < 2 ^ 64) (8 * e.len + 2 ^ 32 * e.dev) (8 * e.dst ∷ flat_map entry_words es) (omega (arith, short, dev))
    (All-cons (λ (n : ℕ). n < 2 ^ 64) (8 * e.dst) (flat_map entry_words es) (omega (arith, start)) (words_small es is.1)))
