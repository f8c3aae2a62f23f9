-- Blocks that are marked one after the other.
use Rattle.std.specs.List.{flat_map}
use Rattle.std.proofs.Common.{◌≡◌, ◌<◌, ◌+◌, ℕ, suc, List, [], ◌∷◌, ◌++◌, length, get_or, sum_by, take, refl, sym, ◌∙◌, ap, subst, arith, append-nil, append_assoc}
use Rattle.std.proofs.Math.Seq.{take-suc}
use Rattle.std.proofs.lemmas.Grind.{flat_map-append}
use Rattle.std.proofs.lemmas.List.Sums.{sum_by-append, sum_by-cons}
use Rattle.zr_bptr.specs.declared.Bptr.{Bptr}
use Rattle.zr_store.specs.Store.{Stored}
use Rattle.zr_meta.specs.declared.Stream.{Stream}
use Rattle.zr_import.specs.Units.{MarksAll}
use Rattle.zr_import.specs.Shapes.{AddsLeaves}
use Rattle.zr_import.specs.Words.{HaveWords}
use Rattle.zr_root.specs.Streams.{HasWords}
use Rattle.zr_import.proofs.Leaves.{adds_then}

module _ {M : Type 0} (Marks : M → M → Bptr → Type 0) where
  pub marks_then : (txg : ℕ) (a b c : M) (xs ys : List Bptr) → MarksAll Marks txg a b xs → MarksAll Marks txg b c ys → MarksAll Marks txg a c (xs ++ ys)
  marks_then txg a b c [] ys one two = subst (λ (o : M). MarksAll Marks txg o c ys) one two
  marks_then txg a b c (x ∷ xs) ys (birth, (mid, (marked, rest))) two = (birth, (mid, (marked, marks_then txg mid b c xs ys rest two)))

pub next_flat : {X : Type 0} (f : X → List Bptr) (items : List X) (i : ℕ) (d : X) → i < length items → flat_map f (take (i + 1) items) ≡ flat_map f (take i items) ++ f (get_or items i d)
next_flat {X} f items i d lt =
    let n : i + 1 ≡ suc i = omega arith in
    ap (λ (k : ℕ). flat_map f (take k items)) n ∙ ap (flat_map f) (take-suc items i d lt) ∙ flat_map-append f (take i items) (get_or items i d ∷ [])
    ∙ ap (λ (xs : List Bptr). flat_map f (take i items) ++ xs) (append-nil (f (get_or items i d)))

-- the blocks of one more
pub marks_more : {X M : Type 0} (Marks : M → M → Bptr → Type 0) (txg : ℕ) (f : X → List Bptr) (items : List X) (i : ℕ) (d : X) (a b c : M) → i < length items → MarksAll Marks txg a b (flat_map f (take i items)) → MarksAll Marks txg b c (f (get_or items i d))
    → MarksAll Marks txg a c (flat_map f (take (i + 1) items))
marks_more {X} {M} Marks txg f items i d a b c lt one two = subst (MarksAll Marks txg a c) (sym (next_flat f items i d lt)) (marks_then Marks txg a b c (flat_map f (take i items)) (f (get_or items i d)) one two)

-- the leaves of one more
pub adds_more : {X : Type 0} (s : Stored) (f : X → List Bptr) (items : List X) (i : ℕ) (d : X) (a b c : List ℕ) → i < length items → AddsLeaves s (flat_map f (take i items)) a b → AddsLeaves s (f (get_or items i d)) b c → AddsLeaves s (flat_map f (take (i + 1) items)) a c
adds_more {X} s f items i d a b c lt one two = subst (λ (xs : List Bptr). AddsLeaves s xs a c) (sym (next_flat f items i d lt)) (adds_then s (flat_map f (take i items)) (f (get_or items i d)) a b c one two)

-- the words of one stream more
words_then : (s : Stored) (xs : List Stream) (t : Stream) (a own : List ℕ) → HaveWords s xs a → HasWords s t own → HaveWords s (xs ++ t ∷ []) (a ++ own)
words_then s [] t a own one has = (own, ([], (ap (λ (ys : List ℕ). ys ++ own) one ∙ sym (append-nil own), (has, refl))))
words_then s (x ∷ xs) t a own (first, (rest, (is, (mine, others)))) has =
    (first, (rest ++ own, (ap (λ (ys : List ℕ). ys ++ own) is ∙ append_assoc first rest own, (mine, words_then s xs t rest own others has))))

pub words_next : (s : Stored) (items : List Stream) (i : ℕ) (d : Stream) (a own : List ℕ) → i < length items → HaveWords s (take i items) a → HasWords s (get_or items i d) own → HaveWords s (take (i + 1) items) (a ++ own)
words_next s items i d a own lt one has =
    let n : i + 1 ≡ suc i = omega arith in
    subst (λ (xs : List Stream). HaveWords s xs (a ++ own)) (sym (ap (λ (k : ℕ). take k items) n ∙ take-suc items i d lt)) (words_then s (take i items) (get_or items i d) a own one has)

-- one more to count
pub sum_next : {X : Type 0} (f : X → ℕ) (items : List X) (i : ℕ) (d : X) → i < length items → sum_by f (take (i + 1) items) ≡ sum_by f (take i items) + f (get_or items i d)
sum_next {X} f items i d lt =
    let n : i + 1 ≡ suc i = omega arith in
    let e = ap (λ (k : ℕ). sum_by f (take k items)) n ∙ ap (sum_by f) (take-suc items i d lt) ∙ sum_by-append f (take i items) (get_or items i d ∷ []) in
    let one = sum_by-cons f (get_or items i d) [] in
    omega (arith, e, one)

pub count_next : (items : List Stream) (i : ℕ) (d : Stream) (old own new : ℕ) → i < length items → old ≡ sum_by (λ (t : Stream). t.words) (take i items) → own ≡ (get_or items i d).words → new ≡ old + own → new ≡ sum_by (λ (t : Stream). t.words) (take (i + 1) items)
count_next items i d old own new lt before here is = let e = sum_next (λ (t : Stream). t.words) items i d lt in omega (arith, e, before, here, is)
