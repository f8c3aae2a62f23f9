-- A walk, pointer by pointer.
use Rattle.std.specs.Prelude.{All}
use Rattle.std.proofs.Common.{◌≡◌, ◌<◌, ◌≤◌, ℕ, suc, List, [], ◌∷◌, ◌++◌, length, get_or, take, drop, refl, sym, ◌∙◌, ap, subst, append_assoc, append-nil, drop-cons}
use Rattle.std.specs.List.{flat_map}
use Rattle.std.proofs.lemmas.Grind.{flat_map-append}
use Rattle.std.proofs.lemmas.List.{take_all, take-append-drop}
use Rattle.zr_bptr.specs.declared.Bptr.{Bptr}
use Rattle.zr_bptr.specs.declared.Ptr.{Ptr}
use Rattle.zr_bptr.specs.declared.Ptr.TheVariants.{At}
use Rattle.zr_store.specs.Store.{Stored}
use Rattle.zr_tree.specs.Blocks.{FitsAt}
use Rattle.zr_tree.specs.Trees.{kids, reach, IsWhole, IsSoundAt, MarksFront}

pub reach_of : (s : Stored) (level below : ℕ) (p : Ptr) (b : Bptr) (ps : List Ptr) → level ≡ suc below → p ≡ At b → ps ≡ kids s below b → reach s level p ≡ b ∷ flat_map (reach s below) ps
reach_of s level below p b ps level_is is kids_are =
    ap (λ (l : ℕ). reach s l p) level_is ∙ ap (λ (q : Ptr). reach s (suc below) q) is ∙ ap (λ (qs : List Ptr). b ∷ flat_map (reach s below) qs) (sym kids_are)

-- the end of the loop
pub walked : (s : Stored) (level below n : ℕ) (p : Ptr) (b : Bptr) (ps items : List Ptr) (old first out : List Bptr) → level ≡ suc below → p ≡ At b → ps ≡ kids s below b → items ≡ ps → length items ≤ n → first ≡ old ++ b ∷ [] → out ≡ first ++ flat_map (reach s below) (take n items)
    → out ≡ old ++ reach s level p
walked s level below n p b ps items old first out level_is is kids_are same le first_is out_is =
    out_is ∙ ap (λ (xs : List Bptr). xs ++ flat_map (reach s below) (take n items)) first_is
    ∙ ap (λ (qs : List Ptr). (old ++ b ∷ []) ++ flat_map (reach s below) qs) (take_all n items le ∙ same)
    ∙ append_assoc old (b ∷ []) (flat_map (reach s below) ps)
    ∙ ap (λ (xs : List Bptr). old ++ xs) (sym (reach_of s level below p b ps level_is is kids_are))

pub none_marked : (old new pointers : List Bptr) → new ≡ old → MarksFront old new pointers
none_marked old new pointers e = record { front = []; rest = pointers; marked = e ∙ sym (append-nil old); parts = refl }

pub all_marked : (old new pointers : List Bptr) → new ≡ old ++ pointers → MarksFront old new pointers
all_marked old new pointers e = record { front = pointers; rest = []; marked = e; parts = append-nil pointers }

split_at : (f : Ptr → List Bptr) (items : List Ptr) (i : ℕ) (x : Ptr) → i < length items → x ≡ get_or items i x → flat_map f items ≡ flat_map f (take i items) ++ (f x ++ flat_map f (drop (suc i) items))
split_at f items i x lt is =
    ap (flat_map f) (sym (take-append-drop i items)) ∙ flat_map-append f (take i items) (drop i items)
    ∙ ap (λ (qs : List Ptr). flat_map f (take i items) ++ flat_map f qs) (drop-cons items i x lt ∙ ap (λ (y : Ptr). y ∷ drop (suc i) items) (sym is))

-- ---- what was read is sound

pub sound_block : (s : Stored) (level below n : ℕ) (p : Ptr) (b : Bptr) (ps items : List Ptr) → level ≡ suc below → p ≡ At b → ps ≡ kids s below b → items ≡ ps → length items ≤ n → FitsAt level p → IsWhole s b → All (IsSoundAt s below) (take n items) → IsSoundAt s level p
sound_block s level below n p b ps items level_is is kids_are same le fits whole all =
    let here = subst (λ (q : Ptr). FitsAt (suc below) q) is (subst (λ (l : ℕ). FitsAt l p) level_is fits) in
    subst (λ (l : ℕ). IsSoundAt s l p) (sym level_is) (subst (IsSoundAt s (suc below)) (sym is) (here, whole, subst (All (IsSoundAt s below)) (take_all n items le ∙ same ∙ kids_are) all))

-- a walk that ended below one of the pointers
pub ended_below : (s : Stored) (level below i : ℕ) (p x : Ptr) (b : Bptr) (ps items : List Ptr) (old first mid new : List Bptr) → level ≡ suc below → p ≡ At b → ps ≡ kids s below b → items ≡ ps → i < length items → x ≡ get_or items i x → first ≡ old ++ b ∷ []
    → mid ≡ first ++ flat_map (reach s below) (take i items) → MarksFront mid new (reach s below x) → MarksFront old new (reach s level p)
ended_below s level below i p x b ps items old first mid new level_is is kids_are same lt x_is first_is mid_is m =
    let before = flat_map (reach s below) (take i items) in
    let after = flat_map (reach s below) (drop (suc i) items) in
    record {
      front = b ∷ before ++ m.front;
      rest = m.rest ++ after;
      marked = m.marked ∙ ap (λ (xs : List Bptr). xs ++ m.front) (mid_is ∙ ap (λ (xs : List Bptr). xs ++ before) first_is ∙ append_assoc old (b ∷ []) before) ∙ append_assoc old (b ∷ before) m.front;
      parts = ap (λ (xs : List Bptr). b ∷ xs)
          (append_assoc before m.front (m.rest ++ after) ∙ ap (λ (xs : List Bptr). before ++ xs) (sym (append_assoc m.front m.rest after) ∙ ap (λ (xs : List Bptr). xs ++ after) m.parts)
          ∙ sym (split_at (reach s below) items i x lt x_is) ∙ ap (flat_map (reach s below)) same)
          ∙ sym (reach_of s level below p b ps level_is is kids_are);
    }
