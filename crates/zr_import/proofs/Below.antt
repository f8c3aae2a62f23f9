-- What a walk has done below one block.
use Rattle.std.specs.List.{flat_map}
use Rattle.std.proofs.Common.{◌≡◌, ◌<◌, ◌≤◌, ◌+◌, ◌*◌, ◌^◌, ℕ, suc, List, [], ◌∷◌, length, take, sym, ◌∙◌, ap, subst, arith, ⊎_elim}
use Rattle.std.proofs.lemmas.Bool.{cases_lt}
use Rattle.std.proofs.lemmas.List.{take_all}
use Rattle.zr_bptr.specs.declared.Bptr.{Bptr}
use Rattle.zr_bptr.specs.declared.Ptr.{Ptr}
use Rattle.zr_bptr.specs.declared.Ptr.TheVariants.{At}
use Rattle.zr_store.specs.Store.{Stored}
use Rattle.zr_tree.specs.Trees.{kids, slot, reach, leaves_below}
use Rattle.zr_tree.proofs.Walking.{reach_of}
use Rattle.zr_import.specs.Shapes.{HasFirst, AddsLeaves}
use Rattle.zr_import.specs.Units.{MarksAll}
use Rattle.zr_import.proofs.Marking.{marks_then}

pub marks_block : {M : Type 0} (Marks : M → M → Bptr → Type 0) (s : Stored) (txg level below n : ℕ) (p : Ptr) (b : Bptr) (ps items : List Ptr) (old mid new : M) → level ≡ suc below → p ≡ At b → ps ≡ kids s below b → items ≡ ps → length items ≤ n
    → MarksAll Marks txg old mid (b ∷ []) → MarksAll Marks txg mid new (flat_map (reach s below) (take n items)) → MarksAll Marks txg old new (reach s level p)
marks_block {M} Marks s txg level below n p b ps items old mid new level_is is kids_are same le one rest =
    let all = subst (λ (qs : List Ptr). MarksAll Marks txg mid new (flat_map (reach s below) qs)) (take_all n items le ∙ same) rest in
    subst (MarksAll Marks txg old new) (sym (reach_of s level below p b ps level_is is kids_are)) (marks_then Marks txg old mid new (b ∷ []) (flat_map (reach s below) ps) one all)

leaves_of : (s : Stored) (level below : ℕ) (p : Ptr) (b : Bptr) (ps : List Ptr) → level ≡ suc below → p ≡ At b → ps ≡ kids s below b → leaves_below s level p ≡ flat_map (leaves_below s below) ps
leaves_of s level below p b ps level_is is kids_are =
    ap (λ (l : ℕ). leaves_below s l p) level_is ∙ ap (λ (q : Ptr). leaves_below s (suc below) q) is ∙ ap (λ (qs : List Ptr). flat_map (leaves_below s below) qs) (sym kids_are)

pub adds_block : (s : Stored) (level below n : ℕ) (p : Ptr) (b : Bptr) (ps items : List Ptr) (old mid new : List ℕ) → level ≡ suc below → p ≡ At b → ps ≡ kids s below b → items ≡ ps → length items ≤ n
    → mid ≡ old → AddsLeaves s (flat_map (leaves_below s below) (take n items)) mid new → AddsLeaves s (leaves_below s level p) old new
adds_block s level below n p b ps items old mid new level_is is kids_are same le mid_is adds =
    let all = subst (λ (qs : List Ptr). AddsLeaves s (flat_map (leaves_below s below) qs) mid new) (take_all n items le ∙ same) adds in
    subst (λ (xs : List Bptr). AddsLeaves s xs old new) (sym (leaves_of s level below p b ps level_is is kids_are)) (subst (λ (o : List ℕ). AddsLeaves s (flat_map (leaves_below s below) ps) o new) mid_is all)

pub adds_leaf : (s : Stored) (level : ℕ) (p : Ptr) (b : Bptr) (old new : List ℕ) → level ≡ 0 → p ≡ At b → AddsLeaves s (b ∷ []) old new → AddsLeaves s (leaves_below s level p) old new
adds_leaf s level p b old new level_is is one = subst (λ (l : ℕ). AddsLeaves s (leaves_below s l p) old new) (sym level_is) (subst (λ (q : Ptr). AddsLeaves s (leaves_below s 0 q) old new) (sym is) one)

pub first_more : (s : Stored) (n units below index i : ℕ) (ps : List Ptr) → HasFirst s n units below (index + i * 32 ^ below) (slot ps i)
    → ((k : ℕ) → k < i → HasFirst s n units below (index + k * 32 ^ below) (slot ps k)) → (k : ℕ) → k < i + 1 → HasFirst s n units below (index + k * 32 ^ below) (slot ps k)
first_more s n units below index i ps one before k lt =
    ⊎_elim
    (λ less. before k less)
    (λ ge. let e : i ≡ k = omega (arith, lt, ge) in subst (λ (j : ℕ). HasFirst s n units below (index + j * 32 ^ below) (slot ps j)) e one)
    (cases_lt k i)
