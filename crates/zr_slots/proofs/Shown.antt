-- What a slot shows, by its place in the list.
use Rattle.std.proofs.Common.{◌≡◌, ℕ, zero, suc, ◌<◌, ◌≤◌, List, [], ◌∷◌, length, get_or, true, false, Option, Some, None, refl, sym, ◌∙◌, ap, arith}
use Rattle.std.specs.Prelude.{Contains, is_some, ◌==◌}
use Rattle.std.proofs.lemmas.Bool.{eqb-true}
use Rattle.std.proofs.lemmas.List.{get_or_read}
use Rattle.zr_base.specs.Readers.{Reads}
use Rattle.zr_label.specs.declared.root.Uber.{Uber}
use Rattle.zr_label.specs.declared.root.Label.{Label}
use Rattle.zr_label.specs.declared.root.Newer.{Newer}
use Rattle.zr_label.specs.declared.root.Seen.{Seen}
use Rattle.zr_image.specs.Current.{seen_at, IsShownAt, IsShown, IsUnknown}

-- the item at a place is one of the list
pub contains_at : {X : Type 0} (xs : List X) (i : ℕ) (d : X) → i < length xs → Contains xs (get_or xs i d)
contains_at [] i d lt = absurd (omega arith)
contains_at (x ∷ xs) zero d lt = (0, omega arith, refl)
contains_at (x ∷ xs) (suc i) d lt = let h = contains_at xs i d (omega arith) in let in_list = h.1 in (suc h.0, omega arith, h.2)

-- the roots that were read from the item are those of the slot
pub roots_read : (seen : List Seen) (slot : ℕ) (r : Seen) (us : List Uber) → slot < length seen → r ≡ get_or seen slot r → us ≡ (get_or seen slot r).ubers → us ≡ (seen_at seen slot).ubers
roots_read seen slot r us lt is read =
    read ∙ (ap (λ (s : Seen). s.ubers) (sym is) ∙ ap (λ (s : Seen). s.ubers) (get_or_read seen slot r lt is (record { label = None; ubers = []; newer = None })))

-- a slot that shows a root is one of the list
pub shown_in : (seen : List Seen) (k : ℕ) (v : Uber) → IsShownAt seen k v → k < length seen
shown_in [] k v h = let lt = h.1 in absurd (omega arith)
shown_in (s ∷ seen) zero v h = omega arith
shown_in (s ∷ seen) (suc k) v h = let lt = shown_in seen k v h in omega arith

-- a slot with a label is one of the list
pub labelled_in : (seen : List Seen) (k : ℕ) (l : Label) → (seen_at seen k).label ≡ Some l → k < length seen
labelled_in [] k l h = absurd cc
labelled_in (s ∷ seen) zero l h = omega arith
labelled_in (s ∷ seen) (suc k) l h = let lt = labelled_in seen k l h in omega arith

pub not_unknown : (seen : List Seen) (slot : ℕ) (label : Label) (newer : Newer) → (seen_at seen slot).label ≡ Some label → (seen_at seen slot).newer ≡ Some newer →
    (u : Uber) → IsShown seen u → u.guid ≡ label.guid → newer.txg ≤ u.txg → (x : Newer) → ¬ IsUnknown seen slot x
not_unknown seen slot label newer is new u shown guid le x h =
    let both : Some label ≡ Some h.label = sym is ∙ h.label_is in
    let news : Some newer ≡ Some x = sym new ∙ h.newer_is in
    let same : label ≡ h.label = cc in
    let newest : newer ≡ x = cc in
    let lt = h.above u shown (guid ∙ ap (λ (l : Label). l.guid) same) in
    let e = ap (λ (y : Newer). y.txg) newest in
    omega (arith, lt, le, e)

pub some_root : (us : List Uber) → false ≡ (length us == 0) → (u : Uber) × Contains us u
some_root [] h = absurd cc
some_root (u ∷ us) h = (u, (0, omega arith, refl))

pub no_root : (us : List Uber) → true ≡ (length us == 0) → (u : Uber) → ¬ Contains us u
no_root [] h u has = let lt = has.1 in omega arith
no_root (v ∷ us) h u has = let e = eqb-true (length (v ∷ us)) 0 (sym h) in omega (arith, e)

pub reads_none : (Is : Newer → Type 0) (r : Option Newer) → is_some r ≡ false → Reads Is r → (x : Newer) → ¬ Is x
reads_none Is None none h = h
reads_none Is (Some y) none h = absurd cc
