-- What lies within the blocks of a tree.
use Rattle.std.proofs.Common.{◌≡◌, ◌^◌, ◌<◌, ℕ, zero, suc, List, [], ◌∷◌, ◌++◌, length, get_or, Bool, true, false, refl, ap, arith, nat_lt}
use Rattle.std.specs.Prelude.{if◌then◌else◌}
use Rattle.std.specs.List.{sum_by, flat_map}
use Rattle.std.proofs.lemmas.List.Sums.{sum_by-append, sum_by-cons}
use Rattle.zr_bptr.specs.declared.Bptr.{Bptr}
use Rattle.zr_bptr.specs.declared.Ptr.{Ptr}
use Rattle.zr_bptr.specs.declared.Ptr.TheVariants.{Hole, At}
use Rattle.zr_bptr.specs.declared.Tree.{Tree}
use Rattle.zr_store.specs.Store.{Stored}
use Rattle.zr_tree.specs.Trees.{kids, slot, digit, leaf_at, tree_at, blocks, reach, tree_reach, tree_blocks, own}
use Rattle.zr_tree.proofs.Wholes.{Within, within_front}

pub within_same : (xs : List Bptr) → Within xs xs
within_same xs weight = omega arith

pub slot_within : (f : Ptr → List Bptr) → f Hole ≡ [] → (ps : List Ptr) (k : ℕ) → Within (f (slot ps k)) (flat_map f ps)
slot_within f none [] k weight = let e = ap (sum_by weight) none in omega (arith, e)
slot_within f none (p ∷ ps) zero weight = within_front (f p) (flat_map f ps) weight
slot_within f none (p ∷ ps) (suc k) weight =
    let rest = slot_within f none ps k weight in
    omega (arith, rest, sum_by-append weight (f p) (flat_map f ps))

hole_reach : (s : Stored) (level : ℕ) → reach s level Hole ≡ []
hole_reach s zero = refl
hole_reach s (suc below) = refl

each_within : (f g : Ptr → List Bptr) → ((p : Ptr) → Within (f p) (g p)) → (ps : List Ptr) → Within (flat_map f ps) (flat_map g ps)
each_within f g less [] weight = omega arith
each_within f g less (p ∷ ps) weight =
    let here = less p weight in
    let rest = each_within f g less ps weight in
    omega (arith, here, rest, sum_by-append weight (f p) (flat_map f ps), sum_by-append weight (g p) (flat_map g ps))

blocks_below : (s : Stored) (level : ℕ) (p : Ptr) → Within (blocks s level p) (reach s level p)
blocks_below s zero p weight = omega arith
blocks_below s (suc below) Hole weight = omega arith
blocks_below s (suc below) (At b) weight =
    let rest = each_within (blocks s below) (reach s below) (λ p. blocks_below s below p) (kids s below b) weight in
    omega (arith, rest, sum_by-cons weight b (flat_map (blocks s below) (kids s below b)), sum_by-cons weight b (flat_map (reach s below) (kids s below b)))

pub blocks_within : (s : Stored) (t : Tree) → Within (tree_blocks s t) (tree_reach s t)
blocks_within s t = blocks_below s t.height t.root

leaf_below : (s : Stored) (level : ℕ) (p : Ptr) (index : ℕ) → Within (own (leaf_at s level p index)) (reach s level p)
leaf_below s zero Hole index weight = omega arith
leaf_below s zero (At b) index weight = omega arith
leaf_below s (suc below) Hole index weight = omega arith
leaf_below s (suc below) (At b) index weight =
    let next = slot (kids s below b) (digit below index) in
    let rest = leaf_below s below next index weight in
    let one = slot_within (reach s below) (hole_reach s below) (kids s below b) (digit below index) weight in
    omega (arith, rest, one, sum_by-cons weight b (flat_map (reach s below) (kids s below b)))

chosen : (yes : Bool) (p : Ptr) (ys : List Bptr) → Within (own p) ys → Within (own (if yes then p else Hole)) ys
chosen true p ys h = h
chosen false p ys h = λ weight. omega arith

-- the leaf at an index is among the blocks of the tree
pub leaf_within : (s : Stored) (t : Tree) (index : ℕ) → Within (own (tree_at s t index)) (tree_reach s t)
leaf_within s t index = chosen (nat_lt index (32 ^ t.height)) (leaf_at s t.height t.root index) (tree_reach s t) (leaf_below s t.height t.root index)

-- ---- one of many

pub one_within : (xs : List Bptr) (i : ℕ) (d : Bptr) → i < length xs → Within (get_or xs i d ∷ []) xs
one_within [] i d lt weight = absurd (omega arith)
one_within (x ∷ xs) zero d lt weight = omega (arith, sum_by-cons weight x [], sum_by-cons weight x xs)
one_within (x ∷ xs) (suc i) d lt weight = let rest = one_within xs i d (omega arith) weight in omega (arith, rest, sum_by-cons weight x xs)

pub flat_within : {X : Type 0} (f : X → List Bptr) (xs : List X) (i : ℕ) (d : X) → i < length xs → Within (f (get_or xs i d)) (flat_map f xs)
flat_within f [] i d lt weight = absurd (omega arith)
flat_within f (x ∷ xs) zero d lt weight = within_front (f x) (flat_map f xs) weight
flat_within f (x ∷ xs) (suc i) d lt weight =
    let rest = flat_within f xs i d (omega arith) weight in
    omega (arith, rest, sum_by-append weight (f x) (flat_map f xs))

pub both_within : (f : Bptr → List Bptr) (xs : List Bptr) (i : ℕ) (d : Bptr) → i < length xs → Within (get_or xs i d ∷ f (get_or xs i d)) (xs ++ flat_map f xs)
both_within f xs i d lt weight =
    let x = get_or xs i d in
    let one = one_within xs i d lt weight in
    let rest = flat_within f xs i d lt weight in
    omega (arith, one, rest, sum_by-cons weight x [], sum_by-cons weight x (f x), sum_by-append weight xs (flat_map f xs))
