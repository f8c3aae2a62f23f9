-- A walk, leaf by leaf and object by object.
use Rattle.std.proofs.Common.{◌≡◌, ◌∙◌, ◌<◌, ◌+◌, ℕ, suc, List, [], ◌∷◌, ◌++◌, length, get_or, take, nat_eq, Result, sym, ap, subst, arith, append_assoc, append-nil, take-suc}
use Rattle.std.specs.Prelude.{if◌then◌else◌, Option, All}
use Rattle.std.specs.List.{sum_by, flat_map}
use Rattle.std.proofs.lemmas.List.Sums.{sum_by-append, sum_by-cons}
use Rattle.std.proofs.lemmas.List.Elements.{All-push}
use Rattle.std.proofs.lemmas.Grind.{flat_map-append}
use Rattle.zr_bptr.specs.declared.Bptr.{Bptr}
use Rattle.zr_bptr.specs.declared.Tree.{Tree}
use Rattle.zr_bptr.specs.declared.ObjRec.{ObjRec}
use Rattle.zr_store.specs.Store.{Stored}
use Rattle.zr_store.specs.declared.StoreErr.{StoreErr}
use Rattle.zr_tree.specs.Trees.{tree_blocks, tree_reach}
use Rattle.zr_tree.proofs.Wholes.{Within}
use Rattle.zr_objset.specs.Records.{records_in, object_reach, leaf_reach, all_reach}
use Rattle.zr_objset.specs.Errors.{IsBadLeaf, TellsOfLeaves}
use Rattle.zr_objset.proofs.Within.{blocks_within, one_within, flat_within, both_within}
use Rattle.zr_objset.proofs.Tells.{tells_more}

pub leaf_reach_is : (s : Stored) (b : Bptr) → b.level ≡ 0 → leaf_reach s b ≡ flat_map (object_reach s) (records_in (s.bytes b))
leaf_reach_is s b level_is = ap (λ (n : ℕ). if nat_eq n 0 then flat_map (object_reach s) (records_in (s.bytes b)) else []) level_is

-- the blocks of one of the objects of a leaf
pub object_within : (s : Stored) (b : Bptr) (items : List (Option ObjRec)) (i : ℕ) (d : Option ObjRec) → b.level ≡ 0 → items ≡ records_in (s.bytes b) → i < length items → Within (object_reach s (get_or items i d)) (b ∷ leaf_reach s b)
object_within s b items i d level_is items_are lt weight =
    let one = flat_within (object_reach s) items i d lt weight in
    let all = ap (sum_by weight) (leaf_reach_is s b level_is ∙ ap (flat_map (object_reach s)) (sym items_are)) in
    omega (arith, one, all, sum_by-cons weight b (leaf_reach s b))

-- the tree blocks of the directory
pub directory_within : (s : Stored) (t : Tree) → Within (tree_blocks s t) (all_reach s t)
directory_within s t weight =
    let one = blocks_within s t weight in
    omega (arith, one, sum_by-append weight (tree_reach s t) (flat_map (leaf_reach s) (tree_reach s t)))

-- an error that a leaf of the directory has brought
pub leaf_tells : {T : Type 0} (s : Stored) (t : Tree) (items : List Bptr) (i : ℕ) (d : Bptr) (r : Result T StoreErr) → items ≡ tree_reach s t → i < length items
    → TellsOfLeaves s (get_or items i d ∷ leaf_reach s (get_or items i d)) (get_or items i d ∷ []) (IsBadLeaf s) r → TellsOfLeaves s (all_reach s t) (tree_reach s t) (IsBadLeaf s) r
leaf_tells s t items i d r items_are lt here =
    let x = get_or items i d in
    subst (λ (xs : List Bptr). TellsOfLeaves s (xs ++ flat_map (leaf_reach s) xs) xs (IsBadLeaf s) r) items_are
    (tells_more s (x ∷ leaf_reach s x) (items ++ flat_map (leaf_reach s) items) (x ∷ []) items (IsBadLeaf s) (IsBadLeaf s) r (both_within (leaf_reach s) items i d lt) (one_within items i d lt) (λ y bad. bad) here)

take_next : {X : Type 0} (items : List X) (i : ℕ) (d : X) → i < length items → take (i + 1) items ≡ take i items ++ get_or items i d ∷ []
take_next {X} items i d lt = let e : i + 1 ≡ suc i = omega arith in ap (λ (n : ℕ). take n items) e ∙ take-suc items i d lt

-- what holds of all before holds of one more
pub all_more : {X : Type 0} (P : X → Type 0) (items : List X) (i : ℕ) (d : X) → i < length items → All P (take i items) → P (get_or items i d) → All P (take (i + 1) items)
all_more {X} P items i d lt all h = subst (All P) (sym (take_next items i d lt)) (All-push P (take i items) (get_or items i d) all h)

-- the blocks of one more
pub reach_more : {X : Type 0} (f : X → List Bptr) (items : List X) (i : ℕ) (d : X) (old mid new : List Bptr) → i < length items → mid ≡ old ++ flat_map f (take i items) → new ≡ mid ++ f (get_or items i d) → new ≡ old ++ flat_map f (take (i + 1) items)
reach_more {X} f items i d old mid new lt mid_is new_is =
    let x = get_or items i d in
    let before = flat_map f (take i items) in
    let next = flat_map-append f (take i items) (x ∷ []) in
    new_is ∙ ap (λ (m : List Bptr). m ++ f x) mid_is ∙ append_assoc old before (f x)
    ∙ ap (λ (ys : List Bptr). old ++ ys) (ap (λ (zs : List Bptr). before ++ zs) (sym (append-nil (f x))) ∙ sym next ∙ ap (flat_map f) (sym (take_next items i d lt)))
