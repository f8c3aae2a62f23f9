-- An object that is dropped, whose blocks all went.
use Rattle.std.proofs.Common.{◌≡◌, ◌∙◌, ◌<◌, ◌≤◌, ℕ, suc, List, [], ◌∷◌, ◌++◌, map, Option, Some, None, refl, sym, ap, subst, arith, ⊎_elim}
use Rattle.std.specs.List.{sum_by}
use Rattle.std.specs.FinMap as fin
use Rattle.std.proofs.lemmas.Bool.{eq-eqb, ne_eqb, cases_lt}
use Rattle.std.proofs.lemmas.List.Sums.{sum_by-append}
use Rattle.zr_bptr.specs.declared.Bptr.{Bptr}
use Rattle.zr_bptr.specs.declared.ObjRec.{ObjRec}
use Rattle.zr_store.specs.Store.{Stored, Swaps, AreStored, IsOnce}
use Rattle.zr_tree.specs.Trees.{tree_blocks, tree_reach}
use Rattle.zr_txg.specs.Tables.{IsRisingFrom, value_at}
use Rattle.zr_txg.proofs.Keyed.{value_at-low}
use Rattle.zr_txg.specs.Changes.{Changes}
use Rattle.zr_lookup.specs.Objects.{record_now, AreObjectBlocks}
use Rattle.zr_change.specs.Changes.{SetsObject}
use Rattle.zr_model.specs.Objects.{Objects}
use Rattle.zr_moves.specs.Account.{Account, IsObjectAt}
use Rattle.zr_held.specs.Held.{AreBlocksNow, HasObjects}
use Rattle.zr_held.specs.Steps.{ChangesBlocks}
use Rattle.zr_held.proofs.Frames.{leaf_of}
use Rattle.zr_held.proofs.One.{objects_then, object_stored}
use Rattle.zr_held.proofs.Making.{group_of, record_set}
use Rattle.zr_held.proofs.Bytes.{taken_here, taken_there}

-- ---- a list by rising key is known by its values

first_key : {V : Type 0} (low : ℕ) (x y : ℕ × V) (xs ys : List (ℕ × V)) → IsRisingFrom low (x ∷ xs) → IsRisingFrom low (y ∷ ys)
    → ((k : ℕ) → value_at (x ∷ xs) k ≡ value_at (y ∷ ys) k) → y.0 ≤ x.0
first_key low x y xs ys up down same = ⊎_elim
    (λ lt.
    let here : value_at (x ∷ xs) x.0 ≡ Some x.1 = rw (eq-eqb x.0 x.0 refl) refl in
    let there : value_at (y ∷ ys) x.0 ≡ None = value_at-low y.0 x.0 (y ∷ ys) (omega arith, down.1) lt in
    absurd (let e = sym here ∙ (same x.0 ∙ there) in cc))
    (λ le. omega arith)
    (cases_lt x.0 y.0)

rest_same : {V : Type 0} (x y : ℕ × V) (xs ys : List (ℕ × V)) → x.0 ≡ y.0 → IsRisingFrom (suc x.0) xs → IsRisingFrom (suc y.0) ys
    → ((k : ℕ) → value_at (x ∷ xs) k ≡ value_at (y ∷ ys) k) → (k : ℕ) → value_at xs k ≡ value_at ys k
rest_same x y xs ys keys up down same k = ⊎_elim
    (λ lt. value_at-low (suc x.0) k xs up lt ∙ sym (value_at-low (suc y.0) k ys down (omega (arith, keys, lt))))
    (λ le.
    let a : value_at (x ∷ xs) k ≡ value_at xs k = rw (ne_eqb x.0 k (λ e. omega (arith, e, le))) refl in
    let b : value_at (y ∷ ys) k ≡ value_at ys k = rw (ne_eqb y.0 k (λ e. omega (arith, e, le, keys))) refl in
    sym a ∙ (same k ∙ b))
    (cases_lt k (suc x.0))

pub one_list : {V : Type 0} (low : ℕ) (xs ys : List (ℕ × V)) → IsRisingFrom low xs → IsRisingFrom low ys → ((k : ℕ) → value_at xs k ≡ value_at ys k) → xs ≡ ys
one_list low [] [] up down same = refl
one_list low [] (y ∷ ys) up down same = absurd (let here : value_at (y ∷ ys) y.0 ≡ Some y.1 = rw (eq-eqb y.0 y.0 refl) refl in let e = same y.0 ∙ here in cc)
one_list low (x ∷ xs) [] up down same = absurd (let here : value_at (x ∷ xs) x.0 ≡ Some x.1 = rw (eq-eqb x.0 x.0 refl) refl in let e = sym (same x.0) ∙ here in cc)
one_list low (x ∷ xs) (y ∷ ys) up down same =
    let le = first_key low x y xs ys up down same in
    let ge = first_key low y x ys xs down up (λ k. sym (same k)) in
    let keys : x.0 ≡ y.0 = omega (arith, le, ge) in
    let here : value_at (x ∷ xs) x.0 ≡ Some x.1 = rw (eq-eqb x.0 x.0 refl) refl in
    let there : value_at (y ∷ ys) x.0 ≡ Some y.1 = rw (eq-eqb y.0 x.0 (sym keys)) refl in
    let values : x.1 ≡ y.1 = let e = sym here ∙ (same x.0 ∙ there) in cc in
    let first : x ≡ y = (λ i. (keys i, values i)) in
    let rest = one_list (suc x.0) xs ys up.1 (subst (λ (k : ℕ). IsRisingFrom (suc k) ys) (sym keys) down.1) (rest_same x y xs ys keys up.1 down.1 same) in
    ap (λ (z : _). z ∷ xs) first ∙ ap (λ (zs : _). y ∷ zs) rest

-- an object has one list of blocks
pub one_blocks : (s : Stored) (g : Changes) (id : ℕ) (r : ObjRec) (xs ys : List Bptr) → AreObjectBlocks s g id r xs → AreObjectBlocks s g id r ys → xs ≡ ys
one_blocks s g id r xs ys a b =
    let leaves = one_list 0 a.leaves b.leaves a.are_leaves.rising b.are_leaves.rising (λ k. a.are_leaves.each k ∙ sym (b.are_leaves.each k)) in
    a.all ∙ (ap (λ (ls : List (ℕ × Bptr)). map leaf_of ls ++ tree_blocks s r.tree) leaves ∙ sym b.all)

module _ (s n : Stored) (a b : Account) (objects : Objects) (id : ℕ) (r : ObjRec) (blocks : List Bptr) (low : id < 65536) (dir : b.dir ≡ a.dir)
    (found : record_now s a.dir a.changes id ≡ Some r) (are : AreObjectBlocks s a.changes id r blocks) (sets : SetsObject id None a.changes b.changes)
    (swaps : Swaps s n blocks []) (once : IsOnce n) (has : HasObjects s a objects) where
  had : AreObjectBlocks s a.changes id r (has.blocks.blocks id)
  had = subst (λ (x : Option ObjRec). AreBlocksNow s a.changes id x (has.blocks.blocks id)) found (has.blocks.each id)

  same_blocks : has.blocks.blocks id ≡ blocks
  same_blocks = one_blocks s a.changes id r (has.blocks.blocks id) blocks had are

  gone : record_now n b.dir b.changes id ≡ None
  gone = record_set n id None a b low sets

  changes_all : ChangesBlocks s n b id (has.blocks.blocks id) [] blocks []
  changes_all = record {
    swaps = swaps;
    among = λ weight. let e = ap (sum_by weight) same_blocks in omega (arith, e);
    balance = λ weight. let e = ap (sum_by weight) same_blocks in omega (arith, e);
    now = subst (λ (x : Option ObjRec). AreBlocksNow n b.changes id x []) (sym gone) (refl, λ i. sets.blocks id i ∙ rw (eq-eqb id id refl) refl);
    once = once;
  }

  pub dropped : HasObjects n b (fin.remove objects id)
  dropped = objects_then s n a b id blocks [] [] low has.blocks (group_of id None a b dir sets) changes_all objects (fin.remove objects id) has.each
      (λ i apart. taken_there objects id i (λ e. apart (sym e)))
      (subst (λ (x : Option ObjRec). IsObjectAt n b id x (fin.get (fin.remove objects id) id)) (sym gone) (taken_here objects id))

-- its blocks are stored
pub drop_stored : (s : Stored) (a : Account) (objects : Objects) (id : ℕ) (r : ObjRec) (blocks : List Bptr) → HasObjects s a objects → record_now s a.dir a.changes id ≡ Some r → AreObjectBlocks s a.changes id r blocks → AreStored blocks s
drop_stored s a objects id r blocks has found are weight =
    let mine = subst (λ (x : Option ObjRec). AreBlocksNow s a.changes id x (has.blocks.blocks id)) found (has.blocks.each id) in
    let e = ap (sum_by weight) (one_blocks s a.changes id r (has.blocks.blocks id) blocks mine are) in
    let all = object_stored s a.dir a.changes has.blocks id weight in
    omega (arith, e, all, sum_by-append weight (tree_reach s a.dir) (has.blocks.blocks id))
