-- Errors that tell of leaves.
use Rattle.std.proofs.Common.{◌≡◌, ◌∙◌, ◌<◌, inl, inr, ℕ, List, [], ◌∷◌, Result, Err, true, sym, ap, subst, arith}
use Rattle.std.specs.Prelude.{IsErrOf}
use Rattle.std.proofs.lemmas.List.Sums.{sum_by-cons}
use Rattle.std.proofs.lemmas.Bool.{false≢true}
use Rattle.sha2.specs.Sha256.{sha256}
use Rattle.zr_base.specs.declared.space.Dva.{Dva}
use Rattle.zr_bptr.specs.declared.Bptr.{Bptr}
use Rattle.zr_bptr.specs.declared.Ptr.{Ptr}
use Rattle.zr_bptr.specs.declared.Ptr.TheVariants.{At}
use Rattle.zr_bptr.specs.declared.Tree.{Tree}
use Rattle.zr_store.specs.Store.{Stored, hits}
use Rattle.zr_store.specs.Causes.{Account, HasCause, IsOf}
use Rattle.zr_store.specs.declared.StoreErr.{StoreErr}
use Rattle.zr_store.specs.declared.StoreErr.TheVariants.{Malformed, Damaged, Unresolved}
use Rattle.zr_store.proofs.Causes.{again}
use Rattle.zr_store.proofs.Meeting.{met}
use Rattle.zr_tree.specs.Trees.{IsAmong, TellsOf, HasBadBlock, tree_at, tree_reach, tree_blocks, own}
use Rattle.zr_tree.proofs.Wholes.{Within, among_within, tells_within, within_first}
use Rattle.zr_objset.specs.Errors.{TellsOfLeaves, HasBadLeaf, IsNoLeaf, IsBadLeaf}
use Rattle.zr_objset.proofs.Within.{within_same, blocks_within, leaf_within}

bad_block_within : (s : Stored) (xs ys : List Bptr) (at : Dva) (expected : List ℕ) → Within xs ys → HasBadBlock s xs at expected → HasBadBlock s ys at expected
bad_block_within s xs ys at expected within b =
    record { block = b.block; among = among_within b.block xs ys within b.among; address = b.address; checksum = b.checksum; tall = b.tall; right = b.right; bad = b.bad }

bad_leaf_within : (Bad Worse : Bptr → Type 0) (xs ys : List Bptr) (at : Dva) (expected : List ℕ) → Within xs ys → ((x : Bptr) → Bad x → Worse x) → HasBadLeaf Bad xs at expected → HasBadLeaf Worse ys at expected
bad_leaf_within Bad Worse xs ys at expected within worse b =
    record { leaf = b.leaf; among = among_within b.leaf xs ys within b.among; address = b.address; checksum = b.checksum; bad = worse b.leaf b.bad }

-- what is among one pointer has its level
same_level : (b x : Bptr) → IsAmong x (b ∷ []) → b.level ≡ 0 → x.level ≡ 0
same_level b x h level_is = let w = h (λ y. y.level) in omega (arith, w, level_is, sum_by-cons (λ (y : Bptr). y.level) b [])

-- an error that tells of a tree block
pub tells_tree : {T : Type 0} (s : Stored) (xs ys leaves : List Bptr) (Bad : Bptr → Type 0) (r : Result T StoreErr) → Within xs ys → TellsOf s xs r → TellsOfLeaves s ys leaves Bad r
tells_tree s xs ys leaves Bad r within tells =
    let h = tells_within s xs ys r within tells in
    record { malformed = λ at expected is. inl (h.malformed at expected is); damaged = h.damaged; resolved = h.resolved }

pub tells_more : {T : Type 0} (s : Stored) (xs ys leaves more : List Bptr) (Bad Worse : Bptr → Type 0) (r : Result T StoreErr) → Within xs ys → Within leaves more → ((x : Bptr) → Bad x → Worse x) → TellsOfLeaves s xs leaves Bad r → TellsOfLeaves s ys more Worse r
tells_more s xs ys leaves more Bad Worse r within leaves_in worse h = record {
  malformed = λ at expected is. elim (h.malformed at expected is) [
    | inl b ↦ inl (bad_block_within s xs ys at expected within b)
    | inr b ↦ inr (bad_leaf_within Bad Worse leaves more at expected leaves_in worse b)
  ];
  damaged = λ at expected found is.
      let b = h.damaged at expected found is in
      record { block = b.block; among = among_within b.block xs ys within b.among; address = b.address; checksum = b.checksum; found_is = b.found_is; differs = b.differs };
  resolved = λ at expected is stored. h.resolved at expected is (λ weight. let w = within weight in let l = stored weight in omega (arith, w, l));
}

leaves_again : {T U : Type 0} (s : Stored) (xs leaves : List Bptr) (Bad : Bptr → Type 0) (e : StoreErr) → TellsOfLeaves {T = T} s xs leaves Bad (Err e) → TellsOfLeaves {T = U} s xs leaves Bad (Err e)
leaves_again s xs leaves Bad e h = record {
  malformed = λ at expected is. h.malformed at expected (again e (Malformed at expected) is);
  damaged = λ at expected found is. h.damaged at expected found (again e (Damaged at expected found) is);
  resolved = λ at expected is. h.resolved at expected (again e (Unresolved at expected) is);
}

-- the error that a `?` hands on
pub leaves_from : {T U : Type 0} (s : Stored) (xs leaves : List Bptr) (Bad : Bptr → Type 0) (r : Result U StoreErr) (e : StoreErr) → (y : StoreErr) × (r ≡ Err y) × (y ≡ e) → TellsOfLeaves {T = T} s xs leaves Bad (Err e) → TellsOfLeaves s xs leaves Bad r
leaves_from {T} {U} s xs leaves Bad r e given h =
    subst (λ (x : Result U StoreErr). TellsOfLeaves s xs leaves Bad x) (sym (given.1 ∙ ap (λ (y : StoreErr). Err y) given.2)) (leaves_again {T = T} {U = U} s xs leaves Bad e h)

-- an error of reading a tree tells of the tree's blocks
pub of_tree : {T : Type 0} (s : Stored) (t : Tree) (leaves : List Bptr) (Bad : Bptr → Type 0) (r : Result T StoreErr) → TellsOf s (tree_blocks s t) r → TellsOfLeaves s (tree_reach s t) leaves Bad r
of_tree s t leaves Bad r h = tells_tree s (tree_blocks s t) (tree_reach s t) leaves Bad r (blocks_within s t) h

-- an error of reading the leaf at an index tells of the leaf
pub of_leaf : {T : Type 0} (s : Stored) (t : Tree) (index : ℕ) (b : Bptr) (Bad : Bptr → Type 0) (r : Result T StoreErr) → tree_at s t index ≡ At b → TellsOfLeaves s (b ∷ []) (b ∷ []) Bad r → TellsOfLeaves s (tree_reach s t) (own (tree_at s t index)) Bad r
of_leaf s t index b Bad r is h =
    tells_more s (b ∷ []) (tree_reach s t) (b ∷ []) (own (tree_at s t index)) Bad Bad r (subst (λ (p : Ptr). Within (own p) (tree_reach s t)) is (leaf_within s t index))
    (subst (λ (p : Ptr). Within (b ∷ []) (own p)) (sym is) (within_same (b ∷ []))) (λ x bad. bad) h

-- an error of reading a leaf of the directory, in a walk
pub tells_bad_leaf : {T : Type 0} (s : Stored) (b : Bptr) (rest : List Bptr) (r : Result T StoreErr) → b.level ≡ 0 → TellsOfLeaves s (b ∷ []) (b ∷ []) (IsNoLeaf s) r → TellsOfLeaves s (b ∷ rest) (b ∷ []) (IsBadLeaf s) r
tells_bad_leaf s b rest r level_is h =
    let more = tells_more s (b ∷ []) (b ∷ rest) (b ∷ []) (b ∷ []) (IsNoLeaf s) (IsNoLeaf s) r (within_first b rest) (within_same (b ∷ [])) (λ x bad. bad) h in
    record {
      malformed = λ at expected is. elim (more.malformed at expected is) [
        | inl k ↦ inl k
        | inr k ↦ inr (record { leaf = k.leaf; among = k.among; address = k.address; checksum = k.checksum; bad = (same_level b k.leaf k.among level_is, k.bad) })
      ];
      damaged = more.damaged;
      resolved = more.resolved;
    }

-- what a store says of its errors
pub of_get : {T : Type 0} (s : Stored) (before after : Account) (b : Bptr) (leaves : List Bptr) (Bad : Bptr → Type 0) (r : Result T StoreErr) → HasCause 0 before after r
    → ((at : Dva) (expected : List ℕ) → IsErrOf r (Unresolved at expected) → IsOf b at expected) → ((at : Dva) (expected found : List ℕ) → IsErrOf r (Damaged at expected found) → IsOf b at expected)
    → ((at : Dva) (expected found : List ℕ) → IsErrOf r (Damaged at expected found) → found ≡ sha256 (s.bytes b)) → ((at : Dva) (expected : List ℕ) → IsErrOf r (Malformed at expected) → ⊥)
    → ((at : Dva) → 0 < hits s.pointers at → before.resolves at ≡ true) → TellsOfLeaves s (b ∷ []) leaves Bad r
of_get s before after b leaves Bad r cause unresolved damaged found formed resolves = record {
  malformed = λ at expected is. absurd (formed at expected is);
  damaged = λ at expected sum is.
      let o = damaged at expected sum is in
      record { block = b; among = λ weight. omega (arith, sum_by-cons weight b []); address = sym o.address; checksum = sym o.checksum; found_is = found at expected sum is; differs = cause.damaged at expected sum is };
  resolved = λ at expected is stored.
      let o = unresolved at expected is in
      let here : 0 < hits s.pointers at = subst (λ (a : Dva). 0 < hits s.pointers a) (sym o.address) (met b s stored) in
      false≢true (sym (cause.unresolved at expected is) ∙ resolves at here);
}
