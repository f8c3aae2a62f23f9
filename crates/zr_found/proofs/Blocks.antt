-- The blocks of a directory and of its objects, stored beside each other.
use Rattle.std.proofs.Common.{◌≡◌, ◌<◌, ◌≤◌, ◌+◌, ◌*◌, ◌/◌, ◌%◌, ◌^◌, ℕ, zero, suc, List, [], ◌∷◌, ◌++◌, map, length, nat_lt, lt-ltb, le-ltb, Option, Some, None, refl, sym, ◌∙◌, ap, arith, ⊎_elim}
use Rattle.std.specs.Prelude.{unwrap_or, option_map, if◌then◌else◌, All}
use Rattle.std.specs.List.{sum_by, flat_map}
use Rattle.std.specs.Simd.{first_chunks}
use Rattle.std.proofs.lemmas.Bool.{cases_lt, ne_eqb}
use Rattle.std.proofs.lemmas.List.{length-map}
use Rattle.std.proofs.lemmas.List.Elements.{All-head, All-tail}
use Rattle.std.proofs.lemmas.List.Sums.{sum_by-append, sum_by-cons}
use Rattle.zr_bptr.specs.declared.Bptr.{Bptr}
use Rattle.zr_bptr.specs.declared.Ptr.{Ptr}
use Rattle.zr_bptr.specs.declared.Ptr.TheVariants.{Hole, At}
use Rattle.zr_bptr.specs.declared.ObjRec.{ObjRec}
use Rattle.zr_bptr.specs.declared.Tree.{Tree}
use Rattle.zr_bptr.proofs.Pieces.{length-first_chunks}
use Rattle.zr_store.specs.Store.{Stored, AreStored, IsOnce}
use Rattle.zr_tree.specs.Trees.{tree_at, tree_blocks, tree_reach, weigh}
use Rattle.zr_objset.specs.Records.{read_record, records_in, record_in, record_of, object_reach, leaf_reach, all_reach}
use Rattle.zr_objset.proofs.Storing.{reach_parts}
use Rattle.zr_objset.proofs.Walking.{leaf_reach_is}
use Rattle.zr_txg.specs.Tables.{value_at}
use Rattle.zr_txg.specs.Changes.{Changes, ObjectChange, object_in, change_in, blocks_of}
use Rattle.zr_lookup.specs.Objects.{record_now, pointer_now, block_in}
use Rattle.zr_held.specs.Held.{AreBlocksNow, blocks_below, HasAllBlocks}
use Rattle.zr_found.proofs.Totals.{total, total_more, total_same, total_none, total_one, total_places, sum_flat}
use Rattle.zr_found.proofs.Leaves.{leaves_upto, upto_weight, upto_leaves, tree_past, tree_weigh, tree_whole}

-- ---- an empty group

module _ (g : Changes) (none : g.objects ≡ []) where
  pub no_object : (id : ℕ) → object_in g id ≡ None
  no_object id = ap (λ (xs : List (ℕ × ObjectChange)). option_map (λ (c : ObjectChange). c.object) (value_at xs id)) none

  pub no_change : (id i : ℕ) → change_in g id i ≡ None
  no_change id i = ap (λ (xs : List (ℕ × ObjectChange)). value_at (blocks_of (value_at xs id)) i) none

  pub record_is : (s : Stored) (dir : Tree) (id : ℕ) → record_now s dir g id ≡ (if nat_lt id 65536 then record_of s dir id else None)
  record_is s dir id = ap (λ (x : Option (Option ObjRec)). if nat_lt id 65536 then unwrap_or x (record_of s dir id) else None) (no_object id)

  pub pointer_is : (s : Stored) (id : ℕ) (r : ObjRec) (i : ℕ) → pointer_now s g id r i ≡ tree_at s r.tree i
  pointer_is s id r i = ap (λ (c : Option Ptr). unwrap_or c (tree_at s r.tree i)) (no_change id i)

-- ---- the blocks of one object

-- its leaves, and its tree blocks
abbrev pub blocks_in : Stored → Option ObjRec → List Bptr
blocks_in s None = []
blocks_in s (Some r) = map (λ (leaf : ℕ × Bptr). leaf.1) (leaves_upto (tree_at s r.tree) (32 ^ r.tree.height)) ++ tree_blocks s r.tree

pub are_blocks : (s : Stored) (g : Changes) (id : ℕ) (x : Option ObjRec) → g.objects ≡ [] → AreBlocksNow s g id x (blocks_in s x)
are_blocks s g id None none = (refl, λ i. no_change g none id i)
are_blocks s g id (Some r) none =
    let at = tree_at s r.tree in
    let top = 32 ^ r.tree.height in
    let has = upto_leaves at top (λ i le. tree_past s r.tree i le) in
    record {
      leaves = leaves_upto at top;
      are_leaves = record { rising = has.rising; each = λ i. has.each i ∙ sym (ap block_in (pointer_is g none s id r i)) };
      all = refl;
    }

weigh_reach : (s : Stored) (weight : Bptr → ℕ) (x : Option ObjRec) → sum_by weight (blocks_in s x) ≡ sum_by weight (object_reach s x)
weigh_reach s weight None = refl
weigh_reach s weight (Some r) =
    let at = tree_at s r.tree in
    let top = 32 ^ r.tree.height in
    let parts = sum_by-append weight (map (λ (leaf : ℕ × Bptr). leaf.1) (leaves_upto at top)) (tree_blocks s r.tree) in
    let leaves = upto_weight weight at top in
    let all = tree_whole s weight r.tree 0 in
    let more = ap (total (λ i. weigh weight (at i))) (let e : top + 0 ≡ top = omega arith in e) in
    let reach = reach_parts s r.tree weight in
    omega (arith, parts, leaves, all, more, reach)

-- ---- the objects of a directory

records_long : (s : Stored) (b : Bptr) → length (records_in (s.bytes b)) ≡ 16
unfolding records_in
records_long s b = length-map (first_chunks 256 16 (s.bytes b)) read_record ∙ length-first_chunks 256 16 (s.bytes b)

-- tree blocks have no objects
above_none : (s : Stored) (weight : Bptr → ℕ) (bs : List Bptr) → All (λ b. 0 < b.level) bs → sum_by (λ b. sum_by weight (leaf_reach s b)) bs ≡ 0
above_none s weight [] above = refl
above_none s weight (b ∷ bs) above =
    let high = All-head (λ (x : Bptr). 0 < x.level) b bs above in
    let none : leaf_reach s b ≡ [] = rw (ne_eqb b.level 0 (λ e. omega (arith, high, e))) refl in
    let one = ap (sum_by weight) none in
    let rest = above_none s weight bs (All-tail (λ (x : Bptr). 0 < x.level) b bs above) in
    omega (arith, one, rest, sum_by-cons (λ x. sum_by weight (leaf_reach s x)) b bs)

module _ (s : Stored) (dir : Tree) (level : (i : ℕ) (b : Bptr) → tree_at s dir i ≡ At b → b.level ≡ 0) (weight : Bptr → ℕ) where
  abbrev reach_at : ℕ → ℕ
  reach_at id = sum_by weight (object_reach s (record_of s dir id))

  abbrev in_leaf : Bptr → ℕ
  in_leaf b = sum_by weight (leaf_reach s b)

  one_leaf : (p : Ptr) → ((b : Bptr) → p ≡ At b → b.level ≡ 0) → total (λ k. sum_by weight (object_reach s (record_in s p k))) 16 ≡ weigh in_leaf p
  one_leaf Hole flat = total_none (λ k. sum_by weight (object_reach s (record_in s Hole k))) 16 (λ k. refl)
  one_leaf (At b) flat =
      let places = total_places (λ (x : Option ObjRec). sum_by weight (object_reach s x)) None (records_in (s.bytes b)) 16 (records_long s b) in
      let all = sum_flat weight (object_reach s) (records_in (s.bytes b)) in
      let is = ap (sum_by weight) (leaf_reach_is s b (flat b refl)) in
      omega (arith, places, all, is)

  in_leaves : (m : ℕ) → total reach_at (m * 16) ≡ total (λ i. weigh in_leaf (tree_at s dir i)) m
  in_leaves zero = refl
  in_leaves (suc m) =
      let e : suc m * 16 ≡ m * 16 + 16 = omega arith in
      let all = ap (total reach_at) e in
      let parts = total_more reach_at (m * 16) 16 in
      let here = total_same (λ k. reach_at (m * 16 + k)) (λ k. sum_by weight (object_reach s (record_in s (tree_at s dir m) k))) 16 (λ k lt.
      let d : (m * 16 + k) / 16 ≡ m = omega (arith, lt) in
      let r : (m * 16 + k) % 16 ≡ k = omega (arith, lt) in
      let same = ap (λ (i : ℕ). sum_by weight (object_reach s (record_in s (tree_at s dir i) ((m * 16 + k) % 16)))) d ∙ ap (λ (j : ℕ). sum_by weight (object_reach s (record_in s (tree_at s dir m) j))) r in
      same) in
      let one = one_leaf (tree_at s dir m) (level m) in
      let rest = in_leaves m in
      omega (arith, all, parts, here, one, rest)

  -- the blocks of the first objects are among those of the directory's leaves
  pub objects_weigh : (n : ℕ) → total reach_at n + sum_by weight (tree_reach s dir) ≤ sum_by weight (all_reach s dir)
  objects_weigh n =
      let more = total_more reach_at n (n * 15) in
      let e : n + n * 15 ≡ n * 16 = omega arith in
      let all = ap (total reach_at) e in
      let leaves = in_leaves n in
      let tree = tree_weigh s in_leaf dir n in
      let parts = reach_parts s dir in_leaf in
      let flat = sum_flat weight (leaf_reach s) (tree_reach s dir) in
      let whole = sum_by-append weight (tree_reach s dir) (flat_map (leaf_reach s) (tree_reach s dir)) in
      omega (arith, more, all, leaves, tree, parts, flat, whole)

  -- the blocks of one object too
  pub object_weighs : (id : ℕ) → sum_by weight (object_reach s (record_of s dir id)) ≤ sum_by weight (all_reach s dir)
  object_weighs id =
      let all = objects_weigh (suc id) in
      let one = total_one reach_at id (suc id) (omega arith) in
      omega (arith, all, one)

  -- the directory has no other blocks than its own and those of the objects that may be there
  module _ (above : All (λ b. 0 < b.level) (tree_blocks s dir)) (past : (id : ℕ) → 65536 ≤ id → record_of s dir id ≡ None) where
    reach_past : (id : ℕ) → 65536 ≤ id → reach_at id ≡ 0
    reach_past id le = ap (λ (x : Option ObjRec). sum_by weight (object_reach s x)) (past id le)

    pub objects_whole : (n : ℕ) → 65536 ≤ n → sum_by weight (all_reach s dir) ≤ total reach_at n + sum_by weight (tree_reach s dir)
    objects_whole n le =
        let top = 32 ^ dir.height in
        let leaves = in_leaves (top + 0) in
        let tree = tree_whole s in_leaf dir 0 in
        let blocks = above_none s weight (tree_blocks s dir) above in
        let parts = reach_parts s dir in_leaf in
        let flat = sum_flat weight (leaf_reach s) (tree_reach s dir) in
        let whole = sum_by-append weight (tree_reach s dir) (flat_map (leaf_reach s) (tree_reach s dir)) in
        let m = (top + 0) * 16 in
        let more = total_more reach_at m n in
        let turned = ap (total reach_at) (let e : m + n ≡ n + m = omega arith in e) in
        let low = total_more reach_at n m in
        let none = total_none (λ i. reach_at (n + i)) m (λ i. reach_past (n + i) (omega (arith, le))) in
        omega (arith, leaves, tree, blocks, parts, flat, whole, more, turned, low, none)

module _ (s : Stored) (dir : Tree) (g : Changes) (none : g.objects ≡ []) (level : (i : ℕ) (b : Bptr) → tree_at s dir i ≡ At b → b.level ≡ 0)
    (above : All (λ b. 0 < b.level) (tree_blocks s dir)) (past : (id : ℕ) → 65536 ≤ id → record_of s dir id ≡ None) where
  abbrev blocks_now : ℕ → List Bptr
  blocks_now id = blocks_in s (record_now s dir g id)

  record_same : (id : ℕ) → record_now s dir g id ≡ record_of s dir id
  record_same id = record_is g none s dir id ∙ ⊎_elim
      (λ (low : id < 65536). rw (lt-ltb id 65536 low) refl)
      (λ (high : 65536 ≤ id). rw (le-ltb id 65536 high) (sym (past id high)))
      (cases_lt id 65536)

  one_now : (weight : Bptr → ℕ) (id : ℕ) → sum_by weight (blocks_now id) ≡ sum_by weight (object_reach s (record_of s dir id))
  one_now weight id = ap (λ (x : Option ObjRec). sum_by weight (blocks_in s x)) (record_same id) ∙ weigh_reach s weight (record_of s dir id)

  all_now : (weight : Bptr → ℕ) (n : ℕ) → sum_by weight (blocks_below blocks_now n) ≡ total (λ id. sum_by weight (object_reach s (record_of s dir id))) n
  all_now weight zero = refl
  all_now weight (suc n) =
      let parts = sum_by-append weight (blocks_below blocks_now n) (blocks_now n) in
      let rest = all_now weight n in
      let one = one_now weight n in
      omega (arith, parts, rest, one)

  -- where nothing but the blocks of the directory is stored, those of its objects below n are all that is
  no_others : (n : ℕ) → 65536 ≤ n → (weight : Bptr → ℕ) → sum_by weight s.pointers ≤ sum_by weight (all_reach s dir) → sum_by weight s.pointers ≤ sum_by weight (tree_reach s dir ++ blocks_below blocks_now n)
  no_others n le weight whole =
      let parts = sum_by-append weight (tree_reach s dir) (blocks_below blocks_now n) in
      let now = all_now weight n in
      let all = objects_whole s dir level weight above past n le in
      omega (arith, whole, parts, now, all)

  pub all_blocks : AreStored (all_reach s dir) s → ((weight : Bptr → ℕ) → sum_by weight s.pointers ≤ sum_by weight (all_reach s dir)) → IsOnce s → HasAllBlocks s dir g
  all_blocks stored whole once = record {
    blocks = blocks_now;
    each = λ id. are_blocks s g id (record_now s dir g id) none;
    stored = λ n weight.
        let parts = sum_by-append weight (tree_reach s dir) (blocks_below blocks_now n) in
        let now = all_now weight n in
        let all = objects_weigh s dir level weight n in
        let s_all = stored weight in
        omega (arith, parts, now, all, s_all);
    whole = λ n le weight. no_others n le weight (whole weight);
    once = once;
    past = past;
  }
