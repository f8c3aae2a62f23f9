-- The leaves of a tree, index by index.
use Rattle.std.proofs.Common.{◌≡◌, ◌<◌, ◌≤◌, ◌+◌, ◌*◌, ◌/◌, ◌%◌, ◌^◌, ℕ, zero, suc, List, [], ◌∷◌, ◌++◌, map, length, refl, sym, ◌∙◌, ap, arith, ⊎_elim, lt-ltb, le-ltb}
use Rattle.std.specs.List.{sum_by}
use Rattle.std.specs.Simd.{first_chunks}
use Rattle.std.proofs.Math.Nat.{pow-suc, pow-succ', add-mul, mul-add-div, mul_assoc, mul_comm}
use Rattle.std.proofs.lemmas.Nat.{div-mul-add}
use Rattle.std.proofs.lemmas.Bool.{cases_lt, eq-eqb}
use Rattle.std.proofs.lemmas.List.{map-append, length-map}
use Rattle.std.proofs.lemmas.List.Sums.{sum_by-append, sum_by-cons}
use Rattle.zr_bptr.specs.declared.Bptr.{Bptr}
use Rattle.zr_bptr.specs.declared.Ptr.{Ptr}
use Rattle.zr_bptr.specs.declared.Ptr.TheVariants.{Hole, At}
use Rattle.zr_bptr.specs.declared.Tree.{Tree}
use Rattle.zr_bptr.proofs.Pieces.{length-first_chunks}
use Rattle.zr_store.specs.Store.{Stored}
use Rattle.zr_tree.specs.Blocks.{pointers_in, read_pointer}
use Rattle.zr_tree.specs.Trees.{own, kids, slot, digit, leaf_at, leaves_below, tree_at, tree_leaves, weigh}
use Rattle.zr_txg.specs.Tables.{value_at}
use Rattle.zr_lookup.specs.Lists.{IsBetween}
use Rattle.zr_lookup.specs.Objects.{HasLeaves, block_in}
use Rattle.zr_lookup.proofs.Keys.{rising, past, joined, in_front, in_back}
use Rattle.zr_found.proofs.Totals.{total, total_more, total_same, total_none, total_places, sum_flat}

-- ---- a leaf is told by the digits of its index

positive : (h : ℕ) → 0 < 32 ^ h
positive zero = omega arith
positive (suc h) = let e = pow-succ' 32 h in let p = positive h in omega (arith, e, p)

-- higher digits do not matter
leaf_again : (s : Stored) (level : ℕ) (p : Ptr) (c i : ℕ) → leaf_at s level p (32 ^ level * c + i) ≡ leaf_at s level p i
leaf_again s zero p c i = refl
leaf_again s (suc below) Hole c i = refl
leaf_again s (suc below) (At b) c i =
    let w = 32 ^ below in
    let j = 32 ^ suc below * c + i in
    let wide : 32 ^ suc below * c ≡ w * (32 * c) = ap (λ (n : ℕ). n * c) (pow-suc 32 below) ∙ mul_assoc w 32 c in
    let same : j ≡ w * (32 * c) + i = ap (λ (n : ℕ). n + i) wide in
    let part : j / w ≡ 32 * c + i / w = ap (λ (n : ℕ). n / w) same ∙ mul-add-div {m = w} (positive below) (32 * c) i in
    let d : digit below j ≡ digit below i = ap (λ (n : ℕ). n % 32) part ∙ omega arith in
    ap (λ (k : ℕ). leaf_at s below (slot (kids s below b) k) j) d
    ∙ ap (λ (n : ℕ). leaf_at s below (slot (kids s below b) (digit below i)) n) same
    ∙ leaf_again s below (slot (kids s below b) (digit below i)) (32 * c) i

-- ---- what all leaves weigh

own_weight : (weight : Bptr → ℕ) (p : Ptr) → weigh weight p ≡ sum_by weight (own p)
own_weight weight Hole = refl
own_weight weight (At b) = omega (arith, sum_by-cons weight b [])

module _ (s : Stored) (weight : Bptr → ℕ) where
  abbrev at_leaf : ℕ → Ptr → ℕ → ℕ
  at_leaf level p i = weigh weight (leaf_at s level p i)

  abbrev below_it : ℕ → Ptr → ℕ
  below_it level p = sum_by weight (leaves_below s level p)

  kids_long : (below : ℕ) (b : Bptr) → length (kids s below b) ≡ 32
  unfolding pointers_in
  kids_long below b = length-map (first_chunks 128 32 (s.bytes b)) read_pointer ∙ length-first_chunks 128 32 (s.bytes b)

  -- the leaves below one pointer of a block
  in_kid : (below : ℕ) (b : Bptr) (n i : ℕ) → n < 32 → i < 32 ^ below → at_leaf (suc below) (At b) (n * 32 ^ below + i) ≡ at_leaf below (slot (kids s below b) n) i
  in_kid below b n i small lt =
      let w = 32 ^ below in
      let j = n * w + i in
      let d : digit below j ≡ n = ap (λ (k : ℕ). k % 32) (div-mul-add n w i lt) ∙ omega (arith, small) in
      let turned : j ≡ w * n + i = ap (λ (k : ℕ). k + i) (mul_comm n w) in
      ap (weigh weight)
      (ap (λ (k : ℕ). leaf_at s below (slot (kids s below b) k) j) d
      ∙ ap (λ (k : ℕ). leaf_at s below (slot (kids s below b) n) k) turned
      ∙ leaf_again s below (slot (kids s below b) n) n i)

  in_kids : (below : ℕ) (b : Bptr) → ((p : Ptr) → total (at_leaf below p) (32 ^ below) ≡ below_it below p) → (n : ℕ) → n ≤ 32
      → total (at_leaf (suc below) (At b)) (n * 32 ^ below) ≡ total (λ k. below_it below (slot (kids s below b) k)) n
  in_kids below b each zero le = let e : 0 * 32 ^ below ≡ 0 = omega arith in let none = ap (total (at_leaf (suc below) (At b))) e in omega (arith, none)
  in_kids below b each (suc n) le =
      let w = 32 ^ below in
      let f = at_leaf (suc below) (At b) in
      let e : suc n * w ≡ n * w + w = (let d = add-mul n 1 w in let m : suc n * w ≡ (n + 1) * w = ap (λ (k : ℕ). k * w) (omega arith) in omega (arith, d, m)) in
      let all = ap (total f) e in
      let parts = total_more f (n * w) w in
      let here = total_same (λ i. f (n * w + i)) (at_leaf below (slot (kids s below b) n)) w (λ i lt. in_kid below b n i (omega (arith, le)) lt) in
      let one = each (slot (kids s below b) n) in
      let rest = in_kids below b each n (omega (arith, le)) in
      omega (arith, all, parts, here, one, rest)

  pub leaves_weigh : (level : ℕ) (p : Ptr) → total (at_leaf level p) (32 ^ level) ≡ below_it level p
  leaves_weigh zero p = let o = own_weight weight p in omega (arith, o)
  leaves_weigh (suc below) Hole = let z = total_none (at_leaf (suc below) Hole) (32 ^ suc below) (λ i. refl) in omega (arith, z)
  leaves_weigh (suc below) (At b) =
      let wide = ap (total (at_leaf (suc below) (At b))) (pow-succ' 32 below) in
      let all = in_kids below b (λ p. leaves_weigh below p) 32 (omega arith) in
      let places = total_places (below_it below) Hole (kids s below b) 32 (kids_long below b) in
      let flat = sum_flat weight (leaves_below s below) (kids s below b) in
      omega (arith, wide, all, places, flat)

  tree_inside : (t : Tree) (i : ℕ) → i < 32 ^ t.height → tree_at s t i ≡ leaf_at s t.height t.root i
  tree_inside t i lt = rw (lt-ltb i (32 ^ t.height) lt) refl

  -- the leaves of a tree at all its indices, and at no others
  pub tree_whole : (t : Tree) (more : ℕ) → total (λ i. weigh weight (tree_at s t i)) (32 ^ t.height + more) ≡ sum_by weight (tree_leaves s t)
  tree_whole t more =
      let f = λ (i : ℕ). weigh weight (tree_at s t i) in
      let top = 32 ^ t.height in
      let parts = total_more f top more in
      let past_it = total_none (λ i. f (top + i)) more (λ i. ap (weigh weight) (tree_outside t (top + i) (omega arith))) in
      let low = total_same f (at_leaf t.height t.root) top (λ i lt. ap (weigh weight) (tree_inside t i lt)) in
      let all = leaves_weigh t.height t.root in
      omega (arith, parts, past_it, low, all)
    where
      tree_outside : (u : Tree) (i : ℕ) → 32 ^ u.height ≤ i → tree_at s u i ≡ Hole
      tree_outside u i le = rw (le-ltb i (32 ^ u.height) le) refl

  -- the leaves of a tree at the first indices
  pub tree_weigh : (t : Tree) (m : ℕ) → total (λ i. weigh weight (tree_at s t i)) m ≤ sum_by weight (tree_leaves s t)
  tree_weigh t m =
      let f = λ (i : ℕ). weigh weight (tree_at s t i) in
      let top = 32 ^ t.height in
      let parts = total_more f m top in
      let turned = ap (total f) (let e : m + top ≡ top + m = omega arith in e) in
      let all = tree_whole t m in
      omega (arith, parts, turned, all)

pub tree_past : (s : Stored) (t : Tree) (i : ℕ) → 32 ^ t.height ≤ i → tree_at s t i ≡ Hole
tree_past s t i le = rw (le-ltb i (32 ^ t.height) le) refl

-- ---- a list of the leaves

abbrev pub leaf_in_list : ℕ → Ptr → List (ℕ × Bptr)
leaf_in_list n Hole = []
leaf_in_list n (At b) = (n, b) ∷ []

-- the leaves at the first indices
abbrev pub leaves_upto : (ℕ → Ptr) → ℕ → List (ℕ × Bptr)
leaves_upto at zero = []
leaves_upto at (suc n) = leaves_upto at n ++ leaf_in_list n (at n)

one_between : (n : ℕ) (p : Ptr) → IsBetween n (suc n) (leaf_in_list n p)
one_between n Hole = omega arith
one_between n (At b) = (omega arith, omega arith)

one_value : (n : ℕ) (p : Ptr) → value_at (leaf_in_list n p) n ≡ block_in p
one_value n Hole = refl
one_value n (At b) = rw (eq-eqb n n refl) refl

one_weight : (weight : Bptr → ℕ) (n : ℕ) (p : Ptr) → sum_by weight (map (λ (leaf : ℕ × Bptr). leaf.1) (leaf_in_list n p)) ≡ weigh weight p
one_weight weight n Hole = refl
one_weight weight n (At b) = omega (arith, sum_by-cons weight b [])

upto_between : (at : ℕ → Ptr) (n : ℕ) → IsBetween 0 n (leaves_upto at n)
upto_between at zero = omega arith
upto_between at (suc n) = joined 0 n (suc n) (leaves_upto at n) (leaf_in_list n (at n)) (upto_between at n) (one_between n (at n))

upto_value : (at : ℕ → Ptr) (n k : ℕ) → k < n → value_at (leaves_upto at n) k ≡ block_in (at k)
upto_value at zero k lt = absurd (omega (arith, lt))
upto_value at (suc n) k lt =
    ⊎_elim
    (λ less. in_front n (suc n) k (leaves_upto at n) (leaf_in_list n (at n)) (one_between n (at n)) less ∙ upto_value at n k less)
    (λ here.
    let is : k ≡ n = omega (arith, lt, here) in
    ap (λ (j : ℕ). value_at (leaves_upto at n ++ leaf_in_list n (at n)) j) is
    ∙ in_back 0 n n (leaves_upto at n) (leaf_in_list n (at n)) (upto_between at n) (omega arith)
    ∙ one_value n (at n) ∙ sym (ap (λ (j : ℕ). block_in (at j)) is))
    (cases_lt k n)

pub upto_weight : (weight : Bptr → ℕ) (at : ℕ → Ptr) (n : ℕ) → sum_by weight (map (λ (leaf : ℕ × Bptr). leaf.1) (leaves_upto at n)) ≡ total (λ i. weigh weight (at i)) n
upto_weight weight at zero = refl
upto_weight weight at (suc n) =
    let snd = λ (leaf : ℕ × Bptr). leaf.1 in
    let parts = ap (sum_by weight) (map-append snd (leaves_upto at n) (leaf_in_list n (at n))) in
    let sums = sum_by-append weight (map snd (leaves_upto at n)) (map snd (leaf_in_list n (at n))) in
    let rest = upto_weight weight at n in
    let one = one_weight weight n (at n) in
    omega (arith, parts, sums, rest, one)

-- with holes behind them these are all leaves
pub upto_leaves : (at : ℕ → Ptr) (n : ℕ) → ((i : ℕ) → n ≤ i → at i ≡ Hole) → HasLeaves at (leaves_upto at n)
upto_leaves at n holes = record {
  rising = rising 0 n (leaves_upto at n) (upto_between at n);
  each = λ i.
      ⊎_elim
      (λ lt. upto_value at n i lt)
      (λ le. past 0 n i (leaves_upto at n) (upto_between at n) le ∙ sym (ap block_in (holes i le)))
      (cases_lt i n);
}
