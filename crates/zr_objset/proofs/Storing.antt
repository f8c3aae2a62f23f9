-- From the leaves that were put to the new directory.
use Rattle.std.proofs.Common.{◌≡◌, ◌∙◌, ◌+◌, ◌*◌, ◌/◌, ◌%◌, ◌^◌, ◌<◌, ◌≤◌, inr, ℕ, zero, suc, List, [], ◌∷◌, get_or, map, Bool, true, false, nat_lt, refl, sym, ap, subst, arith, Option}
use Rattle.std.specs.Prelude.{if◌then◌else◌, All}
use Rattle.std.specs.List.{sum_by, flat_map}
use Rattle.std.proofs.Math.Nat.{div-eq_of_lt}
use Rattle.std.proofs.lemmas.List.Sums.{sum_by-append, sum_by-cons}
use Rattle.zr_bptr.specs.declared.Bptr.{Bptr}
use Rattle.zr_bptr.specs.declared.Ptr.{Ptr}
use Rattle.zr_bptr.specs.declared.Ptr.TheVariants.{Hole, At}
use Rattle.zr_bptr.specs.declared.Tree.{Tree}
use Rattle.zr_bptr.specs.declared.ObjRec.{ObjRec}
use Rattle.zr_store.specs.Store.{Stored, Swaps, AreStored, IsOnce, one_at}
use Rattle.zr_store.specs.Causes.{Account, Costs}
use Rattle.zr_store.proofs.Causes.{costs_then, costs_most}
use Rattle.zr_tree.specs.Trees.{own, kids, slot, digit, leaf_at, leaves_below, blocks, reach, tree_at, tree_blocks, tree_leaves, tree_reach, updated, weigh, weight_at, weight_of, SetsTree, KeepsTree, HasRoom}
use Rattle.zr_tree.proofs.Others.{keeps, keeps_others}
use Rattle.zr_tree.proofs.Wholes.{Within}
use Rattle.zr_objset.specs.Records.{record_in}
use Rattle.zr_objset.specs.Changes.{IsNeeded, PutsLeaves, StoresRecords}
use Rattle.zr_objset.proofs.Changing.{news_of, updated_weighs, record_kept, needed_kept, own_at}
use Rattle.zr_objset.proofs.Early.{agrees}
use Rattle.zr_objset.proofs.Keeping.{tree_same}
use Rattle.zr_objset.proofs.Within.{slot_within}

-- ---- the blocks of a tree are its tree blocks and its leaves

each_parts : (s : Stored) (below : ℕ) (weight : Bptr → ℕ) → ((p : Ptr) → sum_by weight (reach s below p) ≡ sum_by weight (blocks s below p) + sum_by weight (leaves_below s below p)) → (ps : List Ptr)
    → sum_by weight (flat_map (reach s below) ps) ≡ sum_by weight (flat_map (blocks s below) ps) + sum_by weight (flat_map (leaves_below s below) ps)
each_parts s below weight one [] = refl
each_parts s below weight one (p ∷ ps) =
    let here = one p in
    let rest = each_parts s below weight one ps in
    omega (arith, here, rest, sum_by-append weight (reach s below p) (flat_map (reach s below) ps), sum_by-append weight (blocks s below p) (flat_map (blocks s below) ps), sum_by-append weight (leaves_below s below p) (flat_map (leaves_below s below) ps))

parts_below : (s : Stored) (level : ℕ) (weight : Bptr → ℕ) (p : Ptr) → sum_by weight (reach s level p) ≡ sum_by weight (blocks s level p) + sum_by weight (leaves_below s level p)
parts_below s zero weight Hole = refl
parts_below s zero weight (At b) = omega arith
parts_below s (suc below) weight Hole = refl
parts_below s (suc below) weight (At b) =
    let rest = each_parts s below weight (λ p. parts_below s below weight p) (kids s below b) in
    omega (arith, rest, sum_by-cons weight b (flat_map (reach s below) (kids s below b)), sum_by-cons weight b (flat_map (blocks s below) (kids s below b)))

pub reach_parts : (s : Stored) (t : Tree) (weight : Bptr → ℕ) → sum_by weight (tree_reach s t) ≡ sum_by weight (tree_blocks s t) + sum_by weight (tree_leaves s t)
reach_parts s t weight = parts_below s t.height weight t.root

hole_leaves : (s : Stored) (level : ℕ) → leaves_below s level Hole ≡ []
hole_leaves s zero = refl
hole_leaves s (suc below) = refl

leaf_below : (s : Stored) (level : ℕ) (p : Ptr) (index : ℕ) → Within (own (leaf_at s level p index)) (leaves_below s level p)
leaf_below s zero p index weight = omega arith
leaf_below s (suc below) Hole index weight = omega arith
leaf_below s (suc below) (At b) index weight =
    let next = slot (kids s below b) (digit below index) in
    let rest = leaf_below s below next index weight in
    let one = slot_within (leaves_below s below) (hole_leaves s below) (kids s below b) (digit below index) weight in
    omega (arith, rest, one)

chosen : (yes : Bool) (p : Ptr) (ys : List Bptr) → Within (own p) ys → Within (own (if yes then p else Hole)) ys
chosen true p ys h = h
chosen false p ys h = λ weight. omega arith

leaf_among : (s : Stored) (t : Tree) (index : ℕ) → Within (own (tree_at s t index)) (tree_leaves s t)
leaf_among s t index = chosen (nat_lt index (32 ^ t.height)) (leaf_at s t.height t.root index) (tree_leaves s t) (leaf_below s t.height t.root index)

-- ---- what leaves weigh

own_weight : (weight : Bptr → ℕ) (p : Ptr) → sum_by weight (own p) ≡ weigh weight p
own_weight weight Hole = refl
own_weight weight (At b) = omega (arith, sum_by-cons weight b [])

news_weight : (weight : Bptr → ℕ) (news : List (ℕ × Ptr)) → sum_by weight (news_of news) ≡ weight_of weight news
news_weight weight [] = refl
news_weight weight (x ∷ xs) =
    let here = own_weight weight x.1 in
    let rest = news_weight weight xs in
    omega (arith, here, rest, sum_by-append weight (own x.1) (news_of xs))

olds_weight : (weight : Bptr → ℕ) (f g : ℕ → Ptr) (news : List (ℕ × Ptr)) → ((index : ℕ) → g index ≡ f index) → sum_by weight (flat_map own (map (λ (leaf : ℕ × Ptr). f leaf.0) news)) ≡ weight_at weight g news
olds_weight weight f g [] same = refl
olds_weight weight f g (x ∷ xs) same =
    let here = own_weight weight (f x.0) in
    let rest = olds_weight weight f g xs same in
    let one : weigh weight (g x.0) ≡ weigh weight (f x.0) = ap (weigh weight) (same x.0) in
    omega (arith, here, rest, one, sum_by-append weight (own (f x.0)) (flat_map own (map (λ (leaf : ℕ × Ptr). f leaf.0) xs)))

-- ---- the new directory

pub kept_dir : (changes : List (ℕ × Option ObjRec)) (s0 s1 : Stored) (dir : Tree) (news : List (ℕ × Ptr)) → PutsLeaves dir changes s0 s1 news → AreStored (tree_reach s0 dir) s0 → KeepsTree s0 s1 dir
kept_dir changes s0 s1 dir news puts held = tree_same s0 s1 dir (agrees s0 s1 (news_of news) (tree_reach s0 dir) puts.swaps held)

-- the old tree blocks are stored beside the new leaves
pub dir_stored : (changes : List (ℕ × Option ObjRec)) (s0 s1 : Stored) (dir : Tree) (news : List (ℕ × Ptr)) → PutsLeaves dir changes s0 s1 news → AreStored (tree_reach s0 dir) s0 → AreStored (tree_blocks s1 dir) s1
dir_stored changes s0 s1 dir news puts held weight =
    let h = held weight in
    let p = reach_parts s0 dir weight in
    let same = ap (sum_by weight) (kept_dir changes s0 s1 dir news puts held).same_blocks in
    let e = puts.swaps.stored weight in
    omega (arith, h, p, same, e)

module _ (changes : List (ℕ × Option ObjRec)) (s0 s1 s2 : Stored) (dir u : Tree) (news : List (ℕ × Ptr)) (olds : List Ptr) (puts : PutsLeaves dir changes s0 s1 news) (sets : SetsTree news s1 s2 dir u)
    (olds_are : olds ≡ map (λ (leaf : ℕ × Ptr). tree_at s0 dir leaf.0) news) (held : AreStored (tree_reach s0 dir) s0) where
  kept1 : KeepsTree s0 s1 dir
  kept1 = kept_dir changes s0 s1 dir news puts held

  olds_sum : (weight : Bptr → ℕ) → sum_by weight (flat_map own olds) ≡ weight_at weight (tree_at s1 dir) news
  olds_sum weight = ap (λ (xs : List Ptr). sum_by weight (flat_map own xs)) olds_are ∙ olds_weight weight (tree_at s0 dir) (tree_at s1 dir) news kept1.leaves

  -- the old leaves are stored beside the new directory
  beside : (weight : Bptr → ℕ) → sum_by weight (flat_map own olds) + sum_by weight (tree_blocks s2 u) + sum_by weight (tree_leaves s2 u) ≤ sum_by weight s2.pointers
  beside weight =
      let h = held weight in
      let p = reach_parts s0 dir weight in
      let parts1 = reach_parts s1 dir weight in
      let same_reach = ap (sum_by weight) kept1.same_reach in
      let same = ap (sum_by weight) kept1.same_blocks in
      let a = puts.swaps.stored weight in
      let b = sets.swaps.stored weight in
      let c = sets.swaps_leaves.stored weight in
      let o = olds_sum weight in
      let n = news_weight weight news in
      omega (arith, h, p, parts1, same_reach, same, a, b, c, o, n)

  pub olds_stored : AreStored (flat_map own olds) s2
  olds_stored weight = let b = beside weight in omega (arith, b)

  module _ (s3 : Stored) (free : Swaps s2 s3 (flat_map own olds) []) (once0 : IsOnce s0) (once1 : IsOnce s1) (once2 : IsOnce s2) where
    kept2 : KeepsTree s2 s3 u
    kept2 = keeps s2 s3 u (λ b h. let w = beside (one_at b.at) in let o = once2 b.at in free.kept b (omega (arith, w, o, h)) (omega (arith, w, h)))

    -- a leaf of the new directory has the bytes that it had when the leaves were put
    leaf_bytes : (index : ℕ) (b : Bptr) → tree_at s2 u index ≡ At b → s3.bytes b ≡ s1.bytes b
    leaf_bytes index b is =
        let h = own_at b (tree_at s2 u index) is in
        let l = leaf_among s2 u index (one_at b.at) in
        let w = beside (one_at b.at) in
        let o2 = once2 b.at in
        let freed = free.kept b (omega (arith, w, o2, h, l)) (omega (arith, w, h, l)) in
        let found = own_at b (updated news index (tree_at s1 dir index)) (sym (sets.leaves index) ∙ is) in
        let parts = updated_weighs (one_at b.at) news index (tree_at s1 dir index) in
        let before = leaf_among s1 dir index (one_at b.at) in
        let d = held (one_at b.at) in
        let p = reach_parts s1 dir (one_at b.at) in
        let same_reach = ap (sum_by (one_at b.at)) kept1.same_reach in
        let a = puts.swaps.stored (one_at b.at) in
        let o1 = once1 b.at in
        freed ∙ sets.swaps.kept b (omega (arith, found, parts, before, d, p, same_reach, a, o1)) (omega (arith, found, parts, before, d, p, same_reach, a))

    -- the leaf is the one that was put, or the old one
    leaf_is : (index : ℕ) → tree_at s3 u index ≡ updated news index (tree_at s0 dir index)
    leaf_is index = kept2.leaves index ∙ sets.leaves index ∙ ap (updated news index) (kept1.leaves index)

    leaf_found : (index : ℕ) (b : Bptr) → updated news index (tree_at s0 dir index) ≡ At b → s3.bytes b ≡ s1.bytes b
    leaf_found index b is = leaf_bytes index b (sym (kept2.leaves index) ∙ leaf_is index ∙ is)

    all_swaps : Swaps s0 s3 (tree_reach s0 dir) (tree_reach s3 u)
    all_swaps = record {
      stored = λ weight.
          let p0 = reach_parts s0 dir weight in
          let p1 = reach_parts s1 dir weight in
          let p2 = reach_parts s2 u weight in
          let same_reach = ap (sum_by weight) kept1.same_reach in
          let same = ap (sum_by weight) kept1.same_blocks in
          let new_reach = ap (sum_by weight) kept2.same_reach in
          let a = puts.swaps.stored weight in
          let b = sets.swaps.stored weight in
          let c = sets.swaps_leaves.stored weight in
          let f = free.stored weight in
          let o = olds_sum weight in
          let n = news_weight weight news in
          omega (arith, p0, p1, p2, same_reach, same, new_reach, a, b, c, f, o, n);
      kept = λ b out stored.
          let weight = one_at b.at in
          let p0 = reach_parts s0 dir weight in
          let p1 = reach_parts s1 dir weight in
          let same_reach = ap (sum_by weight) kept1.same_reach in
          let a = puts.swaps.stored weight in
          let b1 = sets.swaps.stored weight in
          let c = sets.swaps_leaves.stored weight in
          let o = olds_sum weight in
          let n = news_weight weight news in
          let o1 = once1 b.at in
          let first = puts.swaps.kept b refl stored in
          let second = sets.swaps.kept b (omega (arith, p1, same_reach, out)) (omega (arith, a, stored)) in
          free.kept b (omega (arith, p1, same_reach, out, a, o1, stored, c, o, n)) (omega (arith, p1, same_reach, out, a, b1, stored)) ∙ second ∙ first;
    }

    pub stores_records : StoresRecords changes s0 s3 dir u
    stores_records = record {
      records = λ id.
          ap (λ (p : Ptr). record_in s3 p (id % 16)) (leaf_is (id / 16))
          ∙ record_kept s1 s3 (updated news (id / 16) (tree_at s0 dir (id / 16))) (id % 16) (leaf_found (id / 16))
          ∙ puts.records id;
      needed = λ k d lt.
          let index = (get_or changes k d).0 / 16 in
          subst (IsNeeded s3) (sym (leaf_is index)) (needed_kept s1 s3 (updated news index (tree_at s0 dir index)) (leaf_found index) (puts.needed k d lt));
      swaps = all_swaps;
      others = keeps_others s0 s3 (tree_reach s0 dir) (tree_reach s3 u) all_swaps once0;
    }

-- ---- costs

pub has_room : (news : List (ℕ × Ptr)) → All (λ leaf. leaf.0 < 4096) news → HasRoom 3 news
has_room news low k d lt = inr (div-eq_of_lt (let l = low k d lt in omega (arith, l)))

pub all_costs : {a b c d : Account} (k m olds : ℕ) → m ≤ k → olds ≡ m → Costs k 0 a b → Costs (3 * m + 2) (3 * m) b c → Costs 0 olds c d → Costs (4 * k + 2) (4 * k) a d
all_costs k m olds le same first second third = costs_most (4 * k + 2) (4 * k) (omega (arith, le)) (omega (arith, le, same)) (costs_then (costs_then first second) third)

pub set_costs : {a b c : Account} (k m : ℕ) → m ≤ k → Costs k 0 a b → Costs (3 * m + 2) (3 * m) b c → Costs (4 * k + 2) (4 * k) a c
set_costs k m le first second = costs_most (4 * k + 2) (4 * k) (omega (arith, le)) (omega (arith, le)) (costs_then first second)
