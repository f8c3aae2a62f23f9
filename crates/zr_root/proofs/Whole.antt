-- No more blocks are put than the longer stream has.
use Rattle.std.proofs.Common.{◌≡◌, ◌+◌, ◌*◌, ◌-◌, ◌/◌, ◌^◌, ◌<◌, ◌≤◌, ⊎_elim, ℕ, zero, suc, List, length, refl, sym, ap, subst, arith}
use Rattle.std.specs.Prelude.{Result}
use Rattle.std.specs.Int.{div_ceil}
use Rattle.std.proofs.lemmas.Bool.{cases_lt}
use Rattle.std.proofs.Math.Nat.{pow-suc}
use Rattle.zr_base.specs.Trees.{IsHeight, tree_units}
use Rattle.zr_bptr.specs.declared.Bptr.{Bptr}
use Rattle.zr_bptr.specs.declared.Ptr.{Ptr}
use Rattle.zr_owed.proofs.TreeUnits.{tree_units-one, tree_units-more, IsHeight-from, cases_le}
use Rattle.zr_store.specs.declared.StoreErr.{StoreErr}
use Rattle.zr_store.specs.Causes.{Account, Costs, HasCause}
use Rattle.zr_store.proofs.Causes.{costs_then, costs_most, cause_then, cause_most}
use Rattle.zr_meta.specs.Heads.{IsTreeOf}
use Rattle.zr_tree.specs.Trees.{AreBelow, IsHeightFor, blocks_over, most_frees}
use Rattle.zr_tree.proofs.Costing.{frees_within}
use Rattle.zr_root.specs.Appends.{changes_from, leaves_anew}
use Rattle.zr_root.proofs.Appending.{changes_below, length-changes}
use Rattle.zr_root.proofs.Grown.{leaves_grown, leaves_few, some_new, room_for, room_has, least_tall}
use Rattle.zr_root.proofs.Joining.{ceil_of, units_least}

-- ---- the height of a tree

search_up : (fuel k n : ℕ) → ((j : ℕ) → j < k → 32 ^ j < n) → n ≤ 32 ^ (k + fuel) → (h : ℕ) × IsHeight n h
search_up zero k n below enough = let same : k + 0 ≡ k = omega arith in (k, IsHeight-from n k (subst (λ (e : ℕ). n ≤ 32 ^ e) same enough) below)
search_up (suc fuel) k n below enough = ⊎_elim
    (λ le. (k, IsHeight-from n k le below))
    (λ lt. let same : k + suc fuel ≡ suc k + fuel = omega arith in
    search_up fuel (suc k) n (λ j less. ⊎_elim (λ low. below j low) (λ high. let e : k ≡ j = omega (arith, less, high) in subst (λ (i : ℕ). 32 ^ i < n) e lt) (cases_lt j k)) (subst (λ (e : ℕ). n ≤ 32 ^ e) same enough))
    (cases_le n (32 ^ k))

pub has_height : (n : ℕ) → n ≤ 2 ^ 25 → (h : ℕ) × IsHeight n h
has_height n most = search_up 5 0 n (λ j less. absurd (omega (arith, less))) (omega (arith, most))

-- ---- the blocks of a tree

none_over : (h : ℕ) → h ≡ 0 → blocks_over h 1 ≡ 0
none_over h low = ap (λ (k : ℕ). blocks_over k 1) low

-- the height of the blocks above the leaves
height_above : (n h : ℕ) → 1 < n → IsHeight n (suc h) → IsHeight (div_ceil n 32) h
height_above n h more is =
    let c = ceil_of n 32 (omega arith) in
    record {
      reaches = let r = is.reaches in omega (arith, c.1, r, pow-suc 32 h);
      least = λ k enough. let l = is.least (suc k) (omega (arith, c.0, enough, pow-suc 32 k)) in omega (arith, l);
    }

-- the leaves, and the tree blocks over them
pub over_leaves : (h n : ℕ) → 0 < n → IsHeight n h → n + blocks_over h n ≡ tree_units n
over_leaves zero n some is =
    let r = is.reaches in
    let one : n ≡ 1 = omega (arith, r, some) in
    let e = ap tree_units one in
    omega (arith, e, one, tree_units-one)
over_leaves (suc h) n some is = ⊎_elim
    (λ small. absurd (let l = is.least 0 (omega (arith, small)) in omega (arith, l)))
    (λ more.
    let c = ceil_of n 32 (omega arith) in
    let rest = over_leaves h (div_ceil n 32) (omega (arith, c.0, more)) (height_above n h more is) in
    let u = tree_units-more n more in
    omega (arith, rest, u))
    (cases_le n 1)

-- ---- the tree of a longer stream

-- it has this height, also where it was not put
tall_for : (words added height : ℕ) (root : Ptr) (new : List Bptr) → IsTreeOf words height root → 0 < added → length new ≡ leaves_anew words added → (h : ℕ) → IsHeight (div_ceil (words + added) 512) h → IsHeightFor height (changes_from (words / 512) new) h
tall_for words added height root new is some count h tall =
    let grown = leaves_grown words added (length new) count in
    let more = some_new words added (length new) some count in
    let before = ceil_of words 512 (omega arith) in
    let now = ceil_of (words + added) 512 (omega arith) in
    record {
      grows = let r = tall.reaches in least_tall words height root h is (omega (arith, r, before.1, now.0));
      room = let r = tall.reaches in room_for h (words / 512) new (omega (arith, grown, r));
      least = λ lower from room. tall.least lower (let r = room_has lower (words / 512) new more room in omega (arith, r, grown));
    }

module _ (words added height : ℕ) (root : Ptr) (new : List Bptr) (cs : List (ℕ × Ptr)) (is : IsTreeOf words height root) (some : 0 < added) (most : words + added ≤ 2 ^ 34) (count : length new ≡ leaves_anew words added) (changed : cs ≡ changes_from (words / 512) new) where
  leaves : ℕ
  leaves = div_ceil (words + added) 512

  all_leaves : words / 512 + length new ≡ div_ceil (words + added) 512
  all_leaves = leaves_grown words added (length new) count

  few_leaves : div_ceil (words + added) 512 ≤ 2 ^ 25
  few_leaves = let f = leaves_few words added (length new) most count in omega (arith, f, all_leaves)

  some_leaves : 0 < div_ceil (words + added) 512
  some_leaves = let more = some_new words added (length new) some count in omega (arith, more, all_leaves)

  all_below : AreBelow (div_ceil (words + added) 512) cs
  all_below = subst (AreBelow (div_ceil (words + added) 512)) (sym changed) (changes_below (words / 512) (div_ceil (words + added) 512) new (omega (arith, all_leaves)))

  tree_height : (h : ℕ) × IsHeight (div_ceil (words + added) 512) h
  tree_height = has_height (div_ceil (words + added) 512) few_leaves

  is_for : IsHeightFor height cs tree_height.0
  is_for = subst (λ (xs : List (ℕ × Ptr)). IsHeightFor height xs tree_height.0) (sym changed) (tall_for words added height root new is some count tree_height.0 tree_height.1)

  over_few : blocks_over tree_height.0 (div_ceil (words + added) 512) ≤ tree_units (div_ceil (words + added) 512) - leaves_anew words added
  over_few = let e = over_leaves tree_height.0 (div_ceil (words + added) 512) some_leaves tree_height.1 in omega (arith, e, all_leaves, count)

  frees_few : most_frees height tree_height.0 (length cs) ≤ 5 * leaves_anew words added
  frees_few =
      let low : tree_height.0 ≤ 5 = tree_height.1.least 5 (omega (arith, few_leaves)) in
      let few = frees_within height tree_height.0 5 cs low is_for in
      let long = ap (λ (xs : List (ℕ × Ptr)). length xs) changed in
      let same = length-changes (words / 512) new in
      omega (arith, few, long, same, count)

  pub grown_costs : {a b : Account} → ((n h : ℕ) → IsHeightFor height cs h → 0 < n → AreBelow n cs → Costs (blocks_over h n) (most_frees height h (length cs)) a b) → Costs (tree_units (div_ceil (words + added) 512) - leaves_anew words added) (5 * leaves_anew words added) a b
  grown_costs given = costs_most (tree_units (div_ceil (words + added) 512) - leaves_anew words added) (5 * leaves_anew words added) over_few frees_few (given (div_ceil (words + added) 512) tree_height.0 is_for some_leaves all_below)

  pub grown_cause : {a b : Account} {T : Type 0} {r : Result T StoreErr} → ((n h : ℕ) → IsHeightFor height cs h → 0 < n → AreBelow n cs → HasCause (blocks_over h n) a b r) → HasCause (tree_units (div_ceil (words + added) 512) - leaves_anew words added) a b r
  grown_cause given = cause_most (tree_units (div_ceil (words + added) 512) - leaves_anew words added) over_few (given (div_ceil (words + added) 512) tree_height.0 is_for some_leaves all_below)

-- ---- one call after another

new_few : (words added : ℕ) → leaves_anew words added ≤ tree_units (div_ceil (words + added) 512)
new_few words added =
    let grown = leaves_grown words added (leaves_anew words added) refl in
    let least = units_least (div_ceil (words + added) 512) in
    omega (arith, grown, least)

module _ {a b : Account} (words added : ℕ) (first : Costs 0 0 a b) where
  pub tail_whole : Costs (tree_units (div_ceil (words + added) 512)) (5 * leaves_anew words added + 1) a b
  tail_whole = costs_most (tree_units (div_ceil (words + added) 512)) (5 * leaves_anew words added + 1) (omega arith) (omega arith) first

  module _ {c : Account} (k : ℕ) (k_is : k ≡ leaves_anew words added) (second : Costs k 0 b c) where
    pub puts_whole : Costs (tree_units (div_ceil (words + added) 512)) (5 * leaves_anew words added + 1) a c
    puts_whole = let few = new_few words added in costs_most (tree_units (div_ceil (words + added) 512)) (5 * leaves_anew words added + 1) (omega (arith, k_is, few)) (omega arith) (costs_then first second)

    pub tree_whole_cause : {d : Account} {T : Type 0} {r : Result T StoreErr} → HasCause (tree_units (div_ceil (words + added) 512) - leaves_anew words added) c d r → HasCause (tree_units (div_ceil (words + added) 512)) a d r
    tree_whole_cause h = let few = new_few words added in cause_most (tree_units (div_ceil (words + added) 512)) (omega (arith, k_is, few)) (cause_then (costs_then first second) h)

    module _ {d : Account} (third : Costs (tree_units (div_ceil (words + added) 512) - leaves_anew words added) (5 * leaves_anew words added) c d) where
      pub tree_whole : Costs (tree_units (div_ceil (words + added) 512)) (5 * leaves_anew words added + 1) a d
      tree_whole = let few = new_few words added in costs_most (tree_units (div_ceil (words + added) 512)) (5 * leaves_anew words added + 1) (omega (arith, k_is, few)) (omega arith) (costs_then (costs_then first second) third)

      pub end_whole : {e : Account} → Costs 0 1 d e → Costs (tree_units (div_ceil (words + added) 512)) (5 * leaves_anew words added + 1) a e
      end_whole last = let few = new_few words added in costs_most (tree_units (div_ceil (words + added) 512)) (5 * leaves_anew words added + 1) (omega (arith, k_is, few)) (omega arith) (costs_then (costs_then (costs_then first second) third) last)

      pub end_whole_cause : {e : Account} {T : Type 0} {r : Result T StoreErr} → HasCause 0 d e r → HasCause (tree_units (div_ceil (words + added) 512)) a e r
      end_whole_cause h = let few = new_few words added in cause_most (tree_units (div_ceil (words + added) 512)) (omega (arith, k_is, few)) (cause_then (costs_then (costs_then first second) third) h)

  pub puts_whole_cause : {c : Account} {T : Type 0} {r : Result T StoreErr} (k : ℕ) → k ≡ leaves_anew words added → HasCause k b c r → HasCause (tree_units (div_ceil (words + added) 512)) a c r
  puts_whole_cause k k_is h = let few = new_few words added in cause_most (tree_units (div_ceil (words + added) 512)) (omega (arith, k_is, few)) (cause_then first h)
