-- Holes past the end of a tree change nothing.
use Rattle.std.proofs.Common.{◌≡◌, ◌≢◌, ◌/◌, ◌^◌, ◌<◌, ◌≤◌, ◌⊎◌, inl, inr, ℕ, List, [], ◌∷◌, ◌++◌, length, drop, get_or, get_or-drop, length-drop, nat_eq, Bool, refl, sym, ◌∙◌, ap, arith, eq-eqb}
use Rattle.std.specs.List.{AllByRecursion}
use Rattle.std.proofs.Math.Nat.{div-eq_of_lt}
use Rattle.std.proofs.lemmas.Bool.{cases_eq, ne_eqb}
use Rattle.std.specs.Prelude.{All, if◌then◌else◌}
use Rattle.std.proofs.lemmas.List.Elements.{All-head, All-tail, All-nil, All-cons}
use Rattle.zr_bptr.specs.declared.Bptr.{Bptr}
use Rattle.zr_bptr.specs.declared.Ptr.{Ptr}
use Rattle.zr_bptr.specs.declared.Ptr.TheVariants.{Hole}
use Rattle.zr_bptr.specs.declared.Tree.{Tree}
use Rattle.zr_store.specs.Store.{Stored}
use Rattle.zr_tree.specs.Trees.{tree_at, updated, Rises, HasRoom, weigh, weight_at, weight_of, SetsTree, IsTreeWay}
use Rattle.zr_tree.proofs.Each.{updated_append, weight_at_append, weight_of_append}
use Rattle.zr_tree.proofs.Holes.{below_top, outside, no_way}

-- a hole at an index past a block of this level
pub record IsPast (level : ℕ) (change : ℕ × Ptr) : Type 0 where
  pub hole : change.1 ≡ Hole
  pub past : change.0 / 32 ^ level ≢ 0

abbrev pub InRoom : ℕ → ℕ × Ptr → Type 0
InRoom level change = (change.1 ≡ Hole) ⊎ (change.0 / 32 ^ level ≡ 0)

higher : (level n m : ℕ) → n < m → n / 32 ^ level ≢ 0 → m / 32 ^ level ≢ 0
higher level n m lt past e = past (div-eq_of_lt (let top = below_top m level e in omega (arith, top, lt)))

is_past : (level : ℕ) (change : ℕ × Ptr) → InRoom level change → change.0 / 32 ^ level ≢ 0 → IsPast level change
is_past level change (inl e) past = record { hole = e; past = past }
is_past level change (inr e) past = absurd (past e)

all_past : (level n : ℕ) (xs : List (ℕ × Ptr)) → AllByRecursion (λ (x : ℕ × Ptr). n < x.0) xs → n / 32 ^ level ≢ 0 → HasRoom level xs → AllByRecursion (IsPast level) xs
all_past level n [] above past room = tt
all_past level n (x ∷ xs) above past room = (
  is_past level x (All-head (InRoom level) x xs room) (higher level n x.0 above.0 past),
  all_past level n xs above.1 past (All-tail (InRoom level) x xs room),
)

-- where the first of rising changes lies past a block, all do
pub later_past : (level : ℕ) (xs : List (ℕ × Ptr)) → Rises xs → HasRoom level xs → ((d : ℕ × Ptr) → 0 < length xs → (get_or xs 0 d).0 / 32 ^ level ≢ 0) → AllByRecursion (IsPast level) xs
later_past level [] rises room first = tt
later_past level (x ∷ xs) rises room first =
    let past = first x (omega arith) in
    (is_past level x (All-head (InRoom level) x xs room) past, all_past level x.0 xs rises.0 past (All-tail (InRoom level) x xs room))

-- the first of the later ones
pub first_past : (level n : ℕ) (changes : List (ℕ × Ptr)) → ((d : ℕ × Ptr) → n < length changes → (get_or changes n d).0 / 32 ^ level ≢ 0) → (d : ℕ × Ptr) → 0 < length (drop n changes) → (get_or (drop n changes) 0 d).0 / 32 ^ level ≢ 0
first_past level n changes past d some e =
    let at : get_or (drop n changes) 0 d ≡ get_or changes n d = get_or-drop n changes 0 d ∙ ap (λ (i : ℕ). get_or changes i d) (omega arith) in
    past d (omega (arith, some, length-drop n changes)) (ap (λ (x : ℕ × Ptr). x.0 / 32 ^ level) (sym at) ∙ e)

past_updated : (level : ℕ) (xs : List (ℕ × Ptr)) (index : ℕ) (p : Ptr) → AllByRecursion (IsPast level) xs → (index / 32 ^ level ≢ 0 → p ≡ Hole) → updated xs index p ≡ p
past_updated level [] index p all none = refl
past_updated level (x ∷ xs) index p all none =
    let same : (if nat_eq x.0 index then x.1 else p) ≡ p = elim (cases_eq x.0 index) [
      | inl e ↦
          let past : index / 32 ^ level ≢ 0 = λ z. all.0.past (ap (λ (n : ℕ). n / 32 ^ level) e ∙ z) in
          ap (λ (b : Bool). if b then x.1 else p) (eq-eqb x.0 index e) ∙ all.0.hole ∙ sym (none past)
      | inr ne ↦ ap (λ (b : Bool). if b then x.1 else p) (ne_eqb x.0 index ne)
    ] in
    ap (updated xs index) same ∙ past_updated level xs index p all.1 none

past_weight_at : (weight : Bptr → ℕ) (level : ℕ) (at : ℕ → Ptr) (xs : List (ℕ × Ptr)) → AllByRecursion (IsPast level) xs → ((index : ℕ) → index / 32 ^ level ≢ 0 → at index ≡ Hole) → weight_at weight at xs ≡ 0
past_weight_at weight level at [] all none = refl
past_weight_at weight level at (x ∷ xs) all none =
    let here : weigh weight (at x.0) ≡ 0 = ap (weigh weight) (none x.0 all.0.past) in
    let rest = past_weight_at weight level at xs all.1 none in
    omega (arith, here, rest)

past_weight_of : (weight : Bptr → ℕ) (level : ℕ) (xs : List (ℕ × Ptr)) → AllByRecursion (IsPast level) xs → weight_of weight xs ≡ 0
past_weight_of weight level [] all = refl
past_weight_of weight level (x ∷ xs) all =
    let here : weigh weight x.1 ≡ 0 = ap (weigh weight) all.0.hole in
    let rest = past_weight_of weight level xs all.1 in
    omega (arith, here, rest)

-- no tree block is on the way to an index past the end
pub past_ways : (s : Stored) (t : Tree) (level : ℕ) (xs : List (ℕ × Ptr)) → t.height ≤ level → AllByRecursion (IsPast level) xs → All (λ change. IsTreeWay s t change.0) xs
past_ways s t level [] le all = All-nil (λ (change : ℕ × Ptr). IsTreeWay s t change.0)
past_ways s t level (x ∷ xs) le all = All-cons (λ (change : ℕ × Ptr). IsTreeWay s t change.0) x xs (no_way s t x.0 level le all.0.past) (past_ways s t level xs le all.1)

-- with the holes past the end the tree is the same
pub with_past : (changes low high : List (ℕ × Ptr)) (old new : Stored) (t u : Tree) → low ++ high ≡ changes → t.height ≤ u.height → AllByRecursion (IsPast u.height) high → SetsTree low old new t u → SetsTree changes old new t u
with_past changes low high old new t u parts grows past sets = record {
  leaves = λ index.
      let none : index / 32 ^ u.height ≢ 0 → updated low index (tree_at old t index) ≡ Hole = λ ne. sym (sets.leaves index) ∙ outside new u index u.height (omega arith) ne in
      sets.leaves index
      ∙ sym (past_updated u.height high index (updated low index (tree_at old t index)) past none)
      ∙ sym (updated_append low high index (tree_at old t index))
      ∙ ap (λ (cs : List (ℕ × Ptr)). updated cs index (tree_at old t index)) parts;
  swaps = sets.swaps;
  brings = sets.brings;
  swaps_leaves = record {
    stored = λ weight.
        let e = sets.swaps_leaves.stored weight in
        let at = ap (weight_at weight (tree_at old t)) parts in
        let of = ap (weight_of weight) parts in
        let no_at = past_weight_at weight u.height (tree_at old t) high past (λ index ne. outside old t index u.height grows ne) in
        let no_of = past_weight_of weight u.height high past in
        omega (arith, e, at, of, no_at, no_of, weight_at_append weight (tree_at old t) low high, weight_of_append weight low high);
  };
  others = sets.others;
}
