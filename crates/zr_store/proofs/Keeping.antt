-- One block more in memory, and one less.
use Rattle.std.proofs.Common.{◌≡◌, ◌+◌, ◌*◌, ◌-◌, ◌^◌, subst, ◌<◌, ◌≤◌, ◌⊎◌, inl, inr, ℕ, zero, suc, List, [], ◌∷◌, ◌++◌, length, get_or, take, drop, refl, sym, ◌∙◌, ap, arith, nat_eq, true, false}
use Rattle.std.specs.Prelude.{All, if◌then◌else◌}
use Rattle.std.specs.List.{sum_by, remove, AllByRecursion}
use Rattle.std.proofs.lemmas.List.Sums.{sum_by-cons}
use Rattle.std.proofs.lemmas.List.Elements.{All-head, All-tail, All-push, All-append, All-take, All-drop}
use Rattle.std.proofs.lemmas.Bool.Decides.{nat_tests}
use Rattle.zr_base.specs.declared.space.Dva.{Dva}
use Rattle.zr_bptr.specs.declared.Bptr.{Bptr}
use Rattle.std.proofs.Math.Nat.{mul-suc}
use Rattle.zr_bptr.specs.declared.Ptr.{Ptr}
use Rattle.zr_bptr.specs.declared.Ptr.TheVariants.{Hole, At}
use Rattle.zr_bptr.specs.Spelling.{IsLawful, IsOfLevel, SpellsTreeBlock, fill_of}
use Rattle.zr_store.specs.Store.{Swaps, AreStored, IsBlockOf, hits, one_at}
use Rattle.zr_store.specs.declared.memory.Kept.{Kept}
use Rattle.zr_store.specs.Memory.{bytes_at, is_kept, is_within, pointers_of_kept, stored_of, IsSound}

pub one_itself : (b : Bptr) → one_at b.at b ≡ 1
one_itself b = grind (arith, nat_tests)

pub one_cases : (at : Dva) (b : Bptr) → (one_at at b ≡ 0) ⊎ (one_at at b ≡ 1)
one_cases at b = grind (arith, nat_tests)

apart : (at : Dva) (b : Bptr) → b.at.start < at.start → one_at at b ≡ 0
apart at b lt = grind (arith, nat_tests)

sum_last : (weight : Bptr → ℕ) (ks : List Kept) (k : Kept) → sum_by weight (pointers_of_kept (ks ++ k ∷ [])) ≡ sum_by weight (pointers_of_kept ks) + weight k.at
sum_last weight [] k = omega (arith, sum_by-cons weight k.at [])
sum_last weight (x ∷ ks) k =
    let rest = sum_last weight ks k in
    omega (arith, rest, sum_by-cons weight x.at (pointers_of_kept ks), sum_by-cons weight x.at (pointers_of_kept (ks ++ k ∷ [])))

pub fresh_hits : (n : ℕ) (ks : List Kept) (at : Dva) → All (λ k. k.at.at.start < n) ks → at.start ≡ n → hits (pointers_of_kept ks) at ≡ 0
fresh_hits n [] at below is = refl
fresh_hits n (x ∷ ks) at below is =
    let lt : x.at.at.start < n = All-head (λ (k : Kept). k.at.at.start < n) x ks below in
    let first = apart at x.at (omega (arith, lt, is)) in
    let rest = fresh_hits n ks at (All-tail (λ (k : Kept). k.at.at.start < n) x ks below) is in
    omega (arith, first, rest, sum_by-cons (one_at at) x.at (pointers_of_kept ks))

kept_last : (ks : List Kept) (k : Kept) (b : Bptr) → 0 < hits (pointers_of_kept ks) b.at → bytes_at (ks ++ k ∷ []) b ≡ bytes_at ks b
kept_last [] k b h = absurd (omega (arith, h))
kept_last (x ∷ ks) k b h = elim (one_cases b.at x.at) [
  | inl e ↦
      let rest = kept_last ks k b (omega (arith, h, e, sum_by-cons (one_at b.at) x.at (pointers_of_kept ks))) in
      ap (λ (n : ℕ). if nat_eq n 0 then bytes_at (ks ++ k ∷ []) b else x.bytes.items) e ∙ rest ∙ sym (ap (λ (n : ℕ). if nat_eq n 0 then bytes_at ks b else x.bytes.items) e)
  | inr e ↦ ap (λ (n : ℕ). if nat_eq n 0 then bytes_at (ks ++ k ∷ []) b else x.bytes.items) e ∙ sym (ap (λ (n : ℕ). if nat_eq n 0 then bytes_at ks b else x.bytes.items) e)
]

pub given_last : (ks : List Kept) (k : Kept) → hits (pointers_of_kept ks) k.at.at ≡ 0 → bytes_at (ks ++ k ∷ []) k.at ≡ k.bytes.items
given_last [] k h = ap (λ (n : ℕ). if nat_eq n 0 then [] else k.bytes.items) (one_itself k.at)
given_last (x ∷ ks) k h =
    let e : one_at k.at.at x.at ≡ 0 = omega (arith, h, sum_by-cons (one_at k.at.at) x.at (pointers_of_kept ks)) in
    ap (λ (n : ℕ). if nat_eq n 0 then bytes_at (ks ++ k ∷ []) k.at else x.bytes.items) e ∙ given_last ks k (omega (arith, h, sum_by-cons (one_at k.at.at) x.at (pointers_of_kept ks)))

pub put_swaps : (ks : List Kept) (k : Kept) → Swaps (stored_of ks) (stored_of (ks ++ k ∷ [])) [] (k.at ∷ [])
put_swaps ks k = record {
  stored = λ weight. omega (arith, sum_last weight ks k, sum_by-cons weight k.at []);
  kept = λ b free held. kept_last ks k b held;
}

same_start : (at : Dva) (b : Bptr) → one_at at b ≡ 1 → at.start ≡ b.at.start
same_start at b e = grind (arith, nat_tests)

within_same : (units : ℕ) (at : Dva) (b : Bptr) → one_at at b ≡ 1 → is_within units b.at ≡ true → is_within units at ≡ true
within_same units at b e is = grind (arith, nat_tests)

-- the units after the last
pub within_end : (units next len : ℕ) → next + len ≤ units → is_within units (record { dev = 0; start = next; len = len }) ≡ true
within_end units next len le = grind (arith, nat_tests)

pub put_sound : (units n len : ℕ) (ks : List Kept) (k : Kept) → 0 < len → k.at.at.start ≡ n → is_within units k.at.at ≡ true → IsSound units n ks → IsSound units (n + len) (ks ++ k ∷ [])
put_sound units n len ks k some is in_it sound = record {
  once = λ at. elim (one_cases at k.at) [
    | inl e ↦ let o = sound.once at in omega (arith, o, e, sum_last (one_at at) ks k)
    | inr e ↦ let z = fresh_hits n ks at sound.below (same_start at k.at e ∙ is) in omega (arith, z, e, sum_last (one_at at) ks k)
  ];
  below = All-push (λ (x : Kept). x.at.at.start < n + len) ks k (λ i d lt. let b = sound.below i d lt in omega (arith, b)) (omega (arith, is, some));
  within = λ at met. elim (one_cases at k.at) [
    | inl e ↦ sound.within at (omega (arith, e, met, sum_last (one_at at) ks k))
    | inr e ↦ within_same units at k.at e in_it
  ];
}

sum_removed : (weight : Bptr → ℕ) (ks : List Kept) (i : ℕ) (d : Kept) → i < length ks → sum_by weight (pointers_of_kept (remove ks i)) + weight (get_or ks i d).at ≡ sum_by weight (pointers_of_kept ks)
sum_removed weight [] i d lt = absurd (omega arith)
sum_removed weight (x ∷ ks) zero d lt = omega (arith, sum_by-cons weight x.at (pointers_of_kept ks))
sum_removed weight (x ∷ ks) (suc i) d lt =
    let rest = sum_removed weight ks i d (omega arith) in
    omega (arith, rest, sum_by-cons weight x.at (pointers_of_kept ks), sum_by-cons weight x.at (pointers_of_kept (remove ks i)))

kept_removed : (ks : List Kept) (i : ℕ) (d : Kept) (b : Bptr) → i < length ks → one_at b.at (get_or ks i d).at ≡ 0 → bytes_at (remove ks i) b ≡ bytes_at ks b
kept_removed [] i d b lt e = absurd (omega arith)
kept_removed (x ∷ ks) zero d b lt e = sym (ap (λ (n : ℕ). if nat_eq n 0 then bytes_at ks b else x.bytes.items) e)
kept_removed (x ∷ ks) (suc i) d b lt e = ap (λ (bytes : List ℕ). if nat_eq (one_at b.at x.at) 0 then bytes else x.bytes.items) (kept_removed ks i d b (omega arith) e)

-- ---- a stored pointer is the one at its address

-- where no block is kept at an address, none is stored there
pub none_kept : (at : Dva) (ks : List Kept) → is_kept at ks ≡ false → hits (pointers_of_kept ks) at ≡ 0
none_kept at [] none = refl
none_kept at (x ∷ ks) none = elim (one_cases at x.at) [
  | inl e ↦
      let rest = none_kept at ks (sym (ap (λ (n : ℕ). if nat_eq n 0 then is_kept at ks else true) e) ∙ none) in
      omega (arith, e, rest, sum_by-cons (one_at at) x.at (pointers_of_kept ks))
  | inr e ↦ absurd (true_false (sym (ap (λ (n : ℕ). if nat_eq n 0 then is_kept at ks else true) e) ∙ none))
]
  where
    true_false : true ≡ false → ⊥
    true_false e = cc

pub stored_hits : (b : Bptr) (ks : List Kept) → AreStored (b ∷ []) (stored_of ks) → 0 < hits (pointers_of_kept ks) b.at
stored_hits b ks held = let h = held (one_at b.at) in omega (arith, h, one_itself b, sum_by-cons (one_at b.at) b [])

-- a weight of the pointers at an address alone
abbrev there : Dva → (Bptr → ℕ) → Bptr → ℕ
there at weight b = if nat_eq (one_at at b) 0 then 0 else weight b

there_in : (at : Dva) (weight : Bptr → ℕ) (b : Bptr) → one_at at b ≡ 1 → there at weight b ≡ weight b
there_in at weight b e = ap (λ (n : ℕ). if nat_eq n 0 then 0 else weight b) e

there_out : (at : Dva) (weight : Bptr → ℕ) (b : Bptr) → one_at at b ≡ 0 → there at weight b ≡ 0
there_out at weight b e = ap (λ (n : ℕ). if nat_eq n 0 then 0 else weight b) e

none_there : (at : Dva) (weight : Bptr → ℕ) (ps : List Bptr) → hits ps at ≡ 0 → sum_by (there at weight) ps ≡ 0
none_there at weight [] h = refl
none_there at weight (p ∷ ps) h =
    let s = sum_by-cons (one_at at) p ps in
    let first = there_out at weight p (omega (arith, h, s)) in
    let rest = none_there at weight ps (omega (arith, h, s)) in
    omega (arith, first, rest, sum_by-cons (there at weight) p ps)

not_more : (b : Bptr) (ks : List Kept) (i : ℕ) (d : Kept) → i < length ks → hits (pointers_of_kept ks) b.at ≤ 1 → one_at b.at (get_or ks i d).at ≡ 1 → AreStored (b ∷ []) (stored_of ks) → (weight : Bptr → ℕ) → weight b ≤ weight (get_or ks i d).at
not_more b ks i d lt once is held weight =
    let h = held (there b.at weight) in
    let one = sum_removed (one_at b.at) ks i d lt in
    let none = none_there b.at weight (pointers_of_kept (remove ks i)) (omega (arith, one, once, is)) in
    let all = sum_removed (there b.at weight) ks i d lt in
    let here = there_in b.at weight b (one_itself b) in
    let that = there_in b.at weight (get_or ks i d).at is in
    omega (arith, h, none, all, here, that, sum_by-cons (there b.at weight) b [])

-- the pointer weighs what the one that is kept at its address weighs
same_weight : (b : Bptr) (ks : List Kept) (i : ℕ) (d : Kept) → i < length ks → hits (pointers_of_kept ks) b.at ≤ 1 → one_at b.at (get_or ks i d).at ≡ 1 → AreStored (b ∷ []) (stored_of ks) → (weight : Bptr → ℕ) → weight b ≡ weight (get_or ks i d).at
same_weight b ks i d lt once is held weight =
    let up = not_more b ks i d lt once is held weight in
    let down = not_more b ks i d lt once is held (λ x. (weight b + weight (get_or ks i d).at) - weight x) in
    omega (arith, up, down)

pub free_swaps : (ks : List Kept) (i : ℕ) (d : Kept) (b : Bptr) → i < length ks → hits (pointers_of_kept ks) b.at ≤ 1 → one_at b.at (get_or ks i d).at ≡ 1 → AreStored (b ∷ []) (stored_of ks) → Swaps (stored_of ks) (stored_of (remove ks i)) (b ∷ []) []
free_swaps ks i d b lt once is held = record {
  stored = λ weight. let e = sum_removed weight ks i d lt in let w = same_weight b ks i d lt once is held weight in omega (arith, e, w, sum_by-cons weight b []);
  kept = λ q free in_store.
      let w = same_weight b ks i d lt once is held (one_at q.at) in
      kept_removed ks i d q lt (omega (arith, w, free, sum_by-cons (one_at q.at) b []));
}

pub free_sound : (units n : ℕ) (ks : List Kept) (i : ℕ) (d : Kept) → i < length ks → IsSound units n ks → IsSound units n (remove ks i)
free_sound units n ks i d lt sound = record {
  within = λ at met. sound.within at (omega (arith, met, sum_removed (one_at at) ks i d lt));
  once = λ at. let o = sound.once at in let e = sum_removed (one_at at) ks i d lt in omega (arith, o, e);
  below = All-append (λ (k : Kept). k.at.at.start < n) (take i ks) (drop (suc i) ks) (All-take (λ (k : Kept). k.at.at.start < n) i ks sound.below) (All-drop (λ (k : Kept). k.at.at.start < n) (suc i) ks sound.below);
}

-- ---- the leaves of a block that is put

fills_most : (below : ℕ) (ps : List Ptr) → AllByRecursion IsLawful ps → AllByRecursion (IsOfLevel below) ps → sum_by fill_of ps ≤ 32 ^ below * length ps
fills_most below [] h k = omega arith
fills_most below (p ∷ ps) h k =
    let first : fill_of p ≤ 32 ^ below = fill_most p h.0 k.0 in
    let rest = fills_most below ps h.1 k.1 in
    omega (arith, first, rest, sum_by-cons fill_of p ps, mul-suc (32 ^ below) (length ps))
  where
    fill_most : (p : Ptr) → IsLawful p → IsOfLevel below p → fill_of p ≤ 32 ^ below
    fill_most Hole h k = omega arith
    fill_most (At b) h k = subst (λ (n : ℕ). b.fill ≤ 32 ^ n) k h.most

less_one : (n : ℕ) → suc n - 1 ≡ n
less_one n = omega arith

pub some_leaves : (level leaves : ℕ) (bytes : List ℕ) → (level ≡ 0 → leaves ≡ 1) → ((fill : ℕ) (ps : List Ptr) → 0 < level → SpellsTreeBlock bytes (level - 1) fill ps → leaves ≡ fill) → (0 < level → IsBlockOf (level - 1) bytes) → 1 ≤ leaves
some_leaves zero leaves bytes leaf more block = let e = leaf refl in omega (arith, e)
some_leaves (suc below) leaves bytes leaf more block =
    let (fill, ps, h) = block (omega arith) in
    let e = more fill ps (omega arith) h in
    let some = h.some in let is = h.leaves in
    omega (arith, e, some, is)

pub most_leaves : (level leaves : ℕ) (bytes : List ℕ) → (level ≡ 0 → leaves ≡ 1) → ((fill : ℕ) (ps : List Ptr) → 0 < level → SpellsTreeBlock bytes (level - 1) fill ps → leaves ≡ fill) → (0 < level → IsBlockOf (level - 1) bytes) → leaves ≤ 32 ^ level
most_leaves zero leaves bytes leaf more block = let e = leaf refl in omega (arith, e)
most_leaves (suc below) leaves bytes leaf more block =
    let (fill, ps, h) = block (omega arith) in
    let e = more fill ps (omega arith) h in
    let levels = subst (λ (n : ℕ). AllByRecursion (IsOfLevel n) ps) (less_one below) h.levels in
    let most = fills_most below ps h.lawful levels in
    let is = h.leaves in
    let long : 32 ^ below * length ps ≡ 32 ^ below * 32 = ap (λ (n : ℕ). 32 ^ below * n) h.count in
    omega (arith, e, most, is, long)
