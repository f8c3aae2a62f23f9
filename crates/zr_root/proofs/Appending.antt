-- Leaves behind those of a tree.
use Rattle.std.proofs.Common.{◌≡◌, ◌≢◌, ◌+◌, ◌*◌, ◌-◌, ◌/◌, ◌^◌, ◌<◌, ◌≤◌, inl, inr, ℕ, zero, suc, List, [], ◌∷◌, ◌++◌, length, map, get_or, take, drop, nat_eq, true, false, Bool, nat_lt, refl, sym, ◌∙◌, ap, subst, arith, append_assoc, append-nil}
use Rattle.std.specs.Prelude.{All, if◌then◌else◌}
use Rattle.std.specs.List.{flat_map, sum_by, AllByRecursion}
use Rattle.std.specs.Int.{div_ceil}
use Rattle.std.proofs.lemmas.Bool.{cases_lt, ne_eqb}
use Rattle.std.proofs.lemmas.Bool.Decides.{nat_tests}
use Rattle.std.proofs.lemmas.List.{length-append, length-drop, length-take-le, take-append-drop, take_at}
use Rattle.std.proofs.lemmas.List.Sums.{sum_by-cons}
use Rattle.std.proofs.lemmas.List.Elements.{All-head, All-tail, All-cons, All-append, All-take}
use Rattle.std.proofs.lemmas.Grind.{flat_map-append}
use Rattle.zr_base.specs.Words.{word, words, zeros}
use Rattle.zr_bptr.specs.declared.Bptr.{Bptr}
use Rattle.zr_bptr.specs.declared.Ptr.{Ptr}
use Rattle.zr_bptr.specs.declared.Ptr.TheVariants.{Hole, At}
use Rattle.zr_bptr.specs.declared.Tree.{Tree}
use Rattle.zr_store.specs.Store.{Stored, Swaps, AreStored, IsOnce, Now, one_at}
use Rattle.zr_meta.specs.declared.Stream.{Stream}
use Rattle.zr_tree.specs.Blocks.{FitsAt}
use Rattle.zr_tree.specs.Trees.{kids, digit, leaf_at, leaves_below, KeepsTree, slot, updated, own, weigh, weight_at, weight_of, Rises, AreLeaves, SetsTree, IsAmong, tree_at, tree_blocks, tree_leaves, tree_reach}
use Rattle.zr_tree.proofs.Others.{keeps}
use Rattle.zr_tree.proofs.Wholes.{Within, among_hits, whole_again, within_flat}
use Rattle.zr_root.specs.Streams.{AreWhole, HasSum, IsUnitAt, HasLeaves, HasBytes, HasWords}
use Rattle.zr_root.specs.Appends.{Appends, IsTail, PutsBytes, changes_from}
use Rattle.zr_root.proofs.Steps.{parts, length-kids}
use Rattle.zr_root.proofs.Puts.{hit_at}
use Rattle.zr_root.proofs.Beside.{Agrees, bytes_beside, slot_get, within_top}
use Rattle.sha2.specs.Sha256.{sha256}
use Rattle.zr_root.proofs.Joining.{ceil_of}
use Rattle.zr_root.proofs.Lists.{map_same, flat_map-map}
use Rattle.zr_root.proofs.Standing.{length-words}
use Rattle.zr_root.proofs.Shapes.{slot_past}
use Rattle.zr_root.proofs.Tails.{flat_long, words_cut, leaves_count, blocks_stay}

-- ---- the changes

not_equal : (a b : ℕ) → a ≢ b → nat_eq a b ≡ false
not_equal a b ne = ne_eqb a b ne

equal : (a b : ℕ) → a ≡ b → nat_eq a b ≡ true
equal a b e = grind (arith, nat_tests)

updated_before : (bs : List Bptr) (first index : ℕ) (p : Ptr) → index < first → updated (changes_from first bs) index p ≡ p
updated_before [] first index p lt = refl
updated_before (b ∷ bs) first index p lt =
    let other = not_equal first index (λ e. omega (arith, lt, e)) in
    ap (λ (t : Bool). updated (changes_from (first + 1) bs) index (if t then At b else p)) other ∙ updated_before bs (first + 1) index p (omega (arith, lt))

updated_in : (bs : List Bptr) (first k index : ℕ) (p : Ptr) → k < length bs → index ≡ first + k → updated (changes_from first bs) index p ≡ slot (map At bs) k
updated_in [] first k index p lt is = absurd (omega (arith, lt))
updated_in (b ∷ bs) first zero index p lt is =
    let here = equal first index (omega (arith, is)) in
    ap (λ (t : Bool). updated (changes_from (first + 1) bs) index (if t then At b else p)) here ∙ updated_before bs (first + 1) index (At b) (omega (arith, is))
updated_in (b ∷ bs) first (suc k) index p lt is =
    let other = not_equal first index (λ e. omega (arith, is, e)) in
    ap (λ (t : Bool). updated (changes_from (first + 1) bs) index (if t then At b else p)) other ∙ updated_in bs (first + 1) k index p (omega (arith, lt)) (omega (arith, is))

updated_past : (bs : List Bptr) (first index : ℕ) (p : Ptr) → first + length bs ≤ index → updated (changes_from first bs) index p ≡ p
updated_past [] first index p le = refl
updated_past (b ∷ bs) first index p le =
    let other = not_equal first index (λ e. omega (arith, le, e)) in
    ap (λ (t : Bool). updated (changes_from (first + 1) bs) index (if t then At b else p)) other ∙ updated_past bs (first + 1) index p (omega (arith, le))

pub length-changes : (first : ℕ) (bs : List Bptr) → length (changes_from first bs) ≡ length bs
length-changes first [] = refl
length-changes first (b ∷ bs) = ap suc (length-changes (first + 1) bs)

-- ---- the leaves of the new tree

slot_of_front : (xs ys : List Bptr) (j : ℕ) → j < length xs → slot (map At (xs ++ ys)) j ≡ slot (map At xs) j
slot_of_front [] ys j lt = absurd (omega (arith, lt))
slot_of_front (x ∷ xs) ys zero lt = refl
slot_of_front (x ∷ xs) ys (suc j) lt = slot_of_front xs ys j (omega (arith, lt))

slot_of_back : (xs ys : List Bptr) (k j : ℕ) → j ≡ length xs + k → slot (map At (xs ++ ys)) j ≡ slot (map At ys) k
slot_of_back [] ys k j is = ap (λ (i : ℕ). slot (map At ys) i) (omega (arith, is))
slot_of_back (x ∷ xs) ys k zero is = absurd (omega (arith, is))
slot_of_back (x ∷ xs) ys k (suc j) is = slot_of_back xs ys k j (omega (arith, is))

slot_of_take : (n : ℕ) (xs : List Bptr) (j : ℕ) → j < n → slot (map At (take n xs)) j ≡ slot (map At xs) j
slot_of_take zero xs j lt = absurd (omega (arith, lt))
slot_of_take (suc n) [] j lt = refl
slot_of_take (suc n) (x ∷ xs) zero lt = refl
slot_of_take (suc n) (x ∷ xs) (suc j) lt = slot_of_take n xs j (omega (arith, lt))

pub new_places : (leaves new : List Bptr) (full index : ℕ) → full ≤ length leaves → length leaves ≤ full + length new → updated (changes_from full new) index (slot (map At leaves) index) ≡ slot (map At (take full leaves ++ new)) index
new_places leaves new full index le most =
    let front = length-take-le full leaves le in
    let long = length-append (take full leaves) new in
    elim (cases_lt index full) [
      | inl lt ↦ updated_before new full index (slot (map At leaves) index) lt ∙ sym (slot_of_front (take full leaves) new index (omega (arith, front, lt)) ∙ slot_of_take full leaves index lt)
      | inr ge ↦ elim (cases_lt index (full + length new)) [
        | inl lt ↦
            let k : ℕ = index - full in
            updated_in new full k index (slot (map At leaves) index) (omega (arith, lt, ge)) (omega (arith, ge)) ∙ sym (slot_of_back (take full leaves) new k index (omega (arith, front, ge)))
        | inr past ↦ updated_past new full index (slot (map At leaves) index) past ∙ slot_past leaves index (omega (arith, past, most)) ∙ sym (slot_past (take full leaves ++ new) index (omega (arith, past, front, long)))
      ]
    ]

-- ---- what they weigh

weight_at_holes : (weight : Bptr → ℕ) (at : ℕ → Ptr) (first : ℕ) (bs : List Bptr) → ((j : ℕ) → first ≤ j → at j ≡ Hole) → weight_at weight at (changes_from first bs) ≡ 0
weight_at_holes weight at first [] h = refl
weight_at_holes weight at first (b ∷ bs) h =
    let here : weigh weight (at first) ≡ 0 = ap (weigh weight) (h first (omega arith)) in
    let rest = weight_at_holes weight at (first + 1) bs (λ j le. h j (omega (arith, le))) in
    omega (arith, here, rest)

pub weight_at_first : (weight : Bptr → ℕ) (at : ℕ → Ptr) (first : ℕ) (bs : List Bptr) → 0 < length bs → ((j : ℕ) → first + 1 ≤ j → at j ≡ Hole) → weight_at weight at (changes_from first bs) ≡ weigh weight (at first)
weight_at_first weight at first [] some h = absurd (omega (arith, some))
weight_at_first weight at first (b ∷ bs) some h = let rest = weight_at_holes weight at (first + 1) bs h in omega (arith, rest)

pub weight_of_changes : (weight : Bptr → ℕ) (first : ℕ) (bs : List Bptr) → weight_of weight (changes_from first bs) ≡ sum_by weight bs
weight_of_changes weight first [] = refl
weight_of_changes weight first (b ∷ bs) = let rest = weight_of_changes weight (first + 1) bs in omega (arith, rest, sum_by-cons weight b bs)

pub weight_own : (weight : Bptr → ℕ) (p : Ptr) → sum_by weight (own p) ≡ weigh weight p
weight_own weight Hole = refl
weight_own weight (At b) = omega (arith, sum_by-cons weight b [])

-- ---- what set_all asks of them

later : (bound first : ℕ) (bs : List Bptr) → bound < first → AllByRecursion (λ later. bound < later.0) (changes_from first bs)
later bound first [] lt = tt
later bound first (b ∷ bs) lt = (lt, later bound (first + 1) bs (omega (arith, lt)))

pub changes_rise : (first : ℕ) (bs : List Bptr) → Rises (changes_from first bs)
changes_rise first [] = tt
changes_rise first (b ∷ bs) = (later first (first + 1) bs (omega arith), changes_rise (first + 1) bs)

pub changes_leaves : (first : ℕ) (bs : List Bptr) → All (IsUnitAt 0) bs → AreLeaves (changes_from first bs)
changes_leaves first [] units = λ i d lt. absurd (omega (arith, lt))
changes_leaves first (b ∷ bs) units = All-cons (λ (c : ℕ × Ptr). FitsAt 0 c.1) (first, At b) (changes_from (first + 1) bs) (All-head (IsUnitAt 0) b bs units).0 (changes_leaves (first + 1) bs (All-tail (IsUnitAt 0) b bs units))

pub changes_below : (first most : ℕ) (bs : List Bptr) → first + length bs ≤ most → All (λ change. change.0 < most) (changes_from first bs)
changes_below first most [] le = λ i d lt. absurd (omega (arith, lt))
changes_below first most (b ∷ bs) le = All-cons (λ (c : ℕ × Ptr). c.0 < most) (first, At b) (changes_from (first + 1) bs) (omega (arith, le)) (changes_below (first + 1) most bs (omega (arith, le)))

-- ---- bytes

flat_front : (f : Bptr → List ℕ) (bs : List Bptr) (k : ℕ) → k ≤ length bs → All (λ b. length (f b) ≡ 4096) bs → flat_map f (take k bs) ≡ take (4096 * k) (flat_map f bs)
flat_front f bs k le long =
    let size : length (flat_map f (take k bs)) ≡ 4096 * k = flat_long f (take k bs) (All-take (λ (x : Bptr). length (f x) ≡ 4096) k bs long) ∙ ap (λ (n : ℕ). 4096 * n) (length-take-le k bs le) in
    let cut : flat_map f bs ≡ flat_map f (take k bs) ++ flat_map f (drop k bs) = sym (ap (flat_map f) (take-append-drop k bs)) ∙ flat_map-append f (take k bs) (drop k bs) in
    sym (ap (take (4096 * k)) cut ∙ take_at (flat_map f (take k bs)) (flat_map f (drop k bs)) (4096 * k) size)

words_front : (ns rest : List ℕ) (full : ℕ) → 512 * full ≤ length ns → take (4096 * full) (words ns ++ rest) ≡ words (take (512 * full) ns)
words_front ns rest full enough =
    let cut = words_cut ns rest full enough in
    ap (take (4096 * full)) cut.0 ∙ take_at (words (take (512 * full) ns)) (words (drop (512 * full) ns) ++ rest) (4096 * full) cut.1

regroup : (a b c d : List ℕ) → a ++ ((b ++ c) ++ d) ≡ ((a ++ b) ++ c) ++ d
regroup a b c d = simp append_assoc

past_front : (full part all n : ℕ) → n ≡ div_ceil part 4096 → all ≡ part + 4096 * full → full + n ≡ div_ceil all 4096
past_front full part all n n_is all_is =
    let a = ceil_of part 4096 (omega arith) in
    let b = ceil_of all 4096 (omega arith) in
    omega (arith, a, b, n_is, all_is)

-- ---- the stores on the way

leaf_below : (s : Stored) (level : ℕ) (p : Ptr) (index : ℕ) (b : Bptr) → leaf_at s level p index ≡ At b → IsAmong b (leaves_below s level p)
leaf_below s zero Hole index b is weight = absurd cc
leaf_below s zero (At x) index b is weight = let same : x ≡ b = cc in let w : weight x ≡ weight b = ap weight same in omega (arith, w, sum_by-cons weight x [])
leaf_below s (suc below) Hole index b is weight = absurd cc
leaf_below s (suc below) (At x) index b is weight =
    let rest = leaf_below s below (slot (kids s below x) (digit below index)) index b is weight in
    let lt : digit below index < length (kids s below x) = omega (arith, length-kids s below x) in
    let all = within_flat (leaves_below s below) (kids s below x) (digit below index) lt weight in
    omega (arith, rest, all)

tree_leaf : (s : Stored) (t : Tree) (index : ℕ) (b : Bptr) → tree_at s t index ≡ At b → IsAmong b (tree_leaves s t)
tree_leaf s t index b is = leaf_below s t.height t.root index b (within_top (nat_lt index (32 ^ t.height)) (leaf_at s t.height t.root index) b is)

own_within : (s : Stored) (t : Tree) (index : ℕ) (p : Ptr) → p ≡ tree_at s t index → Within (own p) (tree_leaves s t)
own_within s t index Hole is weight = omega arith
own_within s t index (At b) is weight = let a = tree_leaf s t index b (sym is) weight in omega (arith, a, sum_by-cons weight b [])

module _ (s0 s1 n2 : Stored) (t u : Tree) (leaves new : List Bptr) (full : ℕ) (leaf : Ptr)
    (once0 : IsOnce s0) (once1 : IsOnce s1) (once2 : IsOnce n2) (held : AreStored (tree_reach s0 t) s0) (has : HasLeaves s0 t leaves)
    (came : Swaps s0 s1 [] new) (sets : SetsTree (changes_from full new) s1 n2 t u)
    (some : 0 < length new) (le : full ≤ length leaves) (most : length leaves ≤ full + 1) (leaf_is : leaf ≡ tree_at s0 t full) where
  parts0 : (weight : Bptr → ℕ) → sum_by weight (tree_reach s0 t) ≡ sum_by weight (tree_blocks s0 t) + sum_by weight (tree_leaves s0 t)
  parts0 weight = parts s0 t.height weight t.root

  beside1 : Agrees s0 s1 (tree_blocks s0 t)
  beside1 b h = came.kept b refl (let d = held (one_at b.at) in let p = parts0 (one_at b.at) in omega (arith, d, p, h))

  kept1 : KeepsTree s0 s1 t
  kept1 = keeps s0 s1 t beside1

  blocks1 : (weight : Bptr → ℕ) → sum_by weight (tree_blocks s1 t) ≡ sum_by weight (tree_blocks s0 t)
  blocks1 weight = ap (sum_by weight) kept1.same_blocks

  leaves1 : (weight : Bptr → ℕ) → sum_by weight (tree_leaves s1 t) ≡ sum_by weight (tree_leaves s0 t)
  leaves1 weight =
      let p = parts0 weight in
      let q = parts s1 t.height weight t.root in
      let r = ap (sum_by weight) kept1.same_reach in
      let b = blocks1 weight in
      omega (arith, p, q, r, b)

  at1 : (index : ℕ) → tree_at s1 t index ≡ slot (map At leaves) index
  at1 index = kept1.leaves index ∙ has.places index

  -- the leaves of the new tree weigh what those before and the new ones do, but for the one that was not full
  leaves2 : (weight : Bptr → ℕ) → sum_by weight (tree_leaves n2 u) + sum_by weight (own leaf) ≡ sum_by weight (tree_leaves s0 t) + sum_by weight new
  leaves2 weight =
      let c = sets.swaps_leaves.stored weight in
      let d = weight_at_first weight (tree_at s1 t) full new some (λ j past. at1 j ∙ slot_past leaves j (omega (arith, past, most))) in
      let e = weight_of_changes weight full new in
      let same : tree_at s1 t full ≡ leaf = kept1.leaves full ∙ sym leaf_is in
      let f = ap (weigh weight) same in
      let g = weight_own weight leaf in
      let h = leaves1 weight in
      omega (arith, c, d, e, f, g, h)

  stored2 : (weight : Bptr → ℕ) → sum_by weight n2.pointers + sum_by weight (tree_reach s0 t) ≡ sum_by weight s0.pointers + sum_by weight (tree_reach n2 u) + sum_by weight (own leaf)
  stored2 weight =
      let a = came.stored weight in
      let b = sets.swaps.stored weight in
      let c = leaves2 weight in
      let p = parts0 weight in
      let q = parts n2 u.height weight u.root in
      let r = blocks1 weight in
      omega (arith, a, b, c, p, q, r)

  beside_own : (weight : Bptr → ℕ) → sum_by weight (own leaf) + sum_by weight (tree_reach n2 u) ≤ sum_by weight n2.pointers
  beside_own weight = let e = stored2 weight in let d = held weight in omega (arith, e, d)

  pub leaf_held : AreStored (own leaf) n2
  leaf_held weight = let e = beside_own weight in omega (arith, e)

  -- ---- the bytes of its leaves

  old_bytes : (i : ℕ) (d : Bptr) → i < length leaves → n2.bytes (get_or leaves i d) ≡ s0.bytes (get_or leaves i d)
  old_bytes i d lt =
      let x = get_or leaves i d in
      let among = tree_leaf s0 t i x (has.places i ∙ slot_get leaves i d lt) in
      let met = among_hits x (tree_leaves s0 t) among in
      let p = parts0 (one_at x.at) in
      let h = held (one_at x.at) in
      let o = once0 x.at in
      let q = blocks1 (one_at x.at) in
      let a = came.stored (one_at x.at) in
      sets.swaps.kept x (omega (arith, met, p, h, o, q)) (omega (arith, met, p, h, a)) ∙ came.kept x refl (omega (arith, met, p, h))

  new_bytes : (i : ℕ) (d : Bptr) → i < length new → n2.bytes (get_or new i d) ≡ s1.bytes (get_or new i d)
  new_bytes i d lt =
      let x = get_or new i d in
      let met = hit_at new i d lt in
      let a = came.stored (one_at x.at) in
      let o = once1 x.at in
      let h = held (one_at x.at) in
      let p = parts0 (one_at x.at) in
      let q = blocks1 (one_at x.at) in
      sets.swaps.kept x (omega (arith, met, a, o, h, p, q)) (omega (arith, met, a))

  whole2 : AreWhole n2 (tree_blocks n2 u)
  whole2 b among = elim (sets.brings.each b among) [
    | inr whole ↦ whole
    | inl old ↦
        let there : IsAmong b (tree_blocks s0 t) = subst (IsAmong b) kept1.same_blocks old.0 in
        whole_again s0 n2 b (old.1 ∙ beside1 b (among_hits b (tree_blocks s0 t) there)) (has.whole b there)
  ]

  pub new_leaves : All (IsUnitAt 0) new → HasLeaves n2 u (take full leaves ++ new)
  new_leaves units = record {
    places = λ index. sets.leaves index ∙ ap (updated (changes_from full new) index) (at1 index) ∙ new_places leaves new full index le (omega (arith, most, some));
    units = All-append (IsUnitAt 0) (take full leaves) new (All-take (IsUnitAt 0) full leaves has.units) units;
    whole = whole2;
  }

  flat_old : (has_old : All (λ b. length (s0.bytes b) ≡ 4096) leaves) (ns rest : List ℕ) → 512 * full ≤ length ns → flat_map s0.bytes leaves ≡ words ns ++ rest → flat_map n2.bytes (take full leaves) ≡ words (take (512 * full) ns)
  flat_old long ns rest enough spelled =
      let maps : map n2.bytes leaves ≡ map s0.bytes leaves = map_same s0.bytes n2.bytes leaves old_bytes in
      let flats : flat_map n2.bytes leaves ≡ flat_map s0.bytes leaves = sym (flat_map-map n2.bytes leaves) ∙ ap (flat_map (λ (c : List ℕ). c)) maps ∙ flat_map-map s0.bytes leaves in
      let now : All (λ b. length (n2.bytes b) ≡ 4096) leaves = λ i d lt. ap (λ (xs : List ℕ). length xs) (old_bytes i d lt) ∙ long i d lt in
      flat_front n2.bytes leaves full le now ∙ ap (take (4096 * full)) (flats ∙ spelled) ∙ words_front ns rest full enough

  flat_new : flat_map n2.bytes new ≡ flat_map s1.bytes new
  flat_new = sym (flat_map-map n2.bytes new) ∙ ap (flat_map (λ (c : List ℕ). c)) (map_same s1.bytes n2.bytes new new_bytes) ∙ flat_map-map s1.bytes new

  -- so many bytes stand behind the words that stood there
  pub new_bytes_stand : (ns added tail : List ℕ) → All (IsUnitAt 0) new → (old : HasBytes s0 t (words ns)) → leaves ≡ old.leaves → full ≡ length ns / 512 → tail ≡ words (drop (512 * full) ns) → PutsBytes (tail ++ words added) s0 s1 new → length new ≡ div_ceil (length (tail ++ words added)) 4096 → HasBytes n2 u (words (ns ++ added))
  new_bytes_stand ns added tail units old same full_is tail_is puts count =
      let w = length-words ns in
      let a = length-words added in
      let rest = length-words (drop (512 * full) ns) in
      let tail_long = ap (λ (xs : List ℕ). length xs) tail_is in
      let dropped = length-drop (512 * full) ns in
      let joined = length-append tail (words added) in
      let all : length (words (ns ++ added)) ≡ 8 * (length ns + length added) = length-words (ns ++ added) ∙ ap (λ (k : ℕ). 8 * k) (length-append ns added) in
      let long : All (λ b. length (s0.bytes b) ≡ 4096) leaves = subst (All (λ b. length (s0.bytes b) ≡ 4096)) (sym same) old.long in
      let sums : All (HasSum s0) leaves = subst (All (HasSum s0)) (sym same) old.sums in
      let sized : length (take full leaves ++ new) ≡ full + length new = length-append (take full leaves) new ∙ ap (λ (k : ℕ). k + length new) (length-take-le full leaves le) in
      let long_now : All (λ b. length (n2.bytes b) ≡ 4096) leaves = λ i d lt. ap (λ (xs : List ℕ). length xs) (old_bytes i d lt) ∙ long i d lt in
      let long_new : All (λ b. length (n2.bytes b) ≡ 4096) new = λ i d lt. ap (λ (xs : List ℕ). length xs) (new_bytes i d lt) ∙ puts.long i d lt in
      let sums_now : All (HasSum n2) leaves = λ i d lt. sums i d lt ∙ sym (ap (λ (xs : List ℕ). sha256 xs) (old_bytes i d lt)) in
      let sums_new : All (HasSum n2) new = λ i d lt. puts.sums i d lt ∙ sym (ap (λ (xs : List ℕ). sha256 xs) (new_bytes i d lt)) in
      let enough : 512 * full ≤ length ns = omega (arith, full_is) in
      let front = flat_old long ns (zeros (4096 * length old.leaves - length (words ns))) enough (ap (flat_map s0.bytes) same ∙ old.spelling) in
      let size : 4096 * length new - length (tail ++ words added) ≡ 4096 * length (take full leaves ++ new) - length (words (ns ++ added)) = omega (arith, w, a, rest, tail_long, dropped, joined, all, sized, enough) in
      let counted : full + length new ≡ div_ceil (length (words (ns ++ added))) 4096 = past_front full (length (tail ++ words added)) (length (words (ns ++ added))) (length new) count (omega (arith, a, rest, tail_long, dropped, joined, all, enough)) in
      record {
        leaves = take full leaves ++ new;
        are_leaves = new_leaves units;
        count = sized ∙ counted;
        long = All-append (λ b. length (n2.bytes b) ≡ 4096) (take full leaves) new (All-take (λ b. length (n2.bytes b) ≡ 4096) full leaves long_now) long_new;
        sums = All-append (HasSum n2) (take full leaves) new (All-take (HasSum n2) full leaves sums_now) sums_new;
        spelling =
            flat_map-append n2.bytes (take full leaves) new
            ∙ ap (λ (xs : List ℕ). xs ++ flat_map n2.bytes new) front
            ∙ ap (λ (xs : List ℕ). words (take (512 * full) ns) ++ xs) (flat_new ∙ puts.spelling ∙ ap (λ (xs : List ℕ). (xs ++ words added) ++ zeros (4096 * length new - length (tail ++ words added))) tail_is)
            ∙ regroup (words (take (512 * full) ns)) (words (drop (512 * full) ns)) (words added) (zeros (4096 * length new - length (tail ++ words added)))
            ∙ ap (λ (xs : List ℕ). (xs ++ words added) ++ zeros (4096 * length new - length (tail ++ words added))) (sym (flat_map-append word (take (512 * full) ns) (drop (512 * full) ns)) ∙ ap words (take-append-drop (512 * full) ns))
            ∙ ap (λ (xs : List ℕ). xs ++ zeros (4096 * length new - length (tail ++ words added))) (sym (flat_map-append word ns added))
            ∙ ap (λ (k : ℕ). words (ns ++ added) ++ zeros k) size;
      }

  -- ---- after the old leaf is given back

  module _ (n3 : Stored) (freed : Swaps n2 n3 (own leaf) []) where
    beside3 : Agrees n2 n3 (tree_reach n2 u)
    beside3 b h =
        let e = beside_own (one_at b.at) in
        let o = once2 b.at in
        freed.kept b (omega (arith, e, o, h)) (omega (arith, e, h))

    same_reach3 : tree_reach n3 u ≡ tree_reach n2 u
    same_reach3 = (keeps n2 n3 u (λ b h. beside3 b (let p = parts n2 u.height (one_at b.at) u.root in omega (arith, p, h)))).same_reach

    pub swapped : Swaps s0 n3 (tree_reach s0 t) (tree_reach n3 u)
    swapped = record {
      stored = λ weight.
          let e = stored2 weight in
          let f = freed.stored weight in
          let r = ap (sum_by weight) same_reach3 in
          omega (arith, e, f, r);
      kept = λ b out stored.
          let p = parts0 (one_at b.at) in
          let q = blocks1 (one_at b.at) in
          let own_in = own_within s0 t full leaf leaf_is (one_at b.at) in
          let a = came.stored (one_at b.at) in
          let c = sets.swaps.stored (one_at b.at) in
          freed.kept b (omega (arith, p, own_in, out)) (omega (arith, p, q, a, c, out, stored))
          ∙ sets.swaps.kept b (omega (arith, p, q, out)) (omega (arith, a, stored))
          ∙ came.kept b refl stored;
    }

    pub stand_after : (bytes : List ℕ) → HasBytes n2 u bytes → HasBytes n3 u bytes
    stand_after bytes has_bytes = bytes_beside n2 n3 u bytes beside3 has_bytes

    pub full_stay : (index : ℕ) → index < full → tree_at n3 u index ≡ tree_at s0 t index
    full_stay index lt =
        (keeps n2 n3 u (λ b h. beside3 b (let p = parts n2 u.height (one_at b.at) u.root in omega (arith, p, h)))).leaves index
        ∙ sets.leaves index ∙ updated_before new full index (tree_at s1 t index) lt ∙ kept1.leaves index

-- ---- the calls, one after another

-- a stream's leaves are its full ones and at most one more
leaves_about : (s : Stored) (stream : Stream) (ns : List ℕ) (has : HasWords s stream ns) → (stream.words / 512 ≤ length has.bytes.leaves) × (length has.bytes.leaves ≤ stream.words / 512 + 1)
leaves_about s stream ns has =
    let count = leaves_count s stream ns has in
    let ceil = ceil_of stream.words 512 (omega arith) in
    (omega (arith, count, ceil.0), omega (arith, count, ceil.1))

pub appended_now : (had has last : Stored → Type 0) (s0 : Stored) (stream : Stream) (u : Tree) (new : List Bptr) (leaf : Ptr) (ns added tail : List ℕ) → IsOnce s0 → ((m : Stored) → had m → IsOnce m) → ((m : Stored) → has m → IsOnce m) → AreStored (tree_reach s0 stream.tree) s0 → HasWords s0 stream ns → IsTail s0 stream ns leaf tail
    → All (IsUnitAt 0) new → 0 < length new → length new ≡ div_ceil (length (tail ++ words added)) 4096 → Now had (λ n. PutsBytes (tail ++ words added) s0 n new) → ((m : Stored) → had m → AreStored (tree_blocks m stream.tree) m → Now has (λ n. SetsTree (changes_from (stream.words / 512) new) m n stream.tree u))
    → ((m : Stored) → has m → AreStored (own leaf) m → Now last (λ n. Swaps m n (own leaf) [])) → Now last (λ n. Appends s0 n stream (record { words = stream.words + length added; tree = u }) ns added)
appended_now had has last s0 stream u new leaf ns added tail once0 once_had once_has held old tailed units some count put set free =
    let t = stream.tree in
    let full : ℕ = stream.words / 512 in
    let leaves = old.bytes.leaves in
    let s1 = put.stored in
    let came = put.is.came in
    let second = set s1 put.held (blocks_stay s0 s1 t new held came) in
    let n2 = second.stored in
    let about = leaves_about s0 stream ns old in
    let once1 = once_had s1 put.held in
    let once2 = once_has n2 second.held in
    let kept = leaf_held s0 s1 n2 t u leaves new full leaf once0 once1 once2 held old.bytes.are_leaves came second.is some about.0 about.1 tailed.leaf_is in
    let third = free n2 second.held kept in
    let n3 = third.stored in
    let full_is : full ≡ length ns / 512 = ap (λ (k : ℕ). k / 512) (sym old.count) in
    let bytes = new_bytes_stand s0 s1 n2 t u leaves new full leaf once0 once1 once2 held old.bytes.are_leaves came second.is some about.0 about.1 tailed.leaf_is ns added tail units old.bytes refl full_is tailed.bytes_are put.is count in
    record {
      stored = n3;
      held = third.held;
      is = record {
        stands = record {
          count = length-append ns added ∙ ap (λ (k : ℕ). k + length added) old.count;
          bytes = stand_after s0 s1 n2 t u leaves new full leaf once0 once1 once2 held old.bytes.are_leaves came second.is some about.0 about.1 tailed.leaf_is n3 third.is (words (ns ++ added)) bytes;
        };
        full = λ index lt. full_stay s0 s1 n2 t u leaves new full leaf once0 once1 once2 held old.bytes.are_leaves came second.is some about.0 about.1 tailed.leaf_is n3 third.is index lt;
        swaps = swapped s0 s1 n2 t u leaves new full leaf once0 once1 once2 held old.bytes.are_leaves came second.is some about.0 about.1 tailed.leaf_is n3 third.is;
      };
    }

-- nothing is appended
pub appended_none : (holds : Stored → Type 0) (s : Stored) (stream : Stream) (ns added : List ℕ) → holds s → length added ≡ 0 → HasWords s stream ns → Now holds (λ n. Appends s n stream stream ns added)
appended_none holds s stream ns [] held none has = record {
  stored = s;
  held = held;
  is = record {
    stands = subst (HasWords s stream) (sym (append-nil ns)) has;
    full = λ index lt. refl;
    swaps = record { stored = λ weight. refl; kept = λ b out stored. refl };
  };
}
appended_none holds s stream ns (x ∷ xs) held none has = absurd (omega (arith, none))
