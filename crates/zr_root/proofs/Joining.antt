-- A tree is put over the blocks of a level.
use Rattle.std.proofs.Common.{◌≡◌, ◌≢◌, ◌+◌, ◌*◌, ◌-◌, ◌/◌, ◌^◌, ◌<◌, ◌≤◌, inl, inr, ℕ, zero, suc, List, [], ◌∷◌, ◌++◌, length, map, get_or, take, drop, replicate, refl, sym, ◌∙◌, ap, subst, arith, Bool, false, nat_lt, append-nil, get_or-drop, lit<}
use Rattle.std.specs.Prelude.{All, if◌then◌else◌}
use Rattle.std.specs.List.{sum_by, flat_map}
use Rattle.std.specs.Int.{div_ceil}
use Rattle.std.specs.Simd.{first_chunks}
use Rattle.std.proofs.lemmas.Bool.{cases_eq}
use Rattle.std.proofs.lemmas.Bool.Decides.{nat_tests}
use Rattle.std.proofs.lemmas.Grind.{div_ceil_times}
use Rattle.std.proofs.lemmas.List.{length-drop, length-take-le, length-append, length-map, length-replicate}
use Rattle.std.proofs.lemmas.List.Sums.{sum_by-append}
use Rattle.std.proofs.lemmas.List.Elements.{All-head, All-tail, All-cons, All-take, All-drop, All-append, All-replicate}
use Rattle.std.proofs.Math.Nat.{pow-suc, pow-le-pow_right}
use Rattle.zr_base.specs.Trees.{IsHeight, tree_units}
use Rattle.zr_bptr.specs.declared.Bptr.{Bptr}
use Rattle.zr_bptr.specs.declared.Ptr.{Ptr}
use Rattle.zr_bptr.specs.declared.Ptr.TheVariants.{Hole, At}
use Rattle.zr_bptr.specs.declared.Tree.{Tree}
use Rattle.zr_bptr.specs.Spelling.{fill_of}
use Rattle.zr_owed.proofs.TreeUnits.{tree_units-one, tree_units-more}
use Rattle.zr_store.specs.Store.{Stored, Swaps, AreStored, Now, one_at}
use Rattle.zr_tree.specs.Blocks.{FitsAt}
use Rattle.zr_tree.specs.Trees.{kids, slot, leaf_at, leaves_below, blocks, IsAmong, IsWhole}
use Rattle.zr_tree.proofs.Frames.{Agree, frame, each_blocks, each_leaf_list, each_leaves, hole_leaf}
use Rattle.zr_tree.proofs.Holes.{inside}
use Rattle.zr_tree.proofs.Sums.{one_of}
use Rattle.zr_tree.proofs.Wholes.{among_hits, among_parts, among_own, whole_again}
use Rattle.zr_root.specs.Streams.{IsUnitAt, IsGroup, PutsBlocks, Joins}
use Rattle.zr_root.proofs.Lists.{flat_pieces}
use Rattle.zr_root.proofs.Steps.{blocks_at, level_place, level_blocks, level_leaves}

-- ---- numbers

pub ceil_of : (n k : ℕ) → 0 < k → (n ≤ div_ceil n k * k) × (div_ceil n k * k < n + k)
ceil_of n k some = div_ceil_times n k some

small_up : (r n m : ℕ) → 1 < n → n ≤ 32 ^ r → m * 32 < n + 32 → (0 < r) × (m ≤ 32 ^ (r - 1))
small_up zero n m some small low = absurd (omega (arith, some, small))
small_up (suc r) n m some small low =
    let same : suc r - 1 ≡ r = omega arith in
    (omega arith, subst (λ (k : ℕ). m ≤ 32 ^ k) (sym same) (omega (arith, small, low, pow-suc 32 r)))

pub tops_small : (level n m : ℕ) → level ≤ 5 → 1 < n → n ≤ 32 ^ (5 - level) → m * 32 < n + 32 → (level < 5) × (m ≤ 32 ^ (5 - (level + 1)))
tops_small level n m tall some small low =
    let h = small_up (5 - level) n m some small low in
    let same : 5 - level - 1 ≡ 5 - (level + 1) = omega arith in
    (omega (arith, h.0), subst (λ (k : ℕ). m ≤ 32 ^ k) same h.1)

pub bs_small : (level n : ℕ) → n ≤ 32 ^ (5 - level) → n ≤ 33554432
bs_small level n small = let le : 5 - level ≤ 5 = omega arith in let most : 32 ^ (5 - level) ≤ 32 ^ 5 = pow-le-pow_right {n = 32} (lit< tt) le in omega (arith, small, most)

pub units_least : (n : ℕ) → n ≤ tree_units n
units_least n = elim (cases_eq n 0) [
  | inl none ↦ omega (arith, none)
  | inr some ↦ elim (cases_eq n 1) [
    | inl one ↦ let e : tree_units n ≡ 1 = ap tree_units one ∙ tree_units-one in omega (arith, one, e)
    | inr more ↦ let e = tree_units-more n (omega (arith, some, more)) in omega (arith, e)
  ]
]

pub join_units : (n : ℕ) → 1 < n → div_ceil n 32 + (tree_units (div_ceil n 32) - div_ceil n 32) ≤ tree_units n - n
join_units n some = go (div_ceil n 32) (tree_units-more n some) (units_least (div_ceil n 32))
  where
    go : (m : ℕ) → tree_units n ≡ n + tree_units m → m ≤ tree_units m → m + (tree_units m - m) ≤ tree_units n - n
    go m e le = omega (arith, e, le)

pub height_up : (n m h : ℕ) → 1 < n → n ≤ m * 32 → m * 32 < n + 32 → IsHeight m h → IsHeight n (suc h)
height_up n m h some up low is = record {
  reaches = let r = is.reaches in omega (arith, up, r, pow-suc 32 h);
  least = λ k enough. at k (λ l le. is.least l le) enough;
}
  where
    at : (k : ℕ) → ((l : ℕ) → m ≤ 32 ^ l → h ≤ l) → n ≤ 32 ^ k → suc h ≤ k
    at zero least enough = absurd (omega (arith, some, enough))
    at (suc k) least enough = let l = least k (omega (arith, low, enough, pow-suc 32 k)) in omega (arith, l)

-- ---- the groups of a level

unit_fits : (level : ℕ) (bs : List Bptr) → All (IsUnitAt level) bs → All (FitsAt level) (map At bs)
unit_fits level [] h = λ i d lt. absurd (omega arith)
unit_fits level (b ∷ bs) h = All-cons (FitsAt level) (At b) (map At bs) (All-head (IsUnitAt level) b bs h).0 (unit_fits level bs (All-tail (IsUnitAt level) b bs h))

some_fill : (level : ℕ) (bs : List Bptr) (n k : ℕ) → All (IsUnitAt level) bs → k < length bs → 0 < fill_of (slot (map At bs ++ replicate n Hole) k)
some_fill level [] n k h lt = absurd (omega arith)
some_fill level (b ∷ bs) n zero h lt = let f = (All-head (IsUnitAt level) b bs h).0.1.some in omega (arith, f)
some_fill level (b ∷ bs) n (suc k) h lt = some_fill level bs n k (All-tail (IsUnitAt level) b bs h) (omega (arith, lt))

sum_first : (ps : List Ptr) → 0 < length ps → fill_of (slot ps 0) ≤ sum_by fill_of ps
sum_first ps lt = one_of fill_of ps 0 lt

slot_take : (n : ℕ) (ps : List Ptr) → slot (take (suc n) ps) 0 ≡ slot ps 0
slot_take n [] = refl
slot_take n (p ∷ ps) = refl

groups : (level k : ℕ) (ps : List Ptr) → All (FitsAt level) ps → length ps ≡ 32 * k → ((i : ℕ) → i < k → 0 < fill_of (slot ps (32 * i))) → All (IsGroup level) (first_chunks 32 k ps)
groups level zero ps fit long some = λ i d lt. absurd (omega arith)
groups level (suc k) ps fit long some =
    All-cons (IsGroup level) (take 32 ps) (first_chunks 32 k (drop 32 ps)) (record { fit = All-take (FitsAt level) 32 ps fit; some = first })
    (groups level k (drop 32 ps) (All-drop (FitsAt level) 32 ps fit) (omega (arith, length-drop 32 ps, long)) (λ i lt.
    let here = some (suc i) (omega (arith, lt)) in
    let same : slot (drop 32 ps) (32 * i) ≡ slot ps (32 * suc i) = get_or-drop 32 ps (32 * i) Hole ∙ ap (λ (j : ℕ). slot ps j) (omega arith) in
    let w : fill_of (slot (drop 32 ps) (32 * i)) ≡ fill_of (slot ps (32 * suc i)) = ap fill_of same in
    omega (arith, here, w)))
  where
    first : 0 < sum_by fill_of (take 32 ps)
    first =
        let here = some 0 (omega arith) in
        let long_take = length-take-le 32 ps (omega (arith, long)) in
        let most = sum_first (take 32 ps) (omega (arith, long_take)) in
        let same : fill_of (slot (take 32 ps) 0) ≡ fill_of (slot ps 0) = ap fill_of (slot_take 31 ps) in
        omega (arith, here, most, same)

pub level_groups : (level n m : ℕ) (bs : List Bptr) → All (IsUnitAt level) bs → length bs + n ≡ 32 * m → 32 * m < length bs + 32 → All (IsGroup level) (first_chunks 32 m (map At bs ++ replicate n Hole))
level_groups level n m bs units long low =
    groups level m (map At bs ++ replicate n Hole)
    (All-append (FitsAt level) (map At bs) (replicate n Hole) (unit_fits level bs units) (All-replicate (FitsAt level) n Hole (tt, tt)))
    (omega (arith, length-append (map At bs) (replicate n Hole), length-map bs At, length-replicate n Hole, long))
    (λ i lt. some_fill level bs n (32 * i) units (omega (arith, lt, low, long)))

-- ---- one block is its own tree

pub div_small : (index m : ℕ) → index / m ≢ 0 → nat_lt index m ≡ false
div_small index m ne = grind (arith, nat_tests)

past_one : (b : Bptr) (k : ℕ) → k ≢ 0 → slot (At b ∷ []) k ≡ Hole
past_one b zero ne = absurd (ne refl)
past_one b (suc k) ne = refl

pub join_one : (level : ℕ) (s : Stored) (bs : List Bptr) (d : Bptr) → length bs ≡ 1 → Joins level bs s s (record { root = At (get_or bs 0 d); height = level })
join_one level s [] d one = absurd (omega (arith, one))
join_one level s (b ∷ x ∷ bs) d one = absurd (omega (arith, one))
join_one level s (b ∷ []) d one = record {
  places = λ index. elim (cases_eq (index / 32 ^ level) 0) [
    | inl e ↦ inside s (record { root = At b; height = level }) index e ∙ ap (λ (k : ℕ). leaf_at s level (slot (At b ∷ []) k) index) (sym e)
    | inr ne ↦
        ap (λ (yes : Bool). if yes then leaf_at s level (At b) index else Hole) (div_small index (32 ^ level) ne)
        ∙ sym (ap (λ (p : Ptr). leaf_at s level p index) (past_one b (index / 32 ^ level) ne) ∙ hole_leaf s level index)
  ];
  stored = λ weight. let e = sum_by-append weight (blocks s level (At b)) [] in omega (arith, e);
  kept = λ q h. refl;
  leaves = sym (append-nil (leaves_below s level (At b)));
  whole = λ h q among. h q (subst (IsAmong q) (sym (append-nil (blocks s level (At b)))) among);
}

-- ---- one level more

pub all_among : (s : Stored) (b : Bptr) (bs : List Bptr) → All (IsWhole s) bs → IsAmong b bs → IsWhole s b
all_among s b [] h among = absurd (let n = among_hits b [] among in omega (arith, n))
all_among s b (x ∷ xs) h among = elim (among_parts b (x ∷ []) xs among) [
  | inl here ↦ among_own s (At x) b (All-head (IsWhole s) x xs h) here
  | inr there ↦ all_among s b xs (All-tail (IsWhole s) x xs h) there
]

module _ (level n : ℕ) (bs tops : List Bptr) (s0 s1 : Stored) (came : Swaps s0 s1 [] tops) (holds : flat_map (kids s1 level) tops ≡ map At bs ++ replicate n Hole) (held : AreStored (blocks_at s0 level bs) s0) where
  agree : Agree s0 s1 (blocks_at s0 level bs)
  agree = record { same = λ b h. let d = held (one_at b.at) in came.kept b refl (omega (arith, h, d)) }

  same_blocks : blocks_at s1 level bs ≡ blocks_at s0 level bs
  same_blocks = each_blocks s0 s1 level (λ p h. frame s0 s1 level p h) (map At bs) agree

  pub join_held : AreStored (blocks_at s1 (suc level) tops) s1
  join_held weight =
      let e = level_blocks s1 level n tops bs holds weight in
      let f = ap (sum_by weight) same_blocks in
      let d = held weight in
      let a = came.stored weight in
      omega (arith, e, f, d, a)

  pub join_more : (s2 : Stored) (t : Tree) → All (IsWhole s1) tops → Joins (suc level) tops s1 s2 t → Joins level bs s0 s2 t
  join_more s2 t whole up = record {
    places = λ index. up.places index ∙ level_place s1 level n tops bs holds index ∙ each_leaves s0 s1 level (λ p h. frame s0 s1 level p h) (map At bs) agree (index / 32 ^ level) index;
    stored = λ weight.
        let e = level_blocks s1 level n tops bs holds weight in
        let f = ap (sum_by weight) same_blocks in
        let a = came.stored weight in
        let u = up.stored weight in
        omega (arith, e, f, a, u);
    kept = λ b h. let a = came.stored (one_at b.at) in up.kept b (omega (arith, a, h)) ∙ came.kept b refl h;
    leaves = up.leaves ∙ level_leaves s1 level n tops bs holds ∙ each_leaf_list s0 s1 level (λ p h. frame s0 s1 level p h) (map At bs) agree;
    whole = λ h. up.whole (λ b among.
        elim (among_parts b tops (blocks_at s1 level bs) (λ weight. let e = level_blocks s1 level n tops bs holds weight in let l = among weight in omega (arith, e, l, sum_by-append weight tops (blocks_at s1 level bs)))) [
          | inl top ↦ all_among s1 b tops whole top
          | inr below ↦
              let there = subst (IsAmong b) same_blocks below in
              whole_again s0 s1 b (agree.same b (among_hits b (blocks_at s0 level bs) there)) (h b there)
        ]);
  }

-- the same of a store that goes on, under the names of a call
pub join_now : (had has : Stored → Type 0) (level above n m : ℕ) (bs tops xs : List Bptr) (pieces : List (List Ptr)) (all : List Ptr) (s : Stored) (t : Tree) → above ≡ suc level → xs ≡ tops → Now had (λ x. PutsBlocks level pieces s x tops) → pieces ≡ first_chunks 32 m all → length all ≡ 32 * m → all ≡ map At bs ++ replicate n Hole
    → AreStored (blocks_at s level bs) s → ((x : Stored) → had x → AreStored (blocks_at x above xs) x → Now has (λ y. Joins above xs x y t)) → Now has (λ y. Joins level bs s y t)
join_now had has level above n m bs tops xs pieces all s t above_is xs_are put cut long is held up =
    let s1 = put.stored in
    let holds = flat_pieces (kids s1 level) tops 32 m all long (put.is.pointers ∙ cut) ∙ is in
    let a = subst (λ (l : ℕ). AreStored (blocks_at s1 l xs) s1 → Now has (λ y. Joins l xs s1 y t)) above_is (up s1 put.held) in
    let b = subst (λ (ys : List Bptr). AreStored (blocks_at s1 (suc level) ys) s1 → Now has (λ y. Joins (suc level) ys s1 y t)) xs_are a in
    let top = b (join_held level n bs tops s s1 put.is.came holds held) in
    record { stored = top.stored; held = top.held; is = join_more level n bs tops s s1 put.is.came holds held top.stored t put.is.whole top.is }
