-- Which pointers the blocks of a level have, where the leaves are known.
use Rattle.std.proofs.Common.{◌≡◌, ◌≢◌, ◌+◌, ◌*◌, ◌-◌, ◌/◌, ◌%◌, ◌^◌, ◌<◌, ◌≤◌, ◌⊎◌, inl, inr, ℕ, zero, suc, List, [], ◌∷◌, ◌++◌, length, map, get_or, replicate, refl, sym, ◌∙◌, ap, subst, arith, append-nil}
use Rattle.std.specs.Prelude.{All}
use Rattle.std.specs.List.{flat_map, sum_by, AllByRecursion}
use Rattle.std.specs.Int.{div_ceil}
use Rattle.std.proofs.lemmas.Bool.{cases_lt}
use Rattle.std.proofs.lemmas.List.{get_or_default, length-append, get_or_past, get_or_append_left, get_or-append_right}
use Rattle.std.proofs.lemmas.List.Sums.{sum_by-append, sum_by-cons}
use Rattle.std.proofs.lemmas.List.Elements.{All-head, All-tail, All-cons}
use Rattle.std.proofs.Math.Nat.{pow-suc, mul-le-mul_right, div-one, mul-div_cancel, div-mul-le_self}
use Rattle.zr_base.specs.Trees.{IsHeight, tree_units}
use Rattle.zr_bptr.specs.declared.Bptr.{Bptr}
use Rattle.zr_bptr.specs.declared.Ptr.{Ptr}
use Rattle.zr_bptr.specs.declared.Ptr.TheVariants.{Hole, At}
use Rattle.zr_bptr.specs.declared.Tree.{Tree}
use Rattle.zr_bptr.specs.Spelling.{IsLawful, IsOfLevel, fill_of}
use Rattle.zr_owed.proofs.TreeUnits.{tree_units-one, tree_units-more}
use Rattle.zr_store.specs.Store.{Stored}
use Rattle.zr_tree.specs.Blocks.{FitsAt}
use Rattle.zr_tree.specs.Trees.{kids, slot, digit, leaf_at, blocks, IsAmong, IsWhole, tree_blocks, tree_leaves, tree_reach}
use Rattle.zr_tree.proofs.Frames.{hole_leaf}
use Rattle.zr_tree.proofs.Holes.{div-suc, hole_blocks}
use Rattle.zr_tree.proofs.Spelled.{spelled}
use Rattle.zr_tree.proofs.Wholes.{Within, among_hits, among_within, among_parts, within_front, within_back, kid_within}
use Rattle.zr_root.specs.Streams.{AreWhole, IsUnitAt, HasLeaves}
use Rattle.zr_root.specs.Levels.{IsLevel, HavePointers}
use Rattle.zr_root.proofs.Joining.{ceil_of, all_among, join_one}
use Rattle.zr_root.proofs.Steps.{blocks_at, length-kids, step_blocks, step_place, level_place, level_blocks, level_leaves, parts, no_blocks, own_leaves}

-- ---- numbers

pub pow-pos : (h : ℕ) → 0 < 32 ^ h
pow-pos zero = omega arith
pow-pos (suc h) = let e = pow-pos h in omega (arith, pow-suc 32 h, e)

pub below_ceil : (n k j : ℕ) → 0 < k → j < div_ceil n k → j * k < n
below_ceil n k j some lt = go (div_ceil n k) lt (ceil_of n k some)
  where
    go : (m : ℕ) → j < m → (n ≤ m * k) × (m * k < n + k) → j * k < n
    go m less c = let le : (j + 1) * k ≤ m * k = mul-le-mul_right k (omega (arith, less)) in omega (arith, le, c.1)

pub past_ceil : (n k j : ℕ) → 0 < k → div_ceil n k ≤ j → n ≤ j * k
past_ceil n k j some le = go (div_ceil n k) le (ceil_of n k some)
  where
    go : (m : ℕ) → m ≤ j → (n ≤ m * k) × (m * k < n + k) → n ≤ j * k
    go m less c = let up : m * k ≤ j * k = mul-le-mul_right k less in omega (arith, up, c.0)

pub ceil_is : (n k c : ℕ) → 0 < k → n ≤ c * k → c * k < n + k → c ≡ div_ceil n k
ceil_is n k c some up low = go (div_ceil n k) (ceil_of n k some)
  where
    go : (m : ℕ) → (n ≤ m * k) × (m * k < n + k) → c ≡ m
    go m h = elim (cases_lt c m) [
      | inl lt ↦ absurd (let le : (c + 1) * k ≤ m * k = mul-le-mul_right k (omega (arith, lt)) in omega (arith, le, up, h.1))
      | inr ge ↦ elim (cases_lt m c) [
        | inl lt ↦ absurd (let le : (m + 1) * k ≤ c * k = mul-le-mul_right k (omega (arith, lt)) in omega (arith, le, low, h.0))
        | inr le ↦ omega (arith, ge, le)
      ]
    ]

-- the blocks above are one for 32 of these
pub ceil_up : (n level : ℕ) → div_ceil (div_ceil n (32 ^ level)) 32 ≡ div_ceil n (32 ^ suc level)
ceil_up n level =
    let h = go (32 ^ level) (div_ceil n (32 ^ level)) (div_ceil (div_ceil n (32 ^ level)) 32) (32 ^ suc level) (pow-suc 32 level) (ceil_of n (32 ^ level) (pow-pos level)) (ceil_of (div_ceil n (32 ^ level)) 32 (omega arith)) in
    ceil_is n (32 ^ suc level) (div_ceil (div_ceil n (32 ^ level)) 32) (pow-pos (suc level)) h.0 h.1
  where
    go : (k m d p : ℕ) → p ≡ k * 32 → (n ≤ m * k) × (m * k < n + k) → (m ≤ d * 32) × (d * 32 < m + 32) → (n ≤ d * p) × (d * p < n + p)
    go k m d p p_is h g =
        let up : m * k ≤ (d * 32) * k = mul-le-mul_right k g.0 in
        let low : (d * 32 + 1) * k ≤ (m + 32) * k = mul-le-mul_right k (omega (arith, g.1)) in
        let same : d * p ≡ d * (k * 32) = ap (λ (x : ℕ). d * x) p_is in
        (omega (arith, up, same, h.0), omega (arith, low, same, p_is, h.1))

pub ceil_one : (n : ℕ) → div_ceil n 1 ≡ n
ceil_one n = sym (ceil_is n 1 n (omega arith) (omega arith) (omega arith))

first_among : (b : Bptr) (bs : List Bptr) → IsAmong b (b ∷ bs)
first_among b bs weight = omega (arith, sum_by-cons weight b bs)

-- ---- a pointer whose blocks are whole has a leaf below it

find_some : (ps : List Ptr) → 0 < sum_by fill_of ps → (k : ℕ) × (c : Bptr) × (k < length ps) × (slot ps k ≡ At c)
find_some [] h = absurd (omega (arith, h))
find_some (At b ∷ ps) h = (0, b, omega arith, refl)
find_some (Hole ∷ ps) h =
    let (k, c, lt, is) = find_some ps (omega (arith, h, sum_by-cons fill_of Hole ps)) in
    (suc k, c, omega (arith, lt), is)

all_at : (P : Ptr → Type 0) (ps : List Ptr) (k : ℕ) → AllByRecursion P ps → k < length ps → P (slot ps k)
all_at P [] k h lt = absurd (omega (arith, lt))
all_at P (p ∷ ps) zero h lt = h.0
all_at P (p ∷ ps) (suc k) h lt = all_at P ps k h.1 (omega (arith, lt))

-- the pointers in a whole block
pub kid_fits : (s : Stored) (below : ℕ) (b : Bptr) (k : ℕ) → b.level ≡ suc below → IsWhole s b → FitsAt below (slot (kids s below b) k)
kid_fits s below b k level_is w = elim (cases_lt k 32) [
  | inl lt ↦
      let pointers = w.block.0 in
      let spells = w.block.1 in
      let is = spelled (s.bytes b) (b.level - 1) b.fill pointers spells in
      let down : b.level - 1 ≡ below = omega (arith, level_is) in
      let count = spells.count in
      let within : k < length pointers = omega (arith, lt, count) in
      subst (λ (qs : List Ptr). FitsAt below (slot qs k)) (sym is)
      (all_at (IsOfLevel below) pointers k (subst (λ (l : ℕ). AllByRecursion (IsOfLevel l) pointers) down spells.levels) within, all_at IsLawful pointers k spells.lawful within)
  | inr past ↦
      let long = length-kids s below b in
      subst (FitsAt below) (sym (get_or_past (kids s below b) k Hole (omega (arith, long, past)))) (tt, tt)
]

some_kid : (s : Stored) (below : ℕ) (b : Bptr) → IsWhole s b → (k : ℕ) × (c : Bptr) × (k < 32) × (slot (kids s below b) k ≡ At c)
some_kid s below b w =
    let pointers = w.block.0 in
    let spells = w.block.1 in
    let is = spelled (s.bytes b) (b.level - 1) b.fill pointers spells in
    let (k, c, lt, at) = find_some pointers spells.some in
    let count = spells.count in
    (k, c, omega (arith, lt, count), ap (λ (qs : List Ptr). slot qs k) is ∙ at)

pub whole_below : (s : Stored) (below : ℕ) (b c : Bptr) (k : ℕ) → k < 32 → slot (kids s below b) k ≡ At c → AreWhole s (blocks s (suc below) (At b)) → AreWhole s (blocks s below (At c))
whole_below s below b c k lt at whole x among =
    let long = length-kids s below b in
    let within : k < length (kids s below b) = omega (arith, long, lt) in
    let next : At c ≡ get_or (kids s below b) k (At c) = sym at ∙ get_or_default (kids s below b) k Hole (At c) within in
    whole x (among_within x (blocks s below (At c)) (blocks s (suc below) (At b)) (kid_within s (suc below) below k (At b) b (kids s below b) (At c) refl refl refl within next) among)

pub some_leaf : (s : Stored) (level place : ℕ) (b : Bptr) → FitsAt level (At b) → AreWhole s (blocks s level (At b)) → (index : ℕ) × (index / 32 ^ level ≡ place) × (leaf_at s level (At b) index ≢ Hole)
some_leaf s zero place b fits whole = (place, div-one place, λ e. absurd cc)
some_leaf s (suc below) place b fits whole =
    let w = whole b (first_among b (flat_map (blocks s below) (kids s below b))) in
    let (k, c, lt, at) = some_kid s below b w in
    let (index, place_is, some) = some_leaf s below (32 * place + k) c (subst (FitsAt below) at (kid_fits s below b k fits.0 w)) (whole_below s below b c k lt at whole) in
    let up = div-suc index below in
    let digit_is : digit below index ≡ k = ap (λ (n : ℕ). n % 32) place_is ∙ omega (arith, lt) in (
      index,
      up ∙ ap (λ (n : ℕ). n / 32) place_is ∙ omega (arith, lt),
      λ e. some (ap (λ (p : Ptr). leaf_at s below p index) (sym at) ∙ ap (λ (j : ℕ). leaf_at s below (slot (kids s below b) j) index) (sym digit_is) ∙ e),
    )

-- ---- one level more

holes_same : (xs : List Ptr) (m n : ℕ) → m ≡ n → xs ++ replicate m Hole ≡ xs ++ replicate n Hole
holes_same xs m n e = ap (λ (k : ℕ). xs ++ replicate k Hole) e

all_holes : (qs : List Ptr) → ((j : ℕ) → slot qs j ≡ Hole) → qs ≡ replicate (length qs) Hole
all_holes [] h = refl
all_holes (q ∷ qs) h = ap (λ (x : Ptr). x ∷ qs) (h 0) ∙ ap (λ (xs : List Ptr). Hole ∷ xs) (all_holes qs (λ j. h (suc j)))

cut_more : (p : Ptr) (ps : List Ptr) (b : Bptr) (bs : List Bptr) → p ≡ At b → ps ≡ map At bs ++ replicate (length ps - length bs) Hole → p ∷ ps ≡ map At (b ∷ bs) ++ replicate (length (p ∷ ps) - length (b ∷ bs)) Hole
cut_more p ps b bs here is =
    ap (λ (x : Ptr). x ∷ ps) here ∙ ap (λ (xs : List Ptr). At b ∷ xs) (is ∙ holes_same (map At bs) (length ps - length bs) (length (p ∷ ps) - length (b ∷ bs)) (omega arith))

-- pointers to so many blocks, and holes behind them
cut : (ps : List Ptr) (m : ℕ) → ((j : ℕ) → j < m → (b : Bptr) × (slot ps j ≡ At b)) → ((j : ℕ) → m ≤ j → slot ps j ≡ Hole) → (bs : List Bptr) × (length bs ≡ m) × (ps ≡ map At bs ++ replicate (length ps - length bs) Hole)
cut [] zero full empty = ([], refl, refl)
cut [] (suc m) full empty = absurd (let (b, is) = full 0 (omega arith) in let e : Hole ≡ At b = is in cc)
cut (p ∷ ps) zero full empty = ([], refl, all_holes (p ∷ ps) (λ j. empty j (omega arith)) ∙ holes_same [] (length (p ∷ ps)) (length (p ∷ ps) - 0) (omega arith))
cut (p ∷ ps) (suc m) full empty =
    let first = full 0 (omega arith) in
    let rest = cut ps m (λ j lt. full (suc j) (omega (arith, lt))) (λ j le. empty (suc j) (omega (arith, le))) in
    (first.0 ∷ rest.0, ap suc rest.1, cut_more p ps first.0 rest.0 first.1 rest.2)

all_from_slots : (P : Ptr → Type 0) (bs : List Bptr) → ((j : ℕ) → j < length bs → P (slot (map At bs) j)) → All (λ b. P (At b)) bs
all_from_slots P [] h = λ i d lt. absurd (omega (arith, lt))
all_from_slots P (b ∷ bs) h = All-cons (λ (x : Bptr). P (At x)) b bs (h 0 (omega arith)) (all_from_slots P bs (λ j lt. h (suc j) (omega (arith, lt))))

slot_front : (bs : List Bptr) (n j : ℕ) → j < length bs → slot (map At bs ++ replicate n Hole) j ≡ slot (map At bs) j
slot_front [] n j lt = absurd (omega (arith, lt))
slot_front (b ∷ bs) n zero lt = refl
slot_front (b ∷ bs) n (suc j) lt = slot_front bs n j (omega (arith, lt))

pub slot_leaf : (bs : List Bptr) (j : ℕ) → j < length bs → (b : Bptr) × (slot (map At bs) j ≡ At b) × (All (IsUnitAt 0) bs → IsUnitAt 0 b)
slot_leaf [] j lt = absurd (omega (arith, lt))
slot_leaf (b ∷ bs) zero lt = (b, refl, λ h. All-head (IsUnitAt 0) b bs h)
slot_leaf (b ∷ bs) (suc j) lt = let (x, is, unit) = slot_leaf bs j (omega (arith, lt)) in (x, is, λ h. unit (All-tail (IsUnitAt 0) b bs h))

pub slot_past : (bs : List Bptr) (j : ℕ) → length bs ≤ j → slot (map At bs) j ≡ Hole
slot_past [] j le = refl
slot_past (b ∷ bs) zero le = absurd (omega (arith, le))
slot_past (b ∷ bs) (suc j) le = slot_past bs j (omega (arith, le))

-- a hole or a block
hole_or : (p : Ptr) → (p ≡ Hole) ⊎ ((b : Bptr) × (p ≡ At b))
hole_or Hole = inl refl
hole_or (At b) = inr (b, refl)

at_same : (b c : Bptr) → At b ≡ At c → b ≡ c
at_same b c e = cc

pub length-flat_kids : (s : Stored) (below : ℕ) (tops : List Bptr) → length (flat_map (kids s below) tops) ≡ 32 * length tops
length-flat_kids s below [] = refl
length-flat_kids s below (b ∷ tops) =
    let rest = length-flat_kids s below tops in
    let long = length-kids s below b in
    let all = length-append (kids s below b) (flat_map (kids s below) tops) in
    omega (arith, rest, long, all)

no_blocks_hole : (s : Stored) (below : ℕ) → AreWhole s (blocks s below Hole)
no_blocks_hole s below b among = absurd (let n = among_hits b [] (subst (IsAmong b) (hole_blocks s below) among) in omega (arith, n))

one_kid : (s : Stored) (below j : ℕ) (b : Bptr) → j < 32 → b.level ≡ suc below → AreWhole s (blocks s (suc below) (At b)) → FitsAt below (slot (kids s below b) j) × AreWhole s (blocks s below (slot (kids s below b) j))
one_kid s below j b lt level_is whole =
    let w = whole b (first_among b (flat_map (blocks s below) (kids s below b))) in (
      kid_fits s below b j level_is w,
      elim (hole_or (slot (kids s below b) j)) [
        | inl none ↦ subst (λ (p : Ptr). AreWhole s (blocks s below p)) (sym none) (no_blocks_hole s below)
        | inr some ↦ subst (λ (p : Ptr). AreWhole s (blocks s below p)) (sym some.1) (whole_below s below b some.0 j lt some.1 whole)
      ],
    )

-- what is known of each pointer below these blocks
each_kid : (s : Stored) (below : ℕ) (tops : List Bptr) (j : ℕ) → All (IsUnitAt (suc below)) tops → AreWhole s (blocks_at s (suc below) tops) → FitsAt below (slot (flat_map (kids s below) tops) j) × AreWhole s (blocks s below (slot (flat_map (kids s below) tops) j))
each_kid s below [] j units whole = ((tt, tt), no_blocks_hole s below)
each_kid s below (b ∷ tops) j units whole = elim (cases_lt j 32) [
  | inl lt ↦
      let here : slot (kids s below b ++ flat_map (kids s below) tops) j ≡ slot (kids s below b) j = get_or_append_left (kids s below b) (flat_map (kids s below) tops) Hole j (omega (arith, length-kids s below b, lt)) in
      subst (λ (p : Ptr). FitsAt below p × AreWhole s (blocks s below p)) (sym here)
      (one_kid s below j b lt (All-head (IsUnitAt (suc below)) b tops units).0.0 (λ x among. whole x (among_within x (blocks s (suc below) (At b)) (blocks_at s (suc below) (b ∷ tops)) (within_front (blocks s (suc below) (At b)) (blocks_at s (suc below) tops)) among)))
  | inr ge ↦
      let past : slot (kids s below b ++ flat_map (kids s below) tops) j ≡ slot (flat_map (kids s below) tops) (j - 32) = get_or-append_right (kids s below b) (flat_map (kids s below) tops) 32 j Hole (length-kids s below b) ge in
      subst (λ (p : Ptr). FitsAt below p × AreWhole s (blocks s below p)) (sym past)
      (each_kid s below tops (j - 32) (All-tail (IsUnitAt (suc below)) b tops units) (λ x among. whole x (among_within x (blocks_at s (suc below) tops) (blocks_at s (suc below) (b ∷ tops)) (within_back (blocks s (suc below) (At b)) (blocks_at s (suc below) tops)) among)))
]

tops_whole : (s : Stored) (below : ℕ) (tops : List Bptr) → AreWhole s (blocks_at s (suc below) tops) → All (IsWhole s) tops
tops_whole s below [] whole = λ i d lt. absurd (omega (arith, lt))
tops_whole s below (b ∷ tops) whole =
    All-cons (IsWhole s) b tops (whole b (among_within b (blocks s (suc below) (At b)) (blocks_at s (suc below) (b ∷ tops)) (within_front (blocks s (suc below) (At b)) (blocks_at s (suc below) tops)) (first_among b (flat_map (blocks s below) (kids s below b)))))
    (tops_whole s below tops (λ x among. whole x (among_within x (blocks_at s (suc below) tops) (blocks_at s (suc below) (b ∷ tops)) (within_back (blocks s (suc below) (At b)) (blocks_at s (suc below) tops)) among)))

abbrev UnitPtr : ℕ → Ptr → Type 0
UnitPtr level Hole = Unit {0}
UnitPtr level (At b) = IsUnitAt level b

unit_of : (below : ℕ) (p : Ptr) → FitsAt below p → (below ≡ 0 → UnitPtr 0 p) → UnitPtr below p
unit_of zero p fits leaf = leaf refl
unit_of (suc below) Hole fits leaf = tt
unit_of (suc below) (At b) fits leaf = (fits, fits.1.unit (let l = fits.0 in omega (arith, l)))

unit_leaf : (leaves : List Bptr) (j : ℕ) → All (IsUnitAt 0) leaves → UnitPtr 0 (slot (map At leaves) j)
unit_leaf [] j units = tt
unit_leaf (b ∷ bs) zero units = All-head (IsUnitAt 0) b bs units
unit_leaf (b ∷ bs) (suc j) units = unit_leaf bs j (All-tail (IsUnitAt 0) b bs units)

module _ (s : Stored) (below : ℕ) (tops leaves : List Bptr) (units : All (IsUnitAt (suc below)) tops) (whole : AreWhole s (blocks_at s (suc below) tops)) (units_below : All (IsUnitAt 0) leaves)
    (places : (index : ℕ) → leaf_at s (suc below) (slot (map At tops) (index / 32 ^ suc below)) index ≡ slot (map At leaves) index) where
  abbrev ps : List Ptr
  ps = flat_map (kids s below) tops

  here : (index : ℕ) → leaf_at s below (slot ps (index / 32 ^ below)) index ≡ slot (map At leaves) index
  here index = sym (step_place s below index tops) ∙ places index

  full : (j : ℕ) → j < div_ceil (length leaves) (32 ^ below) → (b : Bptr) × (slot ps j ≡ At b)
  full j lt = elim (hole_or (slot ps j)) [
    | inr found ↦ found
    | inl none ↦ absurd (
        let index = j * 32 ^ below in
        let place_is : index / 32 ^ below ≡ j = mul-div_cancel j (pow-pos below) in
        let (b, is, unit) = slot_leaf leaves index (below_ceil (length leaves) (32 ^ below) j (pow-pos below) lt) in
        let e : Hole ≡ At b = sym (hole_leaf s below index) ∙ sym (ap (λ (p : Ptr). leaf_at s below p index) (ap (λ (k : ℕ). slot ps k) place_is ∙ none)) ∙ here index ∙ is in
        cc
        )
  ]

  empty : (j : ℕ) → div_ceil (length leaves) (32 ^ below) ≤ j → slot ps j ≡ Hole
  empty j le = elim (hole_or (slot ps j)) [
    | inl none ↦ none
    | inr some ↦ absurd (
        let b = some.0 in
        let at = some.1 in
        let kid = subst (λ (p : Ptr). FitsAt below p × AreWhole s (blocks s below p)) at (each_kid s below tops j units whole) in
        let (index, place_is, leaf) = some_leaf s below j b kid.0 kid.1 in
        let low = past_ceil (length leaves) (32 ^ below) j (pow-pos below) le in
        let most : index / 32 ^ below * 32 ^ below ≤ index = div-mul-le_self index (32 ^ below) in
        let same : index / 32 ^ below * 32 ^ below ≡ j * 32 ^ below = ap (λ (k : ℕ). k * 32 ^ below) place_is in
        let past : length leaves ≤ index = omega (arith, low, most, same) in
        leaf (ap (λ (p : Ptr). leaf_at s below p index) (sym at) ∙ ap (λ (k : ℕ). leaf_at s below (slot ps k) index) (sym place_is) ∙ here index ∙ slot_past leaves index past)
        )
  ]

  pub shaped : (bs : List Bptr) × (length bs ≡ div_ceil (length leaves) (32 ^ below)) × HavePointers s below tops bs
  shaped =
      let (bs, long, is) = cut ps (div_ceil (length leaves) (32 ^ below)) full empty in
      let pointers : ps ≡ map At bs ++ replicate (32 * length tops - length bs) Hole = is ∙ ap (λ (n : ℕ). map At bs ++ replicate (n - length bs) Hole) (length-flat_kids s below tops) in (
        bs,
        long,
        record {
          pointers = pointers;
          units = all_from_slots (UnitPtr below) bs (λ j lt.
              let this : slot ps j ≡ slot (map At bs) j = ap (λ (qs : List Ptr). slot qs j) pointers ∙ slot_front bs (32 * length tops - length bs) j lt in
              subst (UnitPtr below) this (unit_of below (slot ps j) (each_kid s below tops j units whole).0 (λ none.
              let div : j / 32 ^ below ≡ j = ap (λ (l : ℕ). j / 32 ^ l) none ∙ div-one j in
              let leaf : slot ps j ≡ slot (map At leaves) j = leaf_zero below (slot ps j) j none ∙ ap (λ (k : ℕ). leaf_at s below (slot ps k) j) (sym div) ∙ here j in
              subst (UnitPtr 0) (sym leaf) (unit_leaf leaves j units_below))));
          whole = tops_whole s below tops whole;
        },
      )
    where
      leaf_zero : (level : ℕ) (p : Ptr) (j : ℕ) → level ≡ 0 → p ≡ leaf_at s level p j
      leaf_zero level p j none = sym (ap (λ (l : ℕ). leaf_at s l p j) none)

-- ---- the levels of a tree

length_sum : (bs : List Bptr) → length bs ≡ sum_by (λ b. 1) bs
length_sum [] = refl
length_sum (b ∷ bs) = let rest = length_sum bs in omega (arith, rest, sum_by-cons (λ (x : Bptr). 1) b bs)

pub level_top : (s : Stored) (b : Bptr) (height : ℕ) → IsUnitAt height b → IsLevel s (record { root = At b; height = height }) height (b ∷ [])
level_top s b height unit =
    let one = join_one height s (b ∷ []) b refl in
    let same : flat_map (blocks s height) (map At (b ∷ [])) ≡ blocks s height (At b) = append-nil (blocks s height (At b)) in
    record {
      units = All-cons (IsUnitAt height) b [] unit (λ i d lt. absurd (omega (arith, lt)));
      places = one.places;
      leaves = one.leaves;
      within = λ weight. let e = ap (sum_by weight) same in omega (arith, e);
      whole = one.whole;
      number = let e = ap (λ (xs : List Bptr). length xs) same in omega (arith, e, tree_units-one);
    }

pub level_down : (s : Stored) (t : Tree) (level : ℕ) (tops bs : List Bptr) → IsLevel s t (suc level) tops → HavePointers s level tops bs → length tops ≡ div_ceil (length bs) 32 → 1 < length bs → IsLevel s t level bs
level_down s t level tops bs up is count more =
    let n = 32 * length tops - length bs in
    let holds = is.pointers in
    record {
      units = is.units;
      places = λ index. up.places index ∙ level_place s level n tops bs holds index;
      leaves = up.leaves ∙ level_leaves s level n tops bs holds;
      within = λ weight. let e = level_blocks s level n tops bs holds weight in let w = up.within weight in omega (arith, e, w);
      whole = λ h. up.whole (λ b among.
          elim (among_parts b tops (blocks_at s level bs) (λ weight. let e = level_blocks s level n tops bs holds weight in let l = among weight in omega (arith, e, l, sum_by-append weight tops (blocks_at s level bs)))) [
            | inl top ↦ all_among s b tops is.whole top
            | inr below ↦ h b below
          ]);
      number =
          let e = level_blocks s level n tops bs holds (λ b. 1) in
          let a = length_sum (blocks_at s (suc level) tops) in
          let c = length_sum tops in
          let d = length_sum (blocks_at s level bs) in
          let u = tree_units-more (length bs) more in
          let v : tree_units (length tops) ≡ tree_units (div_ceil (length bs) 32) = ap tree_units count in
          let w = up.number in
          omega (arith, e, a, c, d, u, v, w);
    }

-- the tops are blocks of the tree
pub tops_within : (s : Stored) (t : Tree) (level : ℕ) (tops : List Bptr) → IsLevel s t (suc level) tops → Within tops (tree_blocks s t)
tops_within s t level tops up weight = let e = step_blocks s level weight tops in let w = up.within weight in omega (arith, e, w)

-- a level below one of a tree with leaves
pub level_shaped : (s : Stored) (t : Tree) (level : ℕ) (tops leaves : List Bptr) → IsLevel s t (suc level) tops → HasLeaves s t leaves → (bs : List Bptr) × (length bs ≡ div_ceil (length leaves) (32 ^ level)) × HavePointers s level tops bs
level_shaped s t level tops leaves up has =
    shaped s level tops leaves up.units (λ b among. has.whole b (among_within b (blocks_at s (suc level) tops) (tree_blocks s t) up.within among)) has.units (λ index. sym (up.places index) ∙ has.places index)

module _ (s : Stored) (b : Bptr) (height : ℕ) (leaves : List Bptr) (unit : IsUnitAt height b) (some : 0 < length leaves) (tall : IsHeight (length leaves) height) (has : HasLeaves s (record { root = At b; height = height }) leaves) where
  abbrev tree : Tree
  tree = record { root = At b; height = height }

  levels : (k level : ℕ) → level + k ≡ height → (bs : List Bptr) × (length bs ≡ div_ceil (length leaves) (32 ^ level)) × IsLevel s tree level bs
  levels zero level is =
      let top : height ≡ level = omega (arith, is) in
      let reach = tall.reaches in
      let one : 1 ≡ div_ceil (length leaves) (32 ^ height) = ceil_is (length leaves) (32 ^ height) 1 (pow-pos height) (omega (arith, reach)) (omega (arith, some)) in
      (b ∷ [], subst (λ (l : ℕ). 1 ≡ div_ceil (length leaves) (32 ^ l)) top one, subst (λ (l : ℕ). IsLevel s tree l (b ∷ [])) top (level_top s b height unit))
  levels (suc k) level is =
      let (tops, count, up) = levels k (suc level) (omega (arith, is)) in
      let (bs, long, shape) = level_shaped s tree level tops leaves up has in
      let counted : length tops ≡ div_ceil (length bs) 32 = count ∙ sym (ceil_up (length leaves) level) ∙ ap (λ (m : ℕ). div_ceil m 32) (sym long) in
      let more : 1 < length bs = elim (cases_lt 1 (length bs)) [
        | inl lt ↦ lt
        | inr le ↦ absurd (
            let small : div_ceil (length leaves) (32 ^ level) ≤ 1 = subst (λ (m : ℕ). m ≤ 1) long le in
            let fits = past_ceil (length leaves) (32 ^ level) 1 (pow-pos level) small in
            let low = tall.least level (omega (arith, fits)) in
            omega (arith, low, is)
            )
      ] in
      (bs, long, level_down s tree level tops bs up shape counted more)

  -- the tree has as many blocks as it must
  pub number_of_blocks : length (tree_reach s tree) ≡ tree_units (length leaves)
  number_of_blocks =
      let (bs, long, level) = levels height 0 (omega arith) in
      let same : length bs ≡ length leaves = long ∙ ceil_one (length leaves) in
      let e = ap (λ (xs : List Bptr). length xs) (level.leaves ∙ own_leaves s bs) in
      let f = ap (λ (xs : List Bptr). length xs) (no_blocks s bs) in
      let g = parts s height (λ x. 1) (At b) in
      let n = level.number in
      let units : tree_units (length bs) ≡ tree_units (length leaves) = ap tree_units same in
      omega (arith, same, e, f, g, n, units, length_sum (tree_reach s tree), length_sum (tree_blocks s tree), length_sum (tree_leaves s tree))
