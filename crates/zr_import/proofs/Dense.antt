-- The leaves of a tree that has the first so many: how many are below a pointer, and which stands at an index.
use Rattle.std.specs.Prelude.{All, min}
use Rattle.std.specs.List.{flat_map}
use Rattle.std.proofs.Common.{◌≡◌, ◌<◌, ◌≤◌, ◌+◌, ◌-◌, ◌*◌, ◌/◌, ◌%◌, ◌^◌, ℕ, zero, suc, List, [], ◌∷◌, ◌++◌, length, map, refl, sym, ◌∙◌, ap, subst, arith, ⊎_elim, length-append, append-nil}
use Rattle.std.proofs.Math.Nat.{mul-add, add-mul, mul_comm, mul_assoc, div-add-mod, mod-lt, pow-suc, pow-succ'}
use Rattle.std.proofs.lemmas.Bool.{cases_lt}
use Rattle.std.proofs.lemmas.List.Elements.{All-append}
use Rattle.zr_bptr.specs.declared.Bptr.{Bptr}
use Rattle.zr_bptr.specs.declared.Ptr.{Ptr}
use Rattle.zr_bptr.specs.declared.Ptr.TheVariants.{Hole, At}
use Rattle.zr_store.specs.Store.{Stored}
use Rattle.zr_tree.specs.Trees.{kids, slot, digit, leaves_below}
use Rattle.zr_tree.proofs.Holes.{div-suc}
use Rattle.zr_root.proofs.Shapes.{slot_past}
use Rattle.zr_import.specs.Shapes.{HasFirst}

-- ---- lists of leaves

slot_left : (xs ys : List Bptr) (j : ℕ) → j < length xs → slot (map At (xs ++ ys)) j ≡ slot (map At xs) j
slot_left [] ys j lt = absurd (omega (arith, lt))
slot_left (x ∷ xs) ys zero lt = refl
slot_left (x ∷ xs) ys (suc j) lt = slot_left xs ys j (omega (arith, lt))

slot_right : (xs ys : List Bptr) (j k : ℕ) → j ≡ length xs + k → slot (map At (xs ++ ys)) j ≡ slot (map At ys) k
slot_right [] ys j k is = ap (λ (i : ℕ). slot (map At ys) i) (omega (arith, is))
slot_right (x ∷ xs) ys zero k is = absurd (omega (arith, is))
slot_right (x ∷ xs) ys (suc j) k is = slot_right xs ys j k (omega (arith, is))

none_of : (xs : List Bptr) → length xs ≡ 0 → xs ≡ []
none_of [] is = refl
none_of (x ∷ xs) is = absurd (omega (arith, is))

-- ---- the pointers of a block

module _ (s : Stored) (n units below : ℕ) where
  abbrev width : ℕ
  width = 32 ^ below

  abbrev own_leaves : Ptr → List Bptr
  own_leaves = leaves_below s below

  abbrev AllFirst : ℕ → List Ptr → Type 0
  AllFirst index [] = Unit {0}
  AllFirst index (p ∷ ps) = HasFirst s n units below index p × AllFirst (index + width) ps

  count_all : (index : ℕ) (ps : List Ptr) → AllFirst index ps → length (flat_map own_leaves ps) ≡ min (n - index) (length ps * width)
  count_all index [] h = omega arith
  count_all index (p ∷ ps) h =
      let one = h.0.count in
      let rest = count_all (index + width) ps h.1 in
      let both = length-append (own_leaves p) (flat_map own_leaves ps) in
      let more : length (p ∷ ps) * width ≡ width + length ps * width = (let e = add-mul 1 (length ps) width in omega (arith, e)) in
      omega (arith, one, rest, both, more)

  none_behind : (index : ℕ) (ps : List Ptr) → n ≤ index → AllFirst index ps → flat_map own_leaves ps ≡ []
  none_behind index ps le h = none_of _ (let e = count_all index ps h in omega (arith, e, le))

  head_slot : (index : ℕ) (p : Ptr) (ps : List Ptr) → HasFirst s n units below index p → AllFirst (index + width) ps → (r : ℕ) → r < width
      → slot (map At (own_leaves p ++ flat_map own_leaves ps)) r ≡ slot (map At (own_leaves p)) r
  head_slot index p ps one rest r lt =
      ⊎_elim
      (λ inside. slot_left (own_leaves p) (flat_map own_leaves ps) r inside)
      (λ past.
      let none = none_behind (index + width) ps (let e = one.count in omega (arith, e, past, lt)) rest in
      ap (λ (xs : List Bptr). slot (map At (own_leaves p ++ xs)) r) none ∙ ap (λ (xs : List Bptr). slot (map At xs) r) (append-nil (own_leaves p)))
      (cases_lt r (length (own_leaves p)))

  tail_slot : (index : ℕ) (p : Ptr) (ps : List Ptr) → HasFirst s n units below index p → AllFirst (index + width) ps → (j k : ℕ) → j ≡ width + k
      → slot (map At (own_leaves p ++ flat_map own_leaves ps)) j ≡ slot (map At (flat_map own_leaves ps)) k
  tail_slot index p ps one rest j k is =
      ⊎_elim
      (λ short.
      let none = none_behind (index + width) ps (let e = one.count in omega (arith, e, short)) rest in
      slot_past (own_leaves p ++ flat_map own_leaves ps) j (let e = length-append (own_leaves p) (flat_map own_leaves ps) in let z = ap (λ (xs : List Bptr). length xs) none in omega (arith, e, z, short, is))
      ∙ sym (ap (λ (xs : List Bptr). slot (map At xs) k) none))
      (λ full. slot_right (own_leaves p) (flat_map own_leaves ps) j k (let e = one.count in omega (arith, e, full, is)))
      (cases_lt (length (own_leaves p)) width)

  slot_all : (index : ℕ) (ps : List Ptr) → AllFirst index ps → (j r : ℕ) → j < length ps → r < width → slot (map At (flat_map own_leaves ps)) (j * width + r) ≡ slot (map At (own_leaves (slot ps j))) r
  slot_all index [] h j r lt small = absurd (omega (arith, lt))
  slot_all index (p ∷ ps) h zero r lt small =
      let e : 0 * width + r ≡ r = omega arith in
      ap (λ (i : ℕ). slot (map At (own_leaves p ++ flat_map own_leaves ps)) i) e ∙ head_slot index p ps h.0 h.1 r small
  slot_all index (p ∷ ps) h (suc j) r lt small =
      let e : suc j * width + r ≡ width + (j * width + r) = (let d = add-mul 1 j width in omega (arith, d)) in
      tail_slot index p ps h.0 h.1 (suc j * width + r) (j * width + r) e ∙ slot_all (index + width) ps h.1 j r (omega (arith, lt)) small

  units_all : (index : ℕ) (ps : List Ptr) → AllFirst index ps → All (λ (b : Bptr). b.at.len ≡ units) (flat_map own_leaves ps)
  units_all index [] h = λ k d lt. absurd (omega (arith, lt))
  units_all index (p ∷ ps) h = All-append (λ (b : Bptr). b.at.len ≡ units) (own_leaves p) (flat_map own_leaves ps) h.0.units_are (units_all (index + width) ps h.1)

  all_from : (index : ℕ) (ps : List Ptr) → ((k : ℕ) → k < length ps → HasFirst s n units below (index + k * width) (slot ps k)) → AllFirst index ps
  all_from index [] h = tt
  all_from index (p ∷ ps) h =
      let at_zero : index + 0 * width ≡ index = omega arith in (
        subst (λ (i : ℕ). HasFirst s n units below i p) at_zero (h 0 (omega arith)),
        all_from (index + width) ps (λ k lt.
            let e : index + suc k * width ≡ index + width + k * width = (let d = add-mul 1 k width in omega (arith, d)) in
            subst (λ (i : ℕ). HasFirst s n units below i (slot ps k)) e (h (suc k) (omega (arith, lt)))),
      )

-- the index within a block: the pointer, and the index below it
pub digits : (i below : ℕ) → i % 32 ^ suc below ≡ digit below i * 32 ^ below + i % 32 ^ below
digits i below =
    let w = 32 ^ below in
    let q = i / w in
    let a = q / 32 in
    let d = q % 32 in
    let one = div-add-mod i w in
    let two : q ≡ 32 * a + d = sym (div-add-mod q 32) in
    let three : w * q ≡ w * (32 * a) + w * d = ap (λ (k : ℕ). w * k) two ∙ mul-add w (32 * a) d in
    let four = div-add-mod i (32 ^ suc below) in
    let five : 32 ^ suc below * (i / 32 ^ suc below) ≡ w * (32 * a) = ap (λ (k : ℕ). k * (i / 32 ^ suc below)) (pow-suc 32 below) ∙ ap (λ (k : ℕ). w * 32 * k) (div-suc i below) ∙ mul_assoc w 32 a in
    let six : w * d ≡ d * w = mul_comm w d in
    omega (arith, one, three, four, five, six)

-- what is below a block
pub block_first : (s : Stored) (n units level below index : ℕ) (p : Ptr) (b : Bptr) → level ≡ suc below → p ≡ At b → length (kids s below b) ≡ 32
    → ((k : ℕ) → k < 32 → HasFirst s n units below (index + k * 32 ^ below) (slot (kids s below b) k)) → HasFirst s n units level index p
block_first s n units level below index p b level_is is count each =
    let ps = kids s below b in
    let all = all_from s n units below index ps (λ k lt. each k (omega (arith, lt, count))) in
    let counted = count_all s n units below index ps all in
    let wide : 32 ^ suc below ≡ 32 * 32 ^ below = pow-succ' 32 below in
    let long : length ps * 32 ^ below ≡ 32 * 32 ^ below = ap (λ (k : ℕ). k * 32 ^ below) count in
    let positive : 0 < 32 ^ below = pow_positive below in
    subst (λ (l : ℕ). HasFirst s n units l index p) (sym level_is)
    (subst (λ (q : Ptr). HasFirst s n units (suc below) index q) (sym is)
    (record {
      count = omega (arith, counted, wide, long);
      places = λ i.
          let d = digit below i in
          let small : d < 32 = omega arith in
          (each d small).places i ∙ sym (slot_all s n units below index ps all d (i % 32 ^ below) (omega (arith, small, count)) (mod_small i (32 ^ below) positive))
          ∙ ap (λ (j : ℕ). slot (map At (flat_map (leaves_below s below) ps)) j) (sym (digits i below));
      units_are = units_all s n units below index ps all;
    }))
  where
    pow_positive : (h : ℕ) → 0 < 32 ^ h
    pow_positive zero = omega arith
    pow_positive (suc h) = let e = pow-succ' 32 h in let p = pow_positive h in omega (arith, e, p)

    mod_small : (i w : ℕ) → 0 < w → i % w < w
    mod_small i w p = mod-lt i p

-- nothing is below a hole
pub hole_first : (s : Stored) (n units level index : ℕ) (p : Ptr) → p ≡ Hole → n ≤ index → HasFirst s n units level index p
hole_first s n units level index p is le = subst (λ (q : Ptr). HasFirst s n units level index q) (sym is) (go level)
  where
    go : (l : ℕ) → HasFirst s n units l index Hole
    go zero = record { count = omega (arith, le); places = λ i. refl; units_are = λ k d lt. absurd (omega (arith, lt)) }
    go (suc l) = record { count = omega (arith, le); places = λ i. refl; units_are = λ k d lt. absurd (omega (arith, lt)) }

-- a leaf
pub leaf_first : (s : Stored) (n units level index : ℕ) (p : Ptr) (b : Bptr) → p ≡ At b → level ≡ 0 → index < n → b.at.len ≡ units → HasFirst s n units level index p
leaf_first s n units level index p b is zero_is lt long =
    subst (λ (l : ℕ). HasFirst s n units l index p) (sym zero_is)
    (subst (λ (q : Ptr). HasFirst s n units 0 index q) (sym is)
    (record {
      count = omega (arith, lt);
      places = λ i. (let e : i % 1 ≡ 0 = omega arith in sym (ap (λ (j : ℕ). slot (At b ∷ []) j) e));
      units_are = one;
    }))
  where
    one : All (λ (c : Bptr). c.at.len ≡ units) (b ∷ [])
    one zero d l = long
    one (suc k) d l = absurd (omega (arith, l))
