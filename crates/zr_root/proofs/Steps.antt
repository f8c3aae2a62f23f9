-- From the blocks of a level to the pointers in them.
use Rattle.std.proofs.Common.{◌≡◌, ◌+◌, ◌*◌, ◌-◌, ◌/◌, ◌^◌, ◌<◌, ℕ, zero, suc, List, [], ◌∷◌, ◌++◌, length, map, replicate, refl, sym, ◌∙◌, ap, arith, append-nil}
use Rattle.std.specs.List.{flat_map, sum_by}
use Rattle.std.specs.Simd.{first_chunks}
use Rattle.std.proofs.lemmas.List.{length-map, get_or_append_left, get_or-append_right}
use Rattle.std.proofs.lemmas.List.Sums.{sum_by-append, sum_by-cons}
use Rattle.std.proofs.lemmas.List.Elements.{All-replicate}
use Rattle.std.proofs.lemmas.Grind.{flat_map-append}
use Rattle.zr_bptr.specs.declared.Bptr.{Bptr}
use Rattle.zr_bptr.specs.declared.Ptr.{Ptr}
use Rattle.zr_bptr.specs.declared.Ptr.TheVariants.{Hole, At}
use Rattle.zr_store.specs.Store.{Stored}
use Rattle.zr_tree.specs.Blocks.{pointers_in, read_pointer}
use Rattle.zr_tree.specs.Trees.{kids, slot, digit, leaf_at, leaves_below, blocks, reach}
use Rattle.zr_tree.proofs.Frames.{hole_leaf}
use Rattle.zr_tree.proofs.Holes.{holes_blocks, holes_leaves, div-suc}
use Rattle.zr_root.proofs.Lists.{length-chunks}

-- the blocks of a level, and what lies below the pointers in them
abbrev pub blocks_at : Stored → ℕ → List Bptr → List Bptr
blocks_at s level bs = flat_map (blocks s level) (map At bs)

abbrev pub leaves_at : Stored → ℕ → List Bptr → List Bptr
leaves_at s level bs = flat_map (leaves_below s level) (map At bs)

pub length-kids : (s : Stored) (below : ℕ) (b : Bptr) → length (kids s below b) ≡ 32
unfolding pointers_in
length-kids s below b = length-map (first_chunks 128 32 (s.bytes b)) read_pointer ∙ length-chunks 128 32 (s.bytes b)

pub step_leaves : (s : Stored) (below : ℕ) (tops : List Bptr) → leaves_at s (suc below) tops ≡ flat_map (leaves_below s below) (flat_map (kids s below) tops)
step_leaves s below [] = refl
step_leaves s below (b ∷ tops) =
    ap (λ (xs : List Bptr). flat_map (leaves_below s below) (kids s below b) ++ xs) (step_leaves s below tops)
    ∙ sym (flat_map-append (leaves_below s below) (kids s below b) (flat_map (kids s below) tops))

pub step_blocks : (s : Stored) (below : ℕ) (weight : Bptr → ℕ) (tops : List Bptr) → sum_by weight (blocks_at s (suc below) tops) ≡ sum_by weight tops + sum_by weight (flat_map (blocks s below) (flat_map (kids s below) tops))
step_blocks s below weight [] = refl
step_blocks s below weight (b ∷ tops) =
    let e = step_blocks s below weight tops in
    let a = sum_by-append weight (b ∷ flat_map (blocks s below) (kids s below b)) (blocks_at s (suc below) tops) in
    let c = sum_by-cons weight b (flat_map (blocks s below) (kids s below b)) in
    let d = ap (sum_by weight) (flat_map-append (blocks s below) (kids s below b) (flat_map (kids s below) tops)) in
    let f = sum_by-append weight (flat_map (blocks s below) (kids s below b)) (flat_map (blocks s below) (flat_map (kids s below) tops)) in
    omega (arith, e, a, c, d, f, sum_by-cons weight b tops)

-- 32 pointers to a block
pub step_slot : (s : Stored) (below index : ℕ) (tops : List Bptr) (j d : ℕ) → d < 32 → d ≡ digit below index → leaf_at s (suc below) (slot (map At tops) j) index ≡ leaf_at s below (slot (flat_map (kids s below) tops) (32 * j + d)) index
step_slot s below index [] j d lt is = hole_leaf s (suc below) index ∙ sym (hole_leaf s below index)
step_slot s below index (b ∷ tops) zero d lt is =
    let long = length-kids s below b in
    let here : slot (kids s below b ++ flat_map (kids s below) tops) d ≡ slot (kids s below b) d = get_or_append_left (kids s below b) (flat_map (kids s below) tops) Hole d (omega (arith, long, lt)) in
    let none : d ≡ 32 * 0 + d = omega arith in
    ap (λ (k : ℕ). leaf_at s below (slot (kids s below b) k) index) (sym is) ∙ ap (λ (p : Ptr). leaf_at s below p index) (sym here)
    ∙ ap (λ (k : ℕ). leaf_at s below (slot (flat_map (kids s below) (b ∷ tops)) k) index) none
step_slot s below index (b ∷ tops) (suc j) d lt is =
    let long = length-kids s below b in
    let past : slot (kids s below b ++ flat_map (kids s below) tops) (32 * suc j + d) ≡ slot (flat_map (kids s below) tops) (32 * suc j + d - 32) = get_or-append_right (kids s below b) (flat_map (kids s below) tops) 32 (32 * suc j + d) Hole long (omega arith) in
    let same : 32 * suc j + d - 32 ≡ 32 * j + d = omega arith in
    step_slot s below index tops j d lt is ∙ ap (λ (p : Ptr). leaf_at s below p index) (sym (past ∙ ap (λ (k : ℕ). slot (flat_map (kids s below) tops) k) same))

place_step : (below index : ℕ) → 32 * (index / 32 ^ suc below) + digit below index ≡ index / 32 ^ below
place_step below index = let e = div-suc index below in omega (arith, e)

digit_lt : (below index : ℕ) → digit below index < 32
digit_lt below index = omega arith

pub step_place : (s : Stored) (below index : ℕ) (tops : List Bptr) → leaf_at s (suc below) (slot (map At tops) (index / 32 ^ suc below)) index ≡ leaf_at s below (slot (flat_map (kids s below) tops) (index / 32 ^ below)) index
step_place s below index tops =
    step_slot s below index tops (index / 32 ^ suc below) (digit below index) (digit_lt below index) refl
    ∙ ap (λ (k : ℕ). leaf_at s below (slot (flat_map (kids s below) tops) k) index) (place_step below index)

-- ---- holes behind the pointers

pub slot_holes : (ps : List Ptr) (n k : ℕ) → slot (ps ++ replicate n Hole) k ≡ slot ps k
slot_holes [] zero k = refl
slot_holes [] (suc n) zero = refl
slot_holes [] (suc n) (suc k) = slot_holes [] n k
slot_holes (p ∷ ps) n zero = refl
slot_holes (p ∷ ps) n (suc k) = slot_holes ps n k

pub blocks_holes : (s : Stored) (level : ℕ) (ps : List Ptr) (n : ℕ) → flat_map (blocks s level) (ps ++ replicate n Hole) ≡ flat_map (blocks s level) ps
blocks_holes s level ps n =
    flat_map-append (blocks s level) ps (replicate n Hole)
    ∙ ap (λ (xs : List Bptr). flat_map (blocks s level) ps ++ xs) (holes_blocks s level (replicate n Hole) (All-replicate (λ (p : Ptr). p ≡ Hole) n Hole refl))
    ∙ append-nil (flat_map (blocks s level) ps)

pub leaves_holes : (s : Stored) (level : ℕ) (ps : List Ptr) (n : ℕ) → flat_map (leaves_below s level) (ps ++ replicate n Hole) ≡ flat_map (leaves_below s level) ps
leaves_holes s level ps n =
    flat_map-append (leaves_below s level) ps (replicate n Hole)
    ∙ ap (λ (xs : List Bptr). flat_map (leaves_below s level) ps ++ xs) (holes_leaves s level (replicate n Hole) (All-replicate (λ (p : Ptr). p ≡ Hole) n Hole refl))
    ∙ append-nil (flat_map (leaves_below s level) ps)

-- ---- one level: the pointers in the blocks are these, with holes behind them

module _ (s : Stored) (below n : ℕ) (tops bs : List Bptr) (holds : flat_map (kids s below) tops ≡ map At bs ++ replicate n Hole) where
  pub level_place : (index : ℕ) → leaf_at s (suc below) (slot (map At tops) (index / 32 ^ suc below)) index ≡ leaf_at s below (slot (map At bs) (index / 32 ^ below)) index
  level_place index =
      step_place s below index tops
      ∙ ap (λ (ps : List Ptr). leaf_at s below (slot ps (index / 32 ^ below)) index) holds
      ∙ ap (λ (p : Ptr). leaf_at s below p index) (slot_holes (map At bs) n (index / 32 ^ below))

  pub level_blocks : (weight : Bptr → ℕ) → sum_by weight (blocks_at s (suc below) tops) ≡ sum_by weight tops + sum_by weight (blocks_at s below bs)
  level_blocks weight =
      let e = ap (sum_by weight) (ap (flat_map (blocks s below)) holds ∙ blocks_holes s below (map At bs) n) in
      let f = step_blocks s below weight tops in
      omega (arith, e, f)

  pub level_leaves : leaves_at s (suc below) tops ≡ leaves_at s below bs
  level_leaves = step_leaves s below tops ∙ ap (flat_map (leaves_below s below)) holds ∙ leaves_holes s below (map At bs) n

-- ---- the leaves and the blocks above them are all

pub parts_each : (s : Stored) (level : ℕ) (weight : Bptr → ℕ) → ((p : Ptr) → sum_by weight (reach s level p) ≡ sum_by weight (blocks s level p) + sum_by weight (leaves_below s level p)) → (ps : List Ptr)
    → sum_by weight (flat_map (reach s level) ps) ≡ sum_by weight (flat_map (blocks s level) ps) + sum_by weight (flat_map (leaves_below s level) ps)
parts_each s level weight each [] = refl
parts_each s level weight each (p ∷ ps) =
    let e = parts_each s level weight each ps in
    let h = each p in
    omega (arith, e, h, sum_by-append weight (reach s level p) (flat_map (reach s level) ps), sum_by-append weight (blocks s level p) (flat_map (blocks s level) ps), sum_by-append weight (leaves_below s level p) (flat_map (leaves_below s level) ps))

pub parts : (s : Stored) (level : ℕ) (weight : Bptr → ℕ) (p : Ptr) → sum_by weight (reach s level p) ≡ sum_by weight (blocks s level p) + sum_by weight (leaves_below s level p)
parts s zero weight Hole = refl
parts s zero weight (At b) = omega arith
parts s (suc below) weight Hole = refl
parts s (suc below) weight (At b) =
    let e = parts_each s below weight (λ p. parts s below weight p) (kids s below b) in
    omega (arith, e, sum_by-cons weight b (flat_map (reach s below) (kids s below b)), sum_by-cons weight b (flat_map (blocks s below) (kids s below b)))

-- the leaves themselves
pub no_blocks : (s : Stored) (bs : List Bptr) → blocks_at s 0 bs ≡ []
no_blocks s [] = refl
no_blocks s (b ∷ bs) = no_blocks s bs

pub own_leaves : (s : Stored) (bs : List Bptr) → leaves_at s 0 bs ≡ bs
own_leaves s [] = refl
own_leaves s (b ∷ bs) = ap (λ (xs : List Bptr). b ∷ xs) (own_leaves s bs)
