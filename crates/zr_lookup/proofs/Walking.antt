-- A walk over a tree: which indices lie below a pointer, and the leaves that came.
use Rattle.std.proofs.Common.{◌≡◌, ℕ, suc, ◌+◌, ◌-◌, ◌*◌, ◌/◌, ◌%◌, ◌^◌, ◌<◌, ◌≤◌, List, [], ◌∷◌, ◌++◌, length, get_or, take, refl, sym, ◌∙◌, ⊎_elim, ap, subst, arith, Option, add-one, take-suc, append_assoc, append-nil}
use Rattle.std.proofs.Math.Nat.{pow-suc, mul-le-mul_right, pow-le-pow_right}
use Rattle.std.proofs.lemmas.Nat.{div-mul-add}
use Rattle.zr_bptr.specs.declared.Bptr.{Bptr}
use Rattle.zr_bptr.specs.declared.Ptr.{Ptr}
use Rattle.zr_bptr.specs.declared.Ptr.TheVariants.{Hole, At}
use Rattle.zr_store.specs.Store.{Stored}
use Rattle.std.specs.List.{flat_map}
use Rattle.std.proofs.lemmas.List.{take_all}
use Rattle.std.proofs.lemmas.Grind.{flat_map-append}
use Rattle.zr_bptr.specs.Spelling.{IsPointer, IsLawful}
use Rattle.zr_tree.specs.Blocks.{FitsAt}
use Rattle.zr_tree.specs.Trees.{kids, digit, leaf_at, blocks, tree_at}
use Rattle.zr_tree.proofs.Frames.{hole_leaf}
use Rattle.zr_tree.proofs.Holes.{leaf_step}
use Rattle.zr_lookup.specs.Objects.{block_in}
use Rattle.zr_lookup.specs.Lists.{IsBetween, Fills}
use Rattle.std.proofs.lemmas.Bool.{lt-ltb, le-ltb, cases_lt}
use Rattle.zr_bptr.specs.declared.Tree.{Tree}
use Rattle.zr_txg.specs.Tables.{value_at}
use Rattle.zr_lookup.proofs.Keys.{past, filled_none, filled_then, filled_as, wider, added, added_fills}

-- ---- numbers

pub power : (level below : ℕ) → level ≡ suc below → 32 ^ level ≡ 32 ^ below * 32
power level below is = ap (λ (l : ℕ). 32 ^ l) is ∙ pow-suc 32 below

pub base : (place w t : ℕ) → t ≡ w * 32 → place * t ≡ 32 * place * w
base place w t is = ap (λ (n : ℕ). place * n) is ∙ omega arith

pub top : (place i w t : ℕ) → t ≡ w * 32 → i ≡ 32 → (32 * place + i) * w ≡ (place + 1) * t
top place i w t is all = ap (λ (n : ℕ). (32 * place + n) * w) all ∙ sym (ap (λ (n : ℕ). (place + 1) * n) is ∙ omega arith)

pub under : (place i w t high : ℕ) → t ≡ w * 32 → i < 32 → (place + 1) * t ≤ high → (32 * place + i + 1) * w ≤ high
under place i w t high is lt le =
    let less : 32 * place + i + 1 ≤ 32 * (place + 1) = omega (arith, lt) in
    let part : (32 * place + i + 1) * w ≤ 32 * (place + 1) * w = mul-le-mul_right w less in
    let whole : 32 * (place + 1) * w ≡ (place + 1) * t = sym (base (place + 1) w t is) in
    omega (arith, part, whole, le)

quotient : (a w k : ℕ) → a * w ≤ k → k < (a + 1) * w → k / w ≡ a
quotient a w k from to =
    let b = k - a * w in
    let up : (a + 1) * w ≡ a * w + w = omega arith in
    let lt : b < w = omega (arith, from, to, up) in
    let is : a * w + b ≡ k = omega (arith, from) in
    ap (λ (n : ℕ). n / w) (sym is) ∙ div-mul-add a w b lt

digit_is : (place i below k : ℕ) → i < 32 → (32 * place + i) * 32 ^ below ≤ k → k < (32 * place + i + 1) * 32 ^ below → i ≡ digit below k
digit_is place i below k lt from to =
    let q = quotient (32 * place + i) (32 ^ below) k from to in
    let r : i ≡ (32 * place + i) % 32 = omega (arith, lt) in
    r ∙ ap (λ (n : ℕ). n % 32) (sym q)

-- ---- leaves

pub hole_fills : (s : Stored) (level low high : ℕ) (p : Ptr) (es : List (ℕ × Bptr)) → p ≡ Hole → IsBetween 0 low es → Fills low high (λ index. block_in (leaf_at s level p index)) es es
hole_fills s level low high p es is before =
    filled_none low high (λ index. block_in (leaf_at s level p index)) es before
    (λ k from to. ap (λ (q : Ptr). block_in (leaf_at s level q k)) is ∙ ap block_in (hole_leaf s level k))

pub hole_between : (place t : ℕ) (es : List (ℕ × Bptr)) → IsBetween 0 (place * t) es → IsBetween 0 ((place + 1) * t) es
hole_between place t es before = wider 0 (place * t) 0 ((place + 1) * t) es before (omega arith) (omega arith)

one : (level : ℕ) → level ≡ 0 → 32 ^ level ≡ 1
one level is = ap (λ (l : ℕ). 32 ^ l) is

pub leaf_between : (level place : ℕ) (old new : List (ℕ × Bptr)) (b : Bptr) → level ≡ 0 → IsBetween 0 (place * 32 ^ level) old → new ≡ old ++ (place, b) ∷ [] → IsBetween 0 ((place + 1) * 32 ^ level) new
leaf_between level place old new b is before came =
    let low : place * 32 ^ level ≡ place = ap (λ (n : ℕ). place * n) (one level is) ∙ omega arith in
    let high : (place + 1) * 32 ^ level ≡ place + 1 = ap (λ (n : ℕ). (place + 1) * n) (one level is) ∙ omega arith in
    subst (λ (n : ℕ). IsBetween 0 n new) (sym high) (added place old new b (subst (λ (n : ℕ). IsBetween 0 n old) low before) came)

pub leaf_fills : (s : Stored) (level place : ℕ) (p : Ptr) (old new : List (ℕ × Bptr)) (b : Bptr) → level ≡ 0 → IsBetween 0 (place * 32 ^ level) old → p ≡ At b → new ≡ old ++ (place, b) ∷ [] → Fills (place * 32 ^ level) ((place + 1) * 32 ^ level) (λ index. block_in (leaf_at s level p index)) old new
leaf_fills s level place p old new b is before leads came =
    let low : place * 32 ^ level ≡ place = ap (λ (n : ℕ). place * n) (one level is) ∙ omega arith in
    let high : (place + 1) * 32 ^ level ≡ place + 1 = ap (λ (n : ℕ). (place + 1) * n) (one level is) ∙ omega arith in
    let h = added_fills place p old new b (subst (λ (n : ℕ). IsBetween 0 n old) low before) leads came in
    let at : ℕ → Option Bptr = λ index. block_in (leaf_at s level p index) in
    let here = filled_as place (place + 1) (λ _. block_in p) at old new h (λ k from to. ap (λ (l : ℕ). block_in (leaf_at s l p k)) (sym is)) in
    subst (λ (n : ℕ). Fills n ((place + 1) * 32 ^ level) at old new) (sym low) (subst (λ (n : ℕ). Fills place n at old new) (sym high) here)

-- the loop begins
pub begins : (s : Stored) (level low high : ℕ) (p : Ptr) (es : List (ℕ × Bptr)) → high ≤ low → Fills low high (λ index. block_in (leaf_at s level p index)) es es
begins s level low high p es none = record { kept = λ k lt. refl; came = λ k from to. absurd (omega (arith, none, from, to)) }

-- one pointer more
pub one_more : (s : Stored) (level below place i : ℕ) (p : Ptr) (b : Bptr) (ps : List Ptr) (next : Ptr) (a mid new : List (ℕ × Bptr)) → level ≡ suc below → p ≡ At b → ps ≡ kids s below b → length ps ≡ 32 → i < length ps → next ≡ get_or ps i next
    → Fills (32 * place * 32 ^ below) ((32 * place + i) * 32 ^ below) (λ index. block_in (leaf_at s level p index)) a mid → Fills ((32 * place + i) * 32 ^ below) ((32 * place + i + 1) * 32 ^ below) (λ index. block_in (leaf_at s below next index)) mid new
    → Fills (32 * place * 32 ^ below) ((32 * place + (i + 1)) * 32 ^ below) (λ index. block_in (leaf_at s level p index)) a new
one_more s level below place i p b ps next a mid new level_is is kids_are count lt next_is first second =
    let w = 32 ^ below in
    let at : ℕ → Option Bptr = λ index. block_in (leaf_at s level p index) in
    let small : i < 32 = omega (arith, lt, count) in
    let less : 32 * place * w ≤ (32 * place + i) * w = mul-le-mul_right w (omega arith) in
    let here = filled_as ((32 * place + i) * w) ((32 * place + i + 1) * w) (λ index. block_in (leaf_at s below next index)) at mid new second
    (λ k from to. ap block_in (sym (leaf_step s level below p b k i ps next level_is is kids_are (digit_is place i below k small from to) lt next_is))) in
    let end : (32 * place + i + 1) * w ≡ (32 * place + (i + 1)) * w = omega arith in
    subst (λ (n : ℕ). Fills (32 * place * w) n at a new) end (filled_then (32 * place * w) ((32 * place + i) * w) ((32 * place + i + 1) * w) at a mid new less first here)

-- all pointers
pub all_fill : (level below place i : ℕ) (at : ℕ → Option Bptr) (a new : List (ℕ × Bptr)) → level ≡ suc below → i ≡ 32 → Fills (32 * place * 32 ^ below) ((32 * place + i) * 32 ^ below) at a new → Fills (place * 32 ^ level) ((place + 1) * 32 ^ level) at a new
all_fill level below place i at a new level_is all h =
    let w = 32 ^ below in
    let t = power level below level_is in
    subst (λ (n : ℕ). Fills n ((place + 1) * 32 ^ level) at a new) (sym (base place w (32 ^ level) t)) (subst (λ (n : ℕ). Fills (32 * place * w) n at a new) (top place i w (32 ^ level) t all) h)

pub all_between : (level below place i : ℕ) (new : List (ℕ × Bptr)) → level ≡ suc below → i ≡ 32 → IsBetween 0 ((32 * place + i) * 32 ^ below) new → IsBetween 0 ((place + 1) * 32 ^ level) new
all_between level below place i new level_is all h = subst (λ (n : ℕ). IsBetween 0 n new) (top place i (32 ^ below) (32 ^ level) (power level below level_is) all) h

pub first_between : (level below place : ℕ) (es : List (ℕ × Bptr)) → level ≡ suc below → IsBetween 0 (place * 32 ^ level) es → IsBetween 0 ((32 * place + 0) * 32 ^ below) es
first_between level below place es level_is before =
    let w = 32 ^ below in
    let e : 32 * place * w ≡ (32 * place + 0) * w = omega arith in
    subst (λ (n : ℕ). IsBetween 0 n es) (base place w (32 ^ level) (power level below level_is) ∙ e) before

-- ---- tree blocks

pub blocks_are : (s : Stored) (level below : ℕ) (p : Ptr) (b : Bptr) (ps : List Ptr) → level ≡ suc below → p ≡ At b → ps ≡ kids s below b → blocks s level p ≡ b ∷ flat_map (blocks s below) ps
blocks_are s level below p b ps level_is is kids_are =
    ap (λ (l : ℕ). blocks s l p) level_is ∙ ap (λ (q : Ptr). blocks s (suc below) q) is ∙ ap (λ (qs : List Ptr). b ∷ flat_map (blocks s below) qs) (sym kids_are)

pub walked_blocks : (s : Stored) (level below n : ℕ) (p : Ptr) (b : Bptr) (ps items : List Ptr) (old first out : List Bptr) → level ≡ suc below → p ≡ At b → ps ≡ kids s below b → items ≡ ps → length items ≤ n → first ≡ old ++ b ∷ [] → out ≡ first ++ flat_map (blocks s below) (take n items)
    → out ≡ old ++ blocks s level p
walked_blocks s level below n p b ps items old first out level_is is kids_are same le first_is out_is =
    out_is ∙ ap (λ (xs : List Bptr). xs ++ flat_map (blocks s below) (take n items)) first_is
    ∙ ap (λ (qs : List Ptr). (old ++ b ∷ []) ++ flat_map (blocks s below) qs) (take_all n items le ∙ same)
    ∙ append_assoc old (b ∷ []) (flat_map (blocks s below) ps)
    ∙ ap (λ (xs : List Bptr). old ++ xs) (sym (blocks_are s level below p b ps level_is is kids_are))

pub blocks_more : (s : Stored) (below i : ℕ) (items : List Ptr) (next : Ptr) (first mid new : List Bptr) → i < length items → next ≡ get_or items i next → mid ≡ first ++ flat_map (blocks s below) (take i items) → new ≡ mid ++ blocks s below next → new ≡ first ++ flat_map (blocks s below) (take (i + 1) items)
blocks_more s below i items next first mid new lt next_is mid_is new_is =
    let f = blocks s below in
    let more : flat_map f (take (i + 1) items) ≡ flat_map f (take i items) ++ f next =
    ap (λ (n : ℕ). flat_map f (take n items)) (add-one i) ∙ ap (flat_map f) (take-suc items i next lt) ∙ flat_map-append f (take i items) (get_or items i next ∷ [])
    ∙ ap (λ (q : Ptr). flat_map f (take i items) ++ flat_map f (q ∷ [])) (sym next_is) ∙ ap (λ (xs : List Bptr). flat_map f (take i items) ++ xs) (append-nil (f next)) in
    new_is ∙ ap (λ (xs : List Bptr). xs ++ f next) mid_is ∙ append_assoc first (flat_map f (take i items)) (f next) ∙ ap (λ (xs : List Bptr). first ++ xs) (sym more)

pub lawful_top : (level : ℕ) (p : Ptr) (b : Bptr) → FitsAt level p → p ≡ At b → IsPointer b
lawful_top level p b fits is = subst IsLawful is fits.1

pub lawful_leaf : (level : ℕ) (p : Ptr) (b : Bptr) → FitsAt level p → p ≡ At b → level ≡ 0 → FitsAt 0 (At b)
lawful_leaf level p b fits is level_is = subst (FitsAt 0) is (subst (λ (l : ℕ). FitsAt l p) level_is fits)

-- ---- how many tree blocks there are

pub none_more : (level n : ℕ) → 31 * n + 1 ≤ 31 * n + 32 ^ level
none_more level n =
    let low : 0 ≤ level = omega arith in
    let some : 32 ^ 0 ≤ 32 ^ level = pow-le-pow_right (omega arith) low in
    omega (arith, some)

pub kids_begin : (n w : ℕ) → 31 * n + 0 ≤ 31 * n + 0 * w
kids_begin n w = omega arith

-- behind i pointers to blocks of a level that has at most w leaves, and behind one more
pub kids_few : (mid new first i w : ℕ) → 31 * mid + i ≤ 31 * first + i * w → 31 * new + 1 ≤ 31 * mid + w → 31 * new + (i + 1) ≤ 31 * first + (i + 1) * w
kids_few mid new first i w so_far more =
    let next : (i + 1) * w ≡ i * w + w = omega arith in
    omega (arith, so_far, more, next)

-- with the block itself
pub all_few : (level below i old first new : ℕ) → level ≡ suc below → i ≡ 32 → first ≡ old + 1 → 31 * new + i ≤ 31 * first + i * 32 ^ below → 31 * new + 1 ≤ 31 * old + 32 ^ level
all_few level below i old first new level_is all one so_far =
    let whole = power level below level_is in
    let times : i * 32 ^ below ≡ 32 * 32 ^ below = ap (λ (n : ℕ). n * 32 ^ below) all in
    omega (arith, whole, times, all, one, so_far)

-- ---- whole trees

pub whole_few : (height blocks none : ℕ) → height ≤ 5 → none ≡ 0 → 31 * blocks + 1 ≤ 31 * none + 32 ^ height → blocks ≤ 2 ^ 21
whole_few height blocks none low is few =
    let less : 32 ^ height ≤ 32 ^ 5 = pow-le-pow_right (omega arith) low in
    omega (arith, less, is, few)

pub low_top : (height : ℕ) → height ≤ 5 → (0 + 1) * 32 ^ height ≤ 2 ^ 25
low_top height low =
    let less : 32 ^ height ≤ 32 ^ 5 = pow-le-pow_right (omega arith) low in
    omega (arith, less)

pub whole_between : (height : ℕ) (es : List (ℕ × Bptr)) → height ≤ 5 → IsBetween 0 ((0 + 1) * 32 ^ height) es → IsBetween 0 (2 ^ 25) es
whole_between height es low h = wider 0 ((0 + 1) * 32 ^ height) 0 (2 ^ 25) es h (omega arith) (low_top height low)

pub whole_leaves : (s : Stored) (t : Tree) (old new : List (ℕ × Bptr)) → t.height ≤ 5 → IsBetween 0 ((0 + 1) * 32 ^ t.height) new → Fills (0 * 32 ^ t.height) ((0 + 1) * 32 ^ t.height) (λ index. block_in (leaf_at s t.height t.root index)) old new → (index : ℕ) → value_at new index ≡ block_in (tree_at s t index)
whole_leaves s t old new low between h index =
    ⊎_elim
    (λ inside.
    let up : index < (0 + 1) * 32 ^ t.height = omega (arith, inside) in
    let is : tree_at s t index ≡ leaf_at s t.height t.root index = rw (lt-ltb index (32 ^ t.height) inside) refl in
    h.came index (omega arith) up ∙ sym (ap block_in is))
    (λ outside.
    let is : tree_at s t index ≡ Hole = rw (le-ltb index (32 ^ t.height) outside) refl in
    past 0 ((0 + 1) * 32 ^ t.height) index new between (omega (arith, outside)) ∙ sym (ap block_in is))
    (cases_lt index (32 ^ t.height))
