-- Where the leaves below a pointer stand, and what a directory that was walked has.
use Rattle.std.specs.Prelude.{All, nat_eq, if◌then◌else◌, slice_index_or}
use Rattle.std.specs.List.{flat_map}
use Rattle.std.proofs.Common.{◌≡◌, ◌<◌, ◌+◌, ◌*◌, ◌/◌, ◌%◌, ◌^◌, ℕ, zero, suc, List, [], ◌∷◌, ◌++◌, Bool, true, false, Option, Some, None, refl, sym, ◌∙◌, ap, subst, arith, ⊎_elim, append-nil, lt-ltb, le-ltb}
use Rattle.std.proofs.Math.Nat.{mod-eq_of_lt}
use Rattle.std.proofs.lemmas.Bool.{cases_lt}
use Rattle.std.proofs.lemmas.Grind.{flat_map-append}
use Rattle.std.proofs.lemmas.List.Elements.{All-nil, All-cons, All-append, All-head, All-tail}
use Rattle.zr_bptr.specs.declared.Bptr.{Bptr}
use Rattle.zr_bptr.specs.declared.Ptr.{Ptr}
use Rattle.zr_bptr.specs.declared.Ptr.TheVariants.{Hole, At}
use Rattle.zr_bptr.specs.declared.Tree.{Tree}
use Rattle.zr_bptr.specs.declared.ObjRec.{ObjRec}
use Rattle.zr_store.specs.Store.{Stored}
use Rattle.zr_tree.specs.Blocks.{FitsAt}
use Rattle.zr_tree.specs.Trees.{kids, slot, digit, leaf_at, blocks, tree_at, reach, tree_reach, IsSoundAt}
use Rattle.zr_tree.proofs.Frames.{hole_leaf}
use Rattle.zr_objset.specs.Records.{records_in, record_in, record_of, object_reach, leaf_reach}
use Rattle.zr_image.specs.Roots.{HasRootSize}
use Rattle.zr_import.specs.Shapes.{MayStand, StandBelow}
use Rattle.zr_import.specs.Directories.{recorded, objects_in, HasItsLength, IsInPlace}
use Rattle.zr_import.specs.declared.walks.Shape.{Shape}
use Rattle.zr_import.proofs.Dense.{digits}

-- ---- where leaves stand

pub hole_stands : (s : Stored) (shape : Shape) (level index : ℕ) (p : Ptr) → p ≡ Hole → MayStand shape level index p → StandBelow s shape level index p
hole_stands s shape level index p is may i =
    subst (λ (q : Ptr). MayStand shape 0 (index + i % 32 ^ level) (leaf_at s level q i)) (sym is)
    (subst (MayStand shape 0 (index + i % 32 ^ level)) (sym (hole_leaf s level i)) (λ full. let le = subst (MayStand shape level index) is may full in omega (arith, le)))

pub leaf_stands : (s : Stored) (shape : Shape) (level index : ℕ) (p : Ptr) → level ≡ 0 → MayStand shape level index p → StandBelow s shape level index p
leaf_stands s shape level index p is may = subst (λ (l : ℕ). StandBelow s shape l index p) (sym is)
    (λ i. let e : index ≡ index + i % 1 = omega arith in subst (λ (k : ℕ). MayStand shape 0 k p) e (subst (λ (l : ℕ). MayStand shape l index p) is may))

pub block_stands : (s : Stored) (shape : Shape) (level below index : ℕ) (p : Ptr) (b : Bptr) → level ≡ suc below → p ≡ At b
    → ((k : ℕ) → k < 32 → StandBelow s shape below (index + k * 32 ^ below) (slot (kids s below b) k)) → StandBelow s shape level index p
block_stands s shape level below index p b level_is is each =
    subst (λ (l : ℕ). StandBelow s shape l index p) (sym level_is)
    (subst (StandBelow s shape (suc below) index) (sym is)
    (λ i.
    let d = digit below i in
    let small : d < 32 = omega arith in
    let e : index + d * 32 ^ below + i % 32 ^ below ≡ index + i % 32 ^ suc below = (let m = digits i below in omega (arith, m)) in
    subst (λ (k : ℕ). MayStand shape 0 k (leaf_at s below (slot (kids s below b) d) i)) e (each d small i)))

pub stands_more : (s : Stored) (shape : Shape) (below index i : ℕ) (ps : List Ptr) → StandBelow s shape below (index + i * 32 ^ below) (slot ps i)
    → ((k : ℕ) → k < i → StandBelow s shape below (index + k * 32 ^ below) (slot ps k)) → (k : ℕ) → k < i + 1 → StandBelow s shape below (index + k * 32 ^ below) (slot ps k)
stands_more s shape below index i ps one before k lt =
    ⊎_elim
    (λ less. before k less)
    (λ ge. let e : i ≡ k = omega (arith, lt, ge) in subst (λ (j : ℕ). StandBelow s shape below (index + j * 32 ^ below) (slot ps j)) e one)
    (cases_lt k i)

-- ---- the leaves of an object

in_tree : (s : Stored) (t : Tree) (i : ℕ) (b : Bptr) → tree_at s t i ≡ At b → (i < 32 ^ t.height) × (leaf_at s t.height t.root i ≡ At b)
in_tree s t i b is = ⊎_elim
    (λ lt. (lt, sym (rw (lt-ltb i (32 ^ t.height) lt) refl) ∙ is))
    (λ ge. absurd (let none : tree_at s t i ≡ Hole = rw (le-ltb i (32 ^ t.height) ge) refl in let both = sym none ∙ is in cc))
    (cases_lt i (32 ^ t.height))

-- an object has no leaf where none may stand
pub has_length : (s : Stored) (shape : Shape) (r : ObjRec) → shape.leaf_units ≡ r.units → StandBelow s shape r.tree.height 0 r.tree.root → HasItsLength s r
has_length s shape r units stand i b is =
    let at = in_tree s r.tree i b is in
    let may = subst (MayStand shape 0 (0 + i % 32 ^ r.tree.height)) at.1 (stand i) in
    may.1 refl ∙ units

root_may : (shape : Shape) (height units : ℕ) (p : Ptr) → 0 < shape.leaves → shape.full ≡ false → shape.leaf_units ≡ units → ((b : Bptr) → height ≡ 0 → p ≡ At b → b.at.len ≡ units) → MayStand shape height 0 p
root_may shape height units Hole some loose long size = λ full. absurd (let both = sym loose ∙ full in cc)
root_may shape height units (At b) some loose long size = (some, λ flat. size b flat refl ∙ sym long)

-- the root of an object may stand
pub object_root : (shape : Shape) (r : ObjRec) → 0 < shape.leaves → shape.full ≡ false → shape.leaf_units ≡ r.units → HasRootSize r → MayStand shape r.tree.height 0 r.tree.root
object_root shape r some loose long size = root_may shape r.tree.height r.units r.tree.root some loose long (λ b flat is. size b flat is)

-- ---- the objects of a directory

reach_of : (s : Stored) (rs : List (Option ObjRec)) → flat_map (λ (r : ObjRec). tree_reach s r.tree) (flat_map recorded rs) ≡ flat_map (object_reach s) rs
reach_of s [] = refl
reach_of s (None ∷ rs) = reach_of s rs
reach_of s (Some r ∷ rs) = ap (λ (bs : List Bptr). tree_reach s r.tree ++ bs) (reach_of s rs)

leaf_reach_of : (s : Stored) (rs : List (Option ObjRec)) (flat : Bool) → flat_map (λ (r : ObjRec). tree_reach s r.tree) (if flat then flat_map recorded rs else []) ≡ (if flat then flat_map (object_reach s) rs else [])
leaf_reach_of s rs true = reach_of s rs
leaf_reach_of s rs false = refl

-- the blocks of the objects of some leaves
pub objects_reach : (s : Stored) (bs : List Bptr) → flat_map (λ (r : ObjRec). tree_reach s r.tree) (flat_map (objects_in s) bs) ≡ flat_map (leaf_reach s) bs
objects_reach s [] = refl
objects_reach s (b ∷ bs) =
    flat_map-append (λ (r : ObjRec). tree_reach s r.tree) (objects_in s b) (flat_map (objects_in s) bs)
    ∙ ap (λ (xs : List Bptr). xs ++ flat_map (λ (r : ObjRec). tree_reach s r.tree) (flat_map (objects_in s) bs)) (leaf_reach_of s (records_in (s.bytes b)) (nat_eq b.level 0))
    ∙ ap (λ (xs : List Bptr). leaf_reach s b ++ xs) (objects_reach s bs)

-- ---- each of them

all_front : {X : Type 0} (P : X → Type 0) (xs ys : List X) → All P (xs ++ ys) → All P xs
all_front P [] ys all = All-nil P
all_front P (x ∷ xs) ys all = All-cons P x xs (All-head P x (xs ++ ys) all) (all_front P xs ys (All-tail P x (xs ++ ys) all))

all_back : {X : Type 0} (P : X → Type 0) (xs ys : List X) → All P (xs ++ ys) → All P ys
all_back P [] ys all = all
all_back P (x ∷ xs) ys all = all_back P xs ys (All-tail P x (xs ++ ys) all)

module _ {X : Type 0} (P : X → Type 0) where
  in_record : (xs : List (Option X)) (f : Option X → List X) → ((x : X) → f (Some x) ≡ x ∷ []) → All P (flat_map f xs) → (k : ℕ) (x : X) → slice_index_or xs k None ≡ Some x → P x
  in_record [] f one all k x is = absurd (cc)
  in_record (y ∷ ys) f one all zero x is =
      let here = subst (λ (o : Option X). All P (f o ++ flat_map f ys)) is all in
      All-head P x [] (subst (All P) (one x) (all_front P (f (Some x)) (flat_map f ys) here))
  in_record (y ∷ ys) f one all (suc k) x is = in_record ys f one (all_back P (f y) (flat_map f ys) all) k x is

  module _ (s : Stored) (f : Bptr → List X) where
    in_slot : (g : Ptr → List Bptr) → g Hole ≡ [] → (ps : List Ptr) (k : ℕ) → All P (flat_map f (flat_map g ps)) → All P (flat_map f (g (slot ps k)))
    in_slot g none [] k all = subst (λ (bs : List Bptr). All P (flat_map f bs)) (sym none) (λ j d lt. absurd (omega (arith, lt)))
    in_slot g none (p ∷ ps) zero all = all_front P (flat_map f (g p)) (flat_map f (flat_map g ps)) (subst (All P) (flat_map-append f (g p) (flat_map g ps)) all)
    in_slot g none (p ∷ ps) (suc k) all = in_slot g none ps k (all_back P (flat_map f (g p)) (flat_map f (flat_map g ps)) (subst (All P) (flat_map-append f (g p) (flat_map g ps)) all))

    hole_reach : (level : ℕ) → reach s level Hole ≡ []
    hole_reach zero = refl
    hole_reach (suc below) = refl

    -- what is so of all that the blocks have is so of what a leaf has
    in_leaf : (level : ℕ) (p : Ptr) (i : ℕ) (b : Bptr) → leaf_at s level p i ≡ At b → All P (flat_map f (reach s level p)) → All P (f b)
    in_leaf zero p i b is all =
        let here = subst (λ (q : Ptr). All P (flat_map f (reach s 0 q))) is all in
        subst (All P) (append-nil (f b)) here
    in_leaf (suc below) Hole i b is all = absurd (cc)
    in_leaf (suc below) (At c) i b is all =
        in_leaf below (slot (kids s below c) (digit below i)) i b is
        (in_slot (reach s below) (hole_reach below) (kids s below c) (digit below i) (all_back P (f c) (flat_map f (flat_map (reach s below) (kids s below c))) all))

-- ---- the leaves of a directory

sound_slot : (s : Stored) (level : ℕ) (ps : List Ptr) (k : ℕ) → All (IsSoundAt s level) ps → IsSoundAt s level (slot ps k)
sound_slot s zero [] k all = (tt, tt)
sound_slot s (suc below) [] k all = tt
sound_slot s level (p ∷ ps) zero all = All-head (IsSoundAt s level) p ps all
sound_slot s level (p ∷ ps) (suc k) all = sound_slot s level ps k (All-tail (IsSoundAt s level) p ps all)

sound_leaf : (s : Stored) (level : ℕ) (p : Ptr) (i : ℕ) → IsSoundAt s level p → FitsAt 0 (leaf_at s level p i)
sound_leaf s zero p i sound = sound
sound_leaf s (suc below) Hole i sound = (tt, tt)
sound_leaf s (suc below) (At b) i sound = sound_leaf s below (slot (kids s below b) (digit below i)) i (sound_slot s below (kids s below b) (digit below i) sound.2)

abbrev IsAbove : Bptr → Type 0
IsAbove b = 0 < b.level

blocks_above : (s : Stored) (level : ℕ) → ((p : Ptr) → IsSoundAt s level p → All IsAbove (blocks s level p)) → (ps : List Ptr) → All (IsSoundAt s level) ps → All IsAbove (flat_map (blocks s level) ps)
blocks_above s level each [] all = All-nil IsAbove
blocks_above s level each (p ∷ ps) all =
    All-append IsAbove (blocks s level p) (flat_map (blocks s level) ps) (each p (All-head (IsSoundAt s level) p ps all)) (blocks_above s level each ps (All-tail (IsSoundAt s level) p ps all))

-- the tree blocks are above the leaves
sound_above : (s : Stored) (level : ℕ) (p : Ptr) → IsSoundAt s level p → All IsAbove (blocks s level p)
sound_above s zero p sound = All-nil IsAbove
sound_above s (suc below) Hole sound = All-nil IsAbove
sound_above s (suc below) (At b) sound =
    let high : IsAbove b = (let l = sound.0.0 in omega (arith, l)) in
    All-cons IsAbove b (flat_map (blocks s below) (kids s below b)) high (blocks_above s below (λ q is. sound_above s below q is) (kids s below b) sound.2)

low_leaf : (s : Stored) (shape : Shape) (level : ℕ) (p : Ptr) (i : ℕ) (b : Bptr) → 0 < shape.leaves → (MayStand shape level 0 p → StandBelow s shape level 0 p) → leaf_at s level p i ≡ At b → i < 32 ^ level → i < shape.leaves
low_leaf s shape zero p i b some stand is lt = omega (arith, some, lt)
low_leaf s shape (suc below) Hole i b some stand is lt = absurd (cc)
low_leaf s shape (suc below) (At c) i b some stand is lt =
    let may = subst (MayStand shape 0 (0 + i % 32 ^ suc below)) is (stand (some, λ flat. absurd (omega (arith, flat))) i) in
    let less = may.0 in
    let same = mod-eq_of_lt {n = i} {m = 32 ^ suc below} lt in
    omega (arith, less, same)

record_at : (s : Stored) (p : Ptr) (k : ℕ) (r : ObjRec) → record_in s p k ≡ Some r → (b : Bptr) × (p ≡ At b) × (slice_index_or (records_in (s.bytes b)) k None ≡ Some r)
record_at s Hole k r is = absurd (cc)
record_at s (At b) k r is = (b, refl, is)

-- what was found of each object is so of the objects of the directory
pub in_place : (s : Stored) (shape : Shape) (dir : Tree) (objects : List ObjRec) → shape.leaves ≡ 4096 → IsSoundAt s dir.height dir.root → (MayStand shape dir.height 0 dir.root → StandBelow s shape dir.height 0 dir.root)
    → objects ≡ flat_map (objects_in s) (tree_reach s dir) → All (HasItsLength s) objects → IsInPlace s dir
in_place s shape dir objects limit sound stand are all = record { leaves = leaf; objects = object; above = sound_above s dir.height dir.root sound }
  where
    leaf : (i : ℕ) (b : Bptr) → tree_at s dir i ≡ At b → (i < 4096) × (b.level ≡ 0)
    leaf i b is =
        let at = in_tree s dir i b is in
        let low = low_leaf s shape dir.height dir.root i b (omega (arith, limit)) stand at.1 at.0 in
        (omega (arith, low, limit), (subst (FitsAt 0) at.1 (sound_leaf s dir.height dir.root i sound)).0)

    object : (id : ℕ) (r : ObjRec) → record_of s dir id ≡ Some r → HasItsLength s r
    object id r is =
        let found = record_at s (tree_at s dir (id / 16)) (id % 16) r is in
        let b = found.0 in
        let at = in_tree s dir (id / 16) b found.1 in
        let own = in_leaf (HasItsLength s) s (objects_in s) dir.height dir.root (id / 16) b at.1 (subst (All (HasItsLength s)) are all) in
        let flat : objects_in s b ≡ flat_map recorded (records_in (s.bytes b)) = ap (λ (l : ℕ). if nat_eq l 0 then flat_map recorded (records_in (s.bytes b)) else []) (leaf (id / 16) b found.1).1 in
        in_record (HasItsLength s) (records_in (s.bytes b)) recorded (λ x. refl) (subst (All (HasItsLength s)) flat own) (id % 16) r found.2
