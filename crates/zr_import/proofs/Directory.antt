-- The objects of a directory.
use Rattle.std.specs.Prelude.{nat_eq, if◌then◌else◌, Option}
use Rattle.std.specs.List.{flat_map}
use Rattle.std.proofs.Common.{◌≡◌, ◌<◌, ◌≤◌, ◌+◌, ℕ, suc, List, [], ◌∷◌, ◌++◌, length, get_or, take, sym, ◌∙◌, ap, subst, arith, append_assoc, append-nil}
use Rattle.std.proofs.Math.Seq.{take-suc}
use Rattle.std.proofs.lemmas.Grind.{flat_map-append}
use Rattle.std.proofs.lemmas.List.{take_all}
use Rattle.zr_bptr.specs.declared.Bptr.{Bptr}
use Rattle.zr_bptr.specs.declared.ObjRec.{ObjRec}
use Rattle.zr_bptr.specs.declared.Tree.{Tree}
use Rattle.zr_store.specs.Store.{Stored}
use Rattle.zr_tree.specs.Trees.{tree_reach}
use Rattle.zr_objset.specs.Records.{records_in, leaf_reach, all_reach}
use Rattle.zr_import.specs.Directories.{recorded, objects_in}
use Rattle.zr_import.specs.Units.{MarksAll}
use Rattle.zr_import.proofs.Marking.{marks_then}
use Rattle.zr_import.proofs.Places.{objects_reach}

-- the objects of a leaf
pub leaf_objects : (s : Stored) (b : Bptr) (rs : List (Option ObjRec)) → b.level ≡ 0 → rs ≡ records_in (s.bytes b) → flat_map recorded rs ≡ objects_in s b
leaf_objects s b rs level_is is =
    ap (flat_map recorded) is
    ∙ sym (ap (λ (l : ℕ). if nat_eq l 0 then flat_map recorded (records_in (s.bytes b)) else []) level_is)

-- the objects of one more
pub objects_more : {X : Type 0} (f : X → List ObjRec) (items : List X) (i : ℕ) (d : X) (old mid new : List ObjRec) → i < length items → mid ≡ old ++ flat_map f (take i items) → new ≡ mid ++ f (get_or items i d) → new ≡ old ++ flat_map f (take (i + 1) items)
objects_more {X} f items i d old mid new lt one two =
    let n : i + 1 ≡ suc i = omega arith in
    let next : flat_map f (take (i + 1) items) ≡ flat_map f (take i items) ++ f (get_or items i d) =
    ap (λ (k : ℕ). flat_map f (take k items)) n ∙ ap (flat_map f) (take-suc items i d lt) ∙ flat_map-append f (take i items) (get_or items i d ∷ [])
    ∙ ap (λ (xs : List ObjRec). flat_map f (take i items) ++ xs) (append-nil (f (get_or items i d))) in
    two ∙ ap (λ (xs : List ObjRec). xs ++ f (get_or items i d)) one ∙ append_assoc old (flat_map f (take i items)) (f (get_or items i d)) ∙ ap (λ (xs : List ObjRec). old ++ xs) (sym next)

-- the slice has the blocks of the directory
pub met_all : (s : Stored) (dir : Tree) (met met_now slice : List Bptr) → met ≡ [] → met_now ≡ met ++ tree_reach s dir → slice ≡ met_now → slice ≡ tree_reach s dir
met_all s dir met met_now slice none met_is slice_is = slice_is ∙ met_is ∙ ap (λ (xs : List Bptr). xs ++ tree_reach s dir) none

-- the directory was walked, and then its objects
pub all_marked : {M : Type 0} (Marks : M → M → Bptr → Type 0) (s : Stored) (dir : Tree) (txg n : ℕ) (slice : List Bptr) (objects items : List ObjRec) (old mid new : M) → MarksAll Marks txg old mid (tree_reach s dir) → slice ≡ tree_reach s dir
    → objects ≡ flat_map (objects_in s) slice → items ≡ objects → length items ≤ n
    → MarksAll Marks txg mid new (flat_map (λ (r : ObjRec). tree_reach s r.tree) (take n items)) → MarksAll Marks txg old new (all_reach s dir)
all_marked {M} Marks s dir txg n slice objects items old mid new one slice_is found items_are le two =
    let f : ObjRec → List Bptr = λ r. tree_reach s r.tree in
    let whole = ap (flat_map f) (take_all n items le ∙ items_are ∙ found ∙ ap (flat_map (objects_in s)) slice_is) ∙ objects_reach s (tree_reach s dir) in
    marks_then Marks txg old mid new (tree_reach s dir) (flat_map (leaf_reach s) (tree_reach s dir)) one (subst (MarksAll Marks txg mid new) whole two)
