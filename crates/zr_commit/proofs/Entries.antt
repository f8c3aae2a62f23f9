-- The changed objects of a group, as the calls below want them.
use Rattle.std.proofs.Common.{◌≡◌, ◌∙◌, ◌+◌, ◌<◌, ◌≤◌, ◌^◌, ℕ, zero, suc, List, [], ◌∷◌, ◌++◌, length, map, take, drop, get_or, refl, sym, ap, subst, arith}
use Rattle.std.specs.Prelude.{All, Option, Some, None, IfSome, option_map}
use Rattle.std.specs.List.{AllByRecursion}
use Rattle.std.proofs.lemmas.List.{map-append, take-append-drop}
use Rattle.std.proofs.lemmas.List.Elements.{All-nil, All-cons}
use Rattle.std.proofs.lemmas.List.Sums.{sum_by-append}
use Rattle.zr_bptr.specs.declared.Ptr.{Ptr}
use Rattle.zr_bptr.specs.declared.ObjRec.{ObjRec}
use Rattle.zr_bptr.specs.Spelling.{IsObject}
use Rattle.zr_tree.specs.Blocks.{FitsAt}
use Rattle.zr_tree.specs.Trees.{AreLeaves, Rises}
use Rattle.zr_objset.specs.Changes.{RisesById}
use Rattle.zr_root.proofs.Puts.{taken}
use Rattle.zr_txg.specs.Tables.{IsRisingFrom, IsRising, value_at}
use Rattle.zr_txg.specs.Changes.{ObjectChange, Changes, object_in, changes_in, blocks_of, block_count}
use Rattle.zr_txg.proofs.Keyed.{value_at-at}
use Rattle.zr_lookup.specs.Groups.{IsBlockChange, IsChangeOf}
use Rattle.zr_commit.specs.Objects.{entry}

lower_rising : {V : Type 0} (a b : ℕ) (es : List (ℕ × V)) → a ≤ b → IsRisingFrom b es → IsRisingFrom a es
lower_rising a b [] le h = tt
lower_rising a b (e ∷ es) le h = (omega (arith, le, h.0), h.1)

-- ---- the changed blocks of one object

pub changes_low : (cs : List (ℕ × Ptr)) → AllByRecursion IsBlockChange cs → All (λ (change : ℕ × Ptr). change.0 < 2 ^ 25) cs
changes_low [] h = All-nil (λ (change : ℕ × Ptr). change.0 < 2 ^ 25)
changes_low (c ∷ cs) h = All-cons (λ (change : ℕ × Ptr). change.0 < 2 ^ 25) c cs h.0.low (changes_low cs h.1)

pub changes_leaves : (cs : List (ℕ × Ptr)) → AllByRecursion IsBlockChange cs → AreLeaves cs
changes_leaves [] h = All-nil (λ (change : ℕ × Ptr). FitsAt 0 change.1)
changes_leaves (c ∷ cs) h = All-cons (λ (change : ℕ × Ptr). FitsAt 0 change.1) c cs h.0.leaf (changes_leaves cs h.1)

above : (low : ℕ) (cs : List (ℕ × Ptr)) → IsRisingFrom (suc low) cs → AllByRecursion (λ (later : ℕ × Ptr). low < later.0) cs
above low [] h = tt
above low (c ∷ cs) h = (omega (arith, h.0), above low cs (lower_rising (suc low) (suc c.0) cs (omega (arith, h.0)) h.1))

pub changes_rise : (low : ℕ) (cs : List (ℕ × Ptr)) → IsRisingFrom low cs → Rises cs
changes_rise low [] h = tt
changes_rise low (c ∷ cs) h = (above c.0 cs h.1, changes_rise (suc c.0) cs h.1)

-- ---- one changed object

pub each_entry : (es : List (ℕ × ObjectChange)) (i : ℕ) → AllByRecursion IsChangeOf es → i < length es → IsChangeOf (entry es i)
each_entry [] i h lt = absurd (omega (arith, lt))
each_entry (e ∷ es) zero h lt = h.0
each_entry (e ∷ es) (suc i) h lt = each_entry es i h.1 (omega (arith, lt))

value_is : (g : Changes) (i id : ℕ) → IsRising g.objects → i < length g.objects → (entry g.objects i).0 ≡ id → value_at g.objects id ≡ Some (entry g.objects i).1
value_is g i id rising lt is = ap (λ (k : ℕ). value_at g.objects k) (sym is) ∙ value_at-at 0 i g.objects (0, record { object = None; blocks = [] }) rising lt

some_same : {X : Type 0} (x y : X) → Some x ≡ Some y → x ≡ y
some_same x y h = cc

pub object_is : (g : Changes) (i id : ℕ) (object : Option ObjRec) → IsRising g.objects → i < length g.objects → (entry g.objects i).0 ≡ id → object_in g id ≡ Some object → object ≡ (entry g.objects i).1.object
object_is g i id object rising lt is found =
    some_same object (entry g.objects i).1.object (sym found ∙ ap (λ (v : Option ObjectChange). option_map (λ (c : ObjectChange). c.object) v) (value_is g i id rising lt is))

pub changes_are : (g : Changes) (i id : ℕ) → IsRising g.objects → i < length g.objects → (entry g.objects i).0 ≡ id → changes_in g id ≡ (entry g.objects i).1.blocks
changes_are g i id rising lt is = ap (λ (v : Option ObjectChange). blocks_of v) (value_is g i id rising lt is)

-- ---- the changed objects up to one

pub front : (es : List (ℕ × ObjectChange)) (i : ℕ) → i < length es → take (i + 1) es ≡ take i es ++ entry es i ∷ []
front es i lt = taken (0, record { object = None; blocks = [] }) es i lt

pub count_more : (es : List (ℕ × ObjectChange)) (i : ℕ) → i < length es → block_count (take (i + 1) es) ≡ block_count (take i es) + length (entry es i).1.blocks
count_more es i lt =
    let e = ap block_count (front es i lt) in
    let f = sum_by-append (λ (x : ℕ × ObjectChange). length x.1.blocks) (take i es) (entry es i ∷ []) in
    omega (arith, e, f)

pub count_most : (es : List (ℕ × ObjectChange)) (i : ℕ) → block_count (take i es) ≤ block_count es
count_most es i =
    let e = ap block_count (sym (take-append-drop i es)) in
    let f = sum_by-append (λ (x : ℕ × ObjectChange). length x.1.blocks) (take i es) (drop i es) in
    omega (arith, e, f)

abbrev pub ids_of : {X : Type 0} → List (ℕ × X) → List ℕ
ids_of xs = map (λ x. x.0) xs

pub ids_more : (es : List (ℕ × ObjectChange)) (i : ℕ) (qs now : List (ℕ × Option ObjRec)) (q : ℕ × Option ObjRec) → i < length es → now ≡ qs ++ q ∷ [] → q.0 ≡ (entry es i).0 → ids_of qs ≡ ids_of (take i es) → ids_of now ≡ ids_of (take (i + 1) es)
ids_more es i qs now q lt is id same =
    ap (λ (xs : List (ℕ × Option ObjRec)). ids_of xs) is
    ∙ (map-append (λ (x : ℕ × Option ObjRec). x.0) qs (q ∷ [])
    ∙ (ap (λ (xs : List ℕ). xs ++ q.0 ∷ []) same
    ∙ (ap (λ (k : ℕ). ids_of (take i es) ++ k ∷ []) id
    ∙ (sym (map-append (λ (x : ℕ × ObjectChange). x.0) (take i es) (entry es i ∷ [])) ∙ ap (λ (xs : List (ℕ × ObjectChange)). ids_of xs) (sym (front es i lt))))))

-- ---- the records of all

head_same : (x y : ℕ) (xs ys : List ℕ) → x ∷ xs ≡ y ∷ ys → x ≡ y
head_same x y xs ys h = cc

tail_same : (x y : ℕ) (xs ys : List ℕ) → x ∷ xs ≡ y ∷ ys → xs ≡ ys
tail_same x y xs ys h = cc

none_some : {P : Type 0} (y : ℕ) (ys : List ℕ) → [] ≡ y ∷ ys → P
none_some y ys h = let n = ap (λ (xs : List ℕ). length xs) h in absurd (omega (arith, n))

pub ids_low : (qs : List (ℕ × Option ObjRec)) (es : List (ℕ × ObjectChange)) → ids_of qs ≡ ids_of es → AllByRecursion IsChangeOf es → All (λ (q : ℕ × Option ObjRec). q.0 < 65536) qs
ids_low [] es same h = All-nil (λ (q : ℕ × Option ObjRec). q.0 < 65536)
ids_low (q ∷ qs) [] same h = none_some q.0 (ids_of qs) (sym same)
ids_low (q ∷ qs) (e ∷ es) same h =
    let here = head_same q.0 e.0 (ids_of qs) (ids_of es) same in
    All-cons (λ (x : ℕ × Option ObjRec). x.0 < 65536) q qs (omega (arith, here, h.0.id)) (ids_low qs es (tail_same q.0 e.0 (ids_of qs) (ids_of es) same) h.1)

ids_above : (low : ℕ) (qs : List (ℕ × Option ObjRec)) (es : List (ℕ × ObjectChange)) → ids_of qs ≡ ids_of es → IsRisingFrom (suc low) es → AllByRecursion (λ (later : ℕ × Option ObjRec). low < later.0) qs
ids_above low [] es same h = tt
ids_above low (q ∷ qs) [] same h = none_some q.0 (ids_of qs) (sym same)
ids_above low (q ∷ qs) (e ∷ es) same h =
    let here = head_same q.0 e.0 (ids_of qs) (ids_of es) same in
    (omega (arith, here, h.0), ids_above low qs es (tail_same q.0 e.0 (ids_of qs) (ids_of es) same) (lower_rising (suc low) (suc e.0) es (omega (arith, h.0)) h.1))

pub ids_rise : (low : ℕ) (qs : List (ℕ × Option ObjRec)) (es : List (ℕ × ObjectChange)) → ids_of qs ≡ ids_of es → IsRisingFrom low es → RisesById qs
ids_rise low [] es same h = tt
ids_rise low (q ∷ qs) [] same h = none_some q.0 (ids_of qs) (sym same)
ids_rise low (q ∷ qs) (e ∷ es) same h =
    let here = head_same q.0 e.0 (ids_of qs) (ids_of es) same in
    let rest = tail_same q.0 e.0 (ids_of qs) (ids_of es) same in
    (ids_above q.0 qs es rest (lower_rising (suc q.0) (suc e.0) es (omega (arith, here)) h.1), ids_rise (suc e.0) qs es rest h.1)

pub ids_long : (qs : List (ℕ × Option ObjRec)) (es : List (ℕ × ObjectChange)) → ids_of qs ≡ ids_of es → length qs ≡ length es
ids_long [] [] same = refl
ids_long [] (e ∷ es) same = none_some e.0 (ids_of es) same
ids_long (q ∷ qs) [] same = none_some q.0 (ids_of qs) (sym same)
ids_long (q ∷ qs) (e ∷ es) same = ap suc (ids_long qs es (tail_same q.0 e.0 (ids_of qs) (ids_of es) same))

-- what the look-ups of an object find is its change
pub change_of : (g : Changes) (i id : ℕ) (object : Option ObjRec) (cs : List (ℕ × Ptr)) → IsRising g.objects → i < length g.objects → (entry g.objects i).0 ≡ id → object_in g id ≡ Some object → cs ≡ changes_in g id → id < 65536 → IfSome object IsObject → AllByRecursion IsBlockChange cs → IsChangeOf (entry g.objects i)
change_of g i id object cs rising lt is found blocks low lawful each = record {
  id = omega (arith, is, low);
  change = record {
    object = subst (λ (o : Option ObjRec). IfSome o IsObject) (object_is g i id object rising lt is found) lawful;
    blocks = subst (λ (xs : List (ℕ × Ptr)). AllByRecursion IsBlockChange xs) (blocks ∙ changes_are g i id rising lt is) each;
  };
}

each_last : {X : Type 0} (P : X → Type 0) (xs : List X) (x : X) → AllByRecursion P xs → P x → AllByRecursion P (xs ++ x ∷ [])
each_last P [] x h one = (one, tt)
each_last P (y ∷ xs) x h one = (h.0, each_last P xs x h.1 one)

-- the changes up to one more
pub each_more : (es : List (ℕ × ObjectChange)) (i : ℕ) → i < length es → AllByRecursion IsChangeOf (take i es) → IsChangeOf (entry es i) → AllByRecursion IsChangeOf (take (i + 1) es)
each_more es i lt h one = subst (λ (xs : List (ℕ × ObjectChange)). AllByRecursion IsChangeOf xs) (sym (front es i lt)) (each_last IsChangeOf (take i es) (entry es i) h one)

pub block_more : (cs : List (ℕ × Ptr)) (i : ℕ) (d : ℕ × Ptr) → i < length cs → AllByRecursion IsBlockChange (take i cs) → IsBlockChange (get_or cs i d) → AllByRecursion IsBlockChange (take (i + 1) cs)
block_more cs i d lt h one = subst (λ (xs : List (ℕ × Ptr)). AllByRecursion IsBlockChange xs) (sym (taken d cs i lt)) (each_last IsBlockChange (take i cs) (get_or cs i d) h one)
