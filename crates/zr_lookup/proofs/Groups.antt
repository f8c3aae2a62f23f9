-- What a lawful group has changed.
use Rattle.std.proofs.Common.{◌≡◌, ◌+◌, ◌^◌, ◌<◌, ℕ, List, [], ◌∷◌, Option, Some, None, refl, sym, ◌∙◌, ap, subst, arith, suc}
use Rattle.std.specs.Prelude.{All, IfSome, option_map, unwrap_or}
use Rattle.std.specs.List.{AllByRecursion}
use Rattle.std.proofs.lemmas.Bool.{eq-eqb, ne_eqb}
use Rattle.std.proofs.lemmas.List.Elements.{All-from_recursion}
use Rattle.zr_bptr.specs.declared.Ptr.{Ptr}
use Rattle.zr_bptr.specs.declared.ObjRec.{ObjRec}
use Rattle.zr_bptr.specs.Spelling.{IsObject}
use Rattle.zr_tree.specs.Blocks.{FitsAt}
use Rattle.zr_txg.specs.Tables.{IsRisingFrom, value_at}
use Rattle.zr_txg.specs.Changes.{Changes, ObjectChange, object_in, changes_in, change_in, blocks_of}
use Rattle.zr_txg.proofs.Keyed.{by_key}
use Rattle.zr_lookup.specs.Groups.{IsBlockChange, IsObjectChange, IsChangeOf, IsLawfulGroup}
use Rattle.zr_bptr.specs.declared.Bptr.{Bptr}
use Rattle.zr_store.specs.Store.{Stored}
use Rattle.zr_tree.specs.Trees.{tree_at}
use Rattle.zr_lookup.specs.Objects.{block_in, pointer_now}
use Rattle.zr_lookup.specs.Lists.{IsBetween, overlaid}

-- the value of a key is one of those
pub each_value : {V : Type 0} (P : ℕ × V → Type 0) (k : ℕ) (v : V) (es : List (ℕ × V)) → AllByRecursion P es → value_at es k ≡ Some v → P (k, v)
each_value P k v [] each is = cc
each_value {V} P k v (e ∷ es) each is =
    by_key e.0 k
    (λ same. let first : Some e.1 ≡ Some v = rw (eq-eqb e.0 k same) at is in subst P (ap (λ (x : ℕ). (x, e.1)) same ∙ ap (λ (o : Option V). (k, unwrap_or o e.1)) first) each.0)
    (λ other. each_value P k v es each.1 (rw (ne_eqb e.0 k other) at is))

change_of : (o : Option ObjectChange) (r : Option ObjRec) → option_map (λ c. c.object) o ≡ Some r → (c : ObjectChange) × ((o ≡ Some c) × (c.object ≡ r))
change_of None r is = cc
change_of (Some c) r is = (c, (refl, (let first : Some c.object ≡ Some r = is in ap (λ (o : Option (Option ObjRec)). unwrap_or o r) first)))

-- a changed object is one
pub record_lawful : (g : Changes) (id : ℕ) (r : Option ObjRec) → IsLawfulGroup g → object_in g id ≡ Some r → IfSome r IsObject
record_lawful g id r lawful is =
    let c = change_of (value_at g.objects id) r is in
    let of = each_value IsChangeOf id c.0 g.objects lawful c.1.0 in
    subst (λ (x : Option ObjRec). IfSome x IsObject) c.1.1 of.change.object

changes_lawful : (id : ℕ) (o : Option ObjectChange) → ((c : ObjectChange) → o ≡ Some c → IsObjectChange c) → AllByRecursion IsBlockChange (blocks_of o)
changes_lawful id None each = tt
changes_lawful id (Some c) each = (each c refl).blocks

-- each changed block of an object may stand in a tree
pub blocks_lawful : (g : Changes) (id : ℕ) → IsLawfulGroup g → AllByRecursion IsBlockChange (changes_in g id)
blocks_lawful g id lawful = changes_lawful id (value_at g.objects id) (λ c is. (each_value IsChangeOf id c g.objects lawful is).change)

pub change_fits : (g : Changes) (id index : ℕ) (p : Ptr) → IsLawfulGroup g → change_in g id index ≡ Some p → FitsAt 0 p
change_fits g id index p lawful is = (each_value IsBlockChange index p (changes_in g id) (blocks_lawful g id lawful) is).leaf

-- so do its indices
sorted : (low : ℕ) (es : List (ℕ × Ptr)) → IsRisingFrom low es → AllByRecursion IsBlockChange es → low < 2 ^ 25 + 1 → IsBetween low (2 ^ 25) es
sorted low [] up each le = omega (arith, le)
sorted low (e ∷ es) up each le = (up.0, sorted (suc e.0) es up.1 each.1 (let lt = each.0.low in omega (arith, lt)))

pub changes_between : (g : Changes) (id : ℕ) (es : List (ℕ × Ptr)) → IsLawfulGroup g → es ≡ changes_in g id → IsRisingFrom 0 es → IsBetween 0 (2 ^ 25) es
changes_between g id es lawful is up = sorted 0 es up (subst (AllByRecursion IsBlockChange) (sym is) (blocks_lawful g id lawful)) (omega arith)

each_fits : (es : List (ℕ × Ptr)) → AllByRecursion IsBlockChange es → All (λ change. FitsAt 0 change.1) es
each_fits es each = All-from_recursion (λ (change : ℕ × Ptr). FitsAt 0 change.1) es (only_fits es each)
  where
    only_fits : (xs : List (ℕ × Ptr)) → AllByRecursion IsBlockChange xs → AllByRecursion (λ change. FitsAt 0 change.1) xs
    only_fits [] h = tt
    only_fits (x ∷ xs) h = (h.0.leaf, only_fits xs h.1)

pub changes_fit : (g : Changes) (id : ℕ) (es : List (ℕ × Ptr)) → IsLawfulGroup g → es ≡ changes_in g id → All (λ change. FitsAt 0 change.1) es
changes_fit g id es lawful is = each_fits es (subst (AllByRecursion IsBlockChange) (sym is) (blocks_lawful g id lawful))

-- a change counts more than the tree
overlaid_or : (o : Option Ptr) (p : Ptr) → overlaid o (block_in p) ≡ block_in (unwrap_or o p)
overlaid_or None p = refl
overlaid_or (Some q) p = refl

pub overlaid_pointer : (s : Stored) (g : Changes) (id : ℕ) (r : ObjRec) (index : ℕ) (changes : List (ℕ × Ptr)) (leaves : List (ℕ × Bptr)) → changes ≡ changes_in g id → value_at leaves index ≡ block_in (tree_at s r.tree index)
    → overlaid (value_at changes index) (value_at leaves index) ≡ block_in (pointer_now s g id r index)
overlaid_pointer s g id r index changes leaves changes_are leaf_is =
    ap (λ (es : List (ℕ × Ptr)). overlaid (value_at es index) (value_at leaves index)) changes_are ∙ ap (λ (o : Option Bptr). overlaid (change_in g id index) o) leaf_is ∙ overlaid_or (change_in g id index) (tree_at s r.tree index)
