-- What a group has changed, by look-ups and entry by entry.
use Rattle.std.proofs.Common.{◌≡◌, ◌≢◌, ◌∙◌, ◌+◌, ◌^◌, ◌<◌, ℕ, zero, suc, List, [], ◌∷◌, ◌++◌, length, take, get_or, Bool, true, false, eqb, Option, Some, None, refl, sym, ap, subst, arith, take-suc}
use Rattle.std.specs.Prelude.{All, IfSome, is_some, map, option_map, unwrap_or, not, ◌&&◌, if◌then◌else◌}
use Rattle.std.specs.List.{AllByRecursion}
use Rattle.std.proofs.lemmas.Bool.{eq-eqb, ne_eqb}
use Rattle.std.proofs.lemmas.List.{map-append}
use Rattle.std.proofs.lemmas.List.Sums.{sum_by-append, sum_by-cons}
use Rattle.std.proofs.lemmas.List.Elements.{All-head, All-tail, All-cons}
use Rattle.zr_bptr.specs.declared.Ptr.{Ptr}
use Rattle.zr_bptr.specs.declared.ObjRec.{ObjRec}
use Rattle.zr_bptr.specs.Spelling.{IsObject}
use Rattle.zr_tree.specs.Blocks.{FitsAt}
use Rattle.zr_tree.specs.Trees.{Rises}
use Rattle.zr_txg.specs.Tables.{IsRising, value_at}
use Rattle.zr_txg.specs.Changes.{Changes, ObjectChange, object_in, change_in, block_count, blocks_of}
use Rattle.zr_txg.proofs.Keyed.{by_key, value_at-at}
use Rattle.zr_lookup.specs.Groups.{IsBlockChange, IsObjectChange, IsChangeOf, IsLawfulGroup}
use Rattle.zr_change.specs.Changes.{changed_by, new_in, Records, RecordsBlocks}

-- ---- entry by entry

pub each_from : {V : Type 0} (P : V → Type 0) (xs : List V) → ((j : ℕ) (d : V) → j < length xs → P (get_or xs j d)) → AllByRecursion P xs
each_from P [] each = tt
each_from P (x ∷ xs) each = (each 0 x (omega arith), each_from P xs (λ j d lt. each (suc j) d (omega (arith, lt))))

-- the blocks of the entry at a place are those of its object
pub rising_at : (objects : List (ℕ × ObjectChange)) (j id : ℕ) (d : ℕ × ObjectChange) → IsRising objects → j < length objects → (get_or objects j d).0 ≡ id → IsRising (blocks_of (value_at objects id)) → IsRising (get_or objects j d).1.blocks
rising_at objects j id d up lt key rising =
    let e = get_or objects j d in
    let value : value_at objects id ≡ Some e.1 = ap (value_at objects) (sym key) ∙ value_at-at 0 j objects d up lt in
    subst (λ (o : Option ObjectChange). IsRising (blocks_of o)) value rising

each_value : {V : Type 0} (P : ℕ × V → Type 0) (k : ℕ) (v : V) (es : List (ℕ × V)) → AllByRecursion P es → value_at es k ≡ Some v → P (k, v)
each_value P k v [] each is = absurd cc
each_value {V} P k v (e ∷ es) each is =
    by_key e.0 k
    (λ same.
    let found : Some e.1 ≡ Some v = rw (eq-eqb e.0 k same) at is in
    let value : e.1 ≡ v = ap (λ (o : Option V). unwrap_or o v) found in
    subst (λ (x : ℕ). P (x, v)) same (subst (λ (y : V). P (e.0, y)) value each.0))
    (λ other. each_value P k v es each.1 (rw (ne_eqb e.0 k other) at is))

-- ---- lawful groups

-- what a look-up finds is lawful
pub record Finds (g : Changes) : Type 0 where
  pub objects : (id : ℕ) (r : Option ObjRec) → object_in g id ≡ Some r → (id < 65536) × IfSome r IsObject
  pub blocks : (id k : ℕ) (p : Ptr) → change_in g id k ≡ Some p → IsBlockChange (k, p)

value_of : (o : Option ObjectChange) (r : Option ObjRec) → option_map (λ c. c.object) o ≡ Some r → (c : ObjectChange) × (o ≡ Some c) × (c.object ≡ r)
value_of None r is = absurd cc
value_of (Some c) r is = (c, refl, let first : Some c.object ≡ Some r = is in ap (λ (o : Option (Option ObjRec)). unwrap_or o r) first)

block_of : (o : Option ObjectChange) (k : ℕ) (p : Ptr) → ((c : ObjectChange) → o ≡ Some c → IsObjectChange c) → value_at (blocks_of o) k ≡ Some p → IsBlockChange (k, p)
block_of None k p each is = absurd cc
block_of (Some c) k p each is = each_value IsBlockChange k p c.blocks (each c refl).blocks is

pub finds_of : (g : Changes) → IsLawfulGroup g → Finds g
finds_of g lawful = record {
  objects = λ id r is.
      let c = value_of (value_at g.objects id) r is in
      let of = each_value IsChangeOf id c.0 g.objects lawful c.1 in
      (of.id, subst (λ (x : Option ObjRec). IfSome x IsObject) c.2 of.change.object);
  blocks = λ id k p is. block_of (value_at g.objects id) k p (λ c found. (each_value IsChangeOf id c g.objects lawful found).change) is;
}

entry_blocks : (g : Changes) (e : ℕ × ObjectChange) → value_at g.objects e.0 ≡ Some e.1 → IsRising e.1.blocks → Finds g → AllByRecursion IsBlockChange e.1.blocks
entry_blocks g e value rising finds =
    each_from IsBlockChange e.1.blocks
    (λ j d lt.
    let x = get_or e.1.blocks j d in
    finds.blocks e.0 x.0 x.1 (ap (λ (o : Option ObjectChange). value_at (blocks_of o) x.0) value ∙ value_at-at 0 j e.1.blocks d rising lt))

entry_lawful : (g : Changes) (e : ℕ × ObjectChange) → value_at g.objects e.0 ≡ Some e.1 → IsRising e.1.blocks → Finds g → IsChangeOf e
entry_lawful g e value rising finds =
    let o = finds.objects e.0 e.1.object (ap (option_map (λ (c : ObjectChange). c.object)) value) in
    record { id = o.0; change = record { object = o.1; blocks = entry_blocks g e value rising finds } }

pub all_at : {V : Type 0} (P : V → Type 0) (xs : List V) (j : ℕ) (d : V) → AllByRecursion P xs → j < length xs → P (get_or xs j d)
all_at P [] j d all lt = absurd (omega (arith, lt))
all_at P (x ∷ xs) zero d all lt = all.0
all_at P (x ∷ xs) (suc j) d all lt = all_at P xs j d all.1 (omega (arith, lt))

-- a group whose lists rise is lawful if what it finds is
pub lawful_from : (g : Changes) → IsRising g.objects → AllByRecursion (λ e. IsRising e.1.blocks) g.objects → Finds g → IsLawfulGroup g
lawful_from g up each finds =
    each_from IsChangeOf g.objects
    (λ j d lt.
    let e = get_or g.objects j d in
    entry_lawful g e (value_at-at 0 j g.objects d up lt) (all_at (λ (x : ℕ × ObjectChange). IsRising x.1.blocks) g.objects j d each lt) finds)

-- ---- the changes of an object's blocks

pub changed_append : (xs ys : List (ℕ × Ptr)) (k : ℕ) (c : Option Ptr) → changed_by (xs ++ ys) k c ≡ changed_by ys k (changed_by xs k c)
changed_append [] ys k c = refl
changed_append (x ∷ xs) ys k c = changed_append xs ys k (if eqb x.0 k then Some x.1 else c)

changed_other : (xs : List (ℕ × Ptr)) (k : ℕ) (c : Option Ptr) → All (λ x. x.0 < k) xs → changed_by xs k c ≡ c
changed_other [] k c below = refl
changed_other (x ∷ xs) k c below =
    let lt : x.0 < k = All-head (λ (y : ℕ × Ptr). y.0 < k) x xs below in
    rw (ne_eqb x.0 k (omega (arith, lt))) (changed_other xs k c (All-tail (λ (y : ℕ × Ptr). y.0 < k) x xs below))

-- a change that is found is one of those, or was there
pub changed_is : (P : ℕ × Ptr → Type 0) (xs : List (ℕ × Ptr)) (k : ℕ) (c : Option Ptr) (p : Ptr) → All P xs → (c ≡ Some p → P (k, p)) → changed_by xs k c ≡ Some p → P (k, p)
changed_is P [] k c p all there is = there is
changed_is P (x ∷ xs) k c p all there is =
    changed_is P xs k (if eqb x.0 k then Some x.1 else c) p (All-tail P x xs all)
    (λ found.
    by_key x.0 k
    (λ same.
    let first : Some x.1 ≡ Some p = rw (eq-eqb x.0 k same) at found in
    let value : x.1 ≡ p = ap (λ (o : Option Ptr). unwrap_or o p) first in
    subst (λ (n : ℕ). P (n, p)) same (subst (λ (q : Ptr). P (x.0, q)) value (All-head P x xs all)))
    (λ other. there (rw (ne_eqb x.0 k other) at found)))
    is

rises_before : (xs : List (ℕ × Ptr)) (i : ℕ) (d : ℕ × Ptr) → Rises xs → i < length xs → All (λ x. x.0 < (get_or xs i d).0) (take i xs)
rises_before [] i d rises lt = absurd (omega (arith, lt))
rises_before (x ∷ xs) zero d rises lt = λ j e l. absurd (omega (arith, l))
rises_before (x ∷ xs) (suc i) d rises lt =
    All-cons (λ (y : ℕ × Ptr). y.0 < (get_or xs i d).0) x (take i xs)
    (all_at (λ (later : ℕ × Ptr). x.0 < later.0) xs i d rises.0 (omega (arith, lt)))
    (rises_before xs i d rises.1 (omega (arith, lt)))

-- ---- one change more

new_here : (g : Changes) (id : ℕ) (xs : List (ℕ × Ptr)) (x : ℕ × Ptr) → new_in g id (map (λ y. y.0) (xs ++ x ∷ [])) ≡ new_in g id (map (λ y. y.0) xs) + (if is_some (change_in g id x.0) then 0 else 1)
new_here g id xs x =
    let weight : ℕ → ℕ = λ (k : ℕ). if is_some (change_in g id k) then 0 else 1 in
    let key : ℕ × Ptr → ℕ = λ (y : ℕ × Ptr). y.0 in
    let parts = ap (new_in g id) (map-append key xs (x ∷ [])) in
    let sums = sum_by-append weight (map key xs) (x.0 ∷ []) in
    let last = sum_by-cons weight x.0 [] in
    omega (arith, parts, sums, last)

pub none_recorded : (id : ℕ) (g : Changes) → RecordsBlocks id [] g g
none_recorded id g = record {
  object = λ i. refl;
  blocks = λ i k. elim (eqb id i) as (λ (b : Bool). change_in g i k ≡ (if b then change_in g i k else change_in g i k)) [ true ↦ refl | false ↦ refl ];
  block_count = omega arith;
  object_count = refl;
  txg = refl;
}

module _ (id : ℕ) (xs : List (ℕ × Ptr)) (x : ℕ × Ptr) (g h n : Changes) (below : All (λ y. y.0 < x.0) xs) (so_far : RecordsBlocks id xs g h)
    (blocks : (i k : ℕ) → change_in n i k ≡ (if eqb id i && eqb x.0 k then Some x.1 else change_in h i k)) where
  here : (i k : ℕ) → id ≡ i → change_in n i k ≡ changed_by (xs ++ x ∷ []) k (change_in g i k)
  here i k same =
      let before : change_in h i k ≡ changed_by xs k (change_in g i k) = rw (eq-eqb id i same) at (so_far.blocks i k) in
      let now : change_in n i k ≡ (if eqb x.0 k then Some x.1 else change_in h i k) = rw (eq-eqb id i same) at (blocks i k) in
      now ∙ ap (λ (c : Option Ptr). if eqb x.0 k then Some x.1 else c) before ∙ sym (changed_append xs (x ∷ []) k (change_in g i k))

  there : (i k : ℕ) → id ≢ i → change_in n i k ≡ change_in g i k
  there i k other =
      let before : change_in h i k ≡ change_in g i k = rw (ne_eqb id i other) at (so_far.blocks i k) in
      let now : change_in n i k ≡ change_in h i k = rw (ne_eqb id i other) at (blocks i k) in
      now ∙ before

  pub blocks_more : (i k : ℕ) → change_in n i k ≡ (if eqb id i then changed_by (xs ++ x ∷ []) k (change_in g i k) else change_in g i k)
  blocks_more i k =
      by_key id i
      (λ same. rw (eq-eqb id i same) (here i k same))
      (λ other. rw (ne_eqb id i other) (there i k other))

  pub count_more : block_count n.objects ≡ block_count h.objects + (if is_some (change_in h id x.0) then 0 else 1) → block_count n.objects ≡ block_count g.objects + new_in g id (map (λ y. y.0) (xs ++ x ∷ []))
  count_more counted =
      let before : change_in h id x.0 ≡ changed_by xs x.0 (change_in g id x.0) = rw (eq-eqb id id refl) at (so_far.blocks id x.0) in
      let was = before ∙ changed_other xs x.0 (change_in g id x.0) below in
      let weight : Option Ptr → ℕ = λ (c : Option Ptr). if is_some c then 0 else 1 in
      let same : weight (change_in h id x.0) ≡ weight (change_in g id x.0) = ap weight was in
      omega (arith, counted, same, so_far.block_count, new_here g id xs x)

-- the next change of a list
pub next_recorded : (id : ℕ) (cs : List (ℕ × Ptr)) (i : ℕ) (d : ℕ × Ptr) (g h n : Changes) → i < length cs → Rises cs → RecordsBlocks id (take i cs) g h
    → ((j : ℕ) → object_in n j ≡ object_in h j) → ((j k : ℕ) → change_in n j k ≡ (if eqb id j && eqb (get_or cs i d).0 k then Some (get_or cs i d).1 else change_in h j k))
    → block_count n.objects ≡ block_count h.objects + (if is_some (change_in h id (get_or cs i d).0) then 0 else 1) → length n.objects ≡ length h.objects → n.txg ≡ h.txg → RecordsBlocks id (take (i + 1) cs) g n
next_recorded id cs i d g h n lt rises so_far object blocks counted objects txg =
    let x = get_or cs i d in
    let up : i + 1 ≡ suc i = omega arith in
    let parts : take (i + 1) cs ≡ take i cs ++ x ∷ [] = ap (λ (k : ℕ). take k cs) up ∙ take-suc cs i d lt in
    let below = rises_before cs i d rises lt in
    subst (λ (xs : List (ℕ × Ptr)). RecordsBlocks id xs g n) (sym parts)
    (record {
      object = λ j. object j ∙ so_far.object j;
      blocks = blocks_more id (take i cs) x g h n below so_far blocks;
      block_count = count_more id (take i cs) x g h n below so_far blocks counted;
      object_count = objects ∙ so_far.object_count;
      txg = txg ∙ so_far.txg;
    })

-- ---- a whole change

pub recorded_then : (id : ℕ) (r : ObjRec) (cs : List (ℕ × Ptr)) (g h n : Changes) → Records id r [] g h → RecordsBlocks id cs h n → Records id r cs g n
recorded_then id r cs g h n first more =
    let known : (k : ℕ) → change_in h id k ≡ change_in g id k = λ k. (rw (eq-eqb id id refl) at (first.blocks id k)) in
    record {
      object = λ i. more.object i ∙ first.object i;
      blocks = λ i k.
          by_key id i
          (λ same.
          let later : change_in n i k ≡ changed_by cs k (change_in h i k) = rw (eq-eqb id i same) at (more.blocks i k) in
          let before : change_in h i k ≡ change_in g i k = rw (eq-eqb id i same) at (first.blocks i k) in
          rw (eq-eqb id i same) (later ∙ ap (changed_by cs k) before))
          (λ other.
          let later : change_in n i k ≡ change_in h i k = rw (ne_eqb id i other) at (more.blocks i k) in
          let before : change_in h i k ≡ change_in g i k = rw (ne_eqb id i other) at (first.blocks i k) in
          rw (ne_eqb id i other) (later ∙ before));
      block_count =
          let same = new_same h g id known (map (λ (x : ℕ × Ptr). x.0) cs) in
          let one = more.block_count in
          let two = first.block_count in
          omega (arith, same, one, two);
      object_count = more.object_count ∙ first.object_count;
      txg = more.txg ∙ first.txg;
    }
  where
    new_same : (h g : Changes) (id : ℕ) → ((k : ℕ) → change_in h id k ≡ change_in g id k) → (ks : List ℕ) → new_in h id ks ≡ new_in g id ks
    new_same h g id same [] = refl
    new_same h g id same (k ∷ ks) =
        let weight : Changes → ℕ → ℕ = λ (c : Changes) (x : ℕ). if is_some (change_in c id x) then 0 else 1 in
        let one : weight h k ≡ weight g k = ap (λ (o : Option Ptr). if is_some o then 0 else 1) (same k) in
        let rest = new_same h g id same ks in
        omega (arith, one, rest, sum_by-cons (weight h) k ks, sum_by-cons (weight g) k ks)

pub still_lawful : (id : ℕ) (r : ObjRec) (cs : List (ℕ × Ptr)) (g n : Changes) → id < 65536 → IsObject r → All IsBlockChange cs → Records id r cs g n → Finds g → Finds n
still_lawful id r cs g n low object lawful records finds = record {
  objects = λ i x is.
      by_key id i
      (λ same.
      let found : Some (Some r) ≡ Some x = sym (rw (eq-eqb id i same) at (records.object i)) ∙ is in
      let value : Some r ≡ x = ap (λ (o : Option (Option ObjRec)). unwrap_or o x) found in
      (omega (arith, low, same), subst (λ (y : Option ObjRec). IfSome y IsObject) value object))
      (λ other. finds.objects i x (sym (rw (ne_eqb id i other) at (records.object i)) ∙ is));
  blocks = λ i k p is.
      by_key id i
      (λ same.
      let now : change_in n i k ≡ changed_by cs k (change_in g i k) = rw (eq-eqb id i same) at (records.blocks i k) in
      changed_is IsBlockChange cs k (change_in g i k) p lawful (λ was. finds.blocks i k p was) (sym now ∙ is))
      (λ other.
      let now : change_in n i k ≡ change_in g i k = rw (ne_eqb id i other) at (records.blocks i k) in
      finds.blocks i k p (sym now ∙ is));
}

pub lawful_changes : (cs : List (ℕ × Ptr)) → All (λ change. change.0 < 2 ^ 25) cs → All (λ change. FitsAt 0 change.1) cs → All IsBlockChange cs
lawful_changes cs low fits = λ j d lt. record { low = low j d lt; leaf = fits j d lt }

-- ---- a record alone

chosen : (b : Bool) (c : Option Ptr) (p : Ptr) → (if b then None else c) ≡ Some p → c ≡ Some p
chosen true c p is = absurd cc
chosen false c p is = is

pub set_lawful : (id : ℕ) (r : Option ObjRec) (g n : Changes) → id < 65536 → IfSome r IsObject → ((i : ℕ) → object_in n i ≡ (if eqb id i then Some r else object_in g i)) → ((i k : ℕ) → change_in n i k ≡ (if eqb id i && not (is_some r) then None else change_in g i k))
    → Finds g → Finds n
set_lawful id r g n low object objects blocks finds = record {
  objects = λ i x is.
      by_key id i
      (λ same.
      let found : Some r ≡ Some x = sym (rw (eq-eqb id i same) at (objects i)) ∙ is in
      let value : r ≡ x = ap (λ (o : Option (Option ObjRec)). unwrap_or o x) found in
      (omega (arith, low, same), subst (λ (y : Option ObjRec). IfSome y IsObject) value object))
      (λ other. finds.objects i x (sym (rw (ne_eqb id i other) at (objects i)) ∙ is));
  blocks = λ i k p is. finds.blocks i k p (chosen (eqb id i && not (is_some r)) (change_in g i k) p (sym (blocks i k) ∙ is));
}

-- a list in which nothing is found is empty
pub nothing_at : (es : List (ℕ × Ptr)) → ((k : ℕ) → value_at es k ≡ None) → es ≡ []
nothing_at [] none = refl
nothing_at (e ∷ es) none =
    let there : value_at (e ∷ es) e.0 ≡ Some e.1 = rw (eq-eqb e.0 e.0 refl) refl in
    let missing = none e.0 in
    absurd cc
