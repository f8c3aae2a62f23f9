-- The changes of a plan: their indices, and what a group finds of them.
use Rattle.std.proofs.Common.{◌≡◌, ◌≢◌, ◌∙◌, ◌+◌, ◌<◌, ◌≤◌, ℕ, zero, suc, List, [], ◌∷◌, ◌++◌, length, map, drop, get_or, eqb, Option, Some, refl, sym, ap, subst, arith}
use Rattle.std.specs.Prelude.{All, unwrap_or, if◌then◌else◌}
use Rattle.std.specs.List.{sum_by, AllByRecursion, AllZip, range_with_len}
use Rattle.std.proofs.lemmas.Bool.{eq-eqb, ne_eqb}
use Rattle.std.proofs.lemmas.List.Elements.{All-head, All-tail}
use Rattle.std.proofs.lemmas.List.Sums.{sum_by-append}
use Rattle.zr_bptr.specs.declared.Bptr.{Bptr}
use Rattle.zr_bptr.specs.declared.Ptr.{Ptr}
use Rattle.zr_bptr.specs.declared.Ptr.TheVariants.{Hole}
use Rattle.zr_bptr.specs.declared.ObjRec.{ObjRec}
use Rattle.zr_store.specs.Store.{Stored, Swaps, AreStored, IsOnce, one_at}
use Rattle.zr_tree.specs.Trees.{Rises, own, tree_at, tree_blocks}
use Rattle.zr_tree.proofs.Others.{keeps}
use Rattle.zr_objset.specs.Records.{bytes_of}
use Rattle.zr_txg.specs.Changes.{Changes, change_in}
use Rattle.zr_txg.proofs.Keyed.{by_key}
use Rattle.zr_lookup.specs.Objects.{pointer_now, block_now}
use Rattle.zr_change.specs.declared.ranges.Edit.{Edit}
use Rattle.zr_change.specs.declared.plans.Planned.{Planned}
use Rattle.zr_change.specs.Edits.{IsEdited, IsInRow}
use Rattle.zr_change.specs.Changes.{changed_by, new_in, Records}
use Rattle.zr_change.specs.Plans.{IsChangeFor, AreChangesFor, bytes_of_new, leaves_of, olds_of, IsPlannedFor, PutsPlan, IsChanged}
use Rattle.zr_change.proofs.Grouping.{all_at}
use Rattle.zr_change.proofs.Putting.{bytes_same, bytes_kept}

-- ---- indices

same_indices : (plan : List Planned) (cs : List (ℕ × Ptr)) → AreChangesFor plan cs → map (λ c. c.0) cs ≡ map (λ p. p.index) plan
same_indices [] [] are = refl
same_indices [] (c ∷ cs) are = absurd are
same_indices (p ∷ plan) [] are = absurd are
same_indices (p ∷ plan) (c ∷ cs) are = ap (λ (k : ℕ). k ∷ map (λ (x : ℕ × Ptr). x.0) cs) are.0.index ∙ ap (λ (ks : List ℕ). p.index ∷ ks) (same_indices plan cs are.1)

row_of : (plan : List Planned) (cs : List (ℕ × Ptr)) (first n : ℕ) → AreChangesFor plan cs → map (λ p. p.index) plan ≡ range_with_len first n → map (λ c. c.0) cs ≡ range_with_len first n
row_of plan cs first n are row = same_indices plan cs are ∙ row

row_head : (c : ℕ × Ptr) (cs : List (ℕ × Ptr)) (first n : ℕ) → map (λ x. x.0) (c ∷ cs) ≡ range_with_len first (suc n) → c.0 ≡ first
row_head c cs first n row = ap (λ (ks : List ℕ). get_or ks 0 0) row

row_tail : (c : ℕ × Ptr) (cs : List (ℕ × Ptr)) (first n : ℕ) → map (λ x. x.0) (c ∷ cs) ≡ range_with_len first (suc n) → map (λ x. x.0) cs ≡ range_with_len (first + 1) n
row_tail c cs first n row = ap (λ (ks : List ℕ). drop 1 ks) row

row_some : (c : ℕ × Ptr) (cs : List (ℕ × Ptr)) (first : ℕ) → map (λ x. x.0) (c ∷ cs) ≡ range_with_len first 0 → ⊥
row_some c cs first row = let long = ap (λ (ks : List ℕ). length ks) row in omega (arith, long)

above_in_row : (x : ℕ) (cs : List (ℕ × Ptr)) (first n : ℕ) → x < first → map (λ c. c.0) cs ≡ range_with_len first n → AllByRecursion (λ later. x < later.0) cs
above_in_row x [] first n lt row = tt
above_in_row x (c ∷ cs) first zero lt row = absurd (row_some c cs first row)
above_in_row x (c ∷ cs) first (suc n) lt row = (let h = row_head c cs first n row in omega (arith, h, lt), above_in_row x cs (first + 1) n (omega (arith, lt)) (row_tail c cs first n row))

rises_in_row : (cs : List (ℕ × Ptr)) (first n : ℕ) → map (λ c. c.0) cs ≡ range_with_len first n → Rises cs
rises_in_row [] first n row = tt
rises_in_row (c ∷ cs) first zero row = absurd (row_some c cs first row)
rises_in_row (c ∷ cs) first (suc n) row = (
  above_in_row c.0 cs (first + 1) n (let h = row_head c cs first n row in omega (arith, h)) (row_tail c cs first n row),
  rises_in_row cs (first + 1) n (row_tail c cs first n row),
)

low_in_row : (top : ℕ) (cs : List (ℕ × Ptr)) (first n : ℕ) → first + n ≤ top → map (λ c. c.0) cs ≡ range_with_len first n → AllByRecursion (λ c. c.0 < top) cs
low_in_row top [] first n le row = tt
low_in_row top (c ∷ cs) first zero le row = absurd (row_some c cs first row)
low_in_row top (c ∷ cs) first (suc n) le row = (let h = row_head c cs first n row in omega (arith, h, le), low_in_row top cs (first + 1) n (omega (arith, le)) (row_tail c cs first n row))

pub rises_of : (plan : List Planned) (cs : List (ℕ × Ptr)) → AreChangesFor plan cs → IsInRow (map (λ p. p.index) plan) → Rises cs
rises_of plan cs are row = rises_in_row cs row.first row.count (row_of plan cs row.first row.count are row.row)

pub low_of : (top : ℕ) (plan : List Planned) (cs : List (ℕ × Ptr)) → AreChangesFor plan cs → (row : IsInRow (map (λ p. p.index) plan)) → row.first + row.count ≤ top → All (λ c. c.0 < top) cs
low_of top plan cs are row le = λ j d lt. all_at (λ (c : ℕ × Ptr). c.0 < top) cs j d (low_in_row top cs row.first row.count le (row_of plan cs row.first row.count are row.row)) lt

-- ---- what is found of them

later_changes : (cs : List (ℕ × Ptr)) (k : ℕ) (c : Option Ptr) → AllByRecursion (λ later. k < later.0) cs → changed_by cs k c ≡ c
later_changes [] k c above = refl
later_changes (x ∷ cs) k c above =
    let lt : k < x.0 = above.0 in
    rw (ne_eqb x.0 k (λ e. omega (arith, e, lt))) (later_changes cs k c above.1)

changed_at : (cs : List (ℕ × Ptr)) (i : ℕ) (d : ℕ × Ptr) (c : Option Ptr) → Rises cs → i < length cs → changed_by cs (get_or cs i d).0 c ≡ Some (get_or cs i d).1
changed_at [] i d c rises lt = absurd (omega (arith, lt))
changed_at (x ∷ cs) zero d c rises lt = rw (eq-eqb x.0 x.0 refl) (later_changes cs x.0 (Some x.1) rises.0)
changed_at (x ∷ cs) (suc i) d c rises lt = changed_at cs i d (if eqb x.0 (get_or cs i d).0 then Some x.1 else c) rises.1 (omega (arith, lt))

zip_at : {A B : Type 0} (R : A → B → Type 0) (xs : List A) (ys : List B) (i : ℕ) (d : A) (e : B) → AllZip R xs ys → i < length xs → (i < length ys) × R (get_or xs i d) (get_or ys i e)
zip_at R [] ys i d e all lt = absurd (omega (arith, lt))
zip_at R (x ∷ xs) [] i d e all lt = absurd all
zip_at R (x ∷ xs) (y ∷ ys) zero d e all lt = (omega arith, all.0)
zip_at R (x ∷ xs) (y ∷ ys) (suc i) d e all lt = let rest = zip_at R xs ys i d e all.1 (omega (arith, lt)) in (omega (arith, rest.0), rest.1)

module _ (id : ℕ) (r : ObjRec) (plan : List Planned) (cs : List (ℕ × Ptr)) (s n m : Stored) (g h : Changes) (are : AreChangesFor plan cs) (row : IsInRow (map (λ p. p.index) plan)) (records : Records id r cs g h) (put : PutsPlan r.units plan cs s n)
    (held : AreStored (olds_of plan) s) (once : IsOnce n) (free : Swaps n m (olds_of plan) []) where
  found : (i : ℕ) (d : ℕ × Ptr) → i < length cs → change_in h id (get_or cs i d).0 ≡ Some (get_or cs i d).1
  found i d lt =
      let k = (get_or cs i d).0 in
      let now : change_in h id k ≡ changed_by cs k (change_in g id k) = rw (eq-eqb id id refl) at (records.blocks id k) in
      now ∙ changed_at cs i d (change_in g id k) (rises_of plan cs are row) lt

  swapped : Swaps s m (olds_of plan) (leaves_of cs)
  swapped = record {
    stored = λ weight. let a = put.swaps.stored weight in let b = free.stored weight in omega (arith, a, b);
    kept = λ b out stored. let a = put.swaps.stored (one_at b.at) in free.kept b out (omega (arith, a, stored)) ∙ put.swaps.kept b refl stored;
  }

  new_bytes : AllZip (λ p change. bytes_of m r.units change.1 ≡ bytes_of_new r.units p.new) plan cs
  new_bytes =
      bytes_kept r.units n m plan cs
      (λ b hit.
      let a = put.swaps.stored (one_at b.at) in
      let o = once b.at in
      let w = held (one_at b.at) in
      free.kept b (omega (arith, a, o, w, hit)) (omega (arith, a, hit)))
      put.bytes

  blocks : All (λ p. block_now m h id r p.index ≡ bytes_of_new r.units p.new) plan
  blocks = λ i d lt.
      let e : ℕ × Ptr = (0, Hole) in
      let p = get_or plan i d in
      let c = get_or cs i e in
      let one = zip_at IsChangeFor plan cs i d e are lt in
      let new = zip_at (λ (q : Planned) (x : ℕ × Ptr). bytes_of m r.units x.1 ≡ bytes_of_new r.units q.new) plan cs i d e new_bytes lt in
      let at : change_in h id p.index ≡ Some c.1 = ap (change_in h id) (sym one.1.index) ∙ found i e one.0 in
      ap (λ (o : Option Ptr). bytes_of m r.units (unwrap_or o (tree_at m r.tree p.index))) at ∙ new.1

  pub is_changed : IsChanged id r plan s g m h
  is_changed = record { recorded = record { changes = cs; are_changes = are; records = records }; swaps = swapped; blocks = blocks }

-- ---- laws of a change

-- each planned block is the one before with the edit
pub edited_blocks : (id : ℕ) (r : ObjRec) (e : Edit) (plan : List Planned) (s : Stored) (g : Changes) (n : Stored) (h : Changes) → All (IsPlannedFor s g id r e) plan → IsChanged id r plan s g n h
    → All (λ p. IsEdited e r.units p.index (block_now s g id r p.index) (block_now n h id r p.index)) plan
edited_blocks id r e plan s g n h planned changed = λ i d lt.
    let p = get_or plan i d in
    let one = planned i d lt in
    let old : bytes_of s r.units p.old ≡ block_now s g id r p.index = ap (bytes_of s r.units) one.old in
    let new = changed.blocks i d lt in
    subst (λ (xs : List ℕ). IsEdited e r.units p.index xs (block_now n h id r p.index)) old (subst (IsEdited e r.units p.index (bytes_of s r.units p.old)) (sym new) one.bytes)

unplanned : (plan : List Planned) (cs : List (ℕ × Ptr)) (k : ℕ) (c : Option Ptr) → AreChangesFor plan cs → All (λ p. p.index ≢ k) plan → changed_by cs k c ≡ c
unplanned [] [] k c are other = refl
unplanned [] (x ∷ cs) k c are other = absurd are
unplanned (p ∷ plan) [] k c are other = absurd are
unplanned (p ∷ plan) (x ∷ cs) k c are other =
    let here : p.index ≢ k = All-head (λ (q : Planned). q.index ≢ k) p plan other in
    let same : x.0 ≡ p.index = are.0.index in
    rw (ne_eqb x.0 k (λ e. here (sym same ∙ e))) (unplanned plan cs k c are.1 (All-tail (λ (q : Planned). q.index ≢ k) p plan other))

-- a block that is not planned is as before
module _ (id : ℕ) (r : ObjRec) (plan : List Planned) (s : Stored) (g : Changes) (n : Stored) (h : Changes) (changed : IsChanged id r plan s g n h) (once : IsOnce s) (i k : ℕ) (o : ObjRec) (other : i ≡ id → All (λ p. p.index ≢ k) plan)
    (held : AreStored (olds_of plan ++ (tree_blocks s o.tree ++ own (pointer_now s g i o k))) s) where
  same_change : change_in h i k ≡ change_in g i k
  same_change =
      by_key id i
      (λ same.
      let now : change_in h i k ≡ changed_by changed.recorded.changes k (change_in g i k) = rw (eq-eqb id i same) at (changed.recorded.records.blocks i k) in
      now ∙ unplanned plan changed.recorded.changes k (change_in g i k) changed.recorded.are_changes (other (sym same)))
      (λ differs. (rw (ne_eqb id i differs) at (changed.recorded.records.blocks i k)))

  parts : (weight : Bptr → ℕ) → sum_by weight (olds_of plan) + sum_by weight (tree_blocks s o.tree) + sum_by weight (own (pointer_now s g i o k)) ≤ sum_by weight s.pointers
  parts weight =
      let w = held weight in
      omega (arith, w, sum_by-append weight (olds_of plan) (tree_blocks s o.tree ++ own (pointer_now s g i o k)), sum_by-append weight (tree_blocks s o.tree) (own (pointer_now s g i o k)))

  same_tree : tree_at n o.tree k ≡ tree_at s o.tree k
  same_tree = (keeps s n o.tree (λ b hit. let w = parts (one_at b.at) in let u = once b.at in changed.swaps.kept b (omega (arith, w, u, hit)) (omega (arith, w, hit)))).leaves k

  same_pointer : pointer_now n h i o k ≡ pointer_now s g i o k
  same_pointer = ap (λ (c : Option Ptr). unwrap_or c (tree_at n o.tree k)) same_change ∙ ap (unwrap_or (change_in g i k)) same_tree

  pub same_block : block_now n h i o k ≡ block_now s g i o k
  same_block =
      ap (bytes_of n o.units) same_pointer
      ∙ bytes_same o.units s n (pointer_now s g i o k) (λ b hit. let w = parts (one_at b.at) in let u = once b.at in changed.swaps.kept b (omega (arith, w, u, hit)) (omega (arith, w, hit)))

-- how many blocks more are changed
pub count_planned : (id : ℕ) (plan : List Planned) (cs : List (ℕ × Ptr)) (g : Changes) → AreChangesFor plan cs → new_in g id (map (λ x. x.0) cs) ≡ new_in g id (map (λ p. p.index) plan)
count_planned id plan cs g are = ap (new_in g id) (same_indices plan cs are)
