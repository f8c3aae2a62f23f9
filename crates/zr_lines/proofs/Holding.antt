-- What the disks hold behind one step and another, and once a store on them ends.
use Rattle.std.proofs.Common.{◌≡◌, ◌∙◌, ◌⊎◌, inl, inr, ◌<◌, ◌≤◌, ℕ, zero, suc, Bool, true, false, List, [], ◌∷◌, length, get_or, eqb, Option, Some, refl, sym, ap, arith}
use Rattle.std.specs.Prelude.{unwrap_or, if◌then◌else◌}
use Rattle.std.specs.List.{sum_by}
use Rattle.std.proofs.lemmas.Bool.{eq-eqb}
use Rattle.std.proofs.lemmas.List.Sums.{sum_by-append}
use Rattle.zr_bptr.specs.declared.Bptr.{Bptr}
use Rattle.zr_bptr.specs.declared.ObjRec.{ObjRec}
use Rattle.zr_bptr.specs.declared.Ptr.{Ptr}
use Rattle.zr_change.proofs.Putting.{bytes_same}
use Rattle.zr_change.specs.Changes.{changed_by}
use Rattle.zr_change.specs.Plans.{AreChangesFor, IsChanged, leaves_of, olds_of}
use Rattle.zr_change.specs.declared.plans.Planned.{Planned}
use Rattle.zr_objset.specs.Records.{bytes_of}
use Rattle.zr_store.specs.Store.{AreStored, Stored, Swaps, Now, one_at}
use Rattle.zr_tree.specs.Trees.{own, tree_at}
use Rattle.zr_txg.specs.Changes.{Changes, change_in}

-- the same pointers are stored behind both
pub same_behind : (s m n : Stored) → Swaps s m [] [] → Swaps m n [] [] → Swaps s n [] []
same_behind s m n first later = record {
  stored = λ weight. let p = first.stored weight in let q = later.stored weight in omega (arith, p, q);
  kept = λ b free had. let p = first.stored (one_at b.at) in later.kept b refl (omega (arith, p, had)) ∙ first.kept b free had;
}

-- what is held behind both
pub now_behind : {had has : Stored → Type 0} (s : Stored) → Now had (λ m. Swaps s m [] []) → ((m : Stored) → had m → Now has (λ n. Swaps m n [] [])) → Now has (λ n. Swaps s n [] [])
now_behind s first goes =
    let later = goes first.stored first.held in
    record { stored = later.stored; held = later.held; is = same_behind s first.stored later.stored first.is later.is }

-- ---- what was changed is so while the same pointers are stored

-- the change is the one before, or one of these
change_cases : (cs : List (ℕ × Ptr)) (k : ℕ) (c : Option Ptr) → (changed_by cs k c ≡ c) ⊎ ((p : Ptr) × (changed_by cs k c ≡ Some p) × ((weight : Bptr → ℕ) → sum_by weight (own p) ≤ sum_by weight (leaves_of cs)))
change_cases [] k c = inl refl
change_cases (x ∷ cs) k c =
    (elim (eqb x.0 k) as (λ (b : Bool). eqb x.0 k ≡ b → (changed_by (x ∷ cs) k c ≡ c) ⊎ ((p : Ptr) × (changed_by (x ∷ cs) k c ≡ Some p) × ((weight : Bptr → ℕ) → sum_by weight (own p) ≤ sum_by weight (leaves_of (x ∷ cs))))) [
      | true ↦ λ is. elim (change_cases cs k (if eqb x.0 k then Some x.1 else c)) [
        | inl same ↦ inr (x.1, same ∙ ap (λ (b : Bool). if b then Some x.1 else c) is, λ weight. omega (arith, sum_by-append weight (own x.1) (leaves_of cs)))
        | inr p ↦ inr (p.0, p.1, λ weight. let le = p.2 weight in omega (arith, le, sum_by-append weight (own x.1) (leaves_of cs)))
      ]
      | false ↦ λ is. elim (change_cases cs k (if eqb x.0 k then Some x.1 else c)) [
        | inl same ↦ inl (same ∙ ap (λ (b : Bool). if b then Some x.1 else c) is)
        | inr p ↦ inr (p.0, p.1, λ weight. let le = p.2 weight in omega (arith, le, sum_by-append weight (own x.1) (leaves_of cs)))
      ]
    ]) refl

-- a planned block has one of the new pointers
planned_at : (plan : List Planned) (cs : List (ℕ × Ptr)) (i : ℕ) (d : Planned) (c : Option Ptr) → AreChangesFor plan cs → i < length plan
    → (p : Ptr) × (changed_by cs (get_or plan i d).index c ≡ Some p) × ((weight : Bptr → ℕ) → sum_by weight (own p) ≤ sum_by weight (leaves_of cs))
planned_at [] cs i d c are lt = absurd (omega (arith, lt))
planned_at (q ∷ plan) [] i d c are lt = absurd are
planned_at (q ∷ plan) (x ∷ cs) zero d c are lt = elim (change_cases cs q.index (if eqb x.0 q.index then Some x.1 else c)) [
  | inl same ↦ (x.1, same ∙ ap (λ (b : Bool). if b then Some x.1 else c) (eq-eqb x.0 q.index are.0.index), λ weight. omega (arith, sum_by-append weight (own x.1) (leaves_of cs)))
  | inr p ↦ (p.0, p.1, λ weight. let le = p.2 weight in omega (arith, le, sum_by-append weight (own x.1) (leaves_of cs)))
]
planned_at (q ∷ plan) (x ∷ cs) (suc i) d c are lt =
    let p = planned_at plan cs i d (if eqb x.0 (get_or plan i d).index then Some x.1 else c) are.1 (omega (arith, lt)) in
    (p.0, p.1, λ weight. let le = p.2 weight in omega (arith, le, sum_by-append weight (own x.1) (leaves_of cs)))

pub changed_still : (id : ℕ) (r : ObjRec) (plan : List Planned) (s : Stored) (g : Changes) (m : Stored) (h : Changes) (n : Stored) → AreStored (olds_of plan) s → IsChanged id r plan s g m h → Swaps m n [] [] → IsChanged id r plan s g n h
changed_still id r plan s g m h n held changed same = record {
  recorded = changed.recorded;
  swaps = record {
    stored = λ weight. let p = changed.swaps.stored weight in let q = same.stored weight in omega (arith, p, q);
    kept = λ b out had. let p = changed.swaps.stored (one_at b.at) in same.kept b refl (omega (arith, p, out, had)) ∙ changed.swaps.kept b out had;
  };
  blocks = λ i d lt.
      let k = (get_or plan i d).index in
      let cs = changed.recorded.changes in
      let one = planned_at plan cs i d (change_in g id k) changed.recorded.are_changes lt in
      let now : change_in h id k ≡ changed_by cs k (change_in g id k) = rw (eq-eqb id id refl) at (changed.recorded.records.blocks id k) in
      let at : change_in h id k ≡ Some one.0 = now ∙ one.1 in
      let bytes : bytes_of n r.units one.0 ≡ bytes_of m r.units one.0 = bytes_same r.units m n one.0 (λ b hit.
      let p = changed.swaps.stored (one_at b.at) in
      let le = one.2 (one_at b.at) in
      let was = held (one_at b.at) in
      same.kept b refl (omega (arith, p, le, was, hit))) in
      ap (λ (o : Option Ptr). bytes_of n r.units (unwrap_or o (tree_at n r.tree k))) at
      ∙ (bytes ∙ (sym (ap (λ (o : Option Ptr). bytes_of m r.units (unwrap_or o (tree_at m r.tree k))) at) ∙ changed.blocks i d lt));
}
