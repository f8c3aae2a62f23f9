-- A pool without objects.
use Rattle.std.proofs.Common.{◌≡◌, ◌∙◌, ◌≤◌, ◌/◌, ◌%◌, ℕ, zero, suc, List, [], ◌++◌, Bool, true, false, Option, None, refl, sym, ap, subst, arith, nat_lt}
use Rattle.std.specs.Prelude.{unwrap_or, option_map, if◌then◌else◌}
use Rattle.std.specs.List.{sum_by}
use Rattle.std.specs.FinMap as fin
use Rattle.std.specs.Ordering.{nat_cmp}
use Rattle.std.proofs.lemmas.List.Sums.{sum_by-append}
use Rattle.zr_bptr.specs.declared.Bptr.{Bptr}
use Rattle.zr_bptr.specs.declared.Ptr.{Ptr}
use Rattle.zr_bptr.specs.declared.Ptr.TheVariants.{Hole}
use Rattle.zr_bptr.specs.declared.ObjRec.{ObjRec}
use Rattle.zr_bptr.specs.declared.Tree.{Tree}
use Rattle.zr_store.specs.Store.{Stored, AreStored, IsOnce}
use Rattle.zr_tree.specs.Trees.{tree_reach}
use Rattle.zr_objset.specs.Records.{record_in, record_of}
use Rattle.zr_txg.specs.Tables.{value_at}
use Rattle.zr_txg.specs.Changes.{ObjectChange, blocks_of}
use Rattle.zr_lookup.specs.Objects.{record_now}
use Rattle.zr_model.specs.Objects.{Object}
use Rattle.zr_moves.specs.Account.{Account, IsObjectAt}
use Rattle.zr_held.specs.Held.{AreBlocksNow, blocks_below, HasObjects}
use Rattle.zr_held.specs.Steps.{no_tree}

module _ (s : Stored) (a : Account) (dir : a.dir ≡ no_tree) (group : a.changes.objects ≡ []) (none : s.pointers ≡ []) (once : IsOnce s) where
  hole_at : (y : Bool) → (if y then Hole else Hole) ≡ Hole
  hole_at true = refl
  hole_at false = refl

  no_record : (id : ℕ) → record_of s a.dir id ≡ None
  no_record id = ap (λ (t : Tree). record_of s t id) dir ∙ ap (λ (p : Ptr). record_in s p (id % 16)) (hole_at (nat_lt (id / 16) 1))

  none_now : (id : ℕ) → record_now s a.dir a.changes id ≡ None
  none_now id =
      ap (λ (xs : List (ℕ × ObjectChange)). if nat_lt id 65536 then unwrap_or (option_map (λ (c : ObjectChange). c.object) (value_at xs id)) (record_of s a.dir id) else None) group
      ∙ neither (nat_lt id 65536) (record_of s a.dir id) (no_record id)
    where
      neither : (y : Bool) (x : Option ObjRec) → x ≡ None → (if y then x else None) ≡ None
      neither true x is = is
      neither false x is = refl

  none_blocks : (id : ℕ) → AreBlocksNow s a.changes id (record_now s a.dir a.changes id) []
  none_blocks id = subst (λ (x : Option ObjRec). AreBlocksNow s a.changes id x []) (sym (none_now id)) (refl, λ i. ap (λ (xs : List (ℕ × ObjectChange)). value_at (blocks_of (value_at xs id)) i) group)

  nothing_below : (weight : Bptr → ℕ) (n : ℕ) → sum_by weight (blocks_below (λ (_ : ℕ). []) n) ≡ 0
  nothing_below weight zero = refl
  nothing_below weight (suc n) = let rest = nothing_below weight n in omega (arith, rest, sum_by-append weight (blocks_below (λ (_ : ℕ). []) n) [])

  nothing_stored : (n : ℕ) → AreStored (tree_reach s a.dir ++ blocks_below (λ (_ : ℕ). []) n) s
  nothing_stored n weight =
      let reach = ap (λ (t : Tree). sum_by weight (tree_reach s t)) dir in
      let rest = nothing_below weight n in
      omega (arith, reach, rest, sum_by-append weight (tree_reach s a.dir) (blocks_below (λ (_ : ℕ). []) n))

  no_others : (weight : Bptr → ℕ) (n : ℕ) → sum_by weight s.pointers ≤ n
  no_others weight n = let e = ap (sum_by weight) none in omega (arith, e)

  pub none_held : HasObjects s a fin.empty
  none_held = record {
    blocks = record { blocks = λ _. []; each = none_blocks; stored = nothing_stored; whole = λ n le weight. no_others weight (sum_by weight (tree_reach s a.dir ++ blocks_below (λ (_ : ℕ). []) n)); once = once; past = λ id le. no_record id };
    each = λ id. subst (λ (x : Option ObjRec). IsObjectAt s a id x (fin.get (fin.empty {X = Object} {R = nat_cmp}) id)) (sym (none_now id)) (fin.get-empty nat_cmp id);
  }
