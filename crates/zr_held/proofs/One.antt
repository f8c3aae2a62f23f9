-- The blocks of one object change, and all others stay.
use Rattle.std.proofs.Common.{◌≡◌, ◌≢◌, ◌∙◌, ◌<◌, ◌≤◌, ◌+◌, ℕ, suc, List, [], ◌++◌, Option, None, refl, sym, ap, subst, arith}
use Rattle.std.specs.Prelude.{unwrap_or, nat_lt, if◌then◌else◌}
use Rattle.std.specs.List.{sum_by}
use Rattle.std.specs.FinMap as fin
use Rattle.std.proofs.lemmas.Bool.{eq-eqb, ne_eqb}
use Rattle.std.proofs.lemmas.List.Sums.{sum_by-append}
use Rattle.zr_bptr.specs.declared.Bptr.{Bptr}
use Rattle.zr_bptr.specs.declared.ObjRec.{ObjRec}
use Rattle.zr_bptr.specs.declared.Tree.{Tree}
use Rattle.zr_store.specs.Store.{Stored, Swaps, AreStored}
use Rattle.zr_tree.specs.Trees.{tree_reach}
use Rattle.zr_tree.proofs.Frames.{Agree, agree_back}
use Rattle.zr_objset.specs.Records.{record_of}
use Rattle.zr_objset.proofs.Keeping.{same_record, tree_same, beside}
use Rattle.zr_txg.proofs.Keyed.{by_key}
use Rattle.zr_txg.specs.Changes.{Changes, object_in}
use Rattle.zr_lookup.specs.Objects.{record_now}
use Rattle.zr_model.specs.Objects.{Object, Objects}
use Rattle.zr_moves.specs.Account.{Account, IsObjectAt}
use Rattle.zr_held.specs.Held.{AreBlocksNow, blocks_below, HasAllBlocks, HasObjects}
use Rattle.zr_held.specs.Steps.{ChangesBlocks, IsOtherGroup}
use Rattle.zr_held.proofs.Frames.{blocks_same, object_stays}
use Rattle.zr_held.proofs.Below.{with_blocks, one_below, two_below, more_below, changed_below}

pub same_swaps : (s : Stored) → Swaps s s [] []
same_swaps s = record { stored = λ weight. refl; kept = λ b none some. refl }

-- ---- which blocks stay

module _ (s : Stored) (dir : Tree) (g : Changes) (h : HasAllBlocks s dir g) where
  pub dir_stored : AreStored (tree_reach s dir) s
  dir_stored weight = let all = h.stored 0 weight in omega (arith, all, sum_by-append weight (tree_reach s dir) [])

  pub object_stored : (id : ℕ) → AreStored (tree_reach s dir ++ h.blocks id) s
  object_stored id weight =
      let all = h.stored (suc id) weight in
      let one = one_below h.blocks weight id (suc id) (omega arith) in
      omega (arith, all, one, sum_by-append weight (tree_reach s dir) (blocks_below h.blocks (suc id)), sum_by-append weight (tree_reach s dir) (h.blocks id))

  -- the blocks of one object beside those of another
  pub others_stored : (id other : ℕ) (out : List Bptr) → id ≢ other → ((weight : Bptr → ℕ) → sum_by weight out ≤ sum_by weight (h.blocks id)) → AreStored (out ++ (tree_reach s dir ++ h.blocks other)) s
  others_stored id other out apart less weight =
      let n = suc (id + other) in
      let all = h.stored n weight in
      let two = two_below h.blocks weight id other n (omega arith) (omega arith) apart in
      let l = less weight in
      omega (arith, all, two, l, sum_by-append weight (tree_reach s dir) (blocks_below h.blocks n), sum_by-append weight out (tree_reach s dir ++ h.blocks other), sum_by-append weight (tree_reach s dir) (h.blocks other))

  pub beside_dir : (id : ℕ) (out : List Bptr) → ((weight : Bptr → ℕ) → sum_by weight out ≤ sum_by weight (h.blocks id)) → AreStored (out ++ tree_reach s dir) s
  beside_dir id out less weight =
      let all = object_stored id weight in
      let l = less weight in
      omega (arith, all, l, sum_by-append weight (tree_reach s dir) (h.blocks id), sum_by-append weight out (tree_reach s dir))

-- ---- the one object

module _ (s n : Stored) (a b : Account) (id : ℕ) (out into bs : List Bptr) (small : id < 65536) (h : HasAllBlocks s a.dir a.changes) (group : IsOtherGroup id a b) (c : ChangesBlocks s n b id (h.blocks id) bs out into) where
  dir_agrees : Agree s n (tree_reach s a.dir)
  dir_agrees = beside s n out into (tree_reach s a.dir) c.swaps h.once (beside_dir s a.dir a.changes h id out c.among)

  records_same : (i : ℕ) → record_of n b.dir i ≡ record_of s a.dir i
  records_same i = ap (λ (t : Tree). record_of n t i) group.dir ∙ same_record s n a.dir i dir_agrees

  other_agrees : (i : ℕ) → id ≢ i → Agree s n (h.blocks i)
  other_agrees i apart =
      let both = beside s n out into (tree_reach s a.dir ++ h.blocks i) c.swaps h.once (others_stored s a.dir a.changes h id i out apart c.among) in
      agree_back s n (tree_reach s a.dir) (h.blocks i) both

  pub other_record : (i : ℕ) → id ≢ i → record_now n b.dir b.changes i ≡ record_now s a.dir a.changes i
  other_record i apart =
      ap (λ (x : Option (Option ObjRec)). if nat_lt i 65536 then unwrap_or x (record_of n b.dir i) else None) (group.records i apart)
      ∙ ap (λ (x : Option ObjRec). if nat_lt i 65536 then unwrap_or (object_in a.changes i) x else None) (records_same i)

  other_blocks : (i : ℕ) → id ≢ i → AreBlocksNow n b.changes i (record_now n b.dir b.changes i) (h.blocks i)
  other_blocks i apart =
      subst (λ (x : Option ObjRec). AreBlocksNow n b.changes i x (h.blocks i)) (sym (other_record i apart))
      (blocks_same s n a.changes b.changes i (group.blocks i apart) (record_now s a.dir a.changes i) (h.blocks i) (other_agrees i apart) (h.each i))

  each_now : (i : ℕ) → AreBlocksNow n b.changes i (record_now n b.dir b.changes i) (with_blocks h.blocks id bs i)
  each_now i = by_key i id
      (λ is. subst (λ (k : ℕ). AreBlocksNow n b.changes k (record_now n b.dir b.changes k) (with_blocks h.blocks id bs k)) (sym is) (rw (eq-eqb id id refl) c.now))
      (λ other. rw (ne_eqb i id other) (other_blocks i (λ e. other (sym e))))

  dir_same : tree_reach n b.dir ≡ tree_reach s a.dir
  dir_same = ap (λ (t : Tree). tree_reach n t) group.dir ∙ (tree_same s n a.dir dir_agrees).same_reach

  all_stored : (m : ℕ) → AreStored (tree_reach n b.dir ++ blocks_below (with_blocks h.blocks id bs) m) n
  all_stored m weight =
      let top = suc (id + m) in
      let all = h.stored top weight in
      let changed = changed_below h.blocks weight id bs top (omega arith) in
      let more = more_below (with_blocks h.blocks id bs) weight m top (omega arith) in
      let swap = c.swaps.stored weight in
      let balance = c.balance weight in
      let among = c.among weight in
      let dir = ap (sum_by weight) dir_same in
      omega (arith, all, changed, more, swap, balance, among, dir, sum_by-append weight (tree_reach s a.dir) (blocks_below h.blocks top), sum_by-append weight (tree_reach n b.dir) (blocks_below (with_blocks h.blocks id bs) m))

  -- where all that was stored is the blocks of the objects below m, so is all that is stored now
  no_others : (m : ℕ) → id < m → (weight : Bptr → ℕ) → sum_by weight s.pointers ≤ sum_by weight (tree_reach s a.dir ++ blocks_below h.blocks m)
      → sum_by weight n.pointers ≤ sum_by weight (tree_reach n b.dir ++ blocks_below (with_blocks h.blocks id bs) m)
  no_others m lt weight whole =
      let changed = changed_below h.blocks weight id bs m lt in
      let swap = c.swaps.stored weight in
      let balance = c.balance weight in
      let dir = ap (sum_by weight) dir_same in
      omega (arith, whole, changed, swap, balance, dir, sum_by-append weight (tree_reach s a.dir) (blocks_below h.blocks m), sum_by-append weight (tree_reach n b.dir) (blocks_below (with_blocks h.blocks id bs) m))

  pub blocks_then : HasAllBlocks n b.dir b.changes
  blocks_then = record {
    blocks = with_blocks h.blocks id bs;
    each = each_now;
    stored = all_stored;
    whole = λ m le weight. no_others m (omega (arith, small, le)) weight (h.whole m le weight);
    once = c.once;
    past = λ i le. records_same i ∙ h.past i le;
  }

  other_object : (i : ℕ) (found : Option Object) → id ≢ i → IsObjectAt s a i (record_now s a.dir a.changes i) found → IsObjectAt n b i (record_now n b.dir b.changes i) found
  other_object i found apart is =
      let e = other_record i apart in
      subst (λ (x : Option ObjRec). IsObjectAt n b i x found) (sym e)
      (object_stays s n a b i (group.blocks i apart) (record_now s a.dir a.changes i) (h.blocks i) found refl e (other_agrees i apart) (h.each i) is)

  pub objects_then : (old new : Objects) → ((i : ℕ) → IsObjectAt s a i (record_now s a.dir a.changes i) (fin.get old i))
      → ((i : ℕ) → id ≢ i → fin.get new i ≡ fin.get old i) → IsObjectAt n b id (record_now n b.dir b.changes id) (fin.get new id) → HasObjects n b new
  objects_then old new are same here = record {
    blocks = blocks_then;
    each = λ i. by_key i id
        (λ is. subst (λ (k : ℕ). IsObjectAt n b k (record_now n b.dir b.changes k) (fin.get new k)) (sym is) here)
        (λ other. let apart : id ≢ i = λ e. other (sym e) in
        subst (λ (found : Option Object). IsObjectAt n b i (record_now n b.dir b.changes i) found) (sym (same i apart)) (other_object i (fin.get old i) apart (are i)));
  }
