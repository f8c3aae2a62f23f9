-- What a commit makes of each object of the group, and of all others.
use Rattle.std.proofs.Common.{◌≡◌, ◌∙◌, ◌<◌, ◌≤◌, ◌+◌, ℕ, suc, List, [], ◌∷◌, ◌++◌, map, Option, Some, None, refl, sym, ap, subst, arith, nat_lt, lt-ltb}
use Rattle.std.specs.Prelude.{unwrap_or, option_map, if◌then◌else◌}
use Rattle.std.specs.List.{sum_by, AllByRecursion}
use Rattle.std.specs.FinMap as fin
use Rattle.std.proofs.lemmas.Bool.{eq-eqb, ne_eqb}
use Rattle.std.proofs.lemmas.List.Sums.{sum_by-append}
use Rattle.zr_bptr.specs.declared.Bptr.{Bptr}
use Rattle.zr_bptr.specs.declared.Ptr.{Ptr}
use Rattle.zr_bptr.specs.declared.Ptr.TheVariants.{At}
use Rattle.zr_bptr.specs.declared.ObjRec.{ObjRec}
use Rattle.zr_store.specs.Store.{Stored, AreStored, IsOnce}
use Rattle.zr_tree.specs.Trees.{tree_at, tree_blocks, tree_reach, updated}
use Rattle.zr_tree.proofs.Frames.{Agree, agree_back}
use Rattle.zr_tree.proofs.Others.{keeps}
use Rattle.zr_objset.specs.Records.{record_of}
use Rattle.zr_objset.proofs.Keeping.{beside}
use Rattle.zr_txg.specs.Tables.{IsRising, IsRisingFrom, value_at}
use Rattle.zr_txg.proofs.Keyed.{by_key, value_at-low}
use Rattle.zr_txg.specs.Changes.{blocks_of as blocks_of_change, ObjectChange, object_in, change_in, IsChange, IsGroup}
use Rattle.zr_lookup.specs.Groups.{IsLawfulGroup, IsChangeOf}
use Rattle.zr_lookup.specs.Objects.{record_now, pointer_now, block_in, AreObjectBlocks}
use Rattle.zr_lookup.proofs.Groups.{each_value}
use Rattle.zr_commit.specs.Objects.{object_blocks, blocks_of, blocks_now, IsObjectWritten, WritesGroup}
use Rattle.zr_model.specs.Objects.{Object, Objects}
use Rattle.zr_moves.specs.Account.{Account, IsObjectAt}
use Rattle.zr_held.specs.Held.{AreBlocksNow, blocks_below, HasAllBlocks, HasObjects}
use Rattle.zr_held.proofs.Frames.{leaf_of, leaf_is, listed, same_object}
use Rattle.zr_held.proofs.Below.{with_blocks, more_below, changed_below}
use Rattle.zr_held.proofs.Committing.{part, part_all, parts_swap, part_within, sum_flat}

-- changes that rise, put over what was there
pub over_tree : (low index : ℕ) (es : List (ℕ × Ptr)) (p : Ptr) → IsRisingFrom low es → updated es index p ≡ unwrap_or (value_at es index) p
over_tree low index [] p up = refl
over_tree low index (e ∷ es) p up =
    by_key e.0 index
    (λ same.
    let none = value_at-low (suc e.0) index es up.1 (omega (arith, same)) in
    rw (eq-eqb e.0 index same) (over_tree (suc e.0) index es e.1 up.1 ∙ ap (λ (o : Option Ptr). unwrap_or o e.1) none))
    (λ other. rw (ne_eqb e.0 index other) (over_tree (suc e.0) index es p up.1))

-- ---- the objects of a group

-- what the tree blocks of a changed object weigh, as its record leads to them
abbrev pub weight_of_tree : Stored → (Bptr → ℕ) → ℕ × ObjectChange → ℕ
weight_of_tree s weight e = sum_by weight (object_blocks s e.1.object)

low_ids : (m : ℕ) (xs : List (ℕ × ObjectChange)) → 65536 ≤ m → AllByRecursion IsChangeOf xs → AllByRecursion (λ e. e.0 < m) xs
low_ids m [] le all = tt
low_ids m (x ∷ xs) le all = (let l = all.0.id in omega (arith, l, le), low_ids m xs le all.1)

module _ (s : Stored) (a : Account) (lawful : IsLawfulGroup a.changes) where
  trees_weigh : (weight : Bptr → ℕ) (m : ℕ) → 65536 ≤ m → part (weight_of_tree s weight) a.changes.objects m ≡ sum_by weight (blocks_of s a.changes.objects)
  trees_weigh weight m le = part_all (weight_of_tree s weight) m a.changes.objects (low_ids m a.changes.objects le lawful) ∙ sym (sum_flat weight (λ e. object_blocks s e.1.object) a.changes.objects)

  entry_record : (id : ℕ) (c : ObjectChange) → value_at a.changes.objects id ≡ Some c → record_now s a.dir a.changes id ≡ c.object
  entry_record id c is =
      let low = (each_value IsChangeOf id c a.changes.objects lawful is).id in
      let here : object_in a.changes id ≡ Some c.object = ap (option_map (λ (x : ObjectChange). x.object)) is in
      rw (lt-ltb id 65536 low) (ap (λ (x : Option (Option ObjRec)). unwrap_or x (record_of s a.dir id)) here)

  -- of an object's blocks the tree is a part
  tree_among : (id : ℕ) (x : Option ObjRec) (bs : List Bptr) → AreBlocksNow s a.changes id x bs → (weight : Bptr → ℕ) → sum_by weight (object_blocks s x) ≤ sum_by weight bs
  tree_among id None bs is weight = omega arith
  tree_among id (Some r) bs is weight = let e = ap (sum_by weight) is.all in omega (arith, e, sum_by-append weight (map leaf_of is.leaves) (tree_blocks s r.tree))

  entry_among : (h : HasAllBlocks s a.dir a.changes) (weight : Bptr → ℕ) (k : ℕ) (c : ObjectChange) → value_at a.changes.objects k ≡ Some c → weight_of_tree s weight (k, c) ≤ sum_by weight (h.blocks k)
  entry_among h weight k c is =
      let e = ap (λ (x : Option ObjRec). sum_by weight (object_blocks s x)) (entry_record k c is) in
      let l = tree_among k (record_now s a.dir a.changes k) (h.blocks k) (h.each k) weight in
      omega (arith, e, l)

module _ (s n : Stored) (a b : Account) (count : ℕ) (group : IsGroup a.changes.objects count) (lawful : IsLawfulGroup a.changes)
    (writes : WritesGroup s n a.changes a.dir b.dir) (empty : b.changes.objects ≡ []) (h : HasAllBlocks s a.dir a.changes) where
  abbrev es : List (ℕ × ObjectChange)
  es = a.changes.objects

  abbrev before : ℕ → Option ObjRec
  before id = record_now s a.dir a.changes id

  abbrev after : ℕ → Option ObjRec
  after id = record_now n b.dir b.changes id

  -- ---- the group before and after

  no_object : (id : ℕ) → object_in b.changes id ≡ None
  no_object id = ap (λ (xs : List (ℕ × ObjectChange)). option_map (λ (c : ObjectChange). c.object) (value_at xs id)) empty

  no_change : (id i : ℕ) → change_in b.changes id i ≡ None
  no_change id i = ap (λ (xs : List (ℕ × ObjectChange)). value_at (blocks_of_change (value_at xs id)) i) empty

  -- ---- blocks that stay

  abbrev gone : List Bptr
  gone = blocks_of s es ++ tree_reach s a.dir

  abbrev tree_weight : (weight : Bptr → ℕ) → ℕ × ObjectChange → ℕ
  tree_weight weight = weight_of_tree s weight

  group_weight : (weight : Bptr → ℕ) (m : ℕ) → 65536 ≤ m → part (tree_weight weight) es m ≡ sum_by weight (blocks_of s es)
  group_weight weight m le = trees_weigh s a lawful weight m le

  record_in_group : (id : ℕ) (c : ObjectChange) → value_at es id ≡ Some c → before id ≡ c.object
  record_in_group id c is = entry_record s a lawful id c is

  entry_less : (weight : Bptr → ℕ) (k : ℕ) (c : ObjectChange) → value_at es k ≡ Some c → tree_weight weight (k, c) ≤ sum_by weight (h.blocks k)
  entry_less weight k c is = entry_among s a lawful h weight k c is

  within_rest : (weight : Bptr → ℕ) (id : ℕ) (rest : List Bptr) → ((c : ObjectChange) → value_at es id ≡ Some c → sum_by weight (object_blocks s c.object) ≤ sum_by weight rest)
      → (k : ℕ) (c : ObjectChange) → value_at es k ≡ Some c → tree_weight weight (k, c) ≤ sum_by weight (with_blocks h.blocks id rest k)
  within_rest weight id rest has k c is = by_key k id
      (λ same.
      let e : with_blocks h.blocks id rest k ≡ rest = rw (eq-eqb k id same) refl in
      let w = ap (sum_by weight) e in
      let l = has c (ap (value_at es) (sym same) ∙ is) in
      omega (arith, w, l))
      (λ other.
      let e : with_blocks h.blocks id rest k ≡ h.blocks k = rw (ne_eqb k id other) refl in
      let w = ap (sum_by weight) e in
      let l = entry_less weight k c is in
      omega (arith, w, l))

  -- blocks of an object beside its tree, or all of one that the group has not changed
  beside_gone : (id : ℕ) (rest ps : List Bptr) → ((weight : Bptr → ℕ) → sum_by weight rest + sum_by weight ps ≤ sum_by weight (h.blocks id))
      → ((c : ObjectChange) → value_at es id ≡ Some c → (weight : Bptr → ℕ) → sum_by weight (object_blocks s c.object) ≤ sum_by weight rest) → AreStored (gone ++ ps) s
  beside_gone id rest ps fits has weight =
      let top = suc (id + 65536) in
      let all = h.stored top weight in
      let changed = changed_below h.blocks weight id rest top (omega arith) in
      let within = part_within weight (with_blocks h.blocks id rest) (tree_weight weight) es group.rising (within_rest weight id rest (λ c is. has c is weight)) top in
      let total = group_weight weight top (omega arith) in
      let f = fits weight in
      omega (arith, all, changed, within, total, f, sum_by-append weight (tree_reach s a.dir) (blocks_below h.blocks top), sum_by-append weight gone ps, sum_by-append weight (blocks_of s es) (tree_reach s a.dir))

  abbrev come : List Bptr
  come = blocks_now n b.dir es ++ tree_reach n b.dir

  pub leaves_agree : (id : ℕ) (r : ObjRec) → before id ≡ Some r → (is : AreObjectBlocks s a.changes id r (h.blocks id)) → Agree s n (map leaf_of is.leaves)
  leaves_agree id r found is = beside s n gone come (map leaf_of is.leaves) writes.swaps h.once
      (beside_gone id (tree_blocks s r.tree) (map leaf_of is.leaves)
      (λ weight. let e = ap (sum_by weight) is.all in omega (arith, e, sum_by-append weight (map leaf_of is.leaves) (tree_blocks s r.tree)))
      (λ c there weight. let e = ap (λ (x : Option ObjRec). sum_by weight (object_blocks s x)) (sym (record_in_group id c there) ∙ found) in omega (arith, e)))

  all_agree : (id : ℕ) → value_at es id ≡ None → Agree s n (h.blocks id)
  all_agree id none = beside s n gone come (h.blocks id) writes.swaps h.once
      (beside_gone id [] (h.blocks id) (λ weight. omega arith) (λ c there weight. absurd (let e = sym there ∙ none in cc)))

  -- ---- each object is carried over

  abbrev pub Carries : ℕ → Option ObjRec → Option ObjRec → Type 0
  Carries id None None = Unit {0}
  Carries id None (Some q) = ⊥
  Carries id (Some r) None = ⊥
  Carries id (Some r) (Some q) = (q.units ≡ r.units) × ((i : ℕ) → pointer_now n b.changes id q i ≡ pointer_now s a.changes id r i)

  carried_in : (id : ℕ) (c : ObjectChange) → value_at es id ≡ Some c → IsRising c.blocks → (x y : Option ObjRec) → IsObjectWritten c.blocks s n x y → Carries id x y
  carried_in id c is rising None None w = tt
  carried_in id c is rising None (Some q) w = absurd w
  carried_in id c is rising (Some r) None w = absurd w
  carried_in id c is rising (Some r) (Some q) w = (
    w.size,
    λ i.
        let now = ap (λ (o : Option Ptr). unwrap_or o (tree_at n q.tree i)) (no_change id i) in
        let change : value_at c.blocks i ≡ change_in a.changes id i = sym (ap (λ (v : Option ObjectChange). value_at (blocks_of_change v) i) is) in
        now ∙ (w.leaves i ∙ (over_tree 0 i c.blocks (tree_at s r.tree i) rising ∙ ap (λ (o : Option Ptr). unwrap_or o (tree_at s r.tree i)) change)),
  )

  tree_agree : (id : ℕ) (r : ObjRec) → Agree s n (h.blocks id) → AreObjectBlocks s a.changes id r (h.blocks id) → Agree s n (tree_blocks s r.tree)
  tree_agree id r agree is = agree_back s n (map leaf_of is.leaves) (tree_blocks s r.tree) (subst (λ (xs : List Bptr). Agree s n xs) is.all agree)

  carried_out : (id : ℕ) → value_at es id ≡ None → (x : Option ObjRec) → AreBlocksNow s a.changes id x (h.blocks id) → Carries id x x
  carried_out id none None is = tt
  carried_out id none (Some r) is =
      let agree = tree_agree id r (all_agree id none) is in (
        refl,
        λ i.
            let now = ap (λ (o : Option Ptr). unwrap_or o (tree_at n r.tree i)) (no_change id i) in
            let same = (keeps s n r.tree (λ q met. agree.same q met)).leaves i in
            let change : change_in a.changes id i ≡ None = ap (λ (v : Option ObjectChange). value_at (blocks_of_change v) i) none in
            now ∙ (same ∙ sym (ap (λ (o : Option Ptr). unwrap_or o (tree_at s r.tree i)) change)),
      )

  after_in : (id : ℕ) (c : ObjectChange) → value_at es id ≡ Some c → after id ≡ record_of n b.dir id
  after_in id c is =
      let low = (each_value IsChangeOf id c es lawful is).id in
      rw (lt-ltb id 65536 low) (ap (λ (x : Option (Option ObjRec)). unwrap_or x (record_of n b.dir id)) (no_object id))

  after_out : (id : ℕ) → value_at es id ≡ None → after id ≡ before id
  after_out id none =
      let had : object_in a.changes id ≡ None = ap (option_map (λ (x : ObjectChange). x.object)) none in
      ap (λ (x : Option (Option ObjRec)). if nat_lt id 65536 then unwrap_or x (record_of n b.dir id) else None) (no_object id ∙ sym had)
      ∙ ap (λ (x : Option ObjRec). if nat_lt id 65536 then unwrap_or (object_in a.changes id) x else None) (writes.rest id had)

  carries_by : (id : ℕ) (v : Option ObjectChange) → value_at es id ≡ v → Carries id (before id) (after id)
  carries_by id None is = subst (λ (y : Option ObjRec). Carries id (before id) y) (sym (after_out id is)) (carried_out id is (before id) (h.each id))
  carries_by id (Some c) is =
      let w : IsObjectWritten c.blocks s n c.object (record_of n b.dir id) = each_value (λ (e : ℕ × ObjectChange). IsObjectWritten e.1.blocks s n e.1.object (record_of n b.dir e.0)) id c es writes.written is in
      let rising = (each_value (λ (e : ℕ × ObjectChange). IsChange e.1) id c es group.each is).rising in
      carried_in id c is rising (before id) (after id)
      (subst (λ (x : Option ObjRec). IsObjectWritten c.blocks s n x (after id)) (sym (record_in_group id c is))
      (subst (λ (y : Option ObjRec). IsObjectWritten c.blocks s n c.object y) (sym (after_in id c is)) w))

  pub carries : (id : ℕ) → Carries id (before id) (after id)
  carries id = carries_by id (value_at es id) refl

  -- ---- the blocks behind the commit

  abbrev blocks_after : (id : ℕ) (x y : Option ObjRec) (bs : List Bptr) → AreBlocksNow s a.changes id x bs → List Bptr
  blocks_after id None y bs is = []
  blocks_after id (Some r) None bs is = []
  blocks_after id (Some r) (Some q) bs is = map leaf_of is.leaves ++ tree_blocks n q.tree

  are_after : (id : ℕ) (x y : Option ObjRec) (bs : List Bptr) (is : AreBlocksNow s a.changes id x bs) → Carries id x y → AreBlocksNow n b.changes id y (blocks_after id x y bs is)
  are_after id None None bs is c = (refl, no_change id)
  are_after id None (Some q) bs is c = absurd c
  are_after id (Some r) None bs is c = absurd c
  are_after id (Some r) (Some q) bs is c = record {
    leaves = is.leaves;
    are_leaves = record { rising = is.are_leaves.rising; each = λ i. is.are_leaves.each i ∙ ap block_in (sym (c.1 i)) };
    all = refl;
  }

  weigh_after : (id : ℕ) (x y : Option ObjRec) (bs : List Bptr) (is : AreBlocksNow s a.changes id x bs) → Carries id x y
      → (weight : Bptr → ℕ) → sum_by weight (blocks_after id x y bs is) + sum_by weight (object_blocks s x) ≡ sum_by weight bs + sum_by weight (object_blocks n y)
  weigh_after id None None bs is c weight = let e = ap (sum_by weight) is.0 in omega (arith, e)
  weigh_after id None (Some q) bs is c weight = absurd c
  weigh_after id (Some r) None bs is c weight = absurd c
  weigh_after id (Some r) (Some q) bs is c weight =
      let e = ap (sum_by weight) is.all in
      omega (arith, e, sum_by-append weight (map leaf_of is.leaves) (tree_blocks s r.tree), sum_by-append weight (map leaf_of is.leaves) (tree_blocks n q.tree))

  abbrev news : ℕ → List Bptr
  news id = blocks_after id (before id) (after id) (h.blocks id) (h.each id)

  same_trees : (id : ℕ) (x : Option ObjRec) → Agree s n (h.blocks id) → AreBlocksNow s a.changes id x (h.blocks id) → object_blocks n x ≡ object_blocks s x
  same_trees id None agree is = refl
  same_trees id (Some r) agree is = let t = tree_agree id r agree is in (keeps s n r.tree (λ q met. t.same q met)).same_blocks

  abbrev new_weight : (weight : Bptr → ℕ) → ℕ × ObjectChange → ℕ
  new_weight weight e = sum_by weight (object_blocks n (record_of n b.dir e.0))

  changed_weight : (weight : Bptr → ℕ) (k : ℕ) (c : ObjectChange) → value_at es k ≡ Some c → sum_by weight (news k) + tree_weight weight (k, c) ≡ sum_by weight (h.blocks k) + new_weight weight (k, c)
  changed_weight weight k c is =
      let w = weigh_after k (before k) (after k) (h.blocks k) (h.each k) (carries k) weight in
      let x = ap (λ (y : Option ObjRec). sum_by weight (object_blocks s y)) (record_in_group k c is) in
      let y = ap (λ (z : Option ObjRec). sum_by weight (object_blocks n z)) (after_in k c is) in
      omega (arith, w, x, y)

  kept_weight : (weight : Bptr → ℕ) (k : ℕ) → value_at es k ≡ None → sum_by weight (news k) ≡ sum_by weight (h.blocks k)
  kept_weight weight k none =
      let w = weigh_after k (before k) (after k) (h.blocks k) (h.each k) (carries k) weight in
      let y = ap (λ (z : Option ObjRec). sum_by weight (object_blocks n z)) (after_out k none) in
      let t = ap (sum_by weight) (same_trees k (before k) (all_agree k none) (h.each k)) in
      omega (arith, w, y, t)

  stored_after : (m : ℕ) → AreStored (tree_reach n b.dir ++ blocks_below news m) n
  stored_after m weight =
      let top = suc (m + 65536) in
      let all = h.stored top weight in
      let more = more_below news weight m top (omega arith) in
      let swap = parts_swap weight h.blocks news (tree_weight weight) (new_weight weight) es group.rising (changed_weight weight) (kept_weight weight) top in
      let out = group_weight weight top (omega arith) in
      let into = part_all (new_weight weight) top es (low_ids top es (omega arith) lawful) ∙ sym (sum_flat weight (λ e. object_blocks n (record_of n b.dir e.0)) es) in
      let w = writes.swaps.stored weight in
      omega (
        arith,
        all,
        more,
        swap,
        out,
        into,
        w,
        sum_by-append weight (tree_reach s a.dir) (blocks_below h.blocks top),
        sum_by-append weight (tree_reach n b.dir) (blocks_below news m),
        sum_by-append weight (blocks_of s es) (tree_reach s a.dir),
        sum_by-append weight (blocks_now n b.dir es) (tree_reach n b.dir),
      )

  -- where all that was stored is the blocks of the objects below a number that no change passes, so is all that is stored now
  no_others : (m : ℕ) → 65536 ≤ m → (weight : Bptr → ℕ) → sum_by weight s.pointers ≤ sum_by weight (tree_reach s a.dir ++ blocks_below h.blocks m)
      → sum_by weight n.pointers ≤ sum_by weight (tree_reach n b.dir ++ blocks_below news m)
  no_others m le weight whole =
      let swap = parts_swap weight h.blocks news (tree_weight weight) (new_weight weight) es group.rising (changed_weight weight) (kept_weight weight) m in
      let out = group_weight weight m le in
      let into = part_all (new_weight weight) m es (low_ids m es le lawful) ∙ sym (sum_flat weight (λ e. object_blocks n (record_of n b.dir e.0)) es) in
      let w = writes.swaps.stored weight in
      omega (
        arith,
        whole,
        swap,
        out,
        into,
        w,
        sum_by-append weight (tree_reach s a.dir) (blocks_below h.blocks m),
        sum_by-append weight (tree_reach n b.dir) (blocks_below news m),
        sum_by-append weight (blocks_of s es) (tree_reach s a.dir),
        sum_by-append weight (blocks_now n b.dir es) (tree_reach n b.dir),
      )

  past_by : (id : ℕ) → 65536 ≤ id → (v : Option ObjectChange) → value_at es id ≡ v → record_of n b.dir id ≡ None
  past_by id le None is = writes.rest id (ap (option_map (λ (x : ObjectChange). x.object)) is) ∙ h.past id le
  past_by id le (Some c) is = absurd (let low = (each_value IsChangeOf id c es lawful is).id in omega (arith, low, le))

  pub blocks_then : IsOnce n → HasAllBlocks n b.dir b.changes
  blocks_then once = record {
    blocks = news;
    each = λ id. are_after id (before id) (after id) (h.blocks id) (h.each id) (carries id);
    stored = stored_after;
    whole = λ m le weight. no_others m le weight (h.whole m le weight);
    once = once;
    past = λ id le. past_by id le (value_at es id) refl;
  }

  -- ---- the objects

  leaf_kept : (id : ℕ) (r : ObjRec) → before id ≡ Some r → AreObjectBlocks s a.changes id r (h.blocks id) → (i : ℕ) (x : Bptr) → pointer_now s a.changes id r i ≡ At x → n.bytes x ≡ s.bytes x
  leaf_kept id r found is i x at = (leaves_agree id r found is).same x (listed i x is.leaves (is.are_leaves.each i ∙ ap block_in at))

  object_carried : (id : ℕ) (x y : Option ObjRec) (found : Option Object) → before id ≡ x → after id ≡ y → AreBlocksNow s a.changes id x (h.blocks id) → Carries id x y → IsObjectAt s a id x found → IsObjectAt n b id y found
  object_carried id None None found was now is c has = has
  object_carried id None (Some q) found was now is c has = absurd c
  object_carried id (Some r) None found was now is c has = absurd c
  object_carried id (Some r) (Some q) None was now is c has = has
  object_carried id (Some r) (Some q) (Some o) was now is c has =
      same_object s n a b id r q c.0
      (λ i. leaf_is n b id q now i ∙ (c.1 i ∙ sym (leaf_is s a id r was i)))
      (λ i x at. leaf_kept id r was is i x (sym (leaf_is s a id r was i) ∙ at))
      o has

  pub object_then : (id : ℕ) (found : Option Object) → IsObjectAt s a id (before id) found → IsObjectAt n b id (after id) found
  object_then id found has = object_carried id (before id) (after id) found refl refl (h.each id) (carries id) has

pub committed : (s n : Stored) (a b : Account) (objects : Objects) (count : ℕ) → IsGroup a.changes.objects count → IsLawfulGroup a.changes → WritesGroup s n a.changes a.dir b.dir → b.changes.objects ≡ [] → IsOnce n
    → HasObjects s a objects → HasObjects n b objects
committed s n a b objects count group lawful writes empty once has = record {
  blocks = blocks_then s n a b count group lawful writes empty has.blocks once;
  each = λ id. object_then s n a b count group lawful writes empty has.blocks id (fin.get objects id) (has.each id);
}

commit_below : (s : Stored) (a : Account) (count : ℕ) (group : IsGroup a.changes.objects count) (lawful : IsLawfulGroup a.changes) (h : HasAllBlocks s a.dir a.changes) (weight : Bptr → ℕ) (top : ℕ) → 65536 ≤ top
    → sum_by weight (blocks_of s a.changes.objects ++ tree_reach s a.dir) ≤ sum_by weight s.pointers
commit_below s a count group lawful h weight top le =
    let all = h.stored top weight in
    let within = part_within weight h.blocks (weight_of_tree s weight) a.changes.objects group.rising (entry_among s a lawful h weight) top in
    let total = trees_weigh s a lawful weight top le in
    omega (arith, all, within, total, sum_by-append weight (tree_reach s a.dir) (blocks_below h.blocks top), sum_by-append weight (blocks_of s a.changes.objects) (tree_reach s a.dir))

-- all that a commit gives back is stored
pub commit_stored : (s : Stored) (a : Account) (objects : Objects) (count : ℕ) → IsGroup a.changes.objects count → IsLawfulGroup a.changes → HasObjects s a objects → AreStored (blocks_of s a.changes.objects ++ tree_reach s a.dir) s
commit_stored s a objects count group lawful has weight = commit_below s a count group lawful has.blocks weight (count + 65536) (omega arith)
