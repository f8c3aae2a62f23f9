-- The directory with the records of the objects that were written.
use Rattle.std.proofs.Common.{◌≡◌, ◌∙◌, ◌/◌, ◌<◌, ◌≤◌, inl, inr, ℕ, suc, List, [], ◌∷◌, ◌++◌, Bool, true, false, nat_eq, Result, Ok, Err, Option, Some, None, refl, sym, ap, subst, arith, eq-eqb, ◌-◌}
use Rattle.std.specs.Prelude.{if◌then◌else◌, option_map, IfOk}
use Rattle.std.specs.List.{AllByRecursion, flat_map}
use Rattle.std.proofs.lemmas.Bool.{ne_eqb}
use Rattle.sha2.specs.Sha256.{sha256}
use Rattle.zr_bptr.specs.declared.Bptr.{Bptr}
use Rattle.zr_bptr.specs.declared.Tree.{Tree}
use Rattle.zr_bptr.specs.declared.ObjRec.{ObjRec}
use Rattle.zr_bptr.specs.Spelling.{SpellsRecords}
use Rattle.zr_store.specs.declared.StoreErr.{StoreErr}
use Rattle.zr_store.specs.Store.{Stored, Now, Swaps, AreStored, IsOnce}
use Rattle.zr_tree.specs.Blocks.{IsNoBlock}
use Rattle.zr_tree.specs.Trees.{own, tree_at, tree_reach, IsAmong}
use Rattle.zr_tree.proofs.Frames.{Agree}
use Rattle.zr_tree.proofs.Others.{keeps_others}
use Rattle.zr_tree.proofs.Wholes.{among_hits, among_parts, among_within, within_back}
use Rattle.zr_objset.specs.Records.{record_of}
use Rattle.zr_objset.specs.Changes.{changed, leaves_of, StoresRecords}
use Rattle.zr_objset.specs.Errors.{IsNoLeaf, TellsOfLeaves}
use Rattle.zr_objset.proofs.Keeping.{beside, tree_same, same_record}
use Rattle.zr_objset.proofs.Within.{leaf_within}
use Rattle.zr_txg.specs.Tables.{IsRisingFrom, IsRising, value_at}
use Rattle.zr_txg.specs.Changes.{ObjectChange, Changes}
use Rattle.zr_commit.specs.Objects.{object_blocks, blocks_of, blocks_in, blocks_now, IsObjectWritten, AreWritten, WritesObjects, WritesGroup}
use Rattle.zr_commit.proofs.Swapping.{swaps_both, rest_stored, front_stored}
use Rattle.zr_commit.proofs.Writing.{blocks_in_same, all_written_to}

-- ---- the records of the changed objects

-- these are the records of the objects, in order
abbrev AreFound : (ℕ → Option ObjRec) → List (ℕ × ObjectChange) → List (ℕ × Option ObjRec) → Type 0
AreFound f [] [] = Unit {0}
AreFound f [] (q ∷ qs) = ⊥
AreFound f (e ∷ es) [] = ⊥
AreFound f (e ∷ es) (q ∷ qs) = (f e.0 ≡ q.1) × AreFound f es qs

here_same : (k id : ℕ) (x r : Option ObjRec) → k ≡ id → (if nat_eq k id then x else r) ≡ x
here_same k id x r is = ap (λ (b : Bool). if b then x else r) (eq-eqb k id is)

here_other : (k id : ℕ) (x r : Option ObjRec) → (k ≡ id → ⊥) → (if nat_eq k id then x else r) ≡ r
here_other k id x r not = ap (λ (b : Bool). if b then x else r) (ne_eqb k id not)

changed_past : (s m : Stored) (low id : ℕ) (es : List (ℕ × ObjectChange)) (qs : List (ℕ × Option ObjRec)) (r : Option ObjRec) → AreWritten s m es qs → IsRisingFrom low es → id < low → changed qs id r ≡ r
changed_past s m low id [] [] r w up lt = refl
changed_past s m low id [] (q ∷ qs) r w up lt = absurd w
changed_past s m low id (e ∷ es) [] r w up lt = absurd w
changed_past s m low id (e ∷ es) (q ∷ qs) r w up lt =
    let other = here_other q.0 id q.1 r (λ is. let k = w.0 in omega (arith, is, k, up.0, lt)) in
    ap (λ (x : Option ObjRec). changed qs id x) other ∙ changed_past s m (suc e.0) id es qs r w.2 up.1 (omega (arith, up.0, lt))

all_found : (s m : Stored) (low : ℕ) (es : List (ℕ × ObjectChange)) (qs : List (ℕ × Option ObjRec)) (f base : ℕ → Option ObjRec) → AreWritten s m es qs → IsRisingFrom low es → ((id : ℕ) → low ≤ id → f id ≡ changed qs id (base id)) → AreFound f es qs
all_found s m low [] [] f base w up h = tt
all_found s m low [] (q ∷ qs) f base w up h = w
all_found s m low (e ∷ es) [] f base w up h = w
all_found s m low (e ∷ es) (q ∷ qs) f base w up h = (
  h e.0 up.0 ∙ (ap (λ (x : Option ObjRec). changed qs e.0 x) (here_same q.0 e.0 q.1 (base e.0) w.0) ∙ changed_past s m (suc e.0) e.0 es qs q.1 w.2 up.1 (omega arith)),
  all_found s m (suc e.0) es qs f base w.2 up.1 (λ id le. h id (omega (arith, up.0, le)) ∙ ap (λ (x : Option ObjRec). changed qs id x) (here_other q.0 id q.1 (base id) (λ is. let k = w.0 in omega (arith, is, k, le)))),
)

found_written : (s m : Stored) (es : List (ℕ × ObjectChange)) (qs : List (ℕ × Option ObjRec)) (f : ℕ → Option ObjRec) → AreWritten s m es qs → AreFound f es qs → AllByRecursion (λ (e : ℕ × ObjectChange). IsObjectWritten e.1.blocks s m e.1.object (f e.0)) es
found_written s m [] [] f w h = tt
found_written s m [] (q ∷ qs) f w h = tt
found_written s m (e ∷ es) [] f w h = absurd w
found_written s m (e ∷ es) (q ∷ qs) f w h = (subst (λ (x : Option ObjRec). IsObjectWritten e.1.blocks s m e.1.object x) (sym h.0) w.1, found_written s m es qs f w.2 h.1)

found_blocks : (m : Stored) (es : List (ℕ × ObjectChange)) (qs : List (ℕ × Option ObjRec)) (f : ℕ → Option ObjRec) → AreFound f es qs → flat_map (λ (e : ℕ × ObjectChange). object_blocks m (f e.0)) es ≡ blocks_in m qs
found_blocks m [] [] f h = refl
found_blocks m [] (q ∷ qs) f h = absurd h
found_blocks m (e ∷ es) [] f h = absurd h
found_blocks m (e ∷ es) (q ∷ qs) f h =
    ap (λ (x : Option ObjRec). object_blocks m x ++ flat_map (λ (d : ℕ × ObjectChange). object_blocks m (f d.0)) es) h.0
    ∙ ap (λ (bs : List Bptr). object_blocks m q.1 ++ bs) (found_blocks m es qs f h.1)

not_there : (e : ℕ × ObjectChange) (id : ℕ) (v : Option ObjectChange) → (if nat_eq e.0 id then Some e.1 else v) ≡ None → (e.0 ≡ id → ⊥) × (v ≡ None)
not_there e id v h = go (nat_eq e.0 id) (λ is. eq-eqb e.0 id is) h
  where
    go : (b : Bool) → (e.0 ≡ id → b ≡ true) → (if b then Some e.1 else v) ≡ None → (e.0 ≡ id → ⊥) × (v ≡ None)
    go true known none = absurd cc
    go false known none = (λ is. let f = known is in absurd cc, none)

changed_not : (s m : Stored) (id : ℕ) (es : List (ℕ × ObjectChange)) (qs : List (ℕ × Option ObjRec)) (r : Option ObjRec) → AreWritten s m es qs → value_at es id ≡ None → changed qs id r ≡ r
changed_not s m id [] [] r w none = refl
changed_not s m id [] (q ∷ qs) r w none = absurd w
changed_not s m id (e ∷ es) [] r w none = absurd w
changed_not s m id (e ∷ es) (q ∷ qs) r w none =
    let n = not_there e id (value_at es id) none in
    ap (λ (x : Option ObjRec). changed qs id x) (here_other q.0 id q.1 r (λ is. n.0 (sym w.0 ∙ is))) ∙ changed_not s m id es qs r w.2 n.1

no_value : (v : Option ObjectChange) → option_map (λ (c : ObjectChange). c.object) v ≡ None → v ≡ None
no_value None h = refl
no_value (Some c) h = absurd cc

-- ---- the whole

module _ (s n : Stored) (g : Changes) (dir : Tree) (qs : List (ℕ × Option ObjRec)) (once : IsOnce s) (held : AreStored (blocks_of s g.objects ++ tree_reach s dir) s) (first : WritesObjects s n g.objects qs) where
  dir_agree : Agree s n (tree_reach s dir)
  dir_agree = beside s n (blocks_of s g.objects) (blocks_in n qs) (tree_reach s dir) first.swaps once held

  reach_same : tree_reach n dir ≡ tree_reach s dir
  reach_same = (tree_same s n dir dir_agree).same_reach

  left : AreStored (tree_reach n dir ++ blocks_in n qs) n
  left = subst (λ (xs : List Bptr). AreStored (xs ++ blocks_in n qs) n) (sym reach_same) (rest_stored s n (blocks_of s g.objects) (blocks_in n qs) (tree_reach s dir) first.swaps held)

  -- the directory is still stored
  pub dir_stored : AreStored (tree_reach n dir) n
  dir_stored = front_stored n (tree_reach n dir) (blocks_in n qs) left

  pub group_written : (m : Stored) (u : Tree) → IsOnce n → IsRising g.objects → StoresRecords qs n m dir u → WritesGroup s m g dir u
  group_written m u once_n rising second =
      let es = g.objects in
      let into = blocks_in n qs in
      let f = λ (id : ℕ). record_of m u id in
      let base = λ (id : ℕ). record_of s dir id in
      let f_is : (id : ℕ) → f id ≡ changed qs id (base id) = λ id. second.records id ∙ ap (λ (x : Option ObjRec). changed qs id x) (same_record s n dir id dir_agree) in
      let new_agree : Agree n m into = beside n m (tree_reach n dir) (tree_reach m u) into second.swaps once_n left in
      let written = all_written_to s n m es qs new_agree first.written in
      let found = all_found s m 0 es qs f base written rising (λ id le. f_is id) in
      let moved : Swaps n m (tree_reach s dir) (tree_reach m u) = subst (λ (xs : List Bptr). Swaps n m xs (tree_reach m u)) reach_same second.swaps in
      let both = swaps_both s n m (blocks_of s es) into (tree_reach s dir) (tree_reach m u) first.swaps moved in
      let into_now : into ≡ blocks_now m u es = sym (blocks_in_same n m qs new_agree) ∙ sym (found_blocks m es qs f found) in
      let swaps : Swaps s m (blocks_of s es ++ tree_reach s dir) (blocks_now m u es ++ tree_reach m u) = subst (λ (xs : List Bptr). Swaps s m (blocks_of s es ++ tree_reach s dir) (xs ++ tree_reach m u)) into_now both in
      record {
        written = found_written s m es qs f written found;
        rest = λ id none. f_is id ∙ changed_not s m id es qs (base id) written (no_value (value_at es id) none);
        swaps = swaps;
        others = keeps_others s m (blocks_of s es ++ tree_reach s dir) (blocks_now m u es ++ tree_reach m u) swaps once;
      }

  among_leaves : (b : Bptr) (xs : List (ℕ × Option ObjRec)) → IsAmong b (leaves_of n dir xs) → IsAmong b (tree_reach n dir)
  among_leaves b [] h = let one = h (λ x. 1) in absurd (omega (arith, one))
  among_leaves b (x ∷ xs) h =
      elim (among_parts b (own (tree_at n dir (x.0 / 16))) (leaves_of n dir xs) h) [
        | inl a ↦ among_within b (own (tree_at n dir (x.0 / 16))) (tree_reach n dir) (leaf_within n dir (x.0 / 16)) a
        | inr a ↦ among_leaves b xs a
      ]

  no_leaf_before : (b : Bptr) → n.bytes b ≡ s.bytes b → IsNoLeaf n b → IsNoLeaf s b
  no_leaf_before b same bad = (bad.0 ∙ ap (λ (bytes : List ℕ). sha256 bytes) same, λ records spells. bad.1 records (subst (λ (bytes : List ℕ). SpellsRecords bytes records) (sym same) spells))

  -- an error of writing the directory tells of what was there before
  pub dir_tells : {T : Type 0} (r : Result T StoreErr) → TellsOfLeaves n (tree_reach n dir) (leaves_of n dir qs) (IsNoLeaf n) r → TellsOfLeaves s (blocks_of s g.objects ++ tree_reach s dir) (tree_reach s dir) (IsNoLeaf s) r
  dir_tells {T} r h =
      let blocks = blocks_of s g.objects in
      let reach = tree_reach s dir in
      record {
        malformed = λ at expected is. elim (h.malformed at expected is) [
          | inl b ↦
              let among = subst (λ (xs : List Bptr). IsAmong b.block xs) reach_same b.among in
              let same = dir_agree.same b.block (among_hits b.block reach among) in
              inl (record { block = b.block; among = among_within b.block reach (blocks ++ reach) (within_back blocks reach) among; address = b.address; checksum = b.checksum; tall = b.tall; right = b.right ∙ ap (λ (bytes : List ℕ). sha256 bytes) same; bad = subst (λ (bytes : List ℕ). IsNoBlock (b.block.level - 1) b.block.fill bytes) same b.bad })
          | inr b ↦
              let among = subst (λ (xs : List Bptr). IsAmong b.leaf xs) reach_same (among_leaves b.leaf qs b.among) in
              let same = dir_agree.same b.leaf (among_hits b.leaf reach among) in
              inr (record { leaf = b.leaf; among = among; address = b.address; checksum = b.checksum; bad = no_leaf_before b.leaf same b.bad })
        ];
        damaged = λ at expected found is.
            let b = h.damaged at expected found is in
            let among = subst (λ (xs : List Bptr). IsAmong b.block xs) reach_same b.among in
            let same = dir_agree.same b.block (among_hits b.block reach among) in
            record { block = b.block; among = among_within b.block reach (blocks ++ reach) (within_back blocks reach) among; address = b.address; checksum = b.checksum; found_is = b.found_is ∙ ap (λ (bytes : List ℕ). sha256 bytes) same; differs = b.differs };
        resolved = λ at expected is stored. h.resolved at expected is dir_stored;
      }

  pub group_now : (has : Stored → Type 0) (r : Result Tree StoreErr) → IsOnce n → IsRising g.objects → IfOk r (λ u. Now has (λ m. StoresRecords qs n m dir u)) → IfOk r (λ u. Now has (λ m. WritesGroup s m g dir u))
  group_now has (Err e) once_n rising h = h
  group_now has (Ok u) once_n rising h = record { stored = h.stored; held = h.held; is = group_written h.stored u once_n rising h.is }
