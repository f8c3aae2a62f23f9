-- Errors that are met after blocks were put tell of blocks as they were before.
use Rattle.std.proofs.Common.{◌≡◌, ◌∙◌, ◌-◌, inl, inr, ℕ, List, [], Result, refl, sym, ap, subst, arith}
use Rattle.sha2.specs.Sha256.{sha256}
use Rattle.zr_bptr.specs.declared.Bptr.{Bptr}
use Rattle.zr_bptr.specs.declared.Ptr.{Ptr}
use Rattle.zr_bptr.specs.declared.Tree.{Tree}
use Rattle.zr_bptr.specs.Spelling.{SpellsRecords}
use Rattle.zr_store.specs.Store.{Stored, Swaps, AreStored, one_at}
use Rattle.zr_store.specs.declared.StoreErr.{StoreErr}
use Rattle.zr_tree.specs.Blocks.{IsNoBlock}
use Rattle.zr_tree.specs.Trees.{own, tree_at, tree_blocks, tree_reach, IsTreeWay, TellsOf}
use Rattle.zr_tree.proofs.Frames.{Agree, frame}
use Rattle.zr_tree.proofs.Wholes.{Within, among_hits}
use Rattle.zr_objset.specs.Errors.{TellsOfLeaves, IsNoLeaf}
use Rattle.zr_objset.proofs.Within.{within_same, leaf_within, blocks_within}
use Rattle.zr_objset.proofs.Keeping.{tree_same}
use Rattle.zr_objset.proofs.Tells.{tells_more, of_tree}

-- where blocks only came, those that were stored keep their bytes
pub agrees : (s n : Stored) (into xs : List Bptr) → Swaps s n [] into → AreStored xs s → Agree s n xs
agrees s n into xs swaps held = record { same = λ b h. let d = held (one_at b.at) in swaps.kept b refl (omega (arith, d, h)) }

still_stored : (s n : Stored) (into xs : List Bptr) → Swaps s n [] into → AreStored xs s → AreStored xs n
still_stored s n into xs swaps held weight = let d = held weight in let e = swaps.stored weight in omega (arith, d, e)

no_leaf_before : (s n : Stored) (b : Bptr) → n.bytes b ≡ s.bytes b → IsNoLeaf n b → IsNoLeaf s b
no_leaf_before s n b same bad = (bad.0 ∙ ap (λ (bytes : List ℕ). sha256 bytes) same, λ records spells. bad.1 records (subst (λ (bytes : List ℕ). SpellsRecords bytes records) (sym same) spells))

tells_before : {T : Type 0} (s n : Stored) (xs leaves : List Bptr) (r : Result T StoreErr) → Agree s n xs → AreStored xs n → Within leaves xs → TellsOfLeaves n xs leaves (IsNoLeaf n) r → TellsOfLeaves s xs leaves (IsNoLeaf s) r
tells_before s n xs leaves r agree stored within h = record {
  malformed = λ at expected is. elim (h.malformed at expected is) [
    | inl b ↦
        let same = agree.same b.block (among_hits b.block xs b.among) in
        inl (record { block = b.block; among = b.among; address = b.address; checksum = b.checksum; tall = b.tall; right = b.right ∙ ap (λ (bytes : List ℕ). sha256 bytes) same; bad = subst (λ (bytes : List ℕ). IsNoBlock (b.block.level - 1) b.block.fill bytes) same b.bad })
    | inr b ↦
        let w = within (one_at b.leaf.at) in
        let a = among_hits b.leaf leaves b.among in
        let same = agree.same b.leaf (omega (arith, w, a)) in
        inr (record { leaf = b.leaf; among = b.among; address = b.address; checksum = b.checksum; bad = no_leaf_before s n b.leaf same b.bad })
  ];
  damaged = λ at expected found is.
      let b = h.damaged at expected found is in
      let same = agree.same b.block (among_hits b.block xs b.among) in
      record { block = b.block; among = b.among; address = b.address; checksum = b.checksum; found_is = b.found_is ∙ ap (λ (bytes : List ℕ). sha256 bytes) same; differs = b.differs };
  resolved = λ at expected is held. h.resolved at expected is stored;
}

none_within : (xs : List Bptr) → Within [] xs
none_within xs weight = omega arith

-- an error of the directory's tree
pub early_tree : {T : Type 0} (s n : Stored) (into leaves : List Bptr) (dir : Tree) (r : Result T StoreErr) → Swaps s n [] into → AreStored (tree_reach s dir) s → TellsOf n (tree_blocks n dir) r → TellsOfLeaves s (tree_reach s dir) leaves (IsNoLeaf s) r
early_tree s n into leaves dir r swaps held tells =
    let reach = tree_reach s dir in
    let agree = agrees s n into reach swaps held in
    let here = of_tree n dir [] (IsNoLeaf n) r tells in
    let there = subst (λ (xs : List Bptr). TellsOfLeaves n xs [] (IsNoLeaf n) r) (tree_same s n dir agree).same_reach here in
    tells_more s reach reach [] leaves (IsNoLeaf s) (IsNoLeaf s) r (within_same reach) (none_within leaves) (λ x bad. bad) (tells_before s n reach [] r agree (still_stored s n into reach swaps held) (none_within reach) there)

-- an error of one of its leaves
pub early_leaf : {T : Type 0} (s n : Stored) (into leaves : List Bptr) (dir : Tree) (place : ℕ) (p : Ptr) (r : Result T StoreErr) → Swaps s n [] into → AreStored (tree_reach s dir) s → p ≡ tree_at s dir place → Within (own (tree_at s dir place)) leaves
    → TellsOfLeaves n (own p) (own p) (IsNoLeaf n) r → TellsOfLeaves s (tree_reach s dir) leaves (IsNoLeaf s) r
early_leaf s n into leaves dir place p r swaps held is among tells =
    let reach = tree_reach s dir in
    let q = tree_at s dir place in
    let agree = agrees s n into reach swaps held in
    let within = leaf_within s dir place in
    let here = subst (λ (x : Ptr). TellsOfLeaves n (own x) (own x) (IsNoLeaf n) r) is tells in
    let there = tells_more n (own q) reach (own q) (own q) (IsNoLeaf n) (IsNoLeaf n) r within (within_same (own q)) (λ x bad. bad) here in
    tells_more s reach reach (own q) leaves (IsNoLeaf s) (IsNoLeaf s) r (within_same reach) among (λ x bad. bad) (tells_before s n reach (own q) r agree (still_stored s n into reach swaps held) within there)

-- the leaf at an index is as it was
pub same_leaf : (s n : Stored) (into : List Bptr) (dir : Tree) (place : ℕ) → Swaps s n [] into → AreStored (tree_reach s dir) s → tree_at n dir place ≡ tree_at s dir place
same_leaf s n into dir place swaps held = (tree_same s n dir (agrees s n into (tree_reach s dir) swaps held)).leaves place

-- a way that is whole was whole before the blocks came
pub same_way : (s n : Stored) (into : List Bptr) (dir : Tree) (place : ℕ) → Swaps s n [] into → AreStored (tree_reach s dir) s → IsTreeWay n dir place → IsTreeWay s dir place
same_way s n into dir place swaps held way lt =
    let agree = agrees s n into (tree_reach s dir) swaps held in
    let same : Agree s n (tree_blocks s dir) = record { same = λ b h. let w = blocks_within s dir (one_at b.at) in agree.same b (omega (arith, w, h)) } in
    (frame s n dir.height dir.root same).ways place (way lt)
