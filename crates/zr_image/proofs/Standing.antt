-- What stands in the leaves of a tree stays while its blocks have their bytes.
use Rattle.std.proofs.Common.{◌≡◌, ◌<◌, ◌-◌, ℕ, zero, suc, List, [], ◌∷◌, ◌++◌, length, get_or, refl, sym, ap, subst, ◌∙◌, arith}
use Rattle.std.specs.Prelude.{map, All}
use Rattle.std.specs.List.{flat_map}
use Rattle.std.proofs.lemmas.List.Elements.{All-get_or, All-from_get_or}
use Rattle.sha2.specs.Sha256.{sha256}
use Rattle.zr_bptr.specs.declared.Bptr.{Bptr}
use Rattle.zr_bptr.specs.declared.Ptr.{Ptr}
use Rattle.zr_bptr.specs.declared.Ptr.TheVariants.{At}
use Rattle.zr_bptr.specs.declared.Tree.{Tree}
use Rattle.zr_bptr.specs.Spelling.{SpellsTreeBlock}
use Rattle.zr_meta.specs.declared.Stream.{Stream}
use Rattle.zr_store.specs.Store.{Stored, hits, one_at}
use Rattle.zr_tree.specs.Trees.{tree_blocks, tree_reach, slot, own, IsAmong, IsWhole, KeepsTree}
use Rattle.zr_tree.proofs.Frames.{first_of, one_itself}
use Rattle.zr_tree.proofs.Others.{keeps}
use Rattle.zr_objset.proofs.Within.{blocks_within, leaf_within}
use Rattle.zr_root.specs.Streams.{AreWhole, HasLeaves, HasSum, HasBytes, HasWords}

slot_at : (bs : List Bptr) (i : ℕ) (d : Bptr) → i < length bs → slot (map At bs) i ≡ At (get_or bs i d)
slot_at [] i d lt = absurd (omega (arith, lt))
slot_at (b ∷ bs) zero d lt = refl
slot_at (b ∷ bs) (suc i) d lt = slot_at bs i d (omega (arith, lt))

flat_same : (f g : Bptr → List ℕ) (bs : List Bptr) → ((i : ℕ) (d : Bptr) → i < length bs → g (get_or bs i d) ≡ f (get_or bs i d)) → flat_map g bs ≡ flat_map f bs
flat_same f g [] same = refl
flat_same f g (b ∷ bs) same =
    ap (λ (xs : List ℕ). xs ++ flat_map g bs) (same 0 b (omega arith)) ∙ ap (λ (ys : List ℕ). f b ++ ys) (flat_same f g bs (λ i d lt. same (suc i) d (omega (arith, lt))))

module _ (s t : Stored) (tree : Tree) (agree : (b : Bptr) → 0 < hits (tree_reach s tree) b.at → t.bytes b ≡ s.bytes b) where
  tree_same : KeepsTree s t tree
  tree_same = keeps s t tree (λ b met. let w = blocks_within s tree (one_at b.at) in agree b (omega (arith, w, met)))

  whole_same : (b : Bptr) → t.bytes b ≡ s.bytes b → IsWhole s b → IsWhole t b
  whole_same b same whole = record {
    checksum = subst (λ (bytes : List ℕ). b.sum ≡ sha256 bytes) (sym same) whole.checksum;
    block = (whole.block.0, subst (λ (bytes : List ℕ). SpellsTreeBlock bytes (b.level - 1) b.fill whole.block.0) (sym same) whole.block.1);
  }

  all_whole : AreWhole s (tree_blocks s tree) → AreWhole t (tree_blocks t tree)
  all_whole whole = λ b among.
      let before = subst (λ (bs : List Bptr). IsAmong b bs) tree_same.same_blocks among in
      let a = before (one_at b.at) in
      let w = blocks_within s tree (one_at b.at) in
      whole_same b (agree b (omega (arith, a, w, one_itself b))) (whole b before)

  pub leaves_same : (leaves : List Bptr) → HasLeaves s tree leaves → (i : ℕ) (d : Bptr) → i < length leaves → t.bytes (get_or leaves i d) ≡ s.bytes (get_or leaves i d)
  leaves_same leaves has i d lt =
      let b = get_or leaves i d in
      let w = leaf_within s tree i (one_at b.at) in
      let e = ap (λ (p : Ptr). hits (own p) b.at) (has.places i ∙ slot_at leaves i d lt) in
      agree b (omega (arith, w, e, first_of b []))

  pub bytes_same : (bytes : List ℕ) → HasBytes s tree bytes → HasBytes t tree bytes
  bytes_same bytes has = record {
    leaves = has.leaves;
    are_leaves = record { places = λ index. tree_same.leaves index ∙ has.are_leaves.places index; units = has.are_leaves.units; whole = all_whole has.are_leaves.whole };
    count = has.count;
    long = long_same has.leaves has.long (leaves_same has.leaves has.are_leaves);
    sums = sums_same has.leaves has.sums (leaves_same has.leaves has.are_leaves);
    spelling = flat_same s.bytes t.bytes has.leaves (leaves_same has.leaves has.are_leaves) ∙ has.spelling;
  }
    where
      long_same : (leaves : List Bptr) → All (λ (b : Bptr). length (s.bytes b) ≡ 4096) leaves → ((i : ℕ) (d : Bptr) → i < length leaves → t.bytes (get_or leaves i d) ≡ s.bytes (get_or leaves i d)) → All (λ (b : Bptr). length (t.bytes b) ≡ 4096) leaves
      long_same [] long same = All-from_get_or (λ (b : Bptr). length (t.bytes b) ≡ 4096) [] (record { at = record { dev = 0; start = 0; len = 0 }; level = 0; birth = 0; fill = 0; sum = [] }) (λ i lt. absurd (omega (arith, lt)))
      long_same (b ∷ bs) long same =
          All-from_get_or (λ (x : Bptr). length (t.bytes x) ≡ 4096) (b ∷ bs) b (λ i lt. ap (λ (bytes : List ℕ). length bytes) (same i b lt) ∙ All-get_or (λ (x : Bptr). length (s.bytes x) ≡ 4096) (b ∷ bs) i b lt long)

      sums_same : (leaves : List Bptr) → All (HasSum s) leaves → ((i : ℕ) (d : Bptr) → i < length leaves → t.bytes (get_or leaves i d) ≡ s.bytes (get_or leaves i d)) → All (HasSum t) leaves
      sums_same [] sums same = All-from_get_or (HasSum t) [] (record { at = record { dev = 0; start = 0; len = 0 }; level = 0; birth = 0; fill = 0; sum = [] }) (λ i lt. absurd (omega (arith, lt)))
      sums_same (b ∷ bs) sums same =
          All-from_get_or (HasSum t) (b ∷ bs) b (λ i lt. subst (λ (bytes : List ℕ). (get_or (b ∷ bs) i b).sum ≡ sha256 bytes) (sym (same i b lt)) (All-get_or (HasSum s) (b ∷ bs) i b lt sums))

module _ (s t : Stored) (stream : Stream) (agree : (b : Bptr) → 0 < hits (tree_reach s stream.tree) b.at → t.bytes b ≡ s.bytes b) where
  pub words_same : (words : List ℕ) → HasWords s stream words → HasWords t stream words
  words_same words has = record { count = has.count; bytes = bytes_same s t stream.tree agree _ has.bytes }
