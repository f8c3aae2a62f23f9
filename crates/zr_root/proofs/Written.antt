-- The bytes that were written stand in the tree.
use Rattle.std.proofs.Common.{◌≡◌, ◌*◌, ◌-◌, ◌<◌, ℕ, List, [], ◌++◌, length, map, get_or, refl, sym, ◌∙◌, ap, subst, arith}
use Rattle.std.specs.Prelude.{All}
use Rattle.std.specs.List.{sum_by}
use Rattle.std.specs.Int.{div_ceil}
use Rattle.std.specs.Simd.{first_chunks}
use Rattle.zr_base.specs.Words.{zeros}
use Rattle.zr_bptr.specs.declared.Bptr.{Bptr}
use Rattle.zr_bptr.specs.declared.Ptr.TheVariants.{At}
use Rattle.zr_bptr.specs.declared.Tree.{Tree}
use Rattle.sha2.specs.Sha256.{sha256}
use Rattle.zr_store.specs.Store.{Stored, Swaps, AreStored, Now, one_at}
use Rattle.zr_tree.specs.Trees.{slot, IsAmong, tree_reach}
use Rattle.zr_tree.proofs.Wholes.{among_hits}
use Rattle.zr_root.specs.Streams.{AreWhole, IsUnitAt, Joins, PutsLeaves, HasBytes, StoresBytes}
use Rattle.zr_root.proofs.Lists.{map_same, flat_pieces, long_chunks, all_from_map}
use Rattle.zr_root.proofs.Steps.{blocks_at, no_blocks, own_leaves, parts}
use Rattle.zr_root.proofs.Puts.{hit_at}

-- no tree block is there yet
pub none_held : (s : Stored) (bs : List Bptr) → AreStored (blocks_at s 0 bs) s
none_held s bs weight = let e = ap (sum_by weight) (no_blocks s bs) in omega (arith, e)

none_whole : (s : Stored) (bs : List Bptr) → AreWhole s (blocks_at s 0 bs)
none_whole s bs b among = absurd (let n = among_hits b [] (subst (IsAmong b) (no_blocks s bs) among) in omega (arith, n))

module _ (s0 s1 s2 : Stored) (t : Tree) (leaves : List Bptr) (pieces : List (List ℕ)) (puts : PutsLeaves pieces s0 s1 leaves) (joins : Joins 0 leaves s1 s2 t) where
  pub written_came : Swaps s0 s2 [] (tree_reach s2 t)
  written_came = record {
    stored = λ weight.
        let a = puts.came.stored weight in
        let j = joins.stored weight in
        let n = ap (sum_by weight) (no_blocks s1 leaves) in
        let l = ap (sum_by weight) (joins.leaves ∙ own_leaves s1 leaves) in
        let r = parts s2 t.height weight t.root in
        omega (arith, a, j, n, l, r);
    kept = λ b out stored. let a = puts.came.stored (one_at b.at) in joins.kept b (omega (arith, a, stored)) ∙ puts.came.kept b refl stored;
  }

  stays : (i : ℕ) (d : Bptr) → i < length leaves → s2.bytes (get_or leaves i d) ≡ s1.bytes (get_or leaves i d)
  stays i d lt = let a = puts.came.stored (one_at (get_or leaves i d).at) in let h = hit_at leaves i d lt in joins.kept (get_or leaves i d) (omega (arith, a, h))

  same_bytes : map s2.bytes leaves ≡ pieces
  same_bytes =
      map_same s1.bytes s2.bytes leaves stays ∙ puts.bytes

  pub written_bytes : (k : ℕ) (bytes all : List ℕ) → All (IsUnitAt 0) leaves → pieces ≡ first_chunks 4096 k all → length leaves ≡ k → k ≡ div_ceil (length bytes) 4096 → length all ≡ 4096 * k → all ≡ bytes ++ zeros (4096 * k - length bytes) → HasBytes s2 t bytes
  written_bytes k bytes all units cut count ceil long is = record {
    leaves = leaves;
    are_leaves = record {
      places = λ index. joins.places index ∙ ap (λ (j : ℕ). slot (map At leaves) j) (omega arith);
      units = units;
      whole = joins.whole (none_whole s1 leaves);
    };
    count = count ∙ ceil;
    long = all_from_map s2.bytes (λ (c : List ℕ). length c ≡ 4096) leaves (subst (All (λ (c : List ℕ). length c ≡ 4096)) (sym (same_bytes ∙ cut)) (long_chunks 4096 k all long));
    sums = λ i d lt. puts.sums i d lt ∙ sym (ap (λ (x : List ℕ). sha256 x) (stays i d lt));
    spelling = flat_pieces s2.bytes leaves 4096 k all long (same_bytes ∙ cut) ∙ is ∙ ap (λ (n : ℕ). bytes ++ zeros (4096 * n - length bytes)) (sym count);
  }

-- the same of a store that goes on
pub written_now : (had has : Stored → Type 0) (s : Stored) (t : Tree) (leaves tops : List Bptr) (pieces : List (List ℕ)) (k : ℕ) (bytes all : List ℕ) → tops ≡ leaves → Now had (λ n. PutsLeaves pieces s n leaves) → ((m : Stored) → had m → AreStored (blocks_at m 0 tops) m → Now has (λ n. Joins 0 tops m n t))
    → All (IsUnitAt 0) leaves → pieces ≡ first_chunks 4096 k all → length leaves ≡ k → k ≡ div_ceil (length bytes) 4096 → length all ≡ 4096 * k → all ≡ bytes ++ zeros (4096 * k - length bytes) → Now has (λ n. StoresBytes s n t bytes)
written_now had has s t leaves tops pieces k bytes all tops_are puts join units cut count ceil long is =
    let top = join puts.stored puts.held (none_held puts.stored tops) in
    let joins = subst (λ (xs : List Bptr). Joins 0 xs puts.stored top.stored t) tops_are top.is in
    record {
      stored = top.stored;
      held = top.held;
      is = record {
        came = written_came s puts.stored top.stored t leaves pieces puts.is joins;
        stands = written_bytes s puts.stored top.stored t leaves pieces puts.is joins k bytes all units cut count ceil long is;
      };
    }
