-- Streams that are written in place of others.
use Rattle.std.proofs.Common.{◌∙◌, ◌^◌, ◌≤◌, ℕ, List, [], Result, Ok, Err, refl, arith, lit<}
use Rattle.std.specs.Prelude.{IfOk}
use Rattle.std.proofs.Math.Nat.{pow-le-pow_right}
use Rattle.zr_bptr.specs.declared.Ptr.{Ptr}
use Rattle.zr_bptr.specs.declared.Ptr.TheVariants.{Hole, At}
use Rattle.zr_store.specs.declared.StoreErr.{StoreErr}
use Rattle.zr_store.specs.Store.{Stored, Now, Swaps, one_at}
use Rattle.zr_tree.specs.Trees.{tree_reach}
use Rattle.zr_meta.specs.declared.Stream.{Stream}
use Rattle.zr_meta.specs.Heads.{IsTreeOf}
use Rattle.zr_root.specs.Streams.{StoresWords}
use Rattle.zr_root.proofs.Joining.{ceil_of}
use Rattle.zr_commit.specs.Logs.{Rewrites}

-- a stream has at most the words of a tree of the greatest height
pub few_words : (words height : ℕ) (root : Ptr) → IsTreeOf words height root → words ≤ 2 ^ 34
few_words words height Hole h = omega (arith, h.0)
few_words words height (At b) h =
    let low : height ≤ 5 = omega (arith, h.2, h.4.level) in
    let most : 32 ^ height ≤ 32 ^ 5 = pow-le-pow_right {n = 32} (lit< tt) low in
    let c = ceil_of words 512 (omega arith) in
    omega (arith, c.0, h.1.reaches, most)

-- where the old blocks left and those of the new stream came
pub rewritten : (has : Stored → Type 0) (s m : Stored) (was : Stream) (ns : List ℕ) (r : Result Stream StoreErr) → Swaps s m (tree_reach s was.tree) [] → IfOk r (λ stream. Now has (λ n. StoresWords m n stream ns)) → IfOk r (λ stream. Now has (λ n. Rewrites s n was stream ns))
rewritten has s m was ns (Err e) first h = h
rewritten has s m was ns (Ok stream) first h = record {
  stored = h.stored;
  held = h.held;
  is = record {
    swaps = record {
      stored = λ weight. let e = first.stored weight in let f = h.is.came.stored weight in omega (arith, e, f);
      kept = λ b free had.
          let e = first.stored (one_at b.at) in
          h.is.came.kept b refl (omega (arith, e, free, had)) ∙ first.kept b free had;
    };
    stands = h.is.stands;
  };
}
