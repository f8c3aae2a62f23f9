-- Streams that are written stay so while their blocks stay.
use Rattle.std.proofs.Common.{◌≡◌, ◌∙◌, ℕ, List, [], ◌++◌, refl, sym, subst, arith}
use Rattle.zr_base.specs.Words.{words}
use Rattle.zr_bptr.specs.declared.Bptr.{Bptr}
use Rattle.zr_store.specs.Store.{Stored, Swaps, Now, AreStored, one_at}
use Rattle.zr_tree.specs.Trees.{tree_reach}
use Rattle.zr_tree.proofs.Frames.{Agree}
use Rattle.zr_objset.proofs.Keeping.{tree_same}
use Rattle.zr_meta.specs.declared.Stream.{Stream}
use Rattle.zr_root.specs.Streams.{HasWords, StoresWords}
use Rattle.zr_root.specs.Appends.{Appends}
use Rattle.zr_root.proofs.Beside.{bytes_beside}
use Rattle.zr_commit.specs.Logs.{Rewrites}

-- ---- in a later store of the same blocks

-- what came and left is the same
pub swaps_still : (s m n : Stored) (out into : List Bptr) → Swaps s m out into → Swaps m n [] [] → Swaps s n out into
swaps_still s m n out into swapped moved = record {
  stored = λ weight. let e = swapped.stored weight in let f = moved.stored weight in omega (arith, e, f);
  kept = λ b free had.
      let e = swapped.stored (one_at b.at) in
      moved.kept b refl (omega (arith, e, free, had)) ∙ swapped.kept b free had;
}

module _ (s m n : Stored) (out : List Bptr) (stored : AreStored out s) (t : Stream) (ns : List ℕ) (swapped : Swaps s m out (tree_reach m t.tree)) (stands : HasWords m t ns) (moved : Swaps m n [] []) where
  agree : Agree m n (tree_reach m t.tree)
  agree = record {
    same = λ b met.
        let e = swapped.stored (one_at b.at) in
        let h = stored (one_at b.at) in
        moved.kept b refl (omega (arith, e, h, met));
  }

  same_reach : tree_reach n t.tree ≡ tree_reach m t.tree
  same_reach = (tree_same m n t.tree agree).same_reach

  came_still : Swaps s n out (tree_reach n t.tree)
  came_still = subst (λ (into : List Bptr). Swaps s n out into) (sym same_reach) (swaps_still s m n out (tree_reach m t.tree) swapped moved)

  stands_still : HasWords n t ns
  stands_still = record { count = stands.count; bytes = bytes_beside m n t.tree (words ns) (λ b met. agree.same b met) stands.bytes }

-- ---- what is held, once a later store of the same blocks is

pub now_rewritten : (had has : Stored → Type 0) (s : Stored) (was t : Stream) (ns : List ℕ) → AreStored (tree_reach s was.tree) s
    → ((m : Stored) → had m → Now has (λ n. Swaps m n [] [])) → Now had (λ m. Rewrites s m was t ns) → Now has (λ n. Rewrites s n was t ns)
now_rewritten had has s was t ns stored goes before =
    let later = goes before.stored before.held in
    let w = before.is in
    record {
      stored = later.stored;
      held = later.held;
      is = record {
        swaps = came_still s before.stored later.stored (tree_reach s was.tree) stored t ns w.swaps w.stands later.is;
        stands = stands_still s before.stored later.stored (tree_reach s was.tree) stored t ns w.swaps w.stands later.is;
      };
    }

pub now_stored : (had has : Stored → Type 0) (s : Stored) (t : Stream) (ns : List ℕ) → ((m : Stored) → had m → Now has (λ n. Swaps m n [] [])) → Now had (λ m. StoresWords s m t ns) → Now has (λ n. StoresWords s n t ns)
now_stored had has s t ns goes before =
    let later = goes before.stored before.held in
    let w = before.is in
    let none : AreStored [] s = λ weight. omega arith in
    record {
      stored = later.stored;
      held = later.held;
      is = record {
        came = came_still s before.stored later.stored [] none t ns w.came w.stands later.is;
        stands = stands_still s before.stored later.stored [] none t ns w.came w.stands later.is;
      };
    }

pub now_given : (had has : Stored → Type 0) (s : Stored) (out : List Bptr) → ((m : Stored) → had m → Now has (λ n. Swaps m n [] [])) → Now had (λ m. Swaps s m out []) → Now has (λ n. Swaps s n out [])
now_given had has s out goes before =
    let later = goes before.stored before.held in
    record { stored = later.stored; held = later.held; is = swaps_still s before.stored later.stored out [] before.is later.is }

-- ---- what a log becomes

-- a stream that stays
pub stays_written : (s : Stored) (t : Stream) (ns : List ℕ) → HasWords s t ns → Rewrites s s t t ns
stays_written s t ns has = record { swaps = record { stored = λ weight. refl; kept = λ b free met. refl }; stands = has }

-- words that are appended stand behind those that were there
pub appended : (had : Stored → Type 0) (s : Stored) (was t : Stream) (ns added : List ℕ) → Now had (λ n. Appends s n was t ns added) → Now had (λ n. Rewrites s n was t (ns ++ added))
appended had s was t ns added before = record { stored = before.stored; held = before.held; is = record { swaps = before.is.swaps; stands = before.is.stands } }
