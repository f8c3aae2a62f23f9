-- Streams that are given back one after the other.
use Rattle.std.proofs.Common.{◌≡◌, ◌∙◌, ◌+◌, ◌<◌, ◌≤◌, ℕ, List, [], ◌∷◌, ◌++◌, length, take, drop, get_or, Result, sym, ap, subst, arith}
use Rattle.std.specs.List.{sum_by}
use Rattle.std.proofs.lemmas.List.{append-nil, length-append, take-append-drop}
use Rattle.std.proofs.lemmas.List.Sums.{sum_by-append}
use Rattle.std.proofs.lemmas.Grind.{flat_map-append}
use Rattle.zr_bptr.specs.declared.Bptr.{Bptr}
use Rattle.zr_store.specs.declared.StoreErr.{StoreErr}
use Rattle.zr_store.specs.Causes.{Account, Costs}
use Rattle.zr_store.proofs.Causes.{costs_then, costs_most}
use Rattle.zr_store.specs.Store.{Stored, Now, Swaps, AreStored, IsOnce}
use Rattle.zr_tree.specs.Trees.{tree_reach, tree_blocks, TellsOf}
use Rattle.zr_tree.proofs.Frames.{Agree}
use Rattle.zr_tree.proofs.Wholes.{tells_within, within_back}
use Rattle.zr_meta.specs.declared.Stream.{Stream}
use Rattle.zr_objset.proofs.Keeping.{beside, tree_same}
use Rattle.zr_root.proofs.Puts.{taken}
use Rattle.zr_root.proofs.Standing.{blocks_within}
use Rattle.zr_commit.specs.Logs.{streams_reach}
use Rattle.zr_commit.proofs.Swapping.{swaps_both, rest_stored, tells_same}

abbrev reach_of : Stored → Stream → List Bptr
reach_of s t = tree_reach s t.tree

module _ (s n : Stored) (front : List Stream) (t : Stream) (once : IsOnce s) (held : AreStored (streams_reach s (front ++ t ∷ [])) s) (so_far : Swaps s n (streams_reach s front) []) where
  split : streams_reach s (front ++ t ∷ []) ≡ streams_reach s front ++ reach_of s t
  split = flat_map-append (reach_of s) front (t ∷ []) ∙ ap (λ (ys : List Bptr). streams_reach s front ++ ys) (append-nil (reach_of s t))

  there : AreStored (streams_reach s front ++ reach_of s t) s
  there = subst (λ (xs : List Bptr). AreStored xs s) split held

  agree : Agree s n (reach_of s t)
  agree = beside s n (streams_reach s front) [] (reach_of s t) so_far once there

  same : reach_of n t ≡ reach_of s t
  same = (tree_same s n t.tree agree).same_reach

  left : AreStored (reach_of s t) n
  left = subst (λ (xs : List Bptr). AreStored xs n) (append-nil (reach_of s t)) (rest_stored s n (streams_reach s front) [] (reach_of s t) so_far there)

  after_stored : AreStored (reach_of n t) n
  after_stored = subst (λ (xs : List Bptr). AreStored xs n) (sym same) left

  after_freed : (m : Stored) → Swaps n m (reach_of n t) [] → Swaps s m (streams_reach s (front ++ t ∷ [])) []
  after_freed m one =
      let second = subst (λ (xs : List Bptr). Swaps n m xs []) same one in
      subst (λ (xs : List Bptr). Swaps s m xs []) (sym split) (swaps_both s n m (streams_reach s front) [] (reach_of s t) [] so_far second)

  after_long : length (streams_reach s (front ++ t ∷ [])) ≡ length (streams_reach s front) + length (reach_of n t)
  after_long =
      let a = ap (λ (xs : List Bptr). length xs) split in
      let b = length-append (streams_reach s front) (reach_of s t) in
      let c = ap (λ (xs : List Bptr). length xs) same in
      omega (arith, a, b, c)

  after_tells : {T : Type 0} (r : Result T StoreErr) → TellsOf n (tree_blocks n t.tree) r → TellsOf s (streams_reach s (front ++ t ∷ [])) r
  after_tells {T} r h =
      let all = tells_within n (tree_blocks n t.tree) (reach_of n t) r (blocks_within n t.tree) h in
      let here = subst (λ (xs : List Bptr). TellsOf n xs r) same all in
      subst (λ (xs : List Bptr). TellsOf s xs r) (sym split)
      (tells_within s (reach_of s t) (streams_reach s front ++ reach_of s t) r (within_back (streams_reach s front) (reach_of s t)) (tells_same s n (reach_of s t) r agree left here))

parts_weigh : (s : Stored) (ts : List Stream) (i : ℕ) (weight : Bptr → ℕ) → sum_by weight (streams_reach s (take i ts)) ≤ sum_by weight (streams_reach s ts)
parts_weigh s ts i weight =
    let parts = ap (λ (xs : List Stream). sum_by weight (streams_reach s xs)) (sym (take-append-drop i ts)) ∙ (ap (λ (bs : List Bptr). sum_by weight bs) (flat_map-append (reach_of s) (take i ts) (drop i ts)) ∙ sum_by-append weight (streams_reach s (take i ts)) (streams_reach s (drop i ts))) in
    omega (arith, parts)

pub parts_long : (s : Stored) (ts : List Stream) (i : ℕ) → length (streams_reach s (take i ts)) ≤ length (streams_reach s ts)
parts_long s ts i =
    let parts = ap (λ (xs : List Stream). length (streams_reach s xs)) (sym (take-append-drop i ts)) ∙ (ap (λ (bs : List Bptr). length bs) (flat_map-append (reach_of s) (take i ts) (drop i ts)) ∙ length-append (streams_reach s (take i ts)) (streams_reach s (drop i ts))) in
    omega (arith, parts)

module _ (had : Stored → Type 0) (s : Stored) (ts : List Stream) (i : ℕ) (d : Stream) (lt : i < length ts) (once : IsOnce s) (held : AreStored (streams_reach s ts) s) (before : Now had (λ n. Swaps s n (streams_reach s (take i ts)) [])) where
  more : take (i + 1) ts ≡ take i ts ++ get_or ts i d ∷ []
  more = taken d ts i lt

  up_to : AreStored (streams_reach s (take i ts ++ get_or ts i d ∷ [])) s
  up_to = subst (λ (xs : List Stream). AreStored (streams_reach s xs) s) more (λ weight. let h = held weight in let w = parts_weigh s ts (i + 1) weight in omega (arith, h, w))

  pub stream_stored : AreStored (tree_reach before.stored (get_or ts i d).tree) before.stored
  stream_stored = after_stored s before.stored (take i ts) (get_or ts i d) once up_to before.is

  pub stream_freed : (has : Stored → Type 0) → Now has (λ m. Swaps before.stored m (tree_reach before.stored (get_or ts i d).tree) []) → Now has (λ m. Swaps s m (streams_reach s (take (i + 1) ts)) [])
  stream_freed has one = record {
    stored = one.stored;
    held = one.held;
    is = subst (λ (xs : List Stream). Swaps s one.stored (streams_reach s xs) []) (sym more) (after_freed s before.stored (take i ts) (get_or ts i d) once up_to before.is one.stored one.is);
  }

  pub stream_long : length (streams_reach s (take (i + 1) ts)) ≡ length (streams_reach s (take i ts)) + length (tree_reach before.stored (get_or ts i d).tree)
  stream_long = ap (λ (xs : List Stream). length (streams_reach s xs)) more ∙ after_long s before.stored (take i ts) (get_or ts i d) once up_to before.is

  pub stream_tells : {T : Type 0} (r : Result T StoreErr) → TellsOf before.stored (tree_blocks before.stored (get_or ts i d).tree) r → TellsOf s (streams_reach s ts) r
  stream_tells {T} r h =
      tells_within s (streams_reach s (take (i + 1) ts)) (streams_reach s ts) r (parts_weigh s ts (i + 1))
      (subst (λ (xs : List Stream). TellsOf s (streams_reach s xs) r) (sym more) (after_tells s before.stored (take i ts) (get_or ts i d) once up_to before.is r h))

  pub stream_costs : {a b c : Account} → Costs 0 (length (streams_reach s (take i ts))) a b → Costs 0 (length (tree_reach before.stored (get_or ts i d).tree)) b c → Costs 0 (length (streams_reach s (take (i + 1) ts))) a c
  stream_costs {a} {b} {c} first second = let long = stream_long in costs_most 0 (length (streams_reach s (take (i + 1) ts))) (omega arith) (omega (arith, long)) (costs_then first second)

  pub stream_most : {a b c : Account} → Costs 0 (length (streams_reach s (take i ts))) a b → Costs 0 (length (tree_reach before.stored (get_or ts i d).tree)) b c → Costs 0 (length (streams_reach s ts)) a c
  stream_most {a} {b} {c} first second = costs_most 0 (length (streams_reach s ts)) (omega arith) (parts_long s ts (i + 1)) (stream_costs first second)
