-- Trees whose blocks keep their bytes stand as they stood.
use Rattle.std.proofs.Common.{◌≡◌, ◌∙◌, ◌+◌, ℕ, List, [], ◌∷◌, ◌++◌, refl, ap, arith}
use Rattle.std.specs.Prelude.{All}
use Rattle.std.specs.List.{sum_by}
use Rattle.std.proofs.lemmas.Grind.{flat_map-append}
use Rattle.std.proofs.lemmas.List.Elements.{All-nil, All-cons, All-head, All-tail}
use Rattle.std.proofs.lemmas.List.Sums.{sum_by-append}
use Rattle.zr_bptr.specs.declared.Bptr.{Bptr}
use Rattle.zr_store.specs.Store.{Stored, one_at}
use Rattle.zr_tree.specs.Trees.{tree_reach}
use Rattle.zr_tree.proofs.Frames.{Agree, agree_front, agree_back}
use Rattle.zr_tree.proofs.Others.{keeps}
use Rattle.zr_root.proofs.Standing.{blocks_within}
use Rattle.zr_root.proofs.Beside.{bytes_beside}
use Rattle.zr_beside.specs.Beside.{Standing, Stands, blocks_of}

-- ---- lists of trees

pub all_front : {X : Type 0} (P : X → Type 0) (xs ys : List X) → All P (xs ++ ys) → All P xs
all_front P [] ys h = All-nil P
all_front P (x ∷ xs) ys h = All-cons P x xs (All-head P x (xs ++ ys) h) (all_front P xs ys (All-tail P x (xs ++ ys) h))

pub all_back : {X : Type 0} (P : X → Type 0) (xs ys : List X) → All P (xs ++ ys) → All P ys
all_back P [] ys h = h
all_back P (x ∷ xs) ys h = all_back P xs ys (All-tail P x (xs ++ ys) h)

-- the blocks of two parts
pub blocks_two : (s : Stored) (xs ys : List Standing) → blocks_of s (xs ++ ys) ≡ blocks_of s xs ++ blocks_of s ys
blocks_two s xs ys = flat_map-append (λ (w : Standing). tree_reach s w.tree) xs ys

-- what they weigh
pub weigh_two : (s : Stored) (xs ys : List Standing) (weight : Bptr → ℕ) → sum_by weight (blocks_of s (xs ++ ys)) ≡ sum_by weight (blocks_of s xs) + sum_by weight (blocks_of s ys)
weigh_two s xs ys weight = ap (sum_by weight) (blocks_two s xs ys) ∙ sum_by-append weight (blocks_of s xs) (blocks_of s ys)

-- what those of the first and of the rest weigh
pub weigh_first : (s : Stored) (w : Standing) (ws : List Standing) (weight : Bptr → ℕ) → sum_by weight (blocks_of s (w ∷ ws)) ≡ sum_by weight (tree_reach s w.tree) + sum_by weight (blocks_of s ws)
weigh_first s w ws weight = sum_by-append weight (tree_reach s w.tree) (blocks_of s ws)

-- ---- trees that stay

module _ (s n : Stored) where
  reach_stays : (w : Standing) → Agree s n (tree_reach s w.tree) → tree_reach n w.tree ≡ tree_reach s w.tree
  reach_stays w agree = (keeps s n w.tree (λ b met. let within = blocks_within s w.tree (one_at b.at) in agree.same b (omega (arith, within, met)))).same_reach

  pub blocks_stay : (all : List Standing) → Agree s n (blocks_of s all) → blocks_of n all ≡ blocks_of s all
  blocks_stay [] agree = refl
  blocks_stay (w ∷ ws) agree =
      let front = agree_front s n (tree_reach s w.tree) (blocks_of s ws) agree in
      let back = agree_back s n (tree_reach s w.tree) (blocks_of s ws) agree in
      ap (λ (bs : List Bptr). bs ++ blocks_of n ws) (reach_stays w front) ∙ ap (λ (bs : List Bptr). tree_reach s w.tree ++ bs) (blocks_stay ws back)

  pub all_stay : (all : List Standing) → Agree s n (blocks_of s all) → All (Stands s) all → All (Stands n) all
  all_stay [] agree stand = All-nil (Stands n)
  all_stay (w ∷ ws) agree stand =
      let front = agree_front s n (tree_reach s w.tree) (blocks_of s ws) agree in
      let back = agree_back s n (tree_reach s w.tree) (blocks_of s ws) agree in
      All-cons (Stands n) w ws (bytes_beside s n w.tree w.bytes front.same (All-head (Stands s) w ws stand)) (all_stay ws back (All-tail (Stands s) w ws stand))
