-- Trees beside those that left a store and those that came.
use Rattle.std.proofs.Common.{◌≡◌, ◌<◌, ◌≤◌, ℕ, List, [], ◌∷◌, ◌++◌, sym, ◌∙◌, ap, subst, arith}
use Rattle.std.specs.Prelude.{All}
use Rattle.std.specs.List.{sum_by}
use Rattle.std.proofs.lemmas.List.{append-nil}
use Rattle.std.proofs.lemmas.List.Elements.{All-nil, All-cons, All-head, All-append}
use Rattle.zr_bptr.specs.declared.Bptr.{Bptr}
use Rattle.zr_bptr.specs.declared.Tree.{Tree}
use Rattle.zr_store.specs.Store.{Stored, AreStored, IsOnce, Swaps, hits, one_at}
use Rattle.zr_tree.specs.Trees.{tree_reach}
use Rattle.zr_tree.proofs.Frames.{Agree}
use Rattle.zr_root.specs.Streams.{HasBytes}
use Rattle.zr_beside.specs.Beside.{Standing, StandBeside, StandIn, Stands, blocks_of, of_tree}
use Rattle.zr_beside.proofs.Staying.{all_front, all_back, blocks_two, weigh_two, weigh_first, blocks_stay, all_stay}

-- ---- one of them

pub one_stored : (s : Stored) (front back : List Standing) (w : Standing) → StandBeside s (front ++ w ∷ back) → AreStored (tree_reach s w.tree) s
one_stored s front back w h weight =
    let held = h.stored weight in
    let a = weigh_two s front (w ∷ back) weight in
    let b = weigh_first s w back weight in
    omega (arith, held, a, b)

pub one_bytes : (s : Stored) (front back : List Standing) (w : Standing) → StandBeside s (front ++ w ∷ back) → HasBytes s w.tree w.bytes
one_bytes s front back w h = All-head (Stands s) w back (all_back (Stands s) front (w ∷ back) h.stand)

-- ---- the others

module _ (s n : Stored) (front gone back : List Standing) (into : List Bptr) (h : StandIn s (front ++ (gone ++ back))) (swaps : Swaps s n (blocks_of s gone) into) where
  front_agrees : Agree s n (blocks_of s front)
  front_agrees = record {
    same = λ b met.
        let held = h.stored (one_at b.at) in
        let one = h.once b.at in
        let x = weigh_two s front (gone ++ back) (one_at b.at) in
        let y = weigh_two s gone back (one_at b.at) in
        swaps.kept b (omega (arith, held, one, x, y, met)) (omega (arith, held, x, met));
  }

  back_agrees : Agree s n (blocks_of s back)
  back_agrees = record {
    same = λ b met.
        let held = h.stored (one_at b.at) in
        let one = h.once b.at in
        let x = weigh_two s front (gone ++ back) (one_at b.at) in
        let y = weigh_two s gone back (one_at b.at) in
        swaps.kept b (omega (arith, held, one, x, y, met)) (omega (arith, held, x, y, met));
  }

  front_same : blocks_of n front ≡ blocks_of s front
  front_same = blocks_stay s n front front_agrees

  back_same : blocks_of n back ≡ blocks_of s back
  back_same = blocks_stay s n back back_agrees

  pub same_blocks : blocks_of n (front ++ back) ≡ blocks_of s (front ++ back)
  same_blocks = blocks_two n front back ∙ ap (λ (bs : List Bptr). bs ++ blocks_of n back) front_same ∙ ap (λ (bs : List Bptr). blocks_of s front ++ bs) back_same ∙ sym (blocks_two s front back)

  front_stands : All (Stands n) front
  front_stands = all_stay s n front front_agrees (all_front (Stands s) front (gone ++ back) h.stand)

  back_stands : All (Stands n) back
  back_stands = all_stay s n back back_agrees (all_back (Stands s) gone back (all_back (Stands s) front (gone ++ back) h.stand))

-- all trees of a store are some
pub in_it : (s : Stored) (all : List Standing) → StandBeside s all → StandIn s all
in_it s all h = record { stored = h.stored; once = h.once; stand = h.stand }

module _ (s n : Stored) (front gone came back : List Standing) (h : StandIn s (front ++ (gone ++ back))) (swaps : Swaps s n (blocks_of s gone) (blocks_of n came)) where
  all_stored : AreStored (blocks_of n (front ++ (came ++ back))) n
  all_stored weight =
      let held = h.stored weight in
      let swapped = swaps.stored weight in
      let x = weigh_two s front (gone ++ back) weight in
      let y = weigh_two s gone back weight in
      let u = weigh_two n front (came ++ back) weight in
      let v = weigh_two n came back weight in
      let f = ap (λ (bs : List Bptr). sum_by weight bs) (front_same s n front gone back (blocks_of n came) h swaps) in
      let g = ap (λ (bs : List Bptr). sum_by weight bs) (back_same s n front gone back (blocks_of n came) h swaps) in
      omega (arith, held, swapped, x, y, u, v, f, g)

  all_whole : ((weight : Bptr → ℕ) → sum_by weight s.pointers ≤ sum_by weight (blocks_of s (front ++ (gone ++ back)))) → (weight : Bptr → ℕ) → sum_by weight n.pointers ≤ sum_by weight (blocks_of n (front ++ (came ++ back)))
  all_whole whole weight =
      let held = whole weight in
      let swapped = swaps.stored weight in
      let x = weigh_two s front (gone ++ back) weight in
      let y = weigh_two s gone back weight in
      let u = weigh_two n front (came ++ back) weight in
      let v = weigh_two n came back weight in
      let f = ap (λ (bs : List Bptr). sum_by weight bs) (front_same s n front gone back (blocks_of n came) h swaps) in
      let g = ap (λ (bs : List Bptr). sum_by weight bs) (back_same s n front gone back (blocks_of n came) h swaps) in
      omega (arith, held, swapped, x, y, u, v, f, g)

  all_stand : All (Stands n) came → All (Stands n) (front ++ (came ++ back))
  all_stand stand =
      let first = front_stands s n front gone back (blocks_of n came) h swaps in
      let last = back_stands s n front gone back (blocks_of n came) h swaps in
      All-append (Stands n) front (came ++ back) first (All-append (Stands n) came back stand last)

  pub others_in : IsOnce n → All (Stands n) came → StandIn n (front ++ (came ++ back))
  others_in once stand = record { stored = all_stored; once = once; stand = all_stand stand }

module _ (s n : Stored) (front gone came back : List Standing) (h : StandBeside s (front ++ (gone ++ back))) (swaps : Swaps s n (blocks_of s gone) (blocks_of n came)) where
  abbrev among : StandIn s (front ++ (gone ++ back))
  among = in_it s (front ++ (gone ++ back)) h

  pub others : IsOnce n → All (Stands n) came → StandBeside n (front ++ (came ++ back))
  others once stand = record {
    stored = all_stored s n front gone came back among swaps;
    whole = all_whole s n front gone came back among swaps h.whole;
    once = once;
    stand = all_stand s n front gone came back among swaps stand;
  }

-- ---- one tree in the place of another, or of none

-- the blocks of one tree alone
blocks_of_one : (s : Stored) (w : Standing) → tree_reach s w.tree ≡ blocks_of s (w ∷ [])
blocks_of_one s w = sym (append-nil (tree_reach s w.tree))

stand_one : (n : Stored) (w : Standing) → HasBytes n w.tree w.bytes → All (Stands n) (w ∷ [])
stand_one n w has = All-cons (Stands n) w [] has (All-nil (Stands n))

pub replaced : (s n : Stored) (front back : List Standing) (w : Standing) (t : Tree) (bytes : List ℕ) → StandBeside s (front ++ w ∷ back) → IsOnce n → Swaps s n (tree_reach s w.tree) (tree_reach n t) → HasBytes n t bytes → StandBeside n (front ++ of_tree t bytes ∷ back)
replaced s n front back w t bytes h once swaps has =
    let out = subst (λ (bs : List Bptr). Swaps s n bs (tree_reach n t)) (blocks_of_one s w) swaps in
    let both = subst (λ (bs : List Bptr). Swaps s n (blocks_of s (w ∷ [])) bs) (blocks_of_one n (of_tree t bytes)) out in
    others s n front (w ∷ []) (of_tree t bytes ∷ []) back h both once (stand_one n (of_tree t bytes) has)

pub given_back : (s n : Stored) (front gone back : List Standing) → StandBeside s (front ++ (gone ++ back)) → IsOnce n → Swaps s n (blocks_of s gone) [] → StandBeside n (front ++ back)
given_back s n front gone back h once swaps = others s n front gone [] back h swaps once (All-nil (Stands n))

-- the same of some trees of a store
pub given_back_in : (s n : Stored) (front gone back : List Standing) → StandIn s (front ++ (gone ++ back)) → IsOnce n → Swaps s n (blocks_of s gone) [] → StandIn n (front ++ back)
given_back_in s n front gone back h once swaps = others_in s n front gone [] back h swaps once (All-nil (Stands n))

pub comes_in : (s n : Stored) (front back : List Standing) (t : Tree) (bytes : List ℕ) → StandIn s (front ++ back) → IsOnce n → Swaps s n [] (tree_reach n t) → HasBytes n t bytes → StandIn n (front ++ of_tree t bytes ∷ back)
comes_in s n front back t bytes h once swaps has =
    let into = subst (λ (bs : List Bptr). Swaps s n [] bs) (blocks_of_one n (of_tree t bytes)) swaps in
    others_in s n front [] (of_tree t bytes ∷ []) back h into once (stand_one n (of_tree t bytes) has)

pub comes : (s n : Stored) (front back : List Standing) (t : Tree) (bytes : List ℕ) → StandBeside s (front ++ back) → IsOnce n → Swaps s n [] (tree_reach n t) → HasBytes n t bytes → StandBeside n (front ++ of_tree t bytes ∷ back)
comes s n front back t bytes h once swaps has =
    let into = subst (λ (bs : List Bptr). Swaps s n [] bs) (blocks_of_one n (of_tree t bytes)) swaps in
    others s n front [] (of_tree t bytes ∷ []) back h into once (stand_one n (of_tree t bytes) has)

-- ---- all of them

module _ (s n : Stored) (all : List Standing) (h : StandBeside s all) (bytes : (b : Bptr) → 0 < hits s.pointers b.at → n.bytes b ≡ s.bytes b) where
  agree : Agree s n (blocks_of s all)
  agree = record { same = λ b met. bytes b (let held = h.stored (one_at b.at) in omega (arith, held, met)) }

  pub all_same : blocks_of n all ≡ blocks_of s all
  all_same = blocks_stay s n all agree

  pub stay : n.pointers ≡ s.pointers → StandBeside n all
  stay same = record {
    stored = λ weight.
        let held = h.stored weight in
        let a = ap (λ (bs : List Bptr). sum_by weight bs) all_same in
        let b = ap (λ (bs : List Bptr). sum_by weight bs) same in
        omega (arith, held, a, b);
    whole = λ weight.
        let held = h.whole weight in
        let a = ap (λ (bs : List Bptr). sum_by weight bs) all_same in
        let b = ap (λ (bs : List Bptr). sum_by weight bs) same in
        omega (arith, held, a, b);
    once = λ at. let one = h.once at in let b = ap (λ (bs : List Bptr). hits bs at) same in omega (arith, one, b);
    stand = all_stay s n all agree h.stand;
  }

pub reordered : (s : Stored) (front a b back : List Standing) → StandBeside s (front ++ (a ++ (b ++ back))) → StandBeside s (front ++ (b ++ (a ++ back)))
reordered s front a b back h =
    let rest = all_back (Stands s) front (a ++ (b ++ back)) h.stand in
    let after = all_back (Stands s) a (b ++ back) rest in
    record {
      stored = λ weight.
          let held = h.stored weight in
          let x = weigh_two s front (a ++ (b ++ back)) weight in
          let y = weigh_two s a (b ++ back) weight in
          let z = weigh_two s b back weight in
          let u = weigh_two s front (b ++ (a ++ back)) weight in
          let v = weigh_two s b (a ++ back) weight in
          let w = weigh_two s a back weight in
          omega (arith, held, x, y, z, u, v, w);
      whole = λ weight.
          let held = h.whole weight in
          let x = weigh_two s front (a ++ (b ++ back)) weight in
          let y = weigh_two s a (b ++ back) weight in
          let z = weigh_two s b back weight in
          let u = weigh_two s front (b ++ (a ++ back)) weight in
          let v = weigh_two s b (a ++ back) weight in
          let w = weigh_two s a back weight in
          omega (arith, held, x, y, z, u, v, w);
      once = h.once;
      stand =
          All-append (Stands s) front (b ++ (a ++ back)) (all_front (Stands s) front (a ++ (b ++ back)) h.stand)
          (All-append (Stands s) b (a ++ back) (all_front (Stands s) b back after) (All-append (Stands s) a back (all_front (Stands s) a (b ++ back) rest) (all_back (Stands s) b back after)));
    }
