-- One block more.
use Rattle.std.proofs.Common.{◌≡◌, ◌+◌, ◌<◌, ℕ, zero, suc, List, [], ◌∷◌, ◌++◌, length, map, get_or, take, take-suc, refl, sym, ◌∙◌, ap, subst, arith}
use Rattle.std.proofs.lemmas.List.{map-append}
use Rattle.std.proofs.lemmas.List.Sums.{sum_by-append, sum_by-cons}
use Rattle.std.proofs.lemmas.List.Elements.{All-push}
use Rattle.zr_bptr.specs.declared.Bptr.{Bptr}
use Rattle.zr_bptr.specs.declared.Ptr.{Ptr}
use Rattle.sha2.specs.Sha256.{sha256}
use Rattle.zr_store.specs.Store.{Stored, Swaps, Puts, Now, IsBlockOf, IsPointerTo, hits, one_at}
use Rattle.zr_tree.specs.Trees.{IsWhole}
use Rattle.zr_tree.specs.Blocks.{pointers_in}
use Rattle.zr_tree.proofs.Frames.{first_of}
use Rattle.zr_tree.proofs.Wholes.{whole_again, put_whole}
use Rattle.zr_root.specs.Streams.{PutsBlock, PutsBlocks, PutsLeaves, HasSum}
use Rattle.zr_root.proofs.Lists.{map_same}

pub hit_at : (bs : List Bptr) (i : ℕ) (d : Bptr) → i < length bs → 0 < hits bs (get_or bs i d).at
hit_at [] i d lt = absurd (omega arith)
hit_at (b ∷ bs) zero d lt = first_of b bs
hit_at (b ∷ bs) (suc i) d lt =
    let rest = hit_at bs i d (omega (arith, lt)) in
    omega (arith, rest, sum_by-cons (one_at (get_or bs i d).at) b bs)

pub came_none : (s : Stored) → Swaps s s [] []
came_none s = record { stored = λ weight. refl; kept = λ b out stored. refl }

module _ (a b c : Stored) (bs : List Bptr) (x : Bptr) (so_far : Swaps a b [] bs) (one : Swaps b c [] (x ∷ [])) where
  pub came_more : Swaps a c [] (bs ++ x ∷ [])
  came_more = record {
    stored = λ weight. let e = so_far.stored weight in let f = one.stored weight in omega (arith, e, f, sum_by-append weight bs (x ∷ []));
    kept = λ q out stored. let e = so_far.stored (one_at q.at) in one.kept q refl (omega (arith, e, stored)) ∙ so_far.kept q refl stored;
  }

  -- those before keep their bytes
  pub bytes_stay : (i : ℕ) (d : Bptr) → i < length bs → c.bytes (get_or bs i d) ≡ b.bytes (get_or bs i d)
  bytes_stay i d lt = let e = so_far.stored (one_at (get_or bs i d).at) in let h = hit_at bs i d lt in one.kept (get_or bs i d) refl (omega (arith, e, h))

  pub map_more : {Y : Type 0} (f : List ℕ → Y) (ys : List Y) (y : Y) → map (λ q. f (b.bytes q)) bs ≡ ys → f (c.bytes x) ≡ y → map (λ q. f (c.bytes q)) (bs ++ x ∷ []) ≡ ys ++ y ∷ []
  map_more {Y} f ys y before is =
      map-append (λ (q : Bptr). f (c.bytes q)) bs (x ∷ [])
      ∙ ap (λ (zs : List Y). zs ++ f (c.bytes x) ∷ []) (map_same (λ (q : Bptr). f (b.bytes q)) (λ (q : Bptr). f (c.bytes q)) bs (λ i d lt. ap f (bytes_stay i d lt)) ∙ before)
      ∙ ap (λ (z : Y). ys ++ z ∷ []) is

pub none_put : (below : ℕ) (s : Stored) (tops : List Bptr) → tops ≡ [] → PutsBlocks below [] s s tops
none_put below s tops none = subst (PutsBlocks below [] s s) (sym none) (record { came = came_none s; pointers = refl; whole = λ i d lt. absurd (omega arith) })

pub block_more : (below : ℕ) (pieces : List (List Ptr)) (piece : List Ptr) (a b c : Stored) (tops : List Bptr) (x : Bptr) → PutsBlocks below pieces a b tops → PutsBlock below piece b c x → PutsBlocks below (pieces ++ piece ∷ []) a c (tops ++ x ∷ [])
block_more below pieces piece a b c tops x so_far one = record {
  came = came_more a b c tops x so_far.came one.came;
  pointers = map_more a b c tops x so_far.came one.came pointers_in pieces piece so_far.pointers one.pointers_are;
  whole = All-push (IsWhole c) tops x (λ i d lt. whole_again b c (get_or tops i d) (bytes_stay a b c tops x so_far.came one.came i d lt) (so_far.whole i d lt)) one.whole;
}

pub no_leaf_put : (s : Stored) (leaves : List Bptr) → leaves ≡ [] → PutsLeaves [] s s leaves
no_leaf_put s leaves none = subst (PutsLeaves [] s s) (sym none) (record { came = came_none s; bytes = refl; sums = λ i d lt. absurd (omega arith) })

pub leaf_more : (pieces : List (List ℕ)) (piece : List ℕ) (a b c : Stored) (leaves : List Bptr) (x : Bptr) → PutsLeaves pieces a b leaves → Puts b x piece c → x.sum ≡ sha256 piece → PutsLeaves (pieces ++ piece ∷ []) a c (leaves ++ x ∷ [])
leaf_more pieces piece a b c leaves x so_far one sum_is = record {
  came = came_more a b c leaves x so_far.came one.swaps;
  bytes = map_more a b c leaves x so_far.came one.swaps (λ bytes. bytes) pieces piece so_far.bytes one.given;
  sums = All-push (HasSum c) leaves x (λ i d lt. so_far.sums i d lt ∙ sym (ap (λ (bytes : List ℕ). sha256 bytes) (bytes_stay a b c leaves x so_far.came one.swaps i d lt))) (sum_is ∙ sym (ap (λ (bytes : List ℕ). sha256 bytes) one.given));
}

-- ---- of a store that goes on

-- the pieces up to the next one
pub taken : {X : Type 0} (d : X) (xs : List X) (i : ℕ) → i < length xs → take (i + 1) xs ≡ take i xs ++ get_or xs i d ∷ []
taken {X} d xs i lt = let up : i + 1 ≡ suc i = omega arith in ap (λ (n : ℕ). take n xs) up ∙ take-suc xs i d lt

pub leaf_now : (had has : Stored → Type 0) (s : Stored) (pieces : List (List ℕ)) (i : ℕ) (leaves now : List Bptr) (x : Bptr) → i < length pieces → now ≡ leaves ++ x ∷ [] → Now had (λ n. PutsLeaves (take i pieces) s n leaves)
    → ((t : Stored) → had t → Now has (Puts t x (get_or pieces i []))) → x.sum ≡ sha256 (get_or pieces i []) → Now has (λ n. PutsLeaves (take (i + 1) pieces) s n now)
leaf_now had has s pieces i leaves now x lt now_is so_far put sum_is =
    let one = put so_far.stored so_far.held in
    record {
      stored = one.stored;
      held = one.held;
      is =
          let more = leaf_more (take i pieces) (get_or pieces i []) s so_far.stored one.stored leaves x so_far.is one.is sum_is in
          subst (λ (ps : List (List ℕ)). PutsLeaves ps s one.stored now) (sym (taken [] pieces i lt)) (subst (PutsLeaves (take i pieces ++ get_or pieces i [] ∷ []) s one.stored) (sym now_is) more);
    }

pub block_now : (had has : Stored → Type 0) (below : ℕ) (s : Stored) (pieces : List (List Ptr)) (i : ℕ) (tops now : List Bptr) (x : Bptr) → i < length pieces → now ≡ tops ++ x ∷ [] → Now had (λ n. PutsBlocks below (take i pieces) s n tops)
    → ((t : Stored) → had t → Now has (λ n. PutsBlock below (get_or pieces i []) t n x)) → Now has (λ n. PutsBlocks below (take (i + 1) pieces) s n now)
block_now had has below s pieces i tops now x lt now_is so_far put =
    let one = put so_far.stored so_far.held in
    record {
      stored = one.stored;
      held = one.held;
      is =
          let more = block_more below (take i pieces) (get_or pieces i []) s so_far.stored one.stored tops x so_far.is one.is in
          subst (λ (ps : List (List Ptr)). PutsBlocks below ps s one.stored now) (sym (taken [] pieces i lt)) (subst (PutsBlocks below (take i pieces ++ get_or pieces i [] ∷ []) s one.stored) (sym now_is) more);
    }

-- the block of a group
pub block_of : (has : Stored → Type 0) (s : Stored) (below : ℕ) (items bytes : List ℕ) (pointers : List Ptr) (b : Bptr) → bytes ≡ items → IsBlockOf below items → IsPointerTo (below + 1) bytes b → pointers_in items ≡ pointers → Now has (Puts s b bytes) → Now has (λ n. PutsBlock below pointers s n b)
block_of has s below items bytes pointers b same block pointer are put = record {
  stored = put.stored;
  held = put.held;
  is = record {
    came = put.is.swaps;
    pointers_are = ap (λ (xs : List ℕ). pointers_in xs) (put.is.given ∙ same) ∙ are;
    whole = put_whole put.stored below items bytes b same block pointer put.is.given;
  };
}
