-- A walk that ends well has marked the blocks of its tree, each before what lies below it.
use Rattle.std.proofs.Common.{◌≡◌, ◌<◌, ℕ, zero, suc, ◌+◌, ◌*◌, ◌^◌, inl, inr, List, [], ◌∷◌, ◌++◌, sym, ap, subst, ◌∙◌, append_assoc, arith, Ok}
use Rattle.std.specs.List.{Contains, enumerate_from, flat_map}
use Rattle.std.proofs.lemmas.List.{append-nil}
use Rattle.std.proofs.lemmas.List.Sums.{sum_by-append, sum_by-cons}
use Rattle.zr_bptr.specs.declared.Bptr.{Bptr}
use Rattle.zr_bptr.specs.declared.Ptr.{Ptr}
use Rattle.zr_bptr.specs.declared.Ptr.TheVariants.{Hole, At}
use Rattle.zr_store.specs.Store.{Stored, hits, one_at}
use Rattle.zr_tree.specs.Trees.{reach}
use Rattle.zr_tree.proofs.Frames.{first_of}
use Rattle.zr_tree.proofs.Spelled.{spelled}
use Rattle.zr_image.specs.Checks.{Each}
use Rattle.zr_image.specs.Reading.{content, store_of}
use Rattle.zr_image.specs.Walks.{Setting, WalksBelow}
use Rattle.zr_image.proofs.Walking.{given, marked_within}

-- an item's address is met
pub contained_hits : (bs : List Bptr) (b : Bptr) → Contains bs b → 0 < hits bs b.at
contained_hits [] b (k, lt, is) = absurd (omega (arith, lt))
contained_hits (x ∷ xs) b (zero, lt, is) = subst (λ (y : Bptr). 0 < hits (y ∷ xs) b.at) (sym is) (first_of b xs)
contained_hits (x ∷ xs) b (suc k, lt, is) = let rest = contained_hits xs b (k, omega (arith, lt), is) in omega (arith, rest, sum_by-cons (one_at b.at) x xs)

module _ (s : Setting) where
  abbrev store : Stored
  store = store_of s.view

  module _ (h index : ℕ) (ih : (index : ℕ) (p : Ptr) (before after : List Bptr) → WalksBelow s h index p before (Ok after) → after ≡ before ++ reach store h p) where
    each_reach : (k : ℕ) (ps : List Ptr) (marks after : List Bptr)
        → Each (λ (p : ℕ × Ptr) (marked : List Bptr). WalksBelow s h (index + p.0 * 32 ^ h) p.1 marked) (enumerate_from k ps) marks (Ok after) → after ≡ marks ++ flat_map (reach store h) ps
    each_reach k [] marks after is = given marks after is ∙ sym (append-nil marks)
    each_reach k (p ∷ ps) marks after (inl (mid, first, rest)) =
        each_reach (k + 1) ps mid after rest ∙ ap (λ (bs : List Bptr). bs ++ flat_map (reach store h) ps) (ih (index + k * 32 ^ h) p marks mid first) ∙ append_assoc marks (reach store h p) (flat_map (reach store h) ps)
    each_reach k (p ∷ ps) marks after (inr (r, told, is)) = absurd (cc)

  pub walk_reach : (h index : ℕ) (p : Ptr) (before after : List Bptr) → WalksBelow s h index p before (Ok after) → after ≡ before ++ reach store h p
  walk_reach zero index Hole before after is = given before after is ∙ sym (append-nil before)
  walk_reach zero index (At b) before after (inl (marks, m, inl (done, read, is))) = given marks after is ∙ marked_within s [] b before marks m
  walk_reach zero index (At b) before after (inl (marks, m, inr (r, told, is))) = absurd (cc)
  walk_reach zero index (At b) before after (inr (r, told, is)) = absurd (cc)
  walk_reach (suc h) index Hole before after is = given before after is ∙ sym (append-nil before)
  walk_reach (suc h) index (At b) before after (inl (marks, m, inl (done, read, inl (ps, block, each)))) =
      each_reach h index (λ i p s t way. walk_reach h i p s t way) 0 ps marks after each
      ∙ ap (λ (bs : List Bptr). bs ++ flat_map (reach store h) ps) (marked_within s [] b before marks m)
      ∙ append_assoc before (b ∷ []) (flat_map (reach store h) ps)
      ∙ ap (λ (qs : List Ptr). before ++ (b ∷ flat_map (reach store h) qs)) (sym (spelled (content s.view b) h b.fill ps block.block))
  walk_reach (suc h) index (At b) before after (inl (marks, m, inl (done, read, inr (r, told, is)))) = absurd (cc)
  walk_reach (suc h) index (At b) before after (inl (marks, m, inr (r, told, is))) = absurd (cc)
  walk_reach (suc h) index (At b) before after (inr (r, told, is)) = absurd (cc)

  -- what the tree has is met among the marks
  pub reach_hits : (h index : ℕ) (p : Ptr) (before after : List Bptr) → WalksBelow s h index p before (Ok after) → (b : Bptr) → 0 < hits (reach store h p) b.at → 0 < hits after b.at
  reach_hits h index p before after way b met =
      let e = ap (λ (bs : List Bptr). hits bs b.at) (walk_reach h index p before after way) in omega (arith, e, met, sum_by-append (one_at b.at) before (reach store h p))
