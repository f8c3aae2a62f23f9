-- A walk that ends well goes the same way over other disks on which the blocks that it marked have their bytes.
use Rattle.std.proofs.Common.{◌≡◌, ℕ, zero, suc, ◌+◌, ◌*◌, ◌^◌, Bool, true, false, inl, inr, List, [], ◌∷◌, ◌++◌, refl, sym, subst, arith, Ok}
use Rattle.std.specs.List.{Contains, enumerate_from}
use Rattle.std.proofs.lemmas.List.Elements.{Contains-append_left, Contains-append_right}
use Rattle.sha2.specs.Sha256.{sha256}
use Rattle.zr_bptr.specs.declared.Bptr.{Bptr}
use Rattle.zr_bptr.specs.declared.Ptr.{Ptr}
use Rattle.zr_bptr.specs.declared.Ptr.TheVariants.{Hole, At}
use Rattle.zr_bptr.specs.Spelling.{SpellsTreeBlock}
use Rattle.zr_image.specs.Checks.{Check, Gives, Each}
use Rattle.zr_image.specs.Reading.{content, HasSum}
use Rattle.zr_image.specs.Walks.{Setting, Marks, Fits, IsBlockOf, ReadsLeaf, WalksBelow}

-- each item of the one list is one of the other
abbrev pub Within : {A : Type 0} → List A → List A → Type 0
Within {A} xs ys = (x : A) → Contains xs x → Contains ys x

-- what is given is the value
pub given : {A : Type 0} (a b : A) → Gives a (Ok b) → b ≡ a
given a b is = cc

-- ---- checks of each item

module _ {A S : Type 0} (step other : A → S → Check S) (Sub : S → S → Type 0) (still : (s : S) → Sub s s) (join : (r s t : S) → Sub r s → Sub s t → Sub r t)
    (grows : (x : A) (s t : S) → step x s (Ok t) → Sub s t) where
  pub each_grows : (xs : List A) (s t : S) → Each step xs s (Ok t) → Sub s t
  each_grows [] s t is = subst (λ (x : S). Sub s x) (sym (given s t is)) (still s)
  each_grows (x ∷ xs) s t (inl (m, first, rest)) = join s m t (grows x s m first) (each_grows xs m t rest)
  each_grows (x ∷ xs) s t (inr (r, told, is)) = absurd (cc)

  module _ (final : S) (moves : (x : A) (s t : S) → Sub t final → step x s (Ok t) → other x s (Ok t)) where
    pub each_moves : (xs : List A) (s t : S) → Sub t final → Each step xs s (Ok t) → Each other xs s (Ok t)
    each_moves [] s t sub is = is
    each_moves (x ∷ xs) s t sub (inl (m, first, rest)) = inl (m, moves x s m (join m t final (each_grows xs m t rest) sub) first, each_moves xs m t sub rest)
    each_moves (x ∷ xs) s t sub (inr (r, told, is)) = absurd (cc)

-- ---- other disks

abbrev pub on_disks : Setting → List (List ℕ) → Setting
on_disks s disks = record s { view = record s.view { disks = disks } }

module _ (s : Setting) (disks : List (List ℕ)) where
  -- the blocks have the bytes that they had
  abbrev pub Same : List Bptr → Type 0
  Same bs = (b : Bptr) → Contains bs b → content (on_disks s disks).view b ≡ content s.view b

  -- ---- one block

  pub marked_within : (b : Bptr) (before marks : List Bptr) → Marks s b before (Ok marks) → marks ≡ before ++ b ∷ []
  marked_within b before marks (inl (done, may, is)) = given (before ++ b ∷ []) marks is
  marked_within b before marks (inr (r, told, is)) = absurd (cc)

  marks_before : (b : Bptr) (before marks : List Bptr) → Marks s b before (Ok marks) → Within before marks
  marks_before b before marks m = λ x has. subst (λ (bs : List Bptr). Contains bs x) (sym (marked_within b before marks m)) (Contains-append_left before (b ∷ []) x has)

  marks_itself : (b : Bptr) (before marks : List Bptr) → Marks s b before (Ok marks) → Contains marks b
  marks_itself b before marks m = subst (λ (bs : List Bptr). Contains bs b) (sym (marked_within b before marks m)) (Contains-append_right before (b ∷ []) b (0, omega arith, refl))

  marks_same : (b : Bptr) (before marks : List Bptr) → Marks s b before (Ok marks) → Marks (on_disks s disks) b before (Ok marks)
  marks_same b before marks (inl (done, may, is)) = inl (done, record { birth = may.birth; resolved = may.resolved; place = may.place; apart = may.apart }, is)
  marks_same b before marks (inr (r, told, is)) = absurd (cc)

  sum_same : (b : Bptr) → content (on_disks s disks).view b ≡ content s.view b → HasSum s.view b → HasSum (on_disks s disks).view b
  sum_same b same has = subst (λ (bytes : List ℕ). sha256 bytes ≡ b.sum) (sym same) has

  leaf_same : (reads : Bool) (b : Bptr) → content (on_disks s disks).view b ≡ content s.view b → ReadsLeaf reads s.view b (Ok tt) → ReadsLeaf reads (on_disks s disks).view b (Ok tt)
  leaf_same true b same read = sum_same b same read
  leaf_same false b same read = read

  fits_same : (level index : ℕ) (p : Ptr) → Fits s level index p → Fits (on_disks s disks) level index p
  fits_same level index Hole fits = fits
  fits_same level index (At b) fits = fits

  block_same : (level index : ℕ) (b : Bptr) (ps : List Ptr) → content (on_disks s disks).view b ≡ content s.view b → IsBlockOf s level index b ps → IsBlockOf (on_disks s disks) level index b ps
  block_same level index b ps same block = record {
    block = subst (λ (bytes : List ℕ). SpellsTreeBlock bytes level b.fill ps) (sym same) block.block;
    places = λ k lt. fits_same level _ _ (block.places k lt);
  }

  -- ---- a tree

  pub walk_grows : (h index : ℕ) (p : Ptr) (before after : List Bptr) → WalksBelow s h index p before (Ok after) → Within before after
  walk_grows zero index Hole before after is = λ x has. subst (λ (bs : List Bptr). Contains bs x) (sym (given before after is)) has
  walk_grows zero index (At b) before after (inl (marks, m, inl (done, read, is))) = λ x has. subst (λ (bs : List Bptr). Contains bs x) (sym (given marks after is)) (marks_before b before marks m x has)
  walk_grows zero index (At b) before after (inl (marks, m, inr (r, told, is))) = absurd (cc)
  walk_grows zero index (At b) before after (inr (r, told, is)) = absurd (cc)
  walk_grows (suc h) index Hole before after is = λ x has. subst (λ (bs : List Bptr). Contains bs x) (sym (given before after is)) has
  walk_grows (suc h) index (At b) before after (inl (marks, m, inl (done, read, inl (ps, block, each)))) =
      λ x has. each_grows (λ (p : ℕ × Ptr) (marked : List Bptr). WalksBelow s h (index + p.0 * 32 ^ h) p.1 marked) (λ (p : ℕ × Ptr) (marked : List Bptr). WalksBelow s h (index + p.0 * 32 ^ h) p.1 marked)
      Within (λ bs y in_bs. in_bs) (λ r s t f g y in_r. g y (f y in_r)) (λ p s t way. walk_grows h (index + p.0 * 32 ^ h) p.1 s t way) (enumerate_from 0 ps) marks after each x (marks_before b before marks m x has)
  walk_grows (suc h) index (At b) before after (inl (marks, m, inl (done, read, inr (r, told, is)))) = absurd (cc)
  walk_grows (suc h) index (At b) before after (inl (marks, m, inr (r, told, is))) = absurd (cc)
  walk_grows (suc h) index (At b) before after (inr (r, told, is)) = absurd (cc)

  -- the walks below the pointers of a block
  each_below : (h index : ℕ) (ps : List (ℕ × Ptr)) (marks after : List Bptr)
      → Each (λ (p : ℕ × Ptr) (marked : List Bptr). WalksBelow s h (index + p.0 * 32 ^ h) p.1 marked) ps marks (Ok after) → Within marks after
  each_below h index ps marks after each =
      each_grows (λ (p : ℕ × Ptr) (marked : List Bptr). WalksBelow s h (index + p.0 * 32 ^ h) p.1 marked) (λ (p : ℕ × Ptr) (marked : List Bptr). WalksBelow s h (index + p.0 * 32 ^ h) p.1 marked)
      Within (λ bs y in_bs. in_bs) (λ r s t f g y in_r. g y (f y in_r)) (λ p s t way. walk_grows h (index + p.0 * 32 ^ h) p.1 s t way) ps marks after each

  module _ (final : List Bptr) (same : Same final) where
    pub walk_same : (h index : ℕ) (p : Ptr) (before after : List Bptr) → Within after final → WalksBelow s h index p before (Ok after) → WalksBelow (on_disks s disks) h index p before (Ok after)
    walk_same zero index Hole before after sub is = is
    walk_same zero index (At b) before after sub (inl (marks, m, inl (done, read, is))) =
        let in_after = subst (λ (bs : List Bptr). Contains bs b) (sym (given marks after is)) (marks_itself b before marks m) in
        inl (marks, marks_same b before marks m, inl (done, leaf_same s.reads b (same b (sub b in_after)) read, is))
    walk_same zero index (At b) before after sub (inl (marks, m, inr (r, told, is))) = absurd (cc)
    walk_same zero index (At b) before after sub (inr (r, told, is)) = absurd (cc)
    walk_same (suc h) index Hole before after sub is = is
    walk_same (suc h) index (At b) before after sub (inl (marks, m, inl (done, read, inl (ps, block, each)))) =
        let in_after = each_below h index (enumerate_from 0 ps) marks after each b (marks_itself b before marks m) in
        let bytes = same b (sub b in_after) in
        inl (
          marks,
          marks_same b before marks m,
          inl (
            done,
            sum_same b bytes read,
            inl (
              ps,
              block_same h index b ps bytes block,
              each_moves (λ (p : ℕ × Ptr) (marked : List Bptr). WalksBelow s h (index + p.0 * 32 ^ h) p.1 marked) (λ (p : ℕ × Ptr) (marked : List Bptr). WalksBelow (on_disks s disks) h (index + p.0 * 32 ^ h) p.1 marked)
                  Within (λ bs y in_bs. in_bs) (λ r s t f g y in_r. g y (f y in_r)) (λ p s t way. walk_grows h (index + p.0 * 32 ^ h) p.1 s t way) final
                  (λ p s t within way. walk_same h (index + p.0 * 32 ^ h) p.1 s t within way) (enumerate_from 0 ps) marks after sub each,
            ),
          ),
        )
    walk_same (suc h) index (At b) before after sub (inl (marks, m, inl (done, read, inr (r, told, is)))) = absurd (cc)
    walk_same (suc h) index (At b) before after sub (inl (marks, m, inr (r, told, is))) = absurd (cc)
    walk_same (suc h) index (At b) before after sub (inr (r, told, is)) = absurd (cc)
