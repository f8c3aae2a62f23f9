use Rattle.std.proofs.Common.{◌≡◌, ℕ, Bool, inl, inr, List, [], ◌∷◌, refl, sym, subst, Result, Err}
use Rattle.zr_base.specs.declared.refusal.Refusal.{Refusal}
use Rattle.zr_base.specs.declared.refusal.Refusal.TheVariants.{BadRoot}
use Rattle.zr_bptr.specs.declared.Bptr.{Bptr}
use Rattle.zr_bptr.specs.declared.Ptr.{Ptr}
use Rattle.zr_bptr.specs.declared.Ptr.TheVariants.{At}
use Rattle.zr_bptr.specs.declared.Tree.{Tree}
use Rattle.zr_view.specs.Views.{View}
use Rattle.zr_image.specs.Checks.{Each}
use Rattle.zr_image.specs.Reading.{damage}
use Rattle.zr_image.specs.Roots.{ReadsRecords, WalksAll, block_setting}
use Rattle.zr_image.specs.Walks.{Walks}
use Rattle.zr_image.specs.Examples.{one_block, HasDamagedFirst}
use Rattle.zr_image.proofs.Determined.{directory_one}
use Rattle.zr_image.proofs.laws.a_directory_is_walked_before_its_leaves_are_read.Goals as goal

-- what its tree is refused for refuses the directory
refused : (v : View) (may_be : ℕ → ℕ → Bool) (txg : ℕ) (dir : Tree) (r : Refusal) → Walks (block_setting v may_be txg 1 4096) dir [] (Err r) → WalksAll v may_be txg dir (Err r)
refused v may_be txg dir r walk = inr (r, walk, refl)

-- the walk of the tree ends at its second leaf
second : (v : View) (may_be : ℕ → ℕ → Bool) (txg : ℕ) (b p q : Bptr) (more : List Ptr) → HasDamagedFirst v may_be txg b p q more → Walks (block_setting v may_be txg 1 4096) (one_block b) [] (Err (BadRoot 7))
second v may_be txg b p q more has =
    inl (
      b ∷ [],
      inl (tt, has.marked, refl),
      inl (
        tt,
        has.read,
        inl (
          At p ∷ (At q ∷ more),
          has.block,
          inl (b ∷ (p ∷ []), inl (b ∷ (p ∷ []), inl (tt, has.first, refl), inl (tt, refl, refl)), inr (BadRoot 7, inr (BadRoot 7, inr (BadRoot 7, (has.second, refl), refl), refl), refl)),
        ),
      ),
    )

-- the damage of the first leaf ends the reading of the leaves
first_leaf : (v : View) (leaves more : List Bptr) (p : Bptr) → leaves ≡ p ∷ more → ((r : Refusal) → ReadsRecords v p [] (Err r) → Each (ReadsRecords v) leaves [] (Err r))
first_leaf v leaves more p is r told = subst (λ (bs : List Bptr). Each (ReadsRecords v) bs [] (Err r)) (sym is) (inr (r, told, refl))

pub returns-clause-one : goal.returns-clause-one
returns-clause-one c = λ v may_be txg dir x y one other. directory_one v may_be txg dir x y one other

pub returns-clause-tree : goal.returns-clause-tree
returns-clause-tree c = λ v may_be txg dir r x walk. (
  λ way. directory_one v may_be txg dir x (Err r) way (refused v may_be txg dir r walk),
  λ is. subst (λ (y : Result (List Bptr) Refusal). WalksAll v may_be txg dir y) (sym is) (refused v may_be txg dir r walk),
)

pub returns-clause-units : goal.returns-clause-units
returns-clause-units c = λ v may_be txg b p q more has. refused v may_be txg (one_block b) (BadRoot 7) (second v may_be txg b p q more has)

pub returns-clause-never : goal.returns-clause-never
returns-clause-never c = λ v may_be txg b p q more has damaged.
    let is = directory_one v may_be txg (one_block b) (Err (damage v p)) (Err (BadRoot 7)) damaged (refused v may_be txg (one_block b) (BadRoot 7) (second v may_be txg b p q more has)) in
    absurd (cc)

pub returns-clause-leaf : goal.returns-clause-leaf
returns-clause-leaf c = λ v may_be txg dir marks more p walk leaves damaged.
    inl (marks, walk, inr (damage v p, first_leaf v _ more p leaves (damage v p) (inr (damage v p, (damaged, refl), refl)), refl))
