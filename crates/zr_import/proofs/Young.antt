-- What a walk freed of each of its two spaces.
use Rattle.std.specs.Prelude.{nat_lt}
use Rattle.std.proofs.Common.{◌≡◌, ℕ, Bool, true, false, List, [], ◌∷◌, refl, ap, subst, arith}
use Rattle.std.proofs.lemmas.Bool.Decides.{nat_tests}
use Rattle.zr_bptr.specs.declared.Bptr.{Bptr}
use Rattle.zr_rules.specs.Space.{Space}
use Rattle.zr_import.specs.Spending.{Spends, SpendsBlock}
use Rattle.zr_import.specs.Units.{MarksAll, young_of}
use Rattle.zr_import.specs.declared.spent.Spent.{Spent}

-- all blocks were freed of the one
pub spent_all : (txg : ℕ) (old new : Spent) (bs : List Bptr) → MarksAll Spends txg old new bs → MarksAll SpendsBlock txg old.left new.left bs
spent_all txg old new [] is = ap (λ (s : Spent). s.left) is
spent_all txg old new (b ∷ bs) (birth, (mid, (one, rest))) = (birth, (mid.left, (one.left, spent_all txg mid new bs rest)))

-- the young ones of the other
pub spent_young : (txg : ℕ) (old new : Spent) (bs : List Bptr) → MarksAll Spends txg old new bs → MarksAll SpendsBlock txg old.older new.older (young_of old.since bs)
spent_young txg old new [] is = ap (λ (s : Spent). s.older) is
spent_young txg old new (b ∷ bs) (birth, (mid, (one, rest))) =
    let later : MarksAll SpendsBlock txg mid.older new.older (young_of old.since bs) = subst (λ (n : ℕ). MarksAll SpendsBlock txg mid.older new.older (young_of n bs)) one.since (spent_young txg mid new bs rest) in
    by_age (nat_lt old.since b.birth) refl later
  where
    by_age : (young : Bool) → nat_lt old.since b.birth ≡ young → MarksAll SpendsBlock txg mid.older new.older (young_of old.since bs) → MarksAll SpendsBlock txg old.older new.older (young_of old.since (b ∷ bs))
    by_age true is later = rw is (birth, (mid.older, (one.young (grind (arith, nat_tests, is)), later)))
    by_age false is later = rw is (subst (λ (s : Space). MarksAll SpendsBlock txg s new.older (young_of old.since bs)) (one.aged (grind (arith, nat_tests, is))) later)
