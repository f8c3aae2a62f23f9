-- What holds at the end of some moments, and of an agenda with no act.
use Rattle.std.proofs.Common.{◌≡◌, ℕ, List, [], ◌∷◌, ◌++◌, refl, sym, subst}
use Rattle.std.specs.List.{AllByRecursion}
use Rattle.zr_shelf.specs.Disks.{Stand}
use Rattle.zr_shelf.specs.Moments.{World, Throughout}
use Rattle.zr_model.specs.Runs.{Asks}
use Rattle.zr_moves.specs.Runs.{Standing, Item, Given, Inserted, Plays, agenda}

module _ (P : Stand → Type 0) where
  in_list : (more : List Stand) (a b : Stand) (xs ys : List Stand) → AllByRecursion P more → a ∷ xs ≡ more ++ b ∷ ys → P b → P a
  in_list [] a b xs ys each is here = subst P (sym (let e : a ≡ b = cc in e)) here
  in_list (m ∷ more) a b xs ys each is here = subst P (sym (let e : a ≡ m = cc in e)) each.0

  -- what holds before and at each moment since holds now
  pub at_end : (old new : World) → Throughout P old new → P old.now → P new.now
  at_end old new since here = in_list since.more new.now old.now new.past old.past since.each since.joins here

-- an agenda of which no act came and nothing is left has no line
pub no_acts : (rounds : ℕ) (lines : List (List ℕ)) (front rest : List (Item (List ℕ))) (start : Standing) → agenda rounds lines ≡ front ++ rest → rest ≡ [] → Plays Asks front start [] → lines ≡ []
no_acts rounds [] front rest start due none plays = refl
no_acts rounds (line ∷ lines) [] rest start due none plays = absurd (cc)
no_acts rounds (line ∷ lines) (Given x ∷ front) rest start due none (a, more, is, asked, plays) = absurd (cc)
no_acts rounds (line ∷ lines) (Inserted x ∷ front) rest start due none plays = absurd (cc)
