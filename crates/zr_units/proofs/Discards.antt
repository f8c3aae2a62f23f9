-- Kept units that are given up piece by piece.
use Rattle.std.proofs.Common.{◌≡◌, ◌⊎◌, inr, ℕ, ◌+◌, ◌-◌, ◌<◌, ◌≤◌, refl, ◌∙◌, subst, arith, ⊎_elim}
use Rattle.std.proofs.lemmas.Bool.Decides.{nat_tests}
use Rattle.zr_base.specs.declared.space.Extent.{Extent}
use Rattle.zr_base.specs.Extents.{HasAll}
use Rattle.zr_units.specs.Apart.{AreSetsApart}
use Rattle.zr_units.specs.Uses.{Uses, IsKeeping}
use Rattle.zr_units.specs.Changes.{DiscardsUnits}

abbrev pub run : ℕ → ℕ → Extent
run from to = record { start = from; len = to - from }

-- the units from one to below another are given up, if there are any
abbrev pub Discarded : Uses → Uses → ℕ → ℕ → Type 0
Discarded old new from to = ((new ≡ old) × (to ≡ from)) ⊎ ((from < to) × DiscardsUnits old new (run from to))

pub one_piece : (mid new : Uses) (at n : ℕ) → DiscardsUnits mid new (record { start = at; len = n }) → DiscardsUnits mid new (run at (at + n))
one_piece mid new at n d = subst (λ k. DiscardsUnits mid new (record { start = at; len = k })) (let e : n ≡ at + n - at = omega arith in e) d

-- one piece behind others
pub join : (old mid new : Uses) (from at n : ℕ) → 0 < n → from < at → DiscardsUnits old mid (run from at) → DiscardsUnits mid new (record { start = at; len = n }) → DiscardsUnits old new (run from (at + n))
join old mid new from at n some lt a b = record {
  held = record {
    members = λ u. grind (arith, nat_tests, a.held.members u, b.held.members u, lt, some);
    count = grind (arith, a.held.count, b.held.count, lt, some);
    maximal = b.held.maximal;
  };
  kept = record {
    members = λ u. grind (arith, nat_tests, a.kept.members u, b.kept.members u, lt, some);
    count = grind (arith, a.kept.count, b.kept.count, lt, some);
    maximal = b.kept.maximal;
  };
  came = λ u. grind (arith, nat_tests, a.came u, b.came u, lt, some);
  went = λ u. grind (arith, nat_tests, a.went u, b.went u, a.came u, lt, some);
  deferred = record {
    members = λ u. grind (arith, nat_tests, a.deferred.members u, b.deferred.members u, lt, some);
    count = grind (arith, a.deferred.count, b.deferred.count, lt, some);
    maximal = b.deferred.maximal;
  };
  came_maximal = λ m. b.came_maximal (a.came_maximal m);
  went_maximal = λ m. b.went_maximal (a.went_maximal m);
  others = b.others ∙ rw a.others refl;
}

pub discards_more : (old mid new : Uses) (from at n : ℕ) → 0 < n → from ≤ at → Discarded old mid from at → DiscardsUnits mid new (record { start = at; len = n }) → Discarded old new from (at + n)
discards_more old mid new from at n some le done piece =
    ⊎_elim
    (λ none. inr (omega (arith, le, some), subst (λ (x : Uses). DiscardsUnits x new (run from (at + n))) none.0 (subst (λ k. DiscardsUnits mid new (run k (at + n))) none.1 (one_piece mid new at n piece))))
    (λ more. inr (omega (arith, le, some), join old mid new from at n some more.0 more.1 piece))
    done

-- ---- what stays true of the rest

module _ (old new : Uses) (e : Extent) (kept : HasAll old.kept e) (keeping : IsKeeping old) (d : DiscardsUnits old new e) where
  pub keeps_on : IsKeeping new
  keeps_on = record {
    held = λ u is. grind (arith, nat_tests, d.kept.members u, d.held.members u, keeping.held u, is);
    settled = λ u is. grind (arith, nat_tests, d.kept.members u, d.others, keeping.settled u, is);
    came = λ u is. grind (arith, nat_tests, d.came u, d.kept.members u, keeping.came u, is);
    went = λ u is. grind (arith, nat_tests, d.went u, d.deferred.members u, keeping.went u, is);
  }

  pub apart_on : AreSetsApart old.held old.freed.blocks → AreSetsApart new.held new.freed.blocks
  apart_on apart u is = grind (arith, nat_tests, d.held.members u, d.deferred.members u, apart u, is)
