-- A mapping with an entry more.
use Rattle.std.proofs.Common.{◌≡◌, ℕ, ◌+◌, ◌<◌, ◌≤◌, true, not, ◌&&◌, ◌||◌, List, [], ◌∷◌, ◌++◌, refl, ap, ◌∙◌, arith}
use Rattle.std.proofs.lemmas.Bool.Decides.{nat_tests}
use Rattle.zr_base.specs.declared.space.Entry.{Entry}
use Rattle.zr_base.specs.declared.space.Extent.{Extent}
use Rattle.zr_base.specs.Extents.{has_unit, in_extent}
use Rattle.zr_rules.specs.Mappings.{end_of_last, has_source, in_source}
use Rattle.zr_indirect.specs.Mapped.{Mapped}
use Rattle.zr_indirect.specs.Changes.{CopiesFront, IsCopiedOrLeft}

-- it ends where that one does
pub last_pushed : (xs : List Entry) (e : Entry) → end_of_last (xs ++ e ∷ []) ≡ e.src + e.len
last_pushed [] e = refl
last_pushed (x ∷ []) e = refl
last_pushed (x ∷ (y ∷ xs)) e = last_pushed (y ∷ xs) e

-- what had an entry has one
pub sources_pushed : (xs ys : List Entry) (u : ℕ) → has_source xs u ≡ true → has_source (xs ++ ys) u ≡ true
sources_pushed [] ys u is = absurd (let false_true = is in cc)
sources_pushed (x ∷ xs) ys u is = grind (arith, nat_tests, sources_pushed xs ys u, is)

source_pushed : (xs : List Entry) (e : Entry) (u : ℕ) → has_source (xs ++ e ∷ []) u ≡ (has_source xs u || in_source e u)
source_pushed [] e u = grind (arith, nat_tests)
source_pushed (x ∷ xs) e u = grind (arith, nat_tests, source_pushed xs e u)

-- what was copied or left stays so where more is copied
pub still_there : (old mid new : Mapped) (e : Extent) (dev dst u : ℕ) → mid ≡ record old { spare = mid.spare } → CopiesFront mid new e dev dst → (has_source old.entries u || has_unit old.left u) ≡ true → (has_source new.entries u || has_unit new.left u) ≡ true
still_there old mid new e dev dst u same c there =
    let x : Entry = record { src = e.start; dev = dev; dst = dst; len = e.len } in
    let sources : has_source new.entries u ≡ (has_source old.entries u || in_source x u) =
    ap (λ (es : List Entry). has_source es u) c.entries ∙ (source_pushed mid.entries x u ∙ ap (λ (m : Mapped). has_source m.entries u || in_source x u) same) in
    let left : has_unit new.left u ≡ (has_unit old.left u && not (in_extent e u)) = c.left_is.members u ∙ ap (λ (m : Mapped). has_unit m.left u && not (in_extent e u)) same in
    grind (arith, nat_tests, sources, left, there)

-- the first three units are among the first ten
pub in_first_units : (u : ℕ) → in_extent (record { start = 0; len = 3 }) u ≡ true → in_source (record { src = 0; dev = 1; dst = 100; len = 10 }) u ≡ true
in_first_units u is = grind (arith, nat_tests, is)

-- where all below a unit is left, so is an extent that ends there
pub left_there : (m : Mapped) (e : Extent) (n : ℕ) → ((u : ℕ) → u < n → has_unit m.left u ≡ true) → e.start + e.len ≤ n → IsCopiedOrLeft m e
left_there m e n left ends u inside =
    let lt : u < n = grind (arith, nat_tests, inside, ends) in
    let is : has_unit m.left u ≡ true = left u lt in
    grind (arith, nat_tests, is)
