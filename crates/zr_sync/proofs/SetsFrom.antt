-- A set from its extents, one after the other.
use Rattle.std.proofs.Common.{◌≡◌, ℕ, ◌+◌, ◌<◌, true, List, [], ◌∷◌, ◌++◌, arith}
use Rattle.std.proofs.lemmas.Bool.Decides.{nat_tests}
use Rattle.zr_base.specs.declared.space.Extent.{Extent}
use Rattle.zr_base.specs.Extents.{has_unit, IsMaximal, IsMaximalFrom, HasNone, AddsUnits}
use Rattle.zr_base.proofs.ExtentSets.{same_extents}
use Rattle.zr_space.proofs.Reading.{has_snoc}

-- the set has the first extents, and these are left
pub record IsFilling (front rest set : List Extent) : Type 0 where
  pub members : (u : ℕ) → has_unit set u ≡ has_unit front u
  pub maximal : IsMaximal set
  pub low : ℕ
  pub below : (u : ℕ) → has_unit front u ≡ true → u < low
  pub left : IsMaximalFrom low rest

pub starts : (es : List Extent) → IsMaximal es → IsFilling [] es []
starts es m = record { members = λ u. cc; maximal = tt; low = 0; below = λ u is. absurd cc; left = m }

pub apart : (front rest set : List Extent) (e : Extent) → IsFilling front (e ∷ rest) set → HasNone set e
apart front rest set e f u in_it =
    let low = f.left.0 in
    let b = f.below u in
    let m = f.members u in
    grind (arith, nat_tests, b, m, low, in_it)

pub more : (front rest set set2 : List Extent) (e : Extent) → IsFilling front (e ∷ rest) set → AddsUnits set set2 e → IsFilling (front ++ e ∷ []) rest set2
more front rest set set2 e f added = record {
  members = λ u. let a = added.members u in let m = f.members u in let h = has_snoc front e u in grind (arith, nat_tests, a, m, h);
  maximal = added.maximal;
  low = e.start + e.len + 1;
  below = λ u is. let h = has_snoc front e u in let b = f.below u in let low = f.left.0 in grind (arith, nat_tests, h, b, low, is);
  left = f.left.3;
}

pub filled : (es set : List Extent) → IsMaximal es → IsFilling es [] set → set ≡ es
filled es set m f = same_extents 0 0 set es f.maximal m f.members
