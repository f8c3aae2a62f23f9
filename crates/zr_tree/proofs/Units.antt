-- Where blocks of one unit are set and none is taken away, a tree has a root of one unit.
use Rattle.std.proofs.Common.{◌≡◌, ◌<◌, ◌≤◌, ℕ, List, length, take, subst, arith}
use Rattle.std.proofs.lemmas.List.{length-take-le}
use Rattle.std.proofs.lemmas.List.Elements.{All-take}
use Rattle.zr_bptr.specs.declared.Ptr.{Ptr}
use Rattle.zr_bptr.specs.declared.Ptr.TheVariants.{Hole}
use Rattle.zr_tree.specs.Trees.{AreUnits, IsOneUnit}

pub unit_there : (p : Ptr) → IsOneUnit p → p ≡ Hole → ⊥
unit_there p unit is = subst IsOneUnit is unit

pub units_front : (n : ℕ) (changes : List (ℕ × Ptr)) → AreUnits changes → AreUnits (take n changes)
units_front n changes units = All-take (λ (change : ℕ × Ptr). IsOneUnit change.1) n changes units

pub some_front : (n : ℕ) (changes : List (ℕ × Ptr)) → 0 < n → n ≤ length changes → 0 < length (take n changes)
some_front n changes some le = let e = length-take-le n changes le in omega (arith, e, some)
