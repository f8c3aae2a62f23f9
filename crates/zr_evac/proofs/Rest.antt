-- What is left of a set from a unit on, taken from its highest extent down.
use Rattle.std.proofs.Common.{◌≡◌, ℕ, zero, suc, ◌+◌, ◌-◌, ◌<◌, ◌≤◌, ◌&&◌, List, [], ◌∷◌, length, drop, arith, subst}
use Rattle.std.specs.Prelude.{nat_le}
use Rattle.std.proofs.lemmas.Grind.{common_steps}
use Rattle.zr_base.specs.declared.space.Extent.{Extent}
use Rattle.zr_base.specs.Extents.{has_unit, extent_at, IsMaximal, IsMaximalFrom}
use Rattle.zr_base.proofs.ExtentSets.{raised}
use Rattle.zr_paged.proofs.Joined.{starts_from}

later_from : (low k : ℕ) (xs : List Extent) → IsMaximalFrom low xs → k < length xs → IsMaximalFrom ((extent_at xs k).start + (extent_at xs k).len + 1) (drop (suc k) xs)
later_from low k [] m h = absurd (omega arith)
later_from low zero (x ∷ xs) m h = m.3
later_from low (suc k) (x ∷ xs) m h = later_from (x.start + x.len + 1) k xs m.3 (omega arith)

-- all of it lies above the next extent below
pub above_next : (runs rest : List Extent) (count from : ℕ) → IsMaximal runs → 0 < count → count ≤ length runs → IsMaximal rest → ((u : ℕ) → has_unit rest u ≡ (has_unit (drop count runs) u && nat_le from u)) → IsMaximalFrom ((extent_at runs (count - 1)).start + (extent_at runs (count - 1)).len + 1) rest
above_next runs rest count from m some le rising units =
    let same : suc (count - 1) ≡ count = omega (arith, some) in
    let later : IsMaximalFrom ((extent_at runs (count - 1)).start + (extent_at runs (count - 1)).len + 1) (drop count runs) =
    subst (λ (n : ℕ). IsMaximalFrom ((extent_at runs (count - 1)).start + (extent_at runs (count - 1)).len + 1) (drop n runs)) same (later_from 0 (count - 1) runs m (omega (arith, some, le))) in
    raised 0 _ rest rising (starts_from _ (drop count runs) rest later (λ u is. grind (arith, common_steps, units u, is)) rising)
