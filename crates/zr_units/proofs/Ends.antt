-- Where an extent of a set ends.
use Rattle.std.proofs.Common.{◌≡◌, ◌+◌, ◌-◌, ◌<◌, ◌≤◌, ℕ, List, true, arith}
use Rattle.std.proofs.lemmas.Bool.Decides.{nat_tests}
use Rattle.zr_base.specs.declared.space.Extent.{Extent}
use Rattle.zr_base.specs.Extents.{HasAll, in_extent}
use Rattle.std.specs.Prelude.{Bool, nat_lt}
use Rattle.zr_base.specs.Extents.{has_unit}
use Rattle.zr_rules.specs.Places.{one_if}
use Rattle.zr_units.specs.Apart.{IsWithin}
use Rattle.zr_units.specs.Uses.{Uses, IsAccount}

last_in : (e : Extent) → 0 < e.len → in_extent e (e.start + e.len - 1) ≡ true
last_in e some = grind (arith, nat_tests)

pub ends_within : (es : List Extent) (e : Extent) (n : ℕ) → HasAll es e → 0 < e.len → IsWithin es n → e.start + e.len ≤ n
ends_within es e n all some within = let lt = within (e.start + e.len - 1) (all (e.start + e.len - 1) (last_in e some)) in omega (arith, lt, some)

below_as : (b : Bool) (n u units : ℕ) → b ≡ true → n + one_if b ≤ one_if (nat_lt u units) → u < units
below_as b n u units is le = grind (arith, nat_tests)

-- a held unit is one of the device's
pub held_within : (is_free : ℕ → Bool) (free : ℕ) (x : Uses) → IsAccount is_free free x → IsWithin x.held x.units
held_within is_free free x a u is = let o = a.once u in below_as (has_unit x.held u) 0 u x.units is (omega (arith, o))
