use Rattle.std.proofs.Common.{◌≡◌, ◌<◌, ℕ, true, false, length, arith}
use Rattle.std.proofs.lemmas.Bool.Decides.{nat_tests}
use Rattle.zr_rules.specs.Places.{is_gone, state_of_dev, units_of_dev}
use Rattle.zr_rules.specs.Space.{Space, has_place}
use Rattle.zr_laws.proofs.Columns.{column_hits, role_counts, counts_add}
use Rattle.zr_laws.proofs.uses.columns_add_up.Goals as goal

there : (s : Space) (d u : ℕ) → d < length s.parts.devs → is_gone (state_of_dev s.parts.devs d) ≡ false → u < units_of_dev s.parts.devs d → has_place s d u ≡ true
there s d u known here within = grind (arith, nat_tests)

pub returns : goal.returns
unfolding column_hits
returns c = λ s d known here. counts_add (units_of_dev s.parts.devs d) _ _ _ _ (λ u within. role_counts s d u (there s d u known here within))
