use Rattle.std.proofs.Common.{◌≡◌, ℕ, ◌<◌}
use Rattle.zr_rules.specs.Places.{part_of}
use Rattle.zr_image.specs.Current.{row_at}
use Rattle.zr_roots.proofs.named.have_rows.Given as goal

abbrev pub invariant-loop-index : goal.invariant-loop-index
invariant-loop-index l = (d : ℕ) → d < l.index → (part_of l.parts.devs d).row ≡ row_at l.u d
