use Rattle.std.proofs.Common.{ℕ, List, sym, subst}
use Rattle.zr_label.specs.Blocks.{SpellsNewer}
use Rattle.zr_scan.proofs.rings.newer_at.Goals as goal

pub returns-in_default : goal.returns-in_default
returns-in_default c = λ x h. c.in_default.ensures x (subst (λ (b : List ℕ). SpellsNewer b c.args.guid x.version x.txg) (sym c.copy_of.ensures) h.spelled)
