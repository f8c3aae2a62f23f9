use Rattle.std.proofs.Common.{rules, arith, refl}
use Rattle.zr_bptr.proofs.Pieces.{positive}
use Rattle.zr_label.proofs.Labels.{label_iff}
use Rattle.zr_label.proofs.label.is_label.Goals as goal

pub returns : goal.returns
returns c =
    label_iff c.args.l _ c.is_name.ensures (positive _ _ refl c.if-l-eq0.false) (omega arith) (positive _ _ refl c.if-l-eq0-2.false)
    (search rules) (search rules) (search rules)
