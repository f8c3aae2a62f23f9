use Rattle.std.proofs.Common.{rules, arith}
use Rattle.zr_meta.proofs.form.is_head.Goals as goal

pub returns : goal.returns
returns c = (
  λ h. record {
    oldest = omega arith;
    newest = search rules;
    low = search rules;
    dir = search rules;
    saved = search rules;
    cond = c.is_total.ensures.fits;
    streams = search rules;
    count = search rules;
  },
  λ k. search rules,
)
