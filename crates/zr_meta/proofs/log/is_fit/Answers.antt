use Rattle.std.proofs.Common.{subst, arith}
use Rattle.zr_base.specs.Extents.{EndsBy}
use Rattle.zr_meta.proofs.Logs.{reach_of, fit_by}
use Rattle.zr_meta.proofs.log.is_fit.Goals as goal

pub condensed-requires-clause-reach : goal.condensed-requires-clause-reach
condensed-requires-clause-reach c =
    reach_of c.args.version c.args.units c.args.set.now.extents c.requires.version c.requires.units
    (subst (EndsBy c.args.units) c.extents.ensures.extents (c.ends_by.ensures.0 c.if-not-ends_by.false))

pub returns : goal.returns
returns c = (
  λ h. record {
    within = subst (EndsBy c.args.units) c.extents.ensures.extents (c.ends_by.ensures.0 c.if-not-ends_by.false);
    anew = c.in_ok-anew.anew.items;
    is_anew = c.in_ok-anew.ensures.anew;
    short = omega (arith, c.is_short.ensures.0 h, c.len.ensures);
  },
  λ k. c.is_short.ensures.1
      (omega (arith, c.len.ensures, fit_by c.args.version c.args.dev c.args.units c.args.words c.args.set.now.extents c.in_ok-anew.anew.items c.requires.version c.requires.units c.extents.ensures.maximal c.in_ok-anew.ensures.anew k)),
)
