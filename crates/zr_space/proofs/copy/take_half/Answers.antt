use Rattle.std.proofs.Common.{◌∙◌, subst, arith}
use Rattle.zr_metaslab.specs.Devices.{Devices, free_of}
use Rattle.zr_rules.specs.Placement.{HasRunSomewhere}
use Rattle.zr_space.proofs.Planning.{halving_next}
use Rattle.zr_space.proofs.copy.take_half.Goals as goal

pub loop-want-preserved : goal.loop-want-preserved
loop-want-preserved g c =
    let i = c.loop-want.invariant in
    record {
      same = c.in_default.ensures.unchanged ∙ i.same;
      most = let m = i.most in omega (arith, m);
      halves = halving_next (free_of c.args.slabs.now) c.args.most c.loop-want.want i.halves c.loop-want-test.true (subst (λ (s : Devices). HasRunSomewhere (free_of s) c.loop-want.want → ⊥) i.same c.in_default.ensures.none.none);
    }
