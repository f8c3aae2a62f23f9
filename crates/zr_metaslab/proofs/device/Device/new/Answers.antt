use Rattle.std.proofs.Common.{◌≤◌, arith}
use Rattle.std.proofs.lemmas.Bool.Decides.{nat_tests}
use Rattle.zr_base.specs.Extents.{extent_at}
use Rattle.zr_base.proofs.ExtentSets.{unit_count-more}
use Rattle.zr_metaslab.proofs.Gaps.{end_within, more_done, has_more}
use Rattle.zr_metaslab.proofs.device.Device.new.Goals as goal

pub release_to-requires-clause-within : goal.release_to-requires-clause-within
release_to-requires-clause-within c = omega (arith, end_within c.args.units c.loop-run.run-index c.args.used.now c.requires.maximal c.requires.within c.loop-run-test.true, c.loop-run.invariant.units)

pub overflow_add-at : goal.overflow_add-at
overflow_add-at c = omega (arith, end_within c.args.units c.loop-run.run-index c.args.used.now c.requires.maximal c.requires.within c.loop-run-test.true, c.requires.small)

pub loop-run-preserved : goal.loop-run-preserved
loop-run-preserved c =
    let fits = end_within c.args.units c.loop-run.run-index c.args.used.now c.requires.maximal c.requires.within c.loop-run-test.true in
    let ahead : c.loop-run.at ≤ (extent_at c.args.used.now c.loop-run.run-index).start = c.loop-run.invariant.done.ahead c.loop-run.run-index (omega arith) c.loop-run-test.true in
    record {
      done = more_done c.args.units c.loop-run.run-index c.loop-run.at c.args.used.now c.requires.maximal c.requires.within c.loop-run-test.true c.loop-run.invariant.done;
      on = grind (arith, c.release_to.ensures.device, c.loop-run.invariant.on);
      units = grind (arith, c.release_to.ensures.device, c.loop-run.invariant.units);
      free = λ u. grind (arith, nat_tests, c.release_to.ensures.free u, c.loop-run.invariant.free u, has_more c.loop-run.run-index u c.args.used.now c.loop-run-test.true, c.loop-run.invariant.done.below u, ahead, fits.0);
      count = omega (arith, c.release_to.ensures.count, c.loop-run.invariant.count, unit_count-more c.loop-run.run-index c.args.used.now (record { start = 0; len = 0 }) c.loop-run-test.true);
      sound = c.release_to.ensures.sound;
    }
