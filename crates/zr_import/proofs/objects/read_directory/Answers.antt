use Rattle.std.proofs.Common.{rules, []}
use Rattle.zr_import.specs.Directories.{objects_in}
use Rattle.zr_import.proofs.Directory.{objects_more}
use Rattle.zr_import.proofs.objects.read_directory.Goals as goal

pub loop-b-preserved : goal.loop-b-preserved
loop-b-preserved g c =
    let inv = c.loop-b.invariant in
    record {
      follows = search rules;
      costs = search rules;
      same = search rules;
      lawful = search rules;
      sized = search rules;
      objects = λ s holds. objects_more (objects_in s) c.args.met.now c.loop-b.b-index _ [] _ _ c.loop-b-test.true (inv.objects s holds) (c.in_ok-read_objects.ensures.objects s (inv.same s holds));
    }
