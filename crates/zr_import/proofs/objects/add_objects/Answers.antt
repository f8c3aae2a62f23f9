use Rattle.std.proofs.Common.{◌∙◌, ◌++◌, List, ap}
use Rattle.std.specs.List.{flat_map}
use Rattle.std.proofs.lemmas.List.{take_all}
use Rattle.std.specs.Prelude.{Option}
use Rattle.zr_bptr.specs.declared.ObjRec.{ObjRec}
use Rattle.zr_import.specs.Directories.{recorded}
use Rattle.zr_import.proofs.Directory.{objects_more}
use Rattle.zr_import.proofs.objects.add_objects.Goals as goal

pub loop-record-preserved : goal.loop-record-preserved
loop-record-preserved c = record {
  lawful = c.add_object.ensures.lawful;
  sized = c.add_object.ensures.sized;
  objects = objects_more recorded c.args.records.now c.loop-record.record-index _ _ _ _ c.loop-record-test.true c.loop-record.invariant.objects c.in_ok-add_object.ensures.objects;
}

pub returns-clause-objects : goal.returns-clause-objects
returns-clause-objects c =
    c.loop-record.invariant.objects
    ∙ ap (λ (rs : List (Option ObjRec)). c.args.objects.now.items ++ flat_map recorded rs) (take_all c.loop-record.record-index c.args.records.now c.loop-record-test.false)
