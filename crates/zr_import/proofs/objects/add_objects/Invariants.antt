use Rattle.std.proofs.Common.{◌≡◌, ◌++◌, take}
use Rattle.std.specs.Prelude.{All}
use Rattle.std.specs.List.{flat_map}
use Rattle.zr_bptr.specs.Spelling.{IsObject}
use Rattle.zr_image.specs.Roots.{HasRootSize}
use Rattle.zr_import.specs.Directories.{recorded}
use Rattle.zr_import.proofs.objects.add_objects.Given as goal

abbrev pub invariant-loop-record : goal.invariant-loop-record
invariant-loop-record l = record {
  lawful : All IsObject l.objects.items;
  sized : All HasRootSize l.objects.items;
  objects : l.objects.items ≡ l.initial.objects.items ++ flat_map recorded (take l.record-index l.records);
}
