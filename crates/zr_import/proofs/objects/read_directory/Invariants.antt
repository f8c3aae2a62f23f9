use Rattle.std.proofs.Common.{◌≡◌, take}
use Rattle.std.specs.Prelude.{All}
use Rattle.std.specs.List.{flat_map}
use Rattle.zr_bptr.specs.Spelling.{IsObject}
use Rattle.zr_store.specs.Causes.{Costs}
use Rattle.zr_store.specs.Store.{Stored}
use Rattle.zr_image.specs.Roots.{HasRootSize}
use Rattle.zr_import.specs.Directories.{objects_in}
use Rattle.zr_import.proofs.objects.read_directory.Given as goal

abbrev pub invariant-loop-b : goal.invariant-loop-b
invariant-loop-b g l = record {
  follows : (start : g.row.B.Denot) → g.B.Blocks.follows start l.fn.store → g.B.Blocks.follows start l.store;
  costs : Costs 0 0 (g.B.Blocks.account l.fn.store) (g.B.Blocks.account l.store);
  same : (s : Stored) → g.B.Blocks.holds l.fn.store s → g.B.Blocks.holds l.store s;
  lawful : All IsObject l.objects.items;
  sized : All HasRootSize l.objects.items;
  objects : (s : Stored) → g.B.Blocks.holds l.fn.store s → l.objects.items ≡ flat_map (objects_in s) (take l.b-index l.met);
}
