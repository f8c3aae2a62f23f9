use Rattle.std.proofs.Common.{take}
use Rattle.std.specs.Prelude.{All}
use Rattle.std.specs.List.{flat_map}
use Rattle.zr_bptr.specs.declared.ObjRec.{ObjRec}
use Rattle.zr_store.specs.Causes.{Costs}
use Rattle.zr_store.specs.Store.{Stored}
use Rattle.zr_tree.specs.Trees.{tree_reach}
use Rattle.zr_import.specs.Directories.{HasItsLength}
use Rattle.zr_import.specs.Units.{MarksAll}
use Rattle.zr_import.proofs.objects.walk_all.Given as goal

abbrev pub invariant-loop-r : goal.invariant-loop-r
invariant-loop-r g l = record {
  follows : (start : g.row.B.Denot) → g.B.Blocks.follows start l.fn.store → g.B.Blocks.follows start l.store;
  costs : Costs 0 0 (g.B.Blocks.account l.fn.store) (g.B.Blocks.account l.store);
  same : (s : Stored) → g.B.Blocks.holds l.fn.store s → g.B.Blocks.holds l.store s;
  marks : (s : Stored) → g.B.Blocks.holds l.fn.store s → MarksAll g.M.Mark.marks l.txg l.initial.marks l.marks (flat_map (λ (r : ObjRec). tree_reach s r.tree) (take l.r-index l.r-items));
  sized : (s : Stored) → g.B.Blocks.holds l.fn.store s → All (HasItsLength s) (take l.r-index l.r-items);
}
