use Rattle.std.proofs.Common.{◌≡◌, ◌++◌, take}
use Rattle.std.specs.Prelude.{All}
use Rattle.std.specs.List.{flat_map}
use Rattle.zr_store.specs.Causes.{Costs}
use Rattle.zr_store.specs.Store.{Stored}
use Rattle.zr_objset.specs.Errors.{IsSoundObject}
use Rattle.zr_objset.specs.Records.{object_reach}
use Rattle.zr_objset.proofs.walks.walk_leaf.Given as goal

abbrev pub invariant-loop-object : goal.invariant-loop-object
invariant-loop-object g l = record {
  follows : (start : g.row.B.Denot) → g.B.Blocks.follows start l.fn.store → g.B.Blocks.follows start l.store;
  costs : Costs 0 0 (g.B.Blocks.account l.fn.store) (g.B.Blocks.account l.store);
  same : (s : Stored) → g.B.Blocks.holds l.fn.store s → g.B.Blocks.holds l.store s;
  sound : (s : Stored) → g.B.Blocks.holds l.fn.store s → All (IsSoundObject s) (take l.object-index l.object-items);
  so_far : (s : Stored) → g.B.Blocks.holds l.fn.store s → l.out.items ≡ l.initial.out.items ++ flat_map (object_reach s) (take l.object-index l.object-items);
}
