use Rattle.std.proofs.Common.{◌≡◌, ◌++◌, take}
use Rattle.std.specs.Prelude.{All}
use Rattle.std.specs.List.{flat_map}
use Rattle.zr_store.specs.Causes.{Costs}
use Rattle.zr_store.specs.Store.{Stored}
use Rattle.zr_objset.specs.Errors.{IsFormed, HasSoundObjects}
use Rattle.zr_objset.specs.Records.{leaf_reach}
use Rattle.zr_objset.proofs.walks.walk.Given as goal

abbrev pub invariant-loop-b : goal.invariant-loop-b
invariant-loop-b g l = record {
  follows : (start : g.row.B.Denot) → g.B.Blocks.follows start l.fn.store → g.B.Blocks.follows start l.store;
  costs : Costs 0 0 (g.B.Blocks.account l.fn.store) (g.B.Blocks.account l.store);
  same : (s : Stored) → g.B.Blocks.holds l.fn.store s → g.B.Blocks.holds l.store s;
  formed : (s : Stored) → g.B.Blocks.holds l.fn.store s → All (IsFormed s) (take l.b-index l.b-items);
  objects : (s : Stored) → g.B.Blocks.holds l.fn.store s → All (HasSoundObjects s) (take l.b-index l.b-items);
  so_far : (s : Stored) → g.B.Blocks.holds l.fn.store s → l.out.items ≡ l.initial.out.items ++ flat_map (leaf_reach s) (take l.b-index l.b-items);
}
