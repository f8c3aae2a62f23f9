use Rattle.std.proofs.Common.{◌≡◌, ◌++◌, length, take, sum_by}
use Rattle.std.specs.List.{flat_map}
use Rattle.zr_store.specs.Causes.{Costs}
use Rattle.zr_store.specs.Store.{Stored}
use Rattle.zr_tree.specs.Trees.{tree_reach}
use Rattle.zr_meta.specs.declared.Stream.{Stream}
use Rattle.zr_import.specs.Units.{MarksAll, Meets}
use Rattle.zr_import.specs.Words.{HaveWords}
use Rattle.zr_import.proofs.heads.read_streams.Given as goal

abbrev pub invariant-loop-stream : goal.invariant-loop-stream
invariant-loop-stream g l = record {
  follows : (start : g.row.B.Denot) → g.B.Blocks.follows start l.fn.store → g.B.Blocks.follows start l.store;
  costs : Costs 0 0 (g.B.Blocks.account l.fn.store) (g.B.Blocks.account l.store);
  same : (s : Stored) → g.B.Blocks.holds l.fn.store s → g.B.Blocks.holds l.store s;
  count : length l.all.items ≡ sum_by (λ t. t.words) (take l.stream-index l.streams);
  marks : (s : Stored) → g.B.Blocks.holds l.fn.store s → MarksAll Meets l.txg l.initial.marks l.marks (flat_map (λ (t : Stream). tree_reach s t.tree) (take l.stream-index l.streams));
  met : (s : Stored) → g.B.Blocks.holds l.fn.store s → l.met.items ≡ l.initial.met.items ++ flat_map (λ (t : Stream). tree_reach s t.tree) (take l.stream-index l.streams);
  words : (s : Stored) → g.B.Blocks.holds l.fn.store s → HaveWords s (take l.stream-index l.streams) l.all.items;
}
