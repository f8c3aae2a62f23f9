use Rattle.std.proofs.Common.{◌≡◌, ◌+◌, ◌*◌, length, take}
use Rattle.std.specs.Prelude.{All, IfSome}
use Rattle.zr_bptr.specs.Spelling.{IsObject}
use Rattle.zr_store.specs.Causes.{Costs}
use Rattle.zr_store.specs.Store.{Stored, Now, AreStored}
use Rattle.zr_txg.specs.Tables.{IsRising}
use Rattle.zr_txg.specs.Changes.{block_count}
use Rattle.zr_commit.specs.Objects.{blocks_of, WritesObjects}
use Rattle.zr_commit.proofs.Entries.{ids_of}
use Rattle.zr_commit.proofs.objects.write_objects.Given as goal

abbrev pub invariant-loop-i : goal.invariant-loop-i
invariant-loop-i g l = record {
  count : l.i-end ≡ length l.group.objects;
  rising : IsRising l.group.objects;
  follows : (start : g.row.B.Denot) → g.B.Blocks.follows start l.fn.store → g.B.Blocks.follows start l.store;
  costs : Costs (5 * block_count (take l.i l.group.objects) + 4 * l.i) (5 * block_count (take l.i l.group.objects)) (g.B.Blocks.account l.fn.store) (g.B.Blocks.account l.store);
  ids : ids_of l.records.items ≡ ids_of (take l.i l.group.objects);
  objects : All (λ r. IfSome r.1 IsObject) l.records.items;
  so_far : (s : Stored) → g.B.Blocks.holds l.fn.store s → AreStored (blocks_of s l.group.objects) s → Now (g.B.Blocks.holds l.store) (λ n. WritesObjects s n (take l.i l.group.objects) l.records.items);
}
