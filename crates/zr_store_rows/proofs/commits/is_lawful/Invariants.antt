use Rattle.std.proofs.Common.{◌≡◌, length, take}
use Rattle.std.specs.List.{AllByRecursion}
use Rattle.zr_txg.specs.Tables.{IsRising}
use Rattle.zr_lookup.specs.Groups.{IsChangeOf}
use Rattle.zr_store_rows.proofs.commits.is_lawful.Given as goal

abbrev pub invariant-loop-i : goal.invariant-loop-i
invariant-loop-i l = record {
  count : l.i-end ≡ length l.group.objects;
  rising : IsRising l.group.objects;
  so_far : AllByRecursion IsChangeOf (take l.i l.group.objects);
}
