use Rattle.std.proofs.Common.{◌≡◌, ◌/◌, ◌%◌, ℕ, length, take, None}
use Rattle.std.specs.Prelude.{IfSome, slice_index_or}
use Rattle.std.specs.List.{AllByRecursion}
use Rattle.zr_bptr.specs.Spelling.{IsObject}
use Rattle.zr_objset.specs.Changes.{changed}
use Rattle.zr_objset.proofs.stores.change_records.Given as goal

abbrev pub invariant-loop-change : goal.invariant-loop-change
invariant-loop-change l = record {
  count : length l.records.items ≡ 16;
  lawful : AllByRecursion (λ r. IfSome r IsObject) l.records.items;
  so_far : (id : ℕ) → id / 16 ≡ l.place → slice_index_or l.records.items (id % 16) None ≡ changed (take l.change-index l.run) id (slice_index_or l.fn.records.items (id % 16) None);
}
