use Rattle.std.proofs.Common.{◌-◌, ◌≡◌, ℕ, ◌+◌, ◌≤◌, ◌<◌, length, take, map, false}
use Rattle.zr_rules.specs.Mappings.{entry_at, has_source, target}
use Rattle.zr_imap.specs.Searches.{FollowFrom, piece_target, place_of, moved_parts}
use Rattle.zr_imap.proofs.image.pieces_from.Given as goal

abbrev pub invariant-loop-done : goal.invariant-loop-done
invariant-loop-done g l = record {
  within : l.done ≤ l.e.len;
  from : l.fn.first ≤ l.i;
  index : l.i ≤ length (g.O.Sorted.entries l.sorted);
  follow : FollowFrom 0 l.done l.pieces.items;
  targets : (k : ℕ) → k < l.done → piece_target l.pieces.items k ≡ target (g.O.Sorted.entries l.sorted) (l.e.start + k);
  cut : map place_of l.pieces.items ≡ moved_parts (take l.i (g.O.Sorted.entries l.sorted)) l.fn.e.start l.fn.e.len;
  beyond : 0 < l.done → l.i < length (g.O.Sorted.entries l.sorted) → l.fn.e.start + l.done ≤ (entry_at (g.O.Sorted.entries l.sorted) l.i).src;
  first : l.done ≡ 0 → l.i ≡ l.fn.first;
  count : length l.pieces.items + l.fn.first ≡ l.i;
  steps : l.steps + l.fn.first ≡ l.initial.steps + l.i;
  before : l.done < l.e.len → has_source (take l.i (g.O.Sorted.entries l.sorted)) (l.e.start + l.done) ≡ false;
  ahead : l.done < l.e.len → l.i < length (g.O.Sorted.entries l.sorted) → l.e.start + l.done < (entry_at (g.O.Sorted.entries l.sorted) l.i).src + (entry_at (g.O.Sorted.entries l.sorted) l.i).len;
}

abbrev pub decreases-loop-done : goal.decreases-loop-done
decreases-loop-done g l = l.e.len - l.done
