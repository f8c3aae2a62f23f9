use Rattle.std.proofs.Common.{◌≡◌, filter, not, length}
use Rattle.zr_cache.specs.Entries.{entries, capacity, is_in}
use Rattle.zr_cache.proofs.table.Cache.forget_run.Given as goal

abbrev pub invariant-loop-key : goal.invariant-loop-key
invariant-loop-key l = record {
  left : filter (λ e. not (is_in l.run e)) (entries l.self) ≡ filter (λ e. not (is_in l.run e)) (entries l.initial.self);
  room : capacity l.self ≡ capacity l.initial.self;
}

abbrev pub decreases-loop-key : goal.decreases-loop-key
decreases-loop-key l = length (entries l.self)
