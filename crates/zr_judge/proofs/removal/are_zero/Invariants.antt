use Rattle.std.proofs.Common.{◌≡◌, length}
use Rattle.std.specs.List.{AllByRecursion}
use Rattle.zr_judge.proofs.removal.are_zero.Given as goal

abbrev pub invariant-loop-first : goal.invariant-loop-first
invariant-loop-first l = record {
  all : AllByRecursion (λ n. n ≡ 0) l.rest → AllByRecursion (λ n. n ≡ 0) l.counts;
  part : AllByRecursion (λ n. n ≡ 0) l.counts → AllByRecursion (λ n. n ≡ 0) l.rest;
}

abbrev pub decreases-loop-first : goal.decreases-loop-first
decreases-loop-first l = length l.rest
