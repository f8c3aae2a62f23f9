use Rattle.std.proofs.Common.{length}
use Rattle.std.specs.List.{AllByRecursion}
use Rattle.zr_smap.proofs.Cutting.{AllCuts, IsPlaced}
use Rattle.zr_smap.proofs.cut_words.Given as goal

abbrev pub invariant-loop-extent : goal.invariant-loop-extent
invariant-loop-extent l = record {
  placed : AllByRecursion IsPlaced l.rest;
  cut : AllCuts l.words.items l.most l.dev l.fn.extents l.rest;
}

abbrev pub decreases-loop-extent : goal.decreases-loop-extent
decreases-loop-extent l = length l.rest
