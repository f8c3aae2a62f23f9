use Rattle.std.proofs.Common.{◌≡◌, ◌∷◌, ◌++◌, [], ap}
use Rattle.zr_base.specs.Extents.{IsMaximal}
use Rattle.zr_paged.specs.Pages.{all_of, pages_in}
use Rattle.zr_paged.proofs.Whole.{push_rises}
use Rattle.zr_paged.proofs.front.push_in.Goals as goal

pub push_first-requires-clause-maximal : goal.push_first-requires-clause-maximal
push_first-requires-clause-maximal c =
    let lows = pages_in c.in-Fork.node.value.low in
    let page = c.in-Fork.node.value.page in
    let highs = pages_in c.in-Fork.node.value.high in
    let m : IsMaximal (c.args.e ∷ all_of (lows ++ page ∷ highs)) = rw c.in-Fork.is at c.requires.maximal in
    let front : pages_in c.in-Fork.node.value.low ≡ [] = ap pages_in (rw c.in-Fork.is at c.requires.front) in
    rw c.deref_mut.ensures.value (push_rises c.args.e lows page highs front m)
