use Rattle.std.proofs.Common.{◌<◌, ◌≤◌, ◌∷◌, ◌++◌, arith, ap}
use Rattle.std.proofs.lemmas.Option.{IfSome_then}
use Rattle.zr_base.specs.Extents.{HasNoneFrom, IsFirstPart}
use Rattle.zr_paged.specs.declared.tree.Node.{Node}
use Rattle.zr_paged.specs.Runs.{start_of, stop_of}
use Rattle.zr_paged.specs.Pages.{all_of, pages_in, ArePages}
use Rattle.zr_paged.proofs.Nexts.{none_then}
use Rattle.zr_paged.proofs.Finding.{first_low, first_next, first_page, first_high, none_high_from, page_some}
use Rattle.zr_paged.proofs.Sides.{low_pages, high_pages}
use Rattle.zr_paged.proofs.Trees.{low_fewer, high_fewer}
use Rattle.zr_paged.proofs.find.+part_from.Goals as goal

pub part_from-requires : goal.part_from-requires
part_from-requires t c =
    let lows = pages_in c.in-Fork.node.value.low in
    let page = c.in-Fork.node.value.page in
    let highs = pages_in c.in-Fork.node.value.high in
    let pages : ArePages (lows ++ page ∷ highs) = rw c.in-Fork.is at c.requires in
    let fewer = low_fewer c.args.tree.now c.in-Fork.node c.in-Fork.is in
    rw c.deref-then-u-start.ensures (omega (arith, fewer, c.decreases), low_pages lows page highs pages)

pub returns-in-Some-clause-some : goal.returns-in-Some-clause-some
returns-in-Some-clause-some t c =
    let lows = pages_in c.in-Fork.node.value.low in
    let page = c.in-Fork.node.value.page in
    let highs = pages_in c.in-Fork.node.value.high in
    let pages : ArePages (lows ++ page ∷ highs) = rw c.in-Fork.is at c.requires in
    let f : IsFirstPart (all_of lows) c.args.u c.in-Some.part = rw c.deref-then-u-start.ensures at c.in-Some.ensures.some in
    rw c.in-Fork.is (first_low lows page highs c.args.u c.in-Some.part pages f)

pub returns-then-u-start-clause-some : goal.returns-then-u-start-clause-some
returns-then-u-start-clause-some t c =
    let lows = pages_in c.in-Fork.node.value.low in
    let page = c.in-Fork.node.value.page in
    let highs = pages_in c.in-Fork.node.value.high in
    let pages : ArePages (lows ++ page ∷ highs) = rw c.in-Fork.is at c.requires in
    let lt : c.args.u < start_of page = omega (arith, c.if-u-start.true, c.start.ensures, ap (λ (n : Node). start_of n.page) c.deref.ensures) in
    let none : HasNoneFrom (all_of lows) c.args.u = rw c.deref-then-u-start.ensures at c.in_default.ensures.none in
    rw (c.in-Fork.is, c.first.ensures.value, c.deref-then-u-start-2.ensures) (first_next lows page highs c.args.u pages none lt)

pub returns-then-u-stop-clause-some : goal.returns-then-u-stop-clause-some
returns-then-u-stop-clause-some t c =
    let lows = pages_in c.in-Fork.node.value.low in
    let page = c.in-Fork.node.value.page in
    let highs = pages_in c.in-Fork.node.value.high in
    let pages : ArePages (lows ++ page ∷ highs) = rw c.in-Fork.is at c.requires in
    let from : start_of page ≤ c.args.u = omega (arith, c.if-u-start.false, c.start.ensures, ap (λ (n : Node). start_of n.page) c.deref.ensures) in
    rw c.in-Fork.is
    (IfSome_then c.first_from.result c.first_from.ensures.some (λ part f. first_page lows page highs c.args.u part pages from (rw c.deref-then-u-stop.ensures at f)))

pub returns-then-u-stop-clause-none : goal.returns-then-u-stop-clause-none
returns-then-u-stop-clause-none t c =
    let lows = pages_in c.in-Fork.node.value.low in
    let page = c.in-Fork.node.value.page in
    let highs = pages_in c.in-Fork.node.value.high in
    let pages : ArePages (lows ++ page ∷ highs) = rw c.in-Fork.is at c.requires in
    let lt : c.args.u < stop_of page = omega (arith, c.if-u-stop.true, c.stop.ensures, ap (λ (n : Node). stop_of n.page) c.deref-in-Fork.ensures) in
    none_then c.first_from.result c.first_from.ensures.none (λ none. absurd (page_some lows page highs c.args.u pages lt (rw c.deref-then-u-stop.ensures at none)))

pub part_from-requires-in-Fork : goal.part_from-requires-in-Fork
part_from-requires-in-Fork t c =
    let lows = pages_in c.in-Fork.node.value.low in
    let page = c.in-Fork.node.value.page in
    let highs = pages_in c.in-Fork.node.value.high in
    let pages : ArePages (lows ++ page ∷ highs) = rw c.in-Fork.is at c.requires in
    let fewer = high_fewer c.args.tree.now c.in-Fork.node c.in-Fork.is in
    rw c.deref-in-Fork-2.ensures (omega (arith, fewer, c.decreases), high_pages lows page highs pages)

pub returns-else-u-stop-clause-some : goal.returns-else-u-stop-clause-some
returns-else-u-stop-clause-some t c =
    let lows = pages_in c.in-Fork.node.value.low in
    let page = c.in-Fork.node.value.page in
    let highs = pages_in c.in-Fork.node.value.high in
    let pages : ArePages (lows ++ page ∷ highs) = rw c.in-Fork.is at c.requires in
    let from : start_of page ≤ c.args.u = omega (arith, c.if-u-start.false, c.start.ensures, ap (λ (n : Node). start_of n.page) c.deref.ensures) in
    let le : stop_of page ≤ c.args.u = omega (arith, c.if-u-stop.false, c.stop.ensures, ap (λ (n : Node). stop_of n.page) c.deref-in-Fork.ensures) in
    rw c.in-Fork.is
    (IfSome_then c.part_from-in-Fork.result c.part_from-in-Fork.ensures.some (λ part f. first_high lows page highs c.args.u part pages from le (rw c.deref-in-Fork-2.ensures at f)))

pub returns-else-u-stop-clause-none : goal.returns-else-u-stop-clause-none
returns-else-u-stop-clause-none t c =
    let lows = pages_in c.in-Fork.node.value.low in
    let page = c.in-Fork.node.value.page in
    let highs = pages_in c.in-Fork.node.value.high in
    let pages : ArePages (lows ++ page ∷ highs) = rw c.in-Fork.is at c.requires in
    let from : start_of page ≤ c.args.u = omega (arith, c.if-u-start.false, c.start.ensures, ap (λ (n : Node). start_of n.page) c.deref.ensures) in
    let le : stop_of page ≤ c.args.u = omega (arith, c.if-u-stop.false, c.stop.ensures, ap (λ (n : Node). stop_of n.page) c.deref-in-Fork.ensures) in
    rw c.in-Fork.is
    (none_then c.part_from-in-Fork.result c.part_from-in-Fork.ensures.none (λ none. none_high_from lows page highs c.args.u pages from le (rw c.deref-in-Fork-2.ensures at none)))
