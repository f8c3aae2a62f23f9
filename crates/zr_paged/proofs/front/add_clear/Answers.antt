use Rattle.std.proofs.Common.{◌<◌, ◌∷◌, ◌++◌, length}
use Rattle.zr_base.specs.Extents.{HasNone, AddsUnits}
use Rattle.zr_paged.specs.Runs.{stop_of}
use Rattle.zr_paged.specs.Pages.{all_of, pages_in, ArePages}
use Rattle.zr_paged.proofs.Adding.{none_high, add_high}
use Rattle.zr_paged.proofs.Sides.{high_pages, fit_high, some_extents}
use Rattle.zr_paged.proofs.front.add_clear.Goals as goal

pub add-requires-clause-pages : goal.add-requires-clause-pages
add-requires-clause-pages c =
    let lows = pages_in c.in-Fork.node.value.low in
    let page = c.in-Fork.node.value.page in
    let highs = pages_in c.in-Fork.node.value.high in
    let pages : ArePages (lows ++ page ∷ highs) = rw c.in-Fork.is at c.requires.pages in
    rw c.deref_mut.ensures.value (high_pages lows page highs pages)

pub add-requires-clause-apart : goal.add-requires-clause-apart
add-requires-clause-apart c =
    let lows = pages_in c.in-Fork.node.value.low in
    let page = c.in-Fork.node.value.page in
    let highs = pages_in c.in-Fork.node.value.high in
    let none : HasNone (all_of (lows ++ page ∷ highs)) c.args.e = rw c.in-Fork.is at c.requires.apart in
    rw c.deref_mut.ensures.value (none_high lows page highs c.args.e none)

pub returns-then-goes_high-clause-added : goal.returns-then-goes_high-clause-added
returns-then-goes_high-clause-added c =
    let lows = pages_in c.in-Fork.node.value.low in
    let page = c.in-Fork.node.value.page in
    let highs = pages_in c.in-Fork.node.value.high in
    let pages : ArePages (lows ++ page ∷ highs) = rw c.in-Fork.is at c.requires.pages in
    let some : 0 < length highs = rw c.deref.ensures at (c.goes_high.ensures.some c.if-goes_high.true) in
    let lt : stop_of page < c.args.e.start = rw c.deref.ensures at (c.goes_high.ensures.high c.if-goes_high.true) in
    let added : AddsUnits (all_of highs) (all_of (pages_in c.add.new.tree)) c.args.e = rw c.deref_mut.ensures.value at c.add.ensures.added in
    rw (c.in-Fork.is, c.deref_mut.ensures.value)
    (add_high lows page highs (pages_in c.add.new.tree) c.args.e pages lt (some_extents highs (fit_high lows page highs pages.fit) some) added)
