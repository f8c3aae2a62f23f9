use Rattle.std.proofs.Common.{◌+◌, ◌<◌, ◌∷◌, ◌++◌, length, arith}
use Rattle.zr_base.specs.Extents.{HasNone, AddsUnits}
use Rattle.zr_paged.specs.Runs.{start_of, stop_of}
use Rattle.zr_paged.specs.Pages.{all_of, pages_in, AreFit, ArePages, IsClear}
use Rattle.zr_paged.proofs.Adding.{none_low, none_high, add_low, add_high}
use Rattle.zr_paged.proofs.Sides.{low_pages, high_pages, clear_low, clear_back, some_extents, fit_page, fit_high, fit_front, fit_join}
use Rattle.zr_paged.proofs.Trees.{low_fewer, high_fewer}
use Rattle.zr_paged.proofs.change.+add.Goals as goal

pub add-requires : goal.add-requires
add-requires t c =
    let lows = pages_in c.in-Fork.node.value.low in
    let page = c.in-Fork.node.value.page in
    let highs = pages_in c.in-Fork.node.value.high in
    let pages : ArePages (lows ++ page ∷ highs) = rw c.in-Fork.is at c.requires.pages in
    let none : HasNone (all_of (lows ++ page ∷ highs)) c.args.e = rw c.in-Fork.is at c.requires.apart in
    let clear : IsClear (lows ++ page ∷ highs) (c.args.e.start + c.args.e.len) = rw c.in-Fork.is at c.requires.clear in
    let some : 0 < length lows = rw c.deref.ensures at (c.goes_low.ensures.some c.if-goes_low.true) in
    let fewer = low_fewer c.args.tree.now c.in-Fork.node c.in-Fork.is in
    rw c.deref_mut.ensures.value
    (omega (arith, fewer, c.decreases), (c.requires.not_empty, (c.requires.in_range, (some, (low_pages lows page highs pages, (none_low lows page highs c.args.e none, (clear_low lows page highs (c.args.e.start + c.args.e.len) clear, c.requires.room)))))))

pub returns-then-goes_low-clause-added : goal.returns-then-goes_low-clause-added
returns-then-goes_low-clause-added t c =
    let lows = pages_in c.in-Fork.node.value.low in
    let page = c.in-Fork.node.value.page in
    let highs = pages_in c.in-Fork.node.value.high in
    let pages : ArePages (lows ++ page ∷ highs) = rw c.in-Fork.is at c.requires.pages in
    let none : HasNone (all_of (lows ++ page ∷ highs)) c.args.e = rw c.in-Fork.is at c.requires.apart in
    let clear : IsClear (lows ++ page ∷ highs) (c.args.e.start + c.args.e.len) = rw c.in-Fork.is at c.requires.clear in
    let some : 0 < length lows = rw c.deref.ensures at (c.goes_low.ensures.some c.if-goes_low.true) in
    let lt : c.args.e.start < start_of page = rw c.deref.ensures at (c.goes_low.ensures.low c.if-goes_low.true) in
    let fit : AreFit lows = fit_front lows (page ∷ highs) pages.fit in
    let added : AddsUnits (all_of lows) (all_of (pages_in c.add.new.tree)) c.args.e = rw c.deref_mut.ensures.value at c.add.ensures.added in
    rw (c.in-Fork.is, c.balance_low.ensures, c.deref_mut-then-goes_low.ensures.value, c.deref_mut.ensures.value)
    (add_low lows page highs (pages_in c.add.new.tree) c.args.e pages none clear lt (some_extents lows fit some) added)

pub returns-then-goes_low-clause-fit : goal.returns-then-goes_low-clause-fit
returns-then-goes_low-clause-fit t c =
    let lows = pages_in c.in-Fork.node.value.low in
    let page = c.in-Fork.node.value.page in
    let highs = pages_in c.in-Fork.node.value.high in
    let pages : ArePages (lows ++ page ∷ highs) = rw c.in-Fork.is at c.requires.pages in
    let here = fit_page lows page highs pages.fit in
    rw (c.balance_low.ensures, c.deref_mut-then-goes_low.ensures.value, c.deref_mut.ensures.value)
    (fit_join (pages_in c.add.new.tree) page highs c.add.ensures.fit here.0 here.1 (fit_high lows page highs pages.fit))

pub add-requires-then-goes_high : goal.add-requires-then-goes_high
add-requires-then-goes_high t c =
    let lows = pages_in c.in-Fork.node.value.low in
    let page = c.in-Fork.node.value.page in
    let highs = pages_in c.in-Fork.node.value.high in
    let pages : ArePages (lows ++ page ∷ highs) = rw c.in-Fork.is at c.requires.pages in
    let none : HasNone (all_of (lows ++ page ∷ highs)) c.args.e = rw c.in-Fork.is at c.requires.apart in
    let clear : IsClear (lows ++ page ∷ highs) (c.args.e.start + c.args.e.len) = rw c.in-Fork.is at c.requires.clear in
    let some : 0 < length highs = rw c.deref-in-Fork.ensures at (c.goes_high.ensures.some c.if-goes_high.true) in
    let fewer = high_fewer c.args.tree.now c.in-Fork.node c.in-Fork.is in
    rw c.deref_mut-then-goes_high.ensures.value
    (omega (arith, fewer, c.decreases), (c.requires.not_empty, (c.requires.in_range, (some, (high_pages lows page highs pages, (none_high lows page highs c.args.e none, ((clear_back lows (page ∷ highs) (c.args.e.start + c.args.e.len) clear).1, c.requires.room)))))))

pub returns-then-goes_high-clause-added : goal.returns-then-goes_high-clause-added
returns-then-goes_high-clause-added t c =
    let lows = pages_in c.in-Fork.node.value.low in
    let page = c.in-Fork.node.value.page in
    let highs = pages_in c.in-Fork.node.value.high in
    let pages : ArePages (lows ++ page ∷ highs) = rw c.in-Fork.is at c.requires.pages in
    let some : 0 < length highs = rw c.deref-in-Fork.ensures at (c.goes_high.ensures.some c.if-goes_high.true) in
    let lt : stop_of page < c.args.e.start = rw c.deref-in-Fork.ensures at (c.goes_high.ensures.high c.if-goes_high.true) in
    let added : AddsUnits (all_of highs) (all_of (pages_in c.add-then-goes_high.new.tree)) c.args.e = rw c.deref_mut-then-goes_high.ensures.value at c.add-then-goes_high.ensures.added in
    rw (c.in-Fork.is, c.balance_high.ensures, c.deref_mut-then-goes_high-2.ensures.value, c.deref_mut-then-goes_high.ensures.value)
    (add_high lows page highs (pages_in c.add-then-goes_high.new.tree) c.args.e pages lt (some_extents highs (fit_high lows page highs pages.fit) some) added)

pub returns-then-goes_high-clause-fit : goal.returns-then-goes_high-clause-fit
returns-then-goes_high-clause-fit t c =
    let lows = pages_in c.in-Fork.node.value.low in
    let page = c.in-Fork.node.value.page in
    let highs = pages_in c.in-Fork.node.value.high in
    let pages : ArePages (lows ++ page ∷ highs) = rw c.in-Fork.is at c.requires.pages in
    let here = fit_page lows page highs pages.fit in
    rw (c.balance_high.ensures, c.deref_mut-then-goes_high-2.ensures.value, c.deref_mut-then-goes_high.ensures.value)
    (fit_join lows page (pages_in c.add-then-goes_high.new.tree) (fit_front lows (page ∷ highs) pages.fit) here.0 here.1 c.add-then-goes_high.ensures.fit)
