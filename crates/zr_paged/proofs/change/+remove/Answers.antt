use Rattle.std.proofs.Common.{◌<◌, ◌≤◌, ◌∷◌, ◌++◌, length, arith, ap}
use Rattle.zr_base.specs.Extents.{HasAll, RemovesUnits}
use Rattle.zr_paged.specs.declared.tree.Node.{Node}
use Rattle.zr_paged.specs.Runs.{start_of, stop_of}
use Rattle.zr_paged.specs.Pages.{all_of, pages_in, ArePages}
use Rattle.zr_paged.proofs.Removing.{has_low, has_high, has_page, remove_low, remove_high, remove_page, none_in_nothing}
use Rattle.zr_paged.proofs.Sides.{low_pages, high_pages, fit_page, fit_high, fit_front, fit_join}
use Rattle.zr_paged.proofs.Trees.{low_fewer, high_fewer}
use Rattle.zr_paged.proofs.change.+remove.Goals as goal

pub unreachable-requires : goal.unreachable-requires
unreachable-requires t c = none_in_nothing c.args.e c.requires.not_empty (rw c.in-Empty.is at c.requires.covered)

pub remove-requires : goal.remove-requires
remove-requires t c =
    let lows = pages_in c.in-Fork.node.value.low in
    let page = c.in-Fork.node.value.page in
    let highs = pages_in c.in-Fork.node.value.high in
    let pages : ArePages (lows ++ page ∷ highs) = rw c.in-Fork.is at c.requires.pages in
    let all : HasAll (all_of (lows ++ page ∷ highs)) c.args.e = rw c.in-Fork.is at c.requires.covered in
    let lt : c.args.e.start < start_of page = omega (arith, c.if-e-start.true, c.start.ensures, ap (λ (n : Node). start_of n.page) c.deref.ensures) in
    let fewer = low_fewer c.args.tree.now c.in-Fork.node c.in-Fork.is in
    rw c.deref_mut.ensures.value
    (omega (arith, fewer, c.decreases), (c.requires.not_empty, (low_pages lows page highs pages, (has_low lows page highs c.args.e pages c.requires.not_empty all lt, c.requires.room))))

pub returns-then-e-start-clause-removed : goal.returns-then-e-start-clause-removed
returns-then-e-start-clause-removed t c =
    let lows = pages_in c.in-Fork.node.value.low in
    let page = c.in-Fork.node.value.page in
    let highs = pages_in c.in-Fork.node.value.high in
    let pages : ArePages (lows ++ page ∷ highs) = rw c.in-Fork.is at c.requires.pages in
    let all : HasAll (all_of (lows ++ page ∷ highs)) c.args.e = rw c.in-Fork.is at c.requires.covered in
    let lt : c.args.e.start < start_of page = omega (arith, c.if-e-start.true, c.start.ensures, ap (λ (n : Node). start_of n.page) c.deref.ensures) in
    let removed : RemovesUnits (all_of lows) (all_of (pages_in c.remove.new.tree)) c.args.e = rw c.deref_mut.ensures.value at c.remove.ensures.removed in
    rw (c.in-Fork.is, c.balance_low.ensures, c.deref_mut-then-e-start.ensures.value, c.deref_mut.ensures.value)
    (remove_low lows page highs (pages_in c.remove.new.tree) c.args.e pages.maximal (has_low lows page highs c.args.e pages c.requires.not_empty all lt) removed)

pub returns-then-e-start-clause-fit : goal.returns-then-e-start-clause-fit
returns-then-e-start-clause-fit t c =
    let lows = pages_in c.in-Fork.node.value.low in
    let page = c.in-Fork.node.value.page in
    let highs = pages_in c.in-Fork.node.value.high in
    let pages : ArePages (lows ++ page ∷ highs) = rw c.in-Fork.is at c.requires.pages in
    let here = fit_page lows page highs pages.fit in
    rw (c.balance_low.ensures, c.deref_mut-then-e-start.ensures.value, c.deref_mut.ensures.value)
    (fit_join (pages_in c.remove.new.tree) page highs c.remove.ensures.fit here.0 here.1 (fit_high lows page highs pages.fit))

pub remove-requires-then-stop-e : goal.remove-requires-then-stop-e
remove-requires-then-stop-e t c =
    let lows = pages_in c.in-Fork.node.value.low in
    let page = c.in-Fork.node.value.page in
    let highs = pages_in c.in-Fork.node.value.high in
    let pages : ArePages (lows ++ page ∷ highs) = rw c.in-Fork.is at c.requires.pages in
    let all : HasAll (all_of (lows ++ page ∷ highs)) c.args.e = rw c.in-Fork.is at c.requires.covered in
    let from : start_of page ≤ c.args.e.start = omega (arith, c.if-e-start.false, c.start.ensures, ap (λ (n : Node). start_of n.page) c.deref.ensures) in
    let le : stop_of page ≤ c.args.e.start = omega (arith, c.if-stop-e.true, c.stop.ensures, ap (λ (n : Node). stop_of n.page) c.deref-in-Fork.ensures) in
    let fewer = high_fewer c.args.tree.now c.in-Fork.node c.in-Fork.is in
    rw c.deref_mut-then-stop-e.ensures.value
    (omega (arith, fewer, c.decreases), (c.requires.not_empty, (high_pages lows page highs pages, (has_high lows page highs c.args.e pages all from le, c.requires.room))))

pub returns-then-stop-e-clause-removed : goal.returns-then-stop-e-clause-removed
returns-then-stop-e-clause-removed t c =
    let lows = pages_in c.in-Fork.node.value.low in
    let page = c.in-Fork.node.value.page in
    let highs = pages_in c.in-Fork.node.value.high in
    let pages : ArePages (lows ++ page ∷ highs) = rw c.in-Fork.is at c.requires.pages in
    let all : HasAll (all_of (lows ++ page ∷ highs)) c.args.e = rw c.in-Fork.is at c.requires.covered in
    let from : start_of page ≤ c.args.e.start = omega (arith, c.if-e-start.false, c.start.ensures, ap (λ (n : Node). start_of n.page) c.deref.ensures) in
    let le : stop_of page ≤ c.args.e.start = omega (arith, c.if-stop-e.true, c.stop.ensures, ap (λ (n : Node). stop_of n.page) c.deref-in-Fork.ensures) in
    let removed : RemovesUnits (all_of highs) (all_of (pages_in c.remove-then-stop-e.new.tree)) c.args.e = rw c.deref_mut-then-stop-e.ensures.value at c.remove-then-stop-e.ensures.removed in
    rw (c.in-Fork.is, c.balance_high.ensures, c.deref_mut-then-stop-e-2.ensures.value, c.deref_mut-then-stop-e.ensures.value)
    (remove_high lows page highs (pages_in c.remove-then-stop-e.new.tree) c.args.e pages.maximal (has_high lows page highs c.args.e pages all from le) removed)

pub returns-then-stop-e-clause-fit : goal.returns-then-stop-e-clause-fit
returns-then-stop-e-clause-fit t c =
    let lows = pages_in c.in-Fork.node.value.low in
    let page = c.in-Fork.node.value.page in
    let highs = pages_in c.in-Fork.node.value.high in
    let pages : ArePages (lows ++ page ∷ highs) = rw c.in-Fork.is at c.requires.pages in
    let here = fit_page lows page highs pages.fit in
    rw (c.balance_high.ensures, c.deref_mut-then-stop-e-2.ensures.value, c.deref_mut-then-stop-e.ensures.value)
    (fit_join lows page (pages_in c.remove-then-stop-e.new.tree) (fit_front lows (page ∷ highs) pages.fit) here.0 here.1 c.remove-then-stop-e.ensures.fit)

pub remove-requires-in-Fork-clause-covered : goal.remove-requires-in-Fork-clause-covered
remove-requires-in-Fork-clause-covered t c =
    let lows = pages_in c.in-Fork.node.value.low in
    let page = c.in-Fork.node.value.page in
    let highs = pages_in c.in-Fork.node.value.high in
    let pages : ArePages (lows ++ page ∷ highs) = rw c.in-Fork.is at c.requires.pages in
    let all : HasAll (all_of (lows ++ page ∷ highs)) c.args.e = rw c.in-Fork.is at c.requires.covered in
    let from : start_of page ≤ c.args.e.start = omega (arith, c.if-e-start.false, c.start.ensures, ap (λ (n : Node). start_of n.page) c.deref.ensures) in
    let lt : c.args.e.start < stop_of page = omega (arith, c.if-stop-e.false, c.stop.ensures, ap (λ (n : Node). stop_of n.page) c.deref-in-Fork.ensures) in
    rw c.deref_mut-in-Fork.ensures.value
    (has_page lows page highs c.args.e pages c.requires.not_empty all from lt)

pub remove-requires-in-Fork-clause-short : goal.remove-requires-in-Fork-clause-short
remove-requires-in-Fork-clause-short t c =
    let lows = pages_in c.in-Fork.node.value.low in
    let page = c.in-Fork.node.value.page in
    let highs = pages_in c.in-Fork.node.value.high in
    let pages : ArePages (lows ++ page ∷ highs) = rw c.in-Fork.is at c.requires.pages in
    rw c.deref_mut-in-Fork.ensures.value (fit_page lows page highs pages.fit).1

pub settle-requires-clause-open : goal.settle-requires-clause-open
settle-requires-clause-open t c =
    let lows = pages_in c.in-Fork.node.value.low in
    let page = c.in-Fork.node.value.page in
    let highs = pages_in c.in-Fork.node.value.high in
    let pages : ArePages (lows ++ page ∷ highs) = rw c.in-Fork.is at c.requires.pages in
    let few : length page ≤ 64 = (fit_page lows page highs pages.fit).1 in
    let len : length c.remove-in-Fork.new.self ≤ 65 = omega (arith, few, c.remove-in-Fork.ensures.growth, ap (λ (n : Node). length n.page) c.deref_mut-in-Fork.ensures.value) in
    rw c.deref_mut-in-Fork.ensures.value
    (fit_front lows (page ∷ highs) pages.fit, c.remove-in-Fork.ensures.removed.maximal, len, fit_high lows page highs pages.fit)

pub returns-clause-removed : goal.returns-clause-removed
returns-clause-removed t c =
    let lows = pages_in c.in-Fork.node.value.low in
    let page = c.in-Fork.node.value.page in
    let highs = pages_in c.in-Fork.node.value.high in
    let pages : ArePages (lows ++ page ∷ highs) = rw c.in-Fork.is at c.requires.pages in
    let all : HasAll (all_of (lows ++ page ∷ highs)) c.args.e = rw c.in-Fork.is at c.requires.covered in
    let from : start_of page ≤ c.args.e.start = omega (arith, c.if-e-start.false, c.start.ensures, ap (λ (n : Node). start_of n.page) c.deref.ensures) in
    let lt : c.args.e.start < stop_of page = omega (arith, c.if-stop-e.false, c.stop.ensures, ap (λ (n : Node). stop_of n.page) c.deref-in-Fork.ensures) in
    let removed : RemovesUnits page c.remove-in-Fork.new.self c.args.e = rw c.deref_mut-in-Fork.ensures.value at c.remove-in-Fork.ensures.removed in
    rw (c.settle.ensures.all, c.in-Fork.is, c.deref_mut-in-Fork.ensures.value)
    (remove_page lows page highs c.remove-in-Fork.new.self c.args.e pages.maximal (has_page lows page highs c.args.e pages c.requires.not_empty all from lt) removed)
