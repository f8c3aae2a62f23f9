use Rattle.std.proofs.Common.{◌≡◌, ◌<◌, ◌≤◌, ◌∷◌, ◌++◌, [], arith, ap, ◌∙◌}
use Rattle.zr_base.specs.Extents.{HasAll, RemovesUnits}
use Rattle.zr_paged.specs.declared.tree.Node.{Node}
use Rattle.zr_paged.specs.Runs.{start_of, stop_of}
use Rattle.zr_paged.specs.Pages.{all_of, pages_in, ArePages}
use Rattle.zr_paged.proofs.Removing.{has_high, has_page, remove_high, remove_page, none_in_nothing}
use Rattle.zr_paged.proofs.Nexts.{front_from, start_below}
use Rattle.zr_paged.proofs.Sides.{high_pages, all_cut}
use Rattle.zr_paged.proofs.front.remove_in.Goals as goal

pub unreachable-requires : goal.unreachable-requires
unreachable-requires c = none_in_nothing c.args.e c.requires.not_empty (rw c.in-Empty.is at c.requires.covered)

pub remove-requires-clause-pages : goal.remove-requires-clause-pages
remove-requires-clause-pages c =
    let lows = pages_in c.in-Fork.node.value.low in
    let page = c.in-Fork.node.value.page in
    let highs = pages_in c.in-Fork.node.value.high in
    let pages : ArePages (lows ++ page ∷ highs) = rw c.in-Fork.is at c.requires.pages in
    rw c.deref_mut.ensures.value (high_pages lows page highs pages)

pub remove-requires-clause-covered : goal.remove-requires-clause-covered
remove-requires-clause-covered c =
    let lows = pages_in c.in-Fork.node.value.low in
    let page = c.in-Fork.node.value.page in
    let highs = pages_in c.in-Fork.node.value.high in
    let pages : ArePages (lows ++ page ∷ highs) = rw c.in-Fork.is at c.requires.pages in
    let all : HasAll (all_of (lows ++ page ∷ highs)) c.args.e = rw c.in-Fork.is at c.requires.covered in
    let le : stop_of page ≤ c.args.e.start = omega (arith, c.if-stop-e.true, c.stop.ensures, ap (λ (n : Node). stop_of n.page) c.deref.ensures) in
    let from : start_of page ≤ c.args.e.start = omega (arith, le, start_below lows page highs pages) in
    rw c.deref_mut.ensures.value (has_high lows page highs c.args.e pages all from le)

pub returns-then-stop-e-clause-removed : goal.returns-then-stop-e-clause-removed
returns-then-stop-e-clause-removed c =
    let lows = pages_in c.in-Fork.node.value.low in
    let page = c.in-Fork.node.value.page in
    let highs = pages_in c.in-Fork.node.value.high in
    let pages : ArePages (lows ++ page ∷ highs) = rw c.in-Fork.is at c.requires.pages in
    let all : HasAll (all_of (lows ++ page ∷ highs)) c.args.e = rw c.in-Fork.is at c.requires.covered in
    let le : stop_of page ≤ c.args.e.start = omega (arith, c.if-stop-e.true, c.stop.ensures, ap (λ (n : Node). stop_of n.page) c.deref.ensures) in
    let from : start_of page ≤ c.args.e.start = omega (arith, le, start_below lows page highs pages) in
    let removed : RemovesUnits (all_of highs) (all_of (pages_in c.remove.new.tree)) c.args.e = rw c.deref_mut.ensures.value at c.remove.ensures.removed in
    rw (c.in-Fork.is, c.deref_mut.ensures.value)
    (remove_high lows page highs (pages_in c.remove.new.tree) c.args.e pages.maximal (has_high lows page highs c.args.e pages all from le) removed)

pub remove-requires-in-Fork-clause-covered : goal.remove-requires-in-Fork-clause-covered
remove-requires-in-Fork-clause-covered c =
    let lows = pages_in c.in-Fork.node.value.low in
    let page = c.in-Fork.node.value.page in
    let highs = pages_in c.in-Fork.node.value.high in
    let pages : ArePages (lows ++ page ∷ highs) = rw c.in-Fork.is at c.requires.pages in
    let all : HasAll (all_of (lows ++ page ∷ highs)) c.args.e = rw c.in-Fork.is at c.requires.covered in
    let front : pages_in c.in-Fork.node.value.low ≡ [] = ap pages_in (rw c.in-Fork.is at c.requires.front) in
    let from : start_of page ≤ c.args.e.start = front_from lows page highs c.args.e front pages c.requires.not_empty all in
    let lt : c.args.e.start < stop_of page = omega (arith, c.if-stop-e.false, c.stop.ensures, ap (λ (n : Node). stop_of n.page) c.deref.ensures) in
    rw c.deref_mut-in-Fork.ensures.value (has_page lows page highs c.args.e pages c.requires.not_empty all from lt)

pub returns-then-len-gt0-clause-removed : goal.returns-then-len-gt0-clause-removed
returns-then-len-gt0-clause-removed c =
    let lows = pages_in c.in-Fork.node.value.low in
    let page = c.in-Fork.node.value.page in
    let highs = pages_in c.in-Fork.node.value.high in
    let pages : ArePages (lows ++ page ∷ highs) = rw c.in-Fork.is at c.requires.pages in
    let all : HasAll (all_of (lows ++ page ∷ highs)) c.args.e = rw c.in-Fork.is at c.requires.covered in
    let front : pages_in c.in-Fork.node.value.low ≡ [] = ap pages_in (rw c.in-Fork.is at c.requires.front) in
    let from : start_of page ≤ c.args.e.start = front_from lows page highs c.args.e front pages c.requires.not_empty all in
    let lt : c.args.e.start < stop_of page = omega (arith, c.if-stop-e.false, c.stop.ensures, ap (λ (n : Node). stop_of n.page) c.deref.ensures) in
    let removed : RemovesUnits page c.remove-in-Fork.new.self c.args.e = rw c.deref_mut-in-Fork.ensures.value at c.remove-in-Fork.ensures.removed in
    let low : pages_in c.cut.new.node.low ≡ lows = ap pages_in (c.cut.ensures.low ∙ ap (λ (n : Node). n.low) c.deref_mut-then-len-gt0.ensures.value ∙ ap (λ (n : Node). n.low) c.deref_mut-in-Fork.ensures.value) in
    let cut : c.cut.new.node.page ++ all_of (pages_in c.cut.new.node.high) ≡ c.remove-in-Fork.new.self ++ all_of highs = rw (c.deref_mut-then-len-gt0.ensures.value, c.deref_mut-in-Fork.ensures.value) at c.cut.ensures.all in
    let new : all_of (lows ++ c.remove-in-Fork.new.self ∷ highs) ≡ all_of (pages_in c.cut.new.node.low ++ c.cut.new.node.page ∷ pages_in c.cut.new.node.high) = all_cut lows c.remove-in-Fork.new.self highs (pages_in c.cut.new.node.low) c.cut.new.node.page (pages_in c.cut.new.node.high) low cut in
    rw (← new, c.in-Fork.is)
    (remove_page lows page highs c.remove-in-Fork.new.self c.args.e pages.maximal (has_page lows page highs c.args.e pages c.requires.not_empty all from lt) removed)

pub returns-clause-removed : goal.returns-clause-removed
returns-clause-removed c =
    let lows = pages_in c.in-Fork.node.value.low in
    let page = c.in-Fork.node.value.page in
    let highs = pages_in c.in-Fork.node.value.high in
    let pages : ArePages (lows ++ page ∷ highs) = rw c.in-Fork.is at c.requires.pages in
    let all : HasAll (all_of (lows ++ page ∷ highs)) c.args.e = rw c.in-Fork.is at c.requires.covered in
    let front : pages_in c.in-Fork.node.value.low ≡ [] = ap pages_in (rw c.in-Fork.is at c.requires.front) in
    let from : start_of page ≤ c.args.e.start = front_from lows page highs c.args.e front pages c.requires.not_empty all in
    let lt : c.args.e.start < stop_of page = omega (arith, c.if-stop-e.false, c.stop.ensures, ap (λ (n : Node). stop_of n.page) c.deref.ensures) in
    let removed : RemovesUnits page c.remove-in-Fork.new.self c.args.e = rw c.deref_mut-in-Fork.ensures.value at c.remove-in-Fork.ensures.removed in
    rw (c.refill.ensures.all, c.in-Fork.is, c.deref_mut-in-Fork.ensures.value)
    (remove_page lows page highs c.remove-in-Fork.new.self c.args.e pages.maximal (has_page lows page highs c.args.e pages c.requires.not_empty all from lt) removed)
