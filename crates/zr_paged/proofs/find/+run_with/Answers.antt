use Rattle.std.proofs.Common.{◌≡◌, ◌<◌, ◌≤◌, ◌∷◌, ◌++◌, arith, sym, ◌∙◌}
use Rattle.zr_ranges.specs.Words.{run_of}
use Rattle.zr_paged.specs.Runs.{start_of, stop_of}
use Rattle.zr_paged.specs.Pages.{all_of, pages_in, ArePages}
use Rattle.zr_paged.proofs.Around.{run_low, run_page, run_high}
use Rattle.zr_paged.proofs.Sides.{low_pages, high_pages}
use Rattle.zr_paged.proofs.Trees.{low_fewer, high_fewer}
use Rattle.zr_paged.proofs.find.+run_with.Goals as goal

pub run_with-requires : goal.run_with-requires
run_with-requires t c =
    let lows = pages_in c.in-Fork.node.value.low in
    let page = c.in-Fork.node.value.page in
    let highs = pages_in c.in-Fork.node.value.high in
    let pages : ArePages (lows ++ page ∷ highs) = rw c.in-Fork.is at c.requires in
    let fewer = low_fewer c.args.tree.now c.in-Fork.node c.in-Fork.is in
    rw c.deref-then-u-start.ensures (omega (arith, fewer, c.decreases), low_pages lows page highs pages)

pub run_with-requires-in-Fork : goal.run_with-requires-in-Fork
run_with-requires-in-Fork t c =
    let lows = pages_in c.in-Fork.node.value.low in
    let page = c.in-Fork.node.value.page in
    let highs = pages_in c.in-Fork.node.value.high in
    let pages : ArePages (lows ++ page ∷ highs) = rw c.in-Fork.is at c.requires in
    let fewer = high_fewer c.args.tree.now c.in-Fork.node c.in-Fork.is in
    rw c.deref-in-Fork-2.ensures (omega (arith, fewer, c.decreases), high_pages lows page highs pages)

pub returns-then-u-start : goal.returns-then-u-start
returns-then-u-start t c =
    let lows = pages_in c.in-Fork.node.value.low in
    let page = c.in-Fork.node.value.page in
    let highs = pages_in c.in-Fork.node.value.high in
    let pages : ArePages (lows ++ page ∷ highs) = rw c.in-Fork.is at c.requires in
    let start : c.start.result ≡ start_of page = rw c.deref.ensures at c.start.ensures in
    let lt : c.args.u < start_of page = omega (arith, start, c.if-u-start.true) in
    let found : c.run_with.result ≡ run_of c.args.u (all_of lows) = rw c.deref-then-u-start.ensures at c.run_with.ensures in
    rw c.in-Fork.is (found ∙ sym (run_low lows page highs c.args.u pages lt))

pub returns-then-u-stop : goal.returns-then-u-stop
returns-then-u-stop t c =
    let lows = pages_in c.in-Fork.node.value.low in
    let page = c.in-Fork.node.value.page in
    let highs = pages_in c.in-Fork.node.value.high in
    let pages : ArePages (lows ++ page ∷ highs) = rw c.in-Fork.is at c.requires in
    let start : c.start.result ≡ start_of page = rw c.deref.ensures at c.start.ensures in
    let stop : c.stop.result ≡ stop_of page = rw c.deref-in-Fork.ensures at c.stop.ensures in
    let from : start_of page ≤ c.args.u = omega (arith, start, c.if-u-start.false) in
    let to : c.args.u < stop_of page = omega (arith, stop, c.if-u-stop.true) in
    let found : c.run_with-then-u-stop.result ≡ run_of c.args.u page = rw c.deref-then-u-stop.ensures at c.run_with-then-u-stop.ensures in
    rw c.in-Fork.is (found ∙ sym (run_page lows page highs c.args.u pages from to))

pub returns-else-u-stop : goal.returns-else-u-stop
returns-else-u-stop t c =
    let lows = pages_in c.in-Fork.node.value.low in
    let page = c.in-Fork.node.value.page in
    let highs = pages_in c.in-Fork.node.value.high in
    let pages : ArePages (lows ++ page ∷ highs) = rw c.in-Fork.is at c.requires in
    let start : c.start.result ≡ start_of page = rw c.deref.ensures at c.start.ensures in
    let stop : c.stop.result ≡ stop_of page = rw c.deref-in-Fork.ensures at c.stop.ensures in
    let from : start_of page ≤ c.args.u = omega (arith, start, c.if-u-start.false) in
    let to : stop_of page ≤ c.args.u = omega (arith, stop, c.if-u-stop.false) in
    let found : c.run_with-in-Fork.result ≡ run_of c.args.u (all_of highs) = rw c.deref-in-Fork-2.ensures at c.run_with-in-Fork.ensures in
    rw c.in-Fork.is (found ∙ sym (run_high lows page highs c.args.u pages from to))
