use Rattle.std.proofs.Common.{◌≡◌, ◌<◌, ◌++◌, ◌∷◌, length, arith, ap}
use Rattle.zr_paged.specs.Pages.{all_of, pages_in, AreFit}
use Rattle.zr_paged.proofs.Adding.{none_page, add_page, added_some}
use Rattle.zr_paged.proofs.Sides.{fit_page, fit_high, fit_front, fit_join, all_cut}
use Rattle.zr_paged.proofs.change.add_here.Goals as goal

pub add-requires-clause-apart : goal.add-requires-clause-apart
add-requires-clause-apart c = none_page (pages_in c.args.node.now.low) c.args.node.now.page (pages_in c.args.node.now.high) c.args.e c.requires.apart

pub add-requires-clause-short : goal.add-requires-clause-short
add-requires-clause-short c = (fit_page (pages_in c.args.node.now.low) c.args.node.now.page (pages_in c.args.node.now.high) c.requires.pages.fit).1

pub cut-requires-clause-short : goal.cut-requires-clause-short
cut-requires-clause-short c =
    let few = (fit_page (pages_in c.args.node.now.low) c.args.node.now.page (pages_in c.args.node.now.high) c.requires.pages.fit).1 in
    omega (arith, few, c.add.ensures.growth)

pub returns-clause-added : goal.returns-clause-added
returns-clause-added c =
    let lows = pages_in c.args.node.now.low in
    let page = c.args.node.now.page in
    let highs = pages_in c.args.node.now.high in
    let new : all_of (lows ++ c.add.new.self ∷ highs) ≡ all_of (pages_in c.cut.new.node.low ++ c.cut.new.node.page ∷ pages_in c.cut.new.node.high) = all_cut lows c.add.new.self highs (pages_in c.cut.new.node.low) c.cut.new.node.page (pages_in c.cut.new.node.high) (ap pages_in c.cut.ensures.low) c.cut.ensures.all in
    rw (← new)
    (add_page lows page highs c.add.new.self c.args.e c.requires.pages c.requires.apart c.requires.clear c.requires.from c.requires.to c.add.ensures.added)

pub returns-clause-fit : goal.returns-clause-fit
returns-clause-fit c =
    let lows = pages_in c.args.node.now.low in
    let page = c.args.node.now.page in
    let highs = pages_in c.args.node.now.high in
    let some : 0 < length c.add.new.self = added_some page c.add.new.self c.args.e c.requires.not_empty c.add.ensures.added in
    let low : AreFit (pages_in c.cut.new.node.low) = rw c.cut.ensures.low (fit_front lows (page ∷ highs) c.requires.pages.fit) in
    (fit_join (pages_in c.cut.new.node.low) c.cut.new.node.page (pages_in c.cut.new.node.high) low (c.cut.ensures.page some) c.cut.ensures.short (c.cut.ensures.fit (fit_high lows page highs c.requires.pages.fit)))
