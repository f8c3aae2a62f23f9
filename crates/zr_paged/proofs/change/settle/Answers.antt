use Rattle.std.proofs.Common.{◌≡◌, ◌<◌, ◌++◌, length, arith, ap, ◌∙◌, sym}
use Rattle.zr_paged.specs.declared.tree.Node.{Node}
use Rattle.zr_paged.specs.Pages.{all_of, pages_in, AreFit}
use Rattle.zr_paged.proofs.Sides.{fit_join, all_cut}
use Rattle.zr_paged.proofs.change.settle.Goals as goal

pub returns-then-len-gt0-clause-all : goal.returns-then-len-gt0-clause-all
returns-then-len-gt0-clause-all c =
    let lows = pages_in c.in-Fork.node.value.low in
    let page = c.in-Fork.node.value.page in
    let highs = pages_in c.in-Fork.node.value.high in
    let low : pages_in c.cut.new.node.low ≡ lows = ap pages_in (c.cut.ensures.low ∙ ap (λ (n : Node). n.low) c.deref_mut.ensures.value) in
    let all : c.cut.new.node.page ++ all_of (pages_in c.cut.new.node.high) ≡ page ++ all_of highs = rw c.deref_mut.ensures.value at c.cut.ensures.all in
    rw (c.balance_high.ensures, c.deref_mut-then-len-gt0.ensures.value, c.in-Fork.is)
    (sym (all_cut lows page highs (pages_in c.cut.new.node.low) c.cut.new.node.page (pages_in c.cut.new.node.high) low all))

pub returns-then-len-gt0-clause-fit : goal.returns-then-len-gt0-clause-fit
returns-then-len-gt0-clause-fit c =
    let open_top = rw c.in-Fork.is at c.requires.open in
    let some : 0 < length c.in-Fork.node.value.page = omega (arith, c.if-len-gt0.true, c.len.ensures, ap (λ (n : Node). length n.page) c.deref.ensures) in
    let low : AreFit (pages_in c.cut.new.node.low) = rw (c.cut.ensures.low, c.deref_mut.ensures.value) open_top.0 in
    let page : 0 < length c.cut.new.node.page = c.cut.ensures.page (rw c.deref_mut.ensures.value some) in
    let high : AreFit (pages_in c.cut.new.node.high) = c.cut.ensures.fit (rw c.deref_mut.ensures.value open_top.3) in
    rw (c.balance_high.ensures, c.deref_mut-then-len-gt0.ensures.value)
    (fit_join (pages_in c.cut.new.node.low) c.cut.new.node.page (pages_in c.cut.new.node.high) low page c.cut.ensures.short high)
