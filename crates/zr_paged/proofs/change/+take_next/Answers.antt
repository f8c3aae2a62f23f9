use Rattle.std.proofs.Common.{◌≡◌, ◌<◌, ◌≤◌, ◌∷◌, ◌++◌, [], List, length, arith, ap}
use Rattle.std.proofs.lemmas.Option.{IfSome_then}
use Rattle.zr_base.specs.declared.space.Extent.{Extent}
use Rattle.zr_base.specs.Extents.{HasAll, RemovesUnits}
use Rattle.zr_paged.specs.declared.tree.Node.{Node}
use Rattle.zr_paged.specs.Runs.{start_of}
use Rattle.zr_paged.specs.Pages.{pages_in, ArePages}
use Rattle.zr_paged.proofs.Nexts.{next_low, next_high, next_page, clear_under, clear_over, none_then}
use Rattle.zr_paged.proofs.Sides.{low_pages, high_pages, fit_page, fit_high, fit_front, fit_join, nil_is}
use Rattle.zr_paged.proofs.Trees.{low_fewer, high_fewer}
use Rattle.zr_paged.proofs.change.+take_next.Goals as goal

pub take_next-taken-requires : goal.take_next-taken-requires
take_next-taken-requires t c =
    let lows = pages_in c.in-Fork.node.value.low in
    let page = c.in-Fork.node.value.page in
    let highs = pages_in c.in-Fork.node.value.high in
    let pages : ArePages (lows ++ page ∷ highs) = rw c.in-Fork.is at c.requires in
    let fewer = low_fewer c.args.tree.now c.in-Fork.node c.in-Fork.is in
    rw c.deref_mut.ensures.value (omega (arith, fewer, c.decreases), low_pages lows page highs pages)

pub returns-then-u-start-clause-some : goal.returns-then-u-start-clause-some
returns-then-u-start-clause-some t c =
    let lows = pages_in c.in-Fork.node.value.low in
    let page = c.in-Fork.node.value.page in
    let highs = pages_in c.in-Fork.node.value.high in
    let pages : ArePages (lows ++ page ∷ highs) = rw c.in-Fork.is at c.requires in
    rw (c.in-Fork.is, c.balance_low.ensures, c.deref_mut-then-u-start.ensures.value, c.deref_mut.ensures.value)
    (IfSome_then c.take_next-taken.result c.take_next-taken.ensures.some (λ n f. next_low lows page highs (pages_in c.take_next-taken.new.tree) c.args.u n pages (rw c.deref_mut.ensures.value at f)))

pub returns-then-u-start-clause-none : goal.returns-then-u-start-clause-none
returns-then-u-start-clause-none t c =
    let lows = pages_in c.in-Fork.node.value.low in
    let page = c.in-Fork.node.value.page in
    let highs = pages_in c.in-Fork.node.value.high in
    let pages : ArePages (lows ++ page ∷ highs) = rw c.in-Fork.is at c.requires in
    let lt : c.args.u < start_of page = omega (arith, c.if-u-start.true, c.start.ensures, ap (λ (n : Node). start_of n.page) c.deref.ensures) in
    rw (c.balance_low.ensures, c.deref_mut-then-u-start.ensures.value, c.deref_mut.ensures.value)
    (none_then c.take_next-taken.result c.take_next-taken.ensures.none (λ clear. clear_under lows page highs (pages_in c.take_next-taken.new.tree) c.args.u pages lt clear))

pub returns-then-u-start-clause-fit : goal.returns-then-u-start-clause-fit
returns-then-u-start-clause-fit t c =
    let lows = pages_in c.in-Fork.node.value.low in
    let page = c.in-Fork.node.value.page in
    let highs = pages_in c.in-Fork.node.value.high in
    let pages : ArePages (lows ++ page ∷ highs) = rw c.in-Fork.is at c.requires in
    let here = fit_page lows page highs pages.fit in
    rw (c.balance_low.ensures, c.deref_mut-then-u-start.ensures.value, c.deref_mut.ensures.value)
    (fit_join (pages_in c.take_next-taken.new.tree) page highs c.take_next-taken.ensures.fit here.0 here.1 (fit_high lows page highs pages.fit))

pub take_next-taken-requires-then-start-u : goal.take_next-taken-requires-then-start-u
take_next-taken-requires-then-start-u t c =
    let lows = pages_in c.in-Fork.node.value.low in
    let page = c.in-Fork.node.value.page in
    let highs = pages_in c.in-Fork.node.value.high in
    let pages : ArePages (lows ++ page ∷ highs) = rw c.in-Fork.is at c.requires in
    let fewer = high_fewer c.args.tree.now c.in-Fork.node c.in-Fork.is in
    rw c.deref_mut-then-start-u.ensures.value (omega (arith, fewer, c.decreases), high_pages lows page highs pages)

pub returns-then-start-u-clause-some : goal.returns-then-start-u-clause-some
returns-then-start-u-clause-some t c =
    let lows = pages_in c.in-Fork.node.value.low in
    let page = c.in-Fork.node.value.page in
    let highs = pages_in c.in-Fork.node.value.high in
    let pages : ArePages (lows ++ page ∷ highs) = rw c.in-Fork.is at c.requires in
    let lt : start_of page < c.args.u = omega (arith, c.if-start-u.true, c.start-in-Fork.ensures, ap (λ (n : Node). start_of n.page) c.deref-in-Fork.ensures) in
    rw (c.in-Fork.is, c.balance_high.ensures, c.deref_mut-then-start-u-2.ensures.value, c.deref_mut-then-start-u.ensures.value)
    (IfSome_then c.take_next-taken-then-start-u.result c.take_next-taken-then-start-u.ensures.some (λ n f. next_high lows page highs (pages_in c.take_next-taken-then-start-u.new.tree) c.args.u n pages lt (rw c.deref_mut-then-start-u.ensures.value at f)))

pub returns-then-start-u-clause-none : goal.returns-then-start-u-clause-none
returns-then-start-u-clause-none t c =
    let lows = pages_in c.in-Fork.node.value.low in
    let page = c.in-Fork.node.value.page in
    let highs = pages_in c.in-Fork.node.value.high in
    let pages : ArePages (lows ++ page ∷ highs) = rw c.in-Fork.is at c.requires in
    let lt : start_of page < c.args.u = omega (arith, c.if-start-u.true, c.start-in-Fork.ensures, ap (λ (n : Node). start_of n.page) c.deref-in-Fork.ensures) in
    rw (c.balance_high.ensures, c.deref_mut-then-start-u-2.ensures.value, c.deref_mut-then-start-u.ensures.value)
    (none_then c.take_next-taken-then-start-u.result c.take_next-taken-then-start-u.ensures.none (λ clear. clear_over lows page highs (pages_in c.take_next-taken-then-start-u.new.tree) c.args.u pages lt clear))

pub returns-then-start-u-clause-fit : goal.returns-then-start-u-clause-fit
returns-then-start-u-clause-fit t c =
    let lows = pages_in c.in-Fork.node.value.low in
    let page = c.in-Fork.node.value.page in
    let highs = pages_in c.in-Fork.node.value.high in
    let pages : ArePages (lows ++ page ∷ highs) = rw c.in-Fork.is at c.requires in
    let here = fit_page lows page highs pages.fit in
    rw (c.balance_high.ensures, c.deref_mut-then-start-u-2.ensures.value, c.deref_mut-then-start-u.ensures.value)
    (fit_join lows page (pages_in c.take_next-taken-then-start-u.new.tree) (fit_front lows (page ∷ highs) pages.fit) here.0 here.1 c.take_next-taken-then-start-u.ensures.fit)

pub take_first-taken-requires : goal.take_first-taken-requires
take_first-taken-requires t c =
    let lows = pages_in c.in-Fork.node.value.low in
    let page = c.in-Fork.node.value.page in
    let highs = pages_in c.in-Fork.node.value.high in
    let pages : ArePages (lows ++ page ∷ highs) = rw c.in-Fork.is at c.requires in
    rw c.deref_mut-in-Fork.ensures.value (fit_page lows page highs pages.fit).0

pub returns-then-len-gt0-clause-some : goal.returns-then-len-gt0-clause-some
returns-then-len-gt0-clause-some t c =
    let lows = pages_in c.in-Fork.node.value.low in
    let page = c.in-Fork.node.value.page in
    let highs = pages_in c.in-Fork.node.value.high in
    let pages : ArePages (lows ++ page ∷ highs) = rw c.in-Fork.is at c.requires in
    let at : start_of page ≡ c.args.u = omega (arith, c.if-u-start.false, c.start.ensures, ap (λ (n : Node). start_of n.page) c.deref.ensures, c.if-start-u.false, c.start-in-Fork.ensures, ap (λ (n : Node). start_of n.page) c.deref-in-Fork.ensures) in
    let first : page ≡ c.take_first-taken.result ∷ c.take_first-taken.new.self = rw c.deref_mut-in-Fork.ensures.value at c.take_first-taken.ensures.first in
    let all : HasAll page c.take_first-taken.result = rw c.deref_mut-in-Fork.ensures.value at c.take_first-taken.ensures.covered in
    let removed : RemovesUnits page c.take_first-taken.new.self c.take_first-taken.result = rw c.deref_mut-in-Fork.ensures.value at c.take_first-taken.ensures.removed in
    rw (c.in-Fork.is, c.deref_mut-in-Fork.ensures.value)
    (next_page lows page highs c.take_first-taken.new.self c.args.u c.take_first-taken.result pages first at c.take_first-taken.ensures.not_empty c.take_first-taken.ensures.in_range all removed)

pub returns-then-len-gt0-clause-fit : goal.returns-then-len-gt0-clause-fit
returns-then-len-gt0-clause-fit t c =
    let lows = pages_in c.in-Fork.node.value.low in
    let page = c.in-Fork.node.value.page in
    let highs = pages_in c.in-Fork.node.value.high in
    let pages : ArePages (lows ++ page ∷ highs) = rw c.in-Fork.is at c.requires in
    let here = fit_page lows page highs pages.fit in
    let first : page ≡ c.take_first-taken.result ∷ c.take_first-taken.new.self = rw c.deref_mut-in-Fork.ensures.value at c.take_first-taken.ensures.first in
    let few : length c.take_first-taken.new.self ≤ 64 = omega (arith, here.1, ap (λ (l : List Extent). length l) first) in
    rw c.deref_mut-in-Fork.ensures.value
    (fit_join lows c.take_first-taken.new.self highs (fit_front lows (page ∷ highs) pages.fit) (omega (arith, c.if-len-gt0.true, c.len.ensures, ap (λ (n : Node). length n.page) c.deref-in-Fork-2.ensures)) few (fit_high lows page highs pages.fit))

pub drop_top-requires : goal.drop_top-requires
drop_top-requires t c =
    let lows = pages_in c.in-Fork.node.value.low in
    let page = c.in-Fork.node.value.page in
    let highs = pages_in c.in-Fork.node.value.high in
    let pages : ArePages (lows ++ page ∷ highs) = rw c.in-Fork.is at c.requires in
    let none : c.take_first-taken.new.self ≡ [] = nil_is c.take_first-taken.new.self (omega (arith, c.if-len-gt0.false, c.len.ensures, ap (λ (n : Node). length n.page) c.deref-in-Fork-2.ensures)) in
    rw c.deref_mut-in-Fork.ensures.value
    (fit_front lows (page ∷ highs) pages.fit, none, fit_high lows page highs pages.fit)

pub returns-clause-some : goal.returns-clause-some
returns-clause-some t c =
    let lows = pages_in c.in-Fork.node.value.low in
    let page = c.in-Fork.node.value.page in
    let highs = pages_in c.in-Fork.node.value.high in
    let pages : ArePages (lows ++ page ∷ highs) = rw c.in-Fork.is at c.requires in
    let at : start_of page ≡ c.args.u = omega (arith, c.if-u-start.false, c.start.ensures, ap (λ (n : Node). start_of n.page) c.deref.ensures, c.if-start-u.false, c.start-in-Fork.ensures, ap (λ (n : Node). start_of n.page) c.deref-in-Fork.ensures) in
    let first : page ≡ c.take_first-taken.result ∷ c.take_first-taken.new.self = rw c.deref_mut-in-Fork.ensures.value at c.take_first-taken.ensures.first in
    let all : HasAll page c.take_first-taken.result = rw c.deref_mut-in-Fork.ensures.value at c.take_first-taken.ensures.covered in
    let removed : RemovesUnits page c.take_first-taken.new.self c.take_first-taken.result = rw c.deref_mut-in-Fork.ensures.value at c.take_first-taken.ensures.removed in
    rw (c.drop_top.ensures.all, c.in-Fork.is, c.deref_mut-in-Fork.ensures.value)
    (next_page lows page highs c.take_first-taken.new.self c.args.u c.take_first-taken.result pages first at c.take_first-taken.ensures.not_empty c.take_first-taken.ensures.in_range all removed)
