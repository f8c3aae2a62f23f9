use Rattle.std.proofs.Common.{◌≡◌, ◌<◌, ◌∷◌, ◌++◌, [], arith, ap}
use Rattle.std.proofs.lemmas.Option.{IfSome_then}
use Rattle.zr_base.specs.Extents.{HasAll, RemovesUnits}
use Rattle.zr_paged.specs.declared.tree.Node.{Node}
use Rattle.zr_paged.specs.Runs.{start_of}
use Rattle.zr_paged.specs.Pages.{pages_in, ArePages}
use Rattle.zr_paged.proofs.Nexts.{next_high, next_page, clear_under, clear_front}
use Rattle.zr_paged.proofs.Sides.{high_pages}
use Rattle.zr_paged.proofs.front.take_next_in.Goals as goal

pub returns-then-u-start-clause-none : goal.returns-then-u-start-clause-none
returns-then-u-start-clause-none c =
    let lows = pages_in c.in-Fork.node.value.low in
    let page = c.in-Fork.node.value.page in
    let highs = pages_in c.in-Fork.node.value.high in
    let pages : ArePages (lows ++ page ∷ highs) = rw c.in-Fork.is at c.requires.pages in
    let front : pages_in c.in-Fork.node.value.low ≡ [] = ap pages_in (rw c.in-Fork.is at c.requires.front) in
    let lt : c.args.u < start_of page = omega (arith, c.if-u-start.true, c.start.ensures, ap (λ (n : Node). start_of n.page) c.deref.ensures) in
    clear_under lows page highs lows c.args.u pages lt (clear_front lows c.args.u front)

pub take_next-requires : goal.take_next-requires
take_next-requires c =
    let lows = pages_in c.in-Fork.node.value.low in
    let page = c.in-Fork.node.value.page in
    let highs = pages_in c.in-Fork.node.value.high in
    let pages : ArePages (lows ++ page ∷ highs) = rw c.in-Fork.is at c.requires.pages in
    rw c.deref_mut.ensures.value (high_pages lows page highs pages)

pub returns-then-start-u-clause-some : goal.returns-then-start-u-clause-some
returns-then-start-u-clause-some c =
    let lows = pages_in c.in-Fork.node.value.low in
    let page = c.in-Fork.node.value.page in
    let highs = pages_in c.in-Fork.node.value.high in
    let pages : ArePages (lows ++ page ∷ highs) = rw c.in-Fork.is at c.requires.pages in
    let lt : start_of page < c.args.u = omega (arith, c.if-start-u.true, c.start-in-Fork.ensures, ap (λ (n : Node). start_of n.page) c.deref-in-Fork.ensures) in
    rw (c.in-Fork.is, c.deref_mut.ensures.value)
    (IfSome_then c.take_next.result c.take_next.ensures.some (λ n f. next_high lows page highs (pages_in c.take_next.new.tree) c.args.u n pages lt (rw c.deref_mut.ensures.value at f)))

pub returns-then-len-gt0-clause-some : goal.returns-then-len-gt0-clause-some
returns-then-len-gt0-clause-some c =
    let lows = pages_in c.in-Fork.node.value.low in
    let page = c.in-Fork.node.value.page in
    let highs = pages_in c.in-Fork.node.value.high in
    let pages : ArePages (lows ++ page ∷ highs) = rw c.in-Fork.is at c.requires.pages in
    let at : start_of page ≡ c.args.u = omega (arith, c.if-u-start.false, c.start.ensures, ap (λ (n : Node). start_of n.page) c.deref.ensures, c.if-start-u.false, c.start-in-Fork.ensures, ap (λ (n : Node). start_of n.page) c.deref-in-Fork.ensures) in
    let first : page ≡ c.take_first-taken.result ∷ c.take_first-taken.new.self = rw c.deref_mut-in-Fork.ensures.value at c.take_first-taken.ensures.first in
    let all : HasAll page c.take_first-taken.result = rw c.deref_mut-in-Fork.ensures.value at c.take_first-taken.ensures.covered in
    let removed : RemovesUnits page c.take_first-taken.new.self c.take_first-taken.result = rw c.deref_mut-in-Fork.ensures.value at c.take_first-taken.ensures.removed in
    rw (c.in-Fork.is, c.deref_mut-in-Fork.ensures.value)
    (next_page lows page highs c.take_first-taken.new.self c.args.u c.take_first-taken.result pages first at c.take_first-taken.ensures.not_empty c.take_first-taken.ensures.in_range all removed)

pub returns-clause-some : goal.returns-clause-some
returns-clause-some c =
    let lows = pages_in c.in-Fork.node.value.low in
    let page = c.in-Fork.node.value.page in
    let highs = pages_in c.in-Fork.node.value.high in
    let pages : ArePages (lows ++ page ∷ highs) = rw c.in-Fork.is at c.requires.pages in
    let at : start_of page ≡ c.args.u = omega (arith, c.if-u-start.false, c.start.ensures, ap (λ (n : Node). start_of n.page) c.deref.ensures, c.if-start-u.false, c.start-in-Fork.ensures, ap (λ (n : Node). start_of n.page) c.deref-in-Fork.ensures) in
    let first : page ≡ c.take_first-taken.result ∷ c.take_first-taken.new.self = rw c.deref_mut-in-Fork.ensures.value at c.take_first-taken.ensures.first in
    let all : HasAll page c.take_first-taken.result = rw c.deref_mut-in-Fork.ensures.value at c.take_first-taken.ensures.covered in
    let removed : RemovesUnits page c.take_first-taken.new.self c.take_first-taken.result = rw c.deref_mut-in-Fork.ensures.value at c.take_first-taken.ensures.removed in
    rw (c.refill.ensures.all, c.in-Fork.is, c.deref_mut-in-Fork.ensures.value)
    (next_page lows page highs c.take_first-taken.new.self c.args.u c.take_first-taken.result pages first at c.take_first-taken.ensures.not_empty c.take_first-taken.ensures.in_range all removed)
