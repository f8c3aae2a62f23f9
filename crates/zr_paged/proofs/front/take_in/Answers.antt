use Rattle.std.proofs.Common.{◌∷◌, ◌++◌}
use Rattle.zr_base.specs.Extents.{HasAll, RemovesUnits}
use Rattle.zr_paged.specs.Pages.{pages_in, ArePages}
use Rattle.zr_paged.proofs.Removing.{remove_page}
use Rattle.zr_paged.proofs.front.take_in.Goals as goal

pub returns-then-len-gt0-clause-removed : goal.returns-then-len-gt0-clause-removed
returns-then-len-gt0-clause-removed c =
    let lows = pages_in c.in-Fork.node.value.low in
    let page = c.in-Fork.node.value.page in
    let highs = pages_in c.in-Fork.node.value.high in
    let pages : ArePages (lows ++ page ∷ highs) = rw c.in-Fork.is at c.requires.pages in
    let all : HasAll page c.take_front-taken.result = rw c.deref_mut.ensures.value at c.take_front-taken.ensures.covered in
    let removed : RemovesUnits page c.take_front-taken.new.self c.take_front-taken.result = rw c.deref_mut.ensures.value at c.take_front-taken.ensures.removed in
    rw (c.in-Fork.is, c.deref_mut.ensures.value)
    (remove_page lows page highs c.take_front-taken.new.self c.take_front-taken.result pages.maximal all removed)

pub returns-clause-removed : goal.returns-clause-removed
returns-clause-removed c =
    let lows = pages_in c.in-Fork.node.value.low in
    let page = c.in-Fork.node.value.page in
    let highs = pages_in c.in-Fork.node.value.high in
    let pages : ArePages (lows ++ page ∷ highs) = rw c.in-Fork.is at c.requires.pages in
    let all : HasAll page c.take_front-taken.result = rw c.deref_mut.ensures.value at c.take_front-taken.ensures.covered in
    let removed : RemovesUnits page c.take_front-taken.new.self c.take_front-taken.result = rw c.deref_mut.ensures.value at c.take_front-taken.ensures.removed in
    rw (c.refill.ensures.all, c.in-Fork.is, c.deref_mut.ensures.value)
    (remove_page lows page highs c.take_front-taken.new.self c.take_front-taken.result pages.maximal all removed)
