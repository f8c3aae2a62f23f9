use Rattle.std.proofs.Common.{◌≡◌, ◌∷◌, ◌++◌, arith}
use Rattle.zr_base.specs.Extents.{IsMaximal}
use Rattle.zr_paged.specs.Pages.{all_of, pages_in}
use Rattle.zr_paged.proofs.Whole.{one_by_one, whole_rises, page_rises, low_rises}
use Rattle.zr_paged.proofs.Trees.{low_fewer, high_fewer}
use Rattle.zr_paged.proofs.find.+append_tree.Goals as goal

pub append_tree-requires : goal.append_tree-requires
append_tree-requires t c =
    let lows = pages_in c.in-Fork.node.value.low in
    let page = c.in-Fork.node.value.page in
    let highs = pages_in c.in-Fork.node.value.high in
    let m : IsMaximal (c.args.set.now.extents ++ all_of (lows ++ page ∷ highs)) = rw c.in-Fork.is at c.requires in
    let fewer = low_fewer c.args.tree.now c.in-Fork.node c.in-Fork.is in
    rw c.deref.ensures (omega (arith, fewer, c.decreases), low_rises c.args.set.now.extents lows page highs m)

pub append_page-requires : goal.append_page-requires
append_page-requires t c =
    let lows = pages_in c.in-Fork.node.value.low in
    let page = c.in-Fork.node.value.page in
    let highs = pages_in c.in-Fork.node.value.high in
    let m : IsMaximal (c.args.set.now.extents ++ all_of (lows ++ page ∷ highs)) = rw c.in-Fork.is at c.requires in
    let one : c.append_tree.new.set.extents ≡ c.args.set.now.extents ++ all_of lows = rw c.deref.ensures at c.in_ok-append_tree-in-Fork.ensures in
    rw (one, c.deref-in-Fork.ensures) (page_rises c.args.set.now.extents lows page highs m)

pub append_tree-requires-in-Fork : goal.append_tree-requires-in-Fork
append_tree-requires-in-Fork t c =
    let lows = pages_in c.in-Fork.node.value.low in
    let page = c.in-Fork.node.value.page in
    let highs = pages_in c.in-Fork.node.value.high in
    let m : IsMaximal (c.args.set.now.extents ++ all_of (lows ++ page ∷ highs)) = rw c.in-Fork.is at c.requires in
    let one : c.append_tree.new.set.extents ≡ c.args.set.now.extents ++ all_of lows = rw c.deref.ensures at c.in_ok-append_tree-in-Fork.ensures in
    let two : c.append_page.new.set.extents ≡ c.append_tree.new.set.extents ++ page = rw c.deref-in-Fork.ensures at c.in_ok-append_page-in-Fork.ensures in
    let fewer = high_fewer c.args.tree.now c.in-Fork.node c.in-Fork.is in
    rw (c.deref-in-Fork-2.ensures, two, one) (omega (arith, fewer, c.decreases), whole_rises c.args.set.now.extents lows page highs m)

pub returns-in_ok-append_page-in-Fork : goal.returns-in_ok-append_page-in-Fork
returns-in_ok-append_page-in-Fork t c =
    let lows = pages_in c.in-Fork.node.value.low in
    let page = c.in-Fork.node.value.page in
    let highs = pages_in c.in-Fork.node.value.high in
    let one : c.append_tree.new.set.extents ≡ c.args.set.now.extents ++ all_of lows = rw c.deref.ensures at c.in_ok-append_tree-in-Fork.ensures in
    let two : c.append_page.new.set.extents ≡ c.append_tree.new.set.extents ++ page = rw c.deref-in-Fork.ensures at c.in_ok-append_page-in-Fork.ensures in
    rw (c.in-Fork.is, one_by_one c.args.set.now.extents lows page highs, ← one, ← two)
    (rw c.deref-in-Fork-2.ensures at c.append_tree-in-Fork.ensures)
