use Rattle.std.proofs.Common.{◌<◌, ◌∙◌, sym, length, arith}
use Rattle.zr_paged.specs.Pages.{pages_in}
use Rattle.zr_paged.proofs.Trees.{some_pages, low_fewer}
use Rattle.zr_paged.proofs.tree.+pop_lowest.Goals as goal

pub pop_lowest-least-requires : goal.pop_lowest-least-requires
pop_lowest-least-requires t c =
    let fewer : length (pages_in c.in-Fork.node.value.low) < length (pages_in c.args.tree.now) = low_fewer c.args.tree.now c.in-Fork.node (sym c.replace.ensures.value ∙ c.in-Fork.is) in
    (rw c.deref_mut-2.ensures.value (omega (arith, fewer, c.decreases)), rw c.deref_mut-2.ensures.value (some_pages c.in-Fork.node.value.low (λ e. absurd (cc (c.if-is_empty.ensures.1 (rw c.deref.ensures e))))))
