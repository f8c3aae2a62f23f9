use Rattle.std.proofs.Common.{◌≡◌, ap, ◌∙◌, sym}
use Rattle.zr_paged.specs.declared.tree.Tree.TheVariants.{Fork}
use Rattle.zr_paged.specs.declared.tree.Node.{Node}
use Rattle.zr_paged.specs.Pages.{pages_in}
use Rattle.zr_paged.proofs.Sides.{fit_append, all_without}
use Rattle.zr_paged.proofs.change.drop_top.Goals as goal

pub returns-clause-all : goal.returns-clause-all
returns-clause-all c =
    let is : c.args.tree.now ≡ Fork c.in-Fork.node = sym c.replace.ensures.value ∙ c.in-Fork.is in
    let hollow = rw is at c.requires in
    let low : c.replace-low.result ≡ c.in-Fork.node.value.low = c.replace-low.ensures.value ∙ ap (λ (n : Node). n.low) c.deref_mut.ensures.value in
    let high : c.replace-high.result ≡ c.in-Fork.node.value.high = c.replace-high.ensures.value ∙ ap (λ (n : Node). n.high) c.deref_mut-2.ensures.value ∙ ap (λ (n : Node). n.high) c.deref_mut.ensures.value in
    rw (c.join.ensures, low, high, is)
    (all_without (pages_in c.in-Fork.node.value.low) c.in-Fork.node.value.page (pages_in c.in-Fork.node.value.high) hollow.1)

pub returns-clause-fit : goal.returns-clause-fit
returns-clause-fit c =
    let is : c.args.tree.now ≡ Fork c.in-Fork.node = sym c.replace.ensures.value ∙ c.in-Fork.is in
    let hollow = rw is at c.requires in
    let low : c.replace-low.result ≡ c.in-Fork.node.value.low = c.replace-low.ensures.value ∙ ap (λ (n : Node). n.low) c.deref_mut.ensures.value in
    let high : c.replace-high.result ≡ c.in-Fork.node.value.high = c.replace-high.ensures.value ∙ ap (λ (n : Node). n.high) c.deref_mut-2.ensures.value ∙ ap (λ (n : Node). n.high) c.deref_mut.ensures.value in
    rw (c.join.ensures, low, high)
    (fit_append (pages_in c.in-Fork.node.value.low) (pages_in c.in-Fork.node.value.high) hollow.0 hollow.2)
