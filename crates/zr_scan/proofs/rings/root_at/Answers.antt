use Rattle.std.proofs.Common.{ℕ, List, ◌∙◌, subst}
use Rattle.zr_label.specs.Blocks.{SpellsUber}
use Rattle.zr_scan.proofs.Blocks.{unmarked_root, other_place, other_root}
use Rattle.zr_scan.proofs.rings.root_at.Goals as goal

pub returns-then-not-is_marked : goal.returns-then-not-is_marked
returns-then-not-is_marked c = unmarked_root c.args.block.now c.args.k c.args.l.now c.is_marked.result c.is_marked.ensures c.if-not-is_marked.true

pub returns-then-slot_of-k : goal.returns-then-slot_of-k
returns-then-slot_of-k c =
    other_place c.args.block.now c.args.k c.args.l.now c.in-Some.u (subst (λ (b : List ℕ). SpellsUber b c.in-Some.u) c.copy_of.ensures c.in-Some.ensures)
    (λ e. c.if-slot_of-k.true (c.slot_of.ensures ∙ e))

pub returns-then-not-is_root_for : goal.returns-then-not-is_root_for
returns-then-not-is_root_for c =
    other_root c.args.block.now c.args.k c.args.l.now c.in-Some.u c.is_root_for.result (subst (λ (b : List ℕ). SpellsUber b c.in-Some.u) c.copy_of.ensures c.in-Some.ensures)
    c.is_root_for.ensures c.if-not-is_root_for.true
