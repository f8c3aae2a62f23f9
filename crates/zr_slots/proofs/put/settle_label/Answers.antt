use Rattle.std.proofs.Common.{ℕ, List, ◌∙◌, ap, subst, sym}
use Rattle.std.specs.Prelude.{slice_index}
use Rattle.zr_shelf.specs.Disks.{Stand, IsSameOutside, disk}
use Rattle.zr_shelf.proofs.Doings.{writes_more, writes_still}
use Rattle.zr_label.specs.Blocks.{SpellsLabel, label_block}
use Rattle.zr_scan.specs.Puts.{puts, label_place}
use Rattle.zr_scan.specs.Scan.{block_of}
use Rattle.zr_slots.specs.Phases.{IsLabelPut}
use Rattle.zr_slots.proofs.Rooting.{settled_err}
use Rattle.zr_slots.proofs.put.settle_label.Goals as goal

pub returns-in_err-put_label-clause-order : goal.returns-in_err-put_label-clause-order
returns-in_err-put_label-clause-order g c = λ t.
    let size = slice_index (g.S.Shelf.sizes c.args.shelf.now) c.args.slot in
    settled_err size c.args.slot c.args.n c.args.label.now c.from_residual.result (g.S.Shelf.world c.args.shelf.now) (g.S.Shelf.world c.put_label.new.shelf) c.from_residual.ensures.0 (c.put_label.ensures.wrote t)

pub returns-in_err-flush-clause-order : goal.returns-in_err-flush-clause-order
returns-in_err-flush-clause-order g c = λ t.
    let size = slice_index (g.S.Shelf.sizes c.args.shelf.now) c.args.slot in
    let w0 = g.S.Shelf.world c.args.shelf.now in
    let w1 = g.S.Shelf.world c.put_label.new.shelf in
    let w2 = g.S.Shelf.world c.flush.new.self in
    let Put = IsLabelPut size c.args.slot c.args.n c.args.label.now in
    settled_err size c.args.slot c.args.n c.args.label.now c.from_residual-in_err-flush.result w0 w2 c.from_residual-in_err-flush.ensures.0
    (writes_more Put w0 w1 w2 (c.put_label.ensures.wrote t) (writes_still Put w1 w2 (c.in_err-flush.ensures.world (c.put_label.ensures.told t))))

pub returns-clause-rest : goal.returns-clause-rest
returns-clause-rest g c = λ t.
    let size = slice_index (g.S.Shelf.sizes c.args.shelf.now) c.args.slot in
    let step = (c.in_ok-flush.ensures.world (c.put_label.ensures.told t)).step in
    subst (λ (d : List (List ℕ)). IsSameOutside (puts c.args.slot (label_place size c.args.n) (label_block c.args.label.now)) (g.S.Shelf.world c.args.shelf.now).now.seen d) (sym (ap (λ (s : Stand). s.seen) step)) (c.put_label.ensures.rest t)

pub returns-clause-there : goal.returns-clause-there
returns-clause-there g c = λ t.
    let size = slice_index (g.S.Shelf.sizes c.args.shelf.now) c.args.slot in
    let step = (c.in_ok-flush.ensures.world (c.put_label.ensures.told t)).step in
    subst (λ (d : List (List ℕ)). SpellsLabel (block_of size (disk d c.args.slot) c.args.n) c.args.label.now) (sym (ap (λ (s : Stand). s.seen) step)) (c.in_ok-put_label.ensures.there t)

pub returns-clause-order : goal.returns-clause-order
returns-clause-order g c = λ t. (g.S.Shelf.world c.put_label.new.shelf, c.put_label.ensures.wrote t, c.in_ok-flush.ensures.world (c.put_label.ensures.told t), returns-clause-there g c t)
