use Rattle.std.proofs.Common.{◌≡◌, ℕ, ◌<◌, inl, inr, List, Ok, ◌∙◌, ap, subst}
use Rattle.std.specs.Prelude.{OnOk, slice_index}
use Rattle.zr_shelf.specs.Disks.{disk, Stand}
use Rattle.zr_shelf.proofs.Doings.{writes_more, writes_still}
use Rattle.zr_scan.specs.Scan.{ring_block}
use Rattle.zr_slots.specs.Phases.{IsRingPut, PutsLabels}
use Rattle.zr_slots.proofs.Rooting.{on_ok, prepared_by, prepared_err}
use Rattle.zr_slots.proofs.put.prepare_device.Goals as goal

pub returns-in_err-flush-clause-order : goal.returns-in_err-flush-clause-order
returns-in_err-flush-clause-order g c = λ t.
    let size = slice_index (g.S.Shelf.sizes c.args.shelf.now) c.args.slot in
    let w0 = g.S.Shelf.world c.args.shelf.now in
    let w1 = g.S.Shelf.world c.clear_rings.new.shelf in
    let w2 = g.S.Shelf.world c.flush.new.self in
    prepared_err size c.args.slot c.args.label.now c.from_residual-in_err-flush.result w0 w2 c.from_residual-in_err-flush.ensures.0
    (inl (writes_more (IsRingPut size c.args.slot) w0 w1 w2 (c.clear_rings.ensures.wrote t) (writes_still (IsRingPut size c.args.slot) w1 w2 (c.in_err-flush.ensures.world (c.clear_rings.ensures.told t)))))

pub returns-clause-order : goal.returns-clause-order
returns-clause-order g c = λ t.
    let size = slice_index (g.S.Shelf.sizes c.args.shelf.now) c.args.slot in
    let told = c.clear_rings.ensures.told t in
    let told2 = c.flush.ensures.told told in
    let w0 = g.S.Shelf.world c.args.shelf.now in
    let w1 = g.S.Shelf.world c.clear_rings.new.shelf in
    let w2 = g.S.Shelf.world c.flush.new.self in
    let w3 = g.S.Shelf.world c.put_labels.new.shelf in
    let sizes = c.flush.ensures.sizes ∙ c.clear_rings.ensures.sizes in
    let step = (c.in_ok-flush.ensures.world told).step in
    prepared_by size c.args.slot c.args.label.now c.put_labels.result w0 w1 w2 w3 (c.clear_rings.ensures.wrote t) (c.in_ok-flush.ensures.world told)
    (λ n k few small. ap (λ (s : Stand). ring_block size (disk s.seen c.args.slot) n k) step ∙ c.in_ok-clear_rings.ensures.there t n k few small)
    (subst (λ (l : List ℕ). PutsLabels (slice_index l c.args.slot) c.args.slot c.args.label.now c.put_labels.result w2 w3) sizes (c.put_labels.ensures.order told2))

pub returns-clause-rings : goal.returns-clause-rings
returns-clause-rings g c = λ t.
    let size = slice_index (g.S.Shelf.sizes c.args.shelf.now) c.args.slot in
    let told = c.clear_rings.ensures.told t in
    let sizes = c.flush.ensures.sizes ∙ c.clear_rings.ensures.sizes in
    let step = (c.in_ok-flush.ensures.world told).step in
    let w2 = g.S.Shelf.world c.flush.new.self in
    let w3 = g.S.Shelf.world c.put_labels.new.shelf in
    on_ok c.put_labels.result
    (λ (same : (n k : ℕ) → n < 4 → k < 32 → ring_block size (disk w3.now.seen c.args.slot) n k ≡ ring_block size (disk w2.now.seen c.args.slot) n k) n k few small.
    same n k few small ∙ (ap (λ (s : Stand). ring_block size (disk s.seen c.args.slot) n k) step ∙ c.in_ok-clear_rings.ensures.there t n k few small))
    (subst (λ (l : List ℕ). OnOk c.put_labels.result ((n k : ℕ) → n < 4 → k < 32 → ring_block (slice_index l c.args.slot) (disk w3.now.seen c.args.slot) n k ≡ ring_block (slice_index l c.args.slot) (disk w2.now.seen c.args.slot) n k)) sizes (c.put_labels.ensures.rings (c.flush.ensures.told told)))
