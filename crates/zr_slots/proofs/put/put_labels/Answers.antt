use Rattle.std.proofs.Common.{◌≡◌, ℕ, ◌+◌, ◌-◌, ◌<◌, ◌≤◌, List, Ok, inl, inr, refl, ◌∙◌, ap, subst, sym, arith}
use Rattle.std.specs.Prelude.{IsTrue, length, slice_index}
use Rattle.std.proofs.lemmas.Bool.{cases_eq}
use Rattle.zr_shelf.specs.Disks.{IsSameOutside, disk}
use Rattle.zr_label.specs.Blocks.{SpellsLabel, label_block}
use Rattle.zr_label.specs.Geometry.{is_disk_size, label_block_at, ring_slot_at}
use Rattle.zr_scan.proofs.Apart.{label_keeps_label, label_keeps_ring}
use Rattle.zr_scan.specs.Puts.{puts, label_place}
use Rattle.zr_scan.specs.Scan.{block_of}
use Rattle.zr_slots.specs.Phases.{PutsLast, SettlesLabel}
use Rattle.zr_slots.proofs.Rooting.{labels_err, next_last, settles_err, settles_ok}
use Rattle.zr_slots.proofs.put.put_labels.Goals as goal

pub settle_label-requires : goal.settle_label-requires
settle_label-requires g c = record {
  exists = subst (λ (l : List ℕ). c.args.slot < length l) (sym c.loop-k.invariant.sizes) c.requires.exists;
  size = subst (λ (l : List ℕ). IsTrue (is_disk_size 2 (slice_index l c.args.slot))) (sym c.loop-k.invariant.sizes) c.requires.size;
  block = omega arith;
  lawful = c.requires.lawful;
}

pub returns-in_err-settle_label-clause-order : goal.returns-in_err-settle_label-clause-order
returns-in_err-settle_label-clause-order g c = λ t.
    let size = slice_index (g.S.Shelf.sizes c.args.shelf.now) c.args.slot in
    let low : c.loop-k.k < 4 = c.loop-k-test.true in
    let wrote = subst (λ (l : List ℕ). SettlesLabel (slice_index l c.args.slot) c.args.slot (3 - c.loop-k.k) c.args.label.now c.settle_label.result (g.S.Shelf.world c.loop-k.shelf) (g.S.Shelf.world c.settle_label.new.shelf)) c.loop-k.invariant.sizes (c.settle_label.ensures.order (c.loop-k.invariant.told t)) in
    labels_err size c.args.slot c.args.label.now c.from_residual.result (g.S.Shelf.world c.args.shelf.now) (g.S.Shelf.world c.settle_label.new.shelf) c.from_residual.ensures.0
    (c.loop-k.k, low, g.S.Shelf.world c.loop-k.shelf, c.loop-k.invariant.last t, settles_err size c.args.slot (3 - c.loop-k.k) c.args.label.now _ c.settle_label.result (g.S.Shelf.world c.loop-k.shelf) (g.S.Shelf.world c.settle_label.new.shelf) c.in_err-settle_label.was wrote)

pub loop-k-preserved : goal.loop-k-preserved
loop-k-preserved g c =
    let k = c.loop-k.k in
    let slot = c.args.slot in
    let size = slice_index (g.S.Shelf.sizes c.args.shelf.now) slot in
    let low : k < 4 = c.loop-k-test.true in
    let old = g.S.Shelf.world c.loop-k.shelf in
    let new = g.S.Shelf.world c.settle_label.new.shelf in
    let rest = λ (t : g.S.Shelf.tells c.args.shelf.now). subst (λ (l : List ℕ). IsSameOutside (puts slot (label_place (slice_index l slot) (3 - k)) (label_block c.args.label.now)) old.now.seen new.now.seen) c.loop-k.invariant.sizes (c.in_ok-settle_label.ensures.rest (c.loop-k.invariant.told t)) in
    record {
      end = omega (arith, low);
      sizes = c.settle_label.ensures.sizes ∙ c.loop-k.invariant.sizes;
      none_fell = let a = c.loop-k.invariant.none_fell in let b = c.settle_label.ensures.none_fell in record { disk = omega arith; attach = omega arith; input = omega arith; output = omega arith };
      told = λ t. c.settle_label.ensures.told (c.loop-k.invariant.told t);
      last = λ t.
          let done = subst (λ (l : List ℕ). SettlesLabel (slice_index l slot) slot (3 - k) c.args.label.now (Ok tt) old new) c.loop-k.invariant.sizes (settles_ok (slice_index (g.S.Shelf.sizes c.loop-k.shelf) slot) slot (3 - k) c.args.label.now _ c.settle_label.result old new c.in_ok-settle_label.was (c.settle_label.ensures.order (c.loop-k.invariant.told t))) in
          next_last size slot k c.args.label.now (g.S.Shelf.world c.args.shelf.now) old new (c.loop-k.invariant.last t) done;
      at_rest = λ t some. c.in_ok-settle_label.ensures.at_rest (c.loop-k.invariant.told t);
      labels = λ t n high few. elim (cases_eq n (3 - k)) [
        | inl here ↦
            subst (λ (j : ℕ). SpellsLabel (block_of size (disk new.now.seen slot) j) c.args.label.now) (sym here)
            (subst (λ (l : List ℕ). SpellsLabel (block_of (slice_index l slot) (disk new.now.seen slot) (3 - k)) c.args.label.now) c.loop-k.invariant.sizes (c.in_ok-settle_label.ensures.there (c.loop-k.invariant.told t)))
        | inr other ↦
            subst (λ (b : List ℕ). SpellsLabel b c.args.label.now)
            (sym ((rest t).bytes slot (label_block_at size n) 4096 (label_keeps_label size c.requires.size slot (3 - k) (label_block c.args.label.now) c.settle_label.ensures.long (omega arith) n few other)))
            (c.loop-k.invariant.labels t n (omega (arith, low, high, other, few)) few)
      ];
      rings = λ t n j few small.
          (rest t).bytes slot (ring_slot_at size n j) 4096 (label_keeps_ring size c.requires.size slot (3 - k) (label_block c.args.label.now) c.settle_label.ensures.long (omega arith) n j few small)
          ∙ c.loop-k.invariant.rings t n j few small;
    }

pub returns-clause-order : goal.returns-clause-order
returns-clause-order g c = λ t.
    let size = slice_index (g.S.Shelf.sizes c.args.shelf.now) c.args.slot in
    let end = c.loop-k.invariant.end in
    let past = c.loop-k-test.false in
    let all : c.loop-k.k ≡ 4 = omega (arith, end, past) in
    subst (λ (k : ℕ). PutsLast size c.args.slot k c.args.label.now (g.S.Shelf.world c.args.shelf.now) (g.S.Shelf.world c.loop-k.shelf)) all (c.loop-k.invariant.last t)

pub returns-clause-at_rest : goal.returns-clause-at_rest
returns-clause-at_rest g c = λ t. let end = c.loop-k.invariant.end in let past = c.loop-k-test.false in c.loop-k.invariant.at_rest t (omega (arith, end, past))

pub returns-clause-labels : goal.returns-clause-labels
returns-clause-labels g c = λ t n few. let past = c.loop-k-test.false in c.loop-k.invariant.labels t n (omega (arith, past)) few

pub returns-clause-rings : goal.returns-clause-rings
returns-clause-rings g c = λ t n k few small. c.loop-k.invariant.rings t n k few small
