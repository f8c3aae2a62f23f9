use Rattle.std.proofs.Common.{◌≡◌, ◌∙◌, ℕ, List, ap, sym, subst, arith}
use Rattle.std.specs.Prelude.{slice_index}
use Rattle.zr_shelf.specs.Disks.{disk}
use Rattle.zr_shelf.proofs.Runs.{still_trans}
use Rattle.zr_scan.specs.Scan.{HasNoLabel}
use Rattle.zr_scan.proofs.Spacing.{block_read}
use Rattle.zr_scan.proofs.Blocks.{no_label_more, label_found, own_label}
use Rattle.zr_scan.proofs.slots.first_label.Goals as goal

pub read-requires-clause-fits : goal.read-requires-clause-fits
read-requires-clause-fits g c =
    let same : c.args.size ≡ slice_index (g.S.Shelf.sizes c.loop-n.shelf) c.args.slot = c.requires.size ∙ ap (λ (l : List ℕ). slice_index l c.args.slot) (sym c.loop-n.invariant.sizes) in
    let fits = c.label_block_at.ensures.fits in
    omega (arith, same, fits)

pub loop-n-preserved : goal.loop-n-preserved
loop-n-preserved g c = record {
  sizes = c.read.ensures.sizes ∙ c.loop-n.invariant.sizes;
  none_fell = let a = c.loop-n.invariant.none_fell in let b = c.read.ensures.none_fell in record { disk = omega arith; attach = omega arith; input = omega arith; output = omega arith };
  told = λ t. c.read.ensures.told (c.loop-n.invariant.told t);
  still = λ t. still_trans (g.S.Shelf.world c.args.shelf.now) (g.S.Shelf.world c.loop-n.shelf) (g.S.Shelf.world c.read.new.self) (c.loop-n.invariant.still t) (c.read.ensures.world (c.loop-n.invariant.told t));
  none = λ t.
      no_label_more c.args.size (disk (g.S.Shelf.world c.args.shelf.now).now.seen c.args.slot) c.loop-n.n c.args.units c.read.new.out c.requires.units
      (block_read (g.S.Shelf.world c.loop-n.shelf).now (g.S.Shelf.world c.args.shelf.now).now c.args.slot c.label_block_at.result c.loop-n.n c.args.size c.read.new.out
      (c.loop-n.invariant.still t).now c.label_block_at.ensures.place (c.in_ok-read.ensures.bytes (c.loop-n.invariant.told t)))
      (c.loop-n.invariant.none t) c.in_default.ensures;
}

pub returns-in_err-read-clause-still : goal.returns-in_err-read-clause-still
returns-in_err-read-clause-still g c = λ t.
    still_trans (g.S.Shelf.world c.args.shelf.now) (g.S.Shelf.world c.loop-n.shelf) (g.S.Shelf.world c.read.new.self) (c.loop-n.invariant.still t) (c.read.ensures.world (c.loop-n.invariant.told t))

pub returns-in-Some-clause-still : goal.returns-in-Some-clause-still
returns-in-Some-clause-still g c = λ t.
    still_trans (g.S.Shelf.world c.args.shelf.now) (g.S.Shelf.world c.loop-n.shelf) (g.S.Shelf.world c.read.new.self) (c.loop-n.invariant.still t) (c.read.ensures.world (c.loop-n.invariant.told t))

pub returns-in-Some-clause-label : goal.returns-in-Some-clause-label
returns-in-Some-clause-label g c = λ t.
    label_found c.args.size (disk (g.S.Shelf.world c.args.shelf.now).now.seen c.args.slot) c.loop-n.n c.args.units c.read.new.out c.in-Some.l c.loop-n-test.true c.requires.units
    (block_read (g.S.Shelf.world c.loop-n.shelf).now (g.S.Shelf.world c.args.shelf.now).now c.args.slot c.label_block_at.result c.loop-n.n c.args.size c.read.new.out
    (c.loop-n.invariant.still t).now c.label_block_at.ensures.place (c.in_ok-read.ensures.bytes (c.loop-n.invariant.told t)))
    (c.loop-n.invariant.none t) c.in-Some.ensures

pub returns-clause-label : goal.returns-clause-label
returns-clause-label g c = λ t.
    let is : c.loop-n.n ≡ 4 = omega arith in
    subst (λ (n : ℕ). HasNoLabel c.args.size (disk (g.S.Shelf.world c.args.shelf.now).now.seen c.args.slot) n) is (c.loop-n.invariant.none t)

pub returns-in-Some-clause-own : goal.returns-in-Some-clause-own
returns-in-Some-clause-own g c = own_label c.args.size c.args.units c.read.new.out c.in-Some.l c.requires.units c.in-Some.ensures
