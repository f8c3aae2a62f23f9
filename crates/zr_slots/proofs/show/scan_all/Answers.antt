use Rattle.std.proofs.Common.{ℕ, List, ◌∙◌, subst, arith}
use Rattle.std.specs.Prelude.{slice_index}
use Rattle.zr_shelf.specs.Disks.{disk}
use Rattle.zr_shelf.proofs.Runs.{still_trans}
use Rattle.zr_scan.specs.Scan.{Shows, IsSmallAndLawful}
use Rattle.zr_slots.proofs.Pushing.{length_pushed, each_pushed, all_shown}
use Rattle.zr_slots.proofs.show.scan_all.Goals as goal

pub returns-in_err-one-clause-still : goal.returns-in_err-one-clause-still
returns-in_err-one-clause-still g c = λ t.
    still_trans (g.S.Shelf.world c.args.shelf.now) (g.S.Shelf.world c.loop-slot.shelf) (g.S.Shelf.world c.scan.new.shelf) (c.loop-slot.invariant.still t) (c.scan.ensures.still (c.loop-slot.invariant.told t))

pub returns-in_err-push-clause-still : goal.returns-in_err-push-clause-still
returns-in_err-push-clause-still g c = λ t.
    still_trans (g.S.Shelf.world c.args.shelf.now) (g.S.Shelf.world c.loop-slot.shelf) (g.S.Shelf.world c.scan.new.shelf) (c.loop-slot.invariant.still t) (c.scan.ensures.still (c.loop-slot.invariant.told t))

pub loop-slot-preserved : goal.loop-slot-preserved
loop-slot-preserved g c = record {
  sizes = c.scan.ensures.sizes ∙ c.loop-slot.invariant.sizes;
  none_fell = let a = c.loop-slot.invariant.none_fell in let b = c.scan.ensures.none_fell in record { disk = omega arith; attach = omega arith; input = omega arith; output = omega arith };
  told = λ t. c.scan.ensures.told (c.loop-slot.invariant.told t);
  still = λ t. still_trans (g.S.Shelf.world c.args.shelf.now) (g.S.Shelf.world c.loop-slot.shelf) (g.S.Shelf.world c.scan.new.shelf) (c.loop-slot.invariant.still t) (c.scan.ensures.still (c.loop-slot.invariant.told t));
  count = let count = c.loop-slot.invariant.count in let long = length_pushed c.loop-slot.seen c.push.new.self c.in_ok-one.one c.in_ok-push.ensures in omega (arith, count, long);
  lawful =
      each_pushed (λ k s. IsSmallAndLawful (slice_index (g.S.Shelf.sizes c.args.shelf.now) k) s) c.loop-slot.seen c.push.new.self c.loop-slot.slot c.in_ok-one.one c.in_ok-push.ensures c.loop-slot.invariant.count c.loop-slot.invariant.lawful
      (subst (λ (l : List ℕ). IsSmallAndLawful (slice_index l c.loop-slot.slot) c.in_ok-one.one) c.loop-slot.invariant.sizes c.in_ok-one.ensures.lawful);
  shows = λ t.
      each_pushed (λ k s. Shows (slice_index (g.S.Shelf.sizes c.args.shelf.now) k) (disk (g.S.Shelf.world c.args.shelf.now).now.seen k) s) c.loop-slot.seen c.push.new.self c.loop-slot.slot c.in_ok-one.one c.in_ok-push.ensures c.loop-slot.invariant.count (c.loop-slot.invariant.shows t)
      (subst (λ (l : List ℕ). Shows (slice_index l c.loop-slot.slot) (disk (g.S.Shelf.world c.args.shelf.now).now.seen c.loop-slot.slot) c.in_ok-one.one) c.loop-slot.invariant.sizes
      (subst (λ s. Shows (slice_index (g.S.Shelf.sizes c.loop-slot.shelf) c.loop-slot.slot) (disk s.seen c.loop-slot.slot) c.in_ok-one.one) (c.loop-slot.invariant.still t).now (c.in_ok-one.ensures.shows (c.loop-slot.invariant.told t))));
}

pub returns-clause-lawful : goal.returns-clause-lawful
returns-clause-lawful g c = λ slot lt.
    let count = c.loop-slot.invariant.count in
    record { in_list = lt; size = slice_index (g.S.Shelf.sizes c.args.shelf.now) slot; lawful = c.loop-slot.invariant.lawful slot (omega (arith, lt, count)) }

pub returns-clause-sized : goal.returns-clause-sized
returns-clause-sized g c = λ slot lt. let count = c.loop-slot.invariant.count in c.loop-slot.invariant.lawful slot (omega (arith, lt, count))

pub returns-clause-shows : goal.returns-clause-shows
returns-clause-shows g c = λ t.
    let sound = g.S.Shelf.sound c.args.shelf.now t in
    let count = c.loop-slot.invariant.count in
    let past = c.loop-slot-test.false in
    let end = c.loop-slot.auto.slot-end in
    let slots = c.slots-slot-end.ensures in
    all_shown (g.S.Shelf.sizes c.args.shelf.now) (g.S.Shelf.world c.args.shelf.now).now.seen c.loop-slot.seen sound.sized (omega (arith, count, past, end, slots)) (λ k lt. c.loop-slot.invariant.shows t k (omega (arith, count, lt)))
