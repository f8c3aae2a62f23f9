use Rattle.std.proofs.Common.{length, ◌≡◌, ◌∙◌, ℕ, List, ap, sym, subst, refl, arith}
use Rattle.std.specs.Prelude.{slice_index}
use Rattle.zr_label.specs.declared.root.Uber.{Uber}
use Rattle.zr_shelf.specs.Disks.{disk}
use Rattle.zr_shelf.proofs.Runs.{still, still_trans}
use Rattle.zr_scan.specs.Scan.{AreRoots, ShowsNewer}
use Rattle.zr_scan.proofs.Spacing.{ring_read}
use Rattle.zr_scan.proofs.Gathering.{no_rings_yet, no_newer_yet, ring_more, newest_more, own_more, none_own}
use Rattle.zr_scan.proofs.slots.look_at_rings.Goals as goal

pub read-requires-clause-fits : goal.read-requires-clause-fits
read-requires-clause-fits g c =
    let same : c.args.size ≡ slice_index (g.S.Shelf.sizes c.loop-n.shelf) c.args.slot = c.requires.size ∙ ap (λ (l : List ℕ). slice_index l c.args.slot) (sym c.loop-n.invariant.sizes) in
    let fits = c.ring_at.ensures.fits in
    let long = c.loop-n.invariant.long in
    omega (arith, same, fits, long)

pub loop-n-init : goal.loop-n-init
loop-n-init g c = record {
  long = c.requires.ring;
  sizes = refl;
  none_fell = record { disk = omega arith; attach = omega arith; input = omega arith; output = omega arith };
  told = λ t. t;
  still = λ t. still (g.S.Shelf.world c.args.shelf.now) (g.S.Shelf.world c.args.shelf.now) refl;
  own = none_own c.args.l.now c.args.roots.now c.requires.none;
  few = let none = ap (λ (us : List Uber). length us) c.requires.none in omega arith;
  roots = λ t. subst (λ (us : List Uber). AreRoots c.args.size (disk (g.S.Shelf.world c.args.shelf.now).now.seen c.args.slot) 0 c.args.l.now us) (sym c.requires.none) (no_rings_yet c.args.size (disk (g.S.Shelf.world c.args.shelf.now).now.seen c.args.slot) c.args.l.now);
  newer = λ t. no_newer_yet c.args.size (disk (g.S.Shelf.world c.args.shelf.now).now.seen c.args.slot) c.args.l.now.guid;
}

pub loop-n-preserved : goal.loop-n-preserved
loop-n-preserved g c = record {
  long = let long = c.loop-n.invariant.long in omega arith;
  sizes = c.read.ensures.sizes ∙ c.loop-n.invariant.sizes;
  none_fell = let a = c.loop-n.invariant.none_fell in let b = c.read.ensures.none_fell in record { disk = omega arith; attach = omega arith; input = omega arith; output = omega arith };
  told = λ t. c.read.ensures.told (c.loop-n.invariant.told t);
  still = λ t. still_trans (g.S.Shelf.world c.args.shelf.now) (g.S.Shelf.world c.loop-n.shelf) (g.S.Shelf.world c.read.new.self) (c.loop-n.invariant.still t) (c.read.ensures.world (c.loop-n.invariant.told t));
  own = own_more c.read.new.out 32 c.args.l.now c.loop-n.roots c.add_roots.new.roots c.in_ok-add_roots.ensures c.loop-n.invariant.own;
  few = let before = c.loop-n.invariant.few in let more = c.in_ok-add_roots.ensures.few in omega (arith, before, more);
  roots = λ t.
      ring_more c.args.size (disk (g.S.Shelf.world c.args.shelf.now).now.seen c.args.slot) c.loop-n.n c.args.l.now c.read.new.out c.loop-n.roots c.add_roots.new.roots
      (ring_read (g.S.Shelf.world c.loop-n.shelf).now (g.S.Shelf.world c.args.shelf.now).now c.args.slot c.ring_at.result c.loop-n.n c.args.size _ c.read.new.out
      (c.loop-n.invariant.still t).now c.ring_at.ensures.place c.loop-n.invariant.long (c.in_ok-read.ensures.bytes (c.loop-n.invariant.told t)))
      (c.loop-n.invariant.roots t) c.in_ok-add_roots.ensures;
  newer = λ t.
      newest_more c.args.size (disk (g.S.Shelf.world c.args.shelf.now).now.seen c.args.slot) c.loop-n.n c.args.l.now.guid c.read.new.out
      (ring_read (g.S.Shelf.world c.loop-n.shelf).now (g.S.Shelf.world c.args.shelf.now).now c.args.slot c.ring_at.result c.loop-n.n c.args.size _ c.read.new.out
      (c.loop-n.invariant.still t).now c.ring_at.ensures.place c.loop-n.invariant.long (c.in_ok-read.ensures.bytes (c.loop-n.invariant.told t)))
      c.loop-n.newer c.newest_in-newer.result (c.loop-n.invariant.newer t) c.newest_in-newer.ensures;
}

pub returns-in_err-read-clause-still : goal.returns-in_err-read-clause-still
returns-in_err-read-clause-still g c = λ t.
    still_trans (g.S.Shelf.world c.args.shelf.now) (g.S.Shelf.world c.loop-n.shelf) (g.S.Shelf.world c.read.new.self) (c.loop-n.invariant.still t) (c.read.ensures.world (c.loop-n.invariant.told t))

pub returns-in_err-add_roots-clause-still : goal.returns-in_err-add_roots-clause-still
returns-in_err-add_roots-clause-still g c = λ t.
    still_trans (g.S.Shelf.world c.args.shelf.now) (g.S.Shelf.world c.loop-n.shelf) (g.S.Shelf.world c.read.new.self) (c.loop-n.invariant.still t) (c.read.ensures.world (c.loop-n.invariant.told t))

pub returns-clause-roots : goal.returns-clause-roots
returns-clause-roots g c = λ t.
    let is : c.loop-n.n ≡ 4 = omega arith in
    subst (λ (n : ℕ). AreRoots c.args.size (disk (g.S.Shelf.world c.args.shelf.now).now.seen c.args.slot) n c.args.l.now c.loop-n.roots) is (c.loop-n.invariant.roots t)

pub returns-clause-newer : goal.returns-clause-newer
returns-clause-newer g c = λ t.
    let is : c.loop-n.n ≡ 4 = omega arith in
    subst (λ (n : ℕ). ShowsNewer c.args.size (disk (g.S.Shelf.world c.args.shelf.now).now.seen c.args.slot) n c.args.l.now.guid c.loop-n.newer) is (c.loop-n.invariant.newer t)
