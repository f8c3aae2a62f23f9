use Rattle.std.proofs.Common.{ℕ, List, Some, Ok, inl, inr, refl, sym, ◌≡◌, ◌<◌, ◌∙◌, ap, subst, get_or, arith}
use Rattle.std.specs.Prelude.{slice_index}
use Rattle.zr_label.specs.Geometry.{units_of_size}
use Rattle.zr_sync.specs.Pools.{IsPool}
use Rattle.zr_sync.proofs.Disks.{works_more}
use Rattle.zr_create.proofs.Going.{with_any, same_more, count_more, only_more, each_more}
use Rattle.zr_create.proofs.Labelled.{more_labelled}
use Rattle.zr_create.proofs.Prepared.{next_prepared, one_prepared}
use Rattle.zr_create.specs.Devices.{next_label}
use Rattle.zr_create.proofs.taking.take_all.Goals as goal

pub returns-in_err-take_on-clause-disks : goal.returns-in_err-take_on-clause-disks
returns-in_err-take_on-clause-disks g c = λ t.
    works_more (g.S.Shelf.world c.args.shelf.now) (g.S.Shelf.world c.loop-i.shelf) (g.S.Shelf.world c.take_on.new.shelf) (c.loop-i.invariant.disks t) (c.take_on.ensures.disks (c.loop-i.invariant.told t))

pub loop-i-preserved : goal.loop-i-preserved
loop-i-preserved g c =
    let sizes = g.S.Shelf.sizes c.args.shelf.now in
    let slot = get_or c.args.named.now c.loop-i.i 0 in
    let inside = c.loop-i-test.true in
    let most = c.requires.few in
    let count = c.loop-i.invariant.count in
    let few : c.loop-i.pool.table.count < 32 = omega (arith, inside, most, count) in
    let pool = subst (λ (n : List ℕ). IsPool 0 n c.loop-i.pool) c.loop-i.invariant.sizes c.loop-i.invariant.pool in
    let units : units_of_size (slice_index sizes slot) c.loop-i.pool.version ≡ Some c.in-Some.units =
    subst (λ (n : List ℕ). units_of_size (slice_index n slot) c.loop-i.pool.version ≡ Some c.in-Some.units) c.loop-i.invariant.sizes
    (ap (λ (s : ℕ). units_of_size s c.loop-i.pool.version) (sym c.size.ensures) ∙ sym c.in-Some.ensures) in
    record {
      sizes = c.take_on.ensures.sizes ∙ c.loop-i.invariant.sizes;
      none_fell = let a = c.loop-i.invariant.none_fell in let b = c.take_on.ensures.none_fell in record { disk = omega arith; attach = omega arith; input = omega arith; output = omega arith };
      told = λ t. c.take_on.ensures.told (c.loop-i.invariant.told t);
      disks = λ t.
          works_more (g.S.Shelf.world c.args.shelf.now) (g.S.Shelf.world c.loop-i.shelf) (g.S.Shelf.world c.take_on.new.shelf) (c.loop-i.invariant.disks t) (c.take_on.ensures.disks (c.loop-i.invariant.told t));
      pool = with_any (g.S.Shelf.sizes c.take_on.new.shelf) c.take_on.new.pool c.in_ok-take_on.ensures.pool;
      same = same_more sizes c.args.named.now c.loop-i.i slot c.in-Some.units c.args.pool.now c.loop-i.pool c.take_on.new.pool pool few count refl units c.loop-i.invariant.same c.in_ok-take_on.ensures.taken;
      count = count_more sizes c.args.named.now c.loop-i.i slot c.in-Some.units c.args.pool.now c.loop-i.pool c.take_on.new.pool pool few count refl units c.loop-i.invariant.same c.in_ok-take_on.ensures.taken;
      each = each_more sizes c.args.named.now c.loop-i.i slot c.in-Some.units c.args.pool.now c.loop-i.pool c.take_on.new.pool pool few count refl units c.loop-i.invariant.same c.in_ok-take_on.ensures.taken c.loop-i.invariant.each;
      firsts = λ t.
          next_prepared sizes c.args.named.now c.loop-i.i (g.S.Shelf.world c.args.shelf.now) (g.S.Shelf.world c.loop-i.shelf) (g.S.Shelf.world c.take_on.new.shelf) (c.loop-i.invariant.firsts t)
          (one_prepared sizes (g.S.Shelf.sizes c.loop-i.shelf) slot (next_label c.loop-i.pool c.in-Some.units) (Ok tt) (g.S.Shelf.world c.loop-i.shelf) (g.S.Shelf.world c.take_on.new.shelf) c.loop-i.invariant.sizes (c.requires.named c.loop-i.i inside) c.take_on.ensures.disk c.take_on.ensures.label
          (c.in_ok-take_on.ensures.prepared (c.loop-i.invariant.told t)));
      labelled = λ t.
          more_labelled (g.S.Shelf.world c.args.shelf.now).now.seen (g.S.Shelf.world c.loop-i.shelf).now.seen (g.S.Shelf.world c.take_on.new.shelf).now.seen c.args.named.now c.loop-i.i slot c.in-Some.units c.loop-i.pool c.take_on.new.pool c.requires.apart inside refl count
          (let size = pool.table.size in omega (arith, few, size)) c.in_ok-take_on.ensures.taken (c.in_ok-take_on.ensures.labelled (c.loop-i.invariant.told t)) (c.loop-i.invariant.labelled t);
      only = only_more sizes c.args.named.now c.loop-i.i slot c.in-Some.units c.args.pool.now c.loop-i.pool c.take_on.new.pool pool few count refl units c.loop-i.invariant.same c.in_ok-take_on.ensures.taken c.loop-i.invariant.only;
      stays = λ objects h. c.in_ok-take_on.ensures.stays objects (c.loop-i.invariant.stays objects h);
      trees = λ h. c.in_ok-take_on.ensures.trees (c.loop-i.invariant.trees h);
    }

-- ---- what was prepared, wherever it stops

pub returns-in_err-take_on-clause-prepares : goal.returns-in_err-take_on-clause-prepares
returns-in_err-take_on-clause-prepares g c = λ t.
    let sizes = g.S.Shelf.sizes c.args.shelf.now in
    let slot = get_or c.args.named.now c.loop-i.i 0 in
    let part = c.take_on.ensures.prepares (c.loop-i.invariant.told t) in
    record {
      count = c.loop-i.i;
      mid = g.S.Shelf.world c.loop-i.shelf;
      done = c.loop-i.invariant.firsts t;
      next = inr (part.0, one_prepared sizes (g.S.Shelf.sizes c.loop-i.shelf) slot (next_label c.loop-i.pool c.in-Some.units) part.0 (g.S.Shelf.world c.loop-i.shelf) (g.S.Shelf.world c.take_on.new.shelf) c.loop-i.invariant.sizes (c.requires.named c.loop-i.i c.loop-i-test.true) c.take_on.ensures.disk c.take_on.ensures.label part.1);
    }

pub returns-clause-prepares : goal.returns-clause-prepares
returns-clause-prepares g c = λ t. record { count = c.loop-i.i; mid = g.S.Shelf.world c.loop-i.shelf; done = c.loop-i.invariant.firsts t; next = inl refl }
