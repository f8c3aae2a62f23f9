use Rattle.std.proofs.Common.{◌≡◌, ℕ, ◌<◌, ◌≤◌, ◌==◌, if◌then◌else◌, length, arith}
use Rattle.zr_metaslab.specs.Trees.{leaf_at}
use Rattle.zr_base.specs.Extents.{longest_len}
use Rattle.zr_metaslab.specs.Metaslabs.{slab_at, longest_of, TakesRun}
use Rattle.zr_metaslab.proofs.Places.{read, slab_there, longest_short, first_taken, IsLoss, loss_device, loss_units, loss_sound, loss_within}
use Rattle.zr_metaslab.proofs.device.Device.alloc.Goals as goal

pub unreachable-requires : goal.unreachable-requires
unreachable-requires g c =
    let short : longest_of c.self.inside.slabs.items < c.args.want = longest_short c.self.inside.slabs.items c.self.inside.longest c.args.want c.requires.some c.self.invariant.kept (rw c.in_default.is at c.first.ensures.none) in
    let room : c.args.want ≤ longest_of c.self.inside.slabs.items = rw (← c.self.view_is) at c.requires.room in
    omega (arith, short, room)

pub invariant_of-self : goal.invariant_of-self
invariant_of-self g c =
    let enough : c.args.want ≤ longest_len (slab_at c.self.inside.slabs.items c.in-Some.k) = omega (arith, c.in-Some.ensures.some.enough, c.self.invariant.kept c.in-Some.k) in
    let there : c.in-Some.k < length c.self.inside.slabs.items = slab_there c.self.inside.slabs.items c.in-Some.k (omega (arith, enough, c.requires.some)) in
    let here = read c.self.inside.slabs.items c.in-Some.k c.index_mut-slab.result.now there c.index_mut-slab.ensures.value in
    let taken : TakesRun (slab_at c.self.inside.slabs.items c.in-Some.k) c.alloc-e.new.self c.args.chooser.now.policy c.args.want c.alloc-e.result = rw here at c.alloc-e.ensures in
    let loss : IsLoss c.self.inside.units c.in-Some.k c.self.inside.slabs.items c.alloc-e.new.self c.alloc-e.result = record {
      there = there;
      sound = c.self.invariant.sound;
      were_free = taken.were_free;
      removed = taken.removed;
      some = omega (arith, taken.len, c.requires.some);
    } in
    let leaf : (j : ℕ) → leaf_at c.set.new.self j ≡ (if j == c.in-Some.k then c.longest-longest.result else leaf_at c.first.new.self j) = c.set.ensures.leaf in
    let size : c.set.new.self.size ≡ c.first.new.self.size = c.set.ensures.size in
    rw taken.len at (loss_device c.self.inside.units c.self.inside.free c.in-Some.k c.longest-longest.result c.self.inside.longest c.set.new.self c.self.inside.slabs.items c.alloc-e.new.self c.alloc-e.result c.self.invariant loss
    (record { leaf = rw c.first.ensures.same at leaf; longest = c.longest-longest.ensures; size = rw c.first.ensures.same at size; made = c.set.ensures.made }))

pub returns-clause-taken : goal.returns-clause-taken
returns-clause-taken g c =
    let enough : c.args.want ≤ longest_len (slab_at c.self.inside.slabs.items c.in-Some.k) = omega (arith, c.in-Some.ensures.some.enough, c.self.invariant.kept c.in-Some.k) in
    let there : c.in-Some.k < length c.self.inside.slabs.items = slab_there c.self.inside.slabs.items c.in-Some.k (omega (arith, enough, c.requires.some)) in
    let here = read c.self.inside.slabs.items c.in-Some.k c.index_mut-slab.result.now there c.index_mut-slab.ensures.value in
    let taken : TakesRun (slab_at c.self.inside.slabs.items c.in-Some.k) c.alloc-e.new.self c.args.chooser.now.policy c.args.want c.alloc-e.result = rw here at c.alloc-e.ensures in
    let loss : IsLoss c.self.inside.units c.in-Some.k c.self.inside.slabs.items c.alloc-e.new.self c.alloc-e.result = record {
      there = there;
      sound = c.self.invariant.sound;
      were_free = taken.were_free;
      removed = taken.removed;
      some = omega (arith, taken.len, c.requires.some);
    } in
    rw (← c.self.view_is) (first_taken c.in-Some.k c.args.want c.self.inside.slabs.items c.alloc-e.new.self c.args.chooser.now.policy c.alloc-e.result there (λ j lt. omega (arith, c.in-Some.ensures.some.before j lt, c.self.invariant.kept j)) taken)

pub returns-clause-loses : goal.returns-clause-loses
returns-clause-loses g c =
    let enough : c.args.want ≤ longest_len (slab_at c.self.inside.slabs.items c.in-Some.k) = omega (arith, c.in-Some.ensures.some.enough, c.self.invariant.kept c.in-Some.k) in
    let there : c.in-Some.k < length c.self.inside.slabs.items = slab_there c.self.inside.slabs.items c.in-Some.k (omega (arith, enough, c.requires.some)) in
    let here = read c.self.inside.slabs.items c.in-Some.k c.index_mut-slab.result.now there c.index_mut-slab.ensures.value in
    let taken : TakesRun (slab_at c.self.inside.slabs.items c.in-Some.k) c.alloc-e.new.self c.args.chooser.now.policy c.args.want c.alloc-e.result = rw here at c.alloc-e.ensures in
    let loss : IsLoss c.self.inside.units c.in-Some.k c.self.inside.slabs.items c.alloc-e.new.self c.alloc-e.result = record {
      there = there;
      sound = c.self.invariant.sound;
      were_free = taken.were_free;
      removed = taken.removed;
      some = omega (arith, taken.len, c.requires.some);
    } in
    rw (← c.self.view_is) (loss_units c.self.inside.units c.in-Some.k c.self.inside.slabs.items c.alloc-e.new.self c.alloc-e.result loss)

pub returns-clause-within : goal.returns-clause-within
returns-clause-within g c =
    let enough : c.args.want ≤ longest_len (slab_at c.self.inside.slabs.items c.in-Some.k) = omega (arith, c.in-Some.ensures.some.enough, c.self.invariant.kept c.in-Some.k) in
    let there : c.in-Some.k < length c.self.inside.slabs.items = slab_there c.self.inside.slabs.items c.in-Some.k (omega (arith, enough, c.requires.some)) in
    let here = read c.self.inside.slabs.items c.in-Some.k c.index_mut-slab.result.now there c.index_mut-slab.ensures.value in
    let taken : TakesRun (slab_at c.self.inside.slabs.items c.in-Some.k) c.alloc-e.new.self c.args.chooser.now.policy c.args.want c.alloc-e.result = rw here at c.alloc-e.ensures in
    let loss : IsLoss c.self.inside.units c.in-Some.k c.self.inside.slabs.items c.alloc-e.new.self c.alloc-e.result = record {
      there = there;
      sound = c.self.invariant.sound;
      were_free = taken.were_free;
      removed = taken.removed;
      some = omega (arith, taken.len, c.requires.some);
    } in
    rw (← c.self.view_is) (loss_within c.self.inside.units c.in-Some.k c.self.inside.slabs.items c.alloc-e.new.self c.alloc-e.result loss)

pub returns-clause-sound : goal.returns-clause-sound
returns-clause-sound g c =
    let enough : c.args.want ≤ longest_len (slab_at c.self.inside.slabs.items c.in-Some.k) = omega (arith, c.in-Some.ensures.some.enough, c.self.invariant.kept c.in-Some.k) in
    let there : c.in-Some.k < length c.self.inside.slabs.items = slab_there c.self.inside.slabs.items c.in-Some.k (omega (arith, enough, c.requires.some)) in
    let here = read c.self.inside.slabs.items c.in-Some.k c.index_mut-slab.result.now there c.index_mut-slab.ensures.value in
    let taken : TakesRun (slab_at c.self.inside.slabs.items c.in-Some.k) c.alloc-e.new.self c.args.chooser.now.policy c.args.want c.alloc-e.result = rw here at c.alloc-e.ensures in
    let loss : IsLoss c.self.inside.units c.in-Some.k c.self.inside.slabs.items c.alloc-e.new.self c.alloc-e.result = record {
      there = there;
      sound = c.self.invariant.sound;
      were_free = taken.were_free;
      removed = taken.removed;
      some = omega (arith, taken.len, c.requires.some);
    } in
    record { slabs = loss_sound c.self.inside.units c.in-Some.k c.self.inside.slabs.items c.alloc-e.new.self c.alloc-e.result loss; small = c.self.invariant.small }
