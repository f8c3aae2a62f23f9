use Rattle.std.proofs.Common.{◌<◌, ◌≤◌, ◌+◌, length, arith}
use Rattle.zr_metaslab.proofs.Places.{read, IsGain, gain_device, gain_fits}
use Rattle.zr_metaslab.proofs.device.Device.release_in.Goals as goal

pub overflow_add-self : goal.overflow_add-self
overflow_add-self c =
    let within : c.args.e.start + c.args.e.len ≤ c.self.inside.units = rw (← c.self.view_is) at c.requires.within in
    let there : c.args.k < length c.self.inside.slabs.items = omega (arith, c.self.invariant.reach, c.requires.from, within, c.requires.not_empty) in
    let here = read c.self.inside.slabs.items c.args.k c.index_mut-slab.result.now there c.index_mut-slab.ensures.value in
    let gain : IsGain c.self.inside.units c.args.k c.self.inside.slabs.items c.release.new.self c.args.e = record {
      there = there;
      sound = c.self.invariant.sound;
      added = rw here at c.release.ensures;
      some = c.requires.not_empty;
      from = c.requires.from;
      to = c.requires.to;
      within = within;
    } in
    omega (arith, gain_fits c.self.inside.units c.self.inside.free c.args.k c.self.inside.longest c.self.inside.slabs.items c.release.new.self c.args.e c.self.invariant gain)

pub invariant_of-self : goal.invariant_of-self
invariant_of-self c =
    let within : c.args.e.start + c.args.e.len ≤ c.self.inside.units = rw (← c.self.view_is) at c.requires.within in
    let there : c.args.k < length c.self.inside.slabs.items = omega (arith, c.self.invariant.reach, c.requires.from, within, c.requires.not_empty) in
    let here = read c.self.inside.slabs.items c.args.k c.index_mut-slab.result.now there c.index_mut-slab.ensures.value in
    let gain : IsGain c.self.inside.units c.args.k c.self.inside.slabs.items c.release.new.self c.args.e = record {
      there = there;
      sound = c.self.invariant.sound;
      added = rw here at c.release.ensures;
      some = c.requires.not_empty;
      from = c.requires.from;
      to = c.requires.to;
      within = within;
    } in
    gain_device c.self.inside.units c.self.inside.free c.args.k c.longest-longest.result c.self.inside.longest c.set.new.self c.self.inside.slabs.items c.release.new.self c.args.e c.self.invariant gain
    (record { leaf = c.set.ensures.leaf; longest = c.longest-longest.ensures; size = c.set.ensures.size; made = c.set.ensures.made })
