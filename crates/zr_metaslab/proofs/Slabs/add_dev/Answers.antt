use Rattle.std.proofs.Common.{◌≤◌, arith, length}
use Rattle.zr_metaslab.proofs.Table.{adds_last, sound_last, length_last}
use Rattle.zr_metaslab.proofs.Slabs.add_dev.Goals as goal

pub invariant_of-self-2 : goal.invariant_of-self-2
invariant_of-self-2 c =
    rw c.push_reserved.ensures.items (record {
      sound = sound_last c.fill.new.devs.items c.in_ok-device.device c.fill.ensures.sound c.in_ok-device.ensures.sound;
      few = omega (arith, length_last c.fill.new.devs.items c.in_ok-device.device, c.fill.ensures.len, c.ranges.dev.fits);
    })

pub returns-clause-ok : goal.returns-clause-ok
returns-clause-ok c =
    let le : length c.self.inside.devs.items ≤ c.args.dev = omega (arith, c.if-d-len.false, c.len.ensures) in
    let same = rw c.reserve.ensures.items at c.fill.ensures.same in
    rw (c.push_reserved.ensures.items, ← c.self.view_is) (adds_last c.self.inside.devs.items c.fill.new.devs.items c.args.dev c.args.units c.args.used.now.extents c.in_ok-device.device le c.fill.ensures.len same c.in_ok-device.ensures.on c.in_ok-device.ensures.units
    (rw c.extents.ensures.extents at c.in_ok-device.ensures.free) (rw c.extents.ensures.extents at c.in_ok-device.ensures.count))
