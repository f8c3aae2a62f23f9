use Rattle.std.proofs.Common.{refl, arith, ◌+◌, ◌≤◌}
use Rattle.zr_metaslab.specs.Devices.{device_at}
use Rattle.zr_metaslab.specs.Order.{IsFirstDevice}
use Rattle.zr_metaslab.proofs.Fits.{no_placement, is_placement}
use Rattle.zr_metaslab.proofs.Table.{read_device, takes_want}
use Rattle.zr_metaslab.proofs.Slabs.alloc.Goals as goal

pub returns-in_default-clause-none : goal.returns-in_default-clause-none
returns-in_default-clause-none g c =
    rw (← c.self.view_is) (no_placement c.self.inside.devs.items c.args.want c.longest_on-longest.result c.self.invariant.sound c.requires.some
    (rw c.as_slice.ensures.value at (rw c.in_default.is at c.first_device.ensures.none))
    (rw c.as_slice-in_default.ensures.value at c.longest_on-longest.ensures.most)
    (rw c.as_slice-in_default.ensures.value at c.longest_on-longest.ensures.some)).1

pub returns-clause-placed : goal.returns-clause-placed
returns-clause-placed g c =
    let first : IsFirstDevice c.self.inside.devs.items c.args.want c.in-Some.d = rw c.as_slice.ensures.value at c.in-Some.ensures.some in
    let here = read_device c.self.inside.devs.items c.in-Some.d c.index_mut-device.result.now first.there c.index_mut-device.ensures.value in
    let taken = rw here at c.alloc-e.ensures.taken in
    rw (← c.self.view_is) (is_placement c.self.inside.devs.items c.alloc-e.new.self.slabs c.args.chooser.now.policy c.args.want (record { dev = c.in-Some.d; start = c.alloc-e.result.start; len = c.args.want }) c.alloc-e.result c.self.invariant.sound c.requires.some first taken refl refl)

pub returns-clause-taken : goal.returns-clause-taken
returns-clause-taken g c =
    let first : IsFirstDevice c.self.inside.devs.items c.args.want c.in-Some.d = rw c.as_slice.ensures.value at c.in-Some.ensures.some in
    let here = read_device c.self.inside.devs.items c.in-Some.d c.index_mut-device.result.now first.there c.index_mut-device.ensures.value in
    rw (← c.self.view_is) (takes_want c.self.inside.devs.items c.in-Some.d c.args.want c.index_mut-device.result.now c.alloc-e.new.self c.alloc-e.result first.there here c.alloc-e.ensures.loses c.alloc-e.ensures.within c.alloc-e.ensures.device c.alloc-e.ensures.taken.taken.len)

pub returns-clause-in_range : goal.returns-clause-in_range
returns-clause-in_range g c =
    let first : IsFirstDevice c.self.inside.devs.items c.args.want c.in-Some.d = rw c.as_slice.ensures.value at c.in-Some.ensures.some in
    let here = read_device c.self.inside.devs.items c.in-Some.d c.index_mut-device.result.now first.there c.index_mut-device.ensures.value in
    let within : c.alloc-e.result.start + c.alloc-e.result.len ≤ (device_at c.self.inside.devs.items c.in-Some.d).units = rw here at c.alloc-e.ensures.within in
    omega (arith, within, (c.self.invariant.sound c.in-Some.d).small, c.alloc-e.ensures.taken.taken.len)
