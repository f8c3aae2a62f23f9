use Rattle.std.proofs.Common.{◌∙◌, refl, arith, length, ◌<◌}
use Rattle.std.proofs.Common.{List}
use Rattle.std.proofs.Math.ListN.{set}
use Rattle.std.proofs.lemmas.List.{length-set}
use Rattle.zr_space.specs.Views.{Kept}
use Rattle.zr_space.proofs.Lives.{is_meta}
use Rattle.zr_space.proofs.Views.{kept_read}
use Rattle.zr_space.proofs.Frames.{space_itself}
use Rattle.zr_space.proofs.Allocs.{IsTaken, meta_space, allocates_meta, given_back, no_run}
use Rattle.zr_space.proofs.space.Space.alloc_meta.Goals as goal

pub returns-in-Err-clause-cause : goal.returns-in-Err-clause-cause
returns-in-Err-clause-cause g c =
    rw (← c.self.view_is) (c.in-Err.ensures.needed, no_run c.self.inside.whole c.self.inside.slabs c.self.inside.devs.items c.args.want c.in-Err.field-0.longest c.self.invariant c.in-Err.ensures.none)

pub invariant_of-self-in-Ok-hold_meta : goal.invariant_of-self-in-Ok-hold_meta
invariant_of-self-in-Ok-hold_meta g c =
    let k : Kept = record { row = c.device.inside.row; uses = c.device.inside.units; moves = c.device.inside.moves } in
    let known = c.in-Ok.ensures.placed.known in
    let there : c.in-Ok.at.dev < length c.self.inside.devs.items = let e = c.self.invariant.devices in omega (arith, known, e) in
    let here = kept_read c.self.inside.devs.items c.in-Ok.at.dev c.index_mut-device.result.now there c.index_mut-device.ensures.value in
    let taken : IsTaken c.self.inside.whole c.self.inside.slabs c.alloc.new.self c.self.inside.devs.items c.in-Ok.at k = record {
      space = c.self.invariant;
      takes = c.in-Ok.ensures.taken;
      known = known;
      serves = c.in-Ok.ensures.placed.serves;
      kept = c.device.view_is ∙ here;
    } in
    meta_space c.self.inside.whole c.self.inside.slabs c.alloc.new.self c.self.inside.devs.items c.in-Ok.at k taken c.hold_meta.new.self (rw c.extent_of-e.ensures at c.in-Ok-hold_meta.ensures.ok)

pub invariant_of-self-in-Err-hold_meta : goal.invariant_of-self-in-Err-hold_meta
invariant_of-self-in-Err-hold_meta g c =
    let k : Kept = record { row = c.device.inside.row; uses = c.device.inside.units; moves = c.device.inside.moves } in
    let known = c.in-Ok.ensures.placed.known in
    let there : c.in-Ok.at.dev < length c.self.inside.devs.items = let e = c.self.invariant.devices in omega (arith, known, e) in
    let here = kept_read c.self.inside.devs.items c.in-Ok.at.dev c.index_mut-device.result.now there c.index_mut-device.ensures.value in
    let taken : IsTaken c.self.inside.whole c.self.inside.slabs c.alloc.new.self c.self.inside.devs.items c.in-Ok.at k = record {
      space = c.self.invariant;
      takes = c.in-Ok.ensures.taken;
      known = known;
      serves = c.in-Ok.ensures.placed.serves;
      kept = c.device.view_is ∙ here;
    } in
    given_back c.self.inside.slabs c.alloc.new.self c.release.new.self c.self.inside.devs.items c.in-Ok.at k c.hold_meta.new.self taken c.in-Err-hold_meta.ensures.err (rw c.extent_of-e.ensures at c.release.ensures)

pub returns-in-Ok-hold_meta-clause-ok : goal.returns-in-Ok-hold_meta-clause-ok
returns-in-Ok-hold_meta-clause-ok g c =
    let k : Kept = record { row = c.device.inside.row; uses = c.device.inside.units; moves = c.device.inside.moves } in
    let known = c.in-Ok.ensures.placed.known in
    let there : c.in-Ok.at.dev < length c.self.inside.devs.items = let e = c.self.invariant.devices in omega (arith, known, e) in
    let here = kept_read c.self.inside.devs.items c.in-Ok.at.dev c.index_mut-device.result.now there c.index_mut-device.ensures.value in
    let taken : IsTaken c.self.inside.whole c.self.inside.slabs c.alloc.new.self c.self.inside.devs.items c.in-Ok.at k = record {
      space = c.self.invariant;
      takes = c.in-Ok.ensures.taken;
      known = known;
      serves = c.in-Ok.ensures.placed.serves;
      kept = c.device.view_is ∙ here;
    } in
    rw (← c.self.view_is)
    (allocates_meta c.self.inside.whole c.self.inside.slabs c.alloc.new.self c.self.inside.devs.items c.in-Ok.at k taken c.args.want _ c.hold_meta.new.self (rw c.extent_of-e.ensures at c.in-Ok-hold_meta.ensures.ok) c.in-Ok.ensures.placed)

pub returns-in-Ok-hold_meta-clause-meta : goal.returns-in-Ok-hold_meta-clause-meta
returns-in-Ok-hold_meta-clause-meta g c =
    let k : Kept = record { row = c.device.inside.row; uses = c.device.inside.units; moves = c.device.inside.moves } in
    let known = c.in-Ok.ensures.placed.known in
    let there : c.in-Ok.at.dev < length c.self.inside.devs.items = let e = c.self.invariant.devices in omega (arith, known, e) in
    let here = kept_read c.self.inside.devs.items c.in-Ok.at.dev c.index_mut-device.result.now there c.index_mut-device.ensures.value in
    let taken : IsTaken c.self.inside.whole c.self.inside.slabs c.alloc.new.self c.self.inside.devs.items c.in-Ok.at k = record {
      space = c.self.invariant;
      takes = c.in-Ok.ensures.taken;
      known = known;
      serves = c.in-Ok.ensures.placed.serves;
      kept = c.device.view_is ∙ here;
    } in
    let y = rw c.extent_of-e.ensures at c.in-Ok-hold_meta.ensures.ok in
    let devs : List Kept = set c.self.inside.devs.items c.in-Ok.at.dev (record { row = k.row; uses = c.hold_meta.new.self; moves = k.moves }) in
    let space = meta_space c.self.inside.whole c.self.inside.slabs c.alloc.new.self c.self.inside.devs.items c.in-Ok.at k taken c.hold_meta.new.self y in
    let moved = allocates_meta c.self.inside.whole c.self.inside.slabs c.alloc.new.self c.self.inside.devs.items c.in-Ok.at k taken c.args.want _ c.hold_meta.new.self y c.in-Ok.ensures.placed in
    is_meta c.self.inside.whole c.alloc.new.self devs c.in-Ok.at
    (record {
      space = space;
      known = let l = length-set c.self.inside.devs.items c.in-Ok.at.dev (record { row = k.row; uses = c.hold_meta.new.self; moves = k.moves }) in omega (arith, there, l);
      some = let l = c.in-Ok.ensures.placed.len in let w = c.requires.some in omega (arith, l, w);
      within = let w = c.in-Ok.ensures.taken.within in let u = c.in-Ok.ensures.taken.devices.units c.in-Ok.at.dev in omega (arith, w, u);
    })
    (λ d u is. moved.roles d u ∙ rw is refl)

pub returns-in-Err-hold_meta-clause-err : goal.returns-in-Err-hold_meta-clause-err
returns-in-Err-hold_meta-clause-err g c =
    let k : Kept = record { row = c.device.inside.row; uses = c.device.inside.units; moves = c.device.inside.moves } in
    let known = c.in-Ok.ensures.placed.known in
    let there : c.in-Ok.at.dev < length c.self.inside.devs.items = let e = c.self.invariant.devices in omega (arith, known, e) in
    let here = kept_read c.self.inside.devs.items c.in-Ok.at.dev c.index_mut-device.result.now there c.index_mut-device.ensures.value in
    space_itself c.self.inside.whole c.self.inside.devs.items c.in-Ok.at.dev k c.hold_meta.new.self (c.device.view_is ∙ here) c.in-Err-hold_meta.ensures.err ∙ c.self.view_is
