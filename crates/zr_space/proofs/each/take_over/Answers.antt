use Rattle.std.proofs.Common.{◌≡◌, ◌∙◌, ◌<◌, arith, length, List, subst}
use Rattle.std.proofs.lemmas.List.{length-set}
use Rattle.zr_space.specs.Views.{Kept, kept_of}
use Rattle.zr_space.specs.Leavings.{without_copies}
use Rattle.zr_space.proofs.Views.{kept_read}
use Rattle.zr_space.proofs.Turning.{TurnedBelow}
use Rattle.zr_space.proofs.Finishing.{over_all, over_next}
use Rattle.zr_space.proofs.each.take_over.Goals as goal

pub loop-dev-preserved : goal.loop-dev-preserved
loop-dev-preserved c =
    let k : Kept = record { row = c.device.inside.row; uses = c.device.inside.units; moves = c.device.inside.moves } in
    let i = c.loop-dev.invariant in
    let there : c.loop-dev.dev < length c.loop-dev.devs.items = let e = i.end in let l = i.devices in let t = c.loop-dev-test.true in omega (arith, e, l, t) in
    let is : k ≡ kept_of c.loop-dev.devs.items c.loop-dev.dev = c.device.view_is ∙ kept_read c.loop-dev.devs.items c.loop-dev.dev c.index_mut-device.result.now there c.index_mut-device.ensures.value in
    record {
      devices = length-set c.loop-dev.devs.items c.loop-dev.dev _ ∙ i.devices;
      end = i.end;
      so_far = over_next c.args.devs.now.items c.loop-dev.devs.items c.loop-dev.dev k c.take_over.new.self there is c.take_over.ensures i.so_far;
    }

pub returns : goal.returns
returns c =
    let i = c.loop-dev.invariant in
    let devs : List Kept = c.loop-dev.devs.items in
    let n : c.loop-dev.dev ≡ length devs = let e = i.end in let l = i.devices in let t = c.loop-dev-test.false in let a = c.loop-dev.auto.dev-end in omega (arith, e, l, t, a) in
    over_all c.args.devs.now.items devs i.devices (subst (λ k. TurnedBelow without_copies c.args.devs.now.items devs k) n i.so_far)
