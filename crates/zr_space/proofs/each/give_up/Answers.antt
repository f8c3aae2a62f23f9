use Rattle.std.proofs.Common.{◌≡◌, ◌∙◌, ◌<◌, arith, length, List, sym, subst}
use Rattle.zr_metaslab.specs.Devices.{free_at, count_at}
use Rattle.zr_units.specs.Uses.{IsAccount}
use Rattle.zr_space.specs.Views.{Kept, kept_of}
use Rattle.zr_space.proofs.Views.{kept_read}
use Rattle.zr_space.proofs.Accounts.{account_as}
use Rattle.zr_space.proofs.GivingUp.{IsGivingUp, gives_more, gives_all}
use Rattle.zr_space.proofs.each.give_up.Goals as goal

pub give_up_copies-requires-clause-account : goal.give_up_copies-requires-clause-account
give_up_copies-requires-clause-account c =
    let k : Kept = record { row = c.device.inside.row; uses = c.device.inside.units; moves = c.device.inside.moves } in
    let i = c.loop-dev.invariant in
    let n = c.loop-dev.dev in
    let there : n < length c.loop-dev.devs.items = let e = i.end in let l = i.gives.count in let t = c.loop-dev-test.true in omega (arith, e, l, t) in
    let was = i.gives.next n (omega arith) in
    let is : k ≡ kept_of c.args.devs.now.items n = c.device.view_is ∙ (kept_read c.loop-dev.devs.items n c.index_mut-device.result.now there c.index_mut-device.ensures.value ∙ was.kept) in
    subst (λ (z : Kept). IsAccount (free_at c.loop-dev.slabs n) (count_at c.loop-dev.slabs n) z.uses) (sym is)
    (account_as (free_at c.args.slabs.now n) (free_at c.loop-dev.slabs n) (count_at c.args.slabs.now n) (count_at c.loop-dev.slabs n) (kept_of c.args.devs.now.items n).uses was.free was.count (c.requires.accounts n))

pub loop-dev-preserved : goal.loop-dev-preserved
loop-dev-preserved c =
    let k : Kept = record { row = c.device.inside.row; uses = c.device.inside.units; moves = c.device.inside.moves } in
    let i = c.loop-dev.invariant in
    let there : c.loop-dev.dev < length c.loop-dev.devs.items = let e = i.end in let l = i.gives.count in let t = c.loop-dev-test.true in omega (arith, e, l, t) in
    let is : k ≡ kept_of c.loop-dev.devs.items c.loop-dev.dev = c.device.view_is ∙ kept_read c.loop-dev.devs.items c.loop-dev.dev c.index_mut-device.result.now there c.index_mut-device.ensures.value in
    record {
      end = i.end;
      gives = gives_more c.args.slabs.now c.loop-dev.slabs c.give_up_copies.new.slabs c.args.devs.now.items c.loop-dev.devs.items c.loop-dev.dev k c.give_up_copies.new.self there is c.give_up_copies.ensures.gives c.give_up_copies.ensures.given i.gives;
    }

pub returns : goal.returns
returns c =
    let i = c.loop-dev.invariant in
    let devs : List Kept = c.loop-dev.devs.items in
    let n : c.loop-dev.dev ≡ length devs = let e = i.end in let l = i.gives.count in let t = c.loop-dev-test.false in let a = c.loop-dev.auto.dev-end in omega (arith, e, l, t, a) in
    gives_all c.args.slabs.now c.loop-dev.slabs c.args.devs.now.items devs (subst (λ k. IsGivingUp c.args.slabs.now c.loop-dev.slabs c.args.devs.now.items devs k) n i.gives)
