use Rattle.std.proofs.Common.{◌≡◌, ◌+◌, ◌≤◌, ◌<◌, arith, length, List, subst}
use Rattle.std.proofs.lemmas.Bool.Decides.{nat_tests}
use Rattle.zr_base.specs.Extents.{unit_count}
use Rattle.zr_space.specs.Views.{Kept, kept_of, IsSameKept}
use Rattle.zr_space.proofs.Views.{kept_read}
use Rattle.zr_space.proofs.Keeps.{on_each}
use Rattle.zr_space.proofs.Sames.{same_set}
use Rattle.zr_space.proofs.each.make_way.Goals as goal

pub loop-dev-preserved : goal.loop-dev-preserved
loop-dev-preserved c =
    let i = c.loop-dev.invariant in
    let devs : List Kept = c.loop-dev.devs.items in
    let n = c.loop-dev.dev in
    let there : n < length devs = let e = i.end in let l = i.same.count in let t = c.loop-dev-test.true in omega (arith, e, l, t) in
    let is : c.index_mut-device.result.now ≡ kept_of devs n = kept_read devs n c.index_mut-device.result.now there c.index_mut-device.ensures.value in
    let x : Kept = c.make_way.new.self in
    record {
      same = same_set c.args.devs.now.items devs n x there (subst (λ (k : Kept). IsSameKept k x) is c.make_way.ensures.same) i.same;
      end = i.end;
      copies = on_each devs n x (λ d k. d < n + 1 → unit_count k.uses.copies ≤ k.uses.spare) there (λ lt. c.in_ok-make_way.ensures.copies) (λ d ne lt. i.copies d (grind (arith, nat_tests, ne, lt)));
    }

pub returns-in_err-make_way-clause-same : goal.returns-in_err-make_way-clause-same
returns-in_err-make_way-clause-same c =
    let i = c.loop-dev.invariant in
    let devs : List Kept = c.loop-dev.devs.items in
    let n = c.loop-dev.dev in
    let there : n < length devs = let e = i.end in let l = i.same.count in let t = c.loop-dev-test.true in omega (arith, e, l, t) in
    let is : c.index_mut-device.result.now ≡ kept_of devs n = kept_read devs n c.index_mut-device.result.now there c.index_mut-device.ensures.value in
    let x : Kept = c.make_way.new.self in
    same_set c.args.devs.now.items devs n x there (subst (λ (k : Kept). IsSameKept k x) is c.make_way.ensures.same) i.same
