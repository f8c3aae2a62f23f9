use Rattle.std.proofs.Common.{◌≡◌, ◌+◌, ◌<◌, ◌∙◌, true, false, length, refl, sym, ap, subst, arith}
use Rattle.std.specs.List.{sum_by, range_with_len}
use Rattle.zr_rules.specs.Places.{is_on}
use Rattle.zr_rules.specs.Space.{Space}
use Rattle.zr_rules.specs.Columns.{free_units}
use Rattle.zr_metaslab.specs.Devices.{count_at}
use Rattle.zr_space.specs.Views.{Kept, kept_of}
use Rattle.zr_space.proofs.Views.{kept_read}
use Rattle.zr_space.proofs.Totalling.{free_on, range_more, free_units_are, free_at_most, free_within}
use Rattle.zr_space.proofs.space.Space.free_units.Goals as goal

pub loop-dev-preserved-then-not-is_on : goal.loop-dev-preserved-then-not-is_on
loop-dev-preserved-then-not-is_on c =
    let i = c.loop-dev.invariant in
    let devs = c.self.inside.devs.items in
    let there : c.loop-dev.dev < length devs = let t = c.loop-dev-test.true in let e = i.end in omega (arith, t, e) in
    let is : c.index-device.result.now ≡ kept_of devs c.loop-dev.dev = kept_read devs c.loop-dev.dev c.index-device.result.now there c.index-device.ensures in
    let off : is_on (kept_of devs c.loop-dev.dev).row.state ≡ false = ap (λ (k : Kept). is_on k.row.state) (sym is) ∙ (sym c.is_on.ensures ∙ c.if-not-is_on.true) in
    let more = range_more (free_on c.self.inside.slabs devs) 0 c.loop-dev.dev in
    let z : 0 + c.loop-dev.dev ≡ c.loop-dev.dev = omega arith in
    let here : free_on c.self.inside.slabs devs (0 + c.loop-dev.dev) ≡ 0 = ap (free_on c.self.inside.slabs devs) z ∙ rw off refl in
    record {
      so_far = let s = i.so_far in omega (arith, s, more, here);
      most = let m = i.most in omega (arith, m);
      end = i.end;
    }

pub loop-dev-preserved : goal.loop-dev-preserved
loop-dev-preserved c =
    let i = c.loop-dev.invariant in
    let devs = c.self.inside.devs.items in
    let there : c.loop-dev.dev < length devs = let t = c.loop-dev-test.true in let e = i.end in omega (arith, t, e) in
    let is : c.index-device.result.now ≡ kept_of devs c.loop-dev.dev = kept_read devs c.loop-dev.dev c.index-device.result.now there c.index-device.ensures in
    let serves : is_on (kept_of devs c.loop-dev.dev).row.state ≡ true = ap (λ (k : Kept). is_on k.row.state) (sym is) ∙ (sym c.is_on.ensures ∙ c.if-not-is_on.false) in
    let f = c.free_units-free.ensures in
    let more = range_more (free_on c.self.inside.slabs devs) 0 c.loop-dev.dev in
    let z : 0 + c.loop-dev.dev ≡ c.loop-dev.dev = omega arith in
    let here : free_on c.self.inside.slabs devs (0 + c.loop-dev.dev) ≡ count_at c.self.inside.slabs c.loop-dev.dev = ap (free_on c.self.inside.slabs devs) z ∙ rw serves refl in
    let most = free_at_most c.self.inside.whole c.self.inside.slabs devs c.self.invariant c.loop-dev.dev in
    let at = rw serves at most in
    record {
      so_far = let s = i.so_far in omega (arith, s, f, more, here);
      most = let m = i.most in omega (arith, m, f, at);
      end = i.end;
    }

pub returns-clause-free : goal.returns-clause-free
returns-clause-free c =
    let i = c.loop-dev.invariant in
    let all : c.loop-dev.dev ≡ length c.self.inside.devs.items = let t = c.loop-dev-test.false in let a = c.loop-dev.auto.dev-end in let e = i.end in omega (arith, t, a, e) in
    subst (λ (s : Space). c.loop-dev.free ≡ free_units s) c.self.view_is
    (i.so_far ∙ (ap (λ n. sum_by (free_on c.self.inside.slabs c.self.inside.devs.items) (range_with_len 0 n)) all ∙ free_units_are c.self.inside.whole c.self.inside.slabs c.self.inside.devs.items c.self.invariant))

pub returns-clause-bound : goal.returns-clause-bound
returns-clause-bound c = free_within c.args.self.now
