use Rattle.std.proofs.Common.{arith}
use Rattle.std.proofs.lemmas.Bool.Decides.{nat_tests}
use Rattle.zr_base.specs.Extents.{HasAll}
use Rattle.zr_units.proofs.Discards.{discards_more, keeps_on, apart_on}
use Rattle.zr_units.proofs.units.Units.discard.Goals as goal

pub loop-at-preserved : goal.loop-at-preserved
loop-at-preserved c =
    let i = c.loop-at.invariant in
    let at = c.loop-at.at in
    let n = c.in_ok-at.field-0 in
    let mid = c.loop-at.self in
    let new = c.discard_front.new.self in
    let d = c.in_ok-at.ensures.ok in
    let some = c.in_ok-at.ensures.some in
    let most = c.in_ok-at.ensures.most in
    let front : HasAll mid.kept (record { start = at; len = n }) = λ u is. i.kept u (grind (arith, nat_tests, is, most)) in
    record {
      from = omega (arith, i.from);
      to = omega (arith, i.to, most);
      done = discards_more c.args.self.now mid new c.args.e.start at n some i.from i.done d;
      kept = λ u is. grind (arith, nat_tests, i.kept u, d.kept.members u, is, some, most);
      keeping = keeps_on mid new (record { start = at; len = n }) front i.keeping d;
      apart = apart_on mid new (record { start = at; len = n }) front i.keeping d i.apart;
    }
