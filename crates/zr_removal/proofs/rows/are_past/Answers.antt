use Rattle.std.proofs.Common.{sym, subst, arith}
use Rattle.std.proofs.lemmas.List.Elements.{All-cons, All-tail}
use Rattle.zr_removal.specs.Rows.{ArePast, IsPast}
use Rattle.zr_removal.proofs.rows.are_past.Goals as goal

pub loop-first-preserved : goal.loop-first-preserved
loop-first-preserved c =
    let txg = c.args.txg in
    let is = c.in-Some.ensures.cases.0 in
    let added = c.if-first-txg.false in
    let gone = c.if-first-txg-2.false in
    let past : IsPast txg c.in-Some.first.now = record { added = omega (arith, added); gone = omega (arith, gone) } in
    record {
      all = λ tail. c.loop-first.invariant.all (subst (ArePast txg) (sym is) (All-cons (IsPast txg) c.in-Some.first.now c.in-Some.tail.now past tail));
      part = λ rows. All-tail (IsPast txg) c.in-Some.first.now c.in-Some.tail.now (subst (ArePast txg) is (c.loop-first.invariant.part rows));
    }
