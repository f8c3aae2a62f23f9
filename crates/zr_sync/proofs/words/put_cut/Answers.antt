use Rattle.std.proofs.Common.{◌+◌, List, refl, sym, subst, arith}
use Rattle.std.specs.List.{AllByRecursion}
use Rattle.std.proofs.lemmas.Bool.Decides.{nat_tests}
use Rattle.zr_base.specs.declared.space.Change.{Change}
use Rattle.zr_rules.specs.Logs.{IsChange}
use Rattle.zr_sync.proofs.Runs.{all_push, cut_lawful}
use Rattle.zr_sync.proofs.Growing.{CutsTo, cuts_none, cuts_more}
use Rattle.zr_sync.proofs.words.put_cut.Goals as goal

pub loop-start-init : goal.loop-start-init
loop-start-init c = record {
  lawful = c.requires.lawful;
  near = c.requires.run.within;
  whole = refl;
  from = omega arith;
  upto = omega arith;
  cut = cuts_none c.args.cut.now.items c.args.change.now;
}

pub loop-start-preserved : goal.loop-start-preserved
loop-start-preserved c =
    let h = c.loop-start.invariant in
    let change = c.args.change.now in
    let start = c.loop-start.start in
    let len = c.min-len.result in
    let from = h.from in
    let near = c.requires.run.within in
    let more = c.loop-start-test.true in
    record {
      lawful = subst (AllByRecursion (IsChange c.args.version)) (sym c.in_ok-push.ensures.items)
          (all_push (IsChange c.args.version) c.loop-start.cut.items _ h.lawful
          (cut_lawful c.args.version start len change.free
          (grind (arith, nat_tests, c.min-len.ensures, c.longest-most.ensures.some, more))
          (grind (arith, nat_tests, c.min-len.ensures, c.longest-most.ensures.value))
          (omega (arith, near, more))));
      near = near;
      whole = refl;
      from = omega (arith, from);
      upto = grind (arith, nat_tests, c.min-len.ensures, more);
      cut = subst (λ (xs : List Change). CutsTo c.args.cut.now.items xs change (start + len)) (sym c.in_ok-push.ensures.items) (cuts_more c.args.cut.now.items c.loop-start.cut.items change start len from h.cut);
    }
