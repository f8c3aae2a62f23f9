use Rattle.std.proofs.Common.{inl, inr, refl, arith}
use Rattle.zr_slots.proofs.Window.{kept_between, no_group, not_kept, same_pool, shown_lawful}
use Rattle.zr_slots.proofs.kept.kept_root.Goals.{then-txg-oldest-via-then-txg-oldest, then-txg-oldest-via-else-txg-oldest+then-current-txg}
use Rattle.zr_slots.proofs.kept.kept_root.Goals as goal

pub returns-then-txg-oldest-clause-keeps : goal.returns-then-txg-oldest-clause-keeps
returns-then-txg-oldest-clause-keeps c =
    let oldest = c.oldest_kept-oldest.result in
    let is = c.oldest_kept-oldest.ensures in (
      oldest,
      elim c.then-txg-oldest.branch [
        | then-txg-oldest-via-then-txg-oldest w ↦ not_kept c.args.seen.now c.args.current.now oldest c.args.txg is (inl w.if-txg-oldest.true)
        | then-txg-oldest-via-else-txg-oldest+then-current-txg w ↦ not_kept c.args.seen.now c.args.current.now oldest c.args.txg is (inr w.if-current-txg.true)
      ],
      is,
      refl,
    )

pub unreachable-requires : goal.unreachable-requires
unreachable-requires c =
    let seen = c.args.seen.now in
    let current = c.args.current.now in
    let kept = kept_between seen current c.oldest_kept-oldest.result c.args.txg c.oldest_kept-oldest.ensures c.if-txg-oldest.false c.if-current-txg.false in
    let own = kept.each c.args.txg (omega arith) c.if-current-txg.false in
    no_group seen current c.args.txg c.in-None.ensures.none own.0 own.1

pub returns-clause-root : goal.returns-clause-root
returns-clause-root c = shown_lawful c.args.seen.now c.requires.lawful c.in-Some.u c.in-Some.ensures.some.shown

pub returns-clause-pool : goal.returns-clause-pool
returns-clause-pool c = same_pool c.args.seen.now c.args.current.now c.in-Some.u c.requires.lawful c.requires.current c.in-Some.ensures.some.shown
