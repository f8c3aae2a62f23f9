use Rattle.std.proofs.Common.{rules, ◌-◌, arith}
use Rattle.zr_image.specs.Current.{IsGroup}
use Rattle.zr_slots.proofs.Window.{not_some, reset_past, some_there, window_more, window_none, window_reset}
use Rattle.zr_slots.proofs.kept.oldest_kept.Goals.{then-behind-since-via-then-behind-since, then-behind-since-via-else-behind-since+then-is_none}
use Rattle.zr_slots.proofs.kept.oldest_kept.Goals as goal

pub returns-then-behind-since : goal.returns-then-behind-since
returns-then-behind-since c =
    let seen = c.args.seen.now in
    let current = c.args.current.now in
    let behind = c.loop-behind.behind in
    let past = reset_past current c.requires.lawful.head.reset in
    let reset = c.reset_of.ensures in
    elim c.then-behind-since.branch [
      | then-behind-since-via-then-behind-since w ↦ (let more = w.if-behind-since.true in window_reset seen current behind c.loop-behind.oldest c.loop-behind.invariant (omega (arith, more, reset, past)) past)
      | then-behind-since-via-else-behind-since+then-is_none w ↦
          let few = w.if-behind-since.false in
          let none = w.if-is_none.true in
          window_none seen current behind c.loop-behind.oldest (current.txg - behind) c.requires.current c.loop-behind.invariant (omega (arith, few, reset, past))
          (not_some _ w.root_of_group.result (search (rules, none)) w.root_of_group.ensures.none)
    ]

pub loop-behind-preserved : goal.loop-behind-preserved
loop-behind-preserved c =
    let seen = c.args.seen.now in
    let current = c.args.current.now in
    let behind = c.loop-behind.behind in
    let past = reset_past current c.requires.lawful.head.reset in
    let reset = c.reset_of.ensures in
    let few = c.if-behind-since.false in
    let less = c.loop-behind-test.true in
    let there = c.if-is_none.false in
    let found = some_there (IsGroup seen current (current.txg - behind)) c.root_of_group.result (search (rules, there)) c.root_of_group.ensures.some in
    window_more seen current behind c.loop-behind.oldest (current.txg - behind) found.0 c.loop-behind.invariant (omega (arith, few, reset, past)) (omega (arith, less)) (omega (arith, few, reset, past)) found.1
