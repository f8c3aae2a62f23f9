use Rattle.std.proofs.Common.{rules, ◌≡◌, ◌+◌, ◌++◌, List, length, take, sym, ◌∙◌, ap, subst, arith}
use Rattle.std.specs.Prelude.{All}
use Rattle.std.proofs.lemmas.List.{take-append-drop}
use Rattle.zr_meta.specs.declared.Stream.{Stream}
use Rattle.zr_sync.specs.Pools.{AreStreams}
use Rattle.zr_sync.specs.declared.open.DeviceStreams.{DeviceStreams}
use Rattle.zr_open.specs.Streams.{HasNoLate, untold_of}
use Rattle.zr_sync.specs.Heads.{told_of}
use Rattle.zr_open.proofs.Streams.{all_more, step_each, step_total, step_untold}
use Rattle.zr_open.proofs.pool.streams_of.Goals as goal

pub loop-row-preserved : goal.loop-row-preserved
loop-row-preserved c =
    let rows = c.args.rows.now in
    let form = c.args.head.now.form in
    let i = c.loop-row.row-index in
    let inv = c.loop-row.invariant in
    let rest = c.loop-row.rest.now in
    let n = c.stream_count.result in
    let d = c.device_streams.result in
    let own = c.split_at.result.0.now in
    let others = c.split_at.result.1.now in
    let streams = c.args.head.now.streams in
    let items = c.in_ok-push.ensures.items in
    let total = step_total rows i (length rest) c.args.head.now c.loop-row-test.true inv.total in
    let sc = c.stream_count.ensures in
    let back = c.split_at.ensures.back_len in
    let split : own ++ others ≡ rest = ap (λ (xs : List Stream). xs ++ others) c.split_at.ensures.front ∙ (ap (λ (xs : List Stream). take n rest ++ xs) c.split_at.ensures.back ∙ take-append-drop n rest) in
    record {
      count = search rules;
      lawful = subst (All AreStreams) (sym items) (all_more AreStreams c.loop-row.devices.items d inv.lawful c.device_streams.ensures.lawful);
      late = λ first. subst (All HasNoLate) (sym items) (all_more HasNoLate c.loop-row.devices.items d (inv.late first) (c.device_streams.ensures.late first));
      untold = ap (λ (ds : List DeviceStreams). untold_of (take (i + 1) rows) ds) items ∙ step_untold rows i c.loop-row.devices.items d c.loop-row-test.true inv.count c.device_streams.ensures.untold inv.untold;
      left = search rules;
      total = omega (arith, total, sc, back);
      each = subst (λ (ds : List DeviceStreams). told_of form (take (i + 1) rows) ds ++ others ≡ streams) (sym items)
          (step_each form rows i c.loop-row.devices.items d own others rest streams c.loop-row-test.true inv.count c.device_streams.ensures.are split inv.each);
    }
