use Rattle.std.proofs.Common.{◌≡◌, ◌∙◌, ◌++◌, ℕ, List, Option, length, take, sym, ap, subst, arith}
use Rattle.std.specs.Prelude.{slice_index_or}
use Rattle.std.proofs.lemmas.List.{length-take, take_all}
use Rattle.zr_label.specs.Blocks.{no_row}
use Rattle.zr_base.specs.declared.space.CkptPart.{CkptPart}
use Rattle.zr_base.specs.declared.space.DevRow.{DevRow}
use Rattle.zr_meta.specs.declared.CondAt.{CondAt}
use Rattle.zr_meta.specs.declared.Stream.{Stream}
use Rattle.zr_meta.specs.Heads.{IsSaved}
use Rattle.zr_sync.specs.Heads.{cond_at, cond_streams, streams_in, streams_of}
use Rattle.zr_sync.specs.declared.open.DeviceStreams.{DeviceStreams}
use Rattle.zr_sync.proofs.Rows.{all_streams, streams_more}
use Rattle.zr_sync.proofs.heads.head_of.Goals as goal

pub loop-dev-preserved : goal.loop-dev-preserved
loop-dev-preserved c =
    let pool = c.args.pool.now in
    let o = c.requires.1 in
    let i = c.loop-dev.dev in
    let device = c.index.result.now in
    let size = o.table.size in
    let few = o.few in
    let count = o.count in
    let lt = c.loop-dev-test.true in
    record {
      lawful = c.in_ok-add_streams.ensures.lawful;
      streams =
          c.in_ok-add_streams.ensures.added
          ∙ (ap (λ (xs : List Stream). xs ++ streams_in (slice_index_or pool.table.rows i no_row).state device) c.loop-dev.invariant.streams
          ∙ (ap (λ (d : DeviceStreams). streams_of (take i pool.table.rows) (take i pool.streams.items) ++ streams_in (slice_index_or pool.table.rows i no_row).state d) c.index.ensures
          ∙ sym (streams_more pool.table.rows pool.streams.items i no_row device (omega (arith, size, few, lt)) (omega (arith, count, lt)))));
    }

pub returns-clause-lawful : goal.returns-clause-lawful
returns-clause-lawful c =
    let pool = c.args.pool.now in
    let o = c.requires.1 in
    let i = c.loop-dev.dev in
    let size = o.table.size in
    let few = o.few in
    let count = o.count in
    let past = c.loop-dev-test.false in
    let end = c.loop-dev.auto.dev-end in
    let is : i ≡ pool.table.count = omega (arith, past, end) in
    let rows = ap (λ (n : ℕ). take n pool.table.rows) is in
    let devices : take i pool.streams.items ≡ pool.streams.items = take_all i pool.streams.items (omega (arith, count, is)) in
    let added : c.add_condensing.new.streams ≡ streams_of (take pool.table.count pool.table.rows) pool.streams.items ++ cond_streams c.cond_at-cond.result pool.cond =
    c.in_ok-add_condensing.ensures.added ∙ ap (λ (xs : List Stream). xs ++ cond_streams c.cond_at-cond.result pool.cond) (c.loop-dev.invariant.streams ∙ (ap (λ (rs : List DevRow). streams_of rs (take i pool.streams.items)) rows ∙ ap (λ (ds : List DeviceStreams). streams_of (take pool.table.count pool.table.rows) ds) devices)) in
    let long : length (take pool.table.count pool.table.rows) ≡ length pool.streams.items = omega (arith, length-take pool.table.count pool.table.rows, size, few, count) in
    record {
      oldest = omega arith;
      newest = omega arith;
      low = o.dir.low;
      dir = o.dir.unit;
      saved = subst (λ (k : CkptPart). IsSaved k c.in_ok-saved.saved) (sym c.ckpt.ensures) (subst (λ (b : Option (List ℕ)). IsSaved pool.space.parts.ckpt b) (sym c.in_ok-saved.ensures) o.saved);
      cond = c.cond_at-cond.ensures.fits;
      streams = c.in_ok-add_condensing.ensures.lawful;
      count = ap (λ (xs : List Stream). length xs) added ∙ all_streams (take pool.table.count pool.table.rows) pool.streams.items c.cond_at-cond.result pool.cond long;
    }

pub returns-clause-head : goal.returns-clause-head
returns-clause-head c =
    let pool = c.args.pool.now in
    let o = c.requires.1 in
    let i = c.loop-dev.dev in
    let count = o.count in
    let past = c.loop-dev-test.false in
    let end = c.loop-dev.auto.dev-end in
    let is : i ≡ pool.table.count = omega (arith, past, end) in
    let rows = ap (λ (n : ℕ). take n pool.table.rows) is in
    let devices : take i pool.streams.items ≡ pool.streams.items = take_all i pool.streams.items (omega (arith, count, is)) in
    let at : c.cond_at-cond.result ≡ cond_at pool.space.parts.cond = c.cond_at-cond.ensures.at in
    let added : c.add_condensing.new.streams ≡ streams_of (take pool.table.count pool.table.rows) pool.streams.items ++ cond_streams (cond_at pool.space.parts.cond) pool.cond =
    c.in_ok-add_condensing.ensures.added
    ∙ (ap (λ (xs : List Stream). xs ++ cond_streams c.cond_at-cond.result pool.cond) (c.loop-dev.invariant.streams ∙ (ap (λ (rs : List DevRow). streams_of rs (take i pool.streams.items)) rows ∙ ap (λ (ds : List DeviceStreams). streams_of (take pool.table.count pool.table.rows) ds) devices))
    ∙ ap (λ (a : Option CondAt). streams_of (take pool.table.count pool.table.rows) pool.streams.items ++ cond_streams a pool.cond) at) in
    let saved = c.in_ok-saved.ensures in
    let ckpt = c.ckpt.ensures in
    cc
