use Rattle.std.proofs.Common.{◌≡◌, ◌∙◌, [], None, refl, sym, ap, subst, arith}
use Rattle.std.proofs.lemmas.List.{get_or_default}
use Rattle.std.proofs.Math.ListN.{length-set}
use Rattle.std.specs.Prelude.{slice_set}
use Rattle.zr_commit.specs.Logs.{streams_reach}
use Rattle.zr_store.specs.Store.{AreStored, Now, Swaps}
use Rattle.zr_vdev.specs.Stores.{HoldsBlocks}
use Rattle.zr_vdev.specs.declared.kind.Kind.TheVariants.{Meta}
use Rattle.zr_sync.specs.Empty.{no_stream, no_streams}
use Rattle.zr_sync.specs.Streams.{late_streams, streams_at}
use Rattle.zr_sync.specs.Trees.{giving}
use Rattle.zr_sync.specs.declared.open.DeviceStreams.{DeviceStreams}
use Rattle.zr_sync.proofs.LateTrees.{lates_given, lates_stored}
use Rattle.zr_sync.proofs.Pools.{step_open, streams_at as streams_lawful, streams_set}
use Rattle.zr_sync.proofs.late.give_late.Goals as goal

pub returns-clause-pool : goal.returns-clause-pool
returns-clause-pool g c =
    let pool = c.args.pool.now in
    let o = c.requires.pool in
    let count = o.count in
    let was = c.index_mut-device.result.now in
    let are = streams_lawful pool.streams.items c.args.dev was (omega (arith, count, c.requires.dev)) c.index_mut-device.ensures.value o.streams in
    let now : DeviceStreams = record was { late1 = no_stream; late2 = no_stream } in
    step_open pool _ o c.give_streams.ensures.continues refl (length-set pool.streams.items c.args.dev now)
    (streams_set pool.streams.items c.args.dev now (record { held = are.held; kept = are.kept; entries = are.entries; counts = are.counts; fresh = are.fresh; late1 = (refl, refl); late2 = (refl, refl) }) o.streams) o.cond

pub returns-clause-gives : goal.returns-clause-gives
returns-clause-gives g c = λ s held stored.
    let pool = c.args.pool.now in
    let last = c.give_streams.new in
    let count = c.requires.pool.count in
    let t = c.index-old.result.now in
    let is : t ≡ streams_at pool c.args.dev = c.index-old.ensures ∙ get_or_default pool.streams.items c.args.dev t no_streams (omega (arith, count, c.requires.dev)) in
    subst (λ (x : DeviceStreams). Now (HoldsBlocks Meta pool.table.slots (g.S.Shelf.tells last.shelf) (g.S.Shelf.world last.shelf).now.seen last.space None last.cache) (λ n. Swaps s n (streams_reach s (late_streams x)) [])) is
    (c.in_ok-give_streams.ensures.gives s held (subst (λ (x : DeviceStreams). AreStored (streams_reach s (late_streams x)) s) (sym is) stored))

pub returns-clause-trees : goal.returns-clause-trees
returns-clause-trees g c = λ first cond others unwritten h.
    let x = c.args.pool.now in
    let dev = c.args.dev in
    let count = c.requires.pool.count in
    let tells = g.S.Shelf.tells c.args.shelf.now in
    let seen = (g.S.Shelf.world c.args.shelf.now).now.seen in
    let was = c.index_mut-device.result.now in
    let is : was ≡ streams_at x dev = c.index_mut-device.ensures.value ∙ get_or_default x.streams.items dev was no_streams (omega (arith, count, c.requires.dev)) in
    let gave = returns-clause-gives g c h.stored h.held (lates_stored (giving first dev) cond others tells seen x h dev c.requires.dev) in
    let o = returns-clause-pool g c in
    lates_given first unwritten cond others tells _ seen _ x _ (record { version = refl; turned = refl; lawful_old = c.requires.pool.lawful; lawful = o.lawful }) c.give_streams.ensures.continues.space refl refl dev c.requires.dev (omega (arith, count, c.requires.dev)) h
    (ap (λ (t : DeviceStreams). slice_set x.streams.items dev (record t { late1 = no_stream; late2 = no_stream })) is) gave
