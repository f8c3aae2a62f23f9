use Rattle.std.proofs.Common.{◌≡◌, ◌∙◌, ◌<◌, [], ◌∷◌, length, None, refl, sym, ap, subst, arith}
use Rattle.std.proofs.lemmas.List.{get_or_default}
use Rattle.std.proofs.Math.ListN.{length-set}
use Rattle.std.specs.Prelude.{slice_set}
use Rattle.zr_commit.specs.Logs.{streams_reach}
use Rattle.zr_store.specs.Store.{AreStored, Now, Stored, Swaps}
use Rattle.zr_vdev.specs.Stores.{HoldsBlocks}
use Rattle.zr_vdev.specs.declared.kind.Kind.TheVariants.{Meta}
use Rattle.zr_sync.specs.Empty.{no_stream, no_streams}
use Rattle.zr_sync.specs.Streams.{streams_at as streams_of}
use Rattle.zr_sync.specs.declared.open.DeviceStreams.{DeviceStreams}
use Rattle.zr_sync.proofs.Pools.{step_open, streams_at, streams_set}
use Rattle.zr_removal.specs.Trees.{is_of_sets}
use Rattle.zr_removal.proofs.GoneTrees.{sets_given}
use Rattle.zr_removal.proofs.GivenTrees.{places_stored}
use Rattle.zr_removal.proofs.streams.give_sets.Goals as goal

pub returns-clause-pool : goal.returns-clause-pool
returns-clause-pool g c =
    let pool = c.args.pool.now in
    let o = c.requires.pool in
    let count = o.count in
    let was = c.index_mut-device.result.now in
    let are = streams_at pool.streams.items c.args.dev was (omega (arith, count, c.requires.dev)) c.index_mut-device.ensures.value o.streams in
    let now : DeviceStreams = record was { held = no_stream; kept = no_stream; late1 = no_stream; late2 = no_stream } in
    step_open pool _ o c.give_streams.ensures.continues refl (length-set pool.streams.items c.args.dev now)
    (streams_set pool.streams.items c.args.dev now (record { held = (refl, refl); kept = (refl, refl); entries = are.entries; counts = are.counts; fresh = are.fresh; late1 = (refl, refl); late2 = (refl, refl) }) o.streams) o.cond

pub returns-clause-trees : goal.returns-clause-trees
returns-clause-trees g c = λ others none h.
    let x = c.args.pool.now in
    let dev = c.args.dev in
    let last = c.give_streams.new in
    let count = c.requires.pool.count in
    let tells = g.S.Shelf.tells c.args.shelf.now in
    let seen = (g.S.Shelf.world c.args.shelf.now).now.seen in
    let t = c.index-old.result.now in
    let is : t ≡ streams_of x dev = c.index-old.ensures ∙ get_or_default x.streams.items dev t no_streams (omega (arith, count, c.requires.dev)) in
    let was = c.index_mut-device.result.now in
    let now : was ≡ streams_of x dev = c.index_mut-device.ensures.value ∙ get_or_default x.streams.items dev was no_streams (omega (arith, count, c.requires.dev)) in
    let o = returns-clause-pool g c in
    let kept = c.give_streams.ensures.continues.space in
    let listed : dev < length x.streams.items = omega (arith, count, c.requires.dev) in
    let all = places_stored is_of_sets others tells seen x dev c.requires.dev h in
    let gave = subst (λ (d : DeviceStreams). Now (HoldsBlocks Meta x.table.slots (g.S.Shelf.tells last.shelf) (g.S.Shelf.world last.shelf).now.seen last.space None last.cache) (λ n. Swaps h.stored n (streams_reach h.stored (d.held ∷ d.kept ∷ d.late1 ∷ d.late2 ∷ [])) [])) is
    (c.in_ok-give_streams.ensures.gives h.stored h.held (subst (λ (d : DeviceStreams). AreStored (streams_reach h.stored (d.held ∷ d.kept ∷ d.late1 ∷ d.late2 ∷ [])) h.stored) (sym is) all)) in
    sets_given others tells (g.S.Shelf.tells last.shelf) seen (g.S.Shelf.world last.shelf).now.seen x _ (record { version = refl; turned = refl; lawful_old = c.requires.pool.lawful; lawful = o.lawful }) kept refl refl dev c.requires.dev listed h
    (ap (λ (d : DeviceStreams). slice_set x.streams.items dev (record d { held = no_stream; kept = no_stream; late1 = no_stream; late2 = no_stream })) now) gave none
