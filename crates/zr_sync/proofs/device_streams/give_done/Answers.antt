use Rattle.std.proofs.Common.{◌≡◌, List, [], ◌∷◌, None, Bool, true, false, refl, sym, subst, if◌then◌else◌}
use Rattle.zr_commit.specs.Logs.{streams_reach}
use Rattle.zr_meta.specs.declared.Stream.{Stream}
use Rattle.zr_store.specs.Store.{AreStored, Now, Swaps}
use Rattle.zr_vdev.specs.Stores.{HoldsBlocks}
use Rattle.zr_vdev.specs.declared.kind.Kind.TheVariants.{Meta}
use Rattle.zr_sync.specs.Mappings.{done_streams}
use Rattle.zr_sync.specs.Trees.{first_stage, one_stage}
use Rattle.zr_sync.proofs.CondTrees.{both_stored, cond_given}
use Rattle.zr_sync.proofs.device_streams.give_done.Goals as goal

when_true : {A : Type 0} (b : Bool) (x y : A) → b ≡ true → (if b then x else y) ≡ x
when_true true x y is = refl
when_true false x y is = cc

pub returns-clause-gives : goal.returns-clause-gives
returns-clause-gives g c = λ s held stored.
    let pool = c.args.pool.now in
    let last = c.give_streams.new in
    let is : done_streams pool.cond ≡ pool.cond.entries ∷ pool.cond.counts ∷ [] = when_true pool.cond.done (pool.cond.entries ∷ pool.cond.counts ∷ []) [] c.if-not-pool.false in
    subst (λ (xs : List Stream). Now (HoldsBlocks Meta pool.table.slots (g.S.Shelf.tells last.shelf) (g.S.Shelf.world last.shelf).now.seen last.space None last.cache) (λ n. Swaps s n (streams_reach s xs) [])) (sym is)
    (c.in_ok-give_streams.ensures.gives s held (subst (λ (xs : List Stream). AreStored (streams_reach s xs) s) is stored))

pub returns-clause-trees : goal.returns-clause-trees
returns-clause-trees g c = λ logs stage others none h.
    let x = c.args.pool.now in
    let gives = c.in_ok-give_streams.ensures.gives h.stored h.held (both_stored stage (one_stage (first_stage logs)) others (g.S.Shelf.tells c.args.shelf.now) (g.S.Shelf.world c.args.shelf.now).now.seen x h) in
    cond_given logs stage others (g.S.Shelf.tells c.args.shelf.now) _ (g.S.Shelf.world c.args.shelf.now).now.seen _ x _ (record { version = refl; turned = refl; lawful_old = c.requires.pool.lawful; lawful = c.give_streams.ensures.continues.space.rows.lawful c.requires.pool.lawful }) c.give_streams.ensures.continues.space refl refl none refl h gives
