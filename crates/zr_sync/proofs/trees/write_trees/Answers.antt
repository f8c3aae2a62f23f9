use Rattle.std.proofs.Common.{None, refl, sym, subst}
use Rattle.zr_bptr.specs.declared.Tree.{Tree}
use Rattle.zr_store.specs.Store.{Now}
use Rattle.zr_vdev.specs.Stores.{HoldsBlocks}
use Rattle.zr_vdev.specs.declared.kind.Kind.TheVariants.{Block}
use Rattle.zr_commit.specs.Objects.{WritesGroup}
use Rattle.zr_sync.proofs.Recording.{trees_leave}
use Rattle.zr_sync.proofs.trees.write_trees.Goals as goal

pub returns-clause-objects : goal.returns-clause-objects
returns-clause-objects g c = λ s held stored.
    let pool = c.args.pool.now in
    let put = c.put_group.new in
    subst (λ (d : Tree). Now (HoldsBlocks Block pool.table.slots (g.S.Shelf.tells put.shelf) (g.S.Shelf.world put.shelf).now.seen put.space None put.cache) (λ n. WritesGroup s n pool.group pool.dir d)) (sym c.in_ok-pool.ensures.same)
    (c.in_ok-tree.ensures.writes s held stored)

pub returns-clause-stay : goal.returns-clause-stay
returns-clause-stay g c = λ logs stage cond others told h.
    let first = c.args.shelf.now in
    let last = c.put_group.new.shelf in
    trees_leave (g.S.Shelf.sizes first) (g.S.Shelf.sizes last) (g.S.Shelf.counts first) (g.S.Shelf.counts last) (g.S.Shelf.tells first) (g.S.Shelf.tells last) (g.S.Shelf.world first) (g.S.Shelf.world last) c.args.pool.now _ c.requires.pool
    (record { goes = c.put_group.ensures.continues; rest = refl }) logs stage cond others told h
