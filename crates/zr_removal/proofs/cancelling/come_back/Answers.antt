use Rattle.std.proofs.Common.{sym, ◌∙◌, ap, subst}
use Rattle.zr_bptr.specs.declared.Tree.{Tree}
use Rattle.zr_shelf.proofs.Doings.{writes_nothing}
use Rattle.zr_sync.proofs.Disks.{works_writes}
use Rattle.zr_vdev.specs.Stores.{IsWriteInto}
use Rattle.zr_vdev.specs.declared.kind.Kind.TheVariants.{Block}
use Rattle.zr_sync.specs.Trees.{HoldsStreams, every, head_tree, one_stage}
use Rattle.zr_sync.specs.Trees.Stage.{Had}
use Rattle.zr_sync.specs.declared.open.OpenPool.{OpenPool}
use Rattle.zr_removal.proofs.BackTrees.{none_mapped, streams_returned}
use Rattle.zr_removal.proofs.Returning.{objects_given, objects_returned, written_back}
use Rattle.zr_removal.proofs.cancelling.come_back.Goals as goal

pub give_mapping-requires-clause-pool : goal.give_mapping-requires-clause-pool
give_mapping-requires-clause-pool g c = c.in_ok-dev.ensures.pool (g.S.Shelf.sizes c.args.shelf.now) c.requires.pool

pub returns-in_err-give_mapping-clause-disks : goal.returns-in_err-give_mapping-clause-disks
returns-in_err-give_mapping-clause-disks g c = λ t. works_writes _ (g.S.Shelf.world c.args.shelf.now) (g.S.Shelf.world c.give_mapping.new.shelf) (c.give_mapping.ensures.gave.goes.written t)

pub returns-clause-disks : goal.returns-clause-disks
returns-clause-disks g c = λ t. works_writes _ (g.S.Shelf.world c.args.shelf.now) (g.S.Shelf.world c.give_mapping.new.shelf) (c.give_mapping.ensures.gave.goes.written t)

-- ---- what is written, and what the disks hold

pub returns-in_err-dev-clause-written : goal.returns-in_err-dev-clause-written
returns-in_err-dev-clause-written g c = λ t. writes_nothing (IsWriteInto Block c.args.pool.now.table.slots c.args.pool.now.space) (g.S.Shelf.world c.args.shelf.now)

pub returns-in_err-give_mapping-clause-written : goal.returns-in_err-give_mapping-clause-written
returns-in_err-give_mapping-clause-written g c = λ t.
    written_back c.args.pool.now c.return_device.new.pool c.in_ok-dev.dev (g.S.Shelf.world c.args.shelf.now) (g.S.Shelf.world c.give_mapping.new.shelf) c.in_ok-dev.ensures.cancels (c.give_mapping.ensures.gave.goes.written t)

pub returns-clause-written : goal.returns-clause-written
returns-clause-written g c = λ t.
    written_back c.args.pool.now c.return_device.new.pool c.in_ok-dev.dev (g.S.Shelf.world c.args.shelf.now) (g.S.Shelf.world c.give_mapping.new.shelf) c.in_ok-dev.ensures.cancels (c.give_mapping.ensures.gave.goes.written t)

pub returns-clause-objects : goal.returns-clause-objects
returns-clause-objects g c = λ objects h.
    let old = c.args.shelf.now in
    let new = c.give_mapping.new.shelf in
    let returned = c.return_device.new.pool in
    let ready = c.in_ok-dev.ensures.pool (g.S.Shelf.sizes old) c.requires.pool in
    objects_given (g.S.Shelf.sizes old) (g.S.Shelf.sizes new) (g.S.Shelf.counts old) (g.S.Shelf.counts new) (g.S.Shelf.tells old) (g.S.Shelf.tells new) (g.S.Shelf.world old) (g.S.Shelf.world new) returned c.give_mapping.new.pool objects ready.mounted.apart c.give_mapping.ensures.gave
    (objects_returned c.args.pool.now returned c.in_ok-dev.dev c.in_ok-dev.ensures.cancels c.in_ok-dev.ensures.leaving (g.S.Shelf.tells old) (g.S.Shelf.world old).now.seen objects h)

-- ---- the trees of the streams

pub returns-clause-trees : goal.returns-clause-trees
returns-clause-trees g c = λ trees.
    let old = c.args.shelf.now in
    let new = c.give_mapping.new.shelf in
    let x = c.args.pool.now in
    let returned = c.return_device.new.pool in
    let first = c.in_ok-dev.ensures in
    let others = head_tree x.head trees.0 in
    let seen = (g.S.Shelf.world old).now.seen in
    let free = streams_returned x returned c.in_ok-dev.dev first.cancels first.root first.leaving others (g.S.Shelf.tells old) seen trees.1 in
    let given = c.in_ok-give_mapping.ensures.trees others (none_mapped x returned c.in_ok-dev.dev first.cancels first.root) free in
    let head = ap (λ (p : OpenPool). p.head) c.give_mapping.ensures.gave.rest ∙ ap (λ (p : OpenPool). p.head) first.cancels.rest in
    (trees.0, subst (λ (t : Tree). HoldsStreams (every Had) (one_stage Had) (head_tree t trees.0) (g.S.Shelf.tells new) (g.S.Shelf.world new).now.seen c.give_mapping.new.pool) (sym head) given)
