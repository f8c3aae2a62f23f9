use Rattle.zr_shelf.proofs.Doings.{writes_nothing}
use Rattle.zr_sync.proofs.Disks.{works_writes}
use Rattle.zr_vdev.specs.Stores.{IsWriteInto}
use Rattle.zr_vdev.specs.declared.kind.Kind.TheVariants.{Block}
use Rattle.zr_removal.proofs.Gone.{objects_told}
use Rattle.zr_removal.proofs.GoneShown.{written_gone}
use Rattle.zr_removal.proofs.Returning.{objects_given}
use Rattle.std.proofs.Common.{sym, ◌∙◌, ap, subst}
use Rattle.zr_bptr.specs.declared.Tree.{Tree}
use Rattle.zr_sync.specs.Trees.{HoldsStreams, every, head_tree, one_stage}
use Rattle.zr_removal.specs.Trees.{freeing, is_of_sets}
use Rattle.zr_removal.proofs.GoneTrees.{streams_told}
use Rattle.zr_sync.specs.Trees.Stage.{Had}
use Rattle.zr_sync.specs.declared.open.OpenPool.{OpenPool}
use Rattle.zr_removal.proofs.evacuate.vanish.Goals as goal

pub give_sets-requires-clause-pool : goal.give_sets-requires-clause-pool
give_sets-requires-clause-pool g c = c.in_ok-dev.ensures.pool (g.S.Shelf.sizes c.args.shelf.now) c.requires.pool

pub returns-in_err-give_sets-clause-disks : goal.returns-in_err-give_sets-clause-disks
returns-in_err-give_sets-clause-disks g c = λ t. works_writes _ (g.S.Shelf.world c.args.shelf.now) (g.S.Shelf.world c.give_sets.new.shelf) (c.give_sets.ensures.gave.goes.written t)

pub returns-clause-disks : goal.returns-clause-disks
returns-clause-disks g c = λ t. works_writes _ (g.S.Shelf.world c.args.shelf.now) (g.S.Shelf.world c.give_sets.new.shelf) (c.give_sets.ensures.gave.goes.written t)

-- ---- what is written, and what the disks hold

pub returns-in_err-dev-clause-written : goal.returns-in_err-dev-clause-written
returns-in_err-dev-clause-written g c = λ t. writes_nothing (IsWriteInto Block c.args.pool.now.table.slots c.args.pool.now.space) (g.S.Shelf.world c.args.shelf.now)

pub returns-in_err-give_sets-clause-written : goal.returns-in_err-give_sets-clause-written
returns-in_err-give_sets-clause-written g c = λ t.
    written_gone c.args.pool.now c.retire.new.pool c.in_ok-dev.dev (g.S.Shelf.world c.args.shelf.now) (g.S.Shelf.world c.give_sets.new.shelf) c.in_ok-dev.ensures.finishes (c.give_sets.ensures.gave.goes.written t)

pub returns-clause-written : goal.returns-clause-written
returns-clause-written g c = λ t.
    written_gone c.args.pool.now c.retire.new.pool c.in_ok-dev.dev (g.S.Shelf.world c.args.shelf.now) (g.S.Shelf.world c.give_sets.new.shelf) c.in_ok-dev.ensures.finishes (c.give_sets.ensures.gave.goes.written t)

pub returns-clause-objects : goal.returns-clause-objects
returns-clause-objects g c = λ copies objects h.
    let old = c.args.shelf.now in
    let new = c.give_sets.new.shelf in
    let was = c.args.pool.now in
    let gone = c.retire.new.pool in
    let seen = (g.S.Shelf.world old).now.seen in
    let told = h.held.told in
    let ready = c.in_ok-dev.ensures.pool (g.S.Shelf.sizes old) c.requires.pool in
    objects_given (g.S.Shelf.sizes old) (g.S.Shelf.sizes new) (g.S.Shelf.counts old) (g.S.Shelf.counts new) (g.S.Shelf.tells old) (g.S.Shelf.tells new) (g.S.Shelf.world old) (g.S.Shelf.world new) gone c.give_sets.new.pool objects ready.mounted.apart c.give_sets.ensures.gave
    (objects_told (Unit {0}) (g.S.Shelf.tells old) seen gone objects told (c.in_ok-dev.ensures.objects seen objects copies (objects_told (g.S.Shelf.tells old) (Unit {0}) seen was objects tt h)))

-- ---- the trees of the streams

pub returns-clause-trees : goal.returns-clause-trees
returns-clause-trees g c = λ clear trees.
    let old = c.args.shelf.now in
    let new = c.give_sets.new.shelf in
    let x = c.args.pool.now in
    let others = head_tree x.head trees.0 in
    let tells = g.S.Shelf.tells old in
    let seen = (g.S.Shelf.world old).now.seen in
    let told = trees.1.held.told in
    let free =
    streams_told (freeing is_of_sets c.in_ok-dev.dev) (one_stage Had) others (Unit {0}) tells seen c.retire.new.pool told
    (c.in_ok-dev.ensures.trees clear others seen (streams_told (every Had) (one_stage Had) others tells (Unit {0}) seen x tt trees.1)) in
    let given = c.in_ok-give_sets.ensures.trees others (c.in_ok-dev.ensures.root clear).none free in
    let head = ap (λ (p : OpenPool). p.head) c.give_sets.ensures.gave.rest ∙ ap (λ (p : OpenPool). p.head) c.in_ok-dev.ensures.finishes.rest in
    (trees.0, subst (λ (t : Tree). HoldsStreams (every Had) (one_stage Had) (head_tree t trees.0) (g.S.Shelf.tells new) (g.S.Shelf.world new).now.seen c.give_sets.new.pool) (sym head) given)
