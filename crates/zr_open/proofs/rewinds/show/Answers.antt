use Rattle.std.proofs.Common.{inl, inr, Some, refl, sym, subst}
use Rattle.zr_shelf.proofs.Runs.{still}
use Rattle.zr_slots.specs.Phases.{AreDisks}
use Rattle.zr_sync.proofs.Disks.{works_published}
use Rattle.zr_sync.proofs.Holding.{published_holds}
use Rattle.zr_sync.proofs.Publishing.{shown, shown_in_part, slots_disks}
use Rattle.zr_open.proofs.rewinds.show.Goals as goal

pub publish-requires-clause-both : goal.publish-requires-clause-both
publish-requires-clause-both g c =
    subst (AreDisks (g.S.Shelf.sizes c.args.shelf.now)) (sym c.as_slice.ensures)
    (slots_disks (g.S.Shelf.sizes c.args.shelf.now) c.args.pool.now c.args.current.now c.args.root.now c.in_ok-both.both c.requires.pool c.requires.count c.requires.rows c.in_ok-both.ensures.each)

pub publish-requires-clause-all : goal.publish-requires-clause-all
publish-requires-clause-all g c =
    subst (AreDisks (g.S.Shelf.sizes c.args.shelf.now)) (sym c.as_slice-2.ensures)
    (slots_disks (g.S.Shelf.sizes c.args.shelf.now) c.args.pool.now c.args.root.now c.args.root.now c.in_ok-all.all c.requires.pool c.requires.count c.requires.rows c.in_ok-all.ensures.each)

pub returns-in_err-publish-clause-disks : goal.returns-in_err-publish-clause-disks
returns-in_err-publish-clause-disks g c = λ t.
    works_published (g.S.Shelf.sizes c.args.shelf.now) c.as_slice.result.now c.as_slice-2.result.now c.args.root.now c.publish.result (g.S.Shelf.world c.args.shelf.now) (g.S.Shelf.world c.publish.new.shelf) (c.publish.ensures.order t)

pub returns-clause-disks : goal.returns-clause-disks
returns-clause-disks g c = λ t.
    works_published (g.S.Shelf.sizes c.args.shelf.now) c.as_slice.result.now c.as_slice-2.result.now c.args.root.now c.publish.result (g.S.Shelf.world c.args.shelf.now) (g.S.Shelf.world c.publish.new.shelf) (c.publish.ensures.order t)

pub returns-clause-shown : goal.returns-clause-shown
returns-clause-shown g c = λ t.
    shown (g.S.Shelf.sizes c.args.shelf.now) (record c.args.pool.now { last = Some c.args.current.now }) c.args.current.now c.args.root.now c.in_ok-both.both c.in_ok-all.all c.as_slice.result.now c.as_slice-2.result.now (g.S.Shelf.world c.args.shelf.now) (g.S.Shelf.world c.publish.new.shelf)
    refl c.as_slice.ensures c.as_slice-2.ensures
    c.in_ok-both.ensures.each c.in_ok-both.ensures.all c.in_ok-all.ensures.each c.in_ok-all.ensures.all
    (c.in_ok-publish.ensures.order t)

pub returns-in_err-both-clause-stops : goal.returns-in_err-both-clause-stops
returns-in_err-both-clause-stops g c = λ t. inl (still (g.S.Shelf.world c.args.shelf.now) (g.S.Shelf.world c.args.shelf.now) refl)

pub returns-in_err-all-clause-stops : goal.returns-in_err-all-clause-stops
returns-in_err-all-clause-stops g c = λ t. inl (still (g.S.Shelf.world c.args.shelf.now) (g.S.Shelf.world c.args.shelf.now) refl)

pub returns-in_err-publish-clause-stops : goal.returns-in_err-publish-clause-stops
returns-in_err-publish-clause-stops g c = λ t.
    inr (inl (shown_in_part (g.S.Shelf.sizes c.args.shelf.now) (record c.args.pool.now { last = Some c.args.current.now }) c.args.current.now c.args.root.now c.in_ok-both.both c.in_ok-all.all c.as_slice.result.now c.as_slice-2.result.now (g.S.Shelf.world c.args.shelf.now) (g.S.Shelf.world c.publish.new.shelf)
    refl c.as_slice.ensures c.as_slice-2.ensures
    c.in_ok-both.ensures.each c.in_ok-both.ensures.all c.in_ok-all.ensures.each c.in_ok-all.ensures.all
    (c.in_err-publish.ensures.order t)))

pub returns-clause-stops : goal.returns-clause-stops
returns-clause-stops g c = λ t.
    inr (inr (shown (g.S.Shelf.sizes c.args.shelf.now) (record c.args.pool.now { last = Some c.args.current.now }) c.args.current.now c.args.root.now c.in_ok-both.both c.in_ok-all.all c.as_slice.result.now c.as_slice-2.result.now (g.S.Shelf.world c.args.shelf.now) (g.S.Shelf.world c.publish.new.shelf)
    refl c.as_slice.ensures c.as_slice-2.ensures
    c.in_ok-both.ensures.each c.in_ok-both.ensures.all c.in_ok-all.ensures.each c.in_ok-all.ensures.all
    (c.in_ok-publish.ensures.order t)))

pub returns-in_err-publish-clause-keeps : goal.returns-in_err-publish-clause-keeps
returns-in_err-publish-clause-keeps g c = λ s held.
    let old = c.args.shelf.now in
    let new = c.publish.new.shelf in
    published_holds (g.S.Shelf.sizes old) c.as_slice.result.now c.as_slice-2.result.now c.args.root.now c.publish.result (g.S.Shelf.world old) (g.S.Shelf.world new) c.args.pool.now (g.S.Shelf.tells old) (g.S.Shelf.tells new) s c.requires.pool c.requires.lawful (c.publish.ensures.order held.told) (c.publish.ensures.told held.told) held

pub returns-clause-keeps : goal.returns-clause-keeps
returns-clause-keeps g c = λ s held.
    let old = c.args.shelf.now in
    let new = c.publish.new.shelf in
    published_holds (g.S.Shelf.sizes old) c.as_slice.result.now c.as_slice-2.result.now c.args.root.now c.publish.result (g.S.Shelf.world old) (g.S.Shelf.world new) c.args.pool.now (g.S.Shelf.tells old) (g.S.Shelf.tells new) s c.requires.pool c.requires.lawful (c.publish.ensures.order held.told) (c.publish.ensures.told held.told) held
