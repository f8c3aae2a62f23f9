use Rattle.std.proofs.Common.{inl, inr, refl, sym, subst}
use Rattle.zr_shelf.proofs.Runs.{still}
use Rattle.zr_slots.specs.Phases.{AreDisks}
use Rattle.zr_sync.proofs.Copies.{published_copies}
use Rattle.zr_sync.proofs.Disks.{works_published}
use Rattle.zr_sync.proofs.Holding.{published_holds, published_bytes}
use Rattle.zr_sync.proofs.Publishing.{slots_disks, shown, shown_in_part}
use Rattle.zr_sync.proofs.roots.publish_root.Goals as goal

pub publish-requires-clause-both : goal.publish-requires-clause-both
publish-requires-clause-both g c =
    subst (AreDisks (g.S.Shelf.sizes c.args.shelf.now)) (sym c.as_slice.ensures)
    (slots_disks (g.S.Shelf.sizes c.args.shelf.now) c.args.pool.now c.unwrap_or-last.result c.args.root.now c.in_ok-both.both c.requires.pool c.requires.next.1.count c.requires.next.1.rows c.in_ok-both.ensures.each)

pub publish-requires-clause-all : goal.publish-requires-clause-all
publish-requires-clause-all g c =
    subst (AreDisks (g.S.Shelf.sizes c.args.shelf.now)) (sym c.as_slice-2.ensures)
    (slots_disks (g.S.Shelf.sizes c.args.shelf.now) c.args.pool.now c.args.root.now c.args.root.now c.in_ok-all.all c.requires.pool c.requires.next.1.count c.requires.next.1.rows c.in_ok-all.ensures.each)

pub returns-in_err-publish-clause-disks : goal.returns-in_err-publish-clause-disks
returns-in_err-publish-clause-disks g c = λ t.
    works_published (g.S.Shelf.sizes c.args.shelf.now) c.as_slice.result.now c.as_slice-2.result.now c.args.root.now c.publish.result (g.S.Shelf.world c.args.shelf.now) (g.S.Shelf.world c.publish.new.shelf) (c.publish.ensures.order t)

pub returns-clause-disks : goal.returns-clause-disks
returns-clause-disks g c = λ t.
    works_published (g.S.Shelf.sizes c.args.shelf.now) c.as_slice.result.now c.as_slice-2.result.now c.args.root.now c.publish.result (g.S.Shelf.world c.args.shelf.now) (g.S.Shelf.world c.publish.new.shelf) (c.publish.ensures.order t)

pub returns-clause-shown : goal.returns-clause-shown
returns-clause-shown g c = λ t.
    shown (g.S.Shelf.sizes c.args.shelf.now) c.args.pool.now c.unwrap_or-last.result c.args.root.now c.in_ok-both.both c.in_ok-all.all c.as_slice.result.now c.as_slice-2.result.now (g.S.Shelf.world c.args.shelf.now) (g.S.Shelf.world c.publish.new.shelf)
    c.unwrap_or-last.ensures c.as_slice.ensures c.as_slice-2.ensures
    c.in_ok-both.ensures.each c.in_ok-both.ensures.all c.in_ok-all.ensures.each c.in_ok-all.ensures.all
    (c.in_ok-publish.ensures.order t)

pub returns-in_err-publish-clause-blocks : goal.returns-in_err-publish-clause-blocks
returns-in_err-publish-clause-blocks g c = λ s held.
    let old = c.args.shelf.now in
    let new = c.publish.new.shelf in
    published_holds (g.S.Shelf.sizes old) c.as_slice.result.now c.as_slice-2.result.now c.args.root.now c.publish.result (g.S.Shelf.world old) (g.S.Shelf.world new) c.args.pool.now (g.S.Shelf.tells old) (g.S.Shelf.tells new) s c.requires.pool c.requires.lawful (c.publish.ensures.order held.told) (c.publish.ensures.told held.told) held

pub returns-clause-blocks : goal.returns-clause-blocks
returns-clause-blocks g c = λ s held.
    let old = c.args.shelf.now in
    let new = c.publish.new.shelf in
    published_holds (g.S.Shelf.sizes old) c.as_slice.result.now c.as_slice-2.result.now c.args.root.now c.publish.result (g.S.Shelf.world old) (g.S.Shelf.world new) c.args.pool.now (g.S.Shelf.tells old) (g.S.Shelf.tells new) s c.requires.pool c.requires.lawful (c.publish.ensures.order held.told) (c.publish.ensures.told held.told) held

pub returns-in_err-publish-clause-bytes : goal.returns-in_err-publish-clause-bytes
returns-in_err-publish-clause-bytes g c = λ told.
    let old = c.args.shelf.now in
    let new = c.publish.new.shelf in
    published_bytes (g.S.Shelf.sizes old) c.as_slice.result.now c.as_slice-2.result.now c.args.root.now c.publish.result (g.S.Shelf.world old) (g.S.Shelf.world new) c.args.pool.now c.requires.pool c.requires.lawful (c.publish.ensures.order told)

pub returns-clause-bytes : goal.returns-clause-bytes
returns-clause-bytes g c = λ told.
    let old = c.args.shelf.now in
    let new = c.publish.new.shelf in
    published_bytes (g.S.Shelf.sizes old) c.as_slice.result.now c.as_slice-2.result.now c.args.root.now c.publish.result (g.S.Shelf.world old) (g.S.Shelf.world new) c.args.pool.now c.requires.pool c.requires.lawful (c.publish.ensures.order told)

pub returns-in_err-publish-clause-copies : goal.returns-in_err-publish-clause-copies
returns-in_err-publish-clause-copies g c = λ told.
    let old = c.args.shelf.now in
    let new = c.publish.new.shelf in
    published_copies (g.S.Shelf.sizes old) c.as_slice.result.now c.as_slice-2.result.now c.args.root.now c.publish.result (g.S.Shelf.world old) (g.S.Shelf.world new) c.args.pool.now c.requires.pool c.requires.lawful (c.publish.ensures.order told)

pub returns-clause-copies : goal.returns-clause-copies
returns-clause-copies g c = λ told.
    let old = c.args.shelf.now in
    let new = c.publish.new.shelf in
    published_copies (g.S.Shelf.sizes old) c.as_slice.result.now c.as_slice-2.result.now c.args.root.now c.publish.result (g.S.Shelf.world old) (g.S.Shelf.world new) c.args.pool.now c.requires.pool c.requires.lawful (c.publish.ensures.order told)

pub returns-in_err-both-clause-order : goal.returns-in_err-both-clause-order
returns-in_err-both-clause-order g c = λ t. inl (still (g.S.Shelf.world c.args.shelf.now) (g.S.Shelf.world c.args.shelf.now) refl)

pub returns-in_err-all-clause-order : goal.returns-in_err-all-clause-order
returns-in_err-all-clause-order g c = λ t. inl (still (g.S.Shelf.world c.args.shelf.now) (g.S.Shelf.world c.args.shelf.now) refl)

pub returns-in_err-publish-clause-order : goal.returns-in_err-publish-clause-order
returns-in_err-publish-clause-order g c = λ t.
    inr (inl (shown_in_part (g.S.Shelf.sizes c.args.shelf.now) c.args.pool.now c.unwrap_or-last.result c.args.root.now c.in_ok-both.both c.in_ok-all.all c.as_slice.result.now c.as_slice-2.result.now (g.S.Shelf.world c.args.shelf.now) (g.S.Shelf.world c.publish.new.shelf)
    c.unwrap_or-last.ensures c.as_slice.ensures c.as_slice-2.ensures
    c.in_ok-both.ensures.each c.in_ok-both.ensures.all c.in_ok-all.ensures.each c.in_ok-all.ensures.all
    (c.in_err-publish.ensures.order t)))

pub returns-clause-order : goal.returns-clause-order
returns-clause-order g c = λ t.
    inr (inr (shown (g.S.Shelf.sizes c.args.shelf.now) c.args.pool.now c.unwrap_or-last.result c.args.root.now c.in_ok-both.both c.in_ok-all.all c.as_slice.result.now c.as_slice-2.result.now (g.S.Shelf.world c.args.shelf.now) (g.S.Shelf.world c.publish.new.shelf)
    c.unwrap_or-last.ensures c.as_slice.ensures c.as_slice-2.ensures
    c.in_ok-both.ensures.each c.in_ok-both.ensures.all c.in_ok-all.ensures.each c.in_ok-all.ensures.all
    (c.in_ok-publish.ensures.order t)))
