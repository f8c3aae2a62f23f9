use Rattle.std.proofs.Common.{Option, false, subst, inl, inr, ap, refl, ◌∙◌}
use Rattle.std.specs.Prelude.{IfSome}
use Rattle.std.proofs.lemmas.Result.{err_from_is_err_and}
use Rattle.zr_sync.proofs.Disks.{works_more}
use Rattle.zr_change.specs.Edits.{IsPart}
use Rattle.zr_lines.specs.Intents.{IsFound, IsIntent, IsFor, IsPlanned, IsReadyFor}
use Rattle.zr_lines.specs.declared.intent.Intent.{Intent}
use Rattle.zr_txg.specs.Changes.{Changes}
use Rattle.zr_lines.proofs.Locating.{behind_commit, absent_here, far_here, means_here, absent_behind, far_behind, means_behind, none_by, damage_here, damage_behind}
use Rattle.zr_lines.proofs.Places.{takes_all}
use Rattle.zr_lines.proofs.Pools.{same_by, same_more, works_by}
use Rattle.zr_last.proofs.Lasting.{blocks_last, commit_last}
use Rattle.zr_sync.proofs.Ending.{ends_by}
use Rattle.zr_lines.proofs.Stopping.{answered_writes, commits_before, in_group_by, next_group, one_group_before}
use Rattle.zr_lines.proofs.edits.mean.Goals as goal

-- ---- the first look

pub returns-in_err-intent-clause-disks : goal.returns-in_err-intent-clause-disks
returns-in_err-intent-clause-disks g c = λ told. works_by c.look_over.ensures.wrote told

pub returns-in_err-intent-clause-absent : goal.returns-in_err-intent-clause-absent
returns-in_err-intent-clause-absent g c = λ is.
    let e = c.in_err-intent in
    let was = err_from_is_err_and c.from_residual.result c.from_residual.ensures.1 in
    absent_here (g.S.Shelf.tells c.args.shelf.now) c.args.reach c.args.id c.args.edit.now c.args.pool.now (g.S.Shelf.world c.args.shelf.now).now.seen (λ s h. e.ensures.none s h cc)

pub returns-in_err-intent-clause-too_far : goal.returns-in_err-intent-clause-too_far
returns-in_err-intent-clause-too_far g c = λ is.
    let e = c.in_err-intent in
    let was = err_from_is_err_and c.from_residual.result c.from_residual.ensures.1 in
    far_here (g.S.Shelf.tells c.args.shelf.now) c.args.reach c.args.id c.args.edit.now c.args.pool.now (g.S.Shelf.world c.args.shelf.now).now.seen (λ s h. e.ensures.outside s h cc)

pub returns-in_err-intent-clause-damaged : goal.returns-in_err-intent-clause-damaged
returns-in_err-intent-clause-damaged g c = λ at expected found is.
    let e = c.in_err-intent in
    let was = err_from_is_err_and c.from_residual.result c.from_residual.ensures.1 in
    let edit = c.args.edit.now in
    let p = c.args.pool.now in
    let disks = (g.S.Shelf.world c.args.shelf.now).now.seen in
    damage_here (g.S.Shelf.tells c.args.shelf.now) (IsFound c.args.reach c.args.id edit p disks) c.args.id (λ o. IsPart o.units edit) p disks at expected found (inl (refl, refl)) (λ s h. e.ensures.damaged s h at expected found cc)

pub returns-in-Some-clause-disks : goal.returns-in-Some-clause-disks
returns-in-Some-clause-disks g c = λ told. works_by c.look_over.ensures.wrote told

pub returns-in-Some-clause-means : goal.returns-in-Some-clause-means
returns-in-Some-clause-means g c =
    let i = c.in-Some.intent in
    let p = c.args.pool.now in
    let e = c.args.edit.now in
    let found = c.in_ok-intent.ensures in
    let intent = subst (λ (o : Option Intent). IfSome o (IsIntent p.group c.args.id)) c.in-Some.is found.intent in
    let fits = subst (λ (o : Option Intent). IfSome o (IsFor c.args.reach e)) c.in-Some.is found.fits in
    means_here (g.S.Shelf.tells c.args.shelf.now) c.args.reach c.args.id e p (g.S.Shelf.world c.args.shelf.now).now.seen i intent fits
    (λ s h. subst (λ (o : Option Intent). IfSome o (IsPlanned s p.dir p.group c.args.id e)) c.in-Some.is (found.planned s h))
    c.look_over.new.pool.group c.look_over.ensures.group

-- ---- the commit

pub returns-in_err-commit-clause-disks : goal.returns-in_err-commit-clause-disks
returns-in_err-commit-clause-disks g c = λ told.
    works_more (g.S.Shelf.world c.args.shelf.now) (g.S.Shelf.world c.look_over.new.shelf) (g.S.Shelf.world c.commit.new.shelf) (works_by c.look_over.ensures.wrote told) (c.commit.ensures.disks (c.look_over.ensures.wrote.goes.told told))

-- ---- the look behind it

pub returns-in_err-intent-2-clause-disks : goal.returns-in_err-intent-2-clause-disks
returns-in_err-intent-2-clause-disks g c = λ told.
    let first = g.S.Shelf.world c.args.shelf.now in
    let looked = g.S.Shelf.world c.look_over.new.shelf in
    let committed = g.S.Shelf.world c.commit.new.shelf in
    let tells = c.look_over.ensures.wrote.goes.told told in
    works_more first committed (g.S.Shelf.world c.look_over-2.new.shelf) (works_more first looked committed (works_by c.look_over.ensures.wrote told) (c.commit.ensures.disks tells)) (works_by c.look_over-2.ensures.wrote (c.commit.ensures.told tells))

pub returns-in_err-intent-2-clause-refused : goal.returns-in_err-intent-2-clause-refused
returns-in_err-intent-2-clause-refused g c = λ r is.
    let e = c.in_err-intent-2 in
    let was = err_from_is_err_and c.from_residual-in_err-intent-2.result c.from_residual-in_err-intent-2.ensures.1 in
    e.ensures.refused r cc

pub returns-in_err-intent-2-clause-kept : goal.returns-in_err-intent-2-clause-kept
returns-in_err-intent-2-clause-kept g c = λ r is.
    let p = c.args.pool.now in
    let full = c.in_ok-intent.ensures.full (none_by c.in_ok-intent.field-0 c.in_default.not-Some) in
    let done = c.in_ok-commit.ensures in
    let b = behind_commit c.args.reach c.args.id c.args.edit.now p c.look_over.new.pool c.commit.new.pool full (same_by c.look_over.ensures.wrote) c.look_over.ensures.group done.same done.empty done.txg in
    let group = c.look_over-2.ensures.group in
    inr (record {
      due = b.due;
      same = same_more p c.commit.new.pool c.look_over-2.new.pool b.same (same_by c.look_over-2.ensures.wrote);
      empty = ap (λ (w : Changes). w.objects) group ∙ b.empty;
      txg = ap (λ (w : Changes). w.txg) group ∙ b.txg;
    })

pub returns-clause-told : goal.returns-clause-told
returns-clause-told g c = λ told. c.look_over-2.ensures.wrote.goes.told (c.commit.ensures.told (c.look_over.ensures.wrote.goes.told told))

pub returns-in_err-intent-2-clause-absent : goal.returns-in_err-intent-2-clause-absent
returns-in_err-intent-2-clause-absent g c = λ is.
    let p = c.args.pool.now in
    let full = c.in_ok-intent.ensures.full (none_by c.in_ok-intent.field-0 c.in_default.not-Some) in
    let done = c.in_ok-commit.ensures in
    let behind = behind_commit c.args.reach c.args.id c.args.edit.now p c.look_over.new.pool c.commit.new.pool full (same_by c.look_over.ensures.wrote) c.look_over.ensures.group done.same done.empty done.txg in
    let e = c.in_err-intent-2 in
    let was = err_from_is_err_and c.from_residual-in_err-intent-2.result c.from_residual-in_err-intent-2.ensures.1 in
    absent_behind (g.S.Shelf.tells c.args.shelf.now) c.args.reach c.args.id c.args.edit.now p (g.S.Shelf.world c.args.shelf.now).now.seen (g.S.Shelf.tells c.commit.new.shelf) (λ told. c.commit.ensures.told (c.look_over.ensures.wrote.goes.told told)) c.commit.new.pool (g.S.Shelf.world c.commit.new.shelf).now.seen behind (λ s h. e.ensures.none s h cc)

pub returns-in_err-intent-2-clause-too_far : goal.returns-in_err-intent-2-clause-too_far
returns-in_err-intent-2-clause-too_far g c = λ is.
    let p = c.args.pool.now in
    let full = c.in_ok-intent.ensures.full (none_by c.in_ok-intent.field-0 c.in_default.not-Some) in
    let done = c.in_ok-commit.ensures in
    let behind = behind_commit c.args.reach c.args.id c.args.edit.now p c.look_over.new.pool c.commit.new.pool full (same_by c.look_over.ensures.wrote) c.look_over.ensures.group done.same done.empty done.txg in
    let e = c.in_err-intent-2 in
    let was = err_from_is_err_and c.from_residual-in_err-intent-2.result c.from_residual-in_err-intent-2.ensures.1 in
    far_behind (g.S.Shelf.tells c.args.shelf.now) c.args.reach c.args.id c.args.edit.now p (g.S.Shelf.world c.args.shelf.now).now.seen (g.S.Shelf.tells c.commit.new.shelf) (λ told. c.commit.ensures.told (c.look_over.ensures.wrote.goes.told told)) c.commit.new.pool (g.S.Shelf.world c.commit.new.shelf).now.seen behind (λ s h. e.ensures.outside s h cc)

pub returns-in_err-intent-2-clause-damaged : goal.returns-in_err-intent-2-clause-damaged
returns-in_err-intent-2-clause-damaged g c = λ at expected found is.
    let p = c.args.pool.now in
    let x = c.commit.new.pool in
    let edit = c.args.edit.now in
    let disks = (g.S.Shelf.world c.args.shelf.now).now.seen in
    let full = c.in_ok-intent.ensures.full (none_by c.in_ok-intent.field-0 c.in_default.not-Some) in
    let done = c.in_ok-commit.ensures in
    let behind = behind_commit c.args.reach c.args.id edit p c.look_over.new.pool x full (same_by c.look_over.ensures.wrote) c.look_over.ensures.group done.same done.empty done.txg in
    let e = c.in_err-intent-2 in
    let was = err_from_is_err_and c.from_residual-in_err-intent-2.result c.from_residual-in_err-intent-2.ensures.1 in
    damage_behind (g.S.Shelf.tells c.args.shelf.now) (IsFound c.args.reach c.args.id edit p disks) c.args.id (λ o. IsPart o.units edit) p disks at expected found (g.S.Shelf.tells c.commit.new.shelf) (λ told. c.commit.ensures.told (c.look_over.ensures.wrote.goes.told told)) x (g.S.Shelf.world c.commit.new.shelf).now.seen
    (inr behind) (λ objects h. c.in_ok-commit.ensures.stays objects (c.look_over.ensures.stays objects h)) (λ s h. e.ensures.damaged s h at expected found cc)

pub unreachable-requires : goal.unreachable-requires
unreachable-requires g c = takes_all c.args.reach c.commit.new.pool.group c.args.id c.args.edit.now c.in_ok-commit.ensures.empty c.requires.short (c.in_ok-intent-2.ensures.full c.in-None.is)

pub returns-clause-disks : goal.returns-clause-disks
returns-clause-disks g c = λ told.
    let first = g.S.Shelf.world c.args.shelf.now in
    let looked = g.S.Shelf.world c.look_over.new.shelf in
    let committed = g.S.Shelf.world c.commit.new.shelf in
    let tells = c.look_over.ensures.wrote.goes.told told in
    works_more first committed (g.S.Shelf.world c.look_over-2.new.shelf) (works_more first looked committed (works_by c.look_over.ensures.wrote told) (c.commit.ensures.disks tells)) (works_by c.look_over-2.ensures.wrote (c.commit.ensures.told tells))

pub returns-clause-means : goal.returns-clause-means
returns-clause-means g c =
    let p = c.args.pool.now in
    let x = c.commit.new.pool in
    let e = c.args.edit.now in
    let i = c.in-Some-2.intent in
    let full = c.in_ok-intent.ensures.full (none_by c.in_ok-intent.field-0 c.in_default.not-Some) in
    let done = c.in_ok-commit.ensures in
    let behind = behind_commit c.args.reach c.args.id e p c.look_over.new.pool x full (same_by c.look_over.ensures.wrote) c.look_over.ensures.group done.same done.empty done.txg in
    let found = c.in_ok-intent-2.ensures in
    let intent = subst (λ (o : Option Intent). IfSome o (IsIntent x.group c.args.id)) c.in-Some-2.is found.intent in
    let fits = subst (λ (o : Option Intent). IfSome o (IsFor c.args.reach e)) c.in-Some-2.is found.fits in
    means_behind (g.S.Shelf.tells c.args.shelf.now) c.args.reach c.args.id e p (g.S.Shelf.world c.args.shelf.now).now.seen (g.S.Shelf.tells c.commit.new.shelf) (λ told. c.commit.ensures.told (c.look_over.ensures.wrote.goes.told told)) x (g.S.Shelf.world c.commit.new.shelf).now.seen behind i intent fits
    (λ s h. subst (λ (o : Option Intent). IfSome o (IsPlanned s x.dir x.group c.args.id e)) c.in-Some-2.is (found.planned s h))
    c.look_over-2.new.pool.group c.look_over-2.ensures.group

-- ---- the objects

pub returns-in_err-intent-clause-stays_no : goal.returns-in_err-intent-clause-stays_no
returns-in_err-intent-clause-stays_no g c = λ objects h r is. c.look_over.ensures.stays objects h

pub returns-in_err-intent-clause-absent_object : goal.returns-in_err-intent-clause-absent_object
returns-in_err-intent-clause-absent_object g c = λ objects h is.
    let e = c.in_err-intent in
    let was = err_from_is_err_and c.from_residual.result c.from_residual.ensures.1 in
    e.ensures.absent_object objects h cc

pub returns-in_err-intent-clause-too_far_object : goal.returns-in_err-intent-clause-too_far_object
returns-in_err-intent-clause-too_far_object g c = λ objects h is.
    let e = c.in_err-intent in
    let was = err_from_is_err_and c.from_residual.result c.from_residual.ensures.1 in
    e.ensures.too_far_object objects h cc

pub returns-in-Some-clause-ready : goal.returns-in-Some-clause-ready
returns-in-Some-clause-ready g c = λ objects h.
    let new = c.look_over.new in
    subst (λ (o : Option Intent). IfSome o (IsReadyFor (g.S.Shelf.tells new.shelf) (g.S.Shelf.world new.shelf).now.seen new.pool c.args.id c.args.edit.now objects)) c.in-Some.is (c.in_ok-intent.ensures.ready objects h)

pub returns-in_err-intent-2-clause-stays_no : goal.returns-in_err-intent-2-clause-stays_no
returns-in_err-intent-2-clause-stays_no g c = λ objects h r is. c.look_over-2.ensures.stays objects (c.in_ok-commit.ensures.stays objects (c.look_over.ensures.stays objects h))

pub returns-in_err-intent-2-clause-absent_object : goal.returns-in_err-intent-2-clause-absent_object
returns-in_err-intent-2-clause-absent_object g c = λ objects h is.
    let e = c.in_err-intent-2 in
    let was = err_from_is_err_and c.from_residual-in_err-intent-2.result c.from_residual-in_err-intent-2.ensures.1 in
    e.ensures.absent_object objects (c.in_ok-commit.ensures.stays objects (c.look_over.ensures.stays objects h)) cc

pub returns-in_err-intent-2-clause-too_far_object : goal.returns-in_err-intent-2-clause-too_far_object
returns-in_err-intent-2-clause-too_far_object g c = λ objects h is.
    let e = c.in_err-intent-2 in
    let was = err_from_is_err_and c.from_residual-in_err-intent-2.result c.from_residual-in_err-intent-2.ensures.1 in
    e.ensures.too_far_object objects (c.in_ok-commit.ensures.stays objects (c.look_over.ensures.stays objects h)) cc

pub returns-clause-ready : goal.returns-clause-ready
returns-clause-ready g c = λ objects h.
    let new = c.look_over-2.new in
    subst (λ (o : Option Intent). IfSome o (IsReadyFor (g.S.Shelf.tells new.shelf) (g.S.Shelf.world new.shelf).now.seen new.pool c.args.id c.args.edit.now objects)) c.in-Some-2.is (c.in_ok-intent-2.ensures.ready objects (c.in_ok-commit.ensures.stays objects (c.look_over.ensures.stays objects h)))

-- ---- the last root

pub returns-in_err-intent-clause-shown_no : goal.returns-in_err-intent-clause-shown_no
returns-in_err-intent-clause-shown_no g c = λ told r is. blocks_last c.requires.pool (g.S.Shelf.sound c.args.shelf.now told).sized told c.look_over.ensures.wrote

pub returns-in-Some-clause-shown : goal.returns-in-Some-clause-shown
returns-in-Some-clause-shown g c = λ told. blocks_last c.requires.pool (g.S.Shelf.sound c.args.shelf.now told).sized told c.look_over.ensures.wrote

pub returns-in_err-intent-2-clause-shown_no : goal.returns-in_err-intent-2-clause-shown_no
returns-in_err-intent-2-clause-shown_no g c = λ told r is h.
    let looked = c.look_over.new.shelf in
    let committed = c.commit.new.shelf in
    let there = c.look_over.ensures.wrote.goes.told told in
    let behind = c.commit.ensures.told there in
    let done = c.in_ok-commit.ensures in
    blocks_last done.pool (g.S.Shelf.sound committed behind).sized behind c.look_over-2.ensures.wrote
    (commit_last (g.S.Shelf.sizes looked) (g.S.Shelf.sizes committed) c.look_over.new.pool c.commit.new.pool false (g.S.Shelf.world looked) (g.S.Shelf.world committed) c.look_over.ensures.pool done.pool (g.S.Shelf.sound looked there).sized done.txg done.last (done.written there) done.same.guid done.same.table
    (blocks_last c.requires.pool (g.S.Shelf.sound c.args.shelf.now told).sized told c.look_over.ensures.wrote h))

pub returns-clause-shown : goal.returns-clause-shown
returns-clause-shown g c = λ told h.
    let looked = c.look_over.new.shelf in
    let committed = c.commit.new.shelf in
    let there = c.look_over.ensures.wrote.goes.told told in
    let behind = c.commit.ensures.told there in
    let done = c.in_ok-commit.ensures in
    blocks_last done.pool (g.S.Shelf.sound committed behind).sized behind c.look_over-2.ensures.wrote
    (commit_last (g.S.Shelf.sizes looked) (g.S.Shelf.sizes committed) c.look_over.new.pool c.commit.new.pool false (g.S.Shelf.world looked) (g.S.Shelf.world committed) c.look_over.ensures.pool done.pool (g.S.Shelf.sound looked there).sized done.txg done.last (done.written there) done.same.guid done.same.table
    (blocks_last c.requires.pool (g.S.Shelf.sound c.args.shelf.now told).sized told c.look_over.ensures.wrote h))

-- ---- one group

pub returns-in_err-intent-clause-one_group_no : goal.returns-in_err-intent-clause-one_group_no
returns-in_err-intent-clause-one_group_no g c = λ objects h r is. inl (in_group_by c.requires.pool c.look_over.ensures.wrote h.held.told)

pub returns-in_err-intent-clause-writes : goal.returns-in_err-intent-clause-writes
returns-in_err-intent-clause-writes g c = λ objects h. inl (c.look_over.ensures.wrote.goes.written h.held.told)

pub returns-in-Some-clause-one_group : goal.returns-in-Some-clause-one_group
returns-in-Some-clause-one_group g c = λ objects h. inl (in_group_by c.requires.pool c.look_over.ensures.wrote h.held.told)

pub returns-in-Some-clause-writes : goal.returns-in-Some-clause-writes
returns-in-Some-clause-writes g c = λ objects h. inl (c.look_over.ensures.wrote.goes.written h.held.told)

pub returns-in_err-commit-clause-writes : goal.returns-in_err-commit-clause-writes
returns-in_err-commit-clause-writes g c = λ objects h. inr (inl (commits_before c.requires.pool c.look_over.ensures.wrote h.held.told (c.commit.ensures.leads objects (c.look_over.ensures.stays objects h))))

pub returns-in_err-intent-2-clause-one_group_no : goal.returns-in_err-intent-2-clause-one_group_no
returns-in_err-intent-2-clause-one_group_no g c = λ objects h r is.
    let held = c.look_over.ensures.stays objects h in
    let told = c.commit.ensures.told (c.look_over.ensures.wrote.goes.told h.held.told) in
    let done = c.in_ok-commit.ensures in
    let ends = ends_by c.commit.ensures.sizes done.pool done.same done.last done.txg done.written done.ends done.empty done.stands done.safe done.trees done.moves done.copies held (done.stays objects held) in
    one_group_before c.requires.pool c.look_over.ensures.wrote h.held.told (next_group ends (in_group_by done.pool c.look_over-2.ensures.wrote told))

pub returns-in_err-intent-2-clause-writes : goal.returns-in_err-intent-2-clause-writes
returns-in_err-intent-2-clause-writes g c = λ objects h.
    let held = c.look_over.ensures.stays objects h in
    let told = c.commit.ensures.told (c.look_over.ensures.wrote.goes.told h.held.told) in
    let done = c.in_ok-commit.ensures in
    let ends = ends_by c.commit.ensures.sizes done.pool done.same done.last done.txg done.written done.ends done.empty done.stands done.safe done.trees done.moves done.copies held (done.stays objects held) in
    answered_writes (one_group_before c.requires.pool c.look_over.ensures.wrote h.held.told (next_group ends (in_group_by done.pool c.look_over-2.ensures.wrote told)))

pub returns-clause-one_group : goal.returns-clause-one_group
returns-clause-one_group g c = λ objects h.
    let held = c.look_over.ensures.stays objects h in
    let told = c.commit.ensures.told (c.look_over.ensures.wrote.goes.told h.held.told) in
    let done = c.in_ok-commit.ensures in
    let ends = ends_by c.commit.ensures.sizes done.pool done.same done.last done.txg done.written done.ends done.empty done.stands done.safe done.trees done.moves done.copies held (done.stays objects held) in
    one_group_before c.requires.pool c.look_over.ensures.wrote h.held.told (next_group ends (in_group_by done.pool c.look_over-2.ensures.wrote told))

pub returns-clause-writes : goal.returns-clause-writes
returns-clause-writes g c = λ objects h.
    let held = c.look_over.ensures.stays objects h in
    let told = c.commit.ensures.told (c.look_over.ensures.wrote.goes.told h.held.told) in
    let done = c.in_ok-commit.ensures in
    let ends = ends_by c.commit.ensures.sizes done.pool done.same done.last done.txg done.written done.ends done.empty done.stands done.safe done.trees done.moves done.copies held (done.stays objects held) in
    answered_writes (one_group_before c.requires.pool c.look_over.ensures.wrote h.held.told (next_group ends (in_group_by done.pool c.look_over-2.ensures.wrote told)))
