use Rattle.zr_base.specs.declared.refusal.Refusal.TheVariants.{Damaged, ObjectExists}
use Rattle.zr_lines.proofs.Coming.{some_there, none_there, no_damage_only, no_room_only}
use Rattle.zr_lines.proofs.Giving.{on_ok_map}
use Rattle.std.proofs.Common.{rules, inl}
use Rattle.std.proofs.Common.{◌≡◌, ◌∙◌, Bool, true, false, Option, Some, None, Result, Ok, Err, inr, refl, sym, subst}
use Rattle.std.proofs.lemmas.Result.{err_from_is_err_and}
use Rattle.std.specs.Prelude.{OnOk, is_some}
use Rattle.zr_bptr.specs.declared.ObjRec.{ObjRec}
use Rattle.zr_txg.specs.Changes.{Changes}
use Rattle.zr_sync.proofs.Disks.{works_more, works_writes}
use Rattle.zr_lines.specs.Groups.{IsReadyGroup}
use Rattle.zr_last.proofs.Lasting.{blocks_last}
use Rattle.zr_lines.proofs.Stopping.{in_group_by, in_group_itself, one_group_before, writes_before}
use Rattle.zr_lines.proofs.Pools.{same_by, same_more}
use Rattle.zr_lines.proofs.makes.make.Goals as goal

no_yes : false ≡ true → ⊥
no_yes e = cc

some_of : (o : Option ObjRec) (b : Bool) → b ≡ is_some o → b ≡ true → (x : ObjRec) × (o ≡ Some x)
some_of None b is so = absurd (no_yes (sym is ∙ so))
some_of (Some x) b is so = (x, refl)

none_of : (o : Option ObjRec) (b : Bool) → b ≡ is_some o → b ≡ false → o ≡ None
none_of None b is so = refl
none_of (Some x) b is so = absurd (no_yes (sym so ∙ is))

on_ok_always : {T E P : Type 0} (r : Result T E) → P → OnOk r P
on_ok_always (Ok x) p = p
on_ok_always (Err e) p = tt

pub returns-in_err-find-clause-disks : goal.returns-in_err-find-clause-disks
returns-in_err-find-clause-disks g c = λ told. works_writes _ _ _ (c.find.ensures.wrote.goes.written told)

pub returns-then-is_some-clause-disks : goal.returns-then-is_some-clause-disks
returns-then-is_some-clause-disks g c = λ told. works_writes _ _ _ (c.find.ensures.wrote.goes.written told)

pub returns-then-is_some-clause-there : goal.returns-then-is_some-clause-there
returns-then-is_some-clause-there g c = λ s has is.
    let got = some_of c.in_ok-find.field-0 c.is_some.result c.is_some.ensures c.if-is_some.true in
    (got.0, sym (c.in_ok-find.ensures.record s has) ∙ got.1)

pub returns-clause-disks : goal.returns-clause-disks
returns-clause-disks g c = λ told.
    works_more (g.S.Shelf.world c.args.shelf.now) (g.S.Shelf.world c.find.new.shelf) (g.S.Shelf.world c.make_absent.new.shelf)
    (works_writes _ _ _ (c.find.ensures.wrote.goes.written told)) (c.make_absent.ensures.disks (c.find.ensures.wrote.goes.told told))

pub returns-clause-refused : goal.returns-clause-refused
returns-clause-refused g c = λ r is. inr (inr (inr (c.make_absent.ensures.refused r is)))

pub returns-clause-damaged : goal.returns-clause-damaged
returns-clause-damaged g c = λ s h at expected found is. absurd (no_damage_only at expected found (c.make_absent.ensures.refused (Damaged at expected found) is))

pub returns-in_err-find-clause-damaged : goal.returns-in_err-find-clause-damaged
returns-in_err-find-clause-damaged g c = λ s h at expected found is.
    let e = c.in_err-find in
    let was = err_from_is_err_and c.from_residual.result c.from_residual.ensures.1 in
    e.ensures.damaged s h at expected found cc

pub returns-clause-same : goal.returns-clause-same
returns-clause-same g c = λ answered. same_more c.args.pool.now c.find.new.pool c.make_absent.new.pool (same_by c.find.ensures.wrote) (c.make_absent.ensures.same answered)

pub returns-clause-there : goal.returns-clause-there
returns-clause-there g c = λ s h is. absurd (no_room_only (c.make_absent.ensures.refused ObjectExists is))

pub returns-clause-absent : goal.returns-clause-absent
returns-clause-absent g c = λ s h. on_ok_always c.make_absent.result (sym (c.in_ok-find.ensures.record s h) ∙ none_of c.in_ok-find.field-0 c.is_some.result c.is_some.ensures c.if-is_some.false)

pub returns-clause-group : goal.returns-clause-group
returns-clause-group g c = λ r is. subst (λ (h : Changes). IsReadyGroup c.args.id h c.make_absent.new.pool.group) c.find.ensures.group (c.make_absent.ensures.group r is)

pub returns-then-is_some-clause-exists : goal.returns-then-is_some-clause-exists
returns-then-is_some-clause-exists g c = λ objects h is. some_there objects c.args.id c.in_ok-find.field-0 (search rules) (c.in_ok-find.ensures.object objects h)

pub returns-clause-objects : goal.returns-clause-objects
returns-clause-objects g c = λ objects h r is. c.make_absent.ensures.objects objects (c.find.ensures.stays objects h) r is

pub returns-clause-exists : goal.returns-clause-exists
returns-clause-exists g c = λ objects h is. absurd (no_room_only (c.make_absent.ensures.refused ObjectExists is))

pub returns-clause-comes : goal.returns-clause-comes
returns-clause-comes g c = λ objects h.
    let none = none_there objects c.args.id c.in_ok-find.field-0 (search rules) (c.in_ok-find.ensures.object objects h) in
    on_ok_map c.make_absent.result (c.make_absent.ensures.comes objects (c.find.ensures.stays objects h) none) (λ held. (none, held))

-- ---- the last root

pub returns-in_err-find-clause-shown : goal.returns-in_err-find-clause-shown
returns-in_err-find-clause-shown g c = λ told answered. blocks_last c.requires.pool (g.S.Shelf.sound c.args.shelf.now told).sized told c.find.ensures.wrote

pub returns-then-is_some-clause-shown : goal.returns-then-is_some-clause-shown
returns-then-is_some-clause-shown g c = λ told answered. blocks_last c.requires.pool (g.S.Shelf.sound c.args.shelf.now told).sized told c.find.ensures.wrote

pub returns-clause-shown : goal.returns-clause-shown
returns-clause-shown g c = λ told answered h.
    c.make_absent.ensures.shown (c.find.ensures.wrote.goes.told told) answered (blocks_last c.requires.pool (g.S.Shelf.sound c.args.shelf.now told).sized told c.find.ensures.wrote h)

-- ---- one group

pub returns-then-not-can_make-clause-one_group : goal.returns-then-not-can_make-clause-one_group
returns-then-not-can_make-clause-one_group g c = λ objects h answered. inl (in_group_itself c.args.pool.now (g.S.Shelf.world c.args.shelf.now))

pub returns-then-not-can_make-clause-writes : goal.returns-then-not-can_make-clause-writes
returns-then-not-can_make-clause-writes g c = λ objects h. inl (in_group_itself c.args.pool.now (g.S.Shelf.world c.args.shelf.now)).written

pub returns-in_err-find-clause-one_group : goal.returns-in_err-find-clause-one_group
returns-in_err-find-clause-one_group g c = λ objects h answered. inl (in_group_by c.requires.pool c.find.ensures.wrote h.held.told)

pub returns-in_err-find-clause-writes : goal.returns-in_err-find-clause-writes
returns-in_err-find-clause-writes g c = λ objects h. inl (c.find.ensures.wrote.goes.written h.held.told)

pub returns-then-is_some-clause-one_group : goal.returns-then-is_some-clause-one_group
returns-then-is_some-clause-one_group g c = λ objects h answered. inl (in_group_by c.requires.pool c.find.ensures.wrote h.held.told)

pub returns-then-is_some-clause-writes : goal.returns-then-is_some-clause-writes
returns-then-is_some-clause-writes g c = λ objects h. inl (c.find.ensures.wrote.goes.written h.held.told)

pub returns-clause-one_group : goal.returns-clause-one_group
returns-clause-one_group g c = λ objects h answered. one_group_before c.requires.pool c.find.ensures.wrote h.held.told (c.make_absent.ensures.one_group objects (c.find.ensures.stays objects h) answered)

pub returns-clause-writes : goal.returns-clause-writes
returns-clause-writes g c = λ objects h. writes_before c.requires.pool c.find.ensures.wrote h.held.told (c.make_absent.ensures.writes objects (c.find.ensures.stays objects h))
