use Rattle.std.proofs.Common.{◌∙◌, ◌≡◌, None, Result, inl, inr, refl, sym, subst}
use Rattle.std.proofs.lemmas.Result.{err_from_is_err_and}
use Rattle.zr_lookup.specs.Objects.{record_now}
use Rattle.zr_sync.specs.Holds.{HasBlocks}
use Rattle.zr_sync.specs.declared.fault.Fault.{Fault}
use Rattle.zr_sync.specs.declared.open.OpenPool.{OpenPool}
use Rattle.zr_sync.proofs.Disks.{works_more}
use Rattle.zr_lines.specs.Counts.{new_object}
use Rattle.zr_lines.specs.Answers.{IsAnswered}
use Rattle.zr_lines.specs.Damage.{IsDamageOf, in_directory}
use Rattle.zr_lines.specs.Drops.{IsFoundToDrop}
use Rattle.zr_lines.proofs.Locating.{damage_here, damage_behind}
use Rattle.zr_lines.proofs.Giving.{behind_full, can_take, err_same, found_back, on_ok_map, wrote_back}
use Rattle.zr_lines.proofs.Stopping.{in_group_itself, one_group_more, one_group_writes}
use Rattle.zr_lines.proofs.drops.drop.Goals as goal

pub returns-clause-disks : goal.returns-clause-disks
returns-clause-disks g c = λ told.
    works_more (g.S.Shelf.world c.args.shelf.now) (g.S.Shelf.world c.make_way_for.new.shelf) (g.S.Shelf.world c.drop_ready.new.shelf)
    (c.make_way_for.ensures.disks told) (c.drop_ready.ensures.disks (c.make_way_for.ensures.told told))

pub returns-clause-lacks : goal.returns-clause-lacks
returns-clause-lacks g c = λ needed free is.
    let got = c.drop_ready.ensures.lacks needed free is in (
      got.0,
      found_back g.S.Shelf.tells (λ h. (g.S.Shelf.world h).now.seen) c.args.shelf.now c.make_way_for.new.shelf c.args.pool.now c.make_way_for.new.pool c.args.id got.0 (λ can. let st = c.make_way_for.ensures.stays can in (st.1, st.2)) got.1,
      got.2,
    )

pub returns-clause-given : goal.returns-clause-given
returns-clause-given g c =
    on_ok_map c.drop_ready.result c.drop_ready.ensures.given (λ got. (
      got.0,
      got.1,
      got.2,
      found_back g.S.Shelf.tells (λ h. (g.S.Shelf.world h).now.seen) c.args.shelf.now c.make_way_for.new.shelf c.args.pool.now c.make_way_for.new.pool c.args.id got.0 (λ can. let st = c.make_way_for.ensures.stays can in (st.1, st.2)) got.3,
      wrote_back g.S.Shelf.sizes g.S.Shelf.counts g.S.Shelf.tells g.S.Shelf.world c.args.shelf.now c.make_way_for.new.shelf got.1 c.args.pool.now c.make_way_for.new.pool got.2 c.args.id (λ can. let st = c.make_way_for.ensures.stays can in (st.1, st.2)) got.4,
      got.5,
      got.6,
    ))

pub returns-clause-objects : goal.returns-clause-objects
returns-clause-objects g c = λ objects h r is. c.drop_ready.ensures.objects objects (c.in_ok-make_way_for.ensures.objects objects h tt) r is

pub returns-clause-none : goal.returns-clause-none
returns-clause-none g c = λ s h is.
    let pool = c.args.pool.now in
    let next = c.make_way_for.new.shelf in
    elim (can_take (new_object pool.group c.args.id) pool.group) [
      | inl can ↦
          let st = c.make_way_for.ensures.stays can in
          let here = subst (λ x. HasBlocks (g.S.Shelf.tells x) (g.S.Shelf.world x).now.seen pool s) (sym st.2) h in
          let then = subst (λ (p : OpenPool). HasBlocks (g.S.Shelf.tells next) (g.S.Shelf.world next).now.seen p s) (sym st.1) here in
          inl (subst (λ (p : OpenPool). record_now s p.dir p.group c.args.id ≡ None) st.1 (c.drop_ready.ensures.none s then is))
      | inr full ↦ inr full
    ]

-- ---- the damaged block

pub returns-in_err-make_way_for-clause-damaged : goal.returns-in_err-make_way_for-clause-damaged
returns-in_err-make_way_for-clause-damaged g c = λ at expected found is.
    let e = c.in_err-make_way_for in
    let was = err_from_is_err_and c.from_residual.result c.from_residual.ensures.1 in
    let pool = c.args.pool.now in
    let disks = (g.S.Shelf.world c.args.shelf.now).now.seen in
    damage_here (g.S.Shelf.tells c.args.shelf.now) (IsFoundToDrop c.args.id pool disks) c.args.id (λ o index. ⊥) pool disks at expected found (inl (refl, refl)) (λ s h. in_directory (e.ensures.damaged s h at expected found cc))

pub returns-clause-damaged : goal.returns-clause-damaged
returns-clause-damaged g c = λ at expected found is.
    let pool = c.args.pool.now in
    let shelf = c.args.shelf.now in
    let disks = (g.S.Shelf.world shelf).now.seen in
    let x = c.make_way_for.new.pool in
    let next = c.make_way_for.new.shelf in
    let way = c.in_ok-make_way_for.ensures in
    elim (can_take (new_object pool.group c.args.id) pool.group) [
      | inl can ↦
          let st = c.make_way_for.ensures.stays can in
          damage_here (g.S.Shelf.tells shelf) (IsFoundToDrop c.args.id pool disks) c.args.id (λ o index. ⊥) pool disks at expected found (inl (refl, refl)) (λ s h.
          let here = subst (λ x. HasBlocks (g.S.Shelf.tells x) (g.S.Shelf.world x).now.seen pool s) (sym st.2) h in
          let then = subst (λ (p : OpenPool). HasBlocks (g.S.Shelf.tells next) (g.S.Shelf.world next).now.seen p s) (sym st.1) here in
          subst (λ (p : OpenPool). IsDamageOf s p.dir p.group c.args.id (λ o index. ⊥) at expected found) st.1 (c.drop_ready.ensures.damaged s then at expected found is))
      | inr full ↦
          damage_behind (g.S.Shelf.tells shelf) (IsFoundToDrop c.args.id pool disks) c.args.id (λ o index. ⊥) pool disks at expected found (g.S.Shelf.tells next) c.make_way_for.ensures.told x (g.S.Shelf.world next).now.seen
          (inr (way.same tt, behind_full c.args.id pool.group x.group (way.group tt) way.takes full)) (λ objects h. way.objects objects h tt) (λ s h. c.drop_ready.ensures.damaged s h at expected found is)
    ]

-- ---- the last root

pub returns-in_err-make_way_for-clause-shown : goal.returns-in_err-make_way_for-clause-shown
returns-in_err-make_way_for-clause-shown g c = λ told answered.
    let x = c.from_residual in
    let gives = err_from_is_err_and x.result x.ensures.1 in
    let asked = c.in_err-make_way_for in
    asked.ensures.shown told (subst (λ (r : Result (Unit {0}) Fault). IsAnswered r) (gives.1 ∙ err_same gives.0 _ gives.2) answered)

pub returns-clause-shown : goal.returns-clause-shown
returns-clause-shown g c = λ told answered h. c.drop_ready.ensures.shown (c.make_way_for.ensures.told told) (c.in_ok-make_way_for.ensures.shown told tt h)

-- ---- one group

pub returns-then-id-gt65535-clause-one_group : goal.returns-then-id-gt65535-clause-one_group
returns-then-id-gt65535-clause-one_group g c = λ objects h answered. inl (in_group_itself c.args.pool.now (g.S.Shelf.world c.args.shelf.now))

pub returns-then-id-gt65535-clause-writes : goal.returns-then-id-gt65535-clause-writes
returns-then-id-gt65535-clause-writes g c = λ objects h. inl (in_group_itself c.args.pool.now (g.S.Shelf.world c.args.shelf.now)).written

pub returns-in_err-make_way_for-clause-one_group : goal.returns-in_err-make_way_for-clause-one_group
returns-in_err-make_way_for-clause-one_group g c = λ objects h answered.
    let x = c.from_residual in
    let gives = err_from_is_err_and x.result x.ensures.1 in
    let asked = c.in_err-make_way_for in
    asked.ensures.one_group objects h (subst (λ (r : Result (Unit {0}) Fault). IsAnswered r) (gives.1 ∙ err_same gives.0 _ gives.2) answered)

pub returns-in_err-make_way_for-clause-writes : goal.returns-in_err-make_way_for-clause-writes
returns-in_err-make_way_for-clause-writes g c = λ objects h. c.make_way_for.ensures.writes objects h

pub returns-clause-one_group : goal.returns-clause-one_group
returns-clause-one_group g c = λ objects h answered. one_group_more (c.in_ok-make_way_for.ensures.one_group objects h tt) (c.drop_ready.ensures.in_group (c.make_way_for.ensures.told h.held.told))

pub returns-clause-writes : goal.returns-clause-writes
returns-clause-writes g c = λ objects h.
    let dropped = c.drop_ready.ensures.in_group (c.make_way_for.ensures.told h.held.told) in
    one_group_writes (c.in_ok-make_way_for.ensures.one_group objects h tt) dropped.written
