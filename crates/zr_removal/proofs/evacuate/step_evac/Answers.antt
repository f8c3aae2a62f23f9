use Rattle.std.proofs.Common.{◌≡◌, ◌∙◌, inl, inr, true, sym, ap, subst, arith}
use Rattle.zr_rules.specs.Places.{is_leaving, state_of_dev}
use Rattle.zr_rules.specs.Space.{Space}
use Rattle.zr_shelf.proofs.Doings.{writes_nothing}
use Rattle.zr_sync.proofs.Disks.{works_more}
use Rattle.zr_vdev.specs.Caches.{AreRead}
use Rattle.zr_vdev.specs.Stores.{IsWriteInto}
use Rattle.zr_vdev.specs.declared.kind.Kind.TheVariants.{Block}
use Rattle.zr_removal.specs.Trees.{IsClearOfMeta}
use Rattle.zr_removal.proofs.BackTrees.{trees_tried}
use Rattle.zr_removal.proofs.CopyTrees.{trees_copied}
use Rattle.zr_removal.proofs.Ending.{cancels_before, ends_before}
use Rattle.zr_removal.proofs.Outgoing.{copies_open, into_free, last_copied, objects_copied, objects_tried}
use Rattle.zr_removal.proofs.Returning.{stops_tried}
use Rattle.zr_removal.proofs.Uncopied.{not_copied}
use Rattle.zr_removal.proofs.evacuate.step_evac.Goals as goal

pub returns-in_err-finish_removal-in-Nothing-clause-disks : goal.returns-in_err-finish_removal-in-Nothing-clause-disks
returns-in_err-finish_removal-in-Nothing-clause-disks g c = λ t.
    works_more (g.S.Shelf.world c.args.shelf.now) (g.S.Shelf.world c.copy_next.new.shelf) (g.S.Shelf.world c.finish_removal.new.shelf) (c.copy_next.ensures.disks t) (c.finish_removal.ensures.disks (c.copy_next.ensures.told t))

pub returns-in_err-cancel_removal-in-Fault-clause-disks : goal.returns-in_err-cancel_removal-in-Fault-clause-disks
returns-in_err-cancel_removal-in-Fault-clause-disks g c = λ t.
    works_more (g.S.Shelf.world c.args.shelf.now) (g.S.Shelf.world c.copy_next.new.shelf) (g.S.Shelf.world c.cancel_removal.new.shelf) (c.copy_next.ensures.disks t) (c.cancel_removal.ensures.disks (c.copy_next.ensures.told t))

pub returns-in_ok-finish_removal-in-Nothing-clause-disks : goal.returns-in_ok-finish_removal-in-Nothing-clause-disks
returns-in_ok-finish_removal-in-Nothing-clause-disks g c = λ t.
    works_more (g.S.Shelf.world c.args.shelf.now) (g.S.Shelf.world c.copy_next.new.shelf) (g.S.Shelf.world c.finish_removal.new.shelf) (c.copy_next.ensures.disks t) (c.finish_removal.ensures.disks (c.copy_next.ensures.told t))

pub returns-in_ok-cancel_removal-in-Fault-clause-disks : goal.returns-in_ok-cancel_removal-in-Fault-clause-disks
returns-in_ok-cancel_removal-in-Fault-clause-disks g c = λ t.
    works_more (g.S.Shelf.world c.args.shelf.now) (g.S.Shelf.world c.copy_next.new.shelf) (g.S.Shelf.world c.cancel_removal.new.shelf) (c.copy_next.ensures.disks t) (c.cancel_removal.ensures.disks (c.copy_next.ensures.told t))

pub returns-in_ok-finish_removal-in-Nothing-clause-steps : goal.returns-in_ok-finish_removal-in-Nothing-clause-steps
returns-in_ok-finish_removal-in-Nothing-clause-steps g c =
    let x = c.args.pool.now in
    let tried = c.copy_next.new.pool in
    let d = c.in_ok-finish_removal-in-Nothing.field-0 in
    let space : tried.space ≡ x.space = c.in_ok-units.ensures.same (inl c.in-Nothing.is) in
    record {
      leaving = subst (λ (s : Space). is_leaving (state_of_dev s.parts.devs d) ≡ true) space c.in_ok-finish_removal-in-Nothing.ensures.leaving;
      copied = c.in_ok-units.ensures.nothing c.in-Nothing.is;
      tried = tried;
      same = c.copy_next.ensures.rest ∙ ap (λ (s : Space). record x { space = s; cache = tried.cache }) space;
      ends = ends_before (g.S.Shelf.sizes c.copy_next.new.shelf) (g.S.Shelf.sizes c.args.shelf.now) (g.S.Shelf.tells c.args.shelf.now) (g.S.Shelf.tells c.copy_next.new.shelf) (g.S.Shelf.world c.finish_removal.new.shelf) tried c.finish_removal.new.pool d
          c.copy_next.ensures.sizes c.copy_next.ensures.told c.in_ok-finish_removal-in-Nothing.ensures.ends;
    }

pub returns-in_ok-cancel_removal-in-Fault-clause-steps : goal.returns-in_ok-cancel_removal-in-Fault-clause-steps
returns-in_ok-cancel_removal-in-Fault-clause-steps g c =
    let x = c.args.pool.now in
    let tried = c.copy_next.new.pool in
    let d = c.in_ok-cancel_removal-in-Fault.field-0 in
    let space : tried.space ≡ x.space = c.in_ok-units.ensures.same (inr c.in-Fault.is) in
    let rose = c.in_ok-units.ensures.fault c.in-Fault.is in
    let fell = c.cancel_removal.ensures.none_fell.disk in
    record {
      leaving = subst (λ (s : Space). is_leaving (state_of_dev s.parts.devs d) ≡ true) space c.in_ok-cancel_removal-in-Fault.ensures.leaving;
      failed = omega (arith, rose, fell);
      tried = tried;
      same = c.copy_next.ensures.rest ∙ ap (λ (s : Space). record x { space = s; cache = tried.cache }) space;
      cancels = cancels_before (g.S.Shelf.sizes c.copy_next.new.shelf) (g.S.Shelf.sizes c.args.shelf.now) (g.S.Shelf.tells c.args.shelf.now) (g.S.Shelf.tells c.copy_next.new.shelf) (g.S.Shelf.world c.cancel_removal.new.shelf) tried c.cancel_removal.new.pool d
          c.copy_next.ensures.sizes c.copy_next.ensures.told c.in_ok-cancel_removal-in-Fault.ensures.cancels;
    }

-- ---- what a copy leaves

pub returns-in-Units-clause-objects : goal.returns-in-Units-clause-objects
returns-in-Units-clause-objects g c = λ objects h n is.
    let x = c.args.pool.now in
    let y = c.copy_next.new.pool in
    let old = c.args.shelf.now in
    let new = c.copy_next.new.shelf in
    let told = h.held.told in
    objects_copied c.args.pick.now.policy x y (g.S.Shelf.tells old) (g.S.Shelf.tells old) (g.S.Shelf.tells new) (g.S.Shelf.world old) (g.S.Shelf.world new) c.in-Units.units objects c.requires.pool.mounted.apart
    c.requires.pool.lawful c.copies_in_order.ensures.unkept c.copies_in_order.ensures.no_copies (c.in_ok-units.ensures.units c.in-Units.units c.in-Units.is)
    (c.copy_next.ensures.written told) (c.copy_next.ensures.read told) c.copy_next.ensures.rest (c.copy_next.ensures.told told) h

pub returns-in-Units-clause-trees : goal.returns-in-Units-clause-trees
returns-in-Units-clause-trees g c = λ trees told n is.
    let old = c.args.shelf.now in
    trees_copied c.args.pick.now.policy (g.S.Shelf.sizes old) c.args.pool.now c.copy_next.new.pool (g.S.Shelf.tells old) (g.S.Shelf.world old) (g.S.Shelf.world c.copy_next.new.shelf) c.in-Units.units c.requires.pool (c.in_ok-units.ensures.units c.in-Units.units c.in-Units.is)
    (c.copy_next.ensures.written told) c.in_ok-units.ensures.root (c.copy_next.ensures.read told) c.copy_next.ensures.rest trees

pub returns-in-Units-clause-shown : goal.returns-in-Units-clause-shown
returns-in-Units-clause-shown g c = λ told n is.
    let old = c.args.shelf.now in
    last_copied (g.S.Shelf.sizes old) c.args.pool.now c.copy_next.new.pool (g.S.Shelf.world old) (g.S.Shelf.world c.copy_next.new.shelf) c.requires.pool (g.S.Shelf.sound old told).sized (c.copy_next.ensures.written told) c.copy_next.ensures.rest

pub returns-in-Units-clause-rest : goal.returns-in-Units-clause-rest
returns-in-Units-clause-rest g c = λ n is. c.copy_next.ensures.rest

pub returns-in-Units-clause-written : goal.returns-in-Units-clause-written
returns-in-Units-clause-written g c = λ told n is. into_free c.args.pool.now.table.slots c.args.pool.now.space (g.S.Shelf.world c.args.shelf.now) (g.S.Shelf.world c.copy_next.new.shelf) (c.copy_next.ensures.written told)

pub returns-in-Units-clause-opens : goal.returns-in-Units-clause-opens
returns-in-Units-clause-opens g c = λ n is d u.
    let x = c.args.pool.now in
    let old = c.args.shelf.now in
    copies_open c.args.pick.now.policy x.table.slots (g.S.Shelf.tells old) (g.S.Shelf.world old) (g.S.Shelf.world c.copy_next.new.shelf) x.space c.copy_next.new.pool.space c.in-Units.units (c.in_ok-units.ensures.units c.in-Units.units c.in-Units.is) d u

-- ---- what a removal that is given up leaves

pub returns-in_ok-cancel_removal-in-Fault-clause-back_shown : goal.returns-in_ok-cancel_removal-in-Fault-clause-back_shown
returns-in_ok-cancel_removal-in-Fault-clause-back_shown g c = λ told d is h.
    let old = c.args.shelf.now in
    let mid = c.copy_next.new.shelf in
    c.in_ok-cancel_removal-in-Fault.ensures.shown (c.copy_next.ensures.told told)
    (last_copied (g.S.Shelf.sizes old) c.args.pool.now c.copy_next.new.pool (g.S.Shelf.world old) (g.S.Shelf.world mid) c.requires.pool (g.S.Shelf.sound old told).sized (c.copy_next.ensures.written told) c.copy_next.ensures.rest h)

pub returns-in_ok-cancel_removal-in-Fault-clause-back_ends : goal.returns-in_ok-cancel_removal-in-Fault-clause-back_ends
returns-in_ok-cancel_removal-in-Fault-clause-back_ends g c = λ objects h d is.
    let x = c.args.pool.now in
    let tried = c.copy_next.new.pool in
    let old = c.args.shelf.now in
    let mid = c.copy_next.new.shelf in
    let space : tried.space ≡ x.space = c.in_ok-units.ensures.same (inr c.in-Fault.is) in
    let same : tried ≡ record x { cache = tried.cache } = c.copy_next.ensures.rest ∙ ap (λ (s : Space). record x { space = s; cache = tried.cache }) space in
    let told = h.held.told in
    let held =
    objects_tried x tried (g.S.Shelf.tells old) (g.S.Shelf.tells mid) (g.S.Shelf.world old) (g.S.Shelf.world mid) objects c.requires.pool.mounted.apart (c.copy_next.ensures.written told)
    (λ read. subst (λ (s : Space). AreRead (g.S.Shelf.world mid).now.seen x.table.slots s tried.cache) space (c.copy_next.ensures.read told read)) same (c.copy_next.ensures.told told) h in
    c.in_ok-cancel_removal-in-Fault.ensures.ends objects held

pub returns-in_ok-cancel_removal-in-Fault-clause-back_objects : goal.returns-in_ok-cancel_removal-in-Fault-clause-back_objects
returns-in_ok-cancel_removal-in-Fault-clause-back_objects g c = λ objects h d is.
    let x = c.args.pool.now in
    let tried = c.copy_next.new.pool in
    let old = c.args.shelf.now in
    let mid = c.copy_next.new.shelf in
    let space : tried.space ≡ x.space = c.in_ok-units.ensures.same (inr c.in-Fault.is) in
    let same : tried ≡ record x { cache = tried.cache } = c.copy_next.ensures.rest ∙ ap (λ (s : Space). record x { space = s; cache = tried.cache }) space in
    let told = h.held.told in
    let held =
    objects_tried x tried (g.S.Shelf.tells old) (g.S.Shelf.tells mid) (g.S.Shelf.world old) (g.S.Shelf.world mid) objects c.requires.pool.mounted.apart (c.copy_next.ensures.written told)
    (λ read. subst (λ (s : Space). AreRead (g.S.Shelf.world mid).now.seen x.table.slots s tried.cache) space (c.copy_next.ensures.read told read)) same (c.copy_next.ensures.told told) h in
    c.in_ok-cancel_removal-in-Fault.ensures.objects objects held

pub returns-in_ok-cancel_removal-in-Fault-clause-back_trees : goal.returns-in_ok-cancel_removal-in-Fault-clause-back_trees
returns-in_ok-cancel_removal-in-Fault-clause-back_trees g c = λ trees told d is.
    let x = c.args.pool.now in
    let tried = c.copy_next.new.pool in
    let old = c.args.shelf.now in
    let mid = c.copy_next.new.shelf in
    let space : tried.space ≡ x.space = c.in_ok-units.ensures.same (inr c.in-Fault.is) in
    let same : tried ≡ record x { cache = tried.cache } = c.copy_next.ensures.rest ∙ ap (λ (s : Space). record x { space = s; cache = tried.cache }) space in
    let stand =
    trees_tried x tried (Unit {0}) (Unit {0}) (g.S.Shelf.world old) (g.S.Shelf.world mid) c.requires.pool.mounted.apart (c.copy_next.ensures.written told)
    (λ read. subst (λ (s : Space). AreRead (g.S.Shelf.world mid).now.seen x.table.slots s tried.cache) space (c.copy_next.ensures.read told read)) same tt trees in
    c.in_ok-cancel_removal-in-Fault.ensures.trees stand (c.copy_next.ensures.told told)

pub returns-in_ok-cancel_removal-in-Fault-clause-back_stops : goal.returns-in_ok-cancel_removal-in-Fault-clause-back_stops
returns-in_ok-cancel_removal-in-Fault-clause-back_stops g c = λ objects h d is.
    let old = c.args.shelf.now in
    let mid = c.copy_next.new.shelf in
    stops_tried (g.S.Shelf.sizes old) (g.S.Shelf.sizes mid) (g.S.Shelf.tells old) (g.S.Shelf.tells mid) objects c.args.pool.now c.copy_next.new.pool (g.S.Shelf.world old) (g.S.Shelf.world mid) (g.S.Shelf.world c.cancel_removal.new.shelf) c.requires.pool c.copy_next.ensures.sizes
    (c.in_ok-units.ensures.same (inr c.in-Fault.is)) c.copy_next.ensures.rest c.copy_next.ensures.written c.copy_next.ensures.read c.copy_next.ensures.told h (c.cancel_removal.ensures.stops objects)

-- ---- wherever it stops, while units are left to copy or no device is leaving

pub returns-in_err-demand_to_step-clause-stops : goal.returns-in_err-demand_to_step-clause-stops
returns-in_err-demand_to_step-clause-stops g c = λ left objects h. inl (writes_nothing (IsWriteInto Block c.args.pool.now.table.slots c.args.pool.now.space) (g.S.Shelf.world c.args.shelf.now))

pub returns-in_err-units-clause-stops : goal.returns-in_err-units-clause-stops
returns-in_err-units-clause-stops g c = λ left objects h.
    inl (into_free c.args.pool.now.table.slots c.args.pool.now.space (g.S.Shelf.world c.args.shelf.now) (g.S.Shelf.world c.copy_next.new.shelf) (c.copy_next.ensures.written h.held.told))

pub returns-in-Units-clause-stops : goal.returns-in-Units-clause-stops
returns-in-Units-clause-stops g c = λ left objects h.
    inl (into_free c.args.pool.now.table.slots c.args.pool.now.space (g.S.Shelf.world c.args.shelf.now) (g.S.Shelf.world c.copy_next.new.shelf) (c.copy_next.ensures.written h.held.told))

pub returns-in_err-finish_removal-in-Nothing-clause-stops : goal.returns-in_err-finish_removal-in-Nothing-clause-stops
returns-in_err-finish_removal-in-Nothing-clause-stops g c = λ left objects h. absurd (not_copied c.args.pool.now.space (left c.in_ok-demand_to_step.ensures.leaving) (c.in_ok-units.ensures.nothing c.in-Nothing.is))

pub returns-in_ok-finish_removal-in-Nothing-clause-stops : goal.returns-in_ok-finish_removal-in-Nothing-clause-stops
returns-in_ok-finish_removal-in-Nothing-clause-stops g c = λ left objects h. absurd (not_copied c.args.pool.now.space (left c.in_ok-demand_to_step.ensures.leaving) (c.in_ok-units.ensures.nothing c.in-Nothing.is))

pub returns-in_err-cancel_removal-in-Fault-clause-stops : goal.returns-in_err-cancel_removal-in-Fault-clause-stops
returns-in_err-cancel_removal-in-Fault-clause-stops g c = λ left objects h.
    let old = c.args.shelf.now in
    let mid = c.copy_next.new.shelf in
    stops_tried (g.S.Shelf.sizes old) (g.S.Shelf.sizes mid) (g.S.Shelf.tells old) (g.S.Shelf.tells mid) objects c.args.pool.now c.copy_next.new.pool (g.S.Shelf.world old) (g.S.Shelf.world mid) (g.S.Shelf.world c.cancel_removal.new.shelf) c.requires.pool c.copy_next.ensures.sizes
    (c.in_ok-units.ensures.same (inr c.in-Fault.is)) c.copy_next.ensures.rest c.copy_next.ensures.written c.copy_next.ensures.read c.copy_next.ensures.told h (c.cancel_removal.ensures.stops objects)

pub returns-in_ok-cancel_removal-in-Fault-clause-stops : goal.returns-in_ok-cancel_removal-in-Fault-clause-stops
returns-in_ok-cancel_removal-in-Fault-clause-stops g c = λ left objects h.
    let old = c.args.shelf.now in
    let mid = c.copy_next.new.shelf in
    stops_tried (g.S.Shelf.sizes old) (g.S.Shelf.sizes mid) (g.S.Shelf.tells old) (g.S.Shelf.tells mid) objects c.args.pool.now c.copy_next.new.pool (g.S.Shelf.world old) (g.S.Shelf.world mid) (g.S.Shelf.world c.cancel_removal.new.shelf) c.requires.pool c.copy_next.ensures.sizes
    (c.in_ok-units.ensures.same (inr c.in-Fault.is)) c.copy_next.ensures.rest c.copy_next.ensures.written c.copy_next.ensures.read c.copy_next.ensures.told h (c.cancel_removal.ensures.stops objects)

-- ---- what the end of a removal leaves, and copies

pub returns-in_ok-finish_removal-in-Nothing-clause-gone_shown : goal.returns-in_ok-finish_removal-in-Nothing-clause-gone_shown
returns-in_ok-finish_removal-in-Nothing-clause-gone_shown g c = λ told d is h.
    let old = c.args.shelf.now in
    let mid = c.copy_next.new.shelf in
    c.in_ok-finish_removal-in-Nothing.ensures.shown (c.copy_next.ensures.told told)
    (last_copied (g.S.Shelf.sizes old) c.args.pool.now c.copy_next.new.pool (g.S.Shelf.world old) (g.S.Shelf.world mid) c.requires.pool (g.S.Shelf.sound old told).sized (c.copy_next.ensures.written told) c.copy_next.ensures.rest h)

pub returns-in_ok-finish_removal-in-Nothing-clause-gone_objects : goal.returns-in_ok-finish_removal-in-Nothing-clause-gone_objects
returns-in_ok-finish_removal-in-Nothing-clause-gone_objects g c = λ copies objects h d is.
    let x = c.args.pool.now in
    let tried = c.copy_next.new.pool in
    let old = c.args.shelf.now in
    let mid = c.copy_next.new.shelf in
    let space : tried.space ≡ x.space = c.in_ok-units.ensures.same (inl c.in-Nothing.is) in
    let same : tried ≡ record x { cache = tried.cache } = c.copy_next.ensures.rest ∙ ap (λ (s : Space). record x { space = s; cache = tried.cache }) space in
    let told = h.held.told in
    let held =
    objects_tried x tried (g.S.Shelf.tells old) (g.S.Shelf.tells mid) (g.S.Shelf.world old) (g.S.Shelf.world mid) objects c.requires.pool.mounted.apart (c.copy_next.ensures.written told)
    (λ read. subst (λ (s : Space). AreRead (g.S.Shelf.world mid).now.seen x.table.slots s tried.cache) space (c.copy_next.ensures.read told read)) same (c.copy_next.ensures.told told) h in
    c.in_ok-finish_removal-in-Nothing.ensures.objects (c.copy_next.ensures.copies told copies) objects held

pub returns-in_ok-finish_removal-in-Nothing-clause-gone_trees : goal.returns-in_ok-finish_removal-in-Nothing-clause-gone_trees
returns-in_ok-finish_removal-in-Nothing-clause-gone_trees g c = λ clear trees told d is.
    let x = c.args.pool.now in
    let tried = c.copy_next.new.pool in
    let old = c.args.shelf.now in
    let mid = c.copy_next.new.shelf in
    let space : tried.space ≡ x.space = c.in_ok-units.ensures.same (inl c.in-Nothing.is) in
    let same : tried ≡ record x { cache = tried.cache } = c.copy_next.ensures.rest ∙ ap (λ (s : Space). record x { space = s; cache = tried.cache }) space in
    let stand =
    trees_tried x tried (Unit {0}) (Unit {0}) (g.S.Shelf.world old) (g.S.Shelf.world mid) c.requires.pool.mounted.apart (c.copy_next.ensures.written told)
    (λ read. subst (λ (s : Space). AreRead (g.S.Shelf.world mid).now.seen x.table.slots s tried.cache) space (c.copy_next.ensures.read told read)) same tt trees in
    c.in_ok-finish_removal-in-Nothing.ensures.trees (subst (λ (s : Space). IsClearOfMeta s) (sym space) clear) stand (c.copy_next.ensures.told told)

pub returns-in_ok-finish_removal-in-Nothing-clause-copies : goal.returns-in_ok-finish_removal-in-Nothing-clause-copies
returns-in_ok-finish_removal-in-Nothing-clause-copies g c = λ told stand. c.in_ok-finish_removal-in-Nothing.ensures.copies (c.copy_next.ensures.told told) (c.copy_next.ensures.copies told stand)

pub returns-in_ok-cancel_removal-in-Fault-clause-copies : goal.returns-in_ok-cancel_removal-in-Fault-clause-copies
returns-in_ok-cancel_removal-in-Fault-clause-copies g c = λ told stand. c.in_ok-cancel_removal-in-Fault.ensures.copies (c.copy_next.ensures.told told) (c.copy_next.ensures.copies told stand)
