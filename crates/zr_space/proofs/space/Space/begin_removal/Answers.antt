use Rattle.std.proofs.Common.{◌≡◌, ◌∙◌, ◌<◌, [], false, List, length, sym, ap, subst, arith}
use Rattle.std.proofs.Math.ListN.{set}
use Rattle.std.proofs.lemmas.List.{length-map}
use Rattle.zr_base.specs.declared.space.CkptPart.TheVariants.{Clear}
use Rattle.zr_base.specs.declared.space.DevPart.{DevPart}
use Rattle.zr_base.specs.declared.space.DevState.TheVariants.{On, Leaving}
use Rattle.zr_base.specs.declared.space.Entry.{Entry}
use Rattle.zr_base.specs.declared.space.Extent.{Extent}
use Rattle.zr_rules.specs.Places.{is_leaving, part_of, state_of_dev}
use Rattle.zr_rules.specs.Space.{Space}
use Rattle.zr_rules.specs.Steps.{Leaves}
use Rattle.zr_indirect.specs.Mapped.{Mapped}
use Rattle.zr_indirect.specs.Changes.{GoesOn}
use Rattle.zr_space.specs.Views.{Kept, kept_of, part_in, space_of, IsSpace}
use Rattle.zr_space.proofs.Views.{part_is, kept_read}
use Rattle.zr_space.proofs.Leaving.{IsBegun, leaves_space, begins}
use Rattle.zr_space.proofs.space.Space.begin_removal.Goals as goal

pub invariant_of-self-2 : goal.invariant_of-self-2
invariant_of-self-2 c =
    let devs : List Kept = c.self.inside.devs.items in
    let d = c.args.dev in
    let k : Kept = record { row = c.device.inside.row; uses = c.device.inside.units; moves = c.device.inside.moves } in
    let there : d < length devs = let l : d < length (space_of c.self.inside.whole devs).parts.devs = subst (λ (s : Space). d < length s.parts.devs) (sym c.self.view_is) c.requires.known in let e = length-map devs part_in in omega (arith, l, e) in
    let is : k ≡ kept_of devs d = c.device.view_is ∙ kept_read devs d c.index_mut-device.result.now there c.index_mut-device.ensures.value in
    let goes : GoesOn [] [] k.uses.held c.in_ok-moves.moves = subst (λ (es : List Entry). GoesOn es [] k.uses.held c.in_ok-moves.moves) c.new-map.ensures (subst (λ (es : List Extent). GoesOn c.new-map.result.entries es k.uses.held c.in_ok-moves.moves) c.new-marks.ensures (subst (λ (es : List Extent). GoesOn c.new-map.result.entries c.new-marks.result.extents es c.in_ok-moves.moves) (c.in_ok-held.ensures ∙ c.held.ensures) c.in_ok-moves.ensures)) in
    let begun : IsBegun c.self.inside.whole c.self.inside.slabs c.off.new.self devs d k c.in_ok-moves.moves = record {
      space = c.self.invariant;
      there = there;
      kept = is;
      on = ap (λ (z : Kept). z.row.state) is ∙ (sym (ap (λ (p : DevPart). p.row.state) (part_is devs d)) ∙ subst (λ (s : Space). state_of_dev s.parts.devs d ≡ On) (sym c.self.view_is) c.requires.on);
      alone = λ j. sym (ap (λ (p : DevPart). is_leaving p.row.state) (part_is devs j)) ∙ subst (λ (s : Space). is_leaving (state_of_dev s.parts.devs j) ≡ false) (sym c.self.view_is) (c.requires.alone j);
      begins = goes;
      leaves = c.lawful.ensures.leaving (ap (λ (y : Mapped). y.state) goes.all);
      turns = c.off.ensures;
      quiet = subst (λ (s : Space). s.parts.ckpt ≡ Clear) (sym c.self.view_is) c.requires.clear;
      unkept = ap (λ (z : Kept). z.uses.kept) is ∙ (sym (ap (λ (p : DevPart). p.kept) (part_is devs d)) ∙ subst (λ (s : Space). (part_of s.parts.devs d).kept ≡ []) (sym c.self.view_is) c.requires.unkept);
    } in
    let new : c.leave.new.self ≡ record { row = record k.row { state = Leaving }; uses = k.uses; moves = c.in_ok-moves.moves } = c.leave.ensures ∙ ap (λ (z : Kept). record { row = record z.row { state = Leaving }; uses = z.uses; moves = c.in_ok-moves.moves }) (sym c.device.view_is) in
    subst (λ (x : Kept). IsSpace c.self.inside.whole c.off.new.self (set devs d x)) (sym new) (leaves_space c.self.inside.whole c.self.inside.slabs c.off.new.self devs d k c.in_ok-moves.moves begun)

pub returns-clause-ok : goal.returns-clause-ok
returns-clause-ok c =
    let devs : List Kept = c.self.inside.devs.items in
    let d = c.args.dev in
    let k : Kept = record { row = c.device.inside.row; uses = c.device.inside.units; moves = c.device.inside.moves } in
    let there : d < length devs = let l : d < length (space_of c.self.inside.whole devs).parts.devs = subst (λ (s : Space). d < length s.parts.devs) (sym c.self.view_is) c.requires.known in let e = length-map devs part_in in omega (arith, l, e) in
    let is : k ≡ kept_of devs d = c.device.view_is ∙ kept_read devs d c.index_mut-device.result.now there c.index_mut-device.ensures.value in
    let goes : GoesOn [] [] k.uses.held c.in_ok-moves.moves = subst (λ (es : List Entry). GoesOn es [] k.uses.held c.in_ok-moves.moves) c.new-map.ensures (subst (λ (es : List Extent). GoesOn c.new-map.result.entries es k.uses.held c.in_ok-moves.moves) c.new-marks.ensures (subst (λ (es : List Extent). GoesOn c.new-map.result.entries c.new-marks.result.extents es c.in_ok-moves.moves) (c.in_ok-held.ensures ∙ c.held.ensures) c.in_ok-moves.ensures)) in
    let begun : IsBegun c.self.inside.whole c.self.inside.slabs c.off.new.self devs d k c.in_ok-moves.moves = record {
      space = c.self.invariant;
      there = there;
      kept = is;
      on = ap (λ (z : Kept). z.row.state) is ∙ (sym (ap (λ (p : DevPart). p.row.state) (part_is devs d)) ∙ subst (λ (s : Space). state_of_dev s.parts.devs d ≡ On) (sym c.self.view_is) c.requires.on);
      alone = λ j. sym (ap (λ (p : DevPart). is_leaving p.row.state) (part_is devs j)) ∙ subst (λ (s : Space). is_leaving (state_of_dev s.parts.devs j) ≡ false) (sym c.self.view_is) (c.requires.alone j);
      begins = goes;
      leaves = c.lawful.ensures.leaving (ap (λ (y : Mapped). y.state) goes.all);
      turns = c.off.ensures;
      quiet = subst (λ (s : Space). s.parts.ckpt ≡ Clear) (sym c.self.view_is) c.requires.clear;
      unkept = ap (λ (z : Kept). z.uses.kept) is ∙ (sym (ap (λ (p : DevPart). p.kept) (part_is devs d)) ∙ subst (λ (s : Space). (part_of s.parts.devs d).kept ≡ []) (sym c.self.view_is) c.requires.unkept);
    } in
    let new : c.leave.new.self ≡ record { row = record k.row { state = Leaving }; uses = k.uses; moves = c.in_ok-moves.moves } = c.leave.ensures ∙ ap (λ (z : Kept). record { row = record z.row { state = Leaving }; uses = z.uses; moves = c.in_ok-moves.moves }) (sym c.device.view_is) in
    rw (← c.self.view_is)
    (subst (λ (x : Kept). Leaves (space_of c.self.inside.whole devs) (space_of c.self.inside.whole (set devs d x)) d) (sym new) (begins c.self.inside.whole c.self.inside.slabs c.off.new.self devs d k c.in_ok-moves.moves begun))
