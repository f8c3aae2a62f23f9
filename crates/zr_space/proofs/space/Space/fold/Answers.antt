use Rattle.std.proofs.Common.{◌≡◌, ◌∙◌, ◌<◌, length, None, sym, ap, subst}
use Rattle.zr_base.specs.declared.space.DevPart.{DevPart}
use Rattle.zr_base.specs.declared.space.DevState.TheVariants.{Gone}
use Rattle.zr_rules.specs.Places.{part_of, state_of_dev}
use Rattle.zr_rules.specs.Space.{Space}
use Rattle.zr_space.specs.Views.{Kept, kept_of, IsMoved}
use Rattle.zr_space.proofs.Views.{part_is, kept_read}
use Rattle.zr_space.proofs.Condensing.{known_gone, spared, fold_remapped, remapped_space, fold_remaps, either_way, on_ok}
use Rattle.zr_space.proofs.CondenseRoot.{moves_root}
use Rattle.zr_space.proofs.space.Space.fold.Goals as goal

pub fold-folded-requires : goal.fold-folded-requires
fold-folded-requires c =
    let devs = c.self.inside.devs.items in
    let d = c.args.dev in
    let k : Kept = record { row = c.device.inside.row; uses = c.device.inside.units; moves = c.device.inside.moves } in
    let there : d < length devs = known_gone c.self.inside.whole devs d (subst (λ (s : Space). state_of_dev s.parts.devs d ≡ Gone) (sym c.self.view_is) c.requires.gone) in
    let is : k ≡ kept_of devs d = c.device.view_is ∙ kept_read devs d c.index_mut-device.result.now there c.index_mut-device.ensures.value in
    let gone : k.row.state ≡ Gone = ap (λ (z : Kept). z.row.state) is ∙ (sym (ap (λ (p : DevPart). p.row.state) (part_is devs d)) ∙ subst (λ (s : Space). state_of_dev s.parts.devs d ≡ Gone) (sym c.self.view_is) c.requires.gone) in
    let none : c.self.inside.whole.cond ≡ None = ap (λ (s : Space). s.parts.cond) c.self.view_is ∙ c.requires.none in
    let was : IsMoved k.row k.moves = subst (λ (z : Kept). IsMoved z.row z.moves) (sym is) (c.self.invariant.moved d) in
    was.state ∙ gone

pub invariant_of-self : goal.invariant_of-self
invariant_of-self c =
    let devs = c.self.inside.devs.items in
    let d = c.args.dev in
    let k : Kept = record { row = c.device.inside.row; uses = c.device.inside.units; moves = c.device.inside.moves } in
    let there : d < length devs = known_gone c.self.inside.whole devs d (subst (λ (s : Space). state_of_dev s.parts.devs d ≡ Gone) (sym c.self.view_is) c.requires.gone) in
    let is : k ≡ kept_of devs d = c.device.view_is ∙ kept_read devs d c.index_mut-device.result.now there c.index_mut-device.ensures.value in
    let gone : k.row.state ≡ Gone = ap (λ (z : Kept). z.row.state) is ∙ (sym (ap (λ (p : DevPart). p.row.state) (part_is devs d)) ∙ subst (λ (s : Space). state_of_dev s.parts.devs d ≡ Gone) (sym c.self.view_is) c.requires.gone) in
    let none : c.self.inside.whole.cond ≡ None = ap (λ (s : Space). s.parts.cond) c.self.view_is ∙ c.requires.none in
    let was : IsMoved k.row k.moves = subst (λ (z : Kept). IsMoved z.row z.moves) (sym is) (c.self.invariant.moved d) in
    either_way c.fold-folded.result _ _ _ c.fold-folded.ensures.ok c.fold-folded.ensures.err
    (λ ok. remapped_space c.self.inside.whole c.self.inside.slabs devs d k c.fold-folded.new.self (fold_remapped c.self.inside.whole c.self.inside.slabs devs d k c.fold-folded.new.self c.self.invariant there is gone none c.lawful-2.ensures.gone ok))
    (λ err. remapped_space c.self.inside.whole c.self.inside.slabs devs d k c.fold-folded.new.self (spared c.self.inside.whole c.self.inside.slabs devs d k c.fold-folded.new.self c.self.invariant there is gone none c.lawful-2.ensures.gone err))

pub returns-clause-folds : goal.returns-clause-folds
returns-clause-folds c =
    let devs = c.self.inside.devs.items in
    let d = c.args.dev in
    let k : Kept = record { row = c.device.inside.row; uses = c.device.inside.units; moves = c.device.inside.moves } in
    let there : d < length devs = known_gone c.self.inside.whole devs d (subst (λ (s : Space). state_of_dev s.parts.devs d ≡ Gone) (sym c.self.view_is) c.requires.gone) in
    let is : k ≡ kept_of devs d = c.device.view_is ∙ kept_read devs d c.index_mut-device.result.now there c.index_mut-device.ensures.value in
    let gone : k.row.state ≡ Gone = ap (λ (z : Kept). z.row.state) is ∙ (sym (ap (λ (p : DevPart). p.row.state) (part_is devs d)) ∙ subst (λ (s : Space). state_of_dev s.parts.devs d ≡ Gone) (sym c.self.view_is) c.requires.gone) in
    let none : c.self.inside.whole.cond ≡ None = ap (λ (s : Space). s.parts.cond) c.self.view_is ∙ c.requires.none in
    let was : IsMoved k.row k.moves = subst (λ (z : Kept). IsMoved z.row z.moves) (sym is) (c.self.invariant.moved d) in
    rw (← c.self.view_is)
    (on_ok c.fold-folded.result _ _
    (λ ok. fold_remaps c.self.inside.whole c.self.inside.slabs devs d k c.fold-folded.new.self (fold_remapped c.self.inside.whole c.self.inside.slabs devs d k c.fold-folded.new.self c.self.invariant there is gone none c.lawful-2.ensures.gone ok) ok)
    c.fold-folded.ensures.ok)

pub returns-clause-each : goal.returns-clause-each
returns-clause-each c =
    let devs = c.self.inside.devs.items in
    let d = c.args.dev in
    let k : Kept = record { row = c.device.inside.row; uses = c.device.inside.units; moves = c.device.inside.moves } in
    let there : d < length devs = known_gone c.self.inside.whole devs d (subst (λ (s : Space). state_of_dev s.parts.devs d ≡ Gone) (sym c.self.view_is) c.requires.gone) in
    let is : k ≡ kept_of devs d = c.device.view_is ∙ kept_read devs d c.index_mut-device.result.now there c.index_mut-device.ensures.value in
    let gone : k.row.state ≡ Gone = ap (λ (z : Kept). z.row.state) is ∙ (sym (ap (λ (p : DevPart). p.row.state) (part_is devs d)) ∙ subst (λ (s : Space). state_of_dev s.parts.devs d ≡ Gone) (sym c.self.view_is) c.requires.gone) in
    let none : c.self.inside.whole.cond ≡ None = ap (λ (s : Space). s.parts.cond) c.self.view_is ∙ c.requires.none in
    let was : IsMoved k.row k.moves = subst (λ (z : Kept). IsMoved z.row z.moves) (sym is) (c.self.invariant.moved d) in
    subst (λ (s : Space). length (part_of s.parts.devs d).counts ≡ length (part_of s.parts.devs d).entries) c.self.view_is
    (subst (λ (p : DevPart). length p.counts ≡ length p.entries) (sym (part_is devs d)) (subst (λ (z : Kept). length z.moves.counts ≡ length z.moves.entries) is (c.lawful.ensures.gone (was.state ∙ gone)).counts.each))

pub returns-clause-root : goal.returns-clause-root
returns-clause-root c =
    let devs = c.self.inside.devs.items in
    let d = c.args.dev in
    let k : Kept = record { row = c.device.inside.row; uses = c.device.inside.units; moves = c.device.inside.moves } in
    let there : d < length devs = known_gone c.self.inside.whole devs d (subst (λ (s : Space). state_of_dev s.parts.devs d ≡ Gone) (sym c.self.view_is) c.requires.gone) in
    let is : k ≡ kept_of devs d = c.device.view_is ∙ kept_read devs d c.index_mut-device.result.now there c.index_mut-device.ensures.value in
    rw (← c.self.view_is)
    (on_ok c.fold-folded.result _ _
    (λ keeps. moves_root c.self.inside.whole devs d k c.fold-folded.new.self there is keeps)
    c.fold-folded.ensures.root)
