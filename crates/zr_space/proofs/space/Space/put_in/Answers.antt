use Rattle.std.proofs.Common.{◌≡◌, ◌∙◌, ◌<◌, length, None, sym, ap, subst}
use Rattle.zr_base.specs.declared.space.DevPart.{DevPart}
use Rattle.zr_base.specs.declared.space.DevState.TheVariants.{Gone}
use Rattle.zr_rules.specs.Places.{part_of, state_of_dev}
use Rattle.zr_rules.specs.Space.{Space}
use Rattle.zr_space.specs.Views.{Kept, kept_of, part_in, IsMoved}
use Rattle.zr_space.proofs.Views.{part_is, kept_read}
use Rattle.zr_indirect.proofs.Condensing.{counts_condensed}
use Rattle.zr_space.specs.Condensing.{IsCondensed}
use Rattle.zr_space.proofs.Condensing.{known_gone, put_remapped, remapped_space, put_remaps}
use Rattle.zr_space.proofs.CondenseRoot.{moves_root, put_root}
use Rattle.zr_space.proofs.space.Space.put_in.Goals as goal

pub replace-requires-clause-gone : goal.replace-requires-clause-gone
replace-requires-clause-gone c =
    let devs = c.self.inside.devs.items in
    let d = c.args.dev in
    let k : Kept = record { row = c.device.inside.row; uses = c.device.inside.units; moves = c.device.inside.moves } in
    let there : d < length devs = known_gone c.self.inside.whole devs d (subst (λ (s : Space). state_of_dev s.parts.devs d ≡ Gone) (sym c.self.view_is) c.requires.gone) in
    let is : k ≡ kept_of devs d = c.device.view_is ∙ kept_read devs d c.index_mut-device.result.now there c.index_mut-device.ensures.value in
    let gone : k.row.state ≡ Gone = ap (λ (z : Kept). z.row.state) is ∙ (sym (ap (λ (p : DevPart). p.row.state) (part_is devs d)) ∙ subst (λ (s : Space). state_of_dev s.parts.devs d ≡ Gone) (sym c.self.view_is) c.requires.gone) in
    let none : c.self.inside.whole.cond ≡ None = ap (λ (s : Space). s.parts.cond) c.self.view_is ∙ c.requires.none in
    let was : IsMoved k.row k.moves = subst (λ (z : Kept). IsMoved z.row z.moves) (sym is) (c.self.invariant.moved d) in
    was.state ∙ gone

pub replace-requires-clause-counts : goal.replace-requires-clause-counts
replace-requires-clause-counts c =
    let devs = c.self.inside.devs.items in
    let d = c.args.dev in
    let k : Kept = record { row = c.device.inside.row; uses = c.device.inside.units; moves = c.device.inside.moves } in
    let there : d < length devs = known_gone c.self.inside.whole devs d (subst (λ (s : Space). state_of_dev s.parts.devs d ≡ Gone) (sym c.self.view_is) c.requires.gone) in
    let is : k ≡ kept_of devs d = c.device.view_is ∙ kept_read devs d c.index_mut-device.result.now there c.index_mut-device.ensures.value in
    let gone : k.row.state ≡ Gone = ap (λ (z : Kept). z.row.state) is ∙ (sym (ap (λ (p : DevPart). p.row.state) (part_is devs d)) ∙ subst (λ (s : Space). state_of_dev s.parts.devs d ≡ Gone) (sym c.self.view_is) c.requires.gone) in
    let none : c.self.inside.whole.cond ≡ None = ap (λ (s : Space). s.parts.cond) c.self.view_is ∙ c.requires.none in
    let was : IsMoved k.row k.moves = subst (λ (z : Kept). IsMoved z.row z.moves) (sym is) (c.self.invariant.moved d) in
    let condensed : IsCondensed (part_in k) c.args.map.entries c.args.counts.items = subst (λ (z : Kept). IsCondensed (part_in z) c.args.map.entries c.args.counts.items) (sym is) (subst (λ (p : DevPart). IsCondensed p c.args.map.entries c.args.counts.items) (part_is devs d) (subst (λ (s : Space). IsCondensed (part_of s.parts.devs d) c.args.map.entries c.args.counts.items) (sym c.self.view_is) c.requires.condensed)) in
    counts_condensed k.moves.entries k.moves.counts k.moves.fresh c.args.map.entries c.args.counts.items (c.lawful.ensures.gone (was.state ∙ gone)).counts condensed.each condensed.kept

pub invariant_of-self : goal.invariant_of-self
invariant_of-self c =
    let devs = c.self.inside.devs.items in
    let d = c.args.dev in
    let k : Kept = record { row = c.device.inside.row; uses = c.device.inside.units; moves = c.device.inside.moves } in
    let there : d < length devs = known_gone c.self.inside.whole devs d (subst (λ (s : Space). state_of_dev s.parts.devs d ≡ Gone) (sym c.self.view_is) c.requires.gone) in
    let is : k ≡ kept_of devs d = c.device.view_is ∙ kept_read devs d c.index_mut-device.result.now there c.index_mut-device.ensures.value in
    let gone : k.row.state ≡ Gone = ap (λ (z : Kept). z.row.state) is ∙ (sym (ap (λ (p : DevPart). p.row.state) (part_is devs d)) ∙ subst (λ (s : Space). state_of_dev s.parts.devs d ≡ Gone) (sym c.self.view_is) c.requires.gone) in
    let none : c.self.inside.whole.cond ≡ None = ap (λ (s : Space). s.parts.cond) c.self.view_is ∙ c.requires.none in
    let was : IsMoved k.row k.moves = subst (λ (z : Kept). IsMoved z.row z.moves) (sym is) (c.self.invariant.moved d) in
    let condensed : IsCondensed (part_in k) c.args.map.entries c.args.counts.items = subst (λ (z : Kept). IsCondensed (part_in z) c.args.map.entries c.args.counts.items) (sym is) (subst (λ (p : DevPart). IsCondensed p c.args.map.entries c.args.counts.items) (part_is devs d) (subst (λ (s : Space). IsCondensed (part_of s.parts.devs d) c.args.map.entries c.args.counts.items) (sym c.self.view_is) c.requires.condensed)) in
    let same = c.replace.ensures in
    remapped_space c.self.inside.whole c.self.inside.slabs devs d k c.replace.new.self
    (put_remapped c.self.inside.whole c.self.inside.slabs devs d k c.replace.new.self c.args.map.entries c.args.counts.items c.self.invariant there is gone none c.lawful-2.ensures.gone same condensed.each condensed.kept)

pub returns-clause-remaps : goal.returns-clause-remaps
returns-clause-remaps c =
    let devs = c.self.inside.devs.items in
    let d = c.args.dev in
    let k : Kept = record { row = c.device.inside.row; uses = c.device.inside.units; moves = c.device.inside.moves } in
    let there : d < length devs = known_gone c.self.inside.whole devs d (subst (λ (s : Space). state_of_dev s.parts.devs d ≡ Gone) (sym c.self.view_is) c.requires.gone) in
    let is : k ≡ kept_of devs d = c.device.view_is ∙ kept_read devs d c.index_mut-device.result.now there c.index_mut-device.ensures.value in
    let gone : k.row.state ≡ Gone = ap (λ (z : Kept). z.row.state) is ∙ (sym (ap (λ (p : DevPart). p.row.state) (part_is devs d)) ∙ subst (λ (s : Space). state_of_dev s.parts.devs d ≡ Gone) (sym c.self.view_is) c.requires.gone) in
    let none : c.self.inside.whole.cond ≡ None = ap (λ (s : Space). s.parts.cond) c.self.view_is ∙ c.requires.none in
    let was : IsMoved k.row k.moves = subst (λ (z : Kept). IsMoved z.row z.moves) (sym is) (c.self.invariant.moved d) in
    let condensed : IsCondensed (part_in k) c.args.map.entries c.args.counts.items = subst (λ (z : Kept). IsCondensed (part_in z) c.args.map.entries c.args.counts.items) (sym is) (subst (λ (p : DevPart). IsCondensed p c.args.map.entries c.args.counts.items) (part_is devs d) (subst (λ (s : Space). IsCondensed (part_of s.parts.devs d) c.args.map.entries c.args.counts.items) (sym c.self.view_is) c.requires.condensed)) in
    let same = c.replace.ensures in
    rw (← c.self.view_is)
    (put_remaps c.self.inside.whole c.self.inside.slabs devs d k c.replace.new.self c.args.map.entries c.args.counts.items
    (put_remapped c.self.inside.whole c.self.inside.slabs devs d k c.replace.new.self c.args.map.entries c.args.counts.items c.self.invariant there is gone none c.lawful-2.ensures.gone same condensed.each condensed.kept) same)

pub returns-clause-root : goal.returns-clause-root
returns-clause-root c =
    let devs = c.self.inside.devs.items in
    let d = c.args.dev in
    let k : Kept = record { row = c.device.inside.row; uses = c.device.inside.units; moves = c.device.inside.moves } in
    let there : d < length devs = known_gone c.self.inside.whole devs d (subst (λ (s : Space). state_of_dev s.parts.devs d ≡ Gone) (sym c.self.view_is) c.requires.gone) in
    let is : k ≡ kept_of devs d = c.device.view_is ∙ kept_read devs d c.index_mut-device.result.now there c.index_mut-device.ensures.value in
    rw (← c.self.view_is)
    (moves_root c.self.inside.whole devs d k c.replace.new.self there is (put_root k.moves c.replace.new.self c.args.map.entries c.args.counts.items c.replace.ensures))
