use Rattle.std.proofs.Common.{◌≡◌, ◌∙◌, ◌+◌, ◌*◌, ◌≤◌, sym, ap, subst, arith}
use Rattle.zr_rules.specs.Space.{Space}
use Rattle.zr_rules.specs.Columns.{on_units}
use Rattle.zr_rules.specs.Equation.{devices_in}
use Rattle.zr_space.specs.Totals.{AreFew, total_by, serving_by, all_units, units_ever, current_meta, late1_meta, late2_meta, all_words, all_streams, all_gone, all_left}
use Rattle.zr_space.specs.Paths.{AreInService}
use Rattle.zr_space.proofs.Sizing.{are_few, sizes_are, serving_few, units_ever_are, units_fit, units_there_few}
use Rattle.zr_space.proofs.Totalling.{units_here}
use Rattle.zr_space.proofs.space.Space.sizes.Goals as goal

pub meta_units-meta-requires : goal.meta_units-meta-requires
meta_units-meta-requires c = subst AreFew (sym c.as_slice-devs.ensures.value) (are_few c.self.inside.whole c.self.inside.slabs c.self.inside.devs.items c.self.invariant)

pub serving_meta-serving-requires : goal.serving_meta-serving-requires
serving_meta-serving-requires c = subst AreFew (sym c.as_slice-devs.ensures.value) (are_few c.self.inside.whole c.self.inside.slabs c.self.inside.devs.items c.self.invariant)

pub count_states-states-requires : goal.count_states-states-requires
count_states-states-requires c = subst AreFew (sym c.as_slice-devs.ensures.value) (are_few c.self.inside.whole c.self.inside.slabs c.self.inside.devs.items c.self.invariant)

pub words-requires : goal.words-requires
words-requires c = subst AreFew (sym c.as_slice-devs.ensures.value) (are_few c.self.inside.whole c.self.inside.slabs c.self.inside.devs.items c.self.invariant)

pub returns-clause-sizes : goal.returns-clause-sizes
returns-clause-sizes c =
    let items = c.as_slice-devs.ensures.value in
    let m = c.meta_units-meta.ensures in
    let v = c.serving_meta-serving.ensures in
    let n = c.count_states-states.ensures in
    let current = v.current ∙ ap (serving_by current_meta) items in
    let late1 = v.late1 ∙ ap (serving_by late1_meta) items in
    let late2 = v.late2 ∙ ap (serving_by late2_meta) items in
    let all = m.current ∙ ap (total_by current_meta) items in
    let all1 = m.late1 ∙ ap (total_by late1_meta) items in
    let all2 = m.late2 ∙ ap (total_by late2_meta) items in
    let two = c.max.ensures in
    let three = c.max-2.ensures in
    rw (← c.self.view_is)
    (sizes_are c.self.inside.whole c.self.inside.slabs c.self.inside.devs.items c.self.invariant
    c.words.result _ c.count_states-states.result.gone c.count_states-states.result.left _ c.max-2.result
    (c.words.ensures.words ∙ ap (all_words c.self.inside.whole.version) items)
    (ap (λ k. 2 + k) (n.streams ∙ ap all_streams items))
    (n.gone ∙ ap all_gone items)
    (n.left ∙ ap all_left items)
    (omega (arith, current, late1, late2))
    (omega (arith, two, three, all, all1, all2)))

pub returns-clause-words : goal.returns-clause-words
returns-clause-words c =
    let few = c.words.ensures.few in
    let all = ap all_units c.as_slice-devs.ensures.value ∙ sym (units_ever_are c.self.inside.devs.items) in
    subst (λ (s : Space). c.words.result ≤ 13 * units_ever s) c.self.view_is (omega (arith, few, all))

pub returns-clause-past : goal.returns-clause-past
returns-clause-past c =
    let devs = c.self.inside.devs.items in
    let few = c.meta_units-meta.ensures.few in
    let there = units_there_few devs (units_fit c.self.inside.whole c.self.inside.slabs devs c.self.invariant) in
    let items = ap (total_by (λ x. x.units)) c.as_slice-devs.ensures.value in
    let all = units_ever_are devs in
    let two = c.max.ensures in
    let three = c.max-2.ensures in
    subst (λ (s : Space). c.max-2.result ≤ units_ever s) c.self.view_is (omega (arith, few, there, items, all, two, three))

pub returns-clause-turning : goal.returns-clause-turning
returns-clause-turning c =
    let items = c.as_slice-devs.result.now in
    let m = c.meta_units-meta.ensures in
    let v = c.serving_meta-serving.ensures in
    let a = serving_few current_meta items in
    let b = serving_few late1_meta items in
    let d = serving_few late2_meta items in
    let two = c.max.ensures in
    let three = c.max-2.ensures in
    omega (arith, m.current, m.late1, m.late2, v.current, v.late1, v.late2, a, b, d, two, three)

pub returns-clause-uncopied : goal.returns-clause-uncopied
returns-clause-uncopied c =
    let few = c.count_states-states.ensures.few_left in
    let all = ap all_units c.as_slice-devs.ensures.value ∙ sym (units_ever_are c.self.inside.devs.items) in
    subst (λ (s : Space). c.count_states-states.result.left ≤ units_ever s) c.self.view_is (omega (arith, few, all))

pub returns-clause-service : goal.returns-clause-service
returns-clause-service c = λ service.
    subst (λ (s : Space). units_ever s ≡ on_units s) c.self.view_is
    (units_here c.self.inside.whole c.self.inside.slabs c.self.inside.devs.items c.self.invariant (subst (λ (s : Space). AreInService (devices_in s)) (sym c.self.view_is) service))
