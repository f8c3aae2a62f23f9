use Rattle.std.proofs.Common.{◌≡◌, ◌<◌, ap, sym, subst, length, ℕ, Some}
use Rattle.std.specs.Prelude.{IsTrue, is_some, option_map}
use Rattle.zr_txg.specs.Tables.{count_below, value_at}
use Rattle.zr_txg.specs.Changes.{Changes, ObjectChange}
use Rattle.zr_txg.proofs.Keyed.{count_below-at, value_at-at}
use Rattle.zr_txg.proofs.Counts.{Objects, is_changed}
use Rattle.zr_txg.proofs.group.Group.id_at.Goals as goal

pub returns-clause-changed : goal.returns-clause-changed
returns-clause-changed c =
    let e = c.index.result.now in
    let same = ap (λ (g : Changes). g.objects) c.self.view_is in
    let within = subst (λ (xs : Objects). c.args.i < length xs) (sym same) c.requires in
    let there = value_at-at 0 c.args.i c.self.inside.objects.items e c.self.invariant.rising within in
    let value = subst (λ (z : ℕ × ObjectChange). value_at c.self.inside.objects.items z.0 ≡ Some z.1) (sym c.index.ensures) there in
    subst (λ (xs : Objects). IsTrue (is_some (option_map (λ (c : ObjectChange). c.object) (value_at xs e.0)))) same (is_changed c.self.inside.objects.items e.0 e.1 value)

pub returns-clause-lower : goal.returns-clause-lower
returns-clause-lower c =
    let e = c.index.result.now in
    let same = ap (λ (g : Changes). g.objects) c.self.view_is in
    let within = subst (λ (xs : Objects). c.args.i < length xs) (sym same) c.requires in
    let lower = count_below-at 0 c.args.i c.self.inside.objects.items e c.self.invariant.rising within in
    subst (λ (xs : Objects). count_below xs e.0 ≡ c.args.i) same
    (subst (λ (z : ℕ × ObjectChange). count_below c.self.inside.objects.items z.0 ≡ c.args.i) (sym c.index.ensures) lower)
