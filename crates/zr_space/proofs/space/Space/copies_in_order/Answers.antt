use Rattle.std.proofs.Common.{◌≡◌, true, sym, subst}
use Rattle.zr_rules.specs.Places.{is_leaving, state_of_dev}
use Rattle.zr_rules.specs.Roles.{is_copy_role}
use Rattle.zr_rules.specs.Space.{Space, role_at}
use Rattle.zr_space.specs.Leavings.{HasSource}
use Rattle.zr_space.proofs.CopyOrder.{IsInOrder, in_order}
use Rattle.zr_space.proofs.CopySources.{copy_source}
use Rattle.zr_space.proofs.space.Space.copies_in_order.Goals as goal

pub returns-clause-copied : goal.returns-clause-copied
returns-clause-copied c = λ d u is.
    let said = subst (λ (s : Space). is_leaving (state_of_dev s.parts.devs d) ≡ true) (sym c.self.view_is) is in
    (subst (λ (s : Space). IsInOrder s d u) c.self.view_is (in_order c.self.inside.whole c.self.inside.slabs c.self.inside.devs.items d u c.self.invariant said)).copied

pub returns-clause-unmarked : goal.returns-clause-unmarked
returns-clause-unmarked c = λ d u is.
    let said = subst (λ (s : Space). is_leaving (state_of_dev s.parts.devs d) ≡ true) (sym c.self.view_is) is in
    (subst (λ (s : Space). IsInOrder s d u) c.self.view_is (in_order c.self.inside.whole c.self.inside.slabs c.self.inside.devs.items d u c.self.invariant said)).unmarked

pub returns-clause-clear : goal.returns-clause-clear
returns-clause-clear c = λ d is.
    let said = subst (λ (s : Space). is_leaving (state_of_dev s.parts.devs d) ≡ true) (sym c.self.view_is) is in
    (subst (λ (s : Space). IsInOrder s d 0) c.self.view_is (in_order c.self.inside.whole c.self.inside.slabs c.self.inside.devs.items d 0 c.self.invariant said)).clear

pub returns-clause-no_copies : goal.returns-clause-no_copies
returns-clause-no_copies c = λ d u is.
    let said = subst (λ (s : Space). is_leaving (state_of_dev s.parts.devs d) ≡ true) (sym c.self.view_is) is in
    (subst (λ (s : Space). IsInOrder s d u) c.self.view_is (in_order c.self.inside.whole c.self.inside.slabs c.self.inside.devs.items d u c.self.invariant said)).no_copies

pub returns-clause-unkept : goal.returns-clause-unkept
returns-clause-unkept c = λ d u is.
    let said = subst (λ (s : Space). is_leaving (state_of_dev s.parts.devs d) ≡ true) (sym c.self.view_is) is in
    (subst (λ (s : Space). IsInOrder s d u) c.self.view_is (in_order c.self.inside.whole c.self.inside.slabs c.self.inside.devs.items d u c.self.invariant said)).unkept

pub returns-clause-sources : goal.returns-clause-sources
returns-clause-sources c = λ e v is.
    let said = subst (λ (s : Space). is_copy_role (role_at s e v) ≡ true) (sym c.self.view_is) is in
    subst (λ (s : Space). HasSource s e v) c.self.view_is (copy_source c.self.inside.whole c.self.inside.slabs c.self.inside.devs.items e v c.self.invariant said)
