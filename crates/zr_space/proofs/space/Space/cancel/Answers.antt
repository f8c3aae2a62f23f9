use Rattle.std.proofs.Common.{◌≡◌, ◌∙◌, ◌<◌, true, List, length, sym, ap, subst, arith}
use Rattle.std.proofs.Math.ListN.{set}
use Rattle.zr_rules.specs.Places.{is_leaving, state_of_dev}
use Rattle.zr_rules.specs.Space.{Space}
use Rattle.zr_rules.specs.Steps.{Cancels}
use Rattle.zr_space.specs.Leavings.{back_in_service}
use Rattle.zr_space.specs.Views.{Kept, kept_of, space_of, IsSpace}
use Rattle.zr_space.proofs.Cancelling.{IsCancelled, back_space, cancels}
use Rattle.zr_space.proofs.CancelRoot.{IsRootBut, cancel_root}
use Rattle.zr_space.proofs.Discards.{on_err}
use Rattle.zr_space.proofs.Ready.{leaving_as, leaving_there}
use Rattle.zr_space.proofs.Sames.{same_all, same_space_of}
use Rattle.zr_space.proofs.Views.{kept_read}
use Rattle.zr_space.proofs.space.Space.cancel.Goals as goal

pub invariant_of-self : goal.invariant_of-self
invariant_of-self c = same_all c.self.inside.whole c.self.inside.slabs c.self.inside.devs.items c.make_way.new.devs.items c.make_way.ensures.same c.self.invariant

pub returns-in_err-make_way-clause-err : goal.returns-in_err-make_way-clause-err
returns-in_err-make_way-clause-err c = on_err c.from_residual.result _ (same_space_of c.self.inside.whole c.self.inside.devs.items c.make_way.new.devs.items c.make_way.ensures.same ∙ c.self.view_is)

pub invariant_of-self-2 : goal.invariant_of-self-2
invariant_of-self-2 c =
    let whole = c.self.inside.whole in
    let devs : List Kept = c.make_way.new.devs.items in
    let mid : List Kept = c.give_up.new.devs.items in
    let d = c.in-Some.dev in
    let space : IsSpace whole c.self.inside.slabs devs = same_all whole c.self.inside.slabs c.self.inside.devs.items devs c.make_way.ensures.same c.self.invariant in
    let view : space_of whole devs ≡ c.args.self.now = same_space_of whole c.self.inside.devs.items devs c.make_way.ensures.same ∙ c.self.view_is in
    let leaving : is_leaving (kept_of devs d).row.state ≡ true = leaving_as whole devs d (subst (λ (s : Space). is_leaving (state_of_dev s.parts.devs d) ≡ true) (sym view) c.in-Some.ensures.some) in
    let there = leaving_there devs d leaving in
    let cancelled : IsCancelled whole c.self.inside.slabs c.give_up.new.slabs c.on.new.self devs mid d = record { space = space; there = there; leaving = leaving; gives = c.give_up.ensures; turns = c.on.ensures } in
    let mid_there : d < length mid = let n = c.give_up.ensures.count in omega (arith, there, n) in
    let is : c.index_mut-device.result.now ≡ kept_of mid d = kept_read mid d c.index_mut-device.result.now mid_there c.index_mut-device.ensures.value in
    let new : c.come_back.new.self ≡ back_in_service (kept_of mid d) = c.come_back.ensures ∙ ap back_in_service is in
    subst (λ (x : Kept). IsSpace whole c.on.new.self (set mid d x)) (sym new) (back_space whole c.self.inside.slabs c.give_up.new.slabs c.on.new.self devs mid d cancelled)

pub returns-clause-ok : goal.returns-clause-ok
returns-clause-ok c =
    let whole = c.self.inside.whole in
    let devs : List Kept = c.make_way.new.devs.items in
    let mid : List Kept = c.give_up.new.devs.items in
    let d = c.in-Some.dev in
    let space : IsSpace whole c.self.inside.slabs devs = same_all whole c.self.inside.slabs c.self.inside.devs.items devs c.make_way.ensures.same c.self.invariant in
    let view : space_of whole devs ≡ c.args.self.now = same_space_of whole c.self.inside.devs.items devs c.make_way.ensures.same ∙ c.self.view_is in
    let leaving : is_leaving (kept_of devs d).row.state ≡ true = leaving_as whole devs d (subst (λ (s : Space). is_leaving (state_of_dev s.parts.devs d) ≡ true) (sym view) c.in-Some.ensures.some) in
    let there = leaving_there devs d leaving in
    let cancelled : IsCancelled whole c.self.inside.slabs c.give_up.new.slabs c.on.new.self devs mid d = record { space = space; there = there; leaving = leaving; gives = c.give_up.ensures; turns = c.on.ensures } in
    let mid_there : d < length mid = let n = c.give_up.ensures.count in omega (arith, there, n) in
    let is : c.index_mut-device.result.now ≡ kept_of mid d = kept_read mid d c.index_mut-device.result.now mid_there c.index_mut-device.ensures.value in
    let new : c.come_back.new.self ≡ back_in_service (kept_of mid d) = c.come_back.ensures ∙ ap back_in_service is in
    subst (λ (s : Space). Cancels s (space_of whole (set mid d c.come_back.new.self)) d) view
    (subst (λ (x : Kept). Cancels (space_of whole devs) (space_of whole (set mid d x)) d) (sym new) (cancels whole c.self.inside.slabs c.give_up.new.slabs c.on.new.self devs mid d cancelled))

pub returns-clause-held : goal.returns-clause-held
returns-clause-held c =
    let whole = c.self.inside.whole in
    let devs : List Kept = c.make_way.new.devs.items in
    let mid : List Kept = c.give_up.new.devs.items in
    let d = c.in-Some.dev in
    let space : IsSpace whole c.self.inside.slabs devs = same_all whole c.self.inside.slabs c.self.inside.devs.items devs c.make_way.ensures.same c.self.invariant in
    let view : space_of whole devs ≡ c.args.self.now = same_space_of whole c.self.inside.devs.items devs c.make_way.ensures.same ∙ c.self.view_is in
    let leaving : is_leaving (kept_of devs d).row.state ≡ true = leaving_as whole devs d (subst (λ (s : Space). is_leaving (state_of_dev s.parts.devs d) ≡ true) (sym view) c.in-Some.ensures.some) in
    let there = leaving_there devs d leaving in
    let cancelled : IsCancelled whole c.self.inside.slabs c.give_up.new.slabs c.on.new.self devs mid d = record { space = space; there = there; leaving = leaving; gives = c.give_up.ensures; turns = c.on.ensures } in
    let mid_there : d < length mid = let n = c.give_up.ensures.count in omega (arith, there, n) in
    let is : c.index_mut-device.result.now ≡ kept_of mid d = kept_read mid d c.index_mut-device.result.now mid_there c.index_mut-device.ensures.value in
    let new : c.come_back.new.self ≡ back_in_service (kept_of mid d) = c.come_back.ensures ∙ ap back_in_service is in
    (subst (λ (s : Space). IsRootBut s (space_of whole (set mid d c.come_back.new.self)) d) view
    (subst (λ (x : Kept). IsRootBut (space_of whole devs) (space_of whole (set mid d x)) d) (sym new) (cancel_root whole c.self.inside.slabs c.give_up.new.slabs c.on.new.self devs mid d cancelled))).held

pub returns-clause-kept : goal.returns-clause-kept
returns-clause-kept c =
    let whole = c.self.inside.whole in
    let devs : List Kept = c.make_way.new.devs.items in
    let mid : List Kept = c.give_up.new.devs.items in
    let d = c.in-Some.dev in
    let space : IsSpace whole c.self.inside.slabs devs = same_all whole c.self.inside.slabs c.self.inside.devs.items devs c.make_way.ensures.same c.self.invariant in
    let view : space_of whole devs ≡ c.args.self.now = same_space_of whole c.self.inside.devs.items devs c.make_way.ensures.same ∙ c.self.view_is in
    let leaving : is_leaving (kept_of devs d).row.state ≡ true = leaving_as whole devs d (subst (λ (s : Space). is_leaving (state_of_dev s.parts.devs d) ≡ true) (sym view) c.in-Some.ensures.some) in
    let there = leaving_there devs d leaving in
    let cancelled : IsCancelled whole c.self.inside.slabs c.give_up.new.slabs c.on.new.self devs mid d = record { space = space; there = there; leaving = leaving; gives = c.give_up.ensures; turns = c.on.ensures } in
    let mid_there : d < length mid = let n = c.give_up.ensures.count in omega (arith, there, n) in
    let is : c.index_mut-device.result.now ≡ kept_of mid d = kept_read mid d c.index_mut-device.result.now mid_there c.index_mut-device.ensures.value in
    let new : c.come_back.new.self ≡ back_in_service (kept_of mid d) = c.come_back.ensures ∙ ap back_in_service is in
    (subst (λ (s : Space). IsRootBut s (space_of whole (set mid d c.come_back.new.self)) d) view
    (subst (λ (x : Kept). IsRootBut (space_of whole devs) (space_of whole (set mid d x)) d) (sym new) (cancel_root whole c.self.inside.slabs c.give_up.new.slabs c.on.new.self devs mid d cancelled))).kept

pub returns-clause-marks : goal.returns-clause-marks
returns-clause-marks c =
    let whole = c.self.inside.whole in
    let devs : List Kept = c.make_way.new.devs.items in
    let mid : List Kept = c.give_up.new.devs.items in
    let d = c.in-Some.dev in
    let space : IsSpace whole c.self.inside.slabs devs = same_all whole c.self.inside.slabs c.self.inside.devs.items devs c.make_way.ensures.same c.self.invariant in
    let view : space_of whole devs ≡ c.args.self.now = same_space_of whole c.self.inside.devs.items devs c.make_way.ensures.same ∙ c.self.view_is in
    let leaving : is_leaving (kept_of devs d).row.state ≡ true = leaving_as whole devs d (subst (λ (s : Space). is_leaving (state_of_dev s.parts.devs d) ≡ true) (sym view) c.in-Some.ensures.some) in
    let there = leaving_there devs d leaving in
    let cancelled : IsCancelled whole c.self.inside.slabs c.give_up.new.slabs c.on.new.self devs mid d = record { space = space; there = there; leaving = leaving; gives = c.give_up.ensures; turns = c.on.ensures } in
    let mid_there : d < length mid = let n = c.give_up.ensures.count in omega (arith, there, n) in
    let is : c.index_mut-device.result.now ≡ kept_of mid d = kept_read mid d c.index_mut-device.result.now mid_there c.index_mut-device.ensures.value in
    let new : c.come_back.new.self ≡ back_in_service (kept_of mid d) = c.come_back.ensures ∙ ap back_in_service is in
    (subst (λ (s : Space). IsRootBut s (space_of whole (set mid d c.come_back.new.self)) d) view
    (subst (λ (x : Kept). IsRootBut (space_of whole devs) (space_of whole (set mid d x)) d) (sym new) (cancel_root whole c.self.inside.slabs c.give_up.new.slabs c.on.new.self devs mid d cancelled))).marks

pub returns-clause-unmarked : goal.returns-clause-unmarked
returns-clause-unmarked c =
    let whole = c.self.inside.whole in
    let devs : List Kept = c.make_way.new.devs.items in
    let mid : List Kept = c.give_up.new.devs.items in
    let d = c.in-Some.dev in
    let space : IsSpace whole c.self.inside.slabs devs = same_all whole c.self.inside.slabs c.self.inside.devs.items devs c.make_way.ensures.same c.self.invariant in
    let view : space_of whole devs ≡ c.args.self.now = same_space_of whole c.self.inside.devs.items devs c.make_way.ensures.same ∙ c.self.view_is in
    let leaving : is_leaving (kept_of devs d).row.state ≡ true = leaving_as whole devs d (subst (λ (s : Space). is_leaving (state_of_dev s.parts.devs d) ≡ true) (sym view) c.in-Some.ensures.some) in
    let there = leaving_there devs d leaving in
    let cancelled : IsCancelled whole c.self.inside.slabs c.give_up.new.slabs c.on.new.self devs mid d = record { space = space; there = there; leaving = leaving; gives = c.give_up.ensures; turns = c.on.ensures } in
    let mid_there : d < length mid = let n = c.give_up.ensures.count in omega (arith, there, n) in
    let is : c.index_mut-device.result.now ≡ kept_of mid d = kept_read mid d c.index_mut-device.result.now mid_there c.index_mut-device.ensures.value in
    let new : c.come_back.new.self ≡ back_in_service (kept_of mid d) = c.come_back.ensures ∙ ap back_in_service is in
    (subst (λ (s : Space). IsRootBut s (space_of whole (set mid d c.come_back.new.self)) d) view
    (subst (λ (x : Kept). IsRootBut (space_of whole devs) (space_of whole (set mid d x)) d) (sym new) (cancel_root whole c.self.inside.slabs c.give_up.new.slabs c.on.new.self devs mid d cancelled))).unmarked
