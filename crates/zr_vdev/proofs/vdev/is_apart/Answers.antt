use Rattle.std.proofs.Common.{◌≡◌, ◌∙◌, List, Option, sym, ap, subst, not}
use Rattle.std.specs.Prelude.{IsTrue}
use Rattle.std.specs.List.{list_any}
use Rattle.zr_base.specs.declared.space.Dva.{Dva}
use Rattle.zr_chain.specs.declared.visit.Visited.{Visited}
use Rattle.zr_chain.specs.Visits.{Visits}
use Rattle.zr_rules.specs.Equation.{devices_in}
use Rattle.zr_space.proofs.Freeing.{told_all}
use Rattle.zr_vdev.specs.Stores.{IsApart, shares}
use Rattle.zr_vdev.proofs.Apart.{apart_is}
use Rattle.zr_vdev.proofs.Leading.{false_true}
use Rattle.zr_vdev.proofs.Reading.{leads_nowhere}
use Rattle.zr_vdev.proofs.vdev.is_apart.Goals as goal

pub returns-in-Ok : goal.returns-in-Ok
returns-in-Ok c =
    let ds = devices_in c.args.space.now in
    let v : Visits ds c.args.at.now c.new-told.result.list.items c.remap.new.v.list.items = c.in-Ok.ensures.visits in
    let told : c.as_slice.result.now ≡ v.visits = c.as_slice.ensures.value ∙ told_all ds c.args.at.now _ _ c.new-told.ensures v in
    subst (λ (o : Option Dva). (IsTrue (not c.meets_any-met.result) → IsApart ds o c.args.at.now) × (IsApart ds o c.args.at.now → IsTrue (not c.meets_any-met.result))) (sym c.in-Some.is)
    (apart_is ds c.in-Some.taken c.args.at.now _ _ c.requires v c.meets_any-met.result (c.meets_any-met.ensures ∙ ap (λ (vs : List Visited). list_any (shares c.in-Some.taken) vs) told))

pub unreachable-requires : goal.unreachable-requires
unreachable-requires c =
    false_true (sym (leads_nowhere (devices_in c.args.space.now) c.args.at.now c.in-Err-NoEntry.field-0-0 c.in-Err-NoEntry.field-0-1 (rw c.in-Err-NoEntry.field-0-is at c.in-Err-NoEntry.ensures.nowhere)) ∙ c.requires)
