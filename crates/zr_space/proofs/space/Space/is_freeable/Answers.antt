use Rattle.std.proofs.Common.{◌≡◌, ◌∙◌, false, true, All, List, sym, subst, arith}
use Rattle.zr_rules.specs.Equation.{devices_in}
use Rattle.zr_chain.specs.declared.visit.Visited.{Visited}
use Rattle.zr_chain.specs.Visits.{Visits}
use Rattle.zr_space.specs.Freeing.{IsKnown, MayFree}
use Rattle.zr_space.proofs.Freeing.{all_known, freeable, may_free, never_free, told_all}
use Rattle.zr_space.proofs.space.Space.is_freeable.Goals as goal

false_true : false ≡ true → ⊥
false_true e = cc

pub may_free-requires : goal.may_free-requires
may_free-requires c =
    let s = c.args.self.now in
    let v : Visits (devices_in s) c.args.a c.new-told.result.list.items c.remap.new.v.list.items = c.in-Ok.ensures.visits in
    let told : c.as_slice.result.now ≡ v.visits = c.as_slice.ensures.value ∙ told_all (devices_in s) c.args.a _ _ c.new-told.ensures v in
    subst (λ (vs : List Visited). All (IsKnown (devices_in s)) vs) (sym told) (all_known s c.args.a _ _ (omega arith) c.lawful.ensures.ranked c.in-Ok.ensures.resolved v)

pub returns-in-Ok : goal.returns-in-Ok
returns-in-Ok c =
    let s = c.args.self.now in
    let v : Visits (devices_in s) c.args.a c.new-told.result.list.items c.remap.new.v.list.items = c.in-Ok.ensures.visits in
    let told : c.as_slice.result.now ≡ v.visits = c.as_slice.ensures.value ∙ told_all (devices_in s) c.args.a _ _ c.new-told.ensures v in (
      λ yes. freeable s c.args.a _ _ (omega arith) c.lawful.ensures.ranked c.in-Ok.ensures.resolved v (subst (MayFree s) told (c.may_free.ensures.0 yes)),
      λ free. c.may_free.ensures.1 (subst (MayFree s) (sym told) (may_free s c.args.a _ _ (omega arith) c.lawful.ensures.ranked c.in-Ok.ensures.resolved v free)),
    )

pub returns-in-Err-NoEntry : goal.returns-in-Err-NoEntry
returns-in-Err-NoEntry c = (
  λ yes. absurd (false_true yes),
  λ free. absurd (never_free c.args.self.now c.args.a c.in-Err-NoEntry.field-0-0 c.in-Err-NoEntry.field-0-1 (rw c.in-Err-NoEntry.field-0-is at c.in-Err-NoEntry.ensures.nowhere) free),
)
