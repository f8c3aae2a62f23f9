use Rattle.std.proofs.Common.{List, sym, subst}
use Rattle.zr_rules.specs.Equation.{devices_in}
use Rattle.zr_chain.specs.declared.visit.Visited.{Visited}
use Rattle.zr_chain.specs.Visits.{Visits}
use Rattle.zr_space.specs.FreeVisits.{CanFree}
use Rattle.zr_space.proofs.Freeing.{never_free, told_all}
use Rattle.zr_space.proofs.FreeWhole.{can_free}
use Rattle.zr_space.proofs.space.Space.visits.Goals as goal

pub unreachable-requires : goal.unreachable-requires
unreachable-requires c = never_free c.args.self.now c.args.a c.in-Err-NoEntry.field-0-0 c.in-Err-NoEntry.field-0-1 (rw c.in-Err-NoEntry.field-0-is at c.in-Err-NoEntry.ensures.nowhere) c.requires

pub returns-in-Ok-clause-can : goal.returns-in-Ok-clause-can
returns-in-Ok-clause-can c =
    let s = c.args.self.now in
    let v : Visits (devices_in s) c.args.a c.new-told.result.list.items c.remap.new.v.list.items = c.in-Ok.ensures.visits in
    subst (λ (vs : List Visited). CanFree s vs) (sym (told_all (devices_in s) c.args.a _ _ c.new-told.ensures v)) (can_free s c.args.a _ _ c.lawful.ensures.ranked c.requires v)
