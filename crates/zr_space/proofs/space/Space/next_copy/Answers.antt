use Rattle.std.proofs.Common.{◌≡◌, ◌∙◌, true, List, map, sym, subst}
use Rattle.zr_rules.specs.Places.{is_leaving, state_of_dev}
use Rattle.zr_rules.specs.Space.{Space}
use Rattle.zr_space.specs.Views.{Kept, kept_of, part_in}
use Rattle.zr_space.proofs.Lowests.{IsRead, lowest_some, lowest_none}
use Rattle.zr_space.proofs.Ready.{leaving_as, leaving_there}
use Rattle.zr_space.proofs.Views.{kept_read}
use Rattle.zr_space.proofs.space.Space.next_copy.Goals as goal

pub returns-clause-some : goal.returns-clause-some
returns-clause-some c =
    let devs : List Kept = c.self.inside.devs.items in
    let d = c.in_ok-dev.dev in
    let said : is_leaving (state_of_dev (map part_in devs) d) ≡ true = subst (λ (s : Space). is_leaving (state_of_dev s.parts.devs d) ≡ true) (sym c.self.view_is) c.in_ok-dev.ensures.some in
    let leaving = leaving_as c.self.inside.whole devs d said in
    let k : Kept = record { row = c.device.inside.row; uses = c.device.inside.units; moves = c.device.inside.moves } in
    let is : k ≡ kept_of devs d = c.device.view_is ∙ kept_read devs d c.index-device.result.now (leaving_there devs d leaving) c.index-device.ensures in
    let read : IsRead c.self.inside.whole c.self.inside.slabs devs d k c.held.result.now.extents c.opened.result = record { space = c.self.invariant; leaving = leaving; kept = is; held = c.held.ensures; opened = c.opened.ensures } in
    rw (← c.self.view_is) (lowest_some c.self.inside.whole c.self.inside.slabs devs d k c.held.result.now.extents c.opened.result read c.first_from.result c.first_from.ensures.some)

pub returns-clause-none : goal.returns-clause-none
returns-clause-none c =
    let devs : List Kept = c.self.inside.devs.items in
    let d = c.in_ok-dev.dev in
    let said : is_leaving (state_of_dev (map part_in devs) d) ≡ true = subst (λ (s : Space). is_leaving (state_of_dev s.parts.devs d) ≡ true) (sym c.self.view_is) c.in_ok-dev.ensures.some in
    let leaving = leaving_as c.self.inside.whole devs d said in
    let k : Kept = record { row = c.device.inside.row; uses = c.device.inside.units; moves = c.device.inside.moves } in
    let is : k ≡ kept_of devs d = c.device.view_is ∙ kept_read devs d c.index-device.result.now (leaving_there devs d leaving) c.index-device.ensures in
    let read : IsRead c.self.inside.whole c.self.inside.slabs devs d k c.held.result.now.extents c.opened.result = record { space = c.self.invariant; leaving = leaving; kept = is; held = c.held.ensures; opened = c.opened.ensures } in
    rw (← c.self.view_is) (lowest_none c.self.inside.whole c.self.inside.slabs devs d k c.held.result.now.extents c.opened.result read c.first_from.result c.first_from.ensures.none)
