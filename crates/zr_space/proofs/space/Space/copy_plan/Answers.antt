use Rattle.std.proofs.Common.{◌≡◌, ◌∙◌, ℕ, true, List, map, min, sym, subst}
use Rattle.zr_metaslab.specs.Devices.{free_of}
use Rattle.zr_rules.specs.Columns as columns
use Rattle.zr_rules.specs.Placement.{HasRunSomewhere}
use Rattle.zr_rules.specs.Places.{is_leaving, state_of_dev}
use Rattle.zr_rules.specs.Space.{Space}
use Rattle.zr_space.specs.Copying.{TakesHalf}
use Rattle.zr_space.specs.Plans.{IsLowestOf, Plans}
use Rattle.zr_space.specs.Views.{Kept, part_in, space_of}
use Rattle.zr_space.proofs.Keeps.{same_free}
use Rattle.zr_space.proofs.Placing.{same_back, somewhere}
use Rattle.zr_space.proofs.Planning.{has_place}
use Rattle.zr_space.proofs.Ready.{leaving_as}
use Rattle.zr_space.proofs.Sames.{same_all, same_space_of}
use Rattle.zr_space.proofs.Underway.{IsBegun, plan_for, begun_plans, begun_under}
use Rattle.zr_space.proofs.space.Space.copy_plan.Goals as goal

pub invariant_of-result : goal.invariant_of-result
invariant_of-result g c = same_all c.self.inside.whole c.self.inside.slabs c.self.inside.devs.items c.make_room.new.devs.items c.make_room.ensures.same c.self.invariant

pub returns-in-Err-clause-err : goal.returns-in-Err-clause-err
returns-in-Err-clause-err g c = same_space_of c.self.inside.whole c.self.inside.devs.items c.make_room.new.devs.items c.make_room.ensures.same ∙ c.self.view_is

pub unreachable-requires-in_default-take_half : goal.unreachable-requires-in_default-take_half
unreachable-requires-in_default-take_half g c =
    let whole = c.self.inside.whole in
    let slabs = c.self.inside.slabs in
    let devs : List Kept = c.self.inside.devs.items in
    let low = c.requires.lowest in
    has_place c.args.self low.0 c.args.front c.lawful.ensures.lawful low.1 c.requires.room
    (subst (λ (s : Space). HasRunSomewhere (columns.free_of s) 1 → ⊥) c.self.view_is
    (λ run. c.in_default-take_half.ensures.none (somewhere (columns.free_of (space_of whole devs)) (free_of slabs) 1 (same_back (free_of slabs) (columns.free_of (space_of whole devs)) (same_free whole slabs devs c.self.invariant)) run)))

pub invariant_of-result-2 : goal.invariant_of-result-2
invariant_of-result-2 g c =
    let whole = c.self.inside.whole in
    let slabs = c.self.inside.slabs in
    let devs : List Kept = c.self.inside.devs.items in
    let next : List Kept = c.make_room.new.devs.items in
    let low = c.requires.lowest in
    let d = c.in-Some.dev in
    let front = c.args.front in
    let said : is_leaving (state_of_dev (map part_in devs) d) ≡ true = subst (λ (s : Space). is_leaving (state_of_dev s.parts.devs d) ≡ true) (sym c.self.view_is) c.in-Some.ensures.some in
    let there : IsLowestOf (space_of whole devs) low.0 front = subst (λ (s : Space). IsLowestOf s low.0 front) (sym c.self.view_is) low.1 in
    let alone : low.0 ≡ d = c.self.invariant.single low.0 d (leaving_as whole devs low.0 there.leaving) (leaving_as whole devs d said) in
    let to = c.in-Some-take_half.to in
    let policy = c.args.chooser.now.policy in
    let half : TakesHalf policy (min 256 front.len) slabs c.take_half.new.slabs to = subst (λ (n : ℕ). TakesHalf policy n slabs c.take_half.new.slabs to) c.min.ensures c.in-Some-take_half.ensures.some in
    let begun : IsBegun policy whole slabs c.take_half.new.slabs devs next d front to = record {
      space = c.self.invariant;
      same = c.make_room.ensures.same;
      lowest = subst (λ i. IsLowestOf (space_of whole devs) i front) alone there;
      half = half;
      units = c.in_default-make_room.ensures.changes;
      room = c.in_default-make_room.ensures.moves;
    } in
    rw c.from.ensures (begun_under policy whole slabs c.take_half.new.slabs devs next d front to begun)

pub returns-clause-plan : goal.returns-clause-plan
returns-clause-plan g c =
    let whole = c.self.inside.whole in
    let slabs = c.self.inside.slabs in
    let devs : List Kept = c.self.inside.devs.items in
    let next : List Kept = c.make_room.new.devs.items in
    let low = c.requires.lowest in
    let d = c.in-Some.dev in
    let front = c.args.front in
    let said : is_leaving (state_of_dev (map part_in devs) d) ≡ true = subst (λ (s : Space). is_leaving (state_of_dev s.parts.devs d) ≡ true) (sym c.self.view_is) c.in-Some.ensures.some in
    let there : IsLowestOf (space_of whole devs) low.0 front = subst (λ (s : Space). IsLowestOf s low.0 front) (sym c.self.view_is) low.1 in
    let alone : low.0 ≡ d = c.self.invariant.single low.0 d (leaving_as whole devs low.0 there.leaving) (leaving_as whole devs d said) in
    let to = c.in-Some-take_half.to in
    let policy = c.args.chooser.now.policy in
    let half : TakesHalf policy (min 256 front.len) slabs c.take_half.new.slabs to = subst (λ (n : ℕ). TakesHalf policy n slabs c.take_half.new.slabs to) c.min.ensures c.in-Some-take_half.ensures.some in
    let begun : IsBegun policy whole slabs c.take_half.new.slabs devs next d front to = record {
      space = c.self.invariant;
      same = c.make_room.ensures.same;
      lowest = subst (λ i. IsLowestOf (space_of whole devs) i front) alone there;
      half = half;
      units = c.in_default-make_room.ensures.changes;
      room = c.in_default-make_room.ensures.moves;
    } in
    rw c.from.ensures (subst (λ (s : Space). Plans policy s d (plan_for front to)) c.self.view_is (begun_plans policy whole slabs c.take_half.new.slabs devs next d front to begun))

pub returns-clause-before : goal.returns-clause-before
returns-clause-before g c = same_space_of c.self.inside.whole c.self.inside.devs.items c.make_room.new.devs.items c.make_room.ensures.same ∙ c.self.view_is
