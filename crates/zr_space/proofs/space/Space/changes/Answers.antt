use Rattle.std.proofs.Common.{◌≡◌, ◌∙◌, ◌<◌, length, sym, subst, arith}
use Rattle.std.proofs.lemmas.List.{length-map}
use Rattle.zr_rules.specs.Space.{Space}
use Rattle.zr_units.specs.Apart.{AreSetsApart}
use Rattle.zr_space.specs.Views.{Kept, kept_of, part_in, space_of}
use Rattle.zr_space.proofs.Views.{kept_read}
use Rattle.zr_space.proofs.Gains.{born_apart, came_apart, gains_held, gains_kept, gains_fresh, ok_as}
use Rattle.zr_space.proofs.space.Space.changes.Goals as goal

pub changes-requires : goal.changes-requires
changes-requires c =
    let k : Kept = record { row = c.behind-self.inside.row; uses = c.behind-self.inside.units; moves = c.behind-self.inside.moves } in
    let there : c.args.dev < length c.self.inside.devs.items = let l : c.args.dev < length (space_of c.self.inside.whole c.self.inside.devs.items).parts.devs = subst (λ (s : Space). c.args.dev < length s.parts.devs) (sym c.self.view_is) c.requires in let e = length-map c.self.inside.devs.items part_in in omega (arith, l, e) in
    let is : k ≡ kept_of c.self.inside.devs.items c.args.dev = c.behind-self.view_is ∙ kept_read c.self.inside.devs.items c.args.dev c.index.result.now there c.index.ensures in
    subst (λ (z : Kept). AreSetsApart z.uses.born z.uses.freed.blocks) (sym is) (born_apart _ _ _ (c.self.invariant.account c.args.dev))

pub kept_changes-requires : goal.kept_changes-requires
kept_changes-requires c =
    let k : Kept = record { row = c.behind-self-in-Kept.inside.row; uses = c.behind-self-in-Kept.inside.units; moves = c.behind-self-in-Kept.inside.moves } in
    let there : c.args.dev < length c.self.inside.devs.items = let l : c.args.dev < length (space_of c.self.inside.whole c.self.inside.devs.items).parts.devs = subst (λ (s : Space). c.args.dev < length s.parts.devs) (sym c.self.view_is) c.requires in let e = length-map c.self.inside.devs.items part_in in omega (arith, l, e) in
    let is : k ≡ kept_of c.self.inside.devs.items c.args.dev = c.behind-self-in-Kept.view_is ∙ kept_read c.self.inside.devs.items c.args.dev c.index-in-Kept.result.now there c.index-in-Kept.ensures in
    subst (λ (z : Kept). AreSetsApart z.uses.came z.uses.went) (sym is) (came_apart _ _ _ (c.self.invariant.account c.args.dev))

pub returns-in-Held : goal.returns-in-Held
returns-in-Held c =
    let k : Kept = record { row = c.behind-self.inside.row; uses = c.behind-self.inside.units; moves = c.behind-self.inside.moves } in
    let there : c.args.dev < length c.self.inside.devs.items = let l : c.args.dev < length (space_of c.self.inside.whole c.self.inside.devs.items).parts.devs = subst (λ (s : Space). c.args.dev < length s.parts.devs) (sym c.self.view_is) c.requires in let e = length-map c.self.inside.devs.items part_in in omega (arith, l, e) in
    let is : k ≡ kept_of c.self.inside.devs.items c.args.dev = c.behind-self.view_is ∙ kept_read c.self.inside.devs.items c.args.dev c.index.result.now there c.index.ensures in
    rw (← c.self.view_is) rw c.in-Held.is
    (ok_as c.changes.result _ _ (λ cs m. gains_held c.self.inside.whole c.self.inside.slabs c.self.inside.devs.items c.args.dev k cs.items c.self.invariant is m) c.changes.ensures)

pub returns-in-Kept : goal.returns-in-Kept
returns-in-Kept c =
    let k : Kept = record { row = c.behind-self-in-Kept.inside.row; uses = c.behind-self-in-Kept.inside.units; moves = c.behind-self-in-Kept.inside.moves } in
    let there : c.args.dev < length c.self.inside.devs.items = let l : c.args.dev < length (space_of c.self.inside.whole c.self.inside.devs.items).parts.devs = subst (λ (s : Space). c.args.dev < length s.parts.devs) (sym c.self.view_is) c.requires in let e = length-map c.self.inside.devs.items part_in in omega (arith, l, e) in
    let is : k ≡ kept_of c.self.inside.devs.items c.args.dev = c.behind-self-in-Kept.view_is ∙ kept_read c.self.inside.devs.items c.args.dev c.index-in-Kept.result.now there c.index-in-Kept.ensures in
    rw (← c.self.view_is) rw c.in-Kept.is
    (ok_as c.kept_changes.result _ _ (λ cs m. gains_kept c.self.inside.whole c.self.inside.slabs c.self.inside.devs.items c.args.dev k cs.items c.self.invariant is m) c.kept_changes.ensures)

pub returns-in-Fresh : goal.returns-in-Fresh
returns-in-Fresh c =
    let k : Kept = record { row = c.behind-self-in-Fresh.inside.row; uses = c.behind-self-in-Fresh.inside.units; moves = c.behind-self-in-Fresh.inside.moves } in
    let there : c.args.dev < length c.self.inside.devs.items = let l : c.args.dev < length (space_of c.self.inside.whole c.self.inside.devs.items).parts.devs = subst (λ (s : Space). c.args.dev < length s.parts.devs) (sym c.self.view_is) c.requires in let e = length-map c.self.inside.devs.items part_in in omega (arith, l, e) in
    let is : k ≡ kept_of c.self.inside.devs.items c.args.dev = c.behind-self-in-Fresh.view_is ∙ kept_read c.self.inside.devs.items c.args.dev c.index-in-Fresh.result.now there c.index-in-Fresh.ensures in
    rw (← c.self.view_is) rw c.in-Fresh.is
    (ok_as c.changes-in-Fresh.result _ _ (λ cs m. gains_fresh c.self.inside.whole c.self.inside.devs.items c.args.dev k cs.items is m) c.changes-in-Fresh.ensures)
