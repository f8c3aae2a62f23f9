use Rattle.std.proofs.Common.{◌≡◌, ◌∙◌, ◌<◌, false, true, List, map, length, sym, ap, subst, ⊎_elim, arith}
use Rattle.std.proofs.lemmas.Bool.{cases_lt}
use Rattle.std.proofs.lemmas.List.{length-map}
use Rattle.zr_base.specs.declared.space.DevPart.{DevPart}
use Rattle.zr_base.specs.declared.space.Entry.{Entry}
use Rattle.zr_rules.specs.Places.{part_of}
use Rattle.zr_rules.specs.Mappings.{entry_at}
use Rattle.zr_rules.specs.Space.{Space}
use Rattle.zr_chain.proofs.Counted.{IsRow, row_of, meets_in}
use Rattle.zr_space.specs.Freeing.{HasRoom}
use Rattle.zr_space.specs.Views.{Kept, kept_of, part_in}
use Rattle.zr_space.proofs.Views.{kept_read, part_is}
use Rattle.zr_space.proofs.Freeing.{IsRead, room_yes, room_no}
use Rattle.zr_space.proofs.space.Space.has_room.Goals as goal

false_true : false ≡ true → ⊥
false_true e = cc

pub returns-then-obsolete-hops_in : goal.returns-then-obsolete-hops_in
returns-then-obsolete-hops_in c =
    let devs = c.self.inside.devs.items in
    let d = c.args.dev in
    let k : Kept = record { row = c.device.inside.row; uses = c.device.inside.units; moves = c.device.inside.moves } in
    let known : d < length (map part_in devs) = subst (λ (s : Space). d < length s.parts.devs) (sym c.self.view_is) c.requires.known in
    let there : d < length devs = let e = length-map devs part_in in omega (arith, known, e) in
    let is : k ≡ kept_of devs d = c.device.view_is ∙ kept_read devs d c.index-device.result.now there c.index-device.ensures in
    let part : part_in k ≡ part_of c.args.self.now.parts.devs d = ap part_in is ∙ (sym (part_is devs d) ∙ ap (λ (s : Space). part_of s.parts.devs d) c.self.view_is) in
    let read : IsRead (part_in k) c.args.visits.now d c.loop-i.i c.obsolete_in-obsolete.result c.hops_in.result c.entry-entry.result = record {
      entry_is = c.entry-entry.ensures.value ∙ ap (λ (es : List Entry). entry_at es c.loop-i.i) (c.map-map.ensures ∙ ap (λ (p : DevPart). p.entries) (sym part));
      obsolete_is = c.obsolete_in-obsolete.ensures.units;
      hops_are = c.hops_in.ensures.hops;
    } in
    let es : List Entry = (part_of c.args.self.now.parts.devs d).entries in
    let row : IsRow es c.args.e.start c.args.e.len c.ended_by-i.result c.begun_before-i-end.result = row_of c.map-map.result.now.entries es _ _ _ _ c.map-map.ensures c.ended_by-i.ensures c.begun_before-i-end.ensures in
    let below : c.loop-i.i < length es = let w = row.end_is.within in omega (arith, w, c.loop-i-test.true) in (
      λ yes. absurd (false_true yes),
      λ room. absurd (room_no (part_in k) (part_of c.args.self.now.parts.devs d) c.args.visits.now d c.loop-i.i c.obsolete_in-obsolete.result c.hops_in.result c.entry-entry.result part read (omega arith)
          (room c.loop-i.i below (meets_in es c.args.e.start c.args.e.len c.ended_by-i.result c.begun_before-i-end.result row c.loop-i.i c.loop-i.auto.i c.loop-i-test.true))),
    )

pub loop-i-preserved : goal.loop-i-preserved
loop-i-preserved c =
    let devs = c.self.inside.devs.items in
    let d = c.args.dev in
    let k : Kept = record { row = c.device.inside.row; uses = c.device.inside.units; moves = c.device.inside.moves } in
    let known : d < length (map part_in devs) = subst (λ (s : Space). d < length s.parts.devs) (sym c.self.view_is) c.requires.known in
    let there : d < length devs = let e = length-map devs part_in in omega (arith, known, e) in
    let is : k ≡ kept_of devs d = c.device.view_is ∙ kept_read devs d c.index-device.result.now there c.index-device.ensures in
    let part : part_in k ≡ part_of c.args.self.now.parts.devs d = ap part_in is ∙ (sym (part_is devs d) ∙ ap (λ (s : Space). part_of s.parts.devs d) c.self.view_is) in
    let read : IsRead (part_in k) c.args.visits.now d c.loop-i.i c.obsolete_in-obsolete.result c.hops_in.result c.entry-entry.result = record {
      entry_is = c.entry-entry.ensures.value ∙ ap (λ (es : List Entry). entry_at es c.loop-i.i) (c.map-map.ensures ∙ ap (λ (p : DevPart). p.entries) (sym part));
      obsolete_is = c.obsolete_in-obsolete.ensures.units;
      hops_are = c.hops_in.ensures.hops;
    } in
    let here : HasRoom c.args.self.now c.args.visits.now d c.loop-i.i = room_yes (part_in k) (part_of c.args.self.now.parts.devs d) c.args.visits.now d c.loop-i.i c.obsolete_in-obsolete.result c.hops_in.result c.entry-entry.result part read (omega arith) in
    λ j ge lt. ⊎_elim
    (λ before. c.loop-i.invariant j ge before)
    (λ last. subst (HasRoom c.args.self.now c.args.visits.now d) (omega (arith, lt, last)) here)
    (cases_lt j c.loop-i.i)
