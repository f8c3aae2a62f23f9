use Rattle.std.proofs.Common.{◌≡◌, ◌∙◌, ◌<◌, ◌==◌, false, List, length, sym, ap, subst, arith}
use Rattle.std.proofs.Math.ListN.{set}
use Rattle.std.proofs.lemmas.Bool.Decides.{nat_tests}
use Rattle.std.proofs.lemmas.List.{length-set}
use Rattle.zr_base.specs.Extents.{has_unit}
use Rattle.zr_evac.specs.Evacuations.{IsFront}
use Rattle.zr_indirect.specs.Mapped.{Mapped}
use Rattle.zr_metaslab.specs.Devices.{extent_of}
use Rattle.zr_rules.specs.Frees.{IsSameRoot}
use Rattle.zr_units.specs.Changes.{HoldsCopy}
use Rattle.zr_space.specs.Copying.{Underway, IsUnderway}
use Rattle.zr_space.specs.Plans.{MakesCopy}
use Rattle.zr_space.specs.Views.{Kept, kept_of, space_of}
use Rattle.zr_space.specs.declared.copy.Plan.{Plan}
use Rattle.zr_space.proofs.Underway.{IsDone, known, unheld, unborn, away, source_there, source_state, source_front, done_space, done_makes}
use Rattle.zr_space.proofs.CopyRoot.{done_root}
use Rattle.zr_space.proofs.Views.{kept_read, kept_other}
use Rattle.zr_space.proofs.copying.Copying.done.Goals as goal

pub hold_copy-requires-clause-held : goal.hold_copy-requires-clause-held
hold_copy-requires-clause-held c =
    let whole = c.self.inside.whole in
    let slabs = c.self.inside.slabs in
    let devs : List Kept = c.self.inside.devs.items in
    let d = c.self.inside.dev in
    let p : Plan = c.self.inside.plan in
    let under : IsUnderway whole slabs devs d p = c.self.invariant in
    let k1 : Kept = record { row = c.place.inside.row; uses = c.place.inside.units; moves = c.place.inside.moves } in
    let is1 : k1 ≡ kept_of devs p.to.dev = c.place.view_is ∙ kept_read devs p.to.dev c.index_mut-place.result.now (known whole slabs devs d p under) c.index_mut-place.ensures.value in
    rw c.extent_of.ensures (λ u at. ap (λ (k : Kept). has_unit k.uses.held u) is1 ∙ unheld whole slabs devs d p under u at)

pub hold_copy-requires-clause-born : goal.hold_copy-requires-clause-born
hold_copy-requires-clause-born c =
    let whole = c.self.inside.whole in
    let slabs = c.self.inside.slabs in
    let devs : List Kept = c.self.inside.devs.items in
    let d = c.self.inside.dev in
    let p : Plan = c.self.inside.plan in
    let under : IsUnderway whole slabs devs d p = c.self.invariant in
    let k1 : Kept = record { row = c.place.inside.row; uses = c.place.inside.units; moves = c.place.inside.moves } in
    let is1 : k1 ≡ kept_of devs p.to.dev = c.place.view_is ∙ kept_read devs p.to.dev c.index_mut-place.result.now (known whole slabs devs d p under) c.index_mut-place.ensures.value in
    rw c.extent_of.ensures (λ u at. ap (λ (k : Kept). has_unit k.uses.born u) is1 ∙ unborn whole slabs devs d p under u at)

pub hold_copy-requires-clause-room : goal.hold_copy-requires-clause-room
hold_copy-requires-clause-room c =
    let whole = c.self.inside.whole in
    let slabs = c.self.inside.slabs in
    let devs : List Kept = c.self.inside.devs.items in
    let d = c.self.inside.dev in
    let p : Plan = c.self.inside.plan in
    let under : IsUnderway whole slabs devs d p = c.self.invariant in
    let k1 : Kept = record { row = c.place.inside.row; uses = c.place.inside.units; moves = c.place.inside.moves } in
    let is1 : k1 ≡ kept_of devs p.to.dev = c.place.view_is ∙ kept_read devs p.to.dev c.index_mut-place.result.now (known whole slabs devs d p under) c.index_mut-place.ensures.value in
    let room = under.units in
    let same = ap (λ (k : Kept). k.uses.spare) is1 in
    omega (arith, room, same)

pub copied-requires-clause-leaving : goal.copied-requires-clause-leaving
copied-requires-clause-leaving c =
    let whole = c.self.inside.whole in
    let slabs = c.self.inside.slabs in
    let devs : List Kept = c.self.inside.devs.items in
    let d = c.self.inside.dev in
    let p : Plan = c.self.inside.plan in
    let under : IsUnderway whole slabs devs d p = c.self.invariant in
    let k1 : Kept = record { row = c.place.inside.row; uses = c.place.inside.units; moves = c.place.inside.moves } in
    let is1 : k1 ≡ kept_of devs p.to.dev = c.place.view_is ∙ kept_read devs p.to.dev c.index_mut-place.result.now (known whole slabs devs d p under) c.index_mut-place.ensures.value in
    let y = c.hold_copy.new.self in
    let holds : HoldsCopy k1.uses y (extent_of p.to) = rw c.extent_of.ensures at c.hold_copy.ensures in
    let x1 : Kept = record { row = k1.row; uses = y; moves = k1.moves } in
    let k2 : Kept = record { row = c.source.inside.row; uses = c.source.inside.units; moves = c.source.inside.moves } in
    let there2 : d < length (set devs p.to.dev x1) = let l = length-set devs p.to.dev x1 in let t = source_there whole slabs devs d p under k1 y is1 holds in omega (arith, l, t) in
    let off : (d == p.to.dev) ≡ false = let a = away whole slabs devs d p under k1 y is1 holds in grind (arith, nat_tests, a) in
    let is2 : k2 ≡ kept_of devs d = c.source.view_is ∙ (kept_read (set devs p.to.dev x1) d c.index_mut-source.result.now there2 c.index_mut-source.ensures.value ∙ kept_other devs p.to.dev d x1 off) in
    ap (λ (k : Kept). k.moves.state) is2 ∙ source_state whole slabs devs d p under k1 y is1 holds

pub copied-requires-clause-front : goal.copied-requires-clause-front
copied-requires-clause-front c =
    let whole = c.self.inside.whole in
    let slabs = c.self.inside.slabs in
    let devs : List Kept = c.self.inside.devs.items in
    let d = c.self.inside.dev in
    let p : Plan = c.self.inside.plan in
    let under : IsUnderway whole slabs devs d p = c.self.invariant in
    let k1 : Kept = record { row = c.place.inside.row; uses = c.place.inside.units; moves = c.place.inside.moves } in
    let is1 : k1 ≡ kept_of devs p.to.dev = c.place.view_is ∙ kept_read devs p.to.dev c.index_mut-place.result.now (known whole slabs devs d p under) c.index_mut-place.ensures.value in
    let y = c.hold_copy.new.self in
    let holds : HoldsCopy k1.uses y (extent_of p.to) = rw c.extent_of.ensures at c.hold_copy.ensures in
    let x1 : Kept = record { row = k1.row; uses = y; moves = k1.moves } in
    let k2 : Kept = record { row = c.source.inside.row; uses = c.source.inside.units; moves = c.source.inside.moves } in
    let there2 : d < length (set devs p.to.dev x1) = let l = length-set devs p.to.dev x1 in let t = source_there whole slabs devs d p under k1 y is1 holds in omega (arith, l, t) in
    let off : (d == p.to.dev) ≡ false = let a = away whole slabs devs d p under k1 y is1 holds in grind (arith, nat_tests, a) in
    let is2 : k2 ≡ kept_of devs d = c.source.view_is ∙ (kept_read (set devs p.to.dev x1) d c.index_mut-source.result.now there2 c.index_mut-source.ensures.value ∙ kept_other devs p.to.dev d x1 off) in
    subst (λ (k : Kept). IsFront k.moves.left p.from) (sym is2) (source_front whole slabs devs d p under k1 y is1 holds)

pub invariant_of-result : goal.invariant_of-result
invariant_of-result c =
    let whole = c.self.inside.whole in
    let slabs = c.self.inside.slabs in
    let devs : List Kept = c.self.inside.devs.items in
    let d = c.self.inside.dev in
    let p : Plan = c.self.inside.plan in
    let under : IsUnderway whole slabs devs d p = c.self.invariant in
    let k1 : Kept = record { row = c.place.inside.row; uses = c.place.inside.units; moves = c.place.inside.moves } in
    let is1 : k1 ≡ kept_of devs p.to.dev = c.place.view_is ∙ kept_read devs p.to.dev c.index_mut-place.result.now (known whole slabs devs d p under) c.index_mut-place.ensures.value in
    let y = c.hold_copy.new.self in
    let holds : HoldsCopy k1.uses y (extent_of p.to) = rw c.extent_of.ensures at c.hold_copy.ensures in
    let x1 : Kept = record { row = k1.row; uses = y; moves = k1.moves } in
    let k2 : Kept = record { row = c.source.inside.row; uses = c.source.inside.units; moves = c.source.inside.moves } in
    let there2 : d < length (set devs p.to.dev x1) = let l = length-set devs p.to.dev x1 in let t = source_there whole slabs devs d p under k1 y is1 holds in omega (arith, l, t) in
    let off : (d == p.to.dev) ≡ false = let a = away whole slabs devs d p under k1 y is1 holds in grind (arith, nat_tests, a) in
    let is2 : k2 ≡ kept_of devs d = c.source.view_is ∙ (kept_read (set devs p.to.dev x1) d c.index_mut-source.result.now there2 c.index_mut-source.ensures.value ∙ kept_other devs p.to.dev d x1 off) in
    let m = c.copied.new.self in
    let made : IsDone whole slabs devs d p k1 k2 y m = record {
      under = under;
      first = is1;
      second = is2;
      holds = holds;
      copies = c.copied.ensures.copied;
      leaves = c.lawful.ensures.leaving (ap (λ (z : Mapped). z.state) c.copied.ensures.copied.others ∙ (ap (λ (k : Kept). k.moves.state) is2 ∙ source_state whole slabs devs d p under k1 y is1 holds));
    } in
    done_space whole slabs devs d p k1 k2 y m made

pub returns-clause-made : goal.returns-clause-made
returns-clause-made c =
    let whole = c.self.inside.whole in
    let slabs = c.self.inside.slabs in
    let devs : List Kept = c.self.inside.devs.items in
    let d = c.self.inside.dev in
    let p : Plan = c.self.inside.plan in
    let under : IsUnderway whole slabs devs d p = c.self.invariant in
    let k1 : Kept = record { row = c.place.inside.row; uses = c.place.inside.units; moves = c.place.inside.moves } in
    let is1 : k1 ≡ kept_of devs p.to.dev = c.place.view_is ∙ kept_read devs p.to.dev c.index_mut-place.result.now (known whole slabs devs d p under) c.index_mut-place.ensures.value in
    let y = c.hold_copy.new.self in
    let holds : HoldsCopy k1.uses y (extent_of p.to) = rw c.extent_of.ensures at c.hold_copy.ensures in
    let x1 : Kept = record { row = k1.row; uses = y; moves = k1.moves } in
    let k2 : Kept = record { row = c.source.inside.row; uses = c.source.inside.units; moves = c.source.inside.moves } in
    let there2 : d < length (set devs p.to.dev x1) = let l = length-set devs p.to.dev x1 in let t = source_there whole slabs devs d p under k1 y is1 holds in omega (arith, l, t) in
    let off : (d == p.to.dev) ≡ false = let a = away whole slabs devs d p under k1 y is1 holds in grind (arith, nat_tests, a) in
    let is2 : k2 ≡ kept_of devs d = c.source.view_is ∙ (kept_read (set devs p.to.dev x1) d c.index_mut-source.result.now there2 c.index_mut-source.ensures.value ∙ kept_other devs p.to.dev d x1 off) in
    let m = c.copied.new.self in
    let made : IsDone whole slabs devs d p k1 k2 y m = record {
      under = under;
      first = is1;
      second = is2;
      holds = holds;
      copies = c.copied.ensures.copied;
      leaves = c.lawful.ensures.leaving (ap (λ (z : Mapped). z.state) c.copied.ensures.copied.others ∙ (ap (λ (k : Kept). k.moves.state) is2 ∙ source_state whole slabs devs d p under k1 y is1 holds));
    } in
    subst (λ (z : Underway). MakesCopy z.before (space_of whole (set (set devs p.to.dev x1) d (record k2 { moves = m }))) z.dev z.plan) c.self.view_is (done_makes whole slabs devs d p k1 k2 y m made)

pub returns-clause-root : goal.returns-clause-root
returns-clause-root c =
    let whole = c.self.inside.whole in
    let slabs = c.self.inside.slabs in
    let devs : List Kept = c.self.inside.devs.items in
    let d = c.self.inside.dev in
    let p : Plan = c.self.inside.plan in
    let under : IsUnderway whole slabs devs d p = c.self.invariant in
    let k1 : Kept = record { row = c.place.inside.row; uses = c.place.inside.units; moves = c.place.inside.moves } in
    let is1 : k1 ≡ kept_of devs p.to.dev = c.place.view_is ∙ kept_read devs p.to.dev c.index_mut-place.result.now (known whole slabs devs d p under) c.index_mut-place.ensures.value in
    let y = c.hold_copy.new.self in
    let holds : HoldsCopy k1.uses y (extent_of p.to) = rw c.extent_of.ensures at c.hold_copy.ensures in
    let x1 : Kept = record { row = k1.row; uses = y; moves = k1.moves } in
    let k2 : Kept = record { row = c.source.inside.row; uses = c.source.inside.units; moves = c.source.inside.moves } in
    let there2 : d < length (set devs p.to.dev x1) = let l = length-set devs p.to.dev x1 in let t = source_there whole slabs devs d p under k1 y is1 holds in omega (arith, l, t) in
    let off : (d == p.to.dev) ≡ false = let a = away whole slabs devs d p under k1 y is1 holds in grind (arith, nat_tests, a) in
    let is2 : k2 ≡ kept_of devs d = c.source.view_is ∙ (kept_read (set devs p.to.dev x1) d c.index_mut-source.result.now there2 c.index_mut-source.ensures.value ∙ kept_other devs p.to.dev d x1 off) in
    let m = c.copied.new.self in
    let made : IsDone whole slabs devs d p k1 k2 y m = record {
      under = under;
      first = is1;
      second = is2;
      holds = holds;
      copies = c.copied.ensures.copied;
      leaves = c.lawful.ensures.leaving (ap (λ (z : Mapped). z.state) c.copied.ensures.copied.others ∙ (ap (λ (k : Kept). k.moves.state) is2 ∙ source_state whole slabs devs d p under k1 y is1 holds));
    } in
    subst (λ (z : Underway). IsSameRoot z.before (space_of whole (set (set devs p.to.dev x1) d (record k2 { moves = m })))) c.self.view_is (done_root whole slabs devs d p k1 k2 y m made)
