use Rattle.std.proofs.Common.{◌≡◌, ◌<◌, List, [], length, sym, subst, arith}
use Rattle.std.proofs.lemmas.Grind.{common_steps}
use Rattle.std.proofs.lemmas.List.{nil_from_length}
use Rattle.zr_base.specs.declared.space.DevPart.{DevPart}
use Rattle.zr_metaslab.specs.Devices.{Devices}
use Rattle.zr_rules.specs.Places.{part_of}
use Rattle.zr_space.specs.Reads.{CanReadPart}
use Rattle.zr_space.specs.Views.{Kept}
use Rattle.zr_space.proofs.Opening.{IsReading, all_read, reads_more, starts_reading}
use Rattle.zr_space.proofs.open.read_all.Goals as goal

pub loop-part-init : goal.loop-part-init
loop-part-init c =
    subst (λ (s : Devices). IsReading c.args.parts.now c.args.meta.now c.args.saved.now 0 s c.new-2.result.items) (sym (nil_from_length c.new.result c.new.ensures.devs))
    (subst (λ (ks : List Kept). IsReading c.args.parts.now c.args.meta.now c.args.saved.now 0 [] ks) (sym c.new-2.ensures.items) (starts_reading c.args.parts.now c.args.meta.now c.args.saved.now))

pub add-requires : goal.add-requires
add-requires c = let n = c.loop-part.invariant.count in let t = c.loop-part-test.true in let f = c.requires in omega (arith, n, t, f)

pub loop-part-preserved : goal.loop-part-preserved
loop-part-preserved c =
    let ps = c.args.parts.now in
    let i = c.loop-part.part-index in
    let lt : i < length ps = c.loop-part-test.true in
    let part : c.part-item.result ≡ part_of ps i = grind (arith, common_steps, c.part-item.is, lt) in
    reads_more ps c.args.meta.now c.args.saved.now i c.loop-part.read.slabs c.add.new.self.slabs c.loop-part.read.devs.items c.add.new.self.devs.items c.part-item.result c.loop-part.invariant (let f = c.requires in omega (arith, lt, f)) lt part (c.in_ok-add.ensures.yes c.if-not-branch.false)

pub returns-clause-read : goal.returns-clause-read
returns-clause-read c = all_read c.args.parts.now c.args.meta.now c.args.saved.now c.loop-part.part-index c.loop-part.read.slabs c.loop-part.read.devs.items c.loop-part.invariant c.loop-part-test.false

pub returns-then-not-branch-clause-none : goal.returns-then-not-branch-clause-none
returns-then-not-branch-clause-none c = λ can.
    let ps = c.args.parts.now in
    let i = c.loop-part.part-index in
    let lt : i < length ps = c.loop-part-test.true in
    let part : c.part-item.result ≡ part_of ps i = grind (arith, common_steps, c.part-item.is, lt) in
    c.in_ok-add.ensures.no c.if-not-branch.true
    (subst (λ n. CanReadPart c.part-item.result c.args.meta.now c.args.saved.now n) (sym c.loop-part.invariant.count)
    (subst (λ (p : DevPart). CanReadPart p c.args.meta.now c.args.saved.now i) (sym part) (can i lt)))
