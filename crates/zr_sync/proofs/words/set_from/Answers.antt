use Rattle.std.proofs.Common.{◌+◌, [], take, drop, get_or, List, subst, sym}
use Rattle.std.proofs.lemmas.List.{take_more}
use Rattle.zr_base.specs.declared.space.Extent.{Extent}
use Rattle.zr_units.proofs.SetWords.{drop_first, drop_end}
use Rattle.zr_space.proofs.Reading.{take_end}
use Rattle.zr_sync.proofs.SetsFrom.{IsFilling, apart, filled, more, starts}
use Rattle.zr_sync.proofs.words.set_from.Goals as goal

pub loop-e-init : goal.loop-e-init
loop-e-init c = subst (λ (set : List Extent). IsFilling [] c.args.extents.now set) (sym c.new-set.ensures) (starts c.args.extents.now c.requires)

pub add-requires-clause-not_empty : goal.add-requires-clause-not_empty
add-requires-clause-not_empty c =
    let es = c.args.extents.now in
    let i = c.loop-e.e-index in
    let here = subst (λ (rest : List Extent). IsFilling (take i es) rest c.loop-e.set.extents) (drop_first es i c.loop-e-test.true) c.loop-e.invariant in
    here.left.1

pub add-requires-clause-in_range : goal.add-requires-clause-in_range
add-requires-clause-in_range c =
    let es = c.args.extents.now in
    let i = c.loop-e.e-index in
    let here = subst (λ (rest : List Extent). IsFilling (take i es) rest c.loop-e.set.extents) (drop_first es i c.loop-e-test.true) c.loop-e.invariant in
    here.left.2

pub add-requires-clause-apart : goal.add-requires-clause-apart
add-requires-clause-apart c =
    let es = c.args.extents.now in
    let i = c.loop-e.e-index in
    let here = subst (λ (rest : List Extent). IsFilling (take i es) rest c.loop-e.set.extents) (drop_first es i c.loop-e-test.true) c.loop-e.invariant in
    apart (take i es) (drop (i + 1) es) c.loop-e.set.extents _ here

pub loop-e-preserved : goal.loop-e-preserved
loop-e-preserved c =
    let es = c.args.extents.now in
    let i = c.loop-e.e-index in
    let no_extent : Extent = record { start = 0; len = 0 } in
    let here = subst (λ (rest : List Extent). IsFilling (take i es) rest c.loop-e.set.extents) (drop_first es i c.loop-e-test.true) c.loop-e.invariant in
    subst (λ (front : List Extent). IsFilling front (drop (i + 1) es) c.add.new.self.extents) (sym (take_more es i no_extent c.loop-e-test.true))
    (more (take i es) (drop (i + 1) es) c.loop-e.set.extents c.add.new.self.extents (get_or es i no_extent) here c.in_ok-add.ensures.ok)

pub returns : goal.returns
returns c =
    let es = c.args.extents.now in
    let i = c.loop-e.e-index in
    filled es c.loop-e.set.extents c.requires
    (subst (λ (rest : List Extent). IsFilling es rest c.loop-e.set.extents) (drop_end es i c.loop-e-test.false) (subst (λ (front : List Extent). IsFilling front (drop i es) c.loop-e.set.extents) (take_end es i c.loop-e-test.false) c.loop-e.invariant))
