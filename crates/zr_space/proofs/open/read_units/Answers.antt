use Rattle.std.proofs.Common.{arith, sym, subst}
use Rattle.zr_rules.specs.Places.{is_on}
use Rattle.zr_units.specs.Uses.{Uses}
use Rattle.zr_space.specs.Reads.{AreSetsOf, HasMeta, IsRead}
use Rattle.zr_space.specs.Opens.{AddsAs, HasAdded}
use Rattle.zr_space.proofs.Opening.{few_units}
use Rattle.zr_space.proofs.open.read_units.Goals as goal

pub add_units-requires-clause-small : goal.add_units-requires-clause-small
add_units-requires-clause-small c =
    let all : IsRead c.args.part.now.row c.in-Some.read.units c.in-Some.read.used.extents = rw c.in-Some.is at c.in_ok-read.ensures.read in
    let n = c.units.ensures in
    let few = few_units c.args.part.now.row c.in-Some.read.units c.in-Some.read.used.extents all in
    omega (arith, n, few)

pub add_units-requires-clause-within : goal.add_units-requires-clause-within
add_units-requires-clause-within c =
    let all : IsRead c.args.part.now.row c.in-Some.read.units c.in-Some.read.used.extents = rw c.in-Some.is at c.in_ok-read.ensures.read in
    let n = c.units.ensures in
    λ u is. let lt = all.within u is in omega (arith, n, lt)

pub returns-clause-sets : goal.returns-clause-sets
returns-clause-sets c = subst (λ (x : Uses). AreSetsOf c.args.part.now x) (sym c.into_units.ensures) (rw c.in-Some.is at c.in_ok-read.ensures.sets)

pub returns-clause-meta : goal.returns-clause-meta
returns-clause-meta c = subst (λ (x : Uses). HasMeta c.args.meta.now c.args.dev x.meta) (sym c.into_units.ensures) (rw c.in-Some.is at c.in_ok-read.ensures.meta)

pub returns-clause-saved : goal.returns-clause-saved
returns-clause-saved c = subst (λ (x : Uses). HasMeta c.args.saved.now c.args.dev x.saved) (sym c.into_units.ensures) (rw c.in-Some.is at c.in_ok-read.ensures.saved)

pub returns-clause-added : goal.returns-clause-added
returns-clause-added c =
    let row = c.args.part.now.row in
    let x = c.in-Some.read.units in
    let used = c.in-Some.read.used.extents in
    let s = c.args.slabs.now in
    let t = c.add_units.new.slabs in
    let read : IsRead row x used = rw c.in-Some.is at c.in_ok-read.ensures.read in
    let adds : AddsAs s t c.args.dev x.units (is_on row.state) used = subst (λ b. AddsAs s t c.args.dev x.units b used) c.serves.ensures (subst (λ k. AddsAs s t c.args.dev k c.serves.result used) c.units.ensures c.in_ok-add_units.ensures) in
    subst (λ (y : Uses). HasAdded s t c.args.dev row y) (sym c.into_units.ensures) (record { used = used; read = read; adds = adds })

pub returns-in_default-clause-none : goal.returns-in_default-clause-none
returns-in_default-clause-none c = rw c.in_default.is at c.in_ok-read.ensures.none
