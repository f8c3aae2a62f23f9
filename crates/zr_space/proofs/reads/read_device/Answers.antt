use Rattle.std.proofs.Common.{◌<◌, ◌^◌, sym, subst, ◌∙◌, List, arith}
use Rattle.zr_base.specs.declared.space.Extent.{Extent}
use Rattle.zr_units.specs.Uses.{Uses, Freed}
use Rattle.zr_space.specs.Reads.{IsRead, CanRead, CanKeep, Marks, CanReadLate}
use Rattle.zr_base.specs.declared.space.LateRun.{LateRun}
use Rattle.zr_space.specs.Reads.{IsListed}
use Rattle.zr_space.proofs.ReadDevices.{device_read}
use Rattle.zr_space.proofs.Refusing.{kept_fails, late1_fails, late2_fails}
use Rattle.zr_space.proofs.reads.read_device.Goals as goal

pub returns-clause-some : goal.returns-clause-some
returns-clause-some c =
    let row = c.args.part.now.row in
    let units = c.units_there-units.result in
    let small : row.units < 2 ^ 40 = let lt = c.if-part.false in omega (arith, lt) in
    let held = rw c.in-Some.is at c.in_ok-held.ensures.some in
    let marks = rw c.in-Some.is at c.in_ok-held.ensures.used in
    let set = rw c.in-Some.is at c.in_ok-held.ensures.set in
    let keep = rw c.in-Some-2.is at c.in_ok-kept.ensures.some in
    let keeps = rw c.in-Some-2.is at c.in_ok-kept.ensures.set in
    let late1 = rw c.in-Some-3.is at c.in_ok-late1.ensures.some in
    let marks1 = rw c.in-Some-3.is at c.in_ok-late1.ensures.used in
    let late2 = rw c.in-Some-4.is at c.in_ok-late2.ensures.some in
    let marks2 = rw c.in-Some-4.is at c.in_ok-late2.ensures.used in
    subst (λ (x : Uses). IsRead row x c.read_late-2.new.used.extents) (sym c.in_ok-read.ensures)
    (device_read row units c.in-Some.held.extents c.in-Some-2.kept.extents c.in-Some-3.late1.sets c.in-Some-4.late2.sets c.in_ok-read.read.spare c.args.used.now.extents c.read_set.new.used.extents c.read_late.new.used.extents c.read_late-2.new.used.extents
    small c.units_there-units.ensures.units c.requires
    (subst (λ (es : List Extent). CanRead es c.args.used.now.extents units) (sym set) held)
    (subst (λ (es : List Extent). Marks es c.args.used.now.extents c.read_set.new.used.extents) (sym set) marks)
    (subst (λ (es : List Extent). CanKeep es c.in-Some.held.extents units) (sym keeps) keep) late1 marks1 late2 marks2)

pub returns-in_default-3-clause-none : goal.returns-in_default-3-clause-none
returns-in_default-3-clause-none c = λ meta saved dev can.
    let p = c.args.part.now in
    let listed = c.as_slice-3.ensures in
    let held = c.as_slice.ensures in
    let marks : Marks p.held c.args.used.now.extents c.read_set.new.used.extents = subst (λ (es : List Extent). Marks es c.args.used.now.extents c.read_set.new.used.extents) held (rw c.in-Some.is at c.in_ok-held.ensures.used) in
    late1_fails p meta saved dev c.args.used.now.extents c.read_set.new.used.extents c.requires marks
    (subst (λ n. (f : Freed) → IsListed p.late1 f → CanReadLate f c.read_set.new.used.extents n → ⊥) c.units_there-units.ensures.units
    (subst (λ (rs : List LateRun). (f : Freed) → IsListed rs f → CanReadLate f c.read_set.new.used.extents c.units_there-units.result → ⊥) listed (rw c.in_default-3.is at c.in_ok-late1.ensures.none))) can

pub returns-in_default-4-clause-none : goal.returns-in_default-4-clause-none
returns-in_default-4-clause-none c = λ meta saved dev can.
    let p = c.args.part.now in
    let held = c.as_slice.ensures in
    let marks : Marks p.held c.args.used.now.extents c.read_set.new.used.extents = subst (λ (es : List Extent). Marks es c.args.used.now.extents c.read_set.new.used.extents) held (rw c.in-Some.is at c.in_ok-held.ensures.used) in
    let listed1 = subst (λ (rs : List LateRun). IsListed rs c.in-Some-3.late1.sets) c.as_slice-3.ensures (rw c.in-Some-3.is at c.in_ok-late1.ensures.listed) in
    late2_fails p meta saved dev c.in-Some-3.late1.sets c.args.used.now.extents c.read_set.new.used.extents c.read_late.new.used.extents c.requires marks listed1
    (subst (λ n. CanReadLate c.in-Some-3.late1.sets c.read_set.new.used.extents n) c.units_there-units.ensures.units (rw c.in-Some-3.is at c.in_ok-late1.ensures.some)) (rw c.in-Some-3.is at c.in_ok-late1.ensures.used)
    (subst (λ n. (f : Freed) → IsListed p.late2 f → CanReadLate f c.read_late.new.used.extents n → ⊥) c.units_there-units.ensures.units
    (subst (λ (rs : List LateRun). (f : Freed) → IsListed rs f → CanReadLate f c.read_late.new.used.extents c.units_there-units.result → ⊥) c.as_slice-4.ensures (rw c.in_default-4.is at c.in_ok-late2.ensures.none))) can

pub returns-in_default-2-clause-none : goal.returns-in_default-2-clause-none
returns-in_default-2-clause-none c = λ meta saved dev can.
    kept_fails c.args.part.now meta saved dev c.as_slice-2.result.now c.in-Some.held.extents c.as_slice-2.ensures ((rw c.in-Some.is at c.in_ok-held.ensures.set) ∙ c.as_slice.ensures)
    (subst (λ n. CanKeep c.as_slice-2.result.now c.in-Some.held.extents n → ⊥) c.units_there-units.ensures.units (rw c.in_default-2.is at c.in_ok-kept.ensures.none)) can
