use Rattle.std.proofs.Common.{◌≡◌, ◌∙◌, ◌+◌, ◌-◌, ◌*◌, ◌/◌, ◌%◌, ◌<◌, ◌≤◌, inl, inr, ℕ, List, get_or, sym, ap, subst, arith}
use Rattle.std.proofs.lemmas.Result.{err_from_is_err_and}
use Rattle.zr_bptr.specs.declared.Ptr.{Ptr}
use Rattle.zr_store.proofs.Causes.{cause_from, cause_then}
use Rattle.zr_lookup.specs.Objects.{pointer_now, block_now, IsTouched}
use Rattle.zr_lookup.specs.Errors.{IsSoundPointer}
use Rattle.zr_lookup.proofs.Telling.{needed_more, object_from}
use Rattle.zr_lookup.proofs.Touching.{begin, begin_low, some_units, touches_next, only_two, part_byte, both_bytes}
use Rattle.zr_lookup.proofs.ranges.read_range.Goals as goal

pub returns-then-first-len-clause-bytes : goal.returns-then-first-len-clause-bytes
returns-then-first-len-clause-bytes g c = λ s holds k lt.
    let units = c.args.rec.now.units in
    let w = c.from-size.result in
    let off = c.args.off in
    let low = begin_low units w off c.from-size.ensures c.requires.rec.size in
    let first = c.min-first.result in
    let within : off % (4096 * w) + first ≤ 4096 * units = omega (arith, low, c.min-first.ensures, c.from-size.ensures) in
    ap (λ (b : List ℕ). get_or b k 0) (c.in_ok-bytes.ensures.bytes s holds)
    ∙ part_byte (block_now s c.args.group.now c.args.id c.args.rec.now) (4096 * units) off (off / (4096 * w)) (off % (4096 * w)) first k (begin units w off c.from-size.ensures) within (omega (arith, lt, c.if-first-len.true))

pub returns-in_err-rest-clause-cause : goal.returns-in_err-rest-clause-cause
returns-in_err-rest-clause-cause g c =
    let x = c.from_residual-in_err-rest in
    cause_from x.result c.in_err-rest.field-0.0 (err_from_is_err_and x.result x.ensures.1) (cause_then c.in_ok-bytes.ensures.costs c.in_err-rest.ensures.cause)

pub returns-in_err-rest-clause-errors : goal.returns-in_err-rest-clause-errors
returns-in_err-rest-clause-errors g c = λ s holds.
    let units = c.args.rec.now.units in
    let r = c.args.rec.now in
    let at : ℕ → Ptr = pointer_now s c.args.group.now c.args.id r in
    let w = c.from-size.result in
    let off = c.args.off in
    let len = c.args.len in
    let index = off / (4096 * w) in
    let low = begin_low units w off c.from-size.ensures c.requires.rec.size in
    let more : 4096 * units < off % (4096 * w) + len = omega (arith, low, c.min-first.ensures, c.from-size.ensures, c.if-first-len.false) in
    let next = touches_next units off len index (off % (4096 * w)) (begin units w off c.from-size.ensures) low more in
    let e = c.in_err-rest in
    let x = c.from_residual-in_err-rest in
    object_from s at r (IsTouched units off len) x.result e.field-0.0 (err_from_is_err_and x.result x.ensures.1)
    (needed_more s at r (λ k. k ≡ index + 1) (IsTouched units off len) _ (λ k is. subst (IsTouched units off len) (sym is) next) (e.ensures.errors s (c.in_ok-bytes.ensures.same s holds)))

pub returns-clause-sound : goal.returns-clause-sound
returns-clause-sound g c = λ s holds k touched.
    let units = c.args.rec.now.units in
    let at : ℕ → Ptr = pointer_now s c.args.group.now c.args.id c.args.rec.now in
    let w = c.from-size.result in
    let off = c.args.off in
    let low = begin_low units w off c.from-size.ensures c.requires.rec.size in
    let pos = some_units units c.requires.rec.size in
    let short : c.args.len ≤ 4096 * units = omega (arith, pos, c.requires.short) in
    elim (only_two units off c.args.len (off / (4096 * w)) (off % (4096 * w)) k (begin units w off c.from-size.ensures) low short touched) [
      | inl is ↦ subst (λ (n : ℕ). IsSoundPointer s units (at n)) (sym is) (c.in_ok-bytes.ensures.sound s holds)
      | inr is ↦ subst (λ (n : ℕ). IsSoundPointer s units (at n)) (sym is) (c.in_ok-rest.ensures.sound s (c.in_ok-bytes.ensures.same s holds))
    ]

pub returns-clause-bytes : goal.returns-clause-bytes
returns-clause-bytes g c = λ s holds k lt.
    let units = c.args.rec.now.units in
    let w = c.from-size.result in
    let off = c.args.off in
    let first = c.min-first.result in
    let low = begin_low units w off c.from-size.ensures c.requires.rec.size in
    let pos = some_units units c.requires.rec.size in
    let whole : off % (4096 * w) + first ≡ 4096 * units = omega (arith, low, c.min-first.ensures, c.from-size.ensures, c.if-first-len.false) in
    let short : c.args.len - first ≤ 4096 * units = omega (arith, pos, c.requires.short) in
    ap (λ (b : List ℕ). get_or b k 0) c.in_ok-extend_from_slice.ensures.items
    ∙ both_bytes (block_now s c.args.group.now c.args.id c.args.rec.now) (4096 * units) off c.args.len (off / (4096 * w)) (off % (4096 * w)) first c.in_ok-bytes.bytes.items c.as_slice.result.now
    (begin units w off c.from-size.ensures) whole short (c.in_ok-bytes.ensures.bytes s holds) c.in_ok-bytes.ensures.size (c.as_slice.ensures.value ∙ c.in_ok-rest.ensures.bytes s (c.in_ok-bytes.ensures.same s holds)) k lt
