use Rattle.std.proofs.Common.{◌≡◌, ℕ, List, length, replicate, refl, sym, ap, subst, arith, ◌∙◌}
use Rattle.std.proofs.lemmas.List.{nil_from_length}
use Rattle.zr_base.specs.declared.space.Entry.{Entry}
use Rattle.zr_base.specs.declared.space.Extent.{Extent}
use Rattle.zr_base.specs.declared.space.DevState.TheVariants.{Gone}
use Rattle.zr_indirect.specs.Mapped.{Mapped, HasCounts, in_service}
use Rattle.zr_indirect.specs.Changes.{GoesOn}
use Rattle.zr_rules.specs.Space.{IsSet}
use Rattle.zr_space.specs.Reads.{AreEntries}
use Rattle.zr_space.proofs.Mapped.{service_read, leaving_read, gone_read}
use Rattle.zr_space.proofs.moves.read_mapping.Goals as goal
use Rattle.zr_space.proofs.moves.read_mapping.Goals.{in-On+else-len-gt0, in-Leaving+else-not-are_zero+in_ok-held-in-Leaving+in_ok-marks-in-Leaving+in_ok-moves-in-Leaving, in-Gone+in_ok-counts-in-Gone}

pub returns-clause-some : goal.returns-clause-some
returns-clause-some c =
    let p = c.args.part.now in
    let entries : c.in-Some.field-0.map.entries ≡ p.entries = rw c.in-Some.is at c.in_ok-map.ensures.entries in
    let fresh : c.in-Some.field-0.fresh.extents ≡ p.fresh = rw c.in-Some.is at c.in_ok-map.ensures.fresh in
    let set : IsSet p.row.units p.fresh = rw c.in-Some.is at c.in_ok-map.ensures.set in
    let rising : AreEntries p.row.units p.entries = rw c.in-Some.is at c.in_ok-map.ensures.rising in
    let counts : HasCounts p.entries p.counts p.fresh = rw c.in-Some.is at c.in_ok-map.ensures.counts in
    elim c.match-part.branch [
      | in-On+else-len-gt0 w ↦
          let few = w.if-len-gt0.false in
          let count = w.len.ensures.count in
          let same = ap (λ (es : List Entry). length es) entries in
          service_read p c.match-part.moves w.in-On.is (nil_from_length p.entries (omega (arith, few, count, same))) counts set (w.moves-is ∙ w.in_service-moves.ensures)
      | in-Leaving+else-not-are_zero+in_ok-held-in-Leaving+in_ok-marks-in-Leaving+in_ok-moves-in-Leaving w ↦
          let zeros : p.counts ≡ replicate (length p.counts) 0 = subst (λ (ns : List ℕ). ns ≡ replicate (length ns) 0) w.as_slice.ensures (w.if-not-are_zero.ensures.0 refl) in
          let on : GoesOn p.entries p.fresh p.held c.match-part.moves =
          subst (λ (m : Mapped). GoesOn p.entries p.fresh p.held m) (sym w.moves-is)
          (subst (λ (es : List Entry). GoesOn es p.fresh p.held w.in_ok-moves-in-Leaving.moves) entries
          (subst (λ (xs : List Extent). GoesOn c.in-Some.field-0.map.entries xs p.held w.in_ok-moves-in-Leaving.moves) (w.in_ok-marks-in-Leaving.ensures ∙ fresh)
          (subst (λ (xs : List Extent). GoesOn c.in-Some.field-0.map.entries w.in_ok-marks-in-Leaving.marks.extents xs w.in_ok-moves-in-Leaving.moves) (w.in_ok-held-in-Leaving.ensures ∙ c.requires.held) w.in_ok-moves-in-Leaving.ensures))) in
          leaving_read p c.match-part.moves w.in-Leaving.is rising set (zeros ∙ ap (λ n. replicate n 0) counts.each) on (c.lawful.ensures.leaving (ap (λ (m : Mapped). m.state) on.all))
      | in-Gone+in_ok-counts-in-Gone w ↦
          let listed : w.in_ok-counts-in-Gone.counts.items ≡ p.counts = w.in_ok-counts-in-Gone.ensures.items ∙ w.as_slice-in-Gone.ensures in
          let is : c.match-part.moves ≡ record in_service { state = Gone; entries = p.entries; counts = p.counts; fresh = p.fresh; spare = w.gone-moves.result.spare } =
          w.moves-is ∙ (w.gone-moves.ensures ∙ (rw entries rw fresh rw listed refl)) in
          gone_read p c.match-part.moves w.gone-moves.result.spare w.in-Gone.is rising set is (c.lawful.ensures.gone (ap (λ (m : Mapped). m.state) is))
    ]
