use Rattle.std.proofs.Common.{◌≡◌, ◌<◌, inl, inr, ℕ, List, length, get_or, subst, arith}
use Rattle.std.proofs.lemmas.Bool.{cases_lt}
use Rattle.zr_bptr.specs.declared.Ptr.{Ptr}
use Rattle.zr_txg.specs.Tables.{IsRising}
use Rattle.zr_txg.specs.Changes.{ObjectChange}
use Rattle.zr_change.proofs.Grouping.{each_from, rising_at}
use Rattle.zr_change.proofs.records.look_over.Goals as goal

pub loop-i-preserved : goal.loop-i-preserved
loop-i-preserved c = λ j d lt.
    let objects = c.args.group.now.objects in
    let i = c.loop-i.i in
    elim (cases_lt j i) [
      | inl less ↦ c.loop-i.invariant j d less
      | inr more ↦
          let same : i ≡ j = omega (arith, lt, more) in
          let within : i < length objects = omega (arith, c.loop-i-test.true, c.objects-i-end.ensures.count) in
          let rising = subst (λ (xs : List (ℕ × Ptr)). IsRising xs) c.changes.ensures.changes c.changes.ensures.rising in
          let here = rising_at objects i c.id_at.result d c.objects-i-end.ensures.rising within (c.id_at.ensures.entry d) rising in
          subst (λ (k : ℕ). IsRising (get_or objects k d).1.blocks) same here
    ]

pub returns-clause-blocks : goal.returns-clause-blocks
returns-clause-blocks c =
    each_from (λ (e : ℕ × ObjectChange). IsRising e.1.blocks) c.args.group.now.objects
    (λ j d lt. c.loop-i.invariant j d (omega (arith, lt, c.loop-i-test.false, c.objects-i-end.ensures.count)))
