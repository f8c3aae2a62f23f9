use Rattle.std.proofs.Common.{List, ℕ, inr, refl, sym, subst}
use Rattle.zr_meta.specs.Streams.{IsLogOf, IsLateOf}
use Rattle.zr_meta.proofs.EqualWords.{mapping_at, sets_at}
use Rattle.zr_meta.proofs.part.part_of.Goals as goal

pub returns-in_default-2-clause-fault : goal.returns-in_default-2-clause-fault
returns-in_default-2-clause-fault c =
    let mapping = mapping_at _ _ _ _ c.in-Some.mapping c.as_slice.ensures c.as_slice-2.ensures (rw c.in-Some.is at c.in_ok-mapping.ensures) in
    let none = rw c.in_default-2.is at c.in_ok-sets.ensures in
    inr (refl, c.in-Some.mapping, mapping, λ p h. none (record { held = p.held; kept = p.kept }) (sets_at _ _ _ _ _ _ _ _ _ (sym c.as_slice-3.ensures) (sym c.as_slice-4.ensures) h.sets))

pub returns-in_default-3-clause-fault : goal.returns-in_default-3-clause-fault
returns-in_default-3-clause-fault c =
    let mapping = mapping_at _ _ _ _ c.in-Some.mapping c.as_slice.ensures c.as_slice-2.ensures (rw c.in-Some.is at c.in_ok-mapping.ensures) in
    let none = rw c.in_default-3.is at c.in_ok-fresh.ensures in
    inr (refl, c.in-Some.mapping, mapping, λ p h. none p.fresh (subst (λ (w : List ℕ). IsLogOf c.args.version c.args.dev c.args.words.now.row.units w p.fresh) (sym c.as_slice-5.ensures) h.fresh))

pub returns-in_default-5-clause-fault : goal.returns-in_default-5-clause-fault
returns-in_default-5-clause-fault c =
    let mapping = mapping_at _ _ _ _ c.in-Some.mapping c.as_slice.ensures c.as_slice-2.ensures (rw c.in-Some.is at c.in_ok-mapping.ensures) in
    let none = rw c.in_default-5.is at c.in_ok-late2.ensures in
    inr (refl, c.in-Some.mapping, mapping, λ p h. none p.late2 (subst (λ (w : List ℕ). IsLateOf c.args.version c.args.dev c.args.words.now.row.units w p.late2) (sym c.as_slice-7.ensures) h.late2))
