use Rattle.std.proofs.Common.{refl, sym, ◌∙◌}
use Rattle.zr_slots.proofs.kept.root_of_group.Goals as goal

pub returns-clause-some : goal.returns-clause-some
returns-clause-some c =
    let first = c.in-Some.ensures.some in
    record {
      shown = first.0;
      txg_is = first.1;
      devices = c.if-not-are_same_rows.ensures.same refl;
      one = λ v shown is. c.if-not-all_agree.ensures.yes refl v shown (is ∙ sym first.1);
    }
