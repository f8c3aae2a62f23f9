use Rattle.std.proofs.Common.{sym, ◌∙◌}
use Rattle.zr_slots.proofs.Lawful.{same_pool}
use Rattle.zr_slots.proofs.copies.PoolsBetween.is_shared.Goals as goal

pub returns-in_default-clause-no : goal.returns-in_default-clause-no
returns-in_default-clause-no c = λ f h. c.in_default.ensures.none h.one h.in_one

pub returns-in_default-pool_at-clause-no : goal.returns-in_default-pool_at-clause-no
returns-in_default-pool_at-clause-no c = λ f h. c.in_default-pool_at.ensures.none h.other h.in_other

pub returns-clause-no : goal.returns-clause-no
returns-clause-no c = λ f h. h.differ (c.in-Some.ensures.one h.one h.in_one ∙ (same_pool c.in-Some.one c.in-Some-pool_at.other f ∙ sym (c.in-Some-pool_at.ensures.one h.other h.in_other)))
