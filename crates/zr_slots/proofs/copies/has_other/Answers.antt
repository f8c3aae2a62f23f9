use Rattle.zr_slots.proofs.copies.has_other.Goals as goal

pub returns-then-u-txg-clause-no : goal.returns-then-u-txg-clause-no
returns-then-u-txg-clause-no c = λ f is v has. c.other_in.ensures.no f v has
