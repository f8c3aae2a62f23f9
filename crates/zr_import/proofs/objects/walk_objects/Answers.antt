use Rattle.zr_import.proofs.Young.{spent_all, spent_young}
use Rattle.zr_import.proofs.objects.walk_objects.Goals as goal

pub returns-clause-left : goal.returns-clause-left
returns-clause-left g c = λ s holds. spent_all c.args.txg c.args.spent.now c.walk_all.new.marks _ (c.in_ok-walk_all.ensures.marks s holds)

pub returns-clause-older : goal.returns-clause-older
returns-clause-older g c = λ s holds. spent_young c.args.txg c.args.spent.now c.walk_all.new.marks _ (c.in_ok-walk_all.ensures.marks s holds)
