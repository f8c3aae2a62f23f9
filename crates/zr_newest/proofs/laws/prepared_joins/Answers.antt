use Rattle.zr_newest.proofs.Prepared.{devices_joined, labels_with, root_before, with_label}
use Rattle.zr_newest.proofs.laws.prepared_joins.Goals as goal

pub returns-clause-none : goal.returns-clause-none
returns-clause-none c = λ before after slot other l v prepares h. root_before before after slot l prepares other v h

pub returns-clause-joined : goal.returns-clause-joined
returns-clause-joined c = λ before after slot l u next slots mine seen prepares labels devices joins.
    (with_label seen slot l, labels_with before after slot l prepares seen labels, devices_joined before after slot l prepares seen labels u next slots mine devices joins)
