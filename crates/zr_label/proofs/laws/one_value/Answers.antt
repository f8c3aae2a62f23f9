use Rattle.zr_label.proofs.Labels.{one_label}
use Rattle.zr_label.proofs.Ubers.{one_uber}
use Rattle.zr_label.proofs.laws.one_value.Goals as goal

pub returns-clause-label : goal.returns-clause-label
returns-clause-label c = one_label

pub returns-clause-uber : goal.returns-clause-uber
returns-clause-uber c = one_uber
