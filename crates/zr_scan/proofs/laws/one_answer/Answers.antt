use Rattle.zr_scan.proofs.Fresh.{same_label, roots_same, newer_same}
use Rattle.zr_scan.proofs.laws.one_answer.Goals as goal

pub returns-clause-label : goal.returns-clause-label
returns-clause-label c = λ size bytes a b h k. same_label size bytes a.label b.label h.label k.label

pub returns-clause-roots : goal.returns-clause-roots
returns-clause-roots c = λ size bytes a b u h k has. roots_same size bytes a b u h k has

pub returns-clause-newer : goal.returns-clause-newer
returns-clause-newer c = λ size bytes a b h k. newer_same size bytes a b h k
