use Rattle.std.proofs.Common.{arith}
use Rattle.zr_evac.proofs.Copies.{hits_more, lawful_more}
use Rattle.zr_evac.proofs.push_full.Goals as goal

pub returns-clause-hits : goal.returns-clause-hits
returns-clause-hits c = λ d u. rw c.in_ok-push.ensures.items (hits_more c.args.list.now.items (c.args.dev, c.args.e) d u)

pub returns-clause-lawful : goal.returns-clause-lawful
returns-clause-lawful c = λ all. rw c.in_ok-push.ensures.items (lawful_more c.args.list.now.items (c.args.dev, c.args.e) all (omega (arith, c.if-e-eq0.false)) c.requires)
