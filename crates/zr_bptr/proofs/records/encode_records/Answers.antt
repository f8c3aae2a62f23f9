use Rattle.zr_bptr.proofs.Leaves.{full_leaf}
use Rattle.zr_bptr.proofs.records.encode_records.Goals as goal

pub returns-clause-size : goal.returns-clause-size
returns-clause-size c = full_leaf c.args.records.now _ _ c.loop-r.invariant c.loop-r-test.false c.requires.count c.requires.lawful
