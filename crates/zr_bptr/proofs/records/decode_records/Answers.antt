use Rattle.zr_bptr.proofs.Leaves.{leaf_long, read_leaf}
use Rattle.zr_bptr.proofs.records.decode_records.Goals as goal

pub returns-then-bytes-ne4096 : goal.returns-then-bytes-ne4096
returns-then-bytes-ne4096 c = λ xs h. c.if-bytes-ne4096.true (leaf_long _ _ h)

pub returns : goal.returns
returns c = read_leaf c.args.bytes.now _ c.decode_each.result c.if-bytes-ne4096.false c.as_chunks.ensures.front c.decode_each.ensures
