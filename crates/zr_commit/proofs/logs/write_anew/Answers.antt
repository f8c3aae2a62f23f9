use Rattle.zr_tree.specs.Trees.{tree_blocks}
use Rattle.zr_tree.proofs.Wholes.{tells_empty}
use Rattle.zr_commit.proofs.Rewriting.{rewritten}
use Rattle.zr_commit.proofs.logs.write_anew.Goals as goal

pub returns-clause-errors : goal.returns-clause-errors
returns-clause-errors g c = λ s held. tells_empty s s (tree_blocks s c.args.old.now.tree) c.write_stream.result (c.write_stream.ensures.errors s)

pub returns-clause-writes : goal.returns-clause-writes
returns-clause-writes g c = λ s held stored.
    let first = c.in_ok-free_tree.ensures.swaps s held stored in
    rewritten (g.B.Blocks.holds c.write_stream.new.store) s first.stored c.args.old.now c.args.words.now c.write_stream.result first.is (c.write_stream.ensures.stores first.stored first.held)
