use Rattle.std.proofs.Common.{arith}
use Rattle.zr_root.proofs.Tails.{told_tree}
use Rattle.zr_commit.proofs.Rewriting.{few_words}
use Rattle.zr_commit.proofs.logs.write_log.Goals as goal

pub needs_anew-requires-clause-old : goal.needs_anew-requires-clause-old
needs_anew-requires-clause-old g c =
    let old = c.args.old.now in
    omega (arith, few_words old.words old.tree.height old.tree.root c.requires.stream)

pub returns-then-needs_anew-clause-errors : goal.returns-then-needs_anew-clause-errors
returns-then-needs_anew-clause-errors g c = λ s held stored. told_tree s c.args.old.now c.write_anew.result (c.write_anew.ensures.errors s held)

pub returns-clause-appends : goal.returns-clause-appends
returns-clause-appends g c = λ s held stored ns has some few. c.append.ensures.appends s held ns stored has
