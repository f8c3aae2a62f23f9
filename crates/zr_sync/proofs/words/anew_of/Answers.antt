use Rattle.std.proofs.Common.{arith}
use Rattle.std.proofs.lemmas.Result.{IfOk-weaker}
use Rattle.zr_sync.specs.declared.words.Log.TheVariants.{Held, Kept, Fresh}
use Rattle.zr_sync.proofs.Runs.{log_reach, few_log}
use Rattle.zr_sync.proofs.words.anew_of.Goals as goal

pub condensed-requires-clause-reach : goal.condensed-requires-clause-reach
condensed-requires-clause-reach c = log_reach c.args.space.now c.args.dev Held c.in_ok-held-in-Held.held.extents c.requires.lawful c.requires.small c.in_ok-held-in-Held.ensures c.args.version c.requires.version

pub condensed-requires-in-Kept-clause-reach : goal.condensed-requires-in-Kept-clause-reach
condensed-requires-in-Kept-clause-reach c = log_reach c.args.space.now c.args.dev Kept c.in_ok-kept-in-Kept.kept.extents c.requires.lawful c.requires.small c.in_ok-kept-in-Kept.ensures c.args.version c.requires.version

pub condensed-requires-in-Fresh-clause-reach : goal.condensed-requires-in-Fresh-clause-reach
condensed-requires-in-Fresh-clause-reach c = log_reach c.args.space.now c.args.dev Fresh c.in_ok-fresh-in-Fresh.fresh.extents c.requires.lawful c.requires.small c.in_ok-fresh-in-Fresh.ensures c.args.version c.requires.version

pub returns-in_ok-held-in-Held-clause-few : goal.returns-in_ok-held-in-Held-clause-few
returns-in_ok-held-in-Held-clause-few c =
    let few = few_log c.args.space.now c.args.dev Held c.in_ok-held-in-Held.held.extents c.requires.lawful c.requires.small c.in_ok-held-in-Held.ensures c.args.version in
    IfOk-weaker c.condensed.result _ _ (λ w is. omega (arith, few, is)) c.condensed.ensures.words

pub returns-in_ok-kept-in-Kept-clause-few : goal.returns-in_ok-kept-in-Kept-clause-few
returns-in_ok-kept-in-Kept-clause-few c =
    let few = few_log c.args.space.now c.args.dev Kept c.in_ok-kept-in-Kept.kept.extents c.requires.lawful c.requires.small c.in_ok-kept-in-Kept.ensures c.args.version in
    IfOk-weaker c.condensed-in-Kept.result _ _ (λ w is. omega (arith, few, is)) c.condensed-in-Kept.ensures.words

pub returns-in_ok-fresh-in-Fresh-clause-few : goal.returns-in_ok-fresh-in-Fresh-clause-few
returns-in_ok-fresh-in-Fresh-clause-few c =
    let few = few_log c.args.space.now c.args.dev Fresh c.in_ok-fresh-in-Fresh.fresh.extents c.requires.lawful c.requires.small c.in_ok-fresh-in-Fresh.ensures c.args.version in
    IfOk-weaker c.condensed-in-Fresh.result _ _ (λ w is. omega (arith, few, is)) c.condensed-in-Fresh.ensures.words
