use Rattle.std.proofs.Common.{◌≡◌, ◌∷◌, [], arith}
use Rattle.std.proofs.lemmas.Grind.{common_steps}
use Rattle.zr_smap.proofs.Spelling.{past_short, past_long, no_long, not_alone, no_change, lawful_more, words_more, nothing_at_one, nothing_at_two}
use Rattle.zr_smap.proofs.changes_of.Goals as goal

pub loop-word-preserved-then-word-lt-LONG : goal.loop-word-preserved-then-word-lt-LONG
loop-word-preserved-then-word-lt-LONG c =
    let split : c.in-Some.word.now ∷ c.in-Some.tail.now ≡ c.loop-word.rest.now = grind (arith, common_steps) in
    record {
      lawful = rw c.in_ok-push.ensures.items (lawful_more _ _ _ c.loop-word.invariant.lawful (c.short_change.ensures.lawful c.args.version c.requires.version));
      words = rw c.in_ok-push.ensures.items (words_more c.args.dev c.loop-word.changes.items c.short_change.result (c.in-Some.word.now ∷ []) c.in-Some.tail.now c.loop-word.rest.now c.args.words.now (c.short_change.ensures.words c.args.dev) split c.loop-word.invariant.words);
      only = λ none. c.loop-word.invariant.only (rw split at (past_short c.args.version c.args.dev c.in-Some.word.now c.in-Some.tail.now c.if-word-lt-LONG.true none));
    }

pub returns-then-version-eq1-clause-none : goal.returns-then-version-eq1-clause-none
returns-then-version-eq1-clause-none c =
    let split : c.in-Some.word.now ∷ c.in-Some.tail.now ≡ c.loop-word.rest.now = grind (arith, common_steps) in
    c.loop-word.invariant.only (rw split at (nothing_at_one c.args.version c.args.dev _ c.if-version-eq1.true (no_long c.args.dev c.in-Some.word.now c.in-Some.tail.now c.if-word-lt-LONG.false)))

pub returns-in_default-split_first-clause-none : goal.returns-in_default-split_first-clause-none
returns-in_default-split_first-clause-none c =
    let split : c.in-Some.word.now ∷ [] ≡ c.loop-word.rest.now = grind (arith, common_steps) in
    c.loop-word.invariant.only (rw split at (not_alone c.args.version c.args.dev c.in-Some.word.now c.if-word-lt-LONG.false))

pub returns-in_default-long_change-clause-none : goal.returns-in_default-long_change-clause-none
returns-in_default-long_change-clause-none c =
    let split : c.in-Some.word.now ∷ c.in-Some-split_first.second.now ∷ c.in-Some-split_first.after.now ≡ c.loop-word.rest.now = grind (arith, common_steps) in
    c.loop-word.invariant.only (rw split at (nothing_at_two c.args.version c.args.dev _ (grind (arith, c.requires.version, c.if-version-eq1.false)) (no_change c.args.dev c.in-Some.word.now c.in-Some-split_first.second.now c.in-Some-split_first.after.now c.if-word-lt-LONG.false (rw c.in_default-long_change.is at c.long_change.ensures.none))))

pub loop-word-preserved : goal.loop-word-preserved
loop-word-preserved c =
    let split : c.in-Some.word.now ∷ c.in-Some-split_first.second.now ∷ c.in-Some-split_first.after.now ≡ c.loop-word.rest.now = grind (arith, common_steps) in
    let two : c.args.version ≡ 2 = grind (arith, c.requires.version, c.if-version-eq1.false) in
    record {
      lawful = rw c.in_ok-push-2.ensures.items (lawful_more _ _ _ c.loop-word.invariant.lawful (rw two c.in-Some-long_change.ensures.lawful));
      words = rw c.in_ok-push-2.ensures.items (words_more c.args.dev c.loop-word.changes.items c.in-Some-long_change.change (c.in-Some.word.now ∷ c.in-Some-split_first.second.now ∷ []) c.in-Some-split_first.after.now c.loop-word.rest.now c.args.words.now c.in-Some-long_change.ensures.words split c.loop-word.invariant.words);
      only = λ none. c.loop-word.invariant.only (rw split at (past_long c.args.version c.args.dev c.in-Some.word.now c.in-Some-split_first.second.now c.in-Some-split_first.after.now c.if-word-lt-LONG.false none));
    }
