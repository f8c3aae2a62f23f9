use Rattle.std.proofs.Common.{List, sym, subst, refl, arith}
use Rattle.std.specs.List.{AllByRecursion}
use Rattle.std.proofs.lemmas.Bool.Decides.{nat_tests}
use Rattle.zr_base.specs.declared.space.Change.{Change}
use Rattle.zr_commit.proofs.Rewriting as rewriting
use Rattle.zr_rules.specs.Logs.{SpellsChanges}
use Rattle.zr_rules.specs.Places.{part_of}
use Rattle.zr_sync.specs.Words.{IsRun, ReplaysAs, log_has, log_set, log_was}
use Rattle.zr_smap.proofs.Anew.{can_be_anew}
use Rattle.zr_sync.proofs.Runs.{few_log, log_is_set, log_reach, not_long}
use Rattle.zr_sync.proofs.Growing.{anew_log, grown_log, has_now, same_log, still_few}
use Rattle.zr_sync.proofs.words.log_words.Goals as goal

pub cut_changes-requires : goal.cut_changes-requires
cut_changes-requires c =
    subst (AllByRecursion (λ (x : Change). IsRun x.at)) (sym c.as_slice.ensures.value) c.in_ok-changes.ensures.runs

pub is_long-requires-clause-words : goal.is_long-requires-clause-words
is_long-requires-clause-words c =
    let old = c.args.old.now in
    rewriting.few_words old.words old.tree.height old.tree.root c.requires.stream

pub is_long-requires-clause-anew : goal.is_long-requires-clause-anew
is_long-requires-clause-anew c =
    let s = c.args.space.now in
    let few = few_log s c.args.dev c.args.log (log_set c.args.log (part_of s.parts.devs c.args.dev)) c.requires.lawful c.requires.small refl c.args.version in
    omega (arith, few, c.anew_len-anew.ensures)

pub returns-then-is_long-clause-room : goal.returns-then-is_long-clause-room
returns-then-is_long-clause-room c =
    let few = c.in_ok-words.ensures.few in omega (arith, few)

pub returns-clause-room : goal.returns-clause-room
returns-clause-room c =
    let s = c.args.space.now in
    let few = few_log s c.args.dev c.args.log (log_set c.args.log (part_of s.parts.devs c.args.dev)) c.requires.lawful c.requires.small refl c.args.version in
    let short = not_long c.is_long.result c.args.old.now.words c.len.result c.anew_len-anew.result c.is_long.ensures c.if-is_long.false (omega (arith, few, c.anew_len-anew.ensures)) in
    omega (arith, short)

pub returns-then-is_empty-clause-log : goal.returns-then-is_empty-clause-log
returns-then-is_empty-clause-log c = λ had long last.
    let s = c.args.space.now in
    let now = log_set c.args.log (part_of s.parts.devs c.args.dev) in
    same_log c.args.version c.args.dev had c.in_ok-added.added.items last.set now c.in_ok-changes.changes.items c.in_ok-cut.cut.items last.log_is
    (subst (λ (cs : List Change). SpellsChanges c.args.version c.args.dev c.in_ok-added.added.items cs) c.as_slice-2.ensures.value c.in_ok-added.ensures)
    (subst (λ (cs : List Change). ReplaysAs cs c.in_ok-cut.cut.items) c.as_slice.ensures.value c.in_ok-cut.ensures.replays)
    (log_was c.args.log s c.args.dev) (log_has c.args.log s c.args.dev) c.in_ok-changes.ensures.replays last.units (has_now c.args.log s c.args.dev) (log_is_set s c.args.dev c.args.log c.requires.lawful).maximal
    (grind (arith, nat_tests, c.is_empty.ensures, c.if-is_empty.true))

pub returns-then-is_long-clause-log : goal.returns-then-is_long-clause-log
returns-then-is_long-clause-log c = λ had long last.
    let s = c.args.space.now in
    anew_log c.args.version c.args.dev c.in_ok-words.words.items (log_set c.args.log (part_of s.parts.devs c.args.dev)) (log_is_set s c.args.dev c.args.log c.requires.lawful).maximal
    c.in_ok-words.ensures.anew

pub returns-clause-log : goal.returns-clause-log
returns-clause-log c = λ had long last.
    let s = c.args.space.now in
    let now = log_set c.args.log (part_of s.parts.devs c.args.dev) in
    let fits = still_few c.is_long.result c.args.old.now.words c.len.result c.anew_len-anew.result c.is_long.ensures c.if-is_long.false in
    let there = can_be_anew c.args.version c.args.dev now c.requires.version (log_is_set s c.args.dev c.args.log c.requires.lawful).maximal (log_reach s c.args.dev c.args.log now c.requires.lawful c.requires.small refl c.args.version c.requires.version) in
    let count = there.2 in
    grown_log c.args.version c.args.dev had c.in_ok-added.added.items last.set now c.in_ok-changes.changes.items c.in_ok-cut.cut.items last.log_is
    (subst (λ (cs : List Change). SpellsChanges c.args.version c.args.dev c.in_ok-added.added.items cs) c.as_slice-2.ensures.value c.in_ok-added.ensures)
    (subst (λ (cs : List Change). ReplaysAs cs c.in_ok-cut.cut.items) c.as_slice.ensures.value c.in_ok-cut.ensures.replays)
    (log_was c.args.log s c.args.dev) (log_has c.args.log s c.args.dev) c.in_ok-changes.ensures.replays last.units (has_now c.args.log s c.args.dev) (log_is_set s c.args.dev c.args.log c.requires.lawful).maximal
    there.0
    there.1
    (omega (arith, fits, long, c.len.ensures, c.anew_len-anew.ensures, count))
