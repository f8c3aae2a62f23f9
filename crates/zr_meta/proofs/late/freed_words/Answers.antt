use Rattle.std.proofs.Common.{◌∙◌, List, ℕ, ap, map, subst, sym}
use Rattle.std.specs.List.{AllByRecursion}
use Rattle.std.proofs.lemmas.Result.{IfOk-weaker}
use Rattle.zr_base.specs.declared.space.Change.{Change}
use Rattle.zr_rules.specs.Logs.{SpellsChanges, IsChange}
use Rattle.zr_meta.specs.Streams.{IsFreedAnew}
use Rattle.zr_meta.proofs.Lates.{freed_lawful, freed_anew, turned_round}
use Rattle.zr_meta.proofs.late.freed_words.Goals as goal

pub words_of-requires-clause-lawful : goal.words_of-requires-clause-lawful
words_of-requires-clause-lawful c =
    let spelled = rw c.unwrap-changes.ensures at c.in_ok-spelled.ensures.some in
    subst (AllByRecursion (IsChange c.args.version)) (sym c.as_slice-3.ensures.value)
    (freed_lawful c.args.version c.args.dev c.args.set.now.extents c.in_ok-anew.anew.items c.unwrap-changes.result.items c.in_ok-runs.runs.items c.in_ok-anew.ensures.anew
    (subst (λ (w : List ℕ). SpellsChanges c.args.version c.args.dev w c.unwrap-changes.result.items) c.as_slice.ensures.value spelled)
    (c.in_ok-runs.ensures ∙ ap (map turned_round) c.as_slice-2.ensures.value))

pub returns : goal.returns
returns c =
    let spelled = rw c.unwrap-changes.ensures at c.in_ok-spelled.ensures.some in
    let same = c.as_slice-3.ensures.value in
    IfOk-weaker c.words_of.result (λ w. SpellsChanges c.args.version c.args.dev w.items c.as_slice-3.result.now)
    (λ w. IsFreedAnew c.args.version c.args.dev c.args.set.now.extents w.items)
    (λ w h. freed_anew c.args.version c.args.dev c.args.set.now.extents c.in_ok-anew.anew.items c.unwrap-changes.result.items c.in_ok-runs.runs.items w.items c.in_ok-anew.ensures.anew
    (subst (λ (x : List ℕ). SpellsChanges c.args.version c.args.dev x c.unwrap-changes.result.items) c.as_slice.ensures.value spelled)
    (c.in_ok-runs.ensures ∙ ap (map turned_round) c.as_slice-2.ensures.value)
    (subst (λ (cs : List Change). SpellsChanges c.args.version c.args.dev w.items cs) same h))
    c.words_of.ensures
