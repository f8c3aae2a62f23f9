use Rattle.std.proofs.Common.{◌∙◌, ◌≤◌, ◌^◌, List, length, sym, subst}
use Rattle.std.proofs.lemmas.Result.{IfOk-weaker}
use Rattle.zr_base.specs.declared.space.Extent.{Extent}
use Rattle.zr_rules.specs.Logs.{IsLate}
use Rattle.zr_meta.specs.Streams.{late_list}
use Rattle.zr_units.specs.Apart.{IsWithin}
use Rattle.zr_sync.proofs.Runs.{few_late, in_reach}
use Rattle.zr_sync.proofs.words.words_of_late.Goals as goal

pub late_words-requires-clause-blocks : goal.late_words-requires-clause-blocks
late_words-requires-clause-blocks c = in_reach c.args.version c.in_ok-blocks.blocks.extents c.requires.version (subst (λ (es : List Extent). IsWithin es (2 ^ 26)) (sym (c.in_ok-blocks.ensures ∙ c.blocks-2.ensures)) c.requires.freed.blocks)

pub late_words-requires-clause-meta : goal.late_words-requires-clause-meta
late_words-requires-clause-meta c = in_reach c.args.version c.in_ok-meta.meta.extents c.requires.version (subst (λ (es : List Extent). IsWithin es (2 ^ 26)) (sym (c.in_ok-meta.ensures ∙ c.meta.ensures)) c.requires.freed.meta)

pub returns-clause-few : goal.returns-clause-few
returns-clause-few c =
    let bs = c.in_ok-blocks.blocks.extents in
    let ms = c.in_ok-meta.meta.extents in
    let within_blocks = subst (λ (es : List Extent). IsWithin es (2 ^ 26)) (sym (c.in_ok-blocks.ensures ∙ c.blocks-2.ensures)) c.requires.freed.blocks in
    let within_meta = subst (λ (es : List Extent). IsWithin es (2 ^ 26)) (sym (c.in_ok-meta.ensures ∙ c.meta.ensures)) c.requires.freed.meta in
    IfOk-weaker c.late_words.result
    (λ w. IsLate c.args.version c.args.dev w.items (late_list bs ms))
    (λ w. length w.items ≤ 2 ^ 34)
    (λ w late. few_late c.args.version c.args.dev (record { blocks = bs; meta = ms }) w.items c.requires.version c.extents-blocks.ensures.maximal c.extents-meta.ensures.maximal (record { blocks = within_blocks; meta = within_meta }) late)
    c.late_words.ensures
