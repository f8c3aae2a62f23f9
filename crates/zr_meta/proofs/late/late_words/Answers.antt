use Rattle.std.proofs.Common.{◌∙◌, List, ℕ, ◌++◌, ap, subst, sym}
use Rattle.zr_rules.specs.Logs.{IsLate}
use Rattle.zr_meta.specs.Streams.{late_list}
use Rattle.zr_meta.proofs.Lates.{late_is}
use Rattle.zr_meta.proofs.late.late_words.Goals as goal

pub returns : goal.returns
returns c =
    subst (λ (w : List ℕ). IsLate c.args.version c.args.dev w (late_list c.args.blocks.now.extents c.args.meta.now.extents))
    (sym (c.in_ok-extend_from_slice.ensures.items ∙ ap (λ (m : List ℕ). c.in_ok-words.words.items ++ m) c.as_slice.ensures.value))
    (late_is c.args.version c.args.dev c.args.blocks.now.extents c.args.meta.now.extents c.in_ok-words.words.items c.in_ok-more.more.items c.extents-blocks.ensures.maximal c.extents-meta.ensures.maximal c.in_ok-words.ensures.anew c.in_ok-more.ensures)
