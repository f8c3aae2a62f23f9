use Rattle.std.proofs.Common.{◌≡◌, length}
use Rattle.std.proofs.lemmas.Result.{IfOk-weaker}
use Rattle.zr_rules.specs.Logs.{IsAnew}
use Rattle.zr_rules.specs.Owed.{set_words}
use Rattle.zr_smap.specs.Cuts.{AreCutWords}
use Rattle.zr_smap.proofs.Cutting.{is_anew, anew_length}
use Rattle.zr_smap.proofs.condensed.Goals as goal

pub returns-clause-anew : goal.returns-clause-anew
returns-clause-anew c =
    IfOk-weaker c.cut_words.result
    (λ w. AreCutWords c.longest.result c.args.dev c.extents.result.now w.items)
    (λ w. IsAnew c.args.version c.args.dev c.args.set.now.extents w.items)
    (λ w h. is_anew c.args.version c.args.dev c.longest.result c.args.set.now.extents w.items c.requires.version c.longest.ensures.value c.longest.ensures.some c.extents.ensures.maximal c.requires.reach (rw c.extents.ensures.extents at h))
    c.cut_words.ensures

pub returns-clause-words : goal.returns-clause-words
returns-clause-words c =
    IfOk-weaker c.cut_words.result
    (λ w. AreCutWords c.longest.result c.args.dev c.extents.result.now w.items)
    (λ w. length w.items ≡ set_words c.args.version c.args.set.now.extents)
    (λ w h. anew_length c.args.version c.args.dev c.args.set.now.extents w.items c.requires.version c.extents.ensures.maximal c.requires.reach
    (is_anew c.args.version c.args.dev c.longest.result c.args.set.now.extents w.items c.requires.version c.longest.ensures.value c.longest.ensures.some c.extents.ensures.maximal c.requires.reach (rw c.extents.ensures.extents at h)))
    c.cut_words.ensures
