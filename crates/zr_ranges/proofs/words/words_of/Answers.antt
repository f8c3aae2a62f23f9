use Rattle.std.proofs.Common.{◌+◌, arith}
use Rattle.zr_ranges.proofs.Cuts.{words_more, words_most, count_at_most}
use Rattle.zr_ranges.proofs.words.words_of.Goals as goal

pub overflow_add-words : goal.overflow_add-words
overflow_add-words c =
    let es = c.args.extents.now in
    let i = c.loop-e.e-index in
    let most = words_most c.args.version es i c.requires c.loop-e-test.true in
    let all = count_at_most es (i + 1) c.requires in
    omega (arith, most, all, c.extent_words-words.ensures)

pub loop-e-preserved : goal.loop-e-preserved
loop-e-preserved c =
    let es = c.args.extents.now in
    let i = c.loop-e.e-index in
    let more = words_more c.args.version es i c.loop-e-test.true in
    let most = words_most c.args.version es i c.requires c.loop-e-test.true in
    record { so_far = omega (arith, more, c.extent_words-words.ensures.words); most = omega (arith, most, c.extent_words-words.ensures.words) }
