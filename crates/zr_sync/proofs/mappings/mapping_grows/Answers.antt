use Rattle.std.proofs.Common.{◌-◌, ◌∙◌, ℕ, sym, ap, arith}
use Rattle.zr_sync.specs.Mappings.{words_for}
use Rattle.zr_sync.proofs.MappingWords.{becomes_words, room_fits}
use Rattle.zr_sync.proofs.mappings.mapping_grows.Goals as goal

pub words_from-requires : goal.words_from-requires
words_from-requires c = let within = c.in_ok-plan.ensures.within in let count = c.entry_count.ensures in omega (arith, within, count)

pub returns-clause-room : goal.returns-clause-room
returns-clause-room c =
    let from = c.in_ok-plan.plan.from in
    let count = c.in_ok-words.ensures.count ∙ ap (λ (k : ℕ). words_for c.args.which (k - from)) (sym c.entry_count.ensures) in
    let fits = room_fits c.args.which c.args.old.now.words c.entry_count.result from _ c.in_ok-plan.plan.anew c.in_ok-plan.ensures.few c.in_ok-plan.ensures.within (λ is. (c.in_ok-plan.ensures.grows is).1) count in
    c.becomes.ensures.room c.args.old.now fits.0 fits.1

pub returns-clause-words : goal.returns-clause-words
returns-clause-words c = λ spelled had long first.
    becomes_words c.args.which c.args.moves.now.entries c.args.moves.now.counts had c.args.old.now.words c.in_ok-plan.plan.from c.args.anew c.in_ok-plan.plan.anew c.in_ok-words.words c.becomes.result spelled long first
    c.in_ok-plan.ensures.anew c.in_ok-plan.ensures.grows (c.in_ok-words.ensures.words spelled) c.becomes.ensures.anew c.becomes.ensures.grows
