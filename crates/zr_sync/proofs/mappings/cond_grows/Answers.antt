use Rattle.std.proofs.Common.{◌≡◌, ◌-◌, ◌∙◌, ℕ, sym, ap, subst, arith}
use Rattle.zr_base.specs.declared.space.CondPart.{CondPart}
use Rattle.zr_sync.specs.Mappings.{HasFirst, IsSpelled, mapping_words, words_for}
use Rattle.zr_sync.specs.Words.{words_then}
use Rattle.zr_sync.proofs.MappingWords.{becomes_words, room_fits}
use Rattle.zr_sync.proofs.mappings.cond_grows.Goals as goal

pub part_words-requires : goal.part_words-requires
part_words-requires c = let within = c.in_ok-plan.ensures.within in let count = c.count_in.ensures in omega (arith, within, count)

pub returns-clause-room : goal.returns-clause-room
returns-clause-room c =
    let from = c.in_ok-plan.plan.from in
    let count = c.in_ok-words.ensures.count ∙ ap (λ (k : ℕ). words_for c.args.which (k - from)) (sym c.count_in.ensures) in
    let fits = room_fits c.args.which c.args.old.now.words c.count_in.result from _ c.in_ok-plan.plan.anew c.in_ok-plan.ensures.few c.in_ok-plan.ensures.within (λ is. (c.in_ok-plan.ensures.grows is).1) count in
    c.becomes.ensures.room c.args.old.now fits.0 fits.1

pub returns-clause-words : goal.returns-clause-words
returns-clause-words c = λ spelled had long first.
    let same = c.in_ok-part.ensures in
    let part : CondPart = c.in_ok-part.part in
    let here = subst (λ (p : CondPart). IsSpelled p.entries p.counts) (sym same) spelled in
    subst (λ (p : CondPart). words_then had c.becomes.result ≡ mapping_words c.args.which p.entries p.counts) same
    (becomes_words c.args.which part.entries part.counts had c.args.old.now.words c.in_ok-plan.plan.from c.args.anew c.in_ok-plan.plan.anew c.in_ok-words.words c.becomes.result here long
    (λ is. subst (λ (p : CondPart). HasFirst c.args.which p.entries p.counts had) (sym same) (first is))
    c.in_ok-plan.ensures.anew c.in_ok-plan.ensures.grows (c.in_ok-words.ensures.words here) c.becomes.ensures.anew c.becomes.ensures.grows)
