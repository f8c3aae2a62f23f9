use Rattle.std.proofs.Common.{◌≡◌, ◌+◌, sym, subst, take, get_or, arith, rules}
use Rattle.std.proofs.lemmas.Grind.{common_steps}
use Rattle.zr_meta.specs.declared.part.DevWords.{DevWords}
use Rattle.zr_meta.specs.declared.part.PartsErr.TheVariants.{Rule}
use Rattle.zr_meta.specs.Streams.{SpellsPart, IsPartFault}
use Rattle.zr_meta.specs.Parts.{AreParts}
use Rattle.zr_meta.proofs.Whole.{one_part_more, none_there, no_words}
use Rattle.zr_meta.proofs.parts.device_parts.Goals as goal

pub returns-in-Err-Rule : goal.returns-in-Err-Rule
returns-in-Err-Rule c =
    let place : c.index-words-dev.result ≡ get_or c.args.words.now c.loop-dev.dev no_words = first_of (assumption c.index-words-dev.is, cc c.index-words-dev.is, search rules, grind (arith, common_steps)) in
    let fault = rw c.in-Err-Rule.field-0-is at c.in-Err-Rule.ensures.fault in
    none_there c.args.version c.args.ckpt c.args.words.now c.loop-dev.dev c.in-Err-Rule.field-0-0 c.loop-dev-test.true
    (subst (λ (w : DevWords). IsPartFault c.args.version c.loop-dev.dev c.args.ckpt w (Rule c.in-Err-Rule.field-0-0)) place fault)

pub loop-dev-preserved : goal.loop-dev-preserved
loop-dev-preserved c =
    let place : c.index-words-dev.result ≡ get_or c.args.words.now c.loop-dev.dev no_words = first_of (assumption c.index-words-dev.is, cc c.index-words-dev.is, search rules, grind (arith, common_steps)) in
    subst (AreParts c.args.version c.args.ckpt 0 (take (c.loop-dev.dev + 1) c.args.words.now)) (sym c.in_ok-push-in-Ok.ensures)
    (one_part_more c.args.version c.args.ckpt c.args.words.now c.loop-dev.dev c.loop-dev.parts c.in-Ok.p c.loop-dev-test.true c.loop-dev.invariant
    (subst (λ (w : DevWords). SpellsPart c.args.version c.loop-dev.dev c.args.ckpt w c.in-Ok.p) place c.in-Ok.ensures.part))
