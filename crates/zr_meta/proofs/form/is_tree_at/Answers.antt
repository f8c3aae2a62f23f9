use Rattle.std.proofs.Common.{arith}
use Rattle.zr_bptr.specs.declared.Ptr.TheVariants.{At}
use Rattle.zr_meta.proofs.Fronts.{words_small}
use Rattle.zr_meta.proofs.form.is_tree_at.Goals as goal

pub returns-then-words-gt-MOST_WORDS : goal.returns-then-words-gt-MOST_WORDS
returns-then-words-gt-MOST_WORDS c =
    (λ h. absurd cc, λ h. absurd (omega (arith, words_small c.args.words c.args.tall (At c.args.b.now) h, c.if-words-gt-MOST_WORDS.true)))
