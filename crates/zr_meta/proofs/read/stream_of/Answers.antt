use Rattle.std.proofs.Common.{ap, Some}
use Rattle.zr_meta.specs.declared.Stream.{Stream}
use Rattle.zr_meta.proofs.Fronts.{stream_told, stream_root}
use Rattle.zr_meta.proofs.read.stream_of.Goals as goal

pub returns-in_default : goal.returns-in_default
returns-in_default c = λ s h e. let none = rw c.pointer_at.ensures at c.in_default.ensures in absurd (none s.tree.root (stream_root c.args.piece.now s h e))

pub returns : goal.returns
returns c = λ s h e.
    ap (λ (t : Stream). Some t)
    (stream_told c.args.piece.now c.word_at-words.result c.in-Some.root c.level_of-height.result c.word_at-words.ensures (rw c.pointer_at.ensures at c.in-Some.ensures) c.level_of-height.ensures s h e)
