use Rattle.std.proofs.Common.{[], ◌∙◌}
use Rattle.zr_meta.proofs.Backs.{no_stream, stream_more}
use Rattle.zr_meta.proofs.read.each_of.Goals as goal

pub returns-in_default : goal.returns-in_default
returns-in_default c = λ ss h e. absurd (no_stream c.args.pieces.now c.loop-piece.piece-index [] ss c.loop-piece-test.true h e c.in_default.ensures)

pub loop-piece-preserved : goal.loop-piece-preserved
loop-piece-preserved c = λ ss h e.
    c.in_ok-push.ensures ∙ stream_more c.loop-piece.streams c.args.pieces.now c.loop-piece.piece-index [] ss c.in-Some.s c.loop-piece-test.true h e (c.loop-piece.invariant ss h e) c.in-Some.ensures
