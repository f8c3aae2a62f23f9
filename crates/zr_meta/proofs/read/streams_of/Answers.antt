use Rattle.zr_meta.proofs.Backs.{pieces_of}
use Rattle.zr_meta.proofs.read.streams_of.Goals as goal

pub returns : goal.returns
returns c = λ ss h e. c.in_ok-found.ensures ss h (pieces_of c.args.bytes.now _ ss c.as_chunks.ensures.front h e)
