use Rattle.std.proofs.Common.{arith}
use Rattle.zr_imap.proofs.Searching.{entry_fits, after_front}
use Rattle.zr_imap.proofs.pages.Imap.from_entries.Goals as goal

pub push-requires-clause-entry : goal.push-requires-clause-entry
push-requires-clause-entry c = entry_fits 0 c.loop-entry.entry-index c.args.entries.now c.requires (omega arith)

pub push-requires-clause-after : goal.push-requires-clause-after
push-requires-clause-after c = rw c.loop-entry.invariant (after_front 0 c.loop-entry.entry-index c.args.entries.now c.requires (omega arith))
