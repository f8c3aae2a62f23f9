use Rattle.std.proofs.Common.{arith}
use Rattle.zr_imap.proofs.Spelled.{laid}
use Rattle.zr_imap.proofs.spelling.encode_entry.Goals as goal

pub returns : goal.returns
returns c = record { lawful = c.requires; spelling = rw c.write_u64_into.ensures (laid c.args.e.now _ (omega (arith, c.from.ensures, c.from-2.ensures))) }
