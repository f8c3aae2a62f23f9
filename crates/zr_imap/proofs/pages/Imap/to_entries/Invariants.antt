use Rattle.std.proofs.Common.{◌≡◌, take}
use Rattle.zr_imap.proofs.pages.Imap.to_entries.Given as goal

abbrev pub invariant-loop-i : goal.invariant-loop-i
invariant-loop-i l = l.entries ≡ take l.i l.self.entries
