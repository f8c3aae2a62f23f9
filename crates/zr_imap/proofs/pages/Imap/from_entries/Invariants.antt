use Rattle.std.proofs.Common.{◌≡◌, take}
use Rattle.zr_imap.proofs.pages.Imap.from_entries.Given as goal

abbrev pub invariant-loop-entry : goal.invariant-loop-entry
invariant-loop-entry l = l.map.entries ≡ take l.entry-index l.entries
