use Rattle.std.proofs.Common.{◌+◌, ◌-◌, arith}
use Rattle.zr_imap.proofs.Searching.{has_source-past, rising_searchable}
use Rattle.zr_imap.proofs.image.pieces.Goals as goal

pub returns-then-e-ge-END-clause-found : goal.returns-then-e-ge-END-clause-found
returns-then-e-ge-END-clause-found g c = record { place = 0; within = omega arith; missing = has_source-past 0 (c.args.e.start + 0) (g.O.Sorted.entries c.args.sorted.now) c.requires.rising (omega arith) }

pub returns-then-e-clause-found : goal.returns-then-e-clause-found
returns-then-e-clause-found g c =
    record { place = c.args.e.len - 1; within = omega arith; missing = has_source-past 0 (c.args.e.start + (c.args.e.len - 1)) (g.O.Sorted.entries c.args.sorted.now) c.requires.rising (omega arith) }

pub search-requires : goal.search-requires
search-requires g c = record { along = rising_searchable (g.O.Sorted.entries c.args.sorted.now) c.args.e.start c.requires.rising }
