use Rattle.zr_meta.proofs.Maps.{by_threes, read_entries}
use Rattle.zr_meta.proofs.map.entries_of.Goals as goal

pub returns-then-words-ne0 : goal.returns-then-words-ne0
returns-then-words-ne0 c = λ es h. c.if-words-ne0.true (by_threes c.args.words.now es h)

pub returns : goal.returns
returns c = read_entries c.args.words.now _ c.in_ok-found.found c.if-words-ne0.false c.as_chunks.ensures.front c.in_ok-found.ensures
