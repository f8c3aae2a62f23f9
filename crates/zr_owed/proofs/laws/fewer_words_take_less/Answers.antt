use Rattle.zr_owed.proofs.RoomLaws.{streams-mono, metadata-mono}
use Rattle.zr_owed.proofs.laws.fewer_words_take_less.Goals as goal

pub returns-clause-streams : goal.returns-clause-streams
returns-clause-streams c = streams-mono

pub returns-clause-metadata : goal.returns-clause-metadata
returns-clause-metadata c = metadata-mono
