use Rattle.zr_reckon.proofs.SetWords.{whole_words}
use Rattle.zr_reckon.proofs.sets.a_whole_extent_takes_its_words.Goals as goal

pub returns : goal.returns
returns c = whole_words
