use Rattle.zr_sync.proofs.Runs.{late_freed}
use Rattle.zr_sync.proofs.words.second_late_words.Goals as goal

pub words_of_late-requires-clause-freed : goal.words_of_late-requires-clause-freed
words_of_late-requires-clause-freed c = late_freed c.args.space.now c.args.dev c.late1.result.now.sets c.requires.lawful c.requires.small c.late1.ensures
