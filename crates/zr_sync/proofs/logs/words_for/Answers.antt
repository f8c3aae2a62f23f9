use Rattle.zr_sync.proofs.Pools.{small_device}
use Rattle.zr_sync.proofs.logs.words_for.Goals as goal

pub log_words-requires-clause-small : goal.log_words-requires-clause-small
log_words-requires-clause-small c = small_device c.requires.pool.0 c.args.pool.now c.args.dev c.requires.pool.1 c.requires.dev

pub anew_words-requires-clause-small : goal.anew_words-requires-clause-small
anew_words-requires-clause-small c = small_device c.requires.pool.0 c.args.pool.now c.args.dev c.requires.pool.1 c.requires.dev

pub returns-in-Anew-clause-room : goal.returns-in-Anew-clause-room
returns-in-Anew-clause-room c = c.anew_words.ensures.room c.args.old.now

pub returns-in-Grow-clause-log : goal.returns-in-Grow-clause-log
returns-in-Grow-clause-log c = λ had long last. c.log_words.ensures.log had long (last c.in-Grow.is)

pub returns-in-Anew-clause-log : goal.returns-in-Anew-clause-log
returns-in-Anew-clause-log c = λ had long last. c.anew_words.ensures.log had

pub returns-in-Grow-clause-anew : goal.returns-in-Grow-clause-anew
returns-in-Grow-clause-anew c = λ is. absurd (cc)

pub returns-in-Anew-clause-anew : goal.returns-in-Anew-clause-anew
returns-in-Anew-clause-anew c = λ is. c.anew_words.ensures.anew
