use Rattle.zr_reckon.proofs.Ended.{end_words, reset_words, end_room, end_first, end_second, end_none, end_others}
use Rattle.zr_reckon.proofs.commits.a_commit_drops_the_second_late_words.Goals as goal

pub returns-clause-words : goal.returns-clause-words
returns-clause-words c = λ old new blocks objects s l h k. end_words old new s l h k blocks objects

pub returns-clause-reset : goal.returns-clause-reset
returns-clause-reset c = λ old new blocks objects s l k. reset_words old new s l k blocks objects

pub returns-clause-room : goal.returns-clause-room
returns-clause-room c = end_room

pub returns-clause-first_late : goal.returns-clause-first_late
returns-clause-first_late c = end_first

pub returns-clause-second_late : goal.returns-clause-second_late
returns-clause-second_late c = end_second

pub returns-clause-none_late : goal.returns-clause-none_late
returns-clause-none_late c = end_none

pub returns-clause-others : goal.returns-clause-others
returns-clause-others c = λ reset old new blocks objects s l. end_others reset old new s l blocks objects
