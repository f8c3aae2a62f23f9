-- How generated commands are done one after another, and what is counted of their replies.
use Rattle.std.specs.Prelude.{◌≡◌, ℕ, suc, List, ◌++◌, count_by}
use Rattle.std.specs.List.{flat_map}
use Rattle.zr_shelf.specs.Disks.{Stand}
use Rattle.zr_script.specs.declared.command.Command.{Command}
use Rattle.zr_command.specs.Meanings.{Meaning}
use Rattle.zr_model.specs.Runs.{point}
use Rattle.zr_session.specs.Tally.{Answer, is_refused, is_accepted, sum_text}
use Rattle.zr_session.specs.Agenda.{Item, IsGiven, IsDue}
use Rattle.zr_session.specs.Generated.{given_answers, given_count}
use Rattle.zr_session.specs.Lines.{DoesItems, StopsAtCommand}
use Rattle.zr_session.specs.declared.end.End.{End}
use Rattle.zr_session.specs.declared.end.End.TheVariants.{NoMemory}
use Rattle.zr_session.specs.declared.replies.Replies.TheVariants.{Kept}
use Rattle.zr_session.specs.declared.tally.Tally.{Tally}

-- what is counted of these answers
pub record IsTallyOf (tally : Tally) (given : List Answer) : Type 0 where
  pub accepted : tally.accepted ≡ count_by is_accepted given
  pub refused : tally.refused ≡ count_by is_refused given
  pub sums : tally.sums.items ≡ flat_map sum_text given

-- These items are done one after another. Nothing is sent, and the replies to those that are given are counted.
pub record DoesCommands (m : Meaning) (items : List (Item Command)) (tally : Tally) (before after : m.State) (old new : Stand) : Type 0 where
  pub does : DoesItems Command m IsGiven Kept items before after old new
  pub tallied : IsTallyOf tally (given_answers m items (point old before) does.turns)

-- first ones are done, and the others are not
pub record IsAmong (m : Meaning) (items : List (Item Command)) (before : m.State) (old : Stand) : Type 0 where
  pub front : List (Item Command)
  pub rest : List (Item Command)
  pub split : items ≡ front ++ rest
  pub state : m.State
  pub mid : Stand
  pub does : DoesItems Command m IsGiven Kept front before state old mid

-- the run ends at the command that is due next, or between two for want of memory
pub data StopsAmong (m : Meaning) (items : List (Item Command)) (before : m.State) (old new : Stand) (end : End) : Type 0 where
  at_command : (a : IsAmong m items before old) (command : Command) (number : ℕ) → IsDue m IsGiven a.rest (point a.mid a.state) command
      → ((m.serves a.mid.paths a.state command → ⊥) → number ≡ suc (given_count a.front))
      → StopsAtCommand m Kept command number a.state a.mid new end → StopsAmong m items before old new end
  between : (a : IsAmong m items before old) → end ≡ NoMemory → new ≡ a.mid → StopsAmong m items before old new end
