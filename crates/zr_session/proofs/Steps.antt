-- A step of an actor is the command of a line.
use Rattle.std.proofs.Common.{ℕ, List, codes, refl, arith}
use Rattle.zr_script.specs.Grammar as grammar
use Rattle.zr_script.specs.Grammar.{IsLine}
use Rattle.zr_model.specs.declared.actor.Actor.{Actor}
use Rattle.zr_model.specs.declared.actor.Actor.TheVariants.{Evac, Discard, Condense}
use Rattle.zr_command.specs.Meanings.{step_of}

pub step_line : (actor : Actor) → (line : List ℕ) × IsLine line (step_of actor)
unfolding grammar.keyword_of grammar.pool_keyword_of grammar.step_keyword_of
step_line Evac = (codes "step evac", record { short = omega arith; words = refl })
step_line Discard = (codes "step discard", record { short = omega arith; words = refl })
step_line Condense = (codes "step condense", record { short = omega arith; words = refl })
