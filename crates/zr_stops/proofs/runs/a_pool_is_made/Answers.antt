use Rattle.zr_stops.proofs.Making.{in_the_way, makes_empty}
use Rattle.zr_stops.proofs.runs.a_pool_is_made.Goals as goal

pub returns-clause-shows : goal.returns-clause-shows
returns-clause-shows c = λ sizes named start now rest sized makes. makes_empty sizes named start now rest sized makes

pub returns-clause-in_the_way : goal.returns-clause-in_the_way
returns-clause-in_the_way c = λ sizes objects pool now h none. in_the_way sizes objects pool now h none
