use Rattle.zr_stops.proofs.Ending.{follow_shows, follow_stands}
use Rattle.zr_stops.proofs.laws.groups_follow.Goals as goal

pub returns-clause-stands : goal.returns-clause-stands
returns-clause-stands c = λ sizes first more stood follow. follow_stands sizes first more stood follow

pub returns-clause-shows : goal.returns-clause-shows
returns-clause-shows c = λ sizes first more stood follow. follow_shows sizes first more stood follow
