use Rattle.zr_stops.proofs.Behind.{line_behind, line_shows}
use Rattle.zr_stops.proofs.runs.a_line_stays_in_its_group.Goals as goal

pub returns-clause-stands : goal.returns-clause-stands
returns-clause-stands c = λ sizes objects old new before now h wrote keeps table last guid. line_behind sizes objects old before h new now wrote keeps table last guid

pub returns-clause-shows : goal.returns-clause-shows
returns-clause-shows c = λ sizes objects old before now h wrote. line_shows sizes objects old before h now wrote
