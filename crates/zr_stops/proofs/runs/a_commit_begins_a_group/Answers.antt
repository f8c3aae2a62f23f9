use Rattle.zr_stops.proofs.Behind.{begins_behind, behind_shows, made_behind, shown_behind}
use Rattle.zr_stops.proofs.Within.{same_behind}
use Rattle.zr_stops.proofs.runs.a_commit_begins_a_group.Goals as goal

pub returns-clause-stood : goal.returns-clause-stood
returns-clause-stood c = λ sizes u pool objects now was from. begins_behind sizes u pool objects now was from

pub returns-clause-shown : goal.returns-clause-shown
returns-clause-shown c = λ sizes reset last old new objects before now ready from sized was told ends. shown_behind sizes reset last old new objects before now ready from sized was told ends

pub returns-clause-disks : goal.returns-clause-disks
returns-clause-disks c = λ sizes objects pool a b same h. same_behind sizes objects pool a b same h

pub returns-clause-shows : goal.returns-clause-shows
returns-clause-shows c = λ sizes objects pool now h. behind_shows sizes objects pool now h

pub returns-clause-made : goal.returns-clause-made
returns-clause-made c = λ sizes pool objects now comes shows sized on. made_behind sizes pool objects now comes shows sized on
