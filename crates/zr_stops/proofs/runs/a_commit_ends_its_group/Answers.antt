use Rattle.std.proofs.Common.{◌≡◌, true}
use Rattle.zr_sync.specs.Trees.{HasLastTrees}
use Rattle.zr_stops.proofs.Behind.{commit_behind, commit_shows, stop_shows, turn_shows}
use Rattle.zr_stops.proofs.runs.a_commit_ends_its_group.Goals as goal

pub returns-clause-stands : goal.returns-clause-stands
returns-clause-stands c = λ sizes reset before after old new start now h ready told ends. commit_behind sizes before old start h ready reset after now new told ends

pub returns-clause-shows : goal.returns-clause-shows
returns-clause-shows c = λ sizes reset before after old new start now h ready told ends. commit_shows sizes before old start h ready reset after now new told ends

pub returns-clause-stops : goal.returns-clause-stops
returns-clause-stops c = λ sizes reset before after old start now h ready told commits. stop_shows sizes before old start h ready reset after now (HasLastTrees start.now.seen old) told commits

pub returns-clause-turns : goal.returns-clause-turns
returns-clause-turns c = λ told sizes reset before after old turned start now h keeps opens ready stays commits. turn_shows sizes before old start h turned keeps opens ready reset after now ((told ≡ true) × HasLastTrees start.now.seen old) stays commits
