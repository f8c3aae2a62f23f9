use Rattle.zr_recorded.proofs.Behind.{shown_new}
use Rattle.zr_recorded.proofs.Found.{behind_found, commit_found, next_found, stood_found}
use Rattle.zr_recorded.proofs.laws.a_commit_is_found.Goals as goal

pub returns-clause-stood : goal.returns-clause-stood
returns-clause-stood c = λ sizes u pool objects now was from serves unsaved shown head trees. stood_found sizes u pool objects now was from serves unsaved shown head trees

pub returns-clause-first : goal.returns-clause-first
returns-clause-first c = λ sizes reset last old new objects before now ready from sized newest shown had ends whole unsaved. commit_found sizes reset last old new objects before now ready from sized newest shown had ends whole unsaved

pub returns-clause-shown : goal.returns-clause-shown
returns-clause-shown c = λ sizes reset last u old new objects before now ready from sized shown ends goes. shown_new sizes reset last old new objects before now ready from sized shown ends u goes

pub returns-clause-behind : goal.returns-clause-behind
returns-clause-behind c = λ sizes reset before after last old new start now b ready from shown had ends whole unsaved. behind_found sizes before old start b reset after last new now ready from shown had ends whole unsaved

pub returns-clause-next : goal.returns-clause-next
returns-clause-next c = λ sizes reset before after old new start now h ready had ends whole unsaved. next_found sizes reset before after old new start now h ready had ends whole unsaved
