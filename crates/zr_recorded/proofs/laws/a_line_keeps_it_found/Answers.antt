use Rattle.zr_recorded.proofs.Found.{line_finds, line_found, same_found}
use Rattle.zr_recorded.proofs.laws.a_line_keeps_it_found.Goals as goal

pub returns-clause-stands : goal.returns-clause-stands
returns-clause-stands c = λ sizes objects old new before now h wrote opens table last guid. line_found sizes objects old before h new now wrote opens table last guid

pub returns-clause-shows : goal.returns-clause-shows
returns-clause-shows c = λ paths sizes objects old before now h wrote. line_finds sizes objects old before h paths now wrote

pub returns-clause-disks : goal.returns-clause-disks
returns-clause-disks c = λ sizes objects pool a b same h. same_found sizes objects pool a h b same
