use Rattle.zr_recorded.proofs.Found.{found_shows, found_slots}
use Rattle.zr_recorded.proofs.laws.a_found_commit_is_shown.Goals as goal

pub returns-clause-pool : goal.returns-clause-pool
returns-clause-pool c = λ paths sizes objects pool now h. found_shows sizes objects pool now h paths

pub returns-clause-slots : goal.returns-clause-slots
returns-clause-slots c = λ sizes objects u pool now h from. found_slots sizes objects pool now h u from
