use Rattle.std.proofs.Common.{arith}
use Rattle.zr_rules.specs.Places.{part_of}
use Rattle.zr_sync.specs.Words.{log_set}
use Rattle.zr_sync.proofs.Runs.{log_is_set}
use Rattle.zr_sync.proofs.Growing.{anew_log}
use Rattle.zr_sync.proofs.words.anew_words.Goals as goal

pub returns-clause-room : goal.returns-clause-room
returns-clause-room c = λ old. let few = c.in_ok-anew.ensures.few in omega (arith, few)

pub returns-clause-log : goal.returns-clause-log
returns-clause-log c = λ had.
    let s = c.args.space.now in
    let es = log_set c.args.log (part_of s.parts.devs c.args.dev) in
    anew_log c.args.version c.args.dev c.in_ok-anew.anew.items es (log_is_set s c.args.dev c.args.log c.requires.lawful).maximal c.in_ok-anew.ensures.anew
