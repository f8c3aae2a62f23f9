use Rattle.std.proofs.Common.{map, ◌∙◌}
use Rattle.std.specs.String.{string_bytes}
use Rattle.clap.specs.Words.{app_of, found_of, rows_of}
use Rattle.zr_words.specs.Reading.{raw_of}
use Rattle.zr_words.proofs.Lines.{no_line, none_spelt, only_spelt, paths_spelt, some_spelt, took}
use Rattle.zr_words.proofs.words.read_words.Goals as goal

pub returns-in-Ok-clause-none : goal.returns-in-Ok-clause-none
returns-in-Ok-clause-none c =
    let words = map string_bytes c.args.words.now in
    let t = took (app_of c.in_ok-command.command) words c.in-Ok.matches c.in_ok-command.ensures c.in-Ok.ensures.kinds c.in-Ok.ensures.matches in
    none_spelt words (raw_of (rows_of (found_of c.in-Ok.matches))) t c.line_from.result c.line_from.ensures.none

pub returns-in-Ok-clause-some : goal.returns-in-Ok-clause-some
returns-in-Ok-clause-some c =
    let words = map string_bytes c.args.words.now in
    let t = took (app_of c.in_ok-command.command) words c.in-Ok.matches c.in_ok-command.ensures c.in-Ok.ensures.kinds c.in-Ok.ensures.matches in
    some_spelt words (raw_of (rows_of (found_of c.in-Ok.matches))) t c.line_from.result c.line_from.ensures.some

pub returns-in-Ok-clause-only : goal.returns-in-Ok-clause-only
returns-in-Ok-clause-only c =
    let words = map string_bytes c.args.words.now in
    let t = took (app_of c.in_ok-command.command) words c.in-Ok.matches c.in_ok-command.ensures c.in-Ok.ensures.kinds c.in-Ok.ensures.matches in
    only_spelt words (raw_of (rows_of (found_of c.in-Ok.matches))) t c.line_from.result c.line_from.ensures.some

pub returns-in-Ok-clause-paths : goal.returns-in-Ok-clause-paths
returns-in-Ok-clause-paths c =
    let words = map string_bytes c.args.words.now in
    let t = took (app_of c.in_ok-command.command) words c.in-Ok.matches c.in_ok-command.ensures c.in-Ok.ensures.kinds c.in-Ok.ensures.matches in
    paths_spelt words (raw_of (rows_of (found_of c.in-Ok.matches))) t c.line_from.result c.line_from.ensures.some

pub returns : goal.returns
returns c = record { none = λ line h. no_line (app_of c.in_ok-command.command) (map string_bytes c.args.words.now) c.in-Err.error c.in_ok-command.ensures c.in-Err.ensures.kinds (λ memory. c.in_default.not-OutOfMemory (c.kind.ensures ∙ memory)) line h; some = tt; only = tt; paths = tt }
