use Rattle.std.proofs.Common.{map, ap, sym, ◌∙◌, arith}
use Rattle.std.proofs.lemmas.List.{length-map}
use Rattle.zr_words.specs.Views.{device_of, path_of, line_of}
use Rattle.zr_words.proofs.Whole.{whole_if, other_if, paths_same, none_generates}
use Rattle.zr_words.proofs.line.CommandLine.is_whole.Goals as goal
use Rattle.zr_words.proofs.line.CommandLine.is_whole.Goals.{else-is_some-via-then-is_some+else-len-lt-MIN_DEVICES, else-is_some-via-else-is_some}

pub returns-clause-whole : goal.returns-clause-whole
returns-clause-whole c =
    let items = c.args.self.now.devices.items in
    whole_if (line_of c.args.self.now) _ c.are_different.result c.are_different.ensures (ap (map path_of) c.as_slice.ensures.value ∙ paths_same items)
    (λ n e. elim c.else-is_some.branch [
      | else-is_some-via-then-is_some+else-len-lt-MIN_DEVICES w ↦
          let same = length-map items device_of in
          let short = w.if-len-lt-MIN_DEVICES.false in
          let long = w.len.ensures in
          omega arith
      | else-is_some-via-else-is_some w ↦ absurd (none_generates c.args.self.now.generate n (sym c.is_some.ensures ∙ w.if-is_some.false) e)
    ])

pub returns-clause-other : goal.returns-clause-other
returns-clause-other c =
    other_if (line_of c.args.self.now) _ c.are_different.result c.are_different.ensures (ap (map path_of) c.as_slice.ensures.value ∙ paths_same c.args.self.now.devices.items) c.requires.paths
