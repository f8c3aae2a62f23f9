use Rattle.std.proofs.Common.{◌≡◌, drop}
use Rattle.std.specs.List.{find}
use Rattle.std.specs.Str.{bytes_eq}
use Rattle.std.specs.String.{string_bytes}
use Rattle.zr_words.proofs.choose.first_named.Given as goal

abbrev pub invariant-loop-chooser : goal.invariant-loop-chooser
invariant-loop-chooser g l =
    find (λ chooser. bytes_eq (string_bytes chooser.name) l.name) l.choosers ≡ find (λ chooser. bytes_eq (string_bytes chooser.name) l.name) (drop l.chooser-index l.choosers)
