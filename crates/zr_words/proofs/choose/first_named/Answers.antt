use Rattle.std.proofs.Common.{rules}
use Rattle.std.specs.Str.{bytes_eq}
use Rattle.std.specs.String.{string_bytes}
use Rattle.zr_words.proofs.Finding.{found_item, missed_item, found_none}
use Rattle.zr_words.proofs.choose.first_named.Goals as goal

pub returns-then-eq : goal.returns-then-eq
returns-then-eq g c =
    found_item (λ chooser. bytes_eq (string_bytes chooser.name) c.args.name.now) _ c.loop-chooser.chooser-index _ c.loop-chooser.invariant c.loop-chooser-test.true c.chooser-item.is (search rules)

pub loop-chooser-preserved : goal.loop-chooser-preserved
loop-chooser-preserved g c =
    missed_item (λ chooser. bytes_eq (string_bytes chooser.name) c.args.name.now) _ c.loop-chooser.chooser-index _ c.loop-chooser.invariant c.loop-chooser-test.true c.chooser-item.is (search rules)

pub returns : goal.returns
returns g c = found_none (λ chooser. bytes_eq (string_bytes chooser.name) c.args.name.now) _ c.loop-chooser.chooser-index c.loop-chooser.invariant c.loop-chooser-test.false
