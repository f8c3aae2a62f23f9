use Rattle.zr_words.proofs.Devices.{none_each, each_next}
use Rattle.zr_words.proofs.device.parse_each.Goals as goal

pub returns-in_default-clause-none : goal.returns-in_default-clause-none
returns-in_default-clause-none c = λ devs. none_each (λ word. word.now) c.args.words.now _ c.loop-word.word-index devs c.loop-word-test.true c.in_default.ensures.none

pub loop-word-preserved : goal.loop-word-preserved
loop-word-preserved c =
    each_next (λ word. word.now) c.args.words.now _ c.loop-word.word-index c.loop-word.devices.items c.push.new.self.items c.in-Some.device
    c.loop-word-test.true c.loop-word.invariant c.in-Some.ensures.some c.in_ok-push.ensures.items
