use Rattle.std.proofs.Common.{rules, ◌≡◌, List, [], ◌∷◌, ◌++◌, ◌+◌, ◌-◌, ap, ◌∙◌}
use Rattle.zr_script.specs.declared.command.Command.{Command}
use Rattle.zr_script.specs.Generated.{before_line, drawn_lines}
use Rattle.zr_gen.proofs.Lines.{drawn_lines-more}
use Rattle.zr_gen.proofs.run.put_drawn.Goals as goal

pub loop-done-preserved : goal.loop-done-preserved
loop-done-preserved c =
    let before : c.put_before.new.commands ≡ c.loop-done.commands ++ before_line c.args.devs.now c.args.count (c.loop-done.done + 1) = search rules in
    let line : c.push.new.self ≡ c.put_before.new.commands ++ c.drawn_line.result ∷ [] = search rules in
    let both = line ∙ ap (λ (l : List Command). l ++ c.drawn_line.result ∷ []) before in
    ap (λ (l : List Command). l ++ drawn_lines c.args.devs.now c.args.count (c.args.count - (c.loop-done.done + 1)) (c.loop-done.done + 1 + 1) c.drawn_line.new.draws) both
    ∙ (drawn_lines-more c.args.devs.now c.args.count c.loop-done.done c.loop-done.draws c.drawn_line.new.draws c.loop-done.commands c.drawn_line.result c.loop-done-test.true c.drawn_line.ensures ∙ c.loop-done.invariant)
