use Rattle.std.proofs.Common.{◌≡◌, length, arith, ap, sym, subst, ◌∙◌}
use Rattle.std.specs.List.{AllByRecursion}
use Rattle.std.proofs.lemmas.Grind.{common_steps}
use Rattle.zr_script.specs.Generated.{script_of}
use Rattle.zr_gen.specs.Spelled.{HasLine}
use Rattle.zr_gen.proofs.Spelled.{spelled_script}
use Rattle.zr_gen.proofs.Count.{length-script_of}
use Rattle.zr_gen.proofs.run.script_of.Goals as goal

pub returns-clause-length : goal.returns-clause-length
returns-clause-length c = λ some.
    let all : c.push-3.new.self ≡ script_of c.args.number c.args.count c.args.devs.now = grind (arith, common_steps) in
    ap length all ∙ length-script_of c.args.number c.args.count c.args.devs.now some

pub returns-clause-lines : goal.returns-clause-lines
returns-clause-lines c = λ paths different.
    let all : c.push-3.new.self ≡ script_of c.args.number c.args.count c.args.devs.now = grind (arith, common_steps) in
    subst (λ commands. AllByRecursion HasLine commands) (sym all) (spelled_script c.args.number c.args.count c.args.devs.now c.requires paths different)
