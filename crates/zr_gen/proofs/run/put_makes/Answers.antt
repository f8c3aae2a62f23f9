use Rattle.std.proofs.Common.{rules, ap, ◌%◌, ℕ}
use Rattle.std.specs.Prelude.{◌==◌, if◌then◌else◌}
use Rattle.zr_script.specs.declared.command.Command.TheVariants as cmd
use Rattle.zr_gen.proofs.Numbered.{numbered-more}
use Rattle.zr_gen.proofs.run.put_makes.Goals as goal

pub loop-id-preserved : goal.loop-id-preserved
loop-id-preserved c = numbered-more (λ i. cmd.Make i (if i % 3 == 0 then 1 else (if i % 3 == 1 then 2 else 4))) c.loop-id.id c.args.commands.now c.loop-id.commands c.push.new.self (cmd.Make c.loop-id.id c.units_of-units.result) c.loop-id.invariant (search rules) (ap (λ (u : ℕ). cmd.Make c.loop-id.id u) c.units_of-units.ensures)
