use Rattle.std.proofs.Common.{rules, refl}
use Rattle.zr_script.specs.declared.command.Command.TheVariants as cmd
use Rattle.zr_gen.proofs.Numbered.{numbered-more}
use Rattle.zr_gen.proofs.run.put_sums.Goals as goal

pub loop-id-preserved : goal.loop-id-preserved
loop-id-preserved c = numbered-more cmd.Sum c.loop-id.id c.args.commands.now c.loop-id.commands c.push.new.self (cmd.Sum c.loop-id.id) c.loop-id.invariant (search rules) refl
