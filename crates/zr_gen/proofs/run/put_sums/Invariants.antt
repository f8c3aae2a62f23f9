use Rattle.std.proofs.Common.{◌≡◌, ◌++◌, map}
use Rattle.std.specs.List.{range_with_len}
use Rattle.zr_script.specs.declared.command.Command.TheVariants as cmd
use Rattle.zr_gen.proofs.run.put_sums.Given as goal

abbrev pub invariant-loop-id : goal.invariant-loop-id
invariant-loop-id l = l.commands ≡ l.fn.commands ++ map cmd.Sum (range_with_len 0 l.id)
