use Rattle.std.proofs.Common.{◌≡◌, ◌++◌, map, ◌%◌}
use Rattle.std.specs.Prelude.{◌==◌, if◌then◌else◌}
use Rattle.std.specs.List.{range_with_len}
use Rattle.zr_script.specs.declared.command.Command.TheVariants as cmd
use Rattle.zr_gen.proofs.run.put_makes.Given as goal

abbrev pub invariant-loop-id : goal.invariant-loop-id
invariant-loop-id l = l.commands ≡ l.fn.commands ++ map (λ i. cmd.Make i (if i % 3 == 0 then 1 else (if i % 3 == 1 then 2 else 4))) (range_with_len 0 l.id)
