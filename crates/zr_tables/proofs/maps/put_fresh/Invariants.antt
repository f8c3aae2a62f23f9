use Rattle.std.proofs.Common.{◌≡◌, ◌++◌, map, take}
use Rattle.zr_script.specs.declared.reply.MapLine.TheVariants.{Fresh}
use Rattle.zr_tables.proofs.maps.put_fresh.Given as goal

abbrev pub invariant-loop-e : goal.invariant-loop-e
invariant-loop-e l = l.lines ≡ l.initial.lines ++ map Fresh (take l.e-index l.fresh)
