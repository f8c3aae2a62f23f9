use Rattle.std.proofs.Common.{refl}
use Rattle.zr_lines.proofs.Giving.{gives_up, kept_txg}
use Rattle.zr_lines.proofs.drops.free_object.Goals as goal

pub returns-clause-wrote : goal.returns-clause-wrote
returns-clause-wrote g c = record { goes = c.free_blocks.ensures.continues; rest = refl; txg = kept_txg c.args.id c.args.pool.now.group c.free_blocks.new.group c.free_blocks.result c.free_blocks.ensures.sets c.free_blocks.ensures.kept }

pub returns-clause-gives : goal.returns-clause-gives
returns-clause-gives g c = gives_up c.args.blocks.now _ _ _ _ c.args.pool.now (record c.args.pool.now { space = c.free_blocks.new.space; cache = c.free_blocks.new.cache; group = c.free_blocks.new.group }) c.free_blocks.result refl c.free_blocks.ensures.swaps
