use Rattle.std.proofs.Common.{refl, arith}
use Rattle.zr_sync.proofs.Publishing.{next_lawful}
use Rattle.zr_sync.proofs.roots.next_root.Goals as goal

pub returns-clause-lawful : goal.returns-clause-lawful
returns-clause-lawful c =
    next_lawful c.requires.pool.0 c.args.pool.now c.args.reset _ c.requires.pool.1
    (record { txg = c.txg.ensures; version = refl; guid = c.identity.ensures; name = refl; count = refl; rows = refl; reset_is = c.next_reset.ensures })
    c.requires.root c.requires.whole c.requires.least c.requires.short (omega arith) (omega arith)
