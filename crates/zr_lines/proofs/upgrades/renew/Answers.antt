use Rattle.std.proofs.Common.{sym, subst}
use Rattle.zr_rules.specs.Space.{Space}
use Rattle.zr_sync.specs.Pools.{IsOpen}
use Rattle.zr_lines.proofs.Versions.{renewed_open}
use Rattle.zr_lines.proofs.upgrades.renew.Goals as goal

pub returns-clause-pool : goal.returns-clause-pool
returns-clause-pool c = λ sizes o. subst (λ (s : Space). IsOpen sizes (record c.args.pool.now { version = 2; space = s })) (sym c.upgrade.ensures) (renewed_open sizes c.args.pool.now o)
