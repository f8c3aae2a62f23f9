use Rattle.std.proofs.Common.{◌≡◌, ap}
use Rattle.sha2.specs.Sha256.{sha256}
use Rattle.zr_cache.specs.Entries.{entries}
use Rattle.zr_cache.proofs.Keeping.{holds-forgotten}
use Rattle.zr_cache.proofs.table.Cache.forget.Goals as goal

pub invariant_of-self : goal.invariant_of-self
invariant_of-self c = record { sums = holds-forgotten (λ b bytes runs. sha256 bytes ≡ b.sum) (entries c.args.self.now) c.pop.new.self.entries c.args.self.now.sums c.args.b.now (ap (λ l. l.entries) c.pop.ensures.entries) }
