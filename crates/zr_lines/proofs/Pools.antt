-- The steps of a line on a pool, one after another.
use Rattle.std.proofs.Common.{ℕ, List, ◌∙◌, ap}
use Rattle.zr_shelf.specs.Counts.{Counts}
use Rattle.zr_shelf.specs.Moments.{World}
use Rattle.zr_sync.specs.declared.open.OpenPool.{OpenPool}
use Rattle.zr_sync.specs.Pools.{IsSamePool}
use Rattle.zr_sync.specs.Writes.{WorksOnDisks, WritesBlocks}
use Rattle.zr_sync.proofs.Disks.{works_blocks}

pub same_by : {n1 n2 : List ℕ} {c1 c2 : Counts} {t1 t2 : Type 0} {w1 w2 : World} {x y : OpenPool} → WritesBlocks n1 n2 c1 c2 t1 t2 w1 w2 x y → IsSamePool x y
same_by {n1} {n2} {c1} {c2} {t1} {t2} {w1} {w2} {x} {y} p = record {
  name = ap (λ (o : OpenPool). o.name) p.rest;
  guid = ap (λ (o : OpenPool). o.guid) p.rest;
  version = ap (λ (o : OpenPool). o.version) p.rest;
  table = ap (λ (o : OpenPool). o.table) p.rest;
  ckpt = p.goes.space.rows.ckpt;
}

pub same_more : (x y z : OpenPool) → IsSamePool x y → IsSamePool y z → IsSamePool x z
same_more x y z p q = record { name = q.name ∙ p.name; guid = q.guid ∙ p.guid; version = q.version ∙ p.version; table = q.table ∙ p.table; ckpt = q.ckpt ∙ p.ckpt }

-- ---- what was done on the disks

pub works_by : {n1 n2 : List ℕ} {c1 c2 : Counts} {t1 t2 : Type 0} {w1 w2 : World} {x y : OpenPool} → WritesBlocks n1 n2 c1 c2 t1 t2 w1 w2 x y → t1 → WorksOnDisks w1 w2
works_by {n1} {n2} {c1} {c2} {t1} {t2} {w1} {w2} {x} {y} p told = works_blocks n1 n2 c1 c2 t1 t2 w1 w2 x y told p
