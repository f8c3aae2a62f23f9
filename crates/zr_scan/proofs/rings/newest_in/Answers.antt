use Rattle.std.proofs.Common.{ℕ, List, subst}
use Rattle.zr_base.specs.Readers.{Reads}
use Rattle.zr_scan.specs.Rings.{IsNewerAt}
use Rattle.zr_scan.proofs.Gathering.{newer_more}
use Rattle.zr_scan.proofs.rings.newest_in.Goals as goal

pub loop-k-preserved : goal.loop-k-preserved
loop-k-preserved c =
    newer_more c.args.ring.now c.args.guid c.args.old c.loop-k.k c.loop-k.found c.newer_at.result c.newer-found.result c.loop-k.invariant
    (subst (λ (b : List ℕ). Reads (IsNewerAt b c.loop-k.k c.args.guid) c.newer_at.result) c.block_in.ensures.block c.newer_at.ensures) c.newer-found.ensures
