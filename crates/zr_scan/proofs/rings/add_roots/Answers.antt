use Rattle.std.proofs.Common.{ℕ, List, subst}
use Rattle.zr_base.specs.Readers.{Reads}
use Rattle.zr_scan.specs.Rings.{IsRootAt}
use Rattle.zr_scan.proofs.Gathering.{root_more}
use Rattle.zr_scan.proofs.rings.add_roots.Goals as goal

pub loop-k-preserved : goal.loop-k-preserved
loop-k-preserved c =
    root_more c.args.ring.now c.loop-k.k c.args.l.now c.args.roots.now c.loop-k.roots c.loop-k.invariant c.root_at.result c.add.new.roots
    (subst (λ (b : List ℕ). Reads (IsRootAt b c.loop-k.k c.args.l.now) c.root_at.result) c.block_in.ensures.block c.root_at.ensures) c.in_ok-add.ensures
