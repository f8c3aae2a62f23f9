use Rattle.std.proofs.Common.{◌≡◌, refl}
use Rattle.zr_lookup.specs.Objects.{pointer_now}
use Rattle.zr_lookup.proofs.Telling.{of_block}
use Rattle.zr_lookup.proofs.reads.block_at.Goals as goal

pub returns-clause-errors : goal.returns-clause-errors
returns-clause-errors g c = λ s holds.
    of_block s (pointer_now s c.args.group.now c.args.id c.args.rec.now) c.args.rec.now (λ k. k ≡ c.args.index) c.args.index c.in_ok-p.p c.block_bytes.result
    (c.in_ok-p.ensures.pointer s holds) refl c.in_ok-p.ensures.fits (c.block_bytes.ensures.errors s (c.in_ok-p.ensures.same s holds))
