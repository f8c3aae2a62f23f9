use Rattle.std.proofs.Common.{sym, ◌∙◌, ap}
use Rattle.zr_base.specs.declared.refusal.Refusal.TheVariants.{MissingDevice}
use Rattle.zr_base.specs.declared.space.DevRow.{DevRow}
use Rattle.zr_slots.proofs.Places.{missing_found, missing_none}
use Rattle.zr_slots.proofs.pool.have_devices.Goals as goal

pub returns-then-is_missing : goal.returns-then-is_missing
returns-then-is_missing c = (
  c.loop-index.index,
  missing_found c.args.u.now c.args.seen.now c.loop-index.index c.loop-index-test.true c.loop-index.invariant (sym c.is_missing.ensures ∙ c.if-is_missing.true),
  ap (λ (r : DevRow). MissingDevice c.loop-index.index r.added) c.row_at.ensures,
)

pub returns : goal.returns
returns c = λ a. missing_none c.args.u.now c.args.seen.now c.loop-index.index a c.loop-index-test.false c.loop-index.invariant
