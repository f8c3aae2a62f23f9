use Rattle.std.proofs.Common.{ℕ, rules, subst}
use Rattle.zr_sync.proofs.Objects.{now_held}
use Rattle.zr_lines.specs.Damage.{IsDamageOf}
use Rattle.zr_lines.proofs.drops.object_blocks.Goals as goal

pub returns-clause-held : goal.returns-clause-held
returns-clause-held g c = λ s h. now_held (λ n held. search (rules, held)) (c.read_blocks.ensures.held s h)

pub returns-clause-damaged : goal.returns-clause-damaged
returns-clause-damaged g c = λ s h at expected found is.
    let p = c.args.pool.now in
    subst (λ (n : ℕ). IsDamageOf s p.dir p.group n (λ r index. ⊥) at expected found) c.from.ensures (c.read_blocks.ensures.damaged s h at expected found is)
