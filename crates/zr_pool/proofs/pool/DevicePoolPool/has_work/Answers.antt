use Rattle.std.proofs.Common.{◌≡◌, Bool, false, Option, refl, sym, subst}
use Rattle.zr_sync.specs.declared.open.OpenPool.{OpenPool}
use Rattle.zr_pool.specs.Pools.{StandsFor}
use Rattle.zr_pool.specs.Turns.{works_on}
use Rattle.zr_pool.proofs.Working.{state_works}
use Rattle.zr_pool.proofs.pool.DevicePoolPool.has_work.Goals as goal

pub returns-in-Some-clause-works : goal.returns-in-Some-clause-works
returns-in-Some-clause-works c = λ disks state stands.
    state_works disks.seen c.in-Some.pool state.told c.args.actor c.has_work.result (subst (λ (o : Option OpenPool). StandsFor o disks.seen state.told) c.in-Some.is stands.told) c.has_work.ensures

pub returns-in-None-clause-works : goal.returns-in-None-clause-works
returns-in-None-clause-works c = λ disks state stands.
    let closed : state.told.is_open ≡ false = subst (λ (o : Option OpenPool). StandsFor o disks.seen state.told) c.in-None.is stands.told in
    subst (λ (b : Bool). false ≡ works_on b state.told.work c.args.actor) (sym closed) refl
