use Rattle.std.proofs.Common.{◌∙◌, ap}
use Rattle.std.proofs.lemmas.Result.{err_from_is_err_and}
use Rattle.zr_shelf.specs.Memory.{world_of}
use Rattle.zr_shelf.specs.declared.memory.Memory.{Memory}
use Rattle.zr_shelf.proofs.Runs.{still}
use Rattle.zr_shelf.proofs.sure_desk.SureDeskDesk.give.Goals as goal

pub returns-in_err-give-clause-world : goal.returns-in_err-give-clause-world
returns-in_err-give-clause-world c =
    let p = err_from_is_err_and c.from_residual.result c.from_residual.ensures.1 in
    rw (p.1, p.2) (λ told. still _ _ (c.in_err-give.ensures.err ∙ ap (λ (m : Memory). world_of m.history) c.count.ensures.rest))
