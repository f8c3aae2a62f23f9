use Rattle.std.proofs.Common.{◌∙◌, ap}
use Rattle.std.proofs.lemmas.Result.{err_from_is_err_and}
use Rattle.zr_shelf.specs.Memory.{world_of}
use Rattle.zr_shelf.specs.declared.mem_desk.MemDesk.{MemDesk}
use Rattle.zr_shelf.proofs.Runs.{still}
use Rattle.zr_shelf.proofs.mem_desk.MemDeskDesk.attach.Goals as goal

pub returns-in_err-attach-clause-world : goal.returns-in_err-attach-clause-world
returns-in_err-attach-clause-world c =
    let p = err_from_is_err_and c.from_residual.result c.from_residual.ensures.1 in
    rw p.1 (λ told. still _ _ (c.in_err-attach.ensures.err ∙ ap (λ (d : MemDesk). world_of d.memory.history) c.is_due-due.ensures))
