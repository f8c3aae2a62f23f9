use Rattle.std.proofs.Common.{sym, subst, Err}
use Rattle.zr_store.specs.declared.StoreErr.{StoreErr}
use Rattle.zr_root.specs.Appends.{TellsOfStream}
use Rattle.zr_root.proofs.Tails.{told_hole}
use Rattle.zr_root.proofs.appends.ends_full.Goals as goal

pub returns-in-At-clause-errors : goal.returns-in-At-clause-errors
returns-in-At-clause-errors c = λ s hole.
    let stream = c.args.stream.now in
    subst (λ (e : StoreErr). TellsOfStream {T = Unit {0}} s stream (Err e)) (sym c.malformed.ensures) (told_hole {T = Unit {0}} s stream c.in-At.root c.in-At.is hole c.if-stream-ne0.true)
