use Rattle.std.proofs.Common.{◌<◌, Bool, arith}
use Rattle.std.specs.Prelude.{IsTrue, ◌↔◌}
use Rattle.std.proofs.lemmas.Result.{IfOk-weaker}
use Rattle.zr_space.specs.Live.{IsFreeable}
use Rattle.zr_import.proofs.spent.Spent.may_spend_older.Goals as goal

pub returns : goal.returns
returns c =
    let s = c.args.self.now in
    let b = c.args.b.now in
    let young : s.since < b.birth = omega arith in
    IfOk-weaker
    c.is_freeable.result (λ (y : Bool). IsTrue y ↔ IsFreeable s.older b.at)
    (λ (y : Bool). IsTrue y ↔ (s.since < b.birth → IsFreeable s.older b.at))
    (λ y e. (λ yes is_young. e.0 yes, λ may. e.1 (may young)))
    c.is_freeable.ensures
