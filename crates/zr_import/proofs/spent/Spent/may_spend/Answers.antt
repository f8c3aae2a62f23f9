use Rattle.std.proofs.Common.{◌<◌, Bool}
use Rattle.std.specs.Prelude.{IsTrue, ◌↔◌}
use Rattle.std.proofs.lemmas.Result.{IfOk-weaker}
use Rattle.zr_space.specs.Live.{IsFreeable}
use Rattle.zr_import.specs.Spending.{MaySpend}
use Rattle.zr_import.proofs.spent.Spent.may_spend.Goals as goal

pub returns : goal.returns
returns c =
    let s = c.args.self.now in
    let b = c.args.b.now in
    let left : IsFreeable s.left b.at = c.in_ok-is_freeable.ensures.0 c.if-not-branch.false in
    IfOk-weaker
    c.may_spend_older.result (λ (y : Bool). IsTrue y ↔ (s.since < b.birth → IsFreeable s.older b.at))
    (λ (y : Bool). IsTrue y ↔ MaySpend s b)
    (λ y e. (λ yes. record { left = left; older = e.0 yes }, λ may. e.1 may.older))
    c.may_spend_older.ensures
