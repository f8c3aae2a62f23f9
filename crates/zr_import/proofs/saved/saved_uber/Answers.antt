use Rattle.std.proofs.Common.{rules, ◌≡◌, subst}
use Rattle.zr_base.specs.declared.space.CkptPart.{CkptPart}
use Rattle.zr_label.proofs.Ubers.{one_uber}
use Rattle.zr_label.specs.Blocks.{SpellsUber}
use Rattle.zr_label.specs.declared.root.Uber.{Uber}
use Rattle.zr_import.specs.Saved.{IsOlder}
use Rattle.zr_import.proofs.saved.saved_uber.Goals as goal

pub returns-then-not-is_older : goal.returns-then-not-is_older
returns-then-not-is_older c = λ r uber ckpt x is.
    let saved = c.in_ok-saved.saved in
    let spelled : SpellsUber c.args.block.now saved = search rules in
    let same : x ≡ saved = one_uber c.args.block.now x saved is.spelled spelled in
    let x_older : IsOlder x c.args.current.now c.args.ckpt = (
    let by_r : IsOlder x r.uber r.parts.ckpt = record { guid = is.guid; past = is.past; txg = is.txg; rows = is.rows } in
    subst (λ (u : Uber). IsOlder x u c.args.ckpt) uber (subst (λ (p : CkptPart). IsOlder x r.uber p) ckpt by_r)
    ) in
    let older : IsOlder saved c.args.current.now c.args.ckpt = subst (λ (u : Uber). IsOlder u c.args.current.now c.args.ckpt) same x_older in
    let yes = c.is_older.ensures.1 older in
    let no = c.if-not-is_older.true in
    absurd cc
