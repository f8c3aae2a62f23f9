use Rattle.std.proofs.Common.{◌∙◌, ap, sym, subst, ℕ, List}
use Rattle.zr_bptr.specs.declared.Ptr.{Ptr}
use Rattle.zr_txg.specs.Tables.{IsRising}
use Rattle.zr_txg.specs.Changes.{ObjectChange, with_block}
use Rattle.zr_txg.proofs.Keyed.{set_at, insert_at}
use Rattle.zr_txg.proofs.Counts.{change_from}
use Rattle.zr_txg.proofs.changed.Changed.put.Goals as goal

pub returns-in-Ok-clause-put : goal.returns-in-Ok-clause-put
returns-in-Ok-clause-put c =
    let up : IsRising c.self.inside.blocks.items = subst (λ (s : ObjectChange). IsRising s.blocks) (sym c.self.view_is) c.requires in
    let at = rw c.as_slice.ensures.value at c.in-Ok.ensures.found in
    ap (λ (b : List (ℕ × Ptr)). change_from c.self.inside.object b) (set_at c.self.inside.blocks.items c.args.index c.in-Ok.i c.args.p c.index_mut.result.now up at)
    ∙ ap (λ (s : ObjectChange). with_block s c.args.index c.args.p) c.self.view_is

pub returns-in_ok-insert-in-Err-clause-put : goal.returns-in_ok-insert-in-Err-clause-put
returns-in_ok-insert-in-Err-clause-put c =
    let up : IsRising c.self.inside.blocks.items = subst (λ (s : ObjectChange). IsRising s.blocks) (sym c.self.view_is) c.requires in
    let at = rw c.as_slice.ensures.value at c.in-Err.ensures.missing in
    ap (λ (b : List (ℕ × Ptr)). change_from c.self.inside.object b)
    (c.in_ok-insert-in-Err.ensures.items ∙ insert_at c.self.inside.blocks.items c.args.index c.in-Err.i c.args.p up at)
    ∙ ap (λ (s : ObjectChange). with_block s c.args.index c.args.p) c.self.view_is
