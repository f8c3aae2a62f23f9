use Rattle.std.proofs.Common.{◌≡◌, ◌∙◌, ap, sym, Option, set}
use Rattle.std.specs.Prelude.{unwrap_or}
use Rattle.zr_txg.specs.Changes.{ObjectChange, with_block}
use Rattle.zr_txg.proofs.Keyed.{set_value, value_of}
use Rattle.zr_txg.proofs.group.change_object.Goals as goal

pub returns-clause-put : goal.returns-clause-put
returns-clause-put c = λ x is.
    let e = c.index_mut.result.now in
    let objects = c.args.objects.now.items in
    let at = rw c.as_slice.ensures.value at c.in-Ok.ensures.found in
    let value = value_of objects c.args.id c.in-Ok.i e at c.index_mut.ensures.value in
    let same : e.1 ≡ x = ap (λ (o : Option ObjectChange). unwrap_or o e.1) (sym value ∙ is) in
    let new = c.in_ok-added-in-Ok.ensures.put ∙ ap (λ (y : ObjectChange). with_block y c.args.index c.args.p) same in
    ap (λ (v : ObjectChange). set objects c.in-Ok.i (e.0, v)) new
    ∙ set_value objects c.args.id c.in-Ok.i _ e c.requires.rising at c.index_mut.ensures.value
