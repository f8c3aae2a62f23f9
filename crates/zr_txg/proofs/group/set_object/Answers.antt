use Rattle.std.proofs.Common.{◌∙◌, ap, sym, Option, set}
use Rattle.std.specs.Prelude.{insert}
use Rattle.zr_txg.specs.Changes.{ObjectChange, with_record}
use Rattle.zr_txg.proofs.Keyed.{set_value, value_of, insert_at}
use Rattle.zr_txg.proofs.Counts.{new_record}
use Rattle.zr_txg.proofs.group.set_object.Goals as goal

pub returns-in-Ok-clause-put : goal.returns-in-Ok-clause-put
returns-in-Ok-clause-put c =
    let e = c.index_mut.result.now in
    let objects = c.args.objects.now.items in
    let at = rw c.as_slice.ensures.value at c.in-Ok.ensures.found in
    let value = value_of objects c.args.id c.in-Ok.i e at c.index_mut.ensures.value in
    let new = c.set_object.ensures.set ∙ ap (λ (o : Option ObjectChange). with_record o c.args.r) (sym value) in
    ap (λ (v : ObjectChange). set objects c.in-Ok.i (e.0, v)) new
    ∙ set_value objects c.args.id c.in-Ok.i _ e c.requires.rising at c.index_mut.ensures.value

pub returns-in_ok-insert-in-Err-clause-put : goal.returns-in_ok-insert-in-Err-clause-put
returns-in_ok-insert-in-Err-clause-put c =
    let objects = c.args.objects.now.items in
    let at = rw c.as_slice.ensures.value at c.in-Err.ensures.missing in
    let new = new_record c.new.result c.args.r c.new.ensures.object c.new.ensures.blocks ∙ ap (λ (o : Option ObjectChange). with_record o c.args.r) (sym at.none) in
    c.in_ok-insert-in-Err.ensures.items
    ∙ (ap (λ (v : ObjectChange). insert objects c.in-Err.i (c.args.id, v)) new
    ∙ insert_at objects c.args.id c.in-Err.i _ c.requires.rising at)
