use Rattle.std.proofs.Common.{rules, length, ◌≡◌, []}
use Rattle.std.proofs.lemmas.Result.{err_from_is_err_and}
use Rattle.zr_bptr.specs.declared.Tree.{Tree}
use Rattle.zr_tree.proofs.Wholes.{tells_from}
use Rattle.zr_root.proofs.Words.{hole_stores, stores_words}
use Rattle.zr_root.proofs.streams.write_stream.Goals as goal

pub returns-then-is_empty-clause-stores : goal.returns-then-is_empty-clause-stores
returns-then-is_empty-clause-stores g c = λ s held.
    let none : length c.args.ns.now ≡ 0 = search rules in
    hole_stores (g.B.Blocks.holds c.args.store.now) s c.args.ns.now held none

pub returns-clause-stores : goal.returns-clause-stores
returns-clause-stores g c = λ s held.
    stores_words (g.B.Blocks.holds c.write_bytes.new.store) s c.in_ok-tree.tree c.in_ok-bytes.bytes.items c.args.ns.now c.as_slice.result.now c.as_slice.ensures.value c.in_ok-bytes.ensures.bytes (c.in_ok-tree.ensures.stores s held)

pub returns-in_err-tree-clause-errors : goal.returns-in_err-tree-clause-errors
returns-in_err-tree-clause-errors g c = λ s.
    let e = c.in_err-tree in
    let x = c.from_residual-in_err-tree in
    tells_from {T = Tree} s [] x.result e.field-0.0 (err_from_is_err_and x.result x.ensures.1) (e.ensures.errors s)
