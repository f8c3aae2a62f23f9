use Rattle.std.proofs.Common.{length, []}
use Rattle.std.proofs.lemmas.Result.{err_from_is_err_and}
use Rattle.zr_bptr.specs.declared.Tree.{Tree}
use Rattle.zr_tree.proofs.Wholes.{tells_from}
use Rattle.std.specs.Int.{div_ceil}
use Rattle.zr_root.proofs.Words.{stores_bytes, root_unit}
use Rattle.zr_root.proofs.bytes.write_root.Goals as goal

pub returns-clause-root : goal.returns-clause-root
returns-clause-root g c = λ height is. root_unit c.in_ok-t.t (div_ceil (length c.args.bytes.now) 4096) height c.in_ok-t.ensures.height is c.in_ok-t.ensures.root

pub returns-clause-stores : goal.returns-clause-stores
returns-clause-stores g c = λ s held height is.
    stores_bytes (g.B.Blocks.holds c.write_bytes.new.store) s c.in_ok-t.t (div_ceil (length c.args.bytes.now) 4096) height c.args.bytes.now c.in_ok-t.ensures.height is (c.in_ok-t.ensures.stores s held)

pub returns-in_err-t-clause-errors : goal.returns-in_err-t-clause-errors
returns-in_err-t-clause-errors g c = λ s.
    let e = c.in_err-t in
    let x = c.from_residual in
    tells_from {T = Tree} s [] x.result e.field-0.0 (err_from_is_err_and x.result x.ensures.1) (e.ensures.errors s)
