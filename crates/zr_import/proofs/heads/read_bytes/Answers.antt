use Rattle.std.proofs.Common.{rules, ◌≡◌, length, drop, arith}
use Rattle.zr_base.specs.Words.{zeros}
use Rattle.zr_root.proofs.Joining.{ceil_of}
use Rattle.zr_bptr.specs.declared.Tree.{Tree}
use Rattle.zr_bptr.specs.declared.Ptr.TheVariants.{At}
use Rattle.zr_import.proofs.Leaves.{front_read}
use Rattle.zr_import.proofs.heads.read_bytes.Goals as goal

pub returns-clause-bytes : goal.returns-clause-bytes
returns-clause-bytes g c = λ s holds.
    let xs = c.as_slice.result.now in
    let root = c.args.root.now in
    let t : Tree = record { root = At root; height = root.level } in
    let padding : drop c.args.len xs ≡ zeros (length (drop c.args.len xs)) = search rules in
    let ceil = ceil_of c.args.len 4096 (omega arith) in
    front_read s t c.div_ceil-leaves.result c.args.len c.in_ok-bytes.bytes.items xs c.truncate.new.self.items (c.in_ok-bytes.ensures.bytes s holds) c.div_ceil-leaves.ensures (omega (arith, ceil.0, c.div_ceil-leaves.ensures)) c.in_ok-bytes.ensures.len
    c.as_slice.ensures.value padding c.truncate.ensures.items
