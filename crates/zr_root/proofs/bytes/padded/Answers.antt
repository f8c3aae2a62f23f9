use Rattle.std.proofs.Common.{ℕ, ◌*◌, ◌-◌, length, ap, arith}
use Rattle.std.specs.Int.{div_ceil}
use Rattle.zr_root.proofs.Lists.{pad_is}
use Rattle.zr_root.proofs.Joining.{ceil_of}
use Rattle.zr_root.proofs.bytes.padded.Goals as goal

pub returns-clause-items : goal.returns-clause-items
returns-clause-items c =
    let n = length c.args.bytes.now in
    let ceil = ceil_of n 4096 (omega arith) in
    pad_is 4096 0 c.in_ok-all.all.items c.args.bytes.now c.extend_from_slice.new.self.items (4096 * c.div_ceil.result - n) (4096 * div_ceil n 4096 - n) c.in_ok-extend_from_slice.ensures.items c.in_ok-all.ensures.items (ap (λ (k : ℕ). 4096 * k - n) c.div_ceil.ensures) (omega (arith, ceil.1))
