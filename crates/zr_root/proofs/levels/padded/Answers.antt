use Rattle.std.proofs.Common.{ℕ, ◌*◌, ◌-◌, length, map, ap, arith}
use Rattle.std.specs.Int.{div_ceil}
use Rattle.zr_bptr.specs.declared.Ptr.TheVariants.{Hole, At}
use Rattle.zr_root.proofs.Lists.{pad_is}
use Rattle.zr_root.proofs.Joining.{ceil_of}
use Rattle.zr_root.proofs.levels.padded.Goals as goal

pub returns-clause-items : goal.returns-clause-items
returns-clause-items c =
    let n = length c.args.bs.now in
    let ceil = ceil_of n 32 (omega arith) in
    pad_is 32 Hole c.in_ok-pointers.pointers.items (map At c.args.bs.now) c.extend_from_slice.new.self.items (32 * c.div_ceil.result - n) (32 * div_ceil n 32 - n) c.in_ok-extend_from_slice.ensures.items c.in_ok-pointers.ensures (ap (λ (k : ℕ). 32 * k - n) c.div_ceil.ensures) (omega (arith, ceil.1))
