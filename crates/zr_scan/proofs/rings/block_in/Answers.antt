use Rattle.std.proofs.Common.{◌≡◌, ◌*◌, ◌-◌, ◌+◌, ℕ, ap, take, drop, arith}
use Rattle.zr_scan.proofs.rings.block_in.Goals as goal

pub returns-clause-block : goal.returns-clause-block
returns-clause-block c =
    let size : 4096 * c.args.k + 4096 - 4096 * c.args.k ≡ 4096 = omega arith in
    ap (λ (n : ℕ). take n (drop (4096 * c.args.k) c.args.ring.now)) size
