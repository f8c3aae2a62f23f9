use Rattle.std.proofs.Common.{◌+◌, ◌≤◌, ap, sym, subst, arith}
use Rattle.zr_base.specs.declared.space.Extent.{Extent}
use Rattle.zr_indirect.specs.Mapped.{Mapped}
use Rattle.zr_indirect.specs.Changes.{IsCopiedOrLeft}
use Rattle.zr_indirect.proofs.Entries.{left_there}
use Rattle.zr_rows.proofs.removals.freed_beside_the_frontiers.Goals as goal

pub free-requires-clause-there : goal.free-requires-clause-there
free-requires-clause-there c =
    let e = c.run.result in
    let ends : e.start + e.len ≤ 30 = omega (arith, ap (λ (x : Extent). x.start) c.run.ensures, ap (λ (x : Extent). x.len) c.run.ensures) in
    let first : IsCopiedOrLeft c.in_ok-device.device e = left_there c.in_ok-device.device e 30 c.in_ok-device.ensures.left ends in
    let aged = subst (λ (m : Mapped). IsCopiedOrLeft m e) (sym c.age.ensures.aged) (c.in_ok-copy.ensures.there e first) in
    c.in_ok-copy-2.ensures.there e aged
