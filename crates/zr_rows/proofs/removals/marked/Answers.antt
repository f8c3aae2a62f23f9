use Rattle.std.proofs.Common.{◌∙◌, ◌∷◌, ap}
use Rattle.zr_indirect.specs.Mapped.{Mapped}
use Rattle.zr_indirect.proofs.Folding.{one_fits}
use Rattle.zr_rows.proofs.removals.marked.Goals as goal

pub mark-requires-clause-fits : goal.mark-requires-clause-fits
mark-requires-clause-fits c =
    let same = c.in_ok-reserve.ensures.same in
    one_fits c.reserve.new.self.entries c.reserve.new.self.counts (c.args.e ∷ c.reserve.new.self.fresh) _
    (ap (λ (m : Mapped). m.entries) same ∙ c.in_ok-device.ensures.entries) (ap (λ (m : Mapped). m.counts) same ∙ c.in_ok-device.ensures.counts)
