use Rattle.std.proofs.Common.{◌≤◌, ◌<◌, ◌^◌, arith, ap}
use Rattle.zr_base.specs.Extents.{unit_count}
use Rattle.zr_rules.specs.Mappings.{mapped_units}
use Rattle.zr_obsolete.specs.Obsolete.{Marks, LiesIn}
use Rattle.zr_obsolete.proofs.Counting.{fresh-few, percent_few}
use Rattle.zr_obsolete.proofs.Obsolete.percent.Goals as goal

pub overflow_cast-result-2 : goal.overflow_cast-result-2
overflow_cast-result-2 c =
    let within : LiesIn c.self.inside.fresh.extents c.args.map.now.entries = rw (ap (λ (m : Marks). m.fresh) c.self.view_is) c.requires.within in
    let few : unit_count c.self.inside.fresh.extents ≤ mapped_units c.args.map.now.entries = fresh-few (2 ^ 62) c.self.inside.fresh.extents c.args.map.now.entries c.first-first.ensures.maximal c.units-mapped.ensures.rising (omega arith) within in
    let some : 0 < c.units-mapped.result = omega arith in
    let most = percent_few c.units-fresh.result c.units-mapped.result (omega (arith, few, c.units-fresh.ensures.units, c.units-mapped.ensures.units)) some in
    omega (arith, most)
