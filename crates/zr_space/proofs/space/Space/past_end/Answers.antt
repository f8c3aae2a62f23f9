use Rattle.std.proofs.Common.{◌-◌, ◌∙◌, sym, ap, arith}
use Rattle.zr_base.specs.declared.space.DevPart.{DevPart}
use Rattle.zr_base.specs.declared.space.DevRow.{DevRow}
use Rattle.zr_rules.specs.Equation.{devices_in}
use Rattle.zr_rules.specs.Places.{is_gone}
use Rattle.zr_space.proofs.Paths.{leads_nowhere, part_past}
use Rattle.zr_space.proofs.space.Space.past_end.Goals as goal

pub returns-then-d-devices-clause-past : goal.returns-then-d-devices-clause-past
returns-then-d-devices-clause-past c =
    let le = c.if-d-devices.true in
    let is = c.devices.ensures in
    let none = part_past c.args.self.now.parts.devs c.args.d.dev (omega (arith, le, is)) in
    (0, c.requires, leads_nowhere (devices_in c.args.self.now) c.args.d 0 (ap (λ (p : DevPart). is_gone p.row.state) none) (λ lt. absurd (omega (arith, le, is, lt))))

pub returns-then-d-units-clause-past : goal.returns-then-d-units-clause-past
returns-then-d-units-clause-past c =
    let there = sym c.is_gone.ensures ∙ c.if-is_gone.false in
    let units = ap (λ (r : DevRow). r.units) c.row-row.ensures in
    let le = c.if-d-units.true in
    (0, c.requires, leads_nowhere (devices_in c.args.self.now) c.args.d 0 (ap (λ (r : DevRow). is_gone r.state) (sym c.row-row.ensures) ∙ there) (λ lt. omega (arith, le, units)))

pub returns-then-from-units-clause-past : goal.returns-then-from-units-clause-past
returns-then-from-units-clause-past c =
    let there = sym c.is_gone.ensures ∙ c.if-is_gone.false in
    let units = ap (λ (r : DevRow). r.units) c.row-row.ensures in
    let rest = c.row-row.result.units - c.args.d.start in
    (rest, omega arith, leads_nowhere (devices_in c.args.self.now) c.args.d rest (ap (λ (r : DevRow). is_gone r.state) (sym c.row-row.ensures) ∙ there) (λ lt. omega (arith, units)))
