-- How many units the devices of a root have, those that are gone too.
use Rattle.std.proofs.Common.{◌≡◌, ℕ, ◌*◌, ◌<◌, ◌≤◌, ◌^◌, length, ap, arith}
use Rattle.std.specs.Prelude.{All}
use Rattle.std.proofs.lemmas.List.{get_or_default}
use Rattle.std.proofs.lemmas.List.Sums.{sum_by-le}
use Rattle.zr_base.specs.declared.space.DevPart.{DevPart}
use Rattle.zr_base.specs.declared.space.DevRow.{DevRow}
use Rattle.zr_label.specs.declared.root.Uber.{Uber}
use Rattle.zr_label.specs.Blocks.{IsUber}
use Rattle.zr_rules.specs.Places.{no_part}
use Rattle.zr_rules.specs.Space.{Space}
use Rattle.zr_space.specs.Totals.{units_ever}
use Rattle.zr_roots.specs.Devices.{HasRows}
use Rattle.zr_roots.proofs.Rows.{row_units}

pub few_ever : (u : Uber) (s : Space) → IsUber u → HasRows u s.parts.devs → units_ever s ≤ 2 ^ 31
few_ever u s is rows =
    let devs = s.parts.devs in
    let count = rows.count in
    let few = is.head.devices in
    let small : All (λ (p : DevPart). p.row.units ≤ 2 ^ 26) devs = λ i e lt.
    let same = ap (λ (p : DevPart). p.row.units) (get_or_default devs i no_part e lt) in
    let inside : i < u.count = omega (arith, lt, count) in
    let row = ap (λ (r : DevRow). r.units) (rows.each i inside) in
    let here = row_units u is i inside in
    omega (arith, same, row, here) in
    let all = sum_by-le (λ (p : DevPart). p.row.units) (2 ^ 26) devs small in
    omega (arith, all, count, few)
