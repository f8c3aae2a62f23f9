-- What a line that is done has recorded, and why it is refused.
use Rattle.std.proofs.Common.{◌≡◌, ℕ, zero, suc, ◌+◌, ◌-◌, ◌*◌, ◌<◌, ◌≤◌, List, map, refl, arith}
use Rattle.std.proofs.lemmas.Bool.{false≢true}
use Rattle.std.specs.Prelude.{IsTrue}
use Rattle.zr_base.specs.Blocks.{is_block_size}
use Rattle.zr_base.specs.declared.refusal.Refusal.{Refusal}
use Rattle.zr_bptr.specs.declared.ObjRec.{ObjRec}
use Rattle.zr_bptr.specs.declared.Ptr.{Ptr}
use Rattle.zr_change.specs.Changes.{Records}
use Rattle.zr_change.specs.Edits.{IsInRow}
use Rattle.zr_change.specs.Plans.{AreChangesFor, puts_of}
use Rattle.zr_change.specs.declared.plans.Planned.{Planned}
use Rattle.zr_change.proofs.Rows.{count_planned}
use Rattle.zr_rules.specs.Columns.{free_units}
use Rattle.zr_rules.specs.Space.{Space}
use Rattle.zr_sync.specs.Pools.{IsInLimits}
use Rattle.zr_txg.specs.Changes.{Changes}
use Rattle.zr_lines.specs.Causes.{IsMissingRun, IsLongRun}
use Rattle.zr_lines.specs.Intents.{HasPlace, IsIntent}
use Rattle.zr_lines.specs.Rooms.{needed_units, owed_after, slop_left}
use Rattle.zr_lines.specs.declared.intent.Intent.{Intent}
use Rattle.zr_lines.specs.declared.range.Reach.{Reach}

pub in_limits : (g h : Changes) (id : ℕ) (r : ObjRec) (plan : List Planned) (cs : List (ℕ × Ptr)) → AreChangesFor plan cs → Records id r cs g h → HasPlace g id (map (λ p. p.index) plan) → IsInLimits h
in_limits g h id r plan cs are records place =
    let blocks = records.block_count in
    let objects = records.object_count in
    let same = count_planned id plan cs g are in
    let room = place.0 in
    let more = place.1 in
    record { blocks = omega (arith, blocks, same, room); objects = omega (arith, objects, more) }

pub in_row : (g : Changes) (id : ℕ) (i : Intent) → IsIntent g id i → IsInRow (map (λ p. p.index) i.plan.items)
in_row g id i is =
    let order = is.order in
    let top = is.top in
    record { first = i.first; count = i.last + 1 - i.first; row = is.row; low = omega (arith, order, top) }

above_one : (u p o k free : ℕ) → IsTrue (is_block_size u) → u * p + o + k ≤ free → (u ≡ 1 → free < p) → 1 < u
above_one zero p o k free size room full = absurd (false≢true size)
above_one (suc zero) p o k free size room full = let lt = full refl in absurd (omega (arith, lt, room))
above_one (suc (suc u)) p o k free size room full = omega arith

pub long_run : (reach : Reach) (s : Space) (g : Changes) (id : ℕ) (i : Intent) (r : Refusal) → IsTrue (is_block_size i.rec.units) → needed_units reach s g id i.rec i.plan.items ≤ free_units s → IsMissingRun i.rec.units (puts_of i.plan.items) (free_units s) r → IsLongRun i r
long_run reach s g id i r size room m = record {
  longest = m.longest;
  is = m.is;
  short = m.short;
  some = above_one i.rec.units (puts_of i.plan.items) (owed_after s g id i.plan.items) (slop_left reach s) (free_units s) size room m.full;
}
