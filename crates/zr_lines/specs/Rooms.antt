-- The room that a change needs.
use Rattle.std.specs.Prelude.{ℕ, ◌+◌, ◌*◌, List, length, map}
use Rattle.zr_bptr.specs.declared.ObjRec.{ObjRec}
use Rattle.zr_change.specs.Changes.{new_in}
use Rattle.zr_change.specs.Plans.{puts_of, olds_of}
use Rattle.zr_change.specs.declared.plans.Planned.{Planned}
use Rattle.zr_rules.specs.Columns.{on_units}
use Rattle.zr_rules.specs.Equation.{devices_in}
use Rattle.zr_rules.specs.Owed.{owed, slop}
use Rattle.zr_rules.specs.Space.{Space}
use Rattle.zr_txg.specs.Changes.{Changes, block_count}
use Rattle.zr_lines.specs.Counts.{new_object, pieces_in}
use Rattle.zr_room.specs.Counts.{sizes_with}
use Rattle.zr_lines.specs.declared.range.Reach.{Reach}
use Rattle.zr_lines.specs.declared.range.Reach.TheVariants.{Fill, Write, Punch}

-- the slop that a line leaves free: none where it takes bytes away
abbrev pub slop_left : Reach → Space → ℕ
slop_left Fill s = slop (on_units s)
slop_left Write s = slop (on_units s)
slop_left Punch s = 0

-- what is owed once the group has the planned changes of an object; each block that comes or goes touches its pieces
abbrev pub owed_after : Space → Changes → ℕ → List Planned → ℕ
owed_after s g id plan =
    owed (sizes_with s
    (block_count g.objects + new_in g id (map (λ p. p.index) plan))
    (length g.objects + new_object g id)
    (puts_of plan + pieces_in (devices_in s) (olds_of plan)))

-- the units that are to be free for a plan: those of its new blocks, what is then owed, and the slop
abbrev pub needed_units : Reach → Space → Changes → ℕ → ObjRec → List Planned → ℕ
needed_units reach s g id r plan = r.units * puts_of plan + owed_after s g id plan + slop_left reach s
