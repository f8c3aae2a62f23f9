-- The room that a line on a whole object needs.
use Rattle.std.specs.Prelude.{◌≡◌, ℕ, ◌+◌, ◌-◌, ◌<◌, List, length}
use Rattle.zr_bptr.specs.declared.Bptr.{Bptr}
use Rattle.zr_rules.specs.Columns.{free_units, on_units}
use Rattle.zr_rules.specs.Equation.{devices_in}
use Rattle.zr_rules.specs.Owed.{owed, slop}
use Rattle.zr_rules.specs.Space.{Space}
use Rattle.zr_room.specs.Counts.{sizes_with}
use Rattle.zr_lines.specs.Counts.{new_object, pieces_in}
use Rattle.zr_txg.specs.Changes.{Changes, block_count, changes_in}

-- what is owed for the group, and the slop
abbrev pub room_for_group : Space → Changes → ℕ
room_for_group s g = owed (sizes_with s (block_count g.objects) (length g.objects) 0) + slop (on_units s)

-- what a new object needs: what is owed with it, and the slop
abbrev pub room_to_make : Space → Changes → ℕ → ℕ
room_to_make s g id = owed (sizes_with s (block_count g.objects) (length g.objects + new_object g id) 0) + slop (on_units s)

-- what the drop of an object with these blocks needs: what is owed without its changed blocks, with four words for each piece that a free of its blocks touches
abbrev pub room_to_drop : Space → Changes → ℕ → List Bptr → ℕ
room_to_drop s g id blocks = owed (sizes_with s (block_count g.objects - length (changes_in g id)) (length g.objects + new_object g id) (pieces_in (devices_in s) blocks))

-- so many units are needed, and fewer are free
pub record LacksRoom (s : Space) (wanted needed free : ℕ) : Type 0 where
  pub needed_is : needed ≡ wanted
  pub free_is : free ≡ free_units s
  pub less : free < needed
