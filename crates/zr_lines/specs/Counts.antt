-- What a change of an object adds to the counts of the open group and of the room.
use Rattle.std.specs.Prelude.{ℕ, List, is_some, sum_by, if◌then◌else◌}
use Rattle.zr_bptr.specs.declared.Bptr.{Bptr}
use Rattle.zr_rules.specs.Devices.{Devices}
use Rattle.zr_rules.specs.Steps.{touch}
use Rattle.zr_txg.specs.Changes.{Changes, object_in}

-- 1 where the group has not changed the object
abbrev pub new_object : Changes → ℕ → ℕ
new_object g id = if is_some (object_in g id) then 0 else 1

-- how many pieces a free of these blocks touches
abbrev pub pieces_in : Devices → List Bptr → ℕ
pieces_in ds blocks = sum_by (λ (b : Bptr). touch ds b.at) blocks
