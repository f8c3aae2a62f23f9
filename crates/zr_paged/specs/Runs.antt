-- Where the extents of a page begin and end.
use Rattle.std.specs.Prelude.{ℕ, ◌-◌, List, length}
use Rattle.zr_base.specs.declared.space.Extent.{Extent}
use Rattle.zr_base.specs.Extents.{extent_at, end_of}

-- the first unit of a page, 0 where it is empty
abbrev pub start_of : List Extent → ℕ
start_of page = (extent_at page 0).start

-- one past the last unit of a page, 0 where it is empty
abbrev pub stop_of : List Extent → ℕ
stop_of page = end_of (extent_at page (length page - 1))
