-- A set in pages or in one array.
use Rattle.zr_ranges.specs.Ranges.{Ranges}
use Rattle.zr_paged.specs.declared.unit_set.Form.{Form}
use Rattle.zr_paged.specs.declared.unit_set.Form.TheVariants.{Paged, Flat}

-- the set, whichever it is
abbrev pub set_in : Form → Ranges
set_in (Paged s) = s
set_in (Flat s) = s
