-- Sums over the devices of a pool.
use Rattle.std.specs.Prelude.{ℕ, ◌+◌, ◌≤◌, ◌<◌, ◌^◌, List, length, sum_by, count_by, if◌then◌else◌}
use Rattle.zr_base.specs.declared.space.DevPart.{DevPart}
use Rattle.zr_base.specs.Extents.{unit_count}
use Rattle.zr_rules.specs.Columns.{device_streams}
use Rattle.zr_rules.specs.Places.{is_on, is_gone}
use Rattle.zr_rules.specs.Space.{Space}
use Rattle.zr_indirect.specs.Mapped.{mapped_words}
use Rattle.zr_units.specs.Uses.{Uses, use_count}
use Rattle.zr_units.specs.Words.{use_words}
use Rattle.zr_space.specs.Views.{Kept, kept_of}

abbrev pub total_by : (Uses → ℕ) → List Kept → ℕ
total_by f devs = sum_by (λ (k : Kept). f k.uses) devs

-- the units of the devices in service
abbrev pub serving_units : List Kept → ℕ
serving_units devs = sum_by (λ (k : Kept). if is_on k.row.state then k.uses.units else 0) devs

-- what the devices in service have of it
abbrev pub serving_by : (Uses → ℕ) → List Kept → ℕ
serving_by f devs = sum_by (λ (k : Kept). if is_on k.row.state then f k.uses else 0) devs

-- the units of all devices, those of removed ones too
abbrev pub all_units : List Kept → ℕ
all_units devs = sum_by (λ (k : Kept). k.row.units) devs

abbrev pub units_ever : Space → ℕ
units_ever s = sum_by (λ (p : DevPart). p.row.units) s.parts.devs

-- the metadata units of the current root on a device, and those of its late sets
abbrev pub current_meta : Uses → ℕ
current_meta x = unit_count x.meta

abbrev pub late1_meta : Uses → ℕ
late1_meta x = unit_count x.late1.meta

abbrev pub late2_meta : Uses → ℕ
late2_meta x = unit_count x.late2.meta

abbrev pub kept_in : Uses → ℕ
kept_in x = unit_count x.kept

-- the words of a device's sets and of its mapping
abbrev pub words_in : ℕ → Kept → ℕ
words_in version k = use_words version k.uses + mapped_words version k.moves

abbrev pub all_words : ℕ → List Kept → ℕ
all_words version devs = sum_by (words_in version) devs

-- the streams of the devices, those that are gone, and what is left to copy
abbrev pub all_streams : List Kept → ℕ
all_streams devs = sum_by (λ (k : Kept). device_streams k.row.state) devs

abbrev pub all_gone : List Kept → ℕ
all_gone devs = count_by (λ (k : Kept). is_gone k.row.state) devs

abbrev pub all_left : List Kept → ℕ
all_left devs = sum_by (λ (k : Kept). unit_count k.moves.left) devs

-- the units of all devices that only the checkpoint has
abbrev pub kept_units : Space → ℕ
kept_units s = sum_by (λ (p : DevPart). unit_count p.kept) s.parts.devs

-- the sets and the mapping of the device have no more than its units, so that their words can be added
pub record HasWords (k : Kept) : Type 0 where
  pub used : use_count k.uses ≤ k.row.units
  pub kept : unit_count k.uses.kept ≤ k.row.units
  pub small : k.row.units < 2 ^ 40
  pub fresh : unit_count k.moves.fresh ≤ k.row.units
  pub entries : length k.moves.entries ≤ k.row.units

-- at most 32 devices, each with less than 2 ^ 40 units, whose sets lie within them
pub record AreFew (devs : List Kept) : Type 0 where
  pub few : length devs ≤ 32
  pub used : (d : ℕ) → use_count (kept_of devs d).uses ≤ (kept_of devs d).uses.units
  pub small : (d : ℕ) → (kept_of devs d).uses.units < 2 ^ 40
  pub kept : (d : ℕ) → unit_count (kept_of devs d).uses.kept ≤ (kept_of devs d).uses.units
  pub rows : (d : ℕ) → (kept_of devs d).row.units < 2 ^ 40
  pub left : (d : ℕ) → unit_count (kept_of devs d).moves.left ≤ (kept_of devs d).row.units
  pub words : (d : ℕ) → HasWords (kept_of devs d)
