-- What is owed, and that it is there.
use Rattle.std.specs.Prelude.{ℕ, ◌+◌, ◌*◌, ◌≤◌, Bool, if◌then◌else◌, sum_by}
use Rattle.zr_rules.specs.Columns.{free_units, late1_meta, late2_meta, sizes}
use Rattle.zr_rules.specs.Owed.{owed, head_units}
use Rattle.zr_rules.specs.Space.{Space}
use Rattle.zr_reckon.specs.Base.{base_words}
use Rattle.zr_reckon.specs.Uses.{room}

-- the free units cover what is owed, with so many changed blocks and objects in the open group
abbrev pub IsCovered : Space → ℕ → ℕ → Type 0
IsCovered s changed objects = owed (sizes s changed objects) ≤ free_units s

-- The metadata of a root is what its streams take: a unit for every 128 words that they had if each were written anew, four for each of them, and those of the
-- head. A late set has a word at most for each unit of metadata that it names.
pub record HasFewMetadata (s : Space) : Type 0 where
  pub few : 128 * sum_by (λ a. a.len) s.meta ≤
      128 * (head_units (sizes s 0 0) + 4 * (sizes s 0 0).streams) + (sizes s 0 0).words + late1_meta s.parts.devs + late2_meta s.parts.devs

-- the words that count for the next root: behind a reset there are no late sets, so what was freed counts no more
abbrev pub words_ahead : Bool → Space → ℕ
words_ahead reset s = if reset then base_words s else (sizes s 0 0).words

-- From one moment to a later one nothing was added that the next root has to hold, and the room has not shrunk.
pub record AddsNothing (reset : Bool) (old new : Space) : Type 0 where
  pub words : words_ahead reset new ≤ (sizes old 0 0).words
  pub streams : (sizes new 0 0).streams ≤ (sizes old 0 0).streams
  pub uncopied : (sizes new 0 0).uncopied ≤ (sizes old 0 0).uncopied
  pub past : (sizes new 0 0).past ≤ (sizes old 0 0).past
  pub room : room old ≤ room new
