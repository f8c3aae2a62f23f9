-- The slots of paths.
use Rattle.std.specs.Prelude.{◌≡◌, ℕ, ◌<◌, List, [], length, Contains, slice_index, slice_index_or, Option, Some, None}
use Rattle.std.specs.List.{position}
use Rattle.std.specs.Str.{bytes_eq}

-- the lowest slot of the path
abbrev pub slot_named : List (List ℕ) → List ℕ → Option ℕ
slot_named paths dev = position (bytes_eq dev) paths

-- the slot of each device, in order
pub record AreSlotsOf (paths devs : List (List ℕ)) (slots : List ℕ) : Type 0 where
  pub count : length slots ≡ length devs
  pub each : (k : ℕ) → k < length devs → slot_named paths (slice_index_or devs k []) ≡ Some (slice_index slots k)

-- no slot stands twice
abbrev pub AreApart : List ℕ → Type 0
AreApart slots = (i j : ℕ) → i < length slots → j < length slots → slice_index slots i ≡ slice_index slots j → i ≡ j

-- one of the devices has no slot
pub record IsSlotMissing (paths devs : List (List ℕ)) : Type 0 where
  pub dev : List ℕ
  pub among : Contains devs dev
  pub none : slot_named paths dev ≡ None
