-- The words that a reset keeps.
use Rattle.std.specs.Prelude.{◌≡◌, ℕ, ◌+◌, ◌*◌, true, length, sum_by}
use Rattle.std.specs.List.{range_with_len}
use Rattle.zr_rules.specs.Owed.{set_words}
use Rattle.zr_rules.specs.Places.{is_leaving, part_of, state_of_dev}
use Rattle.zr_rules.specs.Mappings.{IsRising}
use Rattle.zr_rules.specs.Space.{Space}

-- a device's words but those of blocks that were freed, which are free behind a reset
abbrev pub device_base : Space → ℕ → ℕ
device_base s d =
    set_words s.parts.version (part_of s.parts.devs d).held + 3 * set_words s.parts.version (part_of s.parts.devs d).kept
    + 8 * length (part_of s.parts.devs d).entries + set_words s.parts.version (part_of s.parts.devs d).fresh

abbrev pub base_words : Space → ℕ
base_words s = sum_by (device_base s) (range_with_len 0 (length s.parts.devs))

-- the device is leaving and no other is, and its entries are in order
pub record LeavesAlone (s : Space) (d : ℕ) : Type 0 where
  pub leaving : is_leaving (state_of_dev s.parts.devs d) ≡ true
  pub alone : (e : ℕ) → is_leaving (state_of_dev s.parts.devs e) ≡ true → e ≡ d
  pub rising : IsRising (part_of s.parts.devs d).entries
