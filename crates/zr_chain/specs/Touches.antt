-- Which entries of a mapping meet an extent.
use Rattle.std.specs.Prelude.{◌≡◌, ℕ, ◌+◌, ◌≤◌, ◌<◌, Bool, true, false, nat_le, nat_lt, List, length}
use Rattle.zr_base.specs.declared.space.Extent.{Extent}
use Rattle.zr_base.specs.declared.space.Entry.{Entry}
use Rattle.zr_rules.specs.Mappings.{entry_at}
use Rattle.zr_rules.specs.Steps.{moved_part}

-- the entry ends at or below the unit
abbrev pub ends_by : ℕ → Entry → Bool
ends_by u e = nat_le (e.src + e.len) u

-- the entry begins below the end of the n units at u
abbrev pub begins_before : ℕ → ℕ → Entry → Bool
begins_before u n e = nat_lt e.src (u + n)

-- the entries below the index pass the test, and those from it on do not
pub record Splits (test : Entry → Bool) (es : List Entry) (i : ℕ) : Type 0 where
  pub within : i ≤ length es
  pub below : (j : ℕ) → j < i → test (entry_at es j) ≡ true
  pub from : (j : ℕ) → i ≤ j → j < length es → test (entry_at es j) ≡ false

-- where the units of the extent went that the entry has
abbrev pub moved_by : Extent → Entry → Extent
moved_by e entry = let m = moved_part e.start e.len entry in record { start = m.start; len = m.len }
