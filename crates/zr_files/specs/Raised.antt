-- A count of 64 bits goes up by so much, and no further than its last value.
use Rattle.std.specs.Prelude.{◌≡◌, ℕ, ◌+◌, ◌-◌, ◌^◌, ◌≤◌, min, Option, Result, MatchOption, MatchResult}
use Rattle.zr_shelf.specs.declared.desk.DeskErr.{DeskErr}
use Rattle.zr_shelf.specs.declared.desk.DeskErr.TheVariants.{Failed}

abbrev pub raised : ℕ → ℕ → ℕ
raised before more = min (before + more) (2 ^ 64 - 1)

-- a fault is counted where one is told, and nowhere else, and the count never falls
abbrev pub CountsFault : {A : Type 0} → Result A DeskErr → ℕ → ℕ → Type 0
CountsFault result before now = (before ≤ now) × MatchResult result (λ _. now ≡ before) (λ e. (e ≡ Failed) × (now ≡ raised before 1))

-- a file that the system does not have is counted where that is told, and nowhere else, and the count never falls
abbrev pub CountsMissing : {A : Type 0} → Result (Option A) DeskErr → ℕ → ℕ → Type 0
CountsMissing result before now = (before ≤ now) × MatchResult result (λ found. MatchOption found (now ≡ raised before 1) (λ _. now ≡ before)) (λ _. now ≡ before)
