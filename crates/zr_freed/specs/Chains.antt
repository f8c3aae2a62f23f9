-- Frees that follow one another, and addresses that are in use together.
use Rattle.std.specs.Prelude.{◌≡◌, ◌≤◌, ℕ, List, All}
use Rattle.zr_base.specs.declared.space.Dva.{Dva}
use Rattle.zr_rules.specs.Equation.{Spends, devices_in, live_hits}
use Rattle.zr_rules.specs.Frees.{Chain, Frees}
use Rattle.zr_rules.specs.Places.{is_held, is_kept}
use Rattle.zr_rules.specs.Space.{Space, copy_hits}
use Rattle.zr_space.specs.Live.{IsFreeable}

-- the address may be freed, and is
abbrev pub FreesOne : ℕ → Dva → Space → Space → Type 0
FreesOne birth a old new = IsFreeable old a × Frees old new a birth

-- each address may be freed when its turn comes, and is
abbrev pub FreesInTurn : ℕ → Space → Space → List Dva → Type 0
FreesInTurn birth old new list = Chain (FreesOne birth) list old new

-- Each address may be freed by itself, no two lead to one unit, and together they pass no obsolete unit and spend no more of an entry than it has.
pub record AreInUse (s : Space) (list : List Dva) : Type 0 where
  pub each : All (IsFreeable s) list
  pub once : (d u : ℕ) → live_hits (devices_in s) list d u ≤ 1
  pub spends : Spends s list

-- no unit has the copies of two
abbrev pub HasSingleCopies : Space → Type 0
HasSingleCopies s = (d u : ℕ) → copy_hits s.parts.devs d u ≤ 1

-- just what the old space has as kept is held in the new one
abbrev pub LeavesKept : Space → Space → Type 0
LeavesKept old new = (d u : ℕ) → is_held new.parts.devs d u ≡ is_kept old.parts.devs d u
