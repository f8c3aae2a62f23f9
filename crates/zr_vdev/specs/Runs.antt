-- Where the units of an address stand.
use Rattle.std.specs.Prelude.{◌≡◌, ℕ, ◌+◌, ◌<◌, true, List, Option}
use Rattle.zr_base.specs.declared.space.Dva.{Dva}
use Rattle.zr_imap.specs.declared.image.Piece.{Piece}
use Rattle.zr_imap.specs.Searches.{FollowFrom, piece_target}
use Rattle.zr_rules.specs.Devices.{Devices}
use Rattle.zr_rules.specs.Resolve.{resolved, is_resolved}
use Rattle.zr_rules.specs.Space.{Space}
use Rattle.zr_rules.specs.Columns.{free_units}
use Rattle.zr_rules.specs.Equation.{devices_in}
use Rattle.zr_view.specs.Views.{View}
use Rattle.zr_store.specs.Causes.{Account}

-- the runs have the units of the address in order, each where it leads
pub record AreRunsOf (ds : Devices) (a : Dva) (runs : List Piece) : Type 0 where
  pub resolves : is_resolved ds a ≡ true
  pub follow : FollowFrom 0 a.len runs
  pub targets : (k : ℕ) → k < a.len → piece_target runs k ≡ resolved ds a.dev (a.start + k)

-- the disks of a shelf, as the addresses of a space see them
abbrev pub view_of : List (List ℕ) → List (Option ℕ) → Space → View
view_of disks slots s = record { disks = disks; slots = slots; devices = devices_in s }

-- what a store on a shelf reckons with: faults of its disks, and the free units of devices in service
abbrev pub account_of : ℕ → Space → Account
account_of faults s = record { faults = faults; room = free_units s; load = 0; put_load = 0; free_load = 0; resolves = is_resolved (devices_in s) }

-- what a store that is only read reckons with: there is room for no block
abbrev pub reader_account : ℕ → Space → Account
reader_account faults s = record { faults = faults; room = 0; load = 0; put_load = 0; free_load = 0; resolves = is_resolved (devices_in s) }
