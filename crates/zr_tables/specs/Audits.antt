-- What an audit of an open pool says.
use Rattle.std.specs.Prelude.{◌≡◌, ◌++◌, ℕ, not, List, length, map, slice_index, Option}
use Rattle.std.specs.List.{filter, range_with_len}
use Rattle.zr_audit.specs.Found.{found, AreMeta}
use Rattle.zr_base.specs.declared.space.Dva.{Dva}
use Rattle.zr_rules.specs.Equation.{SavedRoot, Adds}
use Rattle.zr_rules.specs.Places.{is_gone, state_of_dev}
use Rattle.zr_rules.specs.Space.{Space}
use Rattle.zr_script.specs.declared.reply.AuditLine.{AuditLine}
use Rattle.zr_store.specs.Store.{Stored}
use Rattle.zr_sync.specs.declared.open.OpenPool.{OpenPool}
use Rattle.zr_vdev.specs.Stores.{addresses_of}
use Rattle.zr_tables.specs.Walks.{AreLiveAddresses, metadata_reach, saved_reach}

-- the addresses of the metadata of an open pool, and of the root that its checkpoint holds
abbrev pub metadata_of : Stored → OpenPool → List Dva
metadata_of s pool = addresses_of (metadata_reach s pool.head pool.streams.items pool.cond) ++ addresses_of (saved_reach s pool.saved)

-- the devices that are not gone, by index
abbrev pub concrete : Space → List ℕ
concrete s = filter (λ d. not (is_gone (state_of_dev s.parts.devs d))) (range_with_len 0 (length s.parts.devs))

-- of each device that is not gone as many different units as a walk over the live pointers and the metadata finds
pub record IsWalk (s : Stored) (pool : OpenPool) (walked : List ℕ) : Type 0 where
  pub live : List Dva
  pub are_live : AreLiveAddresses s pool.dir pool.group live
  pub units : walked ≡ map (found pool.space live (metadata_of s pool)) (concrete pool.space)

-- The units of the pool add up: what the live pointers lead to are the live units, each once, and the metadata is what is counted as such.
pub record AddsUp (s : Stored) (pool : OpenPool) : Type 0 where
  pub saved : Option SavedRoot
  pub live : (ats : List Dva) → AreLiveAddresses s pool.dir pool.group ats → Adds pool.space ats saved
  pub metadata : AreMeta pool.space (metadata_of s pool)

-- a line with the numbers at its index
abbrev pub audit_line : List ℕ → List ℕ → ℕ → AuditLine
audit_line walked allocated d = record { index = d; walked = slice_index walked d; allocated = slice_index allocated d }

-- a line for each device that is not gone
abbrev pub lines_from : Space → List ℕ → List ℕ → List AuditLine
lines_from space walked allocated = map (audit_line walked allocated) (concrete space)
