-- What a commit does to the space before its group ends, and what so many events have done to the counts.
use Rattle.std.specs.Prelude.{◌≡◌, ℕ, ◌+◌, ◌*◌, ◌≤◌, Bool, true, false, List, length, sum_by}
use Rattle.zr_base.specs.declared.space.Dva.{Dva}
use Rattle.zr_base.specs.declared.space.Policy.{Policy}
use Rattle.zr_rules.specs.Columns.{free_units, sizes}
use Rattle.zr_rules.specs.Frees.{Allocates, AllocatesMeta, Chain, DropsMeta, Frees, IsSamePart}
use Rattle.zr_rules.specs.Places.{part_of}
use Rattle.zr_rules.specs.Space.{Space, IsLawful}
use Rattle.zr_reckon.specs.Base.{base_words}
use Rattle.zr_reckon.specs.Coming.{room_to_come, KeepsRecords}
use Rattle.zr_reckon.specs.Pieces.{IsFreeable}
use Rattle.zr_reckon.specs.Uses.{dropped_units}

-- a tree block is put or freed, a block of metadata is put, or so many units of metadata are given back
pub data Event : Type 0 where
  BlockPut : Event
  BlockFreed : Event
  MetaPut : Event
  MetaGiven : ℕ → Event

abbrev pub units_of : List Dva → ℕ
units_of list = sum_by (λ a. a.len) list

-- a block of a tree, and one of metadata, has one unit
abbrev pub Happens : Event → Space → Space → Type 0
Happens BlockPut old new = (policy : Policy) × (at : Dva) × Allocates policy 1 old new at
Happens BlockFreed old new = (a : Dva) × (birth : ℕ) × Frees old new a birth × IsFreeable old a × (a.len ≡ 1)
Happens MetaPut old new = (policy : Policy) × (at : Dva) × AllocatesMeta policy 1 old new at
Happens (MetaGiven units) old new = (list : List Dva) × DropsMeta old new list × KeepsRecords old new × (units_of list ≡ units)

-- one event after another
abbrev pub Happen : List Event → Space → Space → Type 0
Happen events old new = Chain Happens events old new

abbrev pub is_block_put : Event → Bool
is_block_put BlockPut = true
is_block_put _ = false

abbrev pub is_block_freed : Event → Bool
is_block_freed BlockFreed = true
is_block_freed _ = false

abbrev pub is_meta_put : Event → Bool
is_meta_put MetaPut = true
is_meta_put _ = false

abbrev pub units_given : Event → ℕ
units_given (MetaGiven units) = units
units_given _ = 0

-- From one moment of a commit to a later one so many tree blocks were put, and so many freed, each of which added so many words at most; so many units of metadata
-- were put, and so many given back.
pub record Wrote (old new : Space) (most blocks frees metadata given : ℕ) : Type 0 where
  pub lawful : IsLawful new
  pub version : new.parts.version ≡ old.parts.version
  pub devices : length new.parts.devs ≡ length old.parts.devs
  pub each : (d : ℕ) → IsSamePart (part_of old.parts.devs d) (part_of new.parts.devs d)
  pub free : free_units old ≤ free_units new + blocks + metadata
  pub room : room_to_come old ≤ room_to_come new + blocks
  pub words : (sizes new 0 0).words ≤ (sizes old 0 0).words + blocks + frees * most
  pub base : base_words new ≤ base_words old + blocks + frees * most
  pub uncopied : (sizes new 0 0).uncopied ≤ (sizes old 0 0).uncopied
  pub held : units_of new.meta + units_of new.saved_meta + given ≡ units_of old.meta + units_of old.saved_meta + metadata
  pub waits : dropped_units new ≤ dropped_units old + given
