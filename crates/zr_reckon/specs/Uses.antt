-- Units by what their role means for the room, and what a free may count on.
use Rattle.std.specs.Prelude.{◌≡◌, ◌⊎◌, ℕ, ◌+◌, Bool, true, false, length, sum_by}
use Rattle.std.specs.List.{range_with_len}
use Rattle.zr_base.specs.declared.space.Dva.{Dva}
use Rattle.zr_base.specs.Extents.{IsMaximal}
use Rattle.zr_rules.specs.Places.{is_on, in_address, part_of, state_of_dev}
use Rattle.zr_rules.specs.Roles.{Role}
use Rattle.zr_rules.specs.Roles.Role.{Free, FreshLive, Live, DeferredMeta, Meta, Late1Meta, Late2Meta}
use Rattle.zr_rules.specs.Owed.{set_words}
use Rattle.zr_rules.specs.Space.{Space, opened_of, role_at}
use Rattle.zr_rules.specs.Columns.{role_count, on_devices, late_blocks}

-- free, or metadata of the current root or of a late set, which comes back
abbrev pub is_room_role : Role → Bool
is_room_role Free = true
is_room_role Meta = true
is_room_role Late1Meta = true
is_room_role Late2Meta = true
is_room_role _ = false

-- the units of the devices in service that are free or metadata that comes back
abbrev pub room : Space → ℕ
room s = sum_by (role_count s is_room_role) (on_devices s)

abbrev pub AreInService : Space → Type 0
AreInService s = (d : ℕ) → is_on (state_of_dev s.parts.devs d) ≡ true

-- each unit of the address has this role
abbrev pub AllAre : Space → Dva → Role → Type 0
AllAre s a r = (u : ℕ) → in_address a a.dev u ≡ true → role_at s a.dev u ≡ r

-- a block is one allocation: the open group made all of its units, or none
abbrev pub IsWhole : Space → Dva → Type 0
IsWhole s a = AllAre s a FreshLive ⊎ AllAre s a Live

-- the blocks of the late sets of each device are kept as their maximal extents
pub record HasLateSets (s : Space) : Type 0 where
  pub late1 : (d : ℕ) → IsMaximal (late_blocks (part_of s.parts.devs d).late1)
  pub late2 : (d : ℕ) → IsMaximal (late_blocks (part_of s.parts.devs d).late2)

-- the words of the blocks in the second late sets, which the next root has no more
abbrev pub second_late_words : Space → ℕ
second_late_words s = sum_by (λ d. set_words s.parts.version (late_blocks (part_of s.parts.devs d).late2)) (range_with_len 0 (length s.parts.devs))

-- the words of all blocks that were freed and are not free yet
abbrev pub freed_words : Space → ℕ
freed_words s =
    sum_by (λ d. set_words s.parts.version (opened_of s d).deferred + set_words s.parts.version (late_blocks (part_of s.parts.devs d).late1)
    + set_words s.parts.version (late_blocks (part_of s.parts.devs d).late2)) (range_with_len 0 (length s.parts.devs))

-- metadata that the open group's commit gave back
abbrev pub is_dropped_role : Role → Bool
is_dropped_role DeferredMeta = true
is_dropped_role _ = false

-- its units
abbrev pub dropped_units : Space → ℕ
dropped_units s = sum_by (role_count s is_dropped_role) (range_with_len 0 (length s.parts.devs))
