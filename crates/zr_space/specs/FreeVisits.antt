-- What a free does at each visit of its address.
use Rattle.std.specs.Prelude.{◌≡◌, ℕ, ◌+◌, ◌-◌, ◌≤◌, ◌<◌, ◌==◌, Bool, false, not, min, max, ◌&&◌, ◌||◌, nat_le, nat_lt, List, [], ◌∷◌, length, if◌then◌else◌}
use Rattle.std.specs.List.{list_any, AllByRecursion}
use Rattle.zr_base.specs.declared.space.Extent.{Extent}
use Rattle.zr_base.specs.declared.space.Entry.{Entry}
use Rattle.zr_base.specs.Extents.{in_extent, has_unit}
use Rattle.zr_rules.specs.Places.{is_on, is_leaving, is_fresh}
use Rattle.zr_rules.specs.Devices.{Devices, state_at}
use Rattle.zr_rules.specs.Mappings.{end_of_last}
use Rattle.zr_rules.specs.Roles.{Role, freed, kept_of as kept_role}
use Rattle.zr_rules.specs.Space.{Space, role_at}
use Rattle.zr_rules.specs.Frees.{IsSameFrame}
use Rattle.zr_rules.specs.Equation.{devices_in}
use Rattle.zr_metaslab.specs.Devices as slab
use Rattle.zr_indirect.specs.Mapped.{HasEntries, IsGone, IsLeaving}
use Rattle.zr_indirect.specs.Changes.{MarksUnits, FreesCopied, KeepsRoot}
use Rattle.zr_units.specs.Uses.{Uses, IsAccount}
use Rattle.zr_units.specs.Changes.{FreesUnits, FreesBorn, FreesCopies, KeepsUnits, KeepsBorn}
use Rattle.zr_chain.specs.declared.visit.Visited.{Visited}
use Rattle.zr_chain.specs.declared.visit.Visited.TheVariants.{Hop, Piece}
use Rattle.zr_chain.specs.Visits.{hop_hits}
use Rattle.zr_space.specs.Freeing.{AreApart, IsFit, IsKnown, HaveRoom}
use Rattle.zr_space.specs.Views.{Kept, kept_of}

-- the entry leads to the unit from one of the extent
abbrev pub is_image_by : Extent → ℕ → ℕ → Entry → Bool
is_image_by e d u x = x.dev == d && (nat_le x.dst u && (nat_lt u (x.dst + x.len) && in_extent e (x.src + (u - x.dst))))

-- the unit is one of a part that is there, or the copy of one on a device that is leaving
abbrev pub is_let_go : Devices → Visited → ℕ → ℕ → Bool
is_let_go ds (Hop dev e) d u = false
is_let_go ds (Piece split dev e) d u = ((dev == d) && in_extent e u) || (is_leaving (state_at ds dev) && list_any (is_image_by e d u) (ds.entries dev))

-- the unit is one of a hop, or one on a device that is leaving which was copied
abbrev pub is_marked : Devices → Visited → ℕ → ℕ → Bool
is_marked ds (Hop dev e) d u = (dev == d) && in_extent e u
is_marked ds (Piece split dev e) d u = is_leaving (state_at ds dev) && (((dev == d) && in_extent e u) && nat_lt u (end_of_last (ds.entries dev)))

-- one of the visits does so
abbrev pub any_let_go : Devices → List Visited → ℕ → ℕ → Bool
any_let_go ds [] d u = false
any_let_go ds (v ∷ vs) d u = is_let_go ds v d u || any_let_go ds vs d u

abbrev pub any_marked : Devices → List Visited → ℕ → ℕ → Bool
any_marked ds [] d u = false
any_marked ds (v ∷ vs) d u = is_marked ds v d u || any_marked ds vs d u

-- a unit that is let go of is kept for the checkpoint, or freed
abbrev pub let_go : Bool → Role → Role
let_go kept r = if kept then kept_role r else freed r

-- these units are let go of, and those are marked obsolete
pub record LetsGo (kept : Bool) (old new : Space) (units marks : ℕ → ℕ → Bool) : Type 0 where
  pub roles : (d u : ℕ) → role_at new d u ≡ (if units d u then let_go kept (role_at old d u) else role_at old d u)
  pub fresh : (d u : ℕ) → is_fresh new.parts.devs d u ≡ (is_fresh old.parts.devs d u || marks d u)
  pub meta : new.meta ≡ old.meta
  pub frame : IsSameFrame old new

-- what a free does at one visit, and at all of them
abbrev pub FreesVisit : Bool → Space → Space → Visited → Type 0
FreesVisit kept old new v = LetsGo kept old new (is_let_go (devices_in old) v) (is_marked (devices_in old) v)

abbrev pub FreesVisits : Bool → Space → Space → List Visited → Type 0
FreesVisits kept old new vs = LetsGo kept old new (any_let_go (devices_in old) vs) (any_marked (devices_in old) vs)

-- a visit has units, and those of a hop have entries
abbrev pub IsMapped : Devices → Visited → Type 0
IsMapped ds (Hop d e) = (0 < e.len) × HasEntries (ds.entries d) e
IsMapped ds (Piece split d e) = 0 < e.len

-- The visits may be gone through one after the other: no unit is in two of them, those of the parts that are there are in use by blocks, those of the hops are not
-- obsolete, and each entry has room for them.
pub record CanFree (s : Space) (vs : List Visited) : Type 0 where
  pub apart : AreApart vs
  pub once : (d u : ℕ) → hop_hits vs d u ≤ 1
  pub known : AllByRecursion (IsKnown (devices_in s)) vs
  pub mapped : AllByRecursion (IsMapped (devices_in s)) vs
  pub fit : AllByRecursion (IsFit s) vs
  pub room : HaveRoom s vs

-- how many units a visit has, and all of them
abbrev pub units_in : Visited → ℕ
units_in (Hop d e) = e.len
units_in (Piece split d e) = e.len

abbrev pub all_units : List Visited → ℕ
all_units [] = 0
all_units (v ∷ vs) = units_in v + all_units vs

-- each device has room for so many changes of its units, and of what it has beside them
abbrev pub HaveSpare : List Kept → ℕ → Type 0
HaveSpare devs n = (d : ℕ) → d < length devs → (n ≤ (kept_of devs d).uses.spare) × (is_on (kept_of devs d).moves.state ≡ false → n ≤ (kept_of devs d).moves.spare)

-- the other devices are the same
pub record IsSameBut (old new : List Kept) (d : ℕ) : Type 0 where
  pub count : length new ≡ length old
  pub others : (j : ℕ) → (j == d) ≡ false → kept_of new j ≡ kept_of old j

-- units of a device that is gone are marked obsolete
pub record MarksOn (old new : List Kept) (d : ℕ) (e : Extent) : Type 0 where
  pub others : IsSameBut old new d
  pub here : kept_of new d ≡ record (kept_of old d) { moves = (kept_of new d).moves }
  pub marks : MarksUnits (kept_of old d).moves (kept_of new d).moves e
  pub root : KeepsRoot (kept_of old d).moves (kept_of new d).moves
  pub gone : IsGone (kept_of new d).moves
  pub spare : (kept_of old d).moves.spare ≤ (kept_of new d).moves.spare + e.len

-- units of a device are freed
pub record FreesOn (s t : slab.Devices) (old new : List Kept) (d : ℕ) (e : Extent) : Type 0 where
  pub others : IsSameBut old new d
  pub here : kept_of new d ≡ record (kept_of old d) { uses = (kept_of new d).uses }
  pub frees : FreesUnits (kept_of old d).uses (kept_of new d).uses e
  pub given : FreesBorn (kept_of old d).uses.born (kept_of new d).uses.born (kept_of old d).uses.freed.blocks (kept_of new d).uses.freed.blocks s t d e
  pub spare : (kept_of old d).uses.spare ≤ (kept_of new d).uses.spare + e.len

-- or kept for the checkpoint
pub record KeepsOn (s t : slab.Devices) (old new : List Kept) (d : ℕ) (e : Extent) : Type 0 where
  pub others : IsSameBut old new d
  pub here : kept_of new d ≡ record (kept_of old d) { uses = (kept_of new d).uses }
  pub keeps : KeepsUnits (kept_of old d).uses (kept_of new d).uses e
  pub given : KeepsBorn (kept_of old d).uses.held (kept_of new d).uses.held (kept_of old d).uses.born (kept_of new d).uses.born (kept_of old d).uses.kept (kept_of new d).uses.kept (kept_of old d).uses.came (kept_of new d).uses.came s t d e
  pub spare : (kept_of old d).uses.spare ≤ (kept_of new d).uses.spare + e.len

-- copies on a device are freed
pub record FreesCopiesOn (s t : slab.Devices) (old new : List Kept) (d : ℕ) (e : Extent) : Type 0 where
  pub others : IsSameBut old new d
  pub here : kept_of new d ≡ record (kept_of old d) { uses = (kept_of new d).uses }
  pub frees : FreesCopies (kept_of old d).uses (kept_of new d).uses e
  pub given : FreesBorn (kept_of old d).uses.born (kept_of new d).uses.born (kept_of old d).uses.freed.blocks (kept_of new d).uses.freed.blocks s t d e
  pub spare : (kept_of old d).uses.spare ≤ (kept_of new d).uses.spare + e.len

-- what a device that is leaving has beside its units tells of units that are freed
pub record MarksCopied (old new : List Kept) (d : ℕ) (e : Extent) : Type 0 where
  pub others : IsSameBut old new d
  pub here : kept_of new d ≡ record (kept_of old d) { moves = (kept_of new d).moves }
  pub frees : FreesCopied (kept_of old d).moves (kept_of new d).moves e
  pub root : KeepsRoot (kept_of old d).moves (kept_of new d).moves
  pub leaving : IsLeaving (kept_of new d).moves
  pub spare : (kept_of old d).moves.spare ≤ (kept_of new d).moves.spare + 1

-- these copies are freed
pub record LosesCopies (old new : Uses) (gone : ℕ → Bool) : Type 0 where
  pub held : (u : ℕ) → has_unit new.held u ≡ (has_unit old.held u && not (gone u))
  pub born : (u : ℕ) → has_unit new.born u ≡ (has_unit old.born u && not (gone u))
  pub copies : (u : ℕ) → has_unit new.copies u ≡ (has_unit old.copies u && not (gone u))
  pub deferred : (u : ℕ) → has_unit new.freed.blocks u ≡ (has_unit old.freed.blocks u || (gone u && not (has_unit old.born u)))
  pub others : new ≡ record old { held = new.held; born = new.born; copies = new.copies; freed = record { blocks = new.freed.blocks; meta = old.freed.meta }; spare = new.spare }

-- copies on all devices are freed
pub record FreesImages (s t : slab.Devices) (old new : List Kept) (gone : ℕ → ℕ → Bool) : Type 0 where
  pub count : length new ≡ length old
  pub kept : (d : ℕ) → kept_of new d ≡ record (kept_of old d) { uses = (kept_of new d).uses }
  pub loses : (d : ℕ) → LosesCopies (kept_of old d).uses (kept_of new d).uses (gone d)
  pub free : (d u : ℕ) → slab.free_at t d u ≡ (slab.free_at s d u || (gone d u && has_unit (kept_of old d).uses.born u))
  pub account : (d : ℕ) → IsAccount (slab.free_at t d) (slab.count_at t d) (kept_of new d).uses
  pub devices : slab.KeepsDevices s t

-- the copies of the units of an extent
abbrev pub is_image : List Entry → Extent → ℕ → ℕ → Bool
is_image es e d u = list_any (is_image_by e d u) es

-- how many units of the extent the entry has
abbrev pub overlap : Extent → Entry → ℕ
overlap e x = min (e.start + e.len) (x.src + x.len) - max e.start x.src
