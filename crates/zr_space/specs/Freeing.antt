-- What the visits of an address say of whether it may be freed.
use Rattle.std.specs.Prelude.{◌≡◌, ℕ, ◌+◌, ◌<◌, ◌≤◌, ◌==◌, ◌&&◌, Bool, true, false, nat_lt, max, List, [], ◌∷◌, length, slice_index, All}
use Rattle.zr_base.specs.declared.space.Extent.{Extent}
use Rattle.zr_base.specs.declared.space.Entry.{Entry}
use Rattle.zr_base.specs.Extents.{in_extent}
use Rattle.zr_rules.specs.Places.{one_if, count_below, is_gone, part_of, state_of_dev, is_fresh}
use Rattle.zr_rules.specs.Devices.{Devices, state_at}
use Rattle.zr_rules.specs.Mappings.{entry_at}
use Rattle.zr_rules.specs.Roles.{is_live_role}
use Rattle.zr_rules.specs.Space.{Space, role_at}
use Rattle.zr_rules.specs.Equation.{fresh_in}
use Rattle.zr_rules.specs.Steps.{meets}
use Rattle.zr_chain.specs.declared.visit.Visited.{Visited}
use Rattle.zr_chain.specs.declared.visit.Visited.TheVariants.{Hop, Piece}
use Rattle.zr_chain.specs.Visits.{hop_hits}

-- how many of the parts that are there have the unit
abbrev pub end_hits : List Visited → ℕ → ℕ → ℕ
end_hits [] d u = 0
end_hits (Hop dev e ∷ vs) d u = end_hits vs d u
end_hits (Piece split dev e ∷ vs) d u = one_if ((dev == d) && in_extent e u) + end_hits vs d u

-- a hop is on a device that is gone, and a part that is there on one that is not
abbrev pub IsKnown : Devices → Visited → Type 0
IsKnown ds (Hop d e) = (d < ds.count) × (is_gone (state_at ds d) ≡ true)
IsKnown ds (Piece split d e) = (d < ds.count) × (is_gone (state_at ds d) ≡ false)

-- each unit of the extent is in use by a block
abbrev pub IsInUse : Space → ℕ → Extent → Type 0
IsInUse s d e = (u : ℕ) → in_extent e u ≡ true → is_live_role (role_at s d u) ≡ true

-- no unit of the extent is obsolete and not counted yet
abbrev pub IsUnmarked : Space → ℕ → Extent → Type 0
IsUnmarked s d e = (u : ℕ) → in_extent e u ≡ true → is_fresh s.parts.devs d u ≡ false

-- a hop passes no obsolete unit, and a part that is there is in use by a block
abbrev pub IsFit : Space → Visited → Type 0
IsFit s (Hop d e) = IsUnmarked s d e
IsFit s (Piece split d e) = IsInUse s d e

-- two parts that are there have a common unit: the one at which the later begins
abbrev pub is_shared : Visited → Visited → Bool
is_shared (Piece split d e) (Piece other f g) = (d == f) && (in_extent e (max e.start g.start) && in_extent g (max e.start g.start))
is_shared _ _ = false

-- the visit is a hop that has the unit of the device
abbrev pub is_hop_at : ℕ → ℕ → Visited → Bool
is_hop_at d u (Hop dev e) = (dev == d) && in_extent e u
is_hop_at d u (Piece split dev e) = false

-- no place is in two of the parts that are there
abbrev pub AreApart : List Visited → Type 0
AreApart vs = (d u : ℕ) → end_hits vs d u ≤ 1

-- how many units of the entry the hops have
abbrev pub hops_in : List Visited → ℕ → Entry → ℕ
hops_in vs d e = count_below e.len (λ k. nat_lt 0 (hop_hits vs d (e.src + k)))

-- the entry has no more obsolete units and units that the hops have than units
abbrev pub HasRoom : Space → List Visited → ℕ → ℕ → Type 0
HasRoom s vs d i =
    slice_index (part_of s.parts.devs d).counts i + fresh_in (part_of s.parts.devs d) (entry_at (part_of s.parts.devs d).entries i)
    + hops_in vs d (entry_at (part_of s.parts.devs d).entries i) ≤ (entry_at (part_of s.parts.devs d).entries i).len

-- each entry of the device that the extent meets
abbrev pub HasRoomIn : Space → List Visited → ℕ → Extent → Type 0
HasRoomIn s vs d e = (i : ℕ) → i < length (part_of s.parts.devs d).entries → meets e.start e.len (entry_at (part_of s.parts.devs d).entries i) ≡ true → HasRoom s vs d i

-- each entry that the hop meets has room
abbrev pub RoomAt : Space → List Visited → Visited → Type 0
RoomAt s vs (Hop d e) = HasRoomIn s vs d e
RoomAt s vs (Piece split d e) = Unit {0}

-- each entry of each device that is gone
abbrev pub HaveRoom : Space → List Visited → Type 0
HaveRoom s vs = (d i : ℕ) → is_gone (state_of_dev s.parts.devs d) ≡ true → i < length (part_of s.parts.devs d).entries → HasRoom s vs d i

-- the visits allow that the address is freed
pub record MayFree (s : Space) (vs : List Visited) : Type 0 where
  pub apart : AreApart vs
  pub fit : All (IsFit s) vs
  pub room : HaveRoom s vs
