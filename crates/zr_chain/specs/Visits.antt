-- What is told of the parts of an address, and what that says of its units.
use Rattle.std.specs.Prelude.{◌≡◌, ◌⊎◌, ℕ, ◌+◌, ◌<◌, ◌==◌, ◌&&◌, true, false, List, [], ◌∷◌, ◌++◌, map, sum_by, count_by, if◌then◌else◌, MatchBool}
use Rattle.std.specs.List.{list_any}
use Rattle.zr_base.specs.declared.space.Extent.{Extent}
use Rattle.zr_base.specs.declared.space.Dva.{Dva}
use Rattle.zr_base.specs.declared.space.Entry.{Entry}
use Rattle.zr_base.specs.Extents.{in_extent}
use Rattle.zr_rules.specs.Places.{one_if, is_gone, is_leaving, is_place}
use Rattle.zr_rules.specs.Devices.{Devices, state_at}
use Rattle.zr_rules.specs.Mappings.{has_source}
use Rattle.zr_rules.specs.Resolve.{resolved, passed_units, pass_hits}
use Rattle.zr_rules.specs.Steps.{meets, touch}
use Rattle.zr_imap.specs.declared.image.Piece.{Piece as Part}
use Rattle.zr_imap.specs.Searches.{IsImage, FollowFrom, piece_target}
use Rattle.zr_chain.specs.declared.visit.Visited.{Visited}
use Rattle.zr_chain.specs.declared.visit.Visited.TheVariants.{Hop, Piece}
use Rattle.zr_chain.specs.declared.visit.ChainErr.{ChainErr}
use Rattle.zr_chain.specs.declared.visit.ChainErr.TheVariants.{NoEntry, NoMemory}

-- the parts that are there
abbrev pub pieces_of : List Visited → List Part
pieces_of [] = []
pieces_of (Hop d e ∷ vs) = pieces_of vs
pieces_of (Piece split d e ∷ vs) = record { split = split; dev = d; at = e } ∷ pieces_of vs

-- how many of the hops have the unit
abbrev pub hop_hits : List Visited → ℕ → ℕ → ℕ
hop_hits [] d u = 0
hop_hits (Hop dev e ∷ vs) d u = one_if ((dev == d) && in_extent e u) + hop_hits vs d u
hop_hits (Piece split dev e ∷ vs) d u = hop_hits vs d u

-- how many pieces a free touches of it: a part of a removed device, or a part that is there with the copies of a device that is leaving
abbrev pub touches : Devices → Visited → ℕ
touches ds (Hop d e) = 1
touches ds (Piece split d e) = if is_leaving (state_at ds d) then 1 + count_by (meets e.start e.len) (ds.entries d) else 1

-- the parts of a part that has so many units of the address before it
abbrev pub parts_behind : ℕ → List Part → List Part
parts_behind split parts = map (λ (p : Part). record { split = split + p.split; dev = p.dev; at = p.at }) parts

-- These are the visits of the parts that are left: a part that is there is told, and one of a removed device is passed, and then its own parts are visited before the others.
abbrev pub AreVisits : Devices → List Part → List Visited → Type 0
AreVisits ds left [] = left ≡ []
AreVisits ds [] (v ∷ vs) = ⊥
AreVisits ds (p ∷ left) (Piece split d e ∷ vs) = (is_gone (state_at ds p.dev) ≡ false) × (p ≡ record { split = split; dev = d; at = e }) × AreVisits ds left vs
AreVisits ds (p ∷ left) (Hop d e ∷ vs) =
    (is_gone (state_at ds p.dev) ≡ true) × (d ≡ p.dev) × (e ≡ p.at) × (parts : List Part) × IsImage (ds.entries p.dev) p.at parts × AreVisits ds (parts_behind p.split parts ++ left) vs

-- These are the first visits of them: the walk may have come to its end, or not.
abbrev pub AreFirstVisits : Devices → List Part → List Visited → Type 0
AreFirstVisits ds left [] = Unit {0}
AreFirstVisits ds [] (v ∷ vs) = ⊥
AreFirstVisits ds (p ∷ left) (Piece split d e ∷ vs) = (is_gone (state_at ds p.dev) ≡ false) × (p ≡ record { split = split; dev = d; at = e }) × AreFirstVisits ds left vs
AreFirstVisits ds (p ∷ left) (Hop d e ∷ vs) =
    (is_gone (state_at ds p.dev) ≡ true) × (d ≡ p.dev) × (e ≡ p.at)
    × ((vs ≡ []) ⊎ ((parts : List Part) × IsImage (ds.entries p.dev) p.at parts × AreFirstVisits ds (parts_behind p.split parts ++ left) vs))

-- what is told of a part, and the parts that it leads to: none where it is there, and else those that its mapping makes of it
abbrev pub IsTold : Devices → Part → List Part → List Visited → List Visited → Type 0
IsTold ds p parts old new =
    MatchBool (is_gone (state_at ds p.dev)) ((new ≡ old ++ Hop p.dev p.at ∷ []) × IsImage (ds.entries p.dev) p.at parts) ((new ≡ old ++ Piece p.split p.dev p.at ∷ []) × (parts ≡ []))

-- after what was told before come the visits of these parts
pub record Follows (ds : Devices) (left : List Part) (old new : List Visited) : Type 0 where
  pub visits : List Visited
  pub appended : new ≡ old ++ visits
  pub order : AreVisits ds left visits

-- after what was told before come first visits of these parts
pub record Begins (ds : Devices) (left : List Part) (old new : List Visited) : Type 0 where
  pub visits : List Visited
  pub appended : new ≡ old ++ visits
  pub order : AreFirstVisits ds left visits

-- the address as one part
abbrev pub as_part : Dva → Part
as_part a = record { split = 0; dev = a.dev; at = record { start = a.start; len = a.len } }

-- its parts: itself, and none where it has no units
abbrev pub whole : Dva → List Part
whole a = if a.len == 0 then [] else as_part a ∷ []

-- some unit of the part passes a unit that has no entry
pub record PassesUnit (ds : Devices) (p : Part) (dev unit : ℕ) : Type 0 where
  pub place : ℕ
  pub within : place < p.at.len
  pub passes : list_any (λ q. is_place q dev unit) (passed_units ds p.dev (p.at.start + place)) ≡ true
  pub missing : has_source (ds.entries dev) unit ≡ false

-- the unit is not past the end of a device that is there
abbrev pub IsWithin : Devices → ℕ → ℕ → Type 0
IsWithin ds d u = (is_gone (state_at ds d) ≡ true) ⊎ (u < (ds.row d).units)

-- The parts that are there follow each other over all units of the address, each unit is where it leads, the hops have each unit of a removed device as often as the address passes it, no unit on the way lacks an entry, and the visits are the pieces that a free touches.
pub record Visits (ds : Devices) (a : Dva) (old new : List Visited) : Type 0 where
  pub visits : List Visited
  pub appended : new ≡ old ++ visits
  pub order : AreVisits ds (whole a) visits
  pub follow : FollowFrom 0 a.len (pieces_of visits)
  pub targets : (k : ℕ) → k < a.len → IsWithin ds a.dev (a.start + k) → piece_target (pieces_of visits) k ≡ resolved ds a.dev (a.start + k)
  pub passed : (d u : ℕ) → hop_hits visits d u ≡ pass_hits ds a d u
  pub entries : (d u : ℕ) → PassesUnit ds (as_part a) d u → ⊥
  pub touched : 0 < a.len → sum_by (touches ds) visits ≡ touch ds a

-- the unit that is named has no entry, and a unit of the part passes it
abbrev pub PassesGap : Devices → Part → ChainErr → Type 0
PassesGap ds p (NoEntry dev unit) = PassesUnit ds p dev unit
PassesGap ds p NoMemory = Unit {0}

-- the same of the whole address
abbrev pub HasGap : Devices → Dva → ChainErr → Type 0
HasGap ds a e = PassesGap ds (as_part a) e

-- the unit that is named is one of the extent, and has no entry
abbrev pub LacksEntry : List Entry → ℕ → Extent → ChainErr → Type 0
LacksEntry es d e (NoEntry dev unit) = (dev ≡ d) × (in_extent e unit ≡ true) × (has_source es unit ≡ false)
LacksEntry es d e NoMemory = Unit {0}
