-- What a search of a mapping finds, and what it costs.
use Rattle.std.specs.Prelude.{◌≡◌, ◌≢◌, ℕ, ◌+◌, ◌-◌, ◌*◌, ◌^◌, ◌≤◌, ◌<◌, true, false, List, [], ◌∷◌, length, if◌then◌else◌, nat_lt, map, filter, Option, Some, None}
use Rattle.std.specs.declared.cmp.Ordering.TheVariants.{Less, Greater}
use Rattle.zr_base.specs.declared.space.Entry.{Entry}
use Rattle.zr_base.specs.declared.space.Extent.{Extent}
use Rattle.zr_base.specs.declared.space.Dva.{Dva}
use Rattle.zr_rules.specs.Places.{Place}
use Rattle.zr_rules.specs.Mappings.{entry_at, entry_order, has_source, target}
use Rattle.zr_rules.specs.Steps.{moved_part, meets}
use Rattle.zr_imap.specs.declared.image.Piece.{Piece}

-- along the entries the unit is first above their sources, then in one of them at most, and then below
pub record IsSearchable (es : List Entry) (u : ℕ) : Type 0 where
  pub after : (i j : ℕ) → i < j → j < length es → entry_order (entry_at es i) u ≢ Less → entry_order (entry_at es j) u ≡ Greater

-- the steps of a search over n entries by halves
abbrev pub IsLogarithmic : ℕ → ℕ → Type 0
IsLogarithmic steps n = 2 ^ steps ≤ 2 * n + 1

-- a search, and one step for each of k pieces
pub record IsCheap (n k before after : ℕ) : Type 0 where
  pub search : ℕ
  pub logarithmic : IsLogarithmic search n
  pub steps : after ≤ before + search + k

-- where the pieces say that the unit went that has k units of the extent before it
abbrev pub piece_target : List Piece → ℕ → Option Place
piece_target [] k = None
piece_target (p ∷ ps) k = if nat_lt k (p.split + p.at.len) then Some (p.dev, p.at.start + (k - p.split)) else piece_target ps k

-- the pieces are not empty and follow each other from the first number to the second
abbrev pub FollowFrom : ℕ → ℕ → List Piece → Type 0
FollowFrom from end [] = from ≡ end
FollowFrom from end (p ∷ ps) = (p.split ≡ from) × (0 < p.at.len) × FollowFrom (p.split + p.at.len) end ps

-- where a piece stands
abbrev pub place_of : Piece → Dva
place_of p = record { dev = p.dev; start = p.at.start; len = p.at.len }

-- where the entries that meet the extent have its units, a part for each entry
abbrev pub moved_parts : List Entry → ℕ → ℕ → List Dva
moved_parts es u n = map (moved_part u n) (filter (meets u n) es)

-- the pieces have the units of the extent in order, each where the mapping has it, and are cut as the entries are
pub record IsImage (es : List Entry) (e : Extent) (ps : List Piece) : Type 0 where
  pub follow : FollowFrom 0 e.len ps
  pub targets : (k : ℕ) → k < e.len → piece_target ps k ≡ target es (e.start + k)
  pub cut : 0 < e.len → map place_of ps ≡ moved_parts es e.start e.len

-- some unit of the extent has no entry
pub record MissesUnit (es : List Entry) (e : Extent) : Type 0 where
  pub place : ℕ
  pub within : place < e.len
  pub missing : has_source es (e.start + place) ≡ false

-- the unit is the lowest one of the extent that has no entry
pub record IsFirstGap (es : List Entry) (e : Extent) (u : ℕ) : Type 0 where
  pub from : e.start ≤ u
  pub within : u < e.start + e.len
  pub missing : has_source es u ≡ false
  pub before : (v : ℕ) → e.start ≤ v → v < u → has_source es v ≡ true
