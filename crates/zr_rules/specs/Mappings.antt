-- An indirect mapping is a list of entries whose sources rise, and stands for a set of pairs of units.
use Rattle.std.specs.Prelude.{ℕ, ◌+◌, ◌-◌, ◌≤◌, ◌<◌, ◌^◌, Bool, false, ◌&&◌, ◌||◌, nat_le, nat_lt, List, [], ◌∷◌, slice_index_or, sum_by, if◌then◌else◌, Option, Some, None}
use Rattle.std.specs.declared.cmp.Ordering.{Ordering}
use Rattle.std.specs.declared.cmp.Ordering.TheVariants.{Less, Equal, Greater}
use Rattle.zr_base.specs.declared.space.Entry.{Entry}
use Rattle.zr_rules.specs.Places.{Place}

-- the entry at an index, and one of no units past the end
abbrev pub entry_at : List Entry → ℕ → Entry
entry_at es i = slice_index_or es i (record { src = 0; dev = 0; dst = 0; len = 0 })

-- the length and the places of an entry are lawful
pub record IsEntry (e : Entry) : Type 0 where
  pub not_empty : 0 < e.len
  pub short : e.len ≤ 256
  pub source : e.src + e.len ≤ 2 ^ 62
  pub destination : e.dst + e.len ≤ 2 ^ 62

-- the sources rise and do not overlap, the first from `low` on
abbrev pub IsRisingFrom : ℕ → List Entry → Type 0
IsRisingFrom low [] = Unit {0}
IsRisingFrom low (e ∷ es) = (low ≤ e.src) × IsEntry e × IsRisingFrom (e.src + e.len) es

abbrev pub IsRising : List Entry → Type 0
IsRising es = IsRisingFrom 0 es

-- the entry's source is at or above the end of each other
abbrev pub IsAfterAll : List Entry → Entry → Type 0
IsAfterAll [] e = Unit {0}
IsAfterAll (x ∷ xs) e = (x.src + x.len ≤ e.src) × IsAfterAll xs e

-- the source of the entry has the unit
abbrev pub in_source : Entry → ℕ → Bool
in_source e u = nat_le e.src u && nat_lt u (e.src + e.len)

-- the source of some entry has it
abbrev pub has_source : List Entry → ℕ → Bool
has_source [] u = false
has_source (e ∷ es) u = in_source e u || has_source es u

-- the source of the entry at the index has it
pub record HasSourceAt (es : List Entry) (i u : ℕ) : Type 0 where
  pub starts : (entry_at es i).src ≤ u
  pub ends : u < (entry_at es i).src + (entry_at es i).len

-- where the entry's source lies beside the unit
abbrev pub entry_order : Entry → ℕ → Ordering
entry_order e u = if nat_lt u e.src then Greater else (if nat_lt u (e.src + e.len) then Equal else Less)

-- where the mapping says that the unit went
abbrev pub target : List Entry → ℕ → Option Place
target [] u = None
target (e ∷ es) u = if in_source e u then Some (e.dev, e.dst + (u - e.src)) else target es u

-- the end of the last entry, up to which a device was copied
abbrev pub end_of_last : List Entry → ℕ
end_of_last [] = 0
end_of_last (e ∷ []) = e.src + e.len
end_of_last (e ∷ es) = end_of_last es

-- the units that the mapping has
abbrev pub mapped_units : List Entry → ℕ
mapped_units entries = sum_by (λ e. e.len) entries
