-- Logs, mappings and late sets, as streams of words.
use Rattle.std.specs.Prelude.{◌≡◌, ℕ, ◌+◌, ◌-◌, ◌*◌, ◌^◌, ◌<◌, ◌≤◌, Bool, true, false, not, ◌==◌, nat_le, List, [], ◌∷◌, ◌++◌, length, map, if◌then◌else◌}
use Rattle.std.specs.List.{AllByRecursion, flat_map, filter}
use Rattle.zr_base.specs.declared.space.Extent.{Extent}
use Rattle.zr_base.specs.declared.space.Change.{Change}
use Rattle.zr_base.specs.declared.space.Entry.{Entry}
use Rattle.zr_base.specs.declared.space.LateRun.{LateRun}
use Rattle.zr_base.specs.Extents.{in_extent, has_unit, unit_count, IsMaximal}
use Rattle.zr_base.specs.Words.{words, address, IsAddress}
use Rattle.zr_rules.specs.Places.{one_if}

-- a change is one word, and from version 2 on a run of more than 32,768 units is two
abbrev pub change_words : ℕ → Change → List ℕ
change_words dev c =
    if nat_le c.at.len 32768
    then (2 ^ 16 * c.at.start + 2 ^ 15 * one_if c.free + (c.at.len - 1)) ∷ []
    else (3 * 2 ^ 62 + 2 ^ 24 * (c.at.len - 1) + dev) ∷ (2 ^ 63 * one_if c.free + c.at.start) ∷ []

-- the longest run that a version spells as one change
abbrev pub longest_run : ℕ → ℕ
longest_run version = if version == 1 then 32768 else 2 ^ 36

pub record IsChange (version : ℕ) (c : Change) : Type 0 where
  pub some : 1 ≤ c.at.len
  pub most : c.at.len ≤ longest_run version
  pub place : c.at.start < 2 ^ 47

-- the words are the one spelling of the changes
pub record SpellsChanges (version dev : ℕ) (words : List ℕ) (changes : List Change) : Type 0 where
  pub lawful : AllByRecursion (IsChange version) changes
  pub spelling : words ≡ flat_map (change_words dev) changes

-- whether a unit is taken after the changes
abbrev pub taken_after : Bool → List Change → ℕ → Bool
taken_after before [] u = before
taken_after before (c ∷ changes) u = taken_after (if in_extent c.at u then not c.free else before) changes u

-- no change takes a unit that is taken or gives back one that is not
abbrev pub IsInTurn : Bool → List Change → ℕ → Type 0
IsInTurn before [] u = Unit {0}
IsInTurn before (c ∷ changes) u = (in_extent c.at u ≡ true → before ≡ c.free) × IsInTurn (if in_extent c.at u then not c.free else before) changes u

-- the extents are the set that the changes leave
pub record IsReplay (changes : List Change) (es : List Extent) : Type 0 where
  pub turns : (u : ℕ) → IsInTurn false changes u
  pub members : (u : ℕ) → has_unit es u ≡ taken_after false changes u
  pub maximal : IsMaximal es

-- runs of at most so many units, one behind the other, of which only the last may be shorter
abbrev pub IsCutFrom : ℕ → ℕ → List Extent → Type 0
IsCutFrom most from [] = Unit {0}
IsCutFrom most from (e ∷ []) = (e.start ≡ from) × (1 ≤ e.len) × (e.len ≤ most)
IsCutFrom most from (e ∷ es) = (e.start ≡ from) × (e.len ≡ most) × IsCutFrom most (from + most) es

-- the runs are the extent, cut from its front
pub record IsCut (most : ℕ) (e : Extent) (runs : List Extent) : Type 0 where
  pub cut : IsCutFrom most e.start runs
  pub count : unit_count runs ≡ e.len

-- the runs are the extents, each cut from its front
abbrev pub AreCut : ℕ → List Extent → List Extent → Type 0
AreCut most [] runs = runs ≡ []
AreCut most (e ∷ es) runs = (front rest : List Extent) × (runs ≡ front ++ rest) × IsCut most e front × AreCut most es rest

-- A set that is written anew: its extents in order, each cut into the longest runs.
pub record IsAnew (version dev : ℕ) (es : List Extent) (words : List ℕ) : Type 0 where
  pub runs : List Extent
  pub cut : AreCut (longest_run version) es runs
  pub spelling : SpellsChanges version dev words (map (λ e. record { free = false; at = e }) runs)

-- the log of a set: it replays to the set, and is not much longer than if it were written anew
pub record IsLog (version dev : ℕ) (words : List ℕ) (es : List Extent) : Type 0 where
  pub changes : List Change
  pub spelling : SpellsChanges version dev words changes
  pub replay : IsReplay changes es
  pub anew : List ℕ
  pub is_anew : IsAnew version dev es anew
  pub short : length words ≤ 2 * length anew + 512

-- the extents of one kind of a late set
abbrev pub late_runs : Bool → List LateRun → List Extent
late_runs meta runs = map (λ r. r.at) (filter (λ r. if r.meta then meta else not meta) runs)

-- A late set: the extents of blocks in order, and then those of metadata, each cut into the longest runs.
-- They are maximal extents, so that a set has one spelling.
pub record IsLate (version dev : ℕ) (words : List ℕ) (runs : List LateRun) : Type 0 where
  pub blocks : List Extent
  pub meta : List Extent
  pub blocks_maximal : IsMaximal blocks
  pub meta_maximal : IsMaximal meta
  pub all : runs ≡ map (λ e. record { at = e; meta = false }) blocks ++ map (λ e. record { at = e; meta = true }) meta
  pub block_runs : List Extent
  pub meta_runs : List Extent
  pub blocks_cut : AreCut (longest_run version) blocks block_runs
  pub meta_cut : AreCut (longest_run version) meta meta_runs
  pub spelling : SpellsChanges version dev words (map (λ e. record { free = false; at = e }) block_runs ++ map (λ e. record { free = true; at = e }) meta_runs)

-- the three words of a mapping entry
abbrev pub entry_words : Entry → List ℕ
entry_words e = (8 * e.src) ∷ address (record { dev = e.dev; start = e.dst; len = e.len })

-- the 24 bytes of a mapping entry
abbrev pub entry_bytes : Entry → List ℕ
entry_bytes e = words (entry_words e)

-- the entry can be spelled
pub record IsStorable (e : Entry) : Type 0 where
  pub source : e.src < 2 ^ 60
  pub to : IsAddress (record { dev = e.dev; start = e.dst; len = e.len })

pub record SpellsEntries (words : List ℕ) (entries : List Entry) : Type 0 where
  pub lawful : AllByRecursion IsStorable entries
  pub spelling : words ≡ flat_map entry_words entries

-- one word for each count
-- a word of 2 ^ 32 or more is no count
pub record SpellsCounts (words counts : List ℕ) : Type 0 where
  pub lawful : AllByRecursion (λ c. c < 2 ^ 32) counts
  pub spelling : words ≡ counts
