-- What the words of one stream say.
use Rattle.std.specs.Prelude.{◌≡◌, ◌⊎◌, ℕ, ◌+◌, ◌*◌, ◌<◌, ◌≤◌, List, [], ◌++◌, length, map, Bool, true, false, not, Option, Some, option_map, if◌then◌else◌}
use Rattle.std.specs.List.{AllByRecursion, filter}
use Rattle.zr_base.specs.declared.space.Extent.{Extent}
use Rattle.zr_base.specs.declared.space.Entry.{Entry}
use Rattle.zr_base.specs.declared.space.Change.{Change}
use Rattle.zr_base.specs.declared.space.LateRun.{LateRun}
use Rattle.zr_base.specs.Extents.{EndsBy, HasAll, IsMaximal}
use Rattle.zr_base.specs.declared.space.CkptPart.{CkptPart}
use Rattle.zr_base.specs.declared.space.CkptPart.TheVariants.{Clear}
use Rattle.zr_ranges.specs.Ranges.{Ranges}
use Rattle.zr_meta.specs.declared.map.Mapping.{Mapping}
use Rattle.zr_meta.specs.declared.log.Sets.{Sets}
use Rattle.zr_meta.specs.declared.part.DevWords.{DevWords}
use Rattle.zr_meta.specs.declared.part.PartsErr.{PartsErr}
use Rattle.zr_meta.specs.declared.part.PartsErr.TheVariants.{Rule, NoMemory}
use Rattle.zr_base.specs.declared.space.DevPart.{DevPart}
use Rattle.zr_rules.specs.Logs.{IsLog, IsLate, IsAnew, AreCut, SpellsChanges, longest_run, IsStorable, SpellsEntries, SpellsCounts, entry_words}

-- the log of a set of a device of so many units
pub record IsLogOf (version dev units : ℕ) (words : List ℕ) (es : List Extent) : Type 0 where
  pub log : IsLog version dev words es
  pub within : EndsBy units es

-- the set lies within the device, and so many words are not much more than it needs anew
pub record IsFit (version dev units words : ℕ) (es : List Extent) : Type 0 where
  pub within : EndsBy units es
  pub anew : List ℕ
  pub is_anew : IsAnew version dev es anew
  pub short : words ≤ 2 * length anew + 512

-- the words are those of one entry
pub record SpellsEntry (words : List ℕ) (e : Entry) : Type 0 where
  pub lawful : IsStorable e
  pub spelling : words ≡ entry_words e

-- each piece has the words of an entry
pub record SpellsEachEntry (pieces : List (List ℕ)) (entries : List Entry) : Type 0 where
  pub lawful : AllByRecursion IsStorable entries
  pub spelling : pieces ≡ map entry_words entries

-- the runs of one kind of the changes of a late stream
abbrev pub runs_of_kind : Bool → List Change → List Extent
runs_of_kind free changes = map (λ c. c.at) (filter (λ c. if free then c.free else not c.free) changes)

-- a late set: the extents of blocks, and then those of metadata
abbrev pub late_list : List Extent → List Extent → List LateRun
late_list blocks meta = map (λ e. record { at = e; meta = false }) blocks ++ map (λ e. record { at = e; meta = true }) meta

-- the late set of a device of so many units
pub record IsLateOf (version dev units : ℕ) (words : List ℕ) (runs : List LateRun) : Type 0 where
  pub late : IsLate version dev words runs
  pub within : EndsBy units (map (λ r. r.at) runs)

-- whatever maximal extents the runs are cut from, they are those of this set
abbrev pub IsOnlySet : List Extent → Option Ranges → Type 0
IsOnlySet runs found = (es : List Extent) (most : ℕ) → 0 < most → IsMaximal es → AreCut most es runs → option_map (λ s. s.extents) found ≡ Some es

-- the words of a set that is written anew, each of which gives back
pub record IsFreedAnew (version dev : ℕ) (es : List Extent) (words : List ℕ) : Type 0 where
  pub runs : List Extent
  pub cut : AreCut (longest_run version) es runs
  pub spelling : SpellsChanges version dev words (map (λ e. record { free = true; at = e }) runs)

-- the words of the two streams of a mapping: as many counts as entries
pub record SpellsMapping (entries counts : List ℕ) (m : Mapping) : Type 0 where
  pub entries_are : SpellsEntries entries m.entries
  pub counts_are : SpellsCounts counts m.counts
  pub each : length m.entries ≡ length m.counts

-- the logs of a device's held and kept units: what is kept is held, and nothing is kept where there is no checkpoint
pub record SpellsSets (version dev units : ℕ) (ckpt : CkptPart) (held kept : List ℕ) (s : Sets) : Type 0 where
  pub held_is : IsLogOf version dev units held s.held
  pub kept_is : IsLogOf version dev units kept s.kept
  pub covered : AllByRecursion (HasAll s.held) s.kept
  pub none : ckpt ≡ Clear → s.kept ≡ []

-- the words of a device's streams are those of this part
pub record SpellsPart (version dev : ℕ) (ckpt : CkptPart) (words : DevWords) (p : DevPart) : Type 0 where
  pub row_is : p.row ≡ words.row
  pub mapping : SpellsMapping words.entries words.counts (record { entries = p.entries; counts = p.counts })
  pub sets : SpellsSets version dev words.row.units ckpt words.held words.kept (record { held = p.held; kept = p.kept })
  pub fresh : IsLogOf version dev words.row.units words.fresh p.fresh
  pub late1 : IsLateOf version dev words.row.units words.late1 p.late1
  pub late2 : IsLateOf version dev words.row.units words.late2 p.late2

-- why a device's streams are no part: its mapping is not in its form, or else a log or a late set is not
abbrev pub IsPartFault : ℕ → ℕ → CkptPart → DevWords → PartsErr → Type 0
IsPartFault version dev ckpt words NoMemory = Unit {0}
IsPartFault version dev ckpt words (Rule n) =
    ((n ≡ 1) × ((m : Mapping) → SpellsMapping words.entries words.counts m → ⊥))
    ⊎ ((n ≡ 2) × (m : Mapping) × SpellsMapping words.entries words.counts m × ((p : DevPart) → SpellsPart version dev ckpt words p → ⊥))
