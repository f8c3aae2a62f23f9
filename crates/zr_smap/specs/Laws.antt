-- What is known of every set that is written anew.
use Rattle.std.specs.Prelude.{◌≡◌, ◌⊎◌, ℕ, ◌+◌, ◌≤◌, ◌<◌, ◌^◌, false, List, length, map}
use Rattle.zr_base.specs.declared.space.Change.{Change}
use Rattle.zr_base.specs.declared.space.Extent.{Extent}
use Rattle.zr_base.specs.Extents.{IsMaximal, HasAll, HasNone, AddsUnits, RemovesUnits}
use Rattle.zr_rules.specs.Logs.{IsAnew, IsReplay}
use Rattle.zr_rules.specs.Owed.{set_words, extent_words}
use Rattle.zr_smap.specs.Cuts.{IsInReach}

-- each run is taken
abbrev pub takes : List Extent → List Change
takes runs = map (λ e. record { free = false; at = e }) runs

-- the changes of the words that a set is written anew with leave that set
abbrev pub AnewReplays : Type 0
AnewReplays = (version dev : ℕ) (es : List Extent) (words : List ℕ) (anew : IsAnew version dev es words) → IsMaximal es → IsReplay (takes anew.runs) es

-- a set that the version can spell has words that it is written anew with, as many as are reckoned
abbrev pub CanBeAnew : Type 0
CanBeAnew = (version dev : ℕ) (es : List Extent) → (version ≡ 1) ⊎ (version ≡ 2) → IsMaximal es → IsInReach version es → (words : List ℕ) × IsAnew version dev es words × (length words ≡ set_words version es)

-- with an extent more a set has at most the words of that extent more
abbrev pub AddedWords : Type 0
AddedWords = (version : ℕ) (old new : List Extent) (e : Extent) → IsMaximal old → 0 < e.len → e.start + e.len ≤ 2 ^ 62 → HasNone old e → AddsUnits old new e → set_words version new ≤ set_words version old + extent_words version e

-- an extent of at most 32,768 units has one word
abbrev pub ShortWords : Type 0
ShortWords = (version : ℕ) (e : Extent) → 0 < e.len → e.len ≤ 32768 → extent_words version e ≡ 1

-- with an extent less a set has at most so many words more
abbrev pub RemovedWords : ℕ → ℕ → Type 0
RemovedWords version more = (old new : List Extent) (e : Extent) → IsMaximal old → 0 < e.len → HasAll old e → RemovesUnits old new e → set_words version new ≤ set_words version old + more
