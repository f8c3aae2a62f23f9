-- What is written of a log, and sets whose words are few.
use Rattle.std.specs.Prelude.{◌≡◌, ℕ, ◌+◌, ◌^◌, ◌≤◌, Bool, List, [], ◌∷◌, ◌++◌, length}
use Rattle.zr_base.specs.declared.space.Change.{Change}
use Rattle.zr_base.specs.declared.space.DevPart.{DevPart}
use Rattle.zr_base.specs.declared.space.Extent.{Extent}
use Rattle.zr_base.specs.Extents.{has_unit}
use Rattle.zr_meta.specs.declared.Stream.{Stream}
use Rattle.zr_rules.specs.Logs.{IsInTurn, IsLog, taken_after}
use Rattle.zr_rules.specs.Places.{is_fresh, is_held, is_kept, part_of}
use Rattle.zr_rules.specs.Space.{Space, was_fresh, was_held, was_kept}
use Rattle.zr_units.specs.Apart.{IsWithin}
use Rattle.zr_units.specs.Uses.{Freed}
use Rattle.zr_sync.specs.declared.words.Log.{Log}
use Rattle.zr_sync.specs.declared.words.Log.TheVariants.{Held, Kept, Fresh}
use Rattle.zr_sync.specs.declared.words.LogWords.{LogWords}
use Rattle.zr_sync.specs.declared.words.LogWords.TheVariants.{Stays, Grows, Anew}

-- the set of a device that a log records
abbrev pub log_set : Log → DevPart → List Extent
log_set Held p = p.held
log_set Kept p = p.kept
log_set Fresh p = p.fresh

-- the units of that set at the last root, and those that are in it now
abbrev pub log_was : Log → Space → ℕ → ℕ → Bool
log_was Held s d = was_held s d
log_was Kept s d = was_kept s d
log_was Fresh s d = was_fresh s d

abbrev pub log_has : Log → Space → ℕ → ℕ → Bool
log_has Held s d = is_held s.parts.devs d
log_has Kept s d = is_kept s.parts.devs d
log_has Fresh s d = is_fresh s.parts.devs d

-- these changes take and give back the same units as the others, and in turn where those are
pub record ReplaysAs (changes others : List Change) : Type 0 where
  pub turns : (before : Bool) (u : ℕ) → IsInTurn before changes u → IsInTurn before others u
  pub members : (before : Bool) (u : ℕ) → taken_after before others u ≡ taken_after before changes u

-- a change came in pieces, behind those that were there
pub record AddsCut (old new : List Change) (c : Change) : Type 0 where
  pub pieces : List Change
  pub put : new ≡ old ++ pieces
  pub replays : ReplaysAs (c ∷ []) pieces

-- the words have room in the log
abbrev pub HasRoomFor : Stream → LogWords → Type 0
HasRoomFor old Stays = Unit {0}
HasRoomFor old (Grows added) = old.words + length added.items ≤ 2 ^ 34
HasRoomFor old (Anew anew) = length anew.items ≤ 2 ^ 34

-- the words of a log, which had these before
abbrev pub words_then : List ℕ → LogWords → List ℕ
words_then had Stays = had
words_then had (Grows added) = had ++ added.items
words_then had (Anew anew) = anew.items

-- the words are a log of what the set was at the last root
pub record IsLastLog (version : ℕ) (s : Space) (dev : ℕ) (log : Log) (words : List ℕ) : Type 0 where
  pub set : List Extent
  pub log_is : IsLog version dev words set
  pub units : (u : ℕ) → has_unit set u ≡ log_was log s dev u

-- the words are a log of the set as it is now
abbrev pub IsLogNow : ℕ → Space → ℕ → Log → List ℕ → Type 0
IsLogNow version s dev log words = IsLog version dev words (log_set log (part_of s.parts.devs dev))

-- the run lies on a device
pub record IsRun (e : Extent) : Type 0 where
  pub some : 1 ≤ e.len
  pub within : e.start + e.len ≤ 2 ^ 26

-- the units of blocks and of metadata lie on a device
pub record AreFreed (f : Freed) : Type 0 where
  pub blocks : IsWithin f.blocks (2 ^ 26)
  pub meta : IsWithin f.meta (2 ^ 26)
