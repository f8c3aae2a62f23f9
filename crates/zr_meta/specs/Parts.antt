-- What the words of all streams record of the space.
use Rattle.std.specs.Prelude.{◌≡◌, ◌⊎◌, ℕ, ◌+◌, ◌-◌, List, [], ◌∷◌, take, drop, length, Option, Some, None, slice_index_or}
use Rattle.std.specs.List.{AllByRecursion}
use Rattle.zr_base.specs.declared.space.DevRow.{DevRow}
use Rattle.zr_base.specs.declared.space.DevState.{DevState}
use Rattle.zr_base.specs.declared.space.DevState.TheVariants.{On, Leaving, Gone}
use Rattle.zr_base.specs.declared.space.CkptPart.{CkptPart}
use Rattle.zr_base.specs.declared.space.DevPart.{DevPart}
use Rattle.zr_base.specs.declared.space.CondPart.{CondPart}
use Rattle.zr_base.specs.declared.space.SpaceParts.{SpaceParts}
use Rattle.zr_meta.specs.declared.Stream.{Stream}
use Rattle.zr_meta.specs.declared.CondAt.{CondAt}
use Rattle.zr_meta.specs.declared.Head.{Head}
use Rattle.zr_meta.specs.declared.map.Mapping.{Mapping}
use Rattle.zr_meta.specs.declared.part.DevWords.{DevWords}
use Rattle.zr_meta.specs.declared.part.PartsErr.{PartsErr}
use Rattle.zr_meta.specs.declared.part.PartsErr.TheVariants.{Rule, NoMemory}
use Rattle.zr_meta.specs.Heads.{stream_count}
use Rattle.zr_meta.specs.Streams.{SpellsMapping, SpellsPart}

-- the words of each stream
abbrev pub pieces : List Stream → List ℕ → List (List ℕ)
pieces [] words = []
pieces (s ∷ streams) words = take s.words words ∷ pieces streams (drop s.words words)

-- the words of a stream by its place, none where there is no such stream
abbrev pub piece : List (List ℕ) → ℕ → List ℕ
piece ps i = slice_index_or ps i []

-- the streams of a device in order
abbrev pub device_words : DevRow → DevState → List (List ℕ) → DevWords
device_words row On ps = record { row = row; held = piece ps 0; kept = piece ps 1; entries = []; counts = []; fresh = []; late1 = piece ps 2; late2 = piece ps 3 }
device_words row Leaving ps = record { row = row; held = piece ps 0; kept = piece ps 1; entries = piece ps 2; counts = piece ps 3; fresh = piece ps 4; late1 = piece ps 5; late2 = piece ps 6 }
device_words row Gone ps = record { row = row; held = []; kept = []; entries = piece ps 0; counts = piece ps 1; fresh = piece ps 2; late1 = []; late2 = [] }

-- the words of each device, whose streams come first
abbrev pub devices_words : ℕ → List DevRow → List (List ℕ) → List DevWords
devices_words form [] ps = []
devices_words form (r ∷ rows) ps = device_words r r.state (take (stream_count form r.state) ps) ∷ devices_words form rows (drop (stream_count form r.state) ps)

-- the devices from this index on record these parts
abbrev pub AreParts : ℕ → CkptPart → ℕ → List DevWords → List DevPart → Type 0
AreParts version ckpt dev [] [] = Unit {0}
AreParts version ckpt dev [] (p ∷ parts) = ⊥
AreParts version ckpt dev (w ∷ words) [] = ⊥
AreParts version ckpt dev (w ∷ words) (p ∷ parts) = SpellsPart version dev ckpt w p × AreParts version ckpt (dev + 1) words parts

-- the entries and counts of the device are in their form
abbrev pub HasMapping : DevWords → Type 0
HasMapping w = (m : Mapping) × SpellsMapping w.entries w.counts m

-- what is condensed, whose entries and counts are the last two streams
abbrev pub IsCondPart : Option CondAt → List (List ℕ) → Option CondPart → Type 0
IsCondPart None ps None = Unit {0}
IsCondPart None ps (Some c) = ⊥
IsCondPart (Some at) ps None = ⊥
IsCondPart (Some at) ps (Some c) =
    (c.dev ≡ at.dev) × (c.at ≡ at.at) × SpellsMapping (piece ps (length ps - 2)) (piece ps (length ps - 1)) (record { entries = c.entries; counts = c.counts })

-- the head and the words of its streams record these parts
pub record SpellsParts (version : ℕ) (table : List DevRow) (h : Head) (words : List ℕ) (parts : SpaceParts) : Type 0 where
  pub version_is : parts.version ≡ version
  pub ckpt_is : parts.ckpt ≡ h.ckpt
  pub devices : AreParts version h.ckpt 0 (devices_words h.form table (pieces h.streams words)) parts.devs
  pub cond : IsCondPart h.cond (pieces h.streams words) parts.cond

-- the entries and counts of all are in their form
pub record HasMappings (table : List DevRow) (h : Head) (words : List ℕ) : Type 0 where
  pub devices : AllByRecursion HasMapping (devices_words h.form table (pieces h.streams words))
  pub cond : (c : Option CondPart) × IsCondPart h.cond (pieces h.streams words) c

-- why the words record nothing: entries or counts are not in their form, or else a log or a late set is not
abbrev pub IsPartsFault : ℕ → List DevRow → Head → List ℕ → PartsErr → Type 0
IsPartsFault version table h words NoMemory = Unit {0}
IsPartsFault version table h words (Rule n) =
    ((n ≡ 1) × (HasMappings table h words → ⊥)) ⊎ ((n ≡ 2) × HasMappings table h words × ((parts : SpaceParts) → SpellsParts version table h words parts → ⊥))
