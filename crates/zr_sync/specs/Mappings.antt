-- The streams of mappings, and what a commit makes of them.
use Rattle.std.specs.Prelude.{◌≡◌, ℕ, ◌*◌, ◌/◌, ◌≤◌, Bool, false, List, length, take, slice_index_or, slice_set, if◌then◌else◌, [], ◌∷◌}
use Rattle.std.specs.List.{AllByRecursion, flat_map}
use Rattle.zr_base.specs.declared.space.CondPart.{CondPart}
use Rattle.zr_base.specs.declared.space.DevPart.{DevPart}
use Rattle.zr_base.specs.declared.space.Entry.{Entry}
use Rattle.zr_commit.specs.Logs.{Rewrites}
use Rattle.zr_meta.specs.declared.Stream.{Stream}
use Rattle.zr_rules.specs.Logs.{IsStorable, entry_words}
use Rattle.zr_rules.specs.Places.{part_of}
use Rattle.zr_store.specs.Store.{Stored}
use Rattle.zr_sync.specs.Streams.{streams_at}
use Rattle.zr_sync.specs.declared.mappings.MappingStream.{MappingStream}
use Rattle.zr_sync.specs.declared.mappings.MappingStream.TheVariants.{Entries, Counts}
use Rattle.zr_sync.specs.declared.open.CondStreams.{CondStreams}
use Rattle.zr_sync.specs.declared.open.DeviceStreams.{DeviceStreams}
use Rattle.zr_sync.specs.declared.open.OpenPool.{OpenPool}
use Rattle.zr_sync.specs.declared.open.Turned.{Turned}

-- the words of the entries of a mapping, and those of their counts
abbrev pub mapping_words : MappingStream → List Entry → List ℕ → List ℕ
mapping_words Entries entries counts = flat_map entry_words entries
mapping_words Counts entries counts = counts

-- the words are those of the first entries
abbrev pub HasFirst : MappingStream → List Entry → List ℕ → List ℕ → Type 0
HasFirst which entries counts words = (n : ℕ) × (n ≤ length entries) × (words ≡ mapping_words which (take n entries) (take n counts))

-- how many words so many entries have, and how many entries or counts there are
abbrev pub words_for : MappingStream → ℕ → ℕ
words_for Entries n = 3 * n
words_for Counts n = n

abbrev pub count_in : MappingStream → List Entry → List ℕ → ℕ
count_in Entries entries counts = length entries
count_in Counts entries counts = length counts

-- so many words of such a stream are those of so many entries, and maybe the beginning of one more
abbrev pub IsEnd : MappingStream → ℕ → ℕ → Type 0
IsEnd Entries words n = n ≡ words / 3
IsEnd Counts words n = n ≡ words

-- the entries can be spelled, and each has its count
pub record IsSpelled (entries : List Entry) (counts : List ℕ) : Type 0 where
  pub storable : AllByRecursion IsStorable entries
  pub each : length counts ≡ length entries

-- ---- a device

-- the stream, and the streams with another one in its place
abbrev pub mapping_stream : MappingStream → DeviceStreams → Stream
mapping_stream Entries t = t.entries
mapping_stream Counts t = t.counts

abbrev pub with_mapping : MappingStream → DeviceStreams → Stream → DeviceStreams
with_mapping Entries t now = record t { entries = now }
with_mapping Counts t now = record t { counts = now }

-- whether its words changed otherwise than at their end
abbrev pub is_turned : MappingStream → Turned → Bool
is_turned Entries t = t.entries
is_turned Counts t = t.counts

abbrev pub turned_at : OpenPool → ℕ → Turned
turned_at pool dev = slice_index_or pool.turned dev (record { entries = false; counts = false })

-- the words that the stream of a device's mapping has to have
abbrev pub words_at : OpenPool → ℕ → MappingStream → List ℕ
words_at pool dev which = let p : DevPart = part_of pool.space.parts.devs dev in mapping_words which p.entries p.counts

-- the words that it had are the first of these, unless it was turned
abbrev pub HadFirst : OpenPool → ℕ → MappingStream → List ℕ → Type 0
HadFirst pool dev which had =
    is_turned which (turned_at pool dev) ≡ false → HasFirst which (part_of pool.space.parts.devs dev).entries (part_of pool.space.parts.devs dev).counts had

-- A stream of a device's mapping was written: in the stream that it has in place of the old one stand its words.
pub record WritesMapping (old new : Stored) (was now : OpenPool) (dev : ℕ) (which : MappingStream) : Type 0 where
  pub stream : Stream
  pub rewrites : Rewrites old new (mapping_stream which (streams_at was dev)) stream (words_at was dev which)
  pub streams : now.streams.items ≡ slice_set was.streams.items dev (with_mapping which (streams_at was dev) stream)

-- the streams are the same but that of a mapping
pub record TurnsMapping (was now : OpenPool) (dev : ℕ) (which : MappingStream) : Type 0 where
  pub stream : Stream
  pub streams : now.streams.items ≡ slice_set was.streams.items dev (with_mapping which (streams_at was dev) stream)

-- ---- a condensing

abbrev pub cond_stream : MappingStream → CondStreams → Stream
cond_stream Entries t = t.entries
cond_stream Counts t = t.counts

abbrev pub with_cond_stream : MappingStream → CondStreams → Stream → CondStreams
with_cond_stream Entries t now = record t { entries = now }
with_cond_stream Counts t now = record t { counts = now }

-- what a condensing that is done leaves to be given back
abbrev pub done_streams : CondStreams → List Stream
done_streams t = if t.done then t.entries ∷ t.counts ∷ [] else []

-- A stream of the condensing was written: in the stream that it has in place of the old one stand the words of what it kept.
pub record WritesCond (old new : Stored) (was now : OpenPool) (c : CondPart) (which : MappingStream) : Type 0 where
  pub stream : Stream
  pub rewrites : Rewrites old new (cond_stream which was.cond) stream (mapping_words which c.entries c.counts)
  pub cond : now.cond ≡ with_cond_stream which was.cond stream
