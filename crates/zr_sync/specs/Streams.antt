-- What the disks of an open pool hold of its streams, and what a commit makes of those of a device.
use Rattle.std.specs.Prelude.{◌≡◌, ℕ, List, [], ◌∷◌, None, slice_index_or, slice_set}
use Rattle.zr_commit.specs.Logs.{Rewrites}
use Rattle.zr_meta.specs.declared.Stream.{Stream}
use Rattle.zr_meta.specs.Streams.{late_list}
use Rattle.zr_root.specs.Streams.{StoresWords}
use Rattle.zr_rules.specs.Logs.{IsLate}
use Rattle.zr_rules.specs.Places.{part_of}
use Rattle.zr_rules.specs.Space.{opened_of}
use Rattle.zr_store.specs.Store.{Stored}
use Rattle.zr_vdev.specs.Stores.{HoldsBlocks}
use Rattle.zr_vdev.specs.declared.kind.Kind.TheVariants.{Meta}
use Rattle.zr_sync.specs.Empty.{no_stream, no_streams}
use Rattle.zr_sync.specs.Words.{IsLogNow}
use Rattle.zr_sync.specs.declared.open.DeviceStreams.{DeviceStreams}
use Rattle.zr_sync.specs.declared.open.OpenPool.{OpenPool}
use Rattle.zr_sync.specs.declared.words.Log.{Log}
use Rattle.zr_sync.specs.declared.words.Log.TheVariants.{Held, Kept, Fresh}

-- the disks, which are told as they read, hold these blocks of metadata
abbrev pub HasMeta : Type 0 → List (List ℕ) → OpenPool → Stored → Type 0
HasMeta tells disks pool s = HoldsBlocks Meta pool.table.slots tells disks pool.space None pool.cache s

-- the streams of a device
abbrev pub streams_at : OpenPool → ℕ → DeviceStreams
streams_at pool dev = slice_index_or pool.streams.items dev no_streams

-- the stream of a log, and the streams with another one in its place
abbrev pub log_stream : Log → DeviceStreams → Stream
log_stream Held t = t.held
log_stream Kept t = t.kept
log_stream Fresh t = t.fresh

abbrev pub with_log : Log → DeviceStreams → Stream → DeviceStreams
with_log Held t now = record t { held = now }
with_log Kept t now = record t { kept = now }
with_log Fresh t now = record t { fresh = now }

-- the streams of the late sets
abbrev pub late_streams : DeviceStreams → List Stream
late_streams t = t.late1 ∷ t.late2 ∷ []

-- A log of the device was written: in the stream that it has in place of the old one stand the words of its set.
pub record WritesLog (old new : Stored) (was now : OpenPool) (dev : ℕ) (log : Log) : Type 0 where
  pub words : List ℕ
  pub log_is : IsLogNow was.version was.space dev log words
  pub stream : Stream
  pub rewrites : Rewrites old new (log_stream log (streams_at was dev)) stream words
  pub streams : now.streams.items ≡ slice_set was.streams.items dev (with_log log (streams_at was dev) stream)

-- The late sets of the device were written: what the open group has freed, and what the group of the last root did.
pub record WritesLates (old new : Stored) (was now : OpenPool) (dev : ℕ) : Type 0 where
  pub words1 : List ℕ
  pub first_is : IsLate was.version dev words1 (late_list (opened_of was.space dev).deferred (opened_of was.space dev).dropped)
  pub late1 : Stream
  pub mid : Stored
  pub first : StoresWords old mid late1 words1
  pub words2 : List ℕ
  pub second_is : IsLate was.version dev words2 (part_of was.space.parts.devs dev).late1
  pub late2 : Stream
  pub second : StoresWords mid new late2 words2
  pub streams : now.streams.items ≡ slice_set was.streams.items dev (record (streams_at was dev) { late1 = late1; late2 = late2 })

-- the device has no late sets any more
abbrev pub HasNoLates : OpenPool → OpenPool → ℕ → Type 0
HasNoLates was now dev = now.streams.items ≡ slice_set was.streams.items dev (record (streams_at was dev) { late1 = no_stream; late2 = no_stream })
