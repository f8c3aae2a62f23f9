-- Logs that a commit writes anew.
use Rattle.std.specs.Prelude.{◌≡◌, ℕ, ◌<◌, List, length, slice_index_or, slice_set}
use Rattle.zr_meta.specs.declared.Stream.{Stream}
use Rattle.zr_rules.specs.Owed.{set_words}
use Rattle.zr_rules.specs.Places.{part_of}
use Rattle.zr_rules.specs.Space.{Space}
use Rattle.zr_vdev.specs.Stores.{KeepsOthers}
use Rattle.zr_vdev.specs.declared.kind.Kind.TheVariants.{Block, Meta}
use Rattle.zr_sync.specs.Empty.{no_streams}
use Rattle.zr_sync.specs.Mappings.{TurnsMapping}
use Rattle.zr_sync.specs.Streams.{log_stream, streams_at, with_log}
use Rattle.zr_sync.specs.Words.{log_set}
use Rattle.zr_sync.specs.declared.mappings.MappingStream.TheVariants.{Entries, Counts}
use Rattle.zr_sync.specs.declared.open.DeviceStreams.{DeviceStreams}
use Rattle.zr_sync.specs.declared.open.OpenPool.{OpenPool}
use Rattle.zr_sync.specs.declared.words.Log.{Log}
use Rattle.zr_sync.specs.declared.words.Log.TheVariants.{Held, Kept, Fresh}
use Rattle.zr_sync.specs.declared.words.LogWords.{LogWords}
use Rattle.zr_sync.specs.declared.words.LogWords.TheVariants.{Anew}

-- how many words the set of a log takes where it is written anew
abbrev pub anew_count : ℕ → Space → ℕ → Log → ℕ
anew_count version s dev log = set_words version (log_set log (part_of s.parts.devs dev))

-- the words are those of the log's set, written anew
abbrev pub AreAnew : ℕ → Space → ℕ → Log → LogWords → Type 0
AreAnew version s dev log (Anew words) = length words.items ≡ anew_count version s dev log
AreAnew version s dev log words = ⊥

-- a stream of words that are written anew has as many
abbrev pub HasCountOf : LogWords → Stream → Type 0
HasCountOf (Anew words) stream = stream.words ≡ length words.items
HasCountOf words stream = Unit {0}

-- A log of the device was written anew, and each other stream stays.
pub record RenewsLog (was now : OpenPool) (dev : ℕ) (log : Log) : Type 0 where
  pub stream : Stream
  pub words : stream.words ≡ anew_count was.version was.space dev log
  pub streams : now.streams.items ≡ slice_set was.streams.items dev (with_log log (streams_at was dev) stream)

-- each log of the device was, one after the other, and its mapping was written before the last
pub record RenewsEach (was now : OpenPool) (dev : ℕ) : Type 0 where
  pub first : OpenPool
  pub held : RenewsLog was first dev Held
  pub to_first : KeepsOthers Meta was.space first.space
  pub first_version : first.version ≡ was.version
  pub second : OpenPool
  pub kept : RenewsLog first second dev Kept
  pub third : OpenPool
  pub entries : TurnsMapping second third dev Entries
  pub last : OpenPool
  pub counts : TurnsMapping third last dev Counts
  pub to_last : KeepsOthers Meta was.space last.space
  pub last_version : last.version ≡ was.version
  pub fresh : RenewsLog last now dev Fresh

-- The stream of a log has as many words as its set took where it was written anew, behind steps on metadata alone.
pub record IsRenewed (version : ℕ) (from : Space) (streams : List DeviceStreams) (dev : ℕ) (log : Log) : Type 0 where
  pub space : Space
  pub metadata : KeepsOthers Meta from space
  pub words : (log_stream log (slice_index_or streams dev no_streams)).words ≡ anew_count version space dev log

-- so it is with each log of the devices below this one
abbrev pub AreRenewed : ℕ → Space → List DeviceStreams → ℕ → Type 0
AreRenewed version from streams below = (dev : ℕ) (log : Log) → dev < below → IsRenewed version from streams dev log

-- A commit wrote each log of the pool anew, behind the blocks of its trees.
pub record RenewsLogs (was now : OpenPool) : Type 0 where
  pub trees : Space
  pub blocks : KeepsOthers Block was.space trees
  pub logs : AreRenewed was.version trees now.streams.items was.table.count

-- no log has another number of words
abbrev pub KeepsCounts : OpenPool → OpenPool → Type 0
KeepsCounts was now = (dev : ℕ) (log : Log) → (log_stream log (streams_at now dev)).words ≡ (log_stream log (streams_at was dev)).words
