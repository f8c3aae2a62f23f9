-- The trees of an open pool's streams, which stand beside each other on its disks, and how far a commit has come with each of them.
use Rattle.std.specs.Prelude.{◌≡◌, ◌≢◌, ℕ, ◌<◌, ◌&&◌, Bool, true, false, nat_eq, nat_lt, List, [], ◌∷◌, ◌++◌, length, Some, if◌then◌else◌}
use Rattle.zr_base.specs.declared.space.CondPart.{CondPart}
use Rattle.zr_bptr.specs.declared.Tree.{Tree}
use Rattle.zr_beside.specs.Beside.{Standing, StandBeside, blocks_of, of_stream, of_tree, rows_of}
use Rattle.zr_meta.specs.declared.Stream.{Stream}
use Rattle.zr_rules.specs.Logs.{IsLate}
use Rattle.zr_rules.specs.Equation.{devices_in, live_hits}
use Rattle.zr_rules.specs.Places.{one_if, part_of}
use Rattle.zr_rules.specs.Space.{nothing_opened, opened_of, role_at}
use Rattle.zr_space.specs.Turning.{waiting_runs}
use Rattle.zr_store.specs.Store.{Stored}
use Rattle.zr_vdev.specs.Stores.{addresses_of, is_current}
use Rattle.zr_sync.specs.Mappings.{HadFirst, HasFirst, IsSpelled, cond_stream, mapping_stream, mapping_words, with_mapping, words_at}
use Rattle.zr_sync.specs.Streams.{HasMeta, log_stream, streams_at, with_log}
use Rattle.zr_sync.specs.Words.{IsLastLog, IsLogNow}
use Rattle.zr_sync.specs.declared.logs.Logs.{Logs}
use Rattle.zr_sync.specs.declared.logs.Logs.TheVariants.{Grow, Anew}
use Rattle.zr_sync.specs.declared.mappings.MappingStream.{MappingStream}
use Rattle.zr_sync.specs.declared.mappings.MappingStream.TheVariants.{Entries, Counts}
use Rattle.zr_sync.specs.declared.open.CondStreams.{CondStreams}
use Rattle.zr_sync.specs.declared.open.DeviceStreams.{DeviceStreams}
use Rattle.zr_sync.specs.declared.open.OpenPool.{OpenPool}
use Rattle.zr_sync.specs.declared.words.Log.{Log}
use Rattle.zr_sync.specs.declared.words.Log.TheVariants.{Held, Kept, Fresh}

-- ---- which streams there are

-- a stream of a device: a log, one of its mapping, or a late set
pub data Place : Type 0 where
  OfLog : Log → Place
  OfMapping : MappingStream → Place
  FirstLate : Place
  SecondLate : Place

abbrev pub stream_in : Place → DeviceStreams → Stream
stream_in (OfLog log) t = log_stream log t
stream_in (OfMapping which) t = mapping_stream which t
stream_in FirstLate t = t.late1
stream_in SecondLate t = t.late2

abbrev pub with_stream : Place → DeviceStreams → Stream → DeviceStreams
with_stream (OfLog log) t now = with_log log t now
with_stream (OfMapping which) t now = with_mapping which t now
with_stream FirstLate t now = record t { late1 = now }
with_stream SecondLate t now = record t { late2 = now }

-- the places in the order of a head
abbrev pub place_number : Place → ℕ
place_number (OfLog Held) = 0
place_number (OfLog Kept) = 1
place_number (OfMapping Entries) = 2
place_number (OfMapping Counts) = 3
place_number (OfLog Fresh) = 4
place_number FirstLate = 5
place_number SecondLate = 6

-- this place of this device
abbrev pub is_place : ℕ → Place → ℕ → Place → Bool
is_place dev place e p = nat_eq e dev && nat_eq (place_number p) (place_number place)

-- the trees of a device's streams, with these words
abbrev pub device_trees : DeviceStreams → (Place → List ℕ) → List Standing
device_trees t words =
    of_stream t.held (words (OfLog Held)) ∷ of_stream t.kept (words (OfLog Kept)) ∷ of_stream t.entries (words (OfMapping Entries)) ∷ of_stream t.counts (words (OfMapping Counts))
    ∷ of_stream t.fresh (words (OfLog Fresh)) ∷ of_stream t.late1 (words FirstLate) ∷ of_stream t.late2 (words SecondLate) ∷ []

-- those of a condensing
abbrev pub cond_trees : CondStreams → (MappingStream → List ℕ) → List Standing
cond_trees t words = of_stream t.entries (words Entries) ∷ of_stream t.counts (words Counts) ∷ []

-- ---- how far a commit has come

-- A stream is as the last root has it, or nothing is told of its words, or it is given back, or written for the next root. Behind the commit it is recorded.
pub data Stage : Type 0 where
  Had : Stage
  Untold : Stage
  Given : Stage
  Written : Stage
  Recorded : Stage

-- the device's mapping can be spelled
abbrev pub MaySpell : OpenPool → ℕ → Type 0
MaySpell pool dev = IsSpelled (part_of pool.space.parts.devs dev).entries (part_of pool.space.parts.devs dev).counts

-- The words of a stream at its stage: a log leads to what its set was at the last root, or is now; those of a mapping, which can be spelled, are its first ones, or all; a late set is what it will be.
abbrev pub IsAt : Stage → OpenPool → ℕ → Place → List ℕ → Type 0
IsAt Had pool dev (OfLog log) words = IsLastLog pool.version pool.space dev log words
IsAt Had pool dev (OfMapping which) words = HadFirst pool dev which words × MaySpell pool dev
IsAt Had pool dev place words = Unit {0}
IsAt Untold pool dev (OfMapping which) words = MaySpell pool dev
IsAt Untold pool dev place words = Unit {0}
IsAt Given pool dev place words = words ≡ []
IsAt Written pool dev (OfLog log) words = IsLogNow pool.version pool.space dev log words
IsAt Written pool dev (OfMapping which) words = (words ≡ words_at pool dev which) × MaySpell pool dev
IsAt Written pool dev FirstLate words = IsLate pool.version dev words (waiting_runs (opened_of pool.space dev))
IsAt Written pool dev SecondLate words = IsLate pool.version dev words (part_of pool.space.parts.devs dev).late1
IsAt Recorded pool dev (OfLog log) words = IsLogNow pool.version pool.space dev log words
IsAt Recorded pool dev (OfMapping which) words = (words ≡ words_at pool dev which) × MaySpell pool dev
IsAt Recorded pool dev FirstLate words = IsLate pool.version dev words (part_of pool.space.parts.devs dev).late1
IsAt Recorded pool dev SecondLate words = IsLate pool.version dev words (part_of pool.space.parts.devs dev).late2

-- the same of a condensing that goes on: what a commit has of one that is done says nothing of its words
abbrev pub IsCondAt : Stage → OpenPool → MappingStream → List ℕ → Type 0
IsCondAt Had pool which words = (c : CondPart) → pool.space.parts.cond ≡ Some c → (pool.cond.done ≡ false → HasFirst which c.entries c.counts words) × IsSpelled c.entries c.counts
IsCondAt Untold pool which words = (c : CondPart) → pool.space.parts.cond ≡ Some c → IsSpelled c.entries c.counts
IsCondAt Given pool which words = words ≡ []
IsCondAt stage pool which words = (c : CondPart) → pool.space.parts.cond ≡ Some c → (words ≡ mapping_words which c.entries c.counts) × IsSpelled c.entries c.counts

-- The disks hold the trees of the pool's streams beside each other, and other trees beside these. In each stream stand as many words as it tells, and they are those of its stage.
pub record HoldsStreams (stage : ℕ → Place → Stage) (cond_stage : MappingStream → Stage) (others : List Standing) (tells : Type 0) (disks : List (List ℕ)) (pool : OpenPool) : Type 0 where
  pub stored : Stored
  pub held : HasMeta tells disks pool stored
  pub words : ℕ → Place → List ℕ
  pub cond : MappingStream → List ℕ
  pub beside : StandBeside stored (rows_of (λ dev. device_trees (streams_at pool dev) (words dev)) pool.table.count ++ (cond_trees pool.cond cond ++ others))
  pub counts : (dev : ℕ) (place : Place) → dev < pool.table.count → length (words dev place) ≡ (stream_in place (streams_at pool dev)).words
  pub cond_counts : (which : MappingStream) → length (cond which) ≡ (cond_stream which pool.cond).words
  pub are : (dev : ℕ) (place : Place) → dev < pool.table.count → IsAt (stage dev place) pool dev place (words dev place)
  pub are_cond : (which : MappingStream) → IsCondAt (cond_stage which) pool which (cond which)

-- What a commit is to be told of the streams before it: a stream that is appended to has what the last root has, and of one that is written anew nothing is asked.
abbrev pub first_stage : Logs → Stage
first_stage Grow = Had
first_stage Anew = Untold

-- one stream of a device was written, and the others are as they were
pub record WritesPlace (first : Stage) (old new : ℕ → Place → Stage) (dev : ℕ) (place : Place) : Type 0 where
  pub was : old dev place ≡ first
  pub is : new dev place ≡ Written
  pub others : (e : ℕ) (p : Place) → is_place dev place e p ≡ false → new e p ≡ old e p

-- the stream of a late set
abbrev pub is_late : Place → Bool
is_late FirstLate = true
is_late SecondLate = true
is_late _ = false

-- no first late set is written yet: what waits to be free may still grow
abbrev pub HasNoLateYet : (ℕ → Place → Stage) → Type 0
HasNoLateYet stage = (dev : ℕ) → stage dev FirstLate ≢ Written

-- The stages of a commit, device by device: first all streams but the late sets are written, then the late sets are given back, and then they are written.
abbrev pub writing : Stage → ℕ → ℕ → Place → Stage
writing first done dev place = if nat_lt dev done then (if is_late place then first else Written) else first

abbrev pub giving : Stage → ℕ → ℕ → Place → Stage
giving first done dev place = if is_late place then (if nat_lt dev done then Given else first) else Written

abbrev pub laying : ℕ → ℕ → Place → Stage
laying done dev place = if is_late place then (if nat_lt dev done then Written else Given) else Written

-- those behind the late sets of so many devices: a reset writes none
abbrev pub settling : Stage → Bool → ℕ → ℕ → Place → Stage
settling first reset done = if reset then giving first done else laying done

-- each stream of a device, and of a condensing, is at this stage
abbrev pub every : Stage → ℕ → Place → Stage
every stage dev place = stage

abbrev pub one_stage : Stage → MappingStream → Stage
one_stage stage which = stage

-- nothing is written yet
pub record AreFirst (first : Stage) (stage : ℕ → Place → Stage) (cond : MappingStream → Stage) : Type 0 where
  pub devices : (dev : ℕ) (place : Place) → stage dev place ≡ first
  pub cond_is : (which : MappingStream) → cond which ≡ first

-- the tree of a head
abbrev pub head_tree : Tree → List ℕ → List Standing
head_tree t bytes = of_tree t bytes ∷ []

-- The disks hold the trees of all streams of a pool and of its head beside each other, each stream at this stage.
abbrev pub HasTrees : Stage → Type 0 → List (List ℕ) → OpenPool → Type 0
HasTrees stage tells disks pool = (bytes : List ℕ) × HoldsStreams (every stage) (one_stage stage) (head_tree pool.head bytes) tells disks pool

-- The blocks of the trees of an open pool's streams and of its head are all metadata of its current root: to each unit of that just one of them leads, and none to any other unit.
pub record HasMetaUnits (disks : List (List ℕ)) (pool : OpenPool) : Type 0 where
  pub bytes : List ℕ
  pub streams : HoldsStreams (every Had) (one_stage Had) (head_tree pool.head bytes) (Unit {0}) disks pool
  pub once : (d u : ℕ) →
      live_hits (devices_in pool.space) (addresses_of (blocks_of streams.stored (rows_of (λ dev. device_trees (streams_at pool dev) (streams.words dev)) pool.table.count ++ (cond_trees pool.cond streams.cond ++ head_tree pool.head bytes)))) d u
      ≡ one_if (is_current (role_at pool.space d u))

-- They stand as the last root has them.
abbrev pub HasLastTrees : List (List ℕ) → OpenPool → Type 0
HasLastTrees disks pool = HasTrees Had (Unit {0}) disks pool

-- a group has just begun: nothing was done in it yet
abbrev pub HasJustBegun : OpenPool → Type 0
HasJustBegun pool = (dev : ℕ) → opened_of pool.space dev ≡ nothing_opened
