-- How a shelf in memory stood, from the calls that changed something.
use Rattle.std.specs.Prelude.{◌≡◌, ◌<◌, ◌≤◌, ℕ, ◌+◌, Bool, List, [], ◌∷◌, ◌++◌, length, map, take, drop, slice_set, slice_index_or, if◌then◌else◌, IsTrue, nat_lt, string_bytes, ◌⊎◌, replicate, Option, Some, None, unwrap_or, zero, suc}
use Rattle.std.specs.Coded.{×_prop, Unit-prop, le_prop}
use Rattle.std.specs.List.{position}
use Rattle.zr_shelf.specs.Disks.{Stand, PendingWrite, IsWritten, Reads, MayLeave, disk, flushed, sent_more, taken_to, with_disk}
use Rattle.zr_shelf.specs.Moments.{World}
use Rattle.zr_shelf.specs.declared.memory.DiskFile.{DiskFile}
use Rattle.zr_shelf.specs.declared.memory.Asked.{Asked}
use Rattle.zr_shelf.specs.declared.memory.Deed.{Deed}
use Rattle.zr_shelf.specs.declared.memory.Deed.TheVariants.{Attached, Wrote, Flushed, Sent}
use Rattle.zr_shelf.specs.declared.memory.Call.{Call}
use Rattle.zr_shelf.specs.declared.memory.History.{History}

abbrev pub bytes_of : List DiskFile → List (List ℕ)
bytes_of files = map (λ (f : DiskFile). f.bytes.items) files

abbrev pub sizes_of : List DiskFile → List ℕ
sizes_of files = map (λ (f : DiskFile). length f.bytes.items) files

abbrev pub paths_of : List DiskFile → List (List ℕ)
paths_of files = map (λ (f : DiskFile). string_bytes f.path) files

-- the disks with the write's bytes in place
abbrev pub after_write : List (List ℕ) → PendingWrite → List (List ℕ)
after_write disks w =
    let old = disk disks w.slot in slice_set disks w.slot (take w.at old ++ w.bytes ++ drop (w.at + length w.bytes) old)

-- A write that is done is read, and one that isn't leaves the disks to read as before. Neither is sure to stay.
abbrev pub WritesAs : PendingWrite → Bool → Stand → Stand → Type 0
WritesAs w done old new = IsWritten old w new × (IsTrue done → Reads new.seen w)

abbrev pub as_pending : Asked → PendingWrite
as_pending asked = record { slot = asked.slot; at = asked.at; bytes = asked.bytes.items }

-- no disk, and all of the input is left
abbrev pub start : List ℕ → World
start input = record { now = record { paths = []; makes = []; durable = []; writes = []; seen = []; left = input; sent = [] }; past = [] }

abbrev pub stand_after : Stand → Deed → Stand
stand_after s (Attached file make) = with_disk s (string_bytes file.path) make file.bytes.items
stand_after s (Wrote asked) = record {
  paths = s.paths;
  makes = s.makes;
  durable = s.durable;
  writes = as_pending asked ∷ s.writes;
  seen = if asked.done then after_write s.seen (as_pending asked) else s.seen;
  left = s.left;
  sent = s.sent;
}
stand_after s Flushed = flushed s
stand_after s (Sent bytes) = sent_more s bytes.items

-- so many bytes of the input are taken, one at a moment
abbrev pub take_on : World → ℕ → World
take_on w zero = w
take_on w (suc n) = record { now = taken_to w.now (drop (suc n) w.now.left); past = (take_on w n).now ∷ (take_on w n).past }

-- a call, after the bytes that were taken since the one before
abbrev pub next : World → Call → World
next w call =
    let taken = take_on w call.since in record { now = stand_after taken.now call.deed; past = taken.now ∷ taken.past }

abbrev pub run : World → List Call → World
run w [] = w
run w (call ∷ calls) = run (next w call) calls

-- how the shelf stood at each moment
abbrev pub world_of : History → World
world_of h = take_on (run (start h.input.items) h.calls.items) h.since

-- the write is to a place that is there
abbrev pub FitsIn : List (List ℕ) → Deed → Type 0
FitsIn disks (Wrote asked) = (asked.slot < length disks) × (asked.at + length asked.bytes.items ≤ length (disk disks asked.slot))
FitsIn disks _ = Unit {0}

-- each write is to a place that is there
abbrev pub IsLawful : World → List Call → Type 0
IsLawful w [] = Unit {0}
IsLawful w (call ∷ calls) = FitsIn w.now.seen call.deed × IsLawful (next w call) calls

fits_prop : (disks : List (List ℕ)) (deed : Deed) → IsProp (FitsIn disks deed)
fits_prop disks (Attached file make) = Unit-prop
fits_prop disks (Wrote asked) = ×_prop le_prop le_prop
fits_prop disks Flushed = Unit-prop
fits_prop disks (Sent bytes) = Unit-prop

pub lawful_prop : (w : World) (calls : List Call) → IsProp (IsLawful w calls)
lawful_prop w [] = Unit-prop
lawful_prop w (call ∷ calls) = ×_prop (fits_prop w.now.seen call.deed) (lawful_prop (next w call) calls)

-- the file in this place has the path
abbrev pub HasPathAt : List DiskFile → List ℕ → ℕ → Type 0
HasPathAt folder path k = slice_index_or (paths_of folder) k [] ≡ path

-- no file among the first n has the path
abbrev pub NoneHasPath : List DiskFile → List ℕ → ℕ → Type 0
NoneHasPath folder path n = (k : ℕ) → k < n → ¬ HasPathAt folder path k

-- a file of that path in the folder has these bytes, or none is there and they are so many zeros
abbrev pub IsFileOf : List DiskFile → List ℕ → ℕ → List ℕ → Type 0
IsFileOf folder path size bytes =
    ((k : ℕ) × (k < length folder) × HasPathAt folder path k × (slice_index_or (bytes_of folder) k [] ≡ bytes))
    ⊎ (NoneHasPath folder path (length folder) × (bytes ≡ replicate size 0))

abbrev pub front_to : Option ℕ → List Call → List Call
front_to None calls = calls
front_to (Some n) calls = take n calls

-- the calls up to a moment
abbrev pub calls_until : ℕ → List Call → List Call
calls_until moment calls = front_to (position (λ (c : Call). nat_lt moment c.moment) calls) calls

-- how the shelf stood at that moment, but for what was taken of the input since the last call that changed a disk
abbrev pub stand_at : History → ℕ → Stand
stand_at h moment = (run (start h.input.items) (calls_until moment h.calls.items)).now

-- the files in front are what a crash may leave of the disks
pub record IsImage (stand : Stand) (files : List DiskFile) : Type 0 where
  pub paths : paths_of (take (length stand.paths) files) ≡ stand.paths
  pub leaves : MayLeave stand (bytes_of (take (length stand.paths) files))

-- one disk more: the file of that path in the folder, or where none is there so many zeros as were asked for, and none without a size
abbrev pub IsAttached : List DiskFile → List ℕ → Option ℕ → Stand → Stand → Type 0
IsAttached folder path make old new = (bytes : List ℕ) × IsFileOf folder path (unwrap_or make 0) bytes × (new ≡ with_disk old path make bytes)
