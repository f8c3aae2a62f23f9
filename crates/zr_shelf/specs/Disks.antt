-- Disks of bytes, what was written since the last flush, and what a crash may leave.
use Rattle.std.specs.Prelude.{◌≡◌, ◌<◌, ℕ, ◌+◌, Option, List, [], ◌∷◌, ◌++◌, length, map, take, drop, slice_index_or}

-- the bytes of the disk in a slot
abbrev pub disk : List (List ℕ) → ℕ → List ℕ
disk disks slot = slice_index_or disks slot []

-- n bytes from this offset
abbrev pub part : List ℕ → ℕ → ℕ → List ℕ
part bytes at n = take n (drop at bytes)

-- a write that no flush has made sure of
pub record PendingWrite : Type 0 where
  pub slot : ℕ
  pub at : ℕ
  pub bytes : List ℕ

-- the write's range has a byte in this one
pub record Meets (w : PendingWrite) (slot at n : ℕ) : Type 0 where
  pub same : w.slot ≡ slot
  pub begins : w.at < at + n
  pub ends : at < w.at + length w.bytes

-- no write's range has a byte in this one
abbrev pub IsUntouched : List PendingWrite → ℕ → ℕ → ℕ → Type 0
IsUntouched [] slot at n = Unit {0}
IsUntouched (w ∷ writes) slot at n = (¬ Meets w slot at n) × IsUntouched writes slot at n

-- the same bytes outside the writes' ranges, whatever stands inside
pub record IsSameOutside (writes : List PendingWrite) (old new : List (List ℕ)) : Type 0 where
  pub sizes : map length new ≡ map length old
  pub bytes : (slot at n : ℕ) → IsUntouched writes slot at n → part (disk new slot) at n ≡ part (disk old slot) at n

-- a shelf as it stands between two calls
pub record Stand : Type 0 where
  -- the path of each disk, in the order of their slots
  pub paths : List (List ℕ)
  -- the size in bytes with which each disk was to be made, were its file not there, in the order of their slots
  pub makes : List (Option ℕ)
  -- as the last flush left the disks
  pub durable : List (List ℕ)
  -- the writes since then, the newest first
  pub writes : List PendingWrite
  -- as the disks read
  pub seen : List (List ℕ)
  -- the input that is left
  pub left : List ℕ
  -- the bytes sent so far
  pub sent : List ℕ

-- a crash may leave these disks
abbrev pub MayLeave : Stand → List (List ℕ) → Type 0
MayLeave stand image = IsSameOutside stand.writes stand.durable image

-- what is read is of these sizes, and is one of the images that a crash may leave
pub record IsSound (sizes : List ℕ) (stand : Stand) : Type 0 where
  pub paths : length stand.paths ≡ length sizes
  pub sized : map length stand.seen ≡ sizes
  pub readable : MayLeave stand stand.seen

-- nothing is pending, so a crash leaves what is read
pub record IsAtRest (stand : Stand) : Type 0 where
  pub writes : stand.writes ≡ []
  pub seen : stand.seen ≡ stand.durable

-- what a write leaves, done or not
pub record IsWritten (old : Stand) (w : PendingWrite) (new : Stand) : Type 0 where
  pub paths : new.paths ≡ old.paths
  pub makes : new.makes ≡ old.makes
  pub durable : new.durable ≡ old.durable
  pub writes : new.writes ≡ w ∷ old.writes
  pub seen : IsSameOutside (w ∷ []) old.seen new.seen
  pub left : new.left ≡ old.left
  pub sent : new.sent ≡ old.sent

-- its bytes are read
abbrev pub Reads : List (List ℕ) → PendingWrite → Type 0
Reads disks w = part (disk disks w.slot) w.at (length w.bytes) ≡ w.bytes

-- what a flush leaves
abbrev pub flushed : Stand → Stand
flushed s = record { paths = s.paths; makes = s.makes; durable = s.seen; writes = []; seen = s.seen; left = s.left; sent = s.sent }

abbrev pub sent_more : Stand → List ℕ → Stand
sent_more s bytes = record { paths = s.paths; makes = s.makes; durable = s.durable; writes = s.writes; seen = s.seen; left = s.left; sent = s.sent ++ bytes }

-- with this much of the input left
abbrev pub taken_to : Stand → List ℕ → Stand
taken_to s left = record { paths = s.paths; makes = s.makes; durable = s.durable; writes = s.writes; seen = s.seen; left = left; sent = s.sent }

-- with one disk more, which was to be made with this size were its file not there, and of which nothing is pending
abbrev pub with_disk : Stand → List ℕ → Option ℕ → List ℕ → Stand
with_disk s path make bytes = record {
  paths = s.paths ++ path ∷ [];
  makes = s.makes ++ make ∷ [];
  durable = s.durable ++ bytes ∷ [];
  writes = s.writes;
  seen = s.seen ++ bytes ∷ [];
  left = s.left;
  sent = s.sent;
}
