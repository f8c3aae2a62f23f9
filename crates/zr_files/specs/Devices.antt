-- What was moved of a device, and which one it is.
use Rattle.std.specs.Prelude.{◌≡◌, ℕ, List, map, Some, slice_get, slice_set}
use Rattle.zr_files.specs.Raised.{raised}
use Rattle.zr_files.specs.declared.file_desk.Traffic.{Traffic}
use Rattle.zr_files.specs.declared.file_desk.DeviceFile.{DeviceFile}

abbrev pub no_traffic : Traffic
no_traffic = record { read = 0; written = 0; began = 0; synced = 0 }

-- so many bytes more were read, from this place on
abbrev pub has_read : Traffic → ℕ → ℕ → Traffic
has_read t at count = record t { read = raised t.read count; began = at }

-- so many bytes more were written, from this place on
abbrev pub has_written : Traffic → ℕ → ℕ → Traffic
has_written t at count = record t { written = raised t.written count; began = at }

-- it was made durable once more
abbrev pub is_synced : Traffic → Traffic
is_synced t = record t { synced = raised t.synced 1 }

-- what was moved of the device in this slot is changed so, and of no other
abbrev pub ChangesOne : (Traffic → Traffic) → ℕ → List Traffic → List Traffic → Type 0
ChangesOne change slot old new = (t : Traffic) × (slice_get old slot ≡ Some t) × (new ≡ slice_set old slot (change t))

-- the same file, of the same size, opened the same way
pub record IsSameFile (old new : DeviceFile) : Type 0 where
  pub size : new.size ≡ old.size
  pub path : new.path.items ≡ old.path.items
  pub opening : new.opening ≡ old.opening
  pub make : new.make ≡ old.make

-- the same files in the same slots
pub record AreSameFiles (old new : List DeviceFile) : Type 0 where
  pub sizes : map (λ f. f.size) new ≡ map (λ f. f.size) old
  pub paths : map (λ f. f.path.items) new ≡ map (λ f. f.path.items) old
  pub openings : map (λ f. f.opening) new ≡ map (λ f. f.opening) old
  pub makes : map (λ f. f.make) new ≡ map (λ f. f.make) old
