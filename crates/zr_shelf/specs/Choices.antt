-- The image of the disks that a choice names, by a number for each pending write, the oldest first.
use Rattle.std.specs.Prelude.{◌≡◌, ◌<◌, ℕ, ◌/◌, ◌==◌, ◌⊎◌, List, [], ◌∷◌, length, take, drop, slice_index, string_bytes, if◌then◌else◌}
use Rattle.std.specs.List.{AllByRecursion}
use Rattle.zr_shelf.specs.Disks.{Stand, PendingWrite, MayLeave}
use Rattle.zr_shelf.specs.Memory.{bytes_of, paths_of, after_write, NoneHasPath}
use Rattle.zr_shelf.specs.declared.memory.DiskFile.{DiskFile}

-- how many of a write's bytes came: all (1), the first half (2), and else none
abbrev pub came : ℕ → ℕ → ℕ
came number len = if number == 1 then len else (if number == 2 then len / 2 else 0)

-- the write of its first n bytes alone
abbrev pub front_of : PendingWrite → ℕ → PendingWrite
front_of w n = record { slot = w.slot; at = w.at; bytes = take n w.bytes }

-- the disks after these writes, the newest first: of each comes what its number says, from the oldest's on, and none where that is missing
abbrev pub chosen : List ℕ → List PendingWrite → List (List ℕ) → List (List ℕ)
chosen choice [] disks = disks
chosen choice (w ∷ older) disks =
    after_write (chosen choice older disks) (front_of w (came (slice_index choice (length older)) (length w.bytes)))

-- the files in front are the disks as the last flush left them, and the writes since then as the choice says
abbrev pub IsChosen : List ℕ → Stand → List DiskFile → Type 0
IsChosen choice stand files = bytes_of (take (length stand.paths) files) ≡ chosen choice stand.writes stand.durable

-- the same path and the same bytes
pub record IsCopy (file copy : DiskFile) : Type 0 where
  pub path : string_bytes copy.path ≡ string_bytes file.path
  pub bytes : copy.bytes.items ≡ file.bytes.items

-- no disk has the file's path
abbrev pub IsOther : List DiskFile → DiskFile → Type 0
IsOther disks file = NoneHasPath disks (string_bytes file.path) (length disks)

-- these are copies, in order, of the files of the folder whose path no disk has
abbrev pub AreOthers : List DiskFile → List DiskFile → List DiskFile → Type 0
AreOthers disks [] others = others ≡ []
AreOthers disks (file ∷ folder) others =
    (¬ IsOther disks file × AreOthers disks folder others)
    ⊎ (IsOther disks file × ((copy : DiskFile) × (more : List DiskFile) × (others ≡ copy ∷ more) × IsCopy file copy × AreOthers disks folder more))

-- behind the disks come the files of the folder that are none of them
abbrev pub HasOthers : Stand → List DiskFile → List DiskFile → Type 0
HasOthers stand folder files = AreOthers (take (length stand.paths) files) folder (drop (length stand.paths) files)

-- the disks as they read, and as the choice leaves them, and the place of the next number
pub record IsShown (choice : List ℕ) (s : Stand) (seen image : List DiskFile) (place : ℕ) : Type 0 where
  pub bytes : bytes_of seen ≡ s.seen
  pub paths : paths_of seen ≡ s.paths
  pub same_paths : paths_of image ≡ s.paths
  pub leaves : MayLeave s (bytes_of image)
  pub slots : AllByRecursion (λ w. w.slot < length s.durable) s.writes
  pub count : place ≡ length s.writes
  pub as_chosen : bytes_of image ≡ chosen choice s.writes s.durable
