-- How the system is asked to open a path.
use Rattle.std.specs.Prelude.{◌≡◌, ◌⊎◌, ℕ, true, Option, IsSome}
use Rattle.std.specs.Fs.{new_options, with_read, with_write, with_create_new}
use Rattle.std.specs.declared.fs.options.OpenOptions.{OpenOptions}
use Rattle.zr_files.specs.Raised.{raised}
use Rattle.zr_files.specs.declared.file_desk.Opening.{Opening}
use Rattle.zr_files.specs.declared.file_desk.Opening.TheVariants.{There, New, Folder}

-- to read and write, and never to cut or append to; only a new file is made, and it must not be there
abbrev pub options_for : Opening → OpenOptions
options_for There = with_write (with_read new_options true) true
options_for New = with_create_new (with_write (with_read new_options true) true) true
options_for Folder = with_read new_options true

-- By the counts of missing files and of files made durable: the file was there and was opened so, or the system did not have it, a size is given, and what was made is durable, as its folder is.
abbrev pub IsThereOrMade : Opening → Option ℕ → ℕ → ℕ → ℕ → ℕ → Type 0
IsThereOrMade opening make missing missing_now synced synced_now =
    ((opening ≡ There) × (missing_now ≡ missing) × (synced_now ≡ synced))
    ⊎ ((opening ≡ New) × IsSome make × (missing_now ≡ raised missing 1) × (synced_now ≡ raised synced 2))
