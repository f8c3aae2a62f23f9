-- What a cache of blocks on disks keeps.
use Rattle.std.specs.Prelude.{◌≡◌, ◌⊎◌, ℕ, false, List, [], ◌∷◌, Contains, Option}
use Rattle.std.specs.List.{list_any}
use Rattle.zr_bptr.specs.declared.Bptr.{Bptr}
use Rattle.zr_imap.specs.declared.image.Piece.{Piece}
use Rattle.zr_chain.specs.Visits.{as_part}
use Rattle.zr_rules.specs.Space.{Space}
use Rattle.zr_rules.specs.Equation.{devices_in}
use Rattle.zr_view.specs.Views.{address_bytes}
use Rattle.zr_cache.specs.declared.table.Cache.{Cache}
use Rattle.zr_cache.specs.Sums.{Entry}
use Rattle.zr_cache.specs.Entries.{Holds, entries, meets}
use Rattle.zr_vdev.specs.Runs.{AreRunsOf, view_of}

-- the bytes are those of the pointer's address, and the runs have its units
pub record IsRead (disks : List (List ℕ)) (slots : List (Option ℕ)) (s : Space) (b : Bptr) (bytes : List ℕ) (runs : List Piece) : Type 0 where
  pub runs_of : AreRunsOf (devices_in s) b.at runs
  pub same : bytes ≡ address_bytes (view_of disks slots s) b.at

-- each block that is cached has the bytes of its address
abbrev pub AreRead : List (List ℕ) → List (Option ℕ) → Space → Cache → Type 0
AreRead disks slots s c = Holds (IsRead disks slots s) c

-- each entry was there and has no unit of the block, or is the block's
abbrev pub KeepsBlock : Cache → Cache → Bptr → List ℕ → Type 0
KeepsBlock old new b bytes =
    (e : Entry) → Contains (entries new) e →
    (Contains (entries old) e × (list_any (meets (as_part b.at)) e.1.runs.items ≡ false))
    ⊎ ((e.0.pointer ≡ b) × (e.1.bytes.items ≡ bytes) × (e.1.runs.items ≡ as_part b.at ∷ []))
