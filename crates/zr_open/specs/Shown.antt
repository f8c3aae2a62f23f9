-- The pool that the disks show.
use Rattle.std.specs.Prelude.{ℕ, List, Option, Some, None, Ok}
use Rattle.zr_label.specs.declared.root.Seen.{Seen}
use Rattle.zr_meta.specs.Heads.{IsHead}
use Rattle.zr_model.specs.State.{PoolState}
use Rattle.zr_image.specs.Current.{ShowsAll, FindsCurrent, IsGroup, IsInWindow, slots_of}
use Rattle.zr_label.specs.declared.root.Uber.{Uber}
use Rattle.zr_image.specs.Roots.{Root, rows_of, IsSavedUber}
use Rattle.zr_image.specs.StateOf.{Means}
use Rattle.zr_import.specs.Words.{ReadsMeta}
use Rattle.zr_roots.specs.Standing.{image_of}

-- In the trees of the root stand its head and the words of its parts.
pub record IsShownRoot (disks : List (List ℕ)) (slots : List (Option ℕ)) (root : Root) : Type 0 where
  pub head : IsHead (rows_of root.uber) root.head
  pub reads : ReadsMeta (image_of disks slots root.uber) root.uber root.head root.parts

-- the head tells of no saved root, or its block spells the one that stands there
abbrev pub IsShownBeside : List (List ℕ) → List (Option ℕ) → Root → Option (List ℕ) → Option Root → Type 0
IsShownBeside disks slots root None None = Unit {0}
IsShownBeside disks slots root None (Some saved) = ⊥
IsShownBeside disks slots root (Some block) None = ⊥
IsShownBeside disks slots root (Some block) (Some saved) = IsSavedUber root block saved.uber × IsShownRoot disks slots saved

-- The slots show a current root. It stands on the disks, as does the one that it saved, if there is one. By these the disks mean this pool.
pub record Shows (paths disks : List (List ℕ)) (p : PoolState) : Type 0 where
  pub seen : List Seen
  pub shown : ShowsAll disks seen
  pub root : Root
  pub current : FindsCurrent seen (Ok root.uber)
  pub stands : IsShownRoot disks (slots_of root.uber seen) root
  pub saved : Option Root
  pub beside : IsShownBeside disks (slots_of root.uber seen) root root.head.saved saved
  pub means : Means paths disks (slots_of root.uber seen) root saved p

-- The slots show a current root, behind which a group is kept. Its root stands on the disks, as does the one that it saved, if there is one. By these the disks mean this pool.
pub record ShowsGroup (paths disks : List (List ℕ)) (txg : ℕ) (p : PoolState) : Type 0 where
  pub seen : List Seen
  pub shown : ShowsAll disks seen
  pub current : Uber
  pub found : FindsCurrent seen (Ok current)
  pub kept : IsInWindow seen current txg
  pub root : Root
  pub group : IsGroup seen current txg root.uber
  pub stands : IsShownRoot disks (slots_of root.uber seen) root
  pub saved : Option Root
  pub beside : IsShownBeside disks (slots_of root.uber seen) root root.head.saved saved
  pub means : Means paths disks (slots_of root.uber seen) root saved p
