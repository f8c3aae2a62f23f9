-- What is taken for granted of the disks on which a run begins. All that this program leaves has it.
use Rattle.std.specs.Prelude.{◌≡◌, ◌⊎◌, ◌↔◌, ℕ, ◌+◌, ◌^◌, ◌≤◌, ◌<◌, true, List, Option, Ok}
use Rattle.zr_label.specs.declared.root.Uber.{Uber}
use Rattle.zr_label.specs.declared.root.Seen.{Seen}
use Rattle.zr_rules.specs.Roles.{Role, is_held_role}
use Rattle.zr_rules.specs.Roles.Role.{Late1Block, Late1Meta, Late2Block, Late2Meta, Meta, SavedMeta}
use Rattle.zr_rules.specs.Space.{role_at}
use Rattle.zr_model.specs.State.{PoolState, Is}
use Rattle.zr_model.specs.Runs.{Shelf}
use Rattle.zr_image.specs.Current.{ShowsAll, IsCurrent, IsInWindow, IsGroup, slots_of}
use Rattle.zr_image.specs.Roots.{Root, OpensRoot, meta_of, space_with}
use Rattle.zr_image.specs.StateOf.{OpensShelf, StateOf}
use Rattle.zr_image.specs.Frame.{HasUnit, HoldsCopies, IsKeptRoot}
use Rattle.zr_moves.specs.Prefix.{own_slots, disks_of}

-- The unmarked copies of the current root hold their sources' bytes, and no group is near the last number.
pub record IsTrusted (shelf : Shelf) : Type 0 where
  pub copies : (seen : List Seen) (r : Root) (saved : Option Root) → ShowsAll shelf.disks seen → OpensShelf shelf.disks seen (Ok (r, saved)) → HoldsCopies shelf.disks (slots_of r.uber seen) r.parts.devs
  pub low : (seen : List Seen) (u : Uber) → ShowsAll shelf.disks seen → IsCurrent seen u → u.txg ≤ 2 ^ 62

-- the unit was freed by a group behind this one, where the current group is `current`
abbrev pub IsLateSince : ℕ → ℕ → Role → Type 0
IsLateSince current txg Late1Block = txg < current
IsLateSince current txg Late1Meta = txg < current
IsLateSince current txg Late2Block = txg + 1 < current
IsLateSince current txg Late2Meta = txg + 1 < current
IsLateSince current txg r = ⊥

-- the unit is held, or metadata, or was freed by a group behind this one
abbrev pub IsStillThere : ℕ → ℕ → Role → Type 0
IsStillThere current txg r = (is_held_role r ≡ true) ⊎ ((r ≡ Meta) ⊎ ((r ≡ SavedMeta) ⊎ IsLateSince current txg r))

-- Each lower group that is kept opens by itself, its copies hold their sources' bytes, none of its units was given out again, and it is kept too where the slots
-- that are no device of the pool are left out.
pub record HasLawfulGroups (shelf : Shelf) : Type 0 where
  pub opens : (seen : List Seen) (current u : Uber) (txg : ℕ) → ShowsAll shelf.disks seen → IsCurrent seen current → IsInWindow seen current txg → IsGroup seen current txg u
      → (r : Root) × (saved : Option Root) × OpensRoot shelf.disks (slots_of u seen) u (Ok (r, saved))
  pub copies : (seen : List Seen) (r : Root) (saved : Option Root) → ShowsAll shelf.disks seen → IsKeptRoot shelf.disks seen r saved → HoldsCopies shelf.disks (slots_of r.uber seen) r.parts.devs
  pub units : (seen : List Seen) (now lower : Root) (saved old : Option Root) (d u : ℕ) → ShowsAll shelf.disks seen → OpensShelf shelf.disks seen (Ok (now, saved)) → IsKeptRoot shelf.disks seen lower old
      → HasUnit lower d u → IsStillThere now.uber.txg lower.uber.txg (role_at (space_with now (meta_of saved)) d u)
  pub alone : (seen own : List Seen) (current : Uber) (p : PoolState) (txg : ℕ) → ShowsAll shelf.disks seen → StateOf shelf.paths shelf.disks (Is p) → ShowsAll (disks_of (own_slots p shelf.paths shelf.disks)) own
      → IsCurrent seen current → IsInWindow seen current txg ↔ IsInWindow own current txg
