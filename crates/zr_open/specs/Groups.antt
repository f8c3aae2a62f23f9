-- The root of a group that is gone back to.
use Rattle.std.specs.Prelude.{◌≡◌, ◌⊎◌, ℕ, ◌+◌, ◌==◌, List, Ok, MatchBool}
use Rattle.zr_base.specs.declared.refusal.Refusal.{Refusal}
use Rattle.zr_base.specs.declared.refusal.Refusal.TheVariants.{GroupNotKept}
use Rattle.zr_image.specs.Current.{FindsCurrent, IsGroup, IsInWindow, IsOldest, ShowsAll, slots_of}
use Rattle.zr_image.specs.Reading.{store_of}
use Rattle.zr_image.specs.StateOf.{AreObjects}
use Rattle.zr_label.specs.declared.root.Seen.{Seen}
use Rattle.zr_label.specs.declared.root.Uber.{Uber}
use Rattle.zr_model.specs.Objects.{Objects}
use Rattle.zr_model.specs.State.{PoolState}
use Rattle.zr_rules.specs.Devices.{devices_of}
use Rattle.zr_sync.specs.Objects.{HoldsObjects}
use Rattle.zr_sync.specs.States.{HoldsState}
use Rattle.zr_sync.specs.declared.open.OpenPool.{OpenPool}
use Rattle.zr_open.specs.Found.{FindsOn}
use Rattle.zr_open.specs.Opened.{IsFresh, IsRefusedRoot, IsRefusedSaved}
use Rattle.zr_open.specs.Rewound.{rewound}
use Rattle.zr_open.specs.Shown.{ShowsGroup}
use Rattle.zr_open.specs.declared.look.Looked.{Looked}

-- The pool holds the objects that the disks mean by the root that was looked at, and its checkpoint stands as there.
pub record HoldsRoot (before : List (List ℕ)) (tells : Type 0) (disks : List (List ℕ)) (l : Looked) (pool : OpenPool) : Type 0 where
  pub objects : Objects
  pub are : AreObjects (store_of (record { disks = before; slots = l.found.slots; devices = devices_of l.root.parts.devs })) l.root.head.dir objects
  pub holds : HoldsObjects tells disks pool objects
  pub ckpt : pool.space.parts.ckpt ≡ l.root.head.ckpt

-- The pool holds the state that the disks showed by the root of a group that was kept.
pub record HoldsGroup (paths before : List (List ℕ)) (txg : ℕ) (tells : Type 0) (disks : List (List ℕ)) (pool : OpenPool) : Type 0 where
  pub state : PoolState
  pub shown : ShowsGroup paths before txg state
  pub holds : HoldsState tells disks pool state

-- the group is not kept, and the refusal tells the oldest that is
pub record IsNotKept (seen : List Seen) (current : Uber) (txg : ℕ) (r : Refusal) : Type 0 where
  pub gone : ¬ IsInWindow seen current txg
  pub oldest : ℕ
  pub oldest_is : IsOldest seen current oldest
  pub is : r ≡ GroupNotKept oldest

-- The pool is that of the current root, if the group is its own, and else that of the group's root, one group above the current one and as a reset.
pub record IsBack (sizes : List ℕ) (tells : Type 0) (disks : List (List ℕ)) (txg : ℕ) (pool : OpenPool) : Type 0 where
  pub current : Uber
  pub at : FindsOn sizes tells disks (Ok current)
  pub kept : IsInWindow at.seen current txg
  pub root : Uber
  pub group : IsGroup at.seen current txg root
  pub fresh : MatchBool (txg == current.txg) (IsFresh current pool) (IsFresh (rewound root (current.txg + 1)) pool)

-- a refusal of the current root, of the group, or of the group's root
abbrev pub IsBackRefusal : Type 0 → List (List ℕ) → List Seen → Uber → ℕ → Refusal → Type 0
IsBackRefusal tells disks seen u txg r =
    IsRefusedRoot r ⊎ (IsRefusedSaved tells disks (slots_of u seen) u r ⊎ (IsNotKept seen u txg r ⊎ ((root : Uber) × IsGroup seen u txg root × IsRefusedSaved tells disks (slots_of root seen) root r)))

-- behind the current root that the slots show the group is not kept, and the oldest that is is this
pub record ShowsNotKept (disks : List (List ℕ)) (txg oldest : ℕ) : Type 0 where
  pub seen : List Seen
  pub shown : ShowsAll disks seen
  pub current : Uber
  pub found : FindsCurrent seen (Ok current)
  pub gone : ¬ IsInWindow seen current txg
  pub oldest_is : IsOldest seen current oldest
