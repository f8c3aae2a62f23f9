-- A small pool on which the definitions are tried.
use Rattle.std.specs.Prelude.{ℕ, Bool, true, false, List, [], ◌∷◌, length, replicate, Some, None}
use Rattle.zr_base.specs.declared.space.Dva.{Dva}
use Rattle.zr_base.specs.declared.space.Entry.{Entry}
use Rattle.zr_base.specs.declared.space.Extent.{Extent}
use Rattle.zr_base.specs.declared.space.DevRow.{DevRow}
use Rattle.zr_base.specs.declared.space.DevPart.{DevPart}
use Rattle.zr_base.specs.declared.space.SpaceParts.{SpaceParts}
use Rattle.zr_base.specs.declared.space.DevState.TheVariants as state
use Rattle.zr_base.specs.declared.space.CkptPart.TheVariants as ckpt
use Rattle.zr_bptr.specs.declared.Bptr.{Bptr}
use Rattle.zr_bptr.specs.declared.Ptr.{Ptr}
use Rattle.zr_bptr.specs.declared.Ptr.TheVariants.{Hole, At}
use Rattle.zr_bptr.specs.declared.Tree.{Tree}
use Rattle.zr_label.specs.declared.root.Name.{Name}
use Rattle.zr_label.specs.declared.root.Label.{Label}
use Rattle.zr_label.specs.declared.root.Uber.{Uber}
use Rattle.zr_label.specs.declared.root.Seen.{Seen}
use Rattle.zr_rules.specs.Devices.{devices_of}
use Rattle.zr_image.specs.Checks.{Check, ◌>>=◌, Demands}
use Rattle.zr_image.specs.Numbers.{Mappings, Room, broken}
use Rattle.zr_view.specs.Views.{View}
use Rattle.zr_image.specs.Reading.{HasSum}
use Rattle.zr_image.specs.Walks.{Setting, MayMark, IsBlockOf}
use Rattle.zr_image.specs.Roots.{block_setting}

abbrev pub no_name : Name
no_name = record { len = 0; bytes = replicate 63 0 }

-- a device in service, and one that went at this group
abbrev pub on_row : ℕ → DevRow
on_row added = record { state = state.On; added = added; units = 896; gone = 0 }

abbrev pub gone_row : ℕ → DevRow
gone_row gone = record { state = state.Gone; added = 1; units = 896; gone = gone }

-- the root of a group, with the group of its last reset and these devices
abbrev pub root_of : ℕ → ℕ → ℕ → List DevRow → Uber
root_of txg reset len rows = record { version = 2; txg = txg; guid = 7; len = len; count = length rows; reset = reset; root = Hole; rows = rows; name = no_name }

-- the label of a device
abbrev pub label_of : ℕ → ℕ → ℕ → Label
label_of index added units = record { guid = 7; index = index; added = added; units = units; name = no_name }

-- a slot that shows this label and these roots
abbrev pub slot_with : Label → List Uber → Seen
slot_with l us = record { label = Some l; ubers = us; newer = None }

-- a pool of two devices in service, whose slots stand the other way round
abbrev pub two_rows : List DevRow
two_rows = on_row 1 ∷ (on_row 4 ∷ [])

abbrev pub turned : List Seen
turned = slot_with (label_of 1 4 896) [] ∷ (slot_with (label_of 0 1 896) [] ∷ [])

-- of device 1 there is a label of an earlier adding, and one that names other units
abbrev pub strangers : List Seen
strangers = slot_with (label_of 1 3 896) [] ∷ (slot_with (label_of 1 4 960) [] ∷ (slot_with (label_of 0 1 896) [] ∷ []))

-- two slots, each with a root of group 5, which differ in their lengths
abbrev pub split : List Seen
split = slot_with (label_of 0 1 896) (root_of 5 1 8 two_rows ∷ []) ∷ (slot_with (label_of 1 4 896) (root_of 5 1 16 two_rows ∷ []) ∷ [])

-- a device that was removed by this group, with this mapping
abbrev pub gone_at : ℕ → List Entry → List ℕ → DevPart
gone_at txg entries counts = record { row = gone_row txg; held = []; kept = []; entries = entries; counts = counts; fresh = []; late1 = []; late2 = [] }

-- a device in service with these units held and kept
abbrev pub on_with : List Extent → List Extent → DevPart
on_with held kept = record { row = on_row 1; held = held; kept = kept; entries = []; counts = []; fresh = []; late1 = []; late2 = [] }

-- Device 0 went at group 5 to device 1, and device 1 at this group to device 2.
abbrev pub chain : ℕ → List DevPart
chain second =
    gone_at 5 (record { src = 10; dev = 1; dst = 7; len = 3 } ∷ []) (0 ∷ [])
    ∷ (gone_at second (record { src = 7; dev = 2; dst = 100; len = 1 } ∷ (record { src = 8; dev = 2; dst = 40; len = 2 } ∷ [])) (0 ∷ (0 ∷ []))
    ∷ (on_with [] [] ∷ []))

abbrev pub parts_of : List DevPart → SpaceParts
parts_of devs = record { version = 2; devs = devs; cond = None; ckpt = ckpt.Clear }

-- the disks with the slots of the three devices, of which the first two have none
abbrev pub chain_view : List (List ℕ) → View
chain_view disks = record { disks = disks; slots = None ∷ (None ∷ (Some 0 ∷ [])); devices = devices_of (chain 6) }

-- unit 5 of the one device
abbrev pub unit_five : Dva
unit_five = record { dev = 0; start = 5; len = 1 }

abbrev pub five : List Extent
five = record { start = 5; len = 1 } ∷ []

-- a pointer to it, of group 2
abbrev pub pointer_five : Bptr
pointer_five = record { at = unit_five; level = 0; birth = 2; fill = 1; sum = [] }

-- a walk of a root of this group on the one device
abbrev pub walk_at : ℕ → Setting
walk_at txg =
    record { view = record { disks = []; slots = []; devices = devices_of (on_with five [] ∷ []) }; txg = txg; may_be = λ d u. true; leaf_units = 1; reads = false; holes = λ i. true; blocks = λ i. true }

-- two checks, with these facts
abbrev pub two_checks : Type 0 → Type 0 → Check (Unit {0})
two_checks A B = do
  mappings ← Demands A (broken Mappings)
  Demands B (broken Room)

-- a directory of one tree block above its leaves
abbrev pub one_block : Bptr → Tree
one_block b = record { root = At b; height = 1 }

-- In a directory of one tree block the first leaf may be marked and is damaged, and the second may not be marked.
pub record HasDamagedFirst (v : View) (may_be : ℕ → ℕ → Bool) (txg : ℕ) (b p q : Bptr) (more : List Ptr) : Type 0 where
  pub marked : MayMark (block_setting v may_be txg 1 4096) [] b
  pub read : HasSum v b
  pub block : IsBlockOf (block_setting v may_be txg 1 4096) 0 0 b (At p ∷ (At q ∷ more))
  pub first : MayMark (block_setting v may_be txg 1 4096) (b ∷ []) p
  pub damaged : HasSum v p → ⊥
  pub second : MayMark (block_setting v may_be txg 1 4096) (b ∷ (p ∷ [])) q → ⊥
