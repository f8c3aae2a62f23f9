-- A removal and a condensing that go on where a root has them.
use Rattle.std.specs.Prelude.{◌≡◌, ℕ, ◌+◌, ◌≤◌, true, false, List, [], map, length, Option, Some, IfSome}
use Rattle.zr_base.specs.declared.space.CkptPart.{CkptPart}
use Rattle.zr_base.specs.declared.space.CkptPart.TheVariants.{Clear}
use Rattle.zr_base.specs.declared.space.CondPart.{CondPart}
use Rattle.zr_base.specs.declared.space.Extent.{Extent}
use Rattle.zr_base.specs.Extents.{has_unit, in_extent, IsMaximal, AddsUnits}
use Rattle.zr_evac.specs.Evacuations.{hits_at}
use Rattle.zr_rules.specs.Places.{is_leaving, one_if}
use Rattle.zr_rules.specs.Space.{copy_hits}
use Rattle.zr_units.specs.Uses.{IsCopying}
use Rattle.zr_space.specs.Reads.{AreCopied}
use Rattle.zr_space.specs.Views.{Kept, kept_of, part_in, IsCondensing, IsMoved}

-- the device that is leaving, if there is one, and no other
pub record IsLeavingAlone (devs : List Kept) (found : Option ℕ) : Type 0 where
  pub leaving : IfSome found (λ d. is_leaving (kept_of devs d).row.state ≡ true)
  pub only : (d : ℕ) → is_leaving (kept_of devs d).row.state ≡ true → found ≡ Some d

-- one device at most is leaving
abbrev pub IsSingle : List Kept → Type 0
IsSingle devs = (d e : ℕ) → is_leaving (kept_of devs d).row.state ≡ true → is_leaving (kept_of devs e).row.state ≡ true → d ≡ e

-- what each device has beside its units is of its state
abbrev pub AreMoved : List Kept → Type 0
AreMoved devs = (d : ℕ) → IsMoved (kept_of devs d).row (kept_of devs d).moves

-- no copies are known yet
abbrev pub HaveNoCopies : List Kept → Type 0
HaveNoCopies devs = (d : ℕ) → (kept_of devs d).uses.copies ≡ []

-- No checkpoint is held, nothing of the device is kept, and what it holds below the open frontier is copied.
pub record IsUnderWay (ckpt : CkptPart) (k : Kept) : Type 0 where
  pub quiet : ckpt ≡ Clear
  pub unkept : k.uses.kept ≡ []
  pub copied : AreCopied k.moves.entries k.moves.fresh k.uses.held k.moves.opened

-- all is the same but for the copies
abbrev pub IsSameBesideCopies : Kept → Kept → Type 0
IsSameBesideCopies old new = new ≡ record old { uses = record old.uses { copies = new.uses.copies; spare = new.uses.spare } }

-- the units are held by the device, and are neither kept nor copies
pub record CanEnter (k : Kept) (e : Extent) : Type 0 where
  pub held : (u : ℕ) → in_extent e u ≡ true → has_unit k.uses.held u ≡ true
  pub unkept : (u : ℕ) → in_extent e u ≡ true → has_unit k.uses.kept u ≡ false
  pub uncopied : (u : ℕ) → in_extent e u ≡ true → has_unit k.uses.copies u ≡ false

-- held units of a device are copies from now on
pub record Enters (old new : List Kept) (d : ℕ) (e : Extent) : Type 0 where
  pub count : length new ≡ length old
  pub can : CanEnter (kept_of old d) e
  pub same : (j : ℕ) → IsSameBesideCopies (kept_of old j) (kept_of new j)
  pub copies : AddsUnits (kept_of old d).uses.copies (kept_of new d).uses.copies e
  pub others : (j : ℕ) → (j ≡ d → ⊥) → (kept_of new j).uses.copies ≡ (kept_of old j).uses.copies

-- each unit of the places is held by its device and not kept, and there once
abbrev pub CanEnterAll : List Kept → List (ℕ × Extent) → Type 0
CanEnterAll devs places = (d u : ℕ) → hits_at places d u + one_if (has_unit (kept_of devs d).uses.kept u) ≤ one_if (has_unit (kept_of devs d).uses.held u)

-- the units of the places are copies, and no others are
pub record EntersAll (old new : List Kept) (places : List (ℕ × Extent)) : Type 0 where
  pub count : length new ≡ length old
  pub same : (d : ℕ) → IsSameBesideCopies (kept_of old d) (kept_of new d)
  pub copying : (d : ℕ) → IsCopying (kept_of new d).uses
  pub maximal : (d : ℕ) → IsMaximal (kept_of new d).uses.copies
  pub hits : (d u : ℕ) → hits_at places d u ≡ one_if (has_unit (kept_of new d).uses.copies u)

-- A removal can go on: one device at most is leaving, what is copied of it is, and each copy is held where it lies.
pub record CanResume (ckpt : CkptPart) (devs : List Kept) : Type 0 where
  pub single : IsSingle devs
  pub under_way : (d : ℕ) → is_leaving (kept_of devs d).row.state ≡ true → IsUnderWay ckpt (kept_of devs d)
  pub copies : (d u : ℕ) → copy_hits (map part_in devs) d u + one_if (has_unit (kept_of devs d).uses.kept u) ≤ one_if (has_unit (kept_of devs d).uses.held u)

-- it goes on, with its copies
pub record Resumes (ckpt : CkptPart) (old new : List Kept) : Type 0 where
  pub single : IsSingle old
  pub under_way : (d : ℕ) → is_leaving (kept_of old d).row.state ≡ true → IsUnderWay ckpt (kept_of old d)
  pub count : length new ≡ length old
  pub same : (d : ℕ) → IsSameBesideCopies (kept_of old d) (kept_of new d)
  pub copying : (d : ℕ) → IsCopying (kept_of new d).uses
  pub maximal : (d : ℕ) → IsMaximal (kept_of new d).uses.copies
  pub hits : (d u : ℕ) → copy_hits (map part_in old) d u ≡ one_if (has_unit (kept_of new d).uses.copies u)

-- what is condensed, if anything is, is the mapping of a device that is gone, and has come so far
abbrev pub CanCondense : Option CondPart → List Kept → Type 0
CanCondense cond devs = (c : CondPart) → cond ≡ Some c → IsCondensing c (kept_of devs c.dev)
