-- Streams of one device that are given back: which they are, and how far it has come with them.
use Rattle.std.specs.Prelude.{◌≡◌, ◌≢◌, ℕ, ◌&&◌, Bool, true, false, nat_eq, [], if◌then◌else◌}
use Rattle.zr_rules.specs.Places.{is_leaving, part_of, state_of_dev}
use Rattle.zr_rules.specs.Roles.{is_meta_role}
use Rattle.zr_rules.specs.Space.{Space, role_at, was_fresh, was_held, was_kept}
use Rattle.zr_sync.specs.Trees.{Place, Stage}
use Rattle.zr_sync.specs.Trees.Place.{OfLog, OfMapping, FirstLate, SecondLate}
use Rattle.zr_sync.specs.Trees.Stage.{Had, Untold}
use Rattle.zr_sync.specs.declared.words.Log.TheVariants.{Fresh, Held, Kept}

-- the streams of a device's mapping: its entries, their counts, and the log of its obsolete units
abbrev pub is_of_mapping : Place → Bool
is_of_mapping (OfMapping which) = true
is_of_mapping (OfLog Fresh) = true
is_of_mapping _ = false

-- those of its sets: the logs of its held and of its kept units, and its late sets
abbrev pub is_of_sets : Place → Bool
is_of_sets (OfLog Held) = true
is_of_sets (OfLog Kept) = true
is_of_sets FirstLate = true
is_of_sets SecondLate = true
is_of_sets _ = false

-- nothing is told of the words in these streams of a device but that its mapping can be spelled, and each other stream has what the last root has
abbrev pub freeing : (Place → Bool) → ℕ → ℕ → Place → Stage
freeing goes dev e place = if nat_eq e dev && goes place then Untold else Had

-- ---- a device that comes back

-- The device has no mapping, and nothing obsolete, nor has the last root.
pub record HasNoMapping (s : Space) (dev : ℕ) : Type 0 where
  pub entries : (part_of s.parts.devs dev).entries ≡ []
  pub counts : (part_of s.parts.devs dev).counts ≡ []
  pub fresh : (u : ℕ) → was_fresh s dev u ≡ false

-- The last root has as held and as kept what it had, and as obsolete what it had of all devices but one, of which it has nothing.
pub record ForgetsFresh (old new : Space) (dev : ℕ) : Type 0 where
  pub held : (d u : ℕ) → was_held new d u ≡ was_held old d u
  pub kept : (d u : ℕ) → was_kept new d u ≡ was_kept old d u
  pub others : (d u : ℕ) → d ≢ dev → was_fresh new d u ≡ was_fresh old d u
  pub none : (u : ℕ) → was_fresh new dev u ≡ false

-- ---- a device that goes

-- no metadata lies on a device that is leaving, and none is kept of a root that is saved
pub record IsClearOfMeta (s : Space) : Type 0 where
  pub leaving : (d u : ℕ) → is_leaving (state_of_dev s.parts.devs d) ≡ true → is_meta_role (role_at s d u) ≡ false
  pub saved : s.saved_meta ≡ []

-- The last root has of the device nothing as held or kept.
pub record HasNoSets (s : Space) (dev : ℕ) : Type 0 where
  pub held : (u : ℕ) → was_held s dev u ≡ false
  pub kept : (u : ℕ) → was_kept s dev u ≡ false

-- The last root has as held and as kept what it had of all devices but one, of which it has nothing, and as obsolete what it had. The counts of that device stay.
pub record ForgetsSets (old new : Space) (dev : ℕ) : Type 0 where
  pub held : (d u : ℕ) → d ≢ dev → was_held new d u ≡ was_held old d u
  pub kept : (d u : ℕ) → d ≢ dev → was_kept new d u ≡ was_kept old d u
  pub fresh : (d u : ℕ) → was_fresh new d u ≡ was_fresh old d u
  pub none : HasNoSets new dev
  pub counts : (part_of new.parts.devs dev).counts ≡ (part_of old.parts.devs dev).counts
