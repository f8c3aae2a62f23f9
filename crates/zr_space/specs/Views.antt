-- How what is kept of each device stands for the space of a pool.
use Rattle.std.specs.Prelude.{◌≡◌, ℕ, ◌+◌, ◌≤◌, ◌<◌, ◌^◌, Bool, not, ◌&&◌, nat_le, nat_lt, List, [], ◌∷◌, ◌++◌, map, length, slice_index_or, sum_by, if◌then◌else◌, Some, true, false, All}
use Rattle.zr_base.specs.declared.space.Extent.{Extent}
use Rattle.zr_base.specs.declared.space.Dva.{Dva}
use Rattle.zr_base.specs.declared.space.Entry.{Entry}
use Rattle.zr_base.specs.declared.space.CondPart.{CondPart}
use Rattle.zr_base.specs.declared.space.DevRow.{DevRow}
use Rattle.zr_base.specs.declared.space.DevPart.{DevPart}
use Rattle.zr_base.specs.declared.space.LateRun.{LateRun}
use Rattle.zr_base.specs.declared.space.CkptPart.TheVariants.{Clear}
use Rattle.zr_base.specs.declared.space.DevState.TheVariants as row
use Rattle.zr_base.specs.declared.space.DevState.TheVariants.{On}
use Rattle.zr_base.specs.Extents.{has_unit}
use Rattle.zr_rules.specs.Roles.{Role}
use Rattle.zr_rules.specs.Roles.Role.{Absent, Free, FreshLive, Live, FreshCopy, Copy, Kept as KeptRole, DeferredBlock, DeferredMeta, Late1Block, Late1Meta, Late2Block, Late2Meta, Meta, SavedMeta}
use Rattle.zr_rules.specs.Places.{one_if, is_on, is_leaving, is_gone}
use Rattle.zr_rules.specs.Devices.{devices_of}
use Rattle.zr_rules.specs.Condense.{IsWorked}
use Rattle.zr_rules.specs.Mappings.{has_source}
use Rattle.zr_rules.specs.Resolve.{IsRanked}
use Rattle.zr_rules.specs.Space.{Space, OpenSets, IsSet, copy_hits}
use Rattle.zr_indirect.specs.Mapped.{Mapped, IsLeaving, IsGone, in_service}
use Rattle.zr_metaslab.specs.Devices.{Devices, free_at, count_at, units_at, serves_at}
use Rattle.zr_units.specs.Uses.{Uses, Freed, unused, IsAccount}
use Rattle.zr_units.specs.Changes.{aged_uses, cleared_uses, saved_uses}
use Rattle.zr_space.specs.declared.whole.Whole.{Whole}

-- a device: its row, what its units are used for, and what it has beside them while it is given up
pub record Kept : Type 0 where
  pub row : DevRow
  pub uses : Uses
  pub moves : Mapped

-- a device that was never there
abbrev pub nothing_kept : Kept
nothing_kept = record { row = record { state = On; added = 0; units = 0; gone = 0 }; uses = unused 0; moves = in_service }

abbrev pub kept_of : List Kept → ℕ → Kept
kept_of devs d = slice_index_or devs d nothing_kept

-- a late set, blocks first
abbrev pub late_runs : Freed → List LateRun
late_runs f = map (λ (e : Extent). record { at = e; meta = false }) f.blocks ++ map (λ (e : Extent). record { at = e; meta = true }) f.meta

-- what a root records of the device
abbrev pub part_in : Kept → DevPart
part_in k = record { row = k.row; held = k.uses.held; kept = k.uses.kept; entries = k.moves.entries; counts = k.moves.counts; fresh = k.moves.fresh; late1 = late_runs k.uses.late1; late2 = late_runs k.uses.late2 }

-- what the open group did on it
abbrev pub opened_in : Kept → OpenSets
opened_in k = record { born = k.uses.born; deferred = k.uses.freed.blocks; dropped = k.uses.freed.meta; kept = record { came = k.uses.came; went = k.uses.went }; fresh = record { came = k.moves.came; went = k.moves.went } }

abbrev pub addresses : ℕ → List Extent → List Dva
addresses d es = map (λ (e : Extent). record { dev = d; start = e.start; len = e.len }) es

-- the metadata units of the devices from this one on
abbrev pub meta_from : ℕ → List Kept → List Dva
meta_from d [] = []
meta_from d (k ∷ ks) = addresses d k.uses.meta ++ meta_from (d + 1) ks

abbrev pub saved_from : ℕ → List Kept → List Dva
saved_from d [] = []
saved_from d (k ∷ ks) = addresses d k.uses.saved ++ saved_from (d + 1) ks

-- the end of the last committed entry of the device that is leaving: the others have 0
abbrev pub synced_in : List Kept → ℕ
synced_in devs = sum_by (λ (k : Kept). k.moves.synced) devs

-- the space of a pool of these devices
abbrev pub space_of : Whole → List Kept → Space
space_of whole devs =
    record {
      parts = record { version = whole.version; devs = map part_in devs; cond = whole.cond; ckpt = whole.ckpt };
      opened = map opened_in devs;
      synced = synced_in devs;
      meta = meta_from 0 devs;
      saved_meta = saved_from 0 devs;
    }

-- what a unit of a device is
abbrev pub role_in : Uses → ℕ → Role
role_in x u =
    if not (nat_lt u x.units) then Absent
    else (if has_unit x.held u then (if has_unit x.kept u then KeptRole else (if has_unit x.copies u then (if has_unit x.born u then FreshCopy else Copy) else (if has_unit x.born u then FreshLive else Live)))
    else (if has_unit x.freed.blocks u then DeferredBlock
    else (if has_unit x.freed.meta u then DeferredMeta
    else (if has_unit x.late1.blocks u then Late1Block
    else (if has_unit x.late1.meta u then Late1Meta
    else (if has_unit x.late2.blocks u then Late2Block
    else (if has_unit x.late2.meta u then Late2Meta
    else (if has_unit x.meta u then Meta
    else (if has_unit x.saved u then SavedMeta
    else Free)))))))))

-- all is the same but for the changes that take no memory
abbrev pub IsSameMoves : Mapped → Mapped → Type 0
IsSameMoves old new = new ≡ record old { spare = new.spare }

-- the source of the entry lies within so many units
abbrev pub EndsWithin : ℕ → Entry → Type 0
EndsWithin units e = e.src + e.len ≤ units

-- What a device has beside its units is of its state, and its marks and the sources of its mapping lie within it.
pub record IsMoved (r : DevRow) (m : Mapped) : Type 0 where
  pub state : m.state ≡ r.state
  pub service : r.state ≡ row.On → IsSameMoves in_service m
  pub leaving : r.state ≡ row.Leaving → IsLeaving m
  pub gone : r.state ≡ row.Gone → IsGone m
  pub fresh : IsSet r.units m.fresh
  pub came : IsSet r.units m.came
  pub went : IsSet r.units m.went
  pub sources : All (EndsWithin r.units) m.entries

-- a device has the units of its row, and none once it is gone
abbrev pub units_there : DevRow → ℕ
units_there r = if is_gone r.state then 0 else r.units

-- Of a device that is leaving there is left to copy what it holds from the open frontier on. What it holds below that has an entry each, and is not marked. Meanwhile no
-- checkpoint is held, nothing of the device is kept, and no copies lie on it.
pub record IsTied (whole : Whole) (k : Kept) : Type 0 where
  pub left : (u : ℕ) → has_unit k.moves.left u ≡ (has_unit k.uses.held u && nat_le k.moves.opened u)
  pub copied : (u : ℕ) → has_unit k.uses.held u ≡ true → u < k.moves.opened → (has_source k.moves.entries u ≡ true) × (has_unit k.moves.fresh u ≡ false)
  pub quiet : whole.ckpt ≡ Clear
  pub unkept : (u : ℕ) → has_unit k.uses.kept u ≡ false
  pub uncopied : (u : ℕ) → has_unit k.uses.copies u ≡ false

-- The mapping of the device is being condensed: it is gone, and of the entries worked through those with a unit in use are kept.
pub record IsCondensing (c : CondPart) (k : Kept) : Type 0 where
  pub gone : k.row.state ≡ row.Gone
  pub worked : IsWorked (part_in k) c

-- The units of each device add up with what the allocator has, one device at most is leaving, and the copies are its. Each mapping leads to devices that are there or went later.
pub record IsSpace (whole : Whole) (slabs : Devices) (devs : List Kept) : Type 0 where
  pub devices : length slabs ≡ length devs
  pub few : length devs ≤ 32
  pub units : (d : ℕ) → units_at slabs d ≡ (kept_of devs d).uses.units
  pub rows : (d : ℕ) → (kept_of devs d).uses.units ≡ units_there (kept_of devs d).row
  pub small : (d : ℕ) → (kept_of devs d).row.units < 2 ^ 40
  pub moved : (d : ℕ) → IsMoved (kept_of devs d).row (kept_of devs d).moves
  pub serves : (d : ℕ) → serves_at slabs d ≡ (nat_lt d (length devs) && is_on (kept_of devs d).row.state)
  pub account : (d : ℕ) → IsAccount (free_at slabs d) (count_at slabs d) (kept_of devs d).uses
  pub copies : (d u : ℕ) → copy_hits (map part_in devs) d u ≡ one_if (has_unit (kept_of devs d).uses.copies u)
  pub single : (d e : ℕ) → is_leaving (kept_of devs d).row.state ≡ true → is_leaving (kept_of devs e).row.state ≡ true → d ≡ e
  pub ranked : IsRanked (devices_of (map part_in devs))
  pub tied : (d : ℕ) → is_leaving (kept_of devs d).row.state ≡ true → IsTied whole (kept_of devs d)
  pub condensing : (c : CondPart) → whole.cond ≡ Some c → IsCondensing c (kept_of devs c.dev)

-- the device once a commit, or a reset, has settled what the open group did
abbrev pub settled : Bool → Kept → Kept
settled reset k = record k { uses = if reset then cleared_uses k.uses else aged_uses k.uses; moves = record k.moves { came = []; went = []; synced = k.moves.opened } }

-- the device once the metadata of the current root is the saved root's
abbrev pub with_saved : Kept → Kept
with_saved k = record k { uses = saved_uses k.uses }

-- the two devices are the same, but for the changes that take no memory
abbrev pub IsSameKept : Kept → Kept → Type 0
IsSameKept old new = new ≡ record old { uses = record old.uses { spare = new.uses.spare }; moves = record old.moves { spare = new.moves.spare } }

-- each device is what it was turned into
pub record AreTurned (turn : Kept → Kept) (old new : List Kept) : Type 0 where
  pub count : length new ≡ length old
  pub each : (d : ℕ) → IsSameKept (turn (kept_of old d)) (kept_of new d)

-- a device in service with these units
abbrev pub serving : DevRow → Uses → Kept
serving r x = record { row = r; uses = x; moves = in_service }

-- a device in service of which no unit is used
abbrev pub fresh_device : ℕ → ℕ → ℕ → Kept
fresh_device units txg spare = record { row = record { state = On; added = txg; units = units; gone = 0 }; uses = record (unused units) { spare = spare }; moves = in_service }
