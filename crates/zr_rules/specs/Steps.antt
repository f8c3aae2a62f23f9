-- What the steps of a removal, of a checkpoint, of a condensing and of a commit do to the space.
use Rattle.std.specs.Prelude.{◌≡◌, ◌≢◌, ℕ, zero, suc, ◌+◌, ◌-◌, ◌/◌, ◌<◌, ◌≤◌, ◌==◌, Bool, true, false, ◌&&◌, nat_lt, min, max, List, [], ◌∷◌, ◌++◌, length, map, take, drop, filter, sum_by, count_by, replicate, if◌then◌else◌, Option, Some, None, MatchBool}
use Rattle.std.specs.List.{list_any, flat_map, enumerate_from}
use Rattle.zr_base.specs.declared.space.Extent.{Extent}
use Rattle.zr_base.specs.declared.space.Dva.{Dva}
use Rattle.zr_base.specs.declared.space.Entry.{Entry}
use Rattle.zr_base.specs.declared.space.DevPart.{DevPart}
use Rattle.zr_base.specs.declared.space.CondPart.{CondPart}
use Rattle.zr_base.specs.declared.space.Condensed.{Condensed}
use Rattle.zr_base.specs.declared.space.Condensed.TheVariants as condensed_as
use Rattle.zr_base.specs.declared.space.DevState.TheVariants as row
use Rattle.zr_base.specs.declared.space.CkptPart.{CkptPart}
use Rattle.zr_base.specs.declared.space.CkptPart.TheVariants as ckpt
use Rattle.zr_base.specs.declared.space.Policy.{Policy}
use Rattle.zr_base.specs.Extents.{in_extent, first_part_from}
use Rattle.zr_rules.specs.Places.{is_gone, is_leaving, part_of, is_fresh, in_address}
use Rattle.zr_rules.specs.Devices.{Devices, state_at}
use Rattle.zr_rules.specs.Condense.{is_due, folded, condensed}
use Rattle.zr_rules.specs.Placement.{IsPlacement}
use Rattle.zr_rules.specs.Roles.{given_up, taken_over, discarded, aged, cleared, saved}
use Rattle.zr_rules.specs.Roles.Role.{Absent, Free, FreshCopy}
use Rattle.zr_rules.specs.Space.{Space, opened_of, nothing_opened, role_at, frontier, IsLawful}
use Rattle.zr_rules.specs.Columns.{free_of}
use Rattle.zr_rules.specs.Frees.{IsSamePart, IsSameFrame, IsSameRoot, MarksNothing}

-- the part of the n units at u that the entry has, where it went
abbrev pub moved_part : ℕ → ℕ → Entry → Dva
moved_part u n e =
    let from = max u e.src in
    let to = min (u + n) (e.src + e.len) in
    record { dev = e.dev; start = e.dst + (from - e.src); len = to - from }

abbrev pub meets : ℕ → ℕ → Entry → Bool
meets u n e = nat_lt u (e.src + e.len) && nat_lt e.src (u + n)

-- How many pieces a free of an extent touches: each part of a removed device on the way, each part that is there, and each piece of a copy.
abbrev pub pieces : ℕ → Devices → ℕ → ℕ → ℕ → ℕ
pieces zero ds d u n = 1
pieces (suc hops) ds d u n =
    if is_gone (state_at ds d)
    then 1 + sum_by (λ (m : Dva). pieces hops ds m.dev m.start m.len) (map (moved_part u n) (filter (meets u n) (ds.entries d)))
    else (if is_leaving (state_at ds d) then 1 + count_by (meets u n) (ds.entries d) else 1)

abbrev pub touch : Devices → Dva → ℕ
touch ds a = pieces ds.count ds a.dev a.start a.len

-- all but one device, the checkpoint, the condensing and the version are the same
pub record IsSameElsewhere (old new : Space) (d : ℕ) : Type 0 where
  pub version : new.parts.version ≡ old.parts.version
  pub cond : new.parts.cond ≡ old.parts.cond
  pub ckpt : new.parts.ckpt ≡ old.parts.ckpt
  pub meta : new.meta ≡ old.meta
  pub saved_meta : new.saved_meta ≡ old.saved_meta
  pub devices : length new.parts.devs ≡ length old.parts.devs
  pub others : (other : ℕ) → other ≢ d → IsSamePart (part_of old.parts.devs other) (part_of new.parts.devs other)
  pub fresh : (other u : ℕ) → other ≢ d → is_fresh new.parts.devs other u ≡ is_fresh old.parts.devs other u
  pub lawful : IsLawful old → IsLawful new

-- a removal begins: nothing is copied yet, and the units stay what they are
pub record Leaves (old new : Space) (d : ℕ) : Type 0 where
  pub row_is : (part_of new.parts.devs d).row ≡ record (part_of old.parts.devs d).row { state = row.Leaving }
  pub entries : (part_of new.parts.devs d).entries ≡ []
  pub counts : (part_of new.parts.devs d).counts ≡ []
  pub fresh : (part_of new.parts.devs d).fresh ≡ []
  pub synced : new.synced ≡ 0
  pub roles : (e u : ℕ) → role_at new e u ≡ role_at old e u
  pub elsewhere : IsSameElsewhere old new d

abbrev pub half : ℕ → ℕ → ℕ
half zero n = n
half (suc k) n = half k n / 2

-- n is the first of a number and its halves for which there is a place
pub record IsFirstHalf (s : Space) (policy : Policy) (most n : ℕ) (at : Dva) : Type 0 where
  pub k : ℕ
  pub half_is : n ≡ half k most
  pub some : 1 ≤ n
  pub place : IsPlacement (free_of s) policy n at
  pub none : (j : ℕ) → j < k → (other : Dva) → ¬ IsPlacement (free_of s) policy (half j most) other

-- the front of the lowest extent that is to be copied yet gets a place, and an entry says so
pub record Copies (policy : Policy) (old new : Space) (d n : ℕ) : Type 0 where
  pub front : Extent
  pub lowest : first_part_from (frontier old d) (part_of old.parts.devs d).held ≡ Some front
  pub at : Dva
  pub first : IsFirstHalf old policy (min 256 front.len) n at
  pub row_is : (part_of new.parts.devs d).row ≡ (part_of old.parts.devs d).row
  pub entries : (part_of new.parts.devs d).entries ≡ (part_of old.parts.devs d).entries ++ record { src = front.start; dev = at.dev; dst = at.start; len = n } ∷ []
  pub counts : (part_of new.parts.devs d).counts ≡ (part_of old.parts.devs d).counts ++ 0 ∷ []
  pub fresh : (part_of new.parts.devs d).fresh ≡ (part_of old.parts.devs d).fresh
  pub synced : new.synced ≡ old.synced
  pub roles : (e u : ℕ) → role_at new e u ≡ (if in_address at e u then FreshCopy else role_at old e u)
  pub elsewhere : IsSameElsewhere old new d

-- a removal is given up: the copies are freed, the mapping is gone and the device is in service again
pub record Cancels (old new : Space) (d : ℕ) : Type 0 where
  pub row_is : (part_of new.parts.devs d).row ≡ record (part_of old.parts.devs d).row { state = row.On }
  pub entries : (part_of new.parts.devs d).entries ≡ []
  pub counts : (part_of new.parts.devs d).counts ≡ []
  pub fresh : (part_of new.parts.devs d).fresh ≡ []
  pub roles : (e u : ℕ) → role_at new e u ≡ given_up (role_at old e u)
  pub elsewhere : IsSameElsewhere old new d

-- a device is gone: its entries are the mapping, with counts 0, its marks are the fresh obsolete set, and its units are no more
pub record Finishes (old new : Space) (d txg : ℕ) : Type 0 where
  pub row_is : (part_of new.parts.devs d).row ≡ record (part_of old.parts.devs d).row { state = row.Gone; gone = txg }
  pub entries : (part_of new.parts.devs d).entries ≡ (part_of old.parts.devs d).entries
  pub counts : (part_of new.parts.devs d).counts ≡ replicate (length (part_of old.parts.devs d).entries) 0
  pub fresh : (part_of new.parts.devs d).fresh ≡ (part_of old.parts.devs d).fresh
  pub roles : (e u : ℕ) → role_at new e u ≡ (if e == d then Absent else taken_over (role_at old e u))
  pub elsewhere : IsSameElsewhere old new d

-- one device more, of which all is free
pub record AddsDevice (old new : Space) (units txg : ℕ) : Type 0 where
  pub devs : new.parts.devs ≡ old.parts.devs ++ record { row = record { state = row.On; added = txg; units = units; gone = 0 }; held = []; kept = []; entries = []; counts = []; fresh = []; late1 = []; late2 = [] } ∷ []
  pub roles : (d u : ℕ) → role_at new d u ≡ (if (d == length old.parts.devs) && nat_lt u units then Free else role_at old d u)
  pub version : new.parts.version ≡ old.parts.version
  pub cond : new.parts.cond ≡ old.parts.cond
  pub ckpt : new.parts.ckpt ≡ old.parts.ckpt
  pub synced : new.synced ≡ old.synced
  pub meta : new.meta ≡ old.meta
  pub saved_meta : new.saved_meta ≡ old.saved_meta
  pub lawful : IsLawful old → IsLawful new

-- all kept extents, those of the lowest device first
abbrev pub kept_extents : Space → List (ℕ × Extent)
kept_extents s = flat_map (λ (p : ℕ × DevPart). map (λ e. (p.0, e)) p.1.kept) (enumerate_from 0 s.parts.devs)

abbrev pub is_among : List (ℕ × Extent) → ℕ → ℕ → Bool
is_among es d u = list_any (λ (e : ℕ × Extent). e.0 == d && in_extent e.1 u) es

-- kept extents are discarded
pub record Discards (old new : Space) (es : List (ℕ × Extent)) : Type 0 where
  pub roles : (d u : ℕ) → role_at new d u ≡ (if is_among es d u then discarded (role_at old d u) else role_at old d u)
  pub fresh : MarksNothing old new
  pub meta : new.meta ≡ old.meta
  pub frame : IsSameFrame old new

abbrev pub with_ckpt : Space → CkptPart → Space
with_ckpt s c = record s { parts = record s.parts { ckpt = c } }

-- the lowest 64 kept extents are discarded, so many units, and where there is none the discarding ends
abbrev pub DiscardsSome : Space → ℕ → Space → Type 0
DiscardsSome old units new =
    let es = take 64 (kept_extents old) in
    (units ≡ sum_by (λ (e : ℕ × Extent). e.1.len) es) × MatchBool (length es == 0) (new ≡ with_ckpt old ckpt.Clear) (Discards old new es)

-- A commit ends the group. Its entries are synced, and what the group two before it freed is free, at a reset all that was freed.
pub record Commits (reset : Bool) (old new : Space) : Type 0 where
  pub roles : (d u : ℕ) → role_at new d u ≡ (if reset then cleared (role_at old d u) else aged (role_at old d u))
  pub opened : (d : ℕ) → opened_of new d ≡ nothing_opened
  pub fresh : MarksNothing old new
  pub rows : (d : ℕ) → (part_of new.parts.devs d).row ≡ (part_of old.parts.devs d).row
  pub entries : (d : ℕ) → (part_of new.parts.devs d).entries ≡ (part_of old.parts.devs d).entries
  pub counts : (d : ℕ) → (part_of new.parts.devs d).counts ≡ (part_of old.parts.devs d).counts
  pub devices : length new.parts.devs ≡ length old.parts.devs
  pub version : new.parts.version ≡ old.parts.version
  pub cond : new.parts.cond ≡ old.parts.cond
  pub ckpt : new.parts.ckpt ≡ old.parts.ckpt
  pub synced : (d : ℕ) → is_leaving (part_of old.parts.devs d).row.state ≡ true → new.synced ≡ frontier old d
  pub lawful : IsLawful old → IsLawful new

-- A checkpoint is held from here on: the metadata of the current root is the saved root's.
pub record HoldsCheckpoint (old new : Space) (txg : ℕ) : Type 0 where
  pub roles : (d u : ℕ) → role_at new d u ≡ saved (role_at old d u)
  pub fresh : MarksNothing old new
  pub ckpt_is : new.parts.ckpt ≡ ckpt.Held txg
  pub meta : new.meta ≡ []
  pub saved_meta : new.saved_meta ≡ old.meta
  pub version : new.parts.version ≡ old.parts.version
  pub cond : new.parts.cond ≡ old.parts.cond
  pub synced : new.synced ≡ old.synced
  pub devices : length new.parts.devs ≡ length old.parts.devs
  pub each : (d : ℕ) → IsSamePart (part_of old.parts.devs d) (part_of new.parts.devs d)
  pub root : IsSameRoot old new
  pub lawful : IsLawful old → IsLawful new

abbrev pub with_cond : Space → Option CondPart → Space
with_cond s c = record s { parts = record s.parts { cond = c } }

-- the mapping of one removed device, with its counts and its fresh obsolete set, is another
pub record Remaps (old new : Space) (d : ℕ) (entries : List Entry) (counts : List ℕ) (fresh : List Extent) (cond : Option CondPart) : Type 0 where
  pub row_is : (part_of new.parts.devs d).row ≡ (part_of old.parts.devs d).row
  pub entries_are : (part_of new.parts.devs d).entries ≡ entries
  pub counts_are : (part_of new.parts.devs d).counts ≡ counts
  pub fresh_is : (part_of new.parts.devs d).fresh ≡ fresh
  pub cond_is : new.parts.cond ≡ cond
  pub roles : (e u : ℕ) → role_at new e u ≡ role_at old e u
  pub elsewhere : IsSameElsewhere (with_cond old cond) new d

-- the lowest removed device whose mapping is due
abbrev pub due_from : ℕ → List DevPart → Option ℕ
due_from d [] = None
due_from d (p ∷ parts) = if is_gone p.row.state && is_due p then Some d else due_from (d + 1) parts

abbrev pub due_device : Space → Option ℕ
due_device s = due_from 0 s.parts.devs

-- a condensing has begun, or is due
abbrev pub has_condensing : Space → Bool
has_condensing s = work_of s.parts.cond (due_device s)
  where
    work_of : Option CondPart → Option ℕ → Bool
    work_of None None = false
    work_of _ _ = true

-- of the entries that are worked through next, those that stay, with their counts
abbrev pub next_kept : List Entry → List ℕ → CondPart → List (Entry × ℕ)
next_kept entries counts c = condensed (take 64 (drop c.at entries)) (take 64 (drop c.at counts))

-- how far the condensing comes with them
abbrev pub worked : List Entry → List ℕ → CondPart → CondPart
worked entries counts c =
    record {
      dev = c.dev;
      at = min (c.at + 64) (length entries);
      entries = c.entries ++ map (λ (e : Entry × ℕ). e.0) (next_kept entries counts c);
      counts = c.counts ++ map (λ (e : Entry × ℕ). e.1) (next_kept entries counts c);
    }

-- 64 entries are worked through, and at the end the new mapping takes the place of the old one
abbrev pub Condenses : Space → List ℕ → List Extent → CondPart → Condensed → Space → Type 0
Condenses old counts fresh c outcome new =
    let entries = (part_of old.parts.devs c.dev).entries in
    let w = worked entries counts c in
    MatchBool (w.at == length entries)
    ((outcome ≡ condensed_as.Done) × Remaps old new c.dev w.entries w.counts fresh None)
    ((outcome ≡ condensed_as.Kept (length (next_kept entries counts c))) × Remaps old new c.dev entries counts fresh (Some w))

-- A step of condensing: one that goes on, one that begins and first folds the fresh obsolete set into the counts, or none.
abbrev pub CondensesFrom : Option CondPart → Option ℕ → Space → Condensed → Space → Type 0
CondensesFrom (Some c) due old outcome new = Condenses old (part_of old.parts.devs c.dev).counts (part_of old.parts.devs c.dev).fresh c outcome new
CondensesFrom None (Some d) old outcome new =
    Condenses old (folded (part_of old.parts.devs d).entries (part_of old.parts.devs d).counts (part_of old.parts.devs d).fresh) []
    (record { dev = d; at = 0; entries = []; counts = [] }) outcome new
CondensesFrom None None old outcome new = (outcome ≡ condensed_as.Nothing) × (new ≡ old)

abbrev pub CondensesSome : Space → Condensed → Space → Type 0
CondensesSome old outcome new = CondensesFrom old.parts.cond (due_device old) old outcome new
