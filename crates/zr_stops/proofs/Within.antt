-- What the lines of a group do to how the disks stand.
use Rattle.std.proofs.Common.{◌≡◌, ℕ, ◌<◌, true, List, [], length, Option, refl, sym, ◌∙◌, ap, subst}
use Rattle.std.specs.List.{AllByRecursion}
use Rattle.std.specs.Prelude.{slice_index_or}
use Rattle.zr_image.specs.Honest.{IsLeft, IsMark}
use Rattle.zr_label.specs.Blocks.{no_row}
use Rattle.zr_label.specs.Geometry.{label_block_at, ring_slot_at}
use Rattle.zr_label.specs.declared.root.Uber.{Uber}
use Rattle.zr_model.specs.Objects.{Objects}
use Rattle.zr_rules.specs.Space.{role_at}
use Rattle.zr_shelf.proofs.Doings.{added_throughout}
use Rattle.zr_shelf.specs.Disks.{IsSameOutside, PendingWrite, Stand, disk}
use Rattle.zr_shelf.specs.Doings.{Adds}
use Rattle.zr_shelf.specs.Doings.Adds.{added_none, added}
use Rattle.zr_shelf.specs.Moments.{World}
use Rattle.zr_shelf.specs.Publish.{IsHonestBlock}
use Rattle.zr_sync.specs.Writes.{WritesIntoFree}
use Rattle.zr_sync.specs.declared.open.OpenPool.{OpenPool}
use Rattle.zr_sync.specs.declared.open.Table.{Table}
use Rattle.zr_vdev.proofs.Follows.{widen}
use Rattle.zr_vdev.specs.Stores.{IsWriteInto, is_open_role}
use Rattle.zr_vdev.specs.declared.kind.Kind.TheVariants.{Block}
use Rattle.zr_last.proofs.Lasting.{same_devices}
use Rattle.zr_last.specs.Last.{KeepsDevices}
use Rattle.zr_newest.specs.Newest.{IsOneDevice}
use Rattle.zr_stops.specs.Behind.{AreSameDisks, StandsChanged, StandsInGroup, StandsBehind}
use Rattle.zr_stops.specs.Groups.{IsInGroup}
use Rattle.zr_stops.specs.Last.{IsCommitted}

-- what stands behind a commit begins a group
pub begins_within : (sizes : List ℕ) (u : Uber) (pool : OpenPool) (objects : Objects) (now : Stand) → IsCommitted sizes now u pool objects → StandsInGroup pool now pool now
begins_within sizes u pool objects now was = record {
  table = refl;
  last = refl;
  guid = refl;
  open_units = λ d u is. is;
  durable = sym was.rest.seen;
  writes = subst (AllByRecursion (IsWriteInto Block pool.table.slots pool.space)) (sym was.rest.writes) tt;
  seen = record { sizes = refl; bytes = λ slot at n clear. refl };
}

module _ (first : OpenPool) (begin : Stand) where
  abbrev May : PendingWrite → Type 0
  May = IsWriteInto Block first.table.slots first.space

  -- the disks stand so
  pub record IsThere (now : Stand) : Type 0 where
    pub durable : now.durable ≡ begin.seen
    pub writes : AllByRecursion May now.writes
    pub seen : IsSameOutside now.writes begin.seen now.seen

  there_step : (a b : Stand) → Adds May a b → IsThere a → IsThere b
  there_step a b (added_none is) h = subst IsThere (sym is) h
  there_step a b (added w may written) h = record {
    durable = written.durable ∙ h.durable;
    writes = subst (AllByRecursion May) (sym written.writes) (may, h.writes);
    seen =
        subst (λ (ws : List PendingWrite). IsSameOutside ws begin.seen b.seen) (sym written.writes)
        (record { sizes = written.seen.sizes ∙ h.seen.sizes; bytes = λ slot at n clear. written.seen.bytes slot at n (clear.0, tt) ∙ h.seen.bytes slot at n clear.1 });
  }

  module _ (old : OpenPool) (before now : World) (group : StandsChanged first begin old before.now) where
    into_first : (w : PendingWrite) → IsWriteInto Block old.table.slots old.space w → May w
    into_first w h =
        subst (λ (t : List (Option ℕ)). IsWriteInto Block t first.space w) group.devices.slots (record { at = h.at; is = h.is; some = h.some; open_units = λ u inside. group.open_units h.at.dev u (h.open_units u inside) })

    -- what is written into free units lies in units that were free when the group began
    pub within_writes : WritesIntoFree old before now → WritesIntoFree first before now
    within_writes wrote = widen (IsWriteInto Block old.table.slots old.space) May into_first before now wrote

  -- a pool of the group has its devices where they were
  pub in_group : (pool : OpenPool) (now : Stand) → StandsInGroup first begin pool now → StandsChanged first begin pool now
  in_group pool now h = record {
    devices = same_devices first pool (record { last = h.last; guid = h.guid; table = h.table });
    open_units = h.open_units;
    durable = h.durable;
    writes = h.writes;
    seen = h.seen;
  }

  -- and so has what a line makes of it
  pub group_changed : (pool changed : OpenPool) (now : Stand) → StandsInGroup first begin pool now → KeepsDevices pool changed → ((d u : ℕ) → is_open_role (role_at changed.space d u) ≡ true → is_open_role (role_at pool.space d u) ≡ true) → StandsChanged first begin changed now
  group_changed pool changed now h keeps opens = record {
    devices = record {
      last = keeps.last ∙ h.last;
      guid = keeps.guid ∙ h.guid;
      count = keeps.count ∙ ap (λ (t : Table). t.count) h.table;
      slots = keeps.slots ∙ ap (λ (t : Table). t.slots) h.table;
      rows = λ d. subst (λ (t : Table). IsOneDevice (slice_index_or t.rows d no_row) (slice_index_or changed.table.rows d no_row)) h.table (keeps.rows d);
    };
    open_units = λ d u is. h.open_units d u (opens d u is);
    durable = h.durable;
    writes = h.writes;
    seen = h.seen;
  }

  module _ (old new : OpenPool) (before now : World) (group : StandsInGroup first begin old before.now) where
    pub line_within : WritesIntoFree old before now → ((d u : ℕ) → is_open_role (role_at new.space d u) ≡ true → is_open_role (role_at old.space d u) ≡ true) → new.table ≡ old.table → new.last ≡ old.last → new.guid ≡ old.guid → StandsInGroup first begin new now.now
    line_within wrote opens table last guid =
        let there = (added_throughout IsThere May there_step before now (within_writes old before now (in_group old before.now group) wrote) (record { durable = group.durable; writes = group.writes; seen = group.seen })).1 in
        record {
          table = table ∙ group.table;
          last = last ∙ group.last;
          guid = guid ∙ group.guid;
          open_units = λ d u is. group.open_units d u (opens d u is);
          durable = there.durable;
          writes = there.writes;
          seen = there.seen;
        }

-- what was done since a group began leaves the disks so
pub group_within : (sizes : List ℕ) (u : Uber) (first : OpenPool) (objects : Objects) (begin : World) (pool : OpenPool) (now : World) → IsCommitted sizes begin.now u first objects → IsInGroup first begin pool now → StandsInGroup first begin.now pool now.now
group_within sizes u first objects begin pool now was group =
    let start = begins_within sizes u first objects begin.now was in
    let there = (added_throughout (IsThere first begin.now) (May first begin.now) (there_step first begin.now) begin now group.written (record { durable = start.durable; writes = start.writes; seen = start.seen })).1 in
    record { table = group.table; last = group.last; guid = group.guid; open_units = group.open_units; durable = there.durable; writes = there.writes; seen = there.seen }

-- nothing but the disks matters
pub same_within : (first : OpenPool) (begin : Stand) (pool : OpenPool) (a b : Stand) → AreSameDisks a b → StandsInGroup first begin pool a → StandsInGroup first begin pool b
same_within first begin pool a b same within = record {
  table = within.table;
  last = within.last;
  guid = within.guid;
  open_units = within.open_units;
  durable = same.durable ∙ within.durable;
  writes = subst (AllByRecursion (IsWriteInto Block first.table.slots first.space)) (sym same.writes) within.writes;
  seen = subst (λ (ws : List PendingWrite). IsSameOutside ws begin.seen b.seen) (sym same.writes) (subst (λ (s : List (List ℕ)). IsSameOutside a.writes begin.seen s) (sym same.seen) within.seen);
}

pub same_behind : (sizes : List ℕ) (objects : Objects) (pool : OpenPool) (a b : Stand) → AreSameDisks a b → StandsBehind sizes objects pool a → StandsBehind sizes objects pool b
same_behind sizes objects pool a b same h = record {
  first = h.first;
  root = h.root;
  begin = h.begin;
  committed = h.committed;
  from = h.from;
  within = same_within h.first h.begin pool a b same h.within;
}

-- what an honest crash may leave does not hang on the input and the output
pub left_by : (a b : Stand) → AreSameDisks a b → (image : List (List ℕ)) → IsLeft b image → IsLeft a image
left_by a b same image left = record {
  leaves = subst (λ (d : List (List ℕ)). IsSameOutside a.writes d image) same.durable (subst (λ (ws : List PendingWrite). IsSameOutside ws b.durable image) same.writes left.leaves);
  honest = record { labels = λ slot n few. labels slot n few; rings = λ slot n k few low. rings slot n k few low };
}
  where
    stand_with : List (List ℕ) → List PendingWrite → Stand
    stand_with d ws = record { paths = []; makes = []; durable = d; writes = ws; seen = []; left = []; sent = [] }

    at : (d : List (List ℕ)) (ws : List PendingWrite) (slot place : ℕ) → Type 0
    at d ws slot place = IsHonestBlock IsMark (stand_with d ws) image slot place

    labels : (slot n : ℕ) → n < 4 → IsHonestBlock IsMark a image slot (label_block_at (length (disk a.durable slot)) n)
    labels slot n few = subst (λ (d : List (List ℕ)). at d a.writes slot (label_block_at (length (disk d slot)) n)) same.durable (subst (λ (ws : List PendingWrite). at b.durable ws slot (label_block_at (length (disk b.durable slot)) n)) same.writes (left.honest.labels slot n few))

    rings : (slot n k : ℕ) → n < 4 → k < 32 → IsHonestBlock IsMark a image slot (ring_slot_at (length (disk a.durable slot)) n k)
    rings slot n k few low = subst (λ (d : List (List ℕ)). at d a.writes slot (ring_slot_at (length (disk d slot)) n k)) same.durable (subst (λ (ws : List PendingWrite). at b.durable ws slot (ring_slot_at (length (disk b.durable slot)) n k)) same.writes (left.honest.rings slot n k few low))
