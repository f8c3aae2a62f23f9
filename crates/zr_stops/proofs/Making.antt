-- While a pool is made, a crash shows no pool but one without objects.
use Rattle.std.proofs.Common.{◌≡◌, ◌⊎◌, inl, inr, ℕ, zero, suc, ◌<◌, ◌≤◌, true, List, [], map, length, Option, Some, None, Ok, Result, refl, sym, ◌∙◌, ap, subst, arith, ⊎_elim}
use Rattle.std.specs.FinMap as objects
use Rattle.std.specs.Prelude.{Contains, slice_index, slice_index_or, unwrap_or}
use Rattle.std.proofs.lemmas.Bool.{ltb-true}
use Rattle.zr_chain.proofs.Ways.{and_left_of}
use Rattle.zr_base.specs.declared.space.DevRow.{DevRow}
use Rattle.zr_base.specs.declared.space.Dva.{Dva}
use Rattle.zr_create.specs.Making.{CommitsFirst, HasNoRoot, MakesBehind, PreparesFirst, PreparesInPart, PreparesOne}
use Rattle.zr_current.proofs.Committed.{goes_on, into_clear, large, sizes_kept}
use Rattle.zr_current.specs.Current.{GoesOnFrom, HasSlots}
use Rattle.zr_found.proofs.Alone.{one_meaning}
use Rattle.zr_image.specs.Current.{ShowsAll, slots_of}
use Rattle.zr_image.specs.Honest.{IsLeft}
use Rattle.zr_image.specs.Reading.{store_of}
use Rattle.zr_image.specs.StateOf.{AreObjects}
use Rattle.zr_label.specs.Blocks.{IsUber}
use Rattle.zr_label.specs.Geometry.{whole}
use Rattle.zr_label.specs.declared.root.Label.{Label}
use Rattle.zr_label.specs.declared.root.Seen.{Seen}
use Rattle.zr_label.specs.declared.root.Uber.{Uber}
use Rattle.zr_model.specs.Objects.{Objects}
use Rattle.zr_model.specs.State.{PoolState}
use Rattle.zr_newest.proofs.Found.{found}
use Rattle.zr_newest.proofs.Kept.{labels_on, root_kept}
use Rattle.zr_newest.proofs.Seen.{listed, placed_at, root_of_shown}
use Rattle.zr_newest.specs.Newest.{AreAt, HaveLabels, IsNewestOn, KeepsRings, ShowsRoot}
use Rattle.zr_open.proofs.Left.{objects_meant}
use Rattle.zr_open.specs.Shown.{Shows}
use Rattle.zr_open.specs.There.{AreThere}
use Rattle.zr_rules.specs.Equation.{devices_in}
use Rattle.zr_scan.specs.Scan.{ShowsLabel}
use Rattle.zr_scan.specs.declared.error.ScanErr.{ScanErr}
use Rattle.zr_shelf.proofs.Doings.{added_throughout}
use Rattle.zr_shelf.proofs.Runs.{joined, started, stays, weaker}
use Rattle.zr_shelf.specs.Disks.{IsAtRest, PendingWrite, Stand, disk}
use Rattle.zr_shelf.specs.Moments.{IsStill, Throughout, World}
use Rattle.zr_slots.specs.Phases.{IsPublished, IsPublishedInPart}
use Rattle.zr_slots.specs.Tables.{IsSlotInBoth}
use Rattle.zr_sync.proofs.Ending.{own_directory}
use Rattle.zr_sync.proofs.Holding.{below_labels}
use Rattle.zr_sync.proofs.Rings.{address_keeps, uber_long}
use Rattle.zr_sync.specs.Commits.{IsNextRoot, PublishesRoot}
use Rattle.zr_sync.specs.Leads.{CommitsObjects, LeadsTo}
use Rattle.zr_sync.specs.Pools.{IsOpen}
use Rattle.zr_sync.specs.Writes.{WritesIntoFree}
use Rattle.zr_sync.specs.declared.open.OpenPool.{OpenPool}
use Rattle.zr_sync.specs.declared.open.Table.{Table}
use Rattle.zr_vdev.specs.Runs.{view_of}
use Rattle.zr_vdev.specs.Stores.{IsWriteInto}
use Rattle.zr_vdev.specs.declared.kind.Kind.TheVariants.{Block}
use Rattle.zr_view.specs.Views.{address_bytes}
use Rattle.zr_stops.proofs.Aside as aside
use Rattle.zr_stops.proofs.Committing.{head_kept, objects_kept, there_same}
use Rattle.zr_moved.proofs.Objects.{shown_objects}
use Rattle.zr_stops.proofs.Images.{newest_kept, within_clear}
use Rattle.zr_stops.proofs.Preparing as preparing
use Rattle.zr_stops.proofs.Putting.{IsPutting, almost_throughout, begun_throughout, putting_throughout, torn, units_kept}
use Rattle.zr_stops.proofs.Torn.{moved, stood_or_next}
use Rattle.zr_stops.proofs.Within.{in_group}
use Rattle.zr_stops.specs.Behind.{ShowsOnly, StandsBehind}
use Rattle.zr_stops.specs.Torn.{MayHaveRoot}

-- no pool but one without objects is shown
abbrev pub ShowsEmpty : Stand → Type 0
ShowsEmpty stand = ShowsOnly objects.empty stand

-- no image that an honest crash leaves shows a root
abbrev ShowsNoRoot : Stand → Type 0
ShowsNoRoot stand = (image : List (List ℕ)) → IsLeft stand image → HasNoRoot image

none_only : (stand : Stand) → ShowsNoRoot stand → ShowsEmpty stand
none_only stand none image left paths p shows =
    let there = (found shows.seen shows.root.uber shows.current).current.shown in
    absurd (none image left there.0 shows.root.uber (root_of_shown image shows.seen shows.shown there.0 shows.root.uber there.1))

-- ---- the slots are prepared

-- nothing is pending, and no root is shown
record IsBare (sizes : List ℕ) (stand : Stand) : Type 0 where
  rest : IsAtRest stand
  sized : map length stand.seen ≡ sizes
  none : HasNoRoot stand.seen

bare_none : (sizes : List ℕ) (stand : Stand) → IsBare sizes stand → ShowsNoRoot stand
bare_none sizes stand bare image left slot v is = bare.none slot v (root_kept stand.seen image (aside.rings_still sizes stand bare.rest bare.sized (λ w. ⊥) (λ sl at clear w no. absurd no) image keeps) slot v is)
  where
    keeps : aside.KeepsClear sizes stand bare.rest bare.sized (λ w. ⊥) (λ sl at clear w no. absurd no) image
    keeps = aside.crash_clear sizes stand bare.rest bare.sized (λ w. ⊥) (λ sl at clear w no. absurd no) stand (aside.pending_start sizes stand bare.rest bare.sized (λ w. ⊥) (λ sl at clear w no. absurd no)) image left.leaves

module _ (sizes : List ℕ) (slot : ℕ) (r : Result (Unit {0}) ScanErr) (before now : World) (bare : IsBare sizes before.now) (one : PreparesOne sizes slot r before now) where
  one_through : Throughout ShowsNoRoot before now
  one_through =
      weaker (preparing.KeepsBeside sizes before.now bare.rest bare.sized slot one.label one.lawful one.used) ShowsNoRoot before now
      (λ stand keeps image left k v is. bare.none k v (preparing.root_back sizes before.now bare.rest bare.sized slot one.label one.lawful one.used image (keeps image left) k v is))
      (preparing.prepares_keeps sizes before.now bare.rest bare.sized slot one.label one.lawful one.used r before now refl one.prepares)

one_bare : (sizes : List ℕ) (slot : ℕ) (before now : World) → IsBare sizes before.now → PreparesOne sizes slot (Ok tt) before now → IsBare sizes now.now
one_bare sizes slot before now bare one =
    let done = preparing.prepared sizes before.now bare.rest bare.sized slot one.label one.lawful one.used before now refl one.prepares in
    record {
      rest = record { writes = done.writes; seen = sym done.seen };
      sized = ap (λ (d : List (List ℕ)). map length d) (sym done.seen) ∙ (done.has.beside.lengths ∙ bare.sized);
      none = λ k v is. bare.none k v (preparing.prepared_roots sizes before.now bare.rest bare.sized slot one.label one.lawful one.used before now refl one.prepares k v is);
    }

first_through : (sizes named : List ℕ) (count : ℕ) (before now : World) → IsBare sizes before.now → PreparesFirst sizes named count before now → Throughout ShowsNoRoot before now × IsBare sizes now.now
first_through sizes named zero before now bare is = (subst (Throughout ShowsNoRoot before) (sym is) (started ShowsNoRoot before), subst (λ (w : World). IsBare sizes w.now) (sym is) bare)
first_through sizes named (suc k) before now bare (mid, done, one) =
    let front = first_through sizes named k before mid bare done in
    (joined ShowsNoRoot before mid now front.0 (one_through sizes (slice_index named k) (Ok tt) mid now front.1 one), one_bare sizes (slice_index named k) mid now front.1 one)

part_through : (sizes named : List ℕ) (before now : World) → IsBare sizes before.now → PreparesInPart sizes named before now → Throughout ShowsNoRoot before now
part_through sizes named before now bare part =
    let front = first_through sizes named part.count before part.mid bare part.done in
    joined ShowsNoRoot before part.mid now front.0 (by_next front.1 part.next)
  where
    by_next : IsBare sizes part.mid.now → (now ≡ part.mid) ⊎ ((r : Result (Unit {0}) ScanErr) × PreparesOne sizes (slice_index named part.count) r part.mid now) → Throughout ShowsNoRoot part.mid now
    by_next there (inl same) = subst (Throughout ShowsNoRoot part.mid) (sym same) (started ShowsNoRoot part.mid)
    by_next there (inr (r, one)) = one_through sizes (slice_index named part.count) r part.mid now there one

-- ---- the pool is committed

module _ (sizes : List ℕ) (start : World) (bare : IsBare sizes start.now) (pool : OpenPool) (ready : IsOpen sizes pool) where
  abbrev May : PendingWrite → Type 0
  May = IsWriteInto Block pool.table.slots pool.space

  abbrev IsPending : Stand → Type 0
  IsPending = aside.IsPending sizes start.now bare.rest bare.sized May (into_clear sizes pool ready)

  abbrev KeepsClear : List (List ℕ) → Type 0
  KeepsClear = aside.KeepsClear sizes start.now bare.rest bare.sized May (into_clear sizes pool ready)

  pending_none : (stand : Stand) → IsPending stand → ShowsNoRoot stand
  pending_none stand pending image left slot v is =
      bare.none slot v
      (root_kept start.now.seen image
      (aside.rings_still sizes start.now bare.rest bare.sized May (into_clear sizes pool ready) image (aside.crash_clear sizes start.now bare.rest bare.sized May (into_clear sizes pool ready) stand pending image left.leaves)) slot v is)

  module _ (mid : World) (blocks : WritesIntoFree pool start mid) where
    pending : Throughout IsPending start mid × IsPending mid.now
    pending =
        added_throughout IsPending May (aside.pending_step sizes start.now bare.rest bare.sized May (into_clear sizes pool ready)) start mid blocks
        (aside.pending_start sizes start.now bare.rest bare.sized May (into_clear sizes pool ready))

    clear : KeepsClear mid.now.seen
    clear =
        (added_throughout (λ (s : Stand). KeepsClear s.seen) May (aside.seen_step sizes start.now bare.rest bare.sized May (into_clear sizes pool ready)) start mid blocks
        (aside.seen_start sizes start.now bare.rest bare.sized May (into_clear sizes pool ready))).1

    rings : KeepsRings start.now.seen mid.now.seen
    rings = aside.rings_still sizes start.now bare.rest bare.sized May (into_clear sizes pool ready) mid.now.seen clear

    mid_none : HasNoRoot mid.now.seen
    mid_none slot v is = bare.none slot v (root_kept start.now.seen mid.now.seen rings slot v is)

    mid_sizes : map length mid.now.seen ≡ sizes
    mid_sizes = clear.same_sizes ∙ bare.sized

    blocks_none : Throughout ShowsNoRoot start mid
    blocks_none = weaker IsPending ShowsNoRoot start mid pending_none pending.0

    still_empty : (now : World) → IsStill mid now → Throughout ShowsEmpty start now
    still_empty now unmoved = weaker ShowsNoRoot ShowsEmpty start now none_only (stays ShowsNoRoot start mid now blocks_none unmoved (pending_none mid.now pending.1))

    module _ (u : Uber) (lawful : IsUber u) (is_next : IsNextRoot pool true u) (leads : LeadsTo ⊥ sizes mid.now.seen pool u objects.empty) (seen : List Seen) (labels : HaveLabels start.now.seen seen) (places : AreAt pool.table.slots u seen) (on : AreThere (devices_in pool.space))
        (both all : List ℕ) (in_both : (slot : ℕ) → Contains both slot → IsSlotInBoth (unwrap_or pool.last u) u pool.table.slots slot) (in_all : (slot : ℕ) → Contains all slot → IsSlotInBoth u u pool.table.slots slot) where
      abbrev next : OpenPool
      next = leads.next

      large_slot : (root : Uber) (sl : ℕ) → IsSlotInBoth root u pool.table.slots sl → 8388608 ≤ whole (slice_index sizes sl)
      large_slot root sl h =
          let at = h.at_index in
          let known : h.index < u.count = ltb-true _ _ (and_left_of _ _ at.in_root) in
          let count = is_next.count in
          large sizes pool ready h.index sl (omega (arith, known, count)) at.here

      big_both : (sl : ℕ) → Contains both sl → 8388608 ≤ whole (slice_index sizes sl)
      big_both sl has = large_slot (unwrap_or pool.last u) sl (in_both sl has)

      big_all : (sl : ℕ) → Contains all sl → 8388608 ≤ whole (slice_index sizes sl)
      big_all sl has = large_slot u sl (in_all sl has)

      abbrev Putting : Stand → Type 0
      Putting = IsPutting sizes both all u lawful (uber_long u lawful) mid mid_sizes big_both big_all

      from : GoesOnFrom u next
      from = goes_on pool next true u leads.last is_next leads.same

      next_on : AreThere (devices_in next.space)
      next_on = there_same sizes pool next ready leads.ready leads.same.table on

      next_at : AreAt next.table.slots u seen
      next_at = subst (λ (t : Table). AreAt t.slots u seen) (sym leads.same.table) places

      module _ (stand : Stand) (putting : Putting stand) (image : List (List ℕ)) (left : IsLeft stand image) where
        may : MayHaveRoot mid.now.seen image u
        may = torn sizes both all u lawful (uber_long u lawful) mid mid_sizes big_both big_all stand putting image left

        -- each address of the pool reads as before the root was put
        address_kept : (x : Dva) → address_bytes (view_of image next.table.slots next.space) x ≡ address_bytes (view_of mid.now.seen next.table.slots next.space) x
        address_kept x =
            address_keeps sizes next.table.slots (devices_in next.space) (below_labels sizes next leads.ready) u lawful mid.now.seen image
            (units_kept sizes both all u lawful (uber_long u lawful) mid mid_sizes big_both big_all next.table.slots (devices_in next.space) (below_labels sizes next leads.ready) stand putting image left) x

        module _ (paths : List (List ℕ)) (p : PoolState) (shows : Shows paths image p) where
          -- no other root is there
          is_root : shows.root.uber ≡ u
          is_root =
              let there = (found shows.seen shows.root.uber shows.current).current.shown in
              ⊎_elim (λ stood. absurd (mid_none there.0 shows.root.uber stood)) (λ same. same)
              (stood_or_next mid.now.seen image u lawful may there.0 shows.root.uber (root_of_shown image shows.seen shows.shown there.0 shows.root.uber there.1))

          slots : HasSlots (slots_of u shows.seen) next.table.slots
          slots = moved mid.now.seen image u lawful may seen (labels_on start.now.seen mid.now.seen rings.labels seen labels) shows.seen shows.shown next.table.slots u next_at

          is_empty : p.objects ≡ objects.empty
          is_empty =
              let stands_there = head_kept next mid.now.seen image address_kept u.root u.len (own_directory mid.now.seen next u.root u.len leads.head) in
              one_meaning (store_of (view_of image next.table.slots next.space)) next.dir p.objects objects.empty
              (shown_objects paths image sizes u next p leads.ready from (inl next_on) stands_there shows is_root slots)
              (objects_kept next mid.now.seen image address_kept objects.empty (objects_meant (Unit {0}) mid.now.seen next objects.empty leads.empty leads.holds))

      put_empty : (now : World) → Throughout Putting mid now → Throughout ShowsEmpty start now
      put_empty now putting =
          joined ShowsEmpty start mid now (weaker ShowsNoRoot ShowsEmpty start mid none_only blocks_none) (weaker Putting ShowsEmpty mid now (λ stand put image left paths p shows. is_empty stand put image left paths p shows) putting)

      whole_empty : (now : World) → IsPublished sizes both all u mid now → Throughout ShowsEmpty start now
      whole_empty now p = put_empty now (putting_throughout sizes both all u lawful (uber_long u lawful) mid mid_sizes big_both big_all now p)

      part_empty : (now : World) → IsPublishedInPart sizes both all u mid now → Throughout ShowsEmpty start now
      part_empty now (inl unmoved) = still_empty now unmoved
      part_empty now (inr (inl p)) = put_empty now (begun_throughout sizes both all u lawful (uber_long u lawful) mid mid_sizes big_both big_all p.first now p.before p.wrote)
      part_empty now (inr (inr p)) = put_empty now (almost_throughout sizes both all u lawful (uber_long u lawful) mid mid_sizes big_both big_all p.first p.half p.second p.before p.wrote p.between p.durable now p.rest)

  module _ (names : (v : Uber) → v.guid ≡ pool.guid → v.count ≡ pool.table.count → v.rows ≡ pool.table.rows → (seen : List Seen) × HaveLabels start.now.seen seen × AreAt pool.table.slots v seen) (on : AreThere (devices_in pool.space)) (now : World) where
    root_empty : (mid : World) (blocks : WritesIntoFree pool start mid) (u : Uber) → IsUber u → IsNextRoot pool true u → LeadsTo ⊥ sizes mid.now.seen pool u objects.empty → PublishesRoot sizes pool u mid now → Throughout ShowsEmpty start now
    root_empty mid blocks u lawful is_next leads (inl unmoved) = still_empty mid blocks now unmoved
    root_empty mid blocks u lawful is_next leads (inr (inl part)) =
        let at = names u is_next.guid is_next.count is_next.rows in
        part_empty mid blocks u lawful is_next leads at.0 at.1 at.2 on part.both part.all part.in_both part.in_all now part.published
    root_empty mid blocks u lawful is_next leads (inr (inr shown)) =
        let at = names u is_next.guid is_next.count is_next.rows in
        whole_empty mid blocks u lawful is_next leads at.0 at.1 at.2 on shown.both shown.all shown.in_both shown.in_all now shown.published

    commit_empty : CommitsObjects ⊥ sizes pool true objects.empty start now → Throughout ShowsEmpty start now
    commit_empty (mid, blocks, inl unmoved) = still_empty mid blocks now unmoved
    commit_empty (mid, blocks, inr (u, lawful, is_next, leads, published)) = root_empty mid blocks u lawful is_next leads published

-- ---- the line

first_empty : (sizes named : List ℕ) (before now : World) → IsBare sizes before.now → CommitsFirst sizes named before now → Throughout ShowsEmpty before now
first_empty sizes named before now bare c =
    let front = first_through sizes named (length named) before c.labelled bare c.prepared in
    joined ShowsEmpty before c.labelled now (weaker ShowsNoRoot ShowsEmpty before c.labelled none_only front.0)
    (commit_empty sizes c.labelled front.1 c.pool c.ready (λ v guid count rows. (c.names.seen, c.names.labels, c.names.devices v guid count rows)) c.service.there now c.commits)

-- at each moment of it, whatever an honest crash shows has no objects
pub makes_empty : (sizes named : List ℕ) (before now : World) → IsAtRest before.now → map length before.now.seen ≡ sizes → MakesBehind sizes named before now → Throughout ShowsEmpty before now
makes_empty sizes named before now rest sized makes = by_rest makes.rest
  where
    bare : IsBare sizes before.now
    bare = record { rest = rest; sized = sized; none = makes.unused }

    by_rest : PreparesInPart sizes named before now ⊎ CommitsFirst sizes named before now → Throughout ShowsEmpty before now
    by_rest (inl part) = weaker ShowsNoRoot ShowsEmpty before now none_only (part_through sizes named before now bare part)
    by_rest (inr c) = first_empty sizes named before now bare c

-- ---- beside a pool

newest_shows : (disks : List (List ℕ)) (u : Uber) (slots : List (Option ℕ)) → IsNewestOn disks u slots → (slot : ℕ) × ShowsRoot disks slot u
newest_shows disks u slots newest =
    let at = newest.stands in
    let place = placed_at u at.device newest.seen at.slot at.known at.there (sym (listed u newest.seen at.device at.known) ∙ (sym (newest.devices at.device) ∙ at.here)) in
    let n = newest.labels.count in
    let lt = place.known in
    let labels = newest.labels.each at.slot (omega (arith, n, lt)) in (
      at.slot,
      record {
        known = omega (arith, n, lt);
        label = place.label;
        first = subst (λ (o : Option Label). ShowsLabel (length (disk disks at.slot)) (disk disks at.slot) o) place.is labels;
        suits = place.suits;
        ring = at.ring;
        four = at.four;
        stands = at.stands;
      },
    )

-- the root of one that was committed is shown
pub in_the_way : (sizes : List ℕ) (all : Objects) (pool : OpenPool) (now : Stand) → StandsBehind sizes all pool now → HasNoRoot now.seen → ⊥
in_the_way sizes all pool now h none =
    let newest = newest_kept sizes h.root h.first all h.begin h.committed now.seen (within_clear sizes h.root h.first all h.begin h.committed pool now (in_group h.first h.begin pool now h.within)) in
    let there = newest_shows now.seen h.root h.first.table.slots newest in
    none there.0 h.root there.1
