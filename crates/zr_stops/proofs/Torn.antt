-- While the next root is put into rings, a crash shows the last root or the next one.
use Rattle.std.proofs.Common.{◌≡◌, ◌⊎◌, inl, inr, ℕ, ◌+◌, ◌<◌, ◌%◌, List, length, Option, Ok, refl, sym, ◌∙◌, ap, subst, arith, ⊎_elim}
use Rattle.zr_current.specs.Next.{IsRingOf}
use Rattle.zr_image.specs.Current.{FindsCurrent, IsShown, ShowsAll, slots_of}
use Rattle.zr_image.specs.Honest.Mark.{of_group}
use Rattle.zr_label.proofs.Ubers.{one_uber}
use Rattle.zr_label.specs.Blocks.{IsUber, SpellsUber, uber_block}
use Rattle.zr_label.specs.Geometry.{slot_of as ring_of}
use Rattle.zr_label.specs.declared.root.Label.{Label}
use Rattle.zr_label.specs.declared.root.Seen.{Seen}
use Rattle.zr_label.specs.declared.root.Uber.{Uber}
use Rattle.zr_newest.proofs.Found.{found, one_pool}
use Rattle.zr_newest.proofs.Kept.{device_on, labels_on, root_was}
use Rattle.zr_newest.proofs.Seen.{listed, long_seen, one_label_at, placed_at, root_of_shown, seen_labels, shown_of_root, slots_same}
use Rattle.zr_newest.specs.Newest.{AreAt, HaveLabels, IsNewestOn, KeepsLabels, ShowsRoot, StandsAtDevice}
use Rattle.zr_scan.proofs.Gathering.{slot_small}
use Rattle.zr_scan.specs.Scan.{ShowsLabel, Stands, ring_block}
use Rattle.zr_shelf.proofs.Publish.{one_more}
use Rattle.zr_shelf.specs.Disks.{disk}
use Rattle.zr_sync.specs.declared.open.OpenPool.{OpenPool}
use Rattle.zr_view.specs.Views.{slot_of}
use Rattle.zr_stops.specs.Torn.{MayHaveRoot, ShowsOneOf}

module _ (disks image : List (List ℕ)) (u : Uber) (lawful : IsUber u) (may : MayHaveRoot disks image u) where
  labels_kept : KeepsLabels disks image
  labels_kept = record { count = may.count; sizes = may.sizes; labels = may.labels }

  -- a root that is shown there was shown before, or is the next one
  pub stood_or_next : (slot : ℕ) (v : Uber) → ShowsRoot image slot v → ShowsRoot disks slot v ⊎ (v ≡ u)
  stood_or_next slot v h = by_block (may.rings slot h.ring (ring_of v.txg) h.four (slot_small v.txg))
    where
      spells : SpellsUber (ring_block (length (disk disks slot)) (disk image slot) h.ring (ring_of v.txg)) v
      spells = subst (λ (size : ℕ). Stands size (disk image slot) h.ring v) (may.sizes slot) h.stands

      by_block : IsRingOf u (ring_of v.txg) (ring_block (length (disk disks slot)) (disk disks slot) h.ring (ring_of v.txg)) (ring_block (length (disk disks slot)) (disk image slot) h.ring (ring_of v.txg)) → ShowsRoot disks slot v ⊎ (v ≡ u)
      by_block (inl same) = inl (root_was disks image slot (may.sizes slot) (λ n few. may.labels slot n few) may.count v h same)
      by_block (inr (place, inl put)) = inr (one_uber (uber_block u) v u (subst (λ (block : List ℕ). SpellsUber block v) put spells) (record { lawful = lawful; spelling = refl }))
      by_block (inr (place, inr none)) = absurd (none (of_group v) spells)

  -- the devices are where the labels were that were seen before
  pub moved : (before : List Seen) → HaveLabels disks before → (seen : List Seen) → ShowsAll image seen → (those : List (Option ℕ)) (v : Uber) → AreAt those v before → AreAt those v seen
  moved before labels seen shown those v are =
      let had = labels_on disks image labels_kept before labels in
      let has = seen_labels image seen shown in
      let n = had.count ∙ sym has.count in
      λ d. are d ∙ ap (λ (these : List (Option ℕ)). slot_of these d) (slots_same before seen n (one_label_at image before seen had has) v)

module _ (disks image : List (List ℕ)) (last u : Uber) (slots mine : List (Option ℕ)) (lawful : IsUber u) (txg : u.txg ≡ last.txg + 1) (newest : IsNewestOn disks last slots) (at : AreAt mine u newest.seen) (may : MayHaveRoot disks image u) where
  -- the last root stands where it stood, in another place than the next one
  last_ring : (slot k : ℕ) → k < 4 → ring_block (length (disk disks slot)) (disk image slot) k (ring_of last.txg) ≡ ring_block (length (disk disks slot)) (disk disks slot) k (ring_of last.txg)
  last_ring slot k few = elim (may.rings slot k (ring_of last.txg) few (slot_small last.txg)) [
    | inl same ↦ same
    | inr put ↦ absurd ((one_more last.txg).other_slot (put.0 ∙ ap (λ (n : ℕ). n % 32) txg))
  ]

  last_stands : StandsAtDevice image last slots
  last_stands = device_on disks image last slots newest.stands (may.sizes newest.stands.slot) (last_ring newest.stands.slot newest.stands.ring newest.stands.four)

  module _ (seen : List Seen) (shown : ShowsAll image seen) where
    devices : AreAt slots last seen
    devices = moved disks image u lawful may newest.seen newest.labels seen shown slots last newest.devices

    next_devices : AreAt mine u seen
    next_devices = moved disks image u lawful may newest.seen newest.labels seen shown mine u at

    last_shown : IsShown seen last
    last_shown =
        let at = last_stands in
        let place = placed_at last at.device seen at.slot at.known at.there (sym (listed last seen at.device at.known) ∙ (sym (devices at.device) ∙ at.here)) in
        let n = long_seen image seen shown in
        let lt = place.known in
        let labels = (seen_labels image seen shown).each at.slot (omega (arith, n, lt)) in (
          at.slot,
          shown_of_root image seen shown at.slot last (record {
            known = omega (arith, n, lt);
            label = place.label;
            first = subst (λ (o : Option Label). ShowsLabel (length (disk image at.slot)) (disk image at.slot) o) place.is labels;
            suits = place.suits;
            ring = at.ring;
            four = at.four;
            stands = at.stands;
          }),
        )

    one_of : (v : Uber) → FindsCurrent seen (Ok v) → (v ≡ last) ⊎ (v ≡ u)
    one_of v finds_it =
        let f = found seen v finds_it in
        let there = f.current.shown in
        let low = f.current.highest last last_shown in
        let one = sym (one_pool image seen shown v f last last_shown) in
        ⊎_elim
        (λ (stood : ShowsRoot disks there.0 v). ⊎_elim (λ (same : v ≡ last). inl same) (λ (lt : v.txg < last.txg). absurd (omega (arith, lt, low))) (newest.newest there.0 v stood one))
        (λ (put : v ≡ u). inr put)
        (stood_or_next disks image u lawful may there.0 v (root_of_shown image seen shown there.0 v there.1))

pub torn_shows : (first next : OpenPool) (disks image : List (List ℕ)) (last u : Uber) → IsUber u → u.txg ≡ last.txg + 1 → (newest : IsNewestOn disks last first.table.slots) → AreAt next.table.slots u newest.seen → MayHaveRoot disks image u → ShowsOneOf image last u first next
torn_shows first next disks image last u lawful txg newest at may = record {
  one = λ seen shown v finds_it. one_of disks image last u first.table.slots next.table.slots lawful txg newest at may seen shown v finds_it;
  before = λ seen shown. devices disks image last u first.table.slots next.table.slots lawful txg newest at may seen shown;
  after = λ seen shown. next_devices disks image last u first.table.slots next.table.slots lawful txg newest at may seen shown;
}
