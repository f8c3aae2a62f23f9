-- The newest root of a pool, found, kept and followed by the next.
use Rattle.std.proofs.Common.{◌≡◌, ◌≢◌, ◌⊎◌, inl, inr, ℕ, ◌<◌, ◌≤◌, Bool, true, false, List, length, Option, Some, None, Ok, refl, sym, ◌∙◌, ap, subst, arith, ⊎_elim}
use Rattle.std.specs.Prelude.{if◌then◌else◌}
use Rattle.std.specs.List.{position}
use Rattle.std.specs.Str.{bytes_eq}
use Rattle.std.proofs.lemmas.Bool.{cases_lt}
use Rattle.std.proofs.lemmas.Slice.Eq.{bytes_eq-Decides}
use Rattle.zr_image.specs.Current.{AreTwoCopies, AreTwoRoots, FindsCurrent, IsShown, ShowsAll, is_device, row_at, seen_at, slots_of}
use Rattle.zr_label.proofs.Ubers.{one_uber}
use Rattle.zr_label.specs.Blocks.{IsUber, uber_block}
use Rattle.zr_label.specs.declared.root.Label.{Label}
use Rattle.zr_label.specs.declared.root.Seen.{Seen}
use Rattle.zr_label.specs.declared.root.Uber.{Uber}
use Rattle.zr_scan.proofs.Fresh.{same_label}
use Rattle.zr_scan.specs.Scan.{ShowsLabel}
use Rattle.zr_rules.specs.Places.{is_gone}
use Rattle.zr_shelf.specs.Disks.{disk}
use Rattle.zr_view.specs.Views.{slot_of}
use Rattle.zr_newest.proofs.Found.{Found, finds, found, found_too, has_slot, one_pool}
use Rattle.zr_newest.proofs.Kept.{device_kept, labels_on, root_kept, stood_or_put}
use Rattle.zr_newest.proofs.Seen.{listed, long_seen, one_label_at, past_device, place_by_row, placed_at, root_of_shown, same_slots, seen_labels, shown_of_root, slots_same}
use Rattle.zr_newest.specs.Newest.{AreAt, HasOwnDevices, HaveLabels, IsAbove, IsNewestOn, KeepsRings, PutsRoot, ShowsRoot, StandsAtDevice}

-- ---- what is found

-- roots are the same, or they differ
same_or_not : (v u : Uber) → IsUber v → IsUber u → (v ≡ u) ⊎ (v ≢ u)
same_or_not v u lawful also = by_test (bytes_eq (uber_block v) (uber_block u)) refl
  where
    by_test : (t : Bool) → bytes_eq (uber_block v) (uber_block u) ≡ t → (v ≡ u) ⊎ (v ≢ u)
    by_test true is = inl (one_uber (uber_block u) v u (record { lawful = lawful; spelling = sym ((bytes_eq-Decides (uber_block v) (uber_block u)).0 is) }) (record { lawful = also; spelling = refl }))
    by_test false is = inr (λ e. let yes = (bytes_eq-Decides (uber_block v) (uber_block u)).1 (ap uber_block e) in let both = sym is ∙ yes in cc)

module _ (disks : List (List ℕ)) (seen : List Seen) (u : Uber) (shown : ShowsAll disks seen) (f : Found seen u) where
  -- two roots of the highest group are not shown
  not_two : (m n : ℕ) → AreTwoRoots seen m n → ⊥
  not_two m n h =
      ⊎_elim
      (λ (lt : m < n). f.roots (m, n) (record { order = lt; here = h }))
      (λ (ge : n ≤ m).
      ⊎_elim
      (λ (lt : n < m).
      f.roots (n, m) (record {
        order = lt;
        here = record { one = h.other; other = h.one; in_one = h.in_other; in_other = h.in_one; one_highest = h.other_highest; other_highest = h.one_highest; differ = λ e. h.differ (sym e) };
      }))
      (λ (le : m ≤ n). let same : n ≡ m = omega (arith, ge, le) in f.twice m (subst (λ (k : ℕ). AreTwoRoots seen m k) same h))
      (cases_lt n m))
      (cases_lt m n)

  shown_root : ShowsRoot disks f.current.shown.0 u
  shown_root = root_of_shown disks seen shown f.current.shown.0 u f.current.shown.1

  -- two slots with labels of one device are one slot
  one_slot : (m n : ℕ) → AreTwoCopies u seen m n → m ≡ n
  one_slot m n h =
      ⊎_elim
      (λ (lt : m < n). absurd (f.copies (m, n) (record { order = lt; here = h })))
      (λ (ge : n ≤ m).
      ⊎_elim
      (λ (lt : n < m). absurd (f.copies (n, m) (record { order = lt; here = record { one = h.other; other = h.one; of_one = h.of_other; of_other = h.of_one; one_for = h.other_for; other_for = h.one_for; same = sym h.same } })))
      (λ (le : m ≤ n). omega (arith, ge, le))
      (cases_lt n m))
      (cases_lt m n)

  stands : (slots : List (Option ℕ)) → AreAt slots u seen → StandsAtDevice disks u slots
  stands slots devices =
      let r = shown_root in
      let s = f.current.shown.0 in
      let d = r.label.index in
      let place = has_slot seen u f d r.suits.index r.suits.concrete in
      let at = placed_at u d seen place.0 r.suits.index r.suits.concrete place.1 in
      let own = same_label (length (disk disks s)) (disk disks s) (seen_at seen s).label (Some r.label) ((seen_labels disks seen shown).each s r.known) r.first in
      let one = one_slot s place.0 (record { one = r.label; other = at.label; of_one = own; of_other = at.is; one_for = r.suits; other_for = at.suits; same = sym at.index }) in
      record {
        device = d;
        known = r.suits.index;
        there = r.suits.concrete;
        slot = s;
        here = devices d ∙ (listed u seen d r.suits.index ∙ (place.1 ∙ ap Some (sym one)));
        ring = r.ring;
        four = r.four;
        stands = r.stands;
      }

  newest : (slot : ℕ) (v : Uber) → ShowsRoot disks slot v → (v ≡ u) ⊎ (v.txg < u.txg)
  newest slot v h =
      let at = shown_of_root disks seen shown slot v h in
      let low = f.current.highest v (slot, at) in
      ⊎_elim
      (λ (lt : v.txg < u.txg). inr lt)
      (λ (ge : u.txg ≤ v.txg).
      ⊎_elim
      (λ (same : v ≡ u). inl same)
      (λ (differ : v ≢ u).
      absurd (not_two slot f.current.shown.0 (record {
        one = v;
        other = u;
        in_one = at;
        in_other = f.current.shown.1;
        one_highest = record { shown = (slot, at); highest = λ w is. (let up = f.current.highest w is in omega (arith, up, ge)) };
        other_highest = f.current;
        differ = differ;
      })))
      (same_or_not v u h.stands.lawful shown_root.stands.lawful))
      (cases_lt v.txg u.txg)

pub current_newest : (disks : List (List ℕ)) (seen : List Seen) (u : Uber) (slots : List (Option ℕ)) → ShowsAll disks seen → FindsCurrent seen (Ok u) → AreAt slots u seen → IsNewestOn disks u slots
current_newest disks seen u slots shown finds_it devices =
    let f = found seen u finds_it in
    record { stands = stands disks seen u shown f slots devices; newest = λ slot v h same. newest disks seen u shown f slot v h; seen = seen; labels = seen_labels disks seen shown; devices = devices }

-- ---- what is kept

pub newest_still : (before after : List (List ℕ)) (u : Uber) (slots : List (Option ℕ)) → KeepsRings before after → IsNewestOn before u slots → IsNewestOn after u slots
newest_still before after u slots keeps h = record {
  stands = device_kept before after keeps u slots h.stands;
  newest = λ slot v is same. h.newest slot v (root_kept before after keeps slot v is) same;
  seen = h.seen;
  labels = labels_on before after keeps.labels h.seen h.labels;
  devices = h.devices;
}

-- ---- the next root

pub above_newest : (disks : List (List ℕ)) (u next : Uber) (slots : List (Option ℕ)) → IsNewestOn disks u slots → next.guid ≡ u.guid → u.txg < next.txg → IsAbove disks next
above_newest disks u next slots h guid later = λ slot v is same.
    ⊎_elim
    (λ (e : v ≡ u). (let txg = ap (λ (w : Uber). w.txg) e in omega (arith, txg, later)))
    (λ (lt : v.txg < u.txg). omega (arith, lt, later))
    (h.newest slot v is (same ∙ guid))

-- so is one of a later group than the current root's
pub above_current : (disks : List (List ℕ)) (seen : List Seen) (u next : Uber) → ShowsAll disks seen → FindsCurrent seen (Ok u) → u.txg < next.txg → IsAbove disks next
above_current disks seen u next shown finds_it later = λ slot v is same.
    let f = found seen u finds_it in
    let low = f.current.highest v (slot, shown_of_root disks seen shown slot v is) in
    omega (arith, low, later)

pub published_newest : (before after : List (List ℕ)) (u : Uber) (slots : List (Option ℕ)) (seen : List Seen) → IsUber u → IsAbove before u → PutsRoot before after u → HaveLabels before seen → AreAt slots u seen → StandsAtDevice after u slots → IsNewestOn after u slots
published_newest before after u slots seen lawful above puts labels devices at = record {
  stands = at;
  newest = λ slot v is same.
      ⊎_elim (λ (stood : ShowsRoot before slot v). inr (above slot v stood same)) (λ (put : v ≡ u). inl put) (stood_or_put before after u lawful puts slot v is);
  seen = seen;
  labels = labels_on before after puts.labels seen labels;
  devices = devices;
}

-- a root with the devices of another has them where that has them
pub devices_stay : (disks : List (List ℕ)) (u next : Uber) (slots : List (Option ℕ)) → IsNewestOn disks u slots → next.guid ≡ u.guid → next.count ≡ u.count → next.rows ≡ u.rows → (seen : List Seen) → HaveLabels disks seen → AreAt slots next seen
devices_stay disks u next slots h guid count rows seen labels =
    let n = h.labels.count ∙ sym labels.count in
    let same = slots_same h.seen seen n (one_label_at disks h.seen seen h.labels labels) u ∙ sym (same_slots u next seen guid count rows) in
    λ d. h.devices d ∙ ap (λ (these : List (Option ℕ)). slot_of these d) same

-- one with some of its devices has these there, and no others
pub devices_own : (u next : Uber) (slots mine : List (Option ℕ)) (seen : List Seen) → AreAt slots u seen → HasOwnDevices u next slots mine → AreAt mine next seen
devices_own u next slots mine seen devices own d =
    ⊎_elim (λ (lt : d < next.count). by_state lt (is_gone (row_at next d).state) refl) (λ (ge : next.count ≤ d). own.past d ge ∙ sym (past_device next seen d ge)) (cases_lt d next.count)
  where
    by_state : d < next.count → (gone : Bool) → is_gone (row_at next d).state ≡ gone → slot_of mine d ≡ slot_of (slots_of next seen) d
    by_state lt true is = own.gone d lt is ∙ (sym (ap (λ (b : Bool). if b then None else position (λ (s : Seen). is_device next d s.label) seen) is) ∙ sym (listed next seen d lt))
    by_state lt false is =
        let h = own.there d lt is in
        h.2 ∙ (devices d ∙ (listed u seen d h.0 ∙ (sym (place_by_row u next d own.guid (sym h.1) seen) ∙ sym (listed next seen d lt))))

-- ---- what is found by it

module _ (disks : List (List ℕ)) (u : Uber) (slots : List (Option ℕ)) (seen : List Seen) (h : IsNewestOn disks u slots) (shown : ShowsAll disks seen) where
  pub devices_seen : AreAt slots u seen
  devices_seen =
      let labels = seen_labels disks seen shown in
      let n = h.labels.count ∙ sym labels.count in
      λ d. h.devices d ∙ ap (λ (these : List (Option ℕ)). slot_of these d) (slots_same h.seen seen n (one_label_at disks h.seen seen h.labels labels) u)

  -- the root is shown
  shown_newest : IsShown seen u
  shown_newest =
      let at = h.stands in
      let place = placed_at u at.device seen at.slot at.known at.there (sym (listed u seen at.device at.known) ∙ (sym (devices_seen at.device) ∙ at.here)) in
      let n = long_seen disks seen shown in
      let lt = place.known in
      let labels = (seen_labels disks seen shown).each at.slot (omega (arith, n, lt)) in (
        at.slot,
        shown_of_root disks seen shown at.slot u (record {
          known = omega (arith, n, lt);
          label = place.label;
          first = subst (λ (o : Option Label). ShowsLabel (length (disk disks at.slot)) (disk disks at.slot) o) place.is labels;
          suits = place.suits;
          ring = at.ring;
          four = at.four;
          stands = at.stands;
        }),
      )

  pub only_newest : (v : Uber) → FindsCurrent seen (Ok v) → v ≡ u
  only_newest v finds_it =
      let f = found seen v finds_it in
      let there = f.current.shown in
      let low = f.current.highest u shown_newest in
      let one = sym (one_pool disks seen shown v f u shown_newest) in
      ⊎_elim (λ (same : v ≡ u). same) (λ (lt : v.txg < u.txg). absurd (omega (arith, lt, low))) (h.newest there.0 v (root_of_shown disks seen shown there.0 v there.1) one)

  pub found_newest : (v : Uber) (other : List Seen) → FindsCurrent seen (Ok v) → ShowsAll disks other → FindsCurrent other (Ok u)
  found_newest v other finds_it also =
      let f = subst (λ (w : Uber). Found seen w) (only_newest v finds_it) (found seen v finds_it) in
      finds other u (found_too disks seen other shown also u f)
