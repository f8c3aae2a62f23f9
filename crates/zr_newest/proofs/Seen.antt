-- What was seen of the slots, and what stands on their disks.
use Rattle.std.proofs.Common.{◌≡◌, ◌⊎◌, inl, inr, ℕ, zero, suc, ◌+◌, ◌<◌, ◌≤◌, Bool, true, false, nat_lt, not, List, [], ◌∷◌, length, map, cond, Option, Some, None, refl, sym, ◌∙◌, ap, subst, arith, ⊎_elim}
use Rattle.std.specs.Prelude.{Contains, MatchOption, ◌==◌, ◌&&◌, if◌then◌else◌}
use Rattle.std.specs.List.{position, position_or_len, range_with_len}
use Rattle.std.proofs.lemmas.Bool.{cases_lt, eqb-true}
use Rattle.std.proofs.lemmas.List.FromFn.{get_or-map-range_with_len, length-map-range_with_len}
use Rattle.std.proofs.lemmas.List.Quantifiers.{position-Some}
use Rattle.std.proofs.Math.ListN.{get_or-eq_default}
use Rattle.std.proofs.Math.Path.{fun_ext}
use Rattle.zr_base.specs.declared.space.DevRow.{DevRow}
use Rattle.zr_image.specs.Current.{IsShownAt, ShowsAll, is_device, row_at, seen_at, slot_of_device, slots_of}
use Rattle.zr_label.specs.declared.root.Label.{Label}
use Rattle.zr_label.specs.declared.root.Seen.{Seen}
use Rattle.zr_label.specs.declared.root.Uber.{Uber}
use Rattle.zr_rules.specs.Places.{is_gone}
use Rattle.zr_scan.proofs.Fresh.{same_label}
use Rattle.zr_scan.specs.Scan.{AreRoots, IsRootFor, Shows, ShowsLabel}
use Rattle.zr_shelf.specs.Disks.{disk}
use Rattle.zr_view.specs.Views.{slot_of}
use Rattle.zr_newest.specs.Newest.{HasSameDevices, HaveLabels, IsOneDevice, ShowsRoot}

pub long_seen : (disks : List (List ℕ)) (seen : List Seen) → ShowsAll disks seen → length seen ≡ length disks
long_seen [] [] shows = refl
long_seen [] (x ∷ seen) shows = absurd shows
long_seen (bytes ∷ disks) [] shows = absurd shows
long_seen (bytes ∷ disks) (x ∷ seen) shows = let rest = long_seen disks seen shows.1 in omega (arith, rest)

pub shows_at : (disks : List (List ℕ)) (seen : List Seen) → ShowsAll disks seen → (slot : ℕ) → slot < length seen → Shows (length (disk disks slot)) (disk disks slot) (seen_at seen slot)
shows_at [] [] shows slot lt = absurd (omega (arith, lt))
shows_at [] (x ∷ seen) shows slot lt = absurd shows
shows_at (bytes ∷ disks) [] shows slot lt = absurd shows
shows_at (bytes ∷ disks) (x ∷ seen) shows zero lt = shows.0
shows_at (bytes ∷ disks) (x ∷ seen) shows (suc slot) lt = shows_at disks seen shows.1 slot (omega (arith, lt))

pub past_seen : (seen : List Seen) (slot : ℕ) → length seen ≤ slot → seen_at seen slot ≡ record { label = None; ubers = []; newer = None }
past_seen seen slot le = get_or-eq_default seen (record { label = None; ubers = []; newer = None }) le

pub seen_labels : (disks : List (List ℕ)) (seen : List Seen) → ShowsAll disks seen → HaveLabels disks seen
seen_labels disks seen shown = record {
  count = long_seen disks seen shown;
  each = λ slot lt. (shows_at disks seen shown slot (let n = long_seen disks seen shown in omega (arith, n, lt))).label;
}

-- the labels of the slots are what they are
pub one_label_at : (disks : List (List ℕ)) (a b : List Seen) → HaveLabels disks a → HaveLabels disks b → (slot : ℕ) → (seen_at a slot).label ≡ (seen_at b slot).label
one_label_at disks a b h k slot =
    ⊎_elim
    (λ (lt : slot < length disks). same_label (length (disk disks slot)) (disk disks slot) (seen_at a slot).label (seen_at b slot).label (h.each slot lt) (k.each slot lt))
    (λ (le : length disks ≤ slot).
    let m = h.count in let n = k.count in
    ap (λ (x : Seen). x.label) (past_seen a slot (omega (arith, m, le))) ∙ sym (ap (λ (x : Seen). x.label) (past_seen b slot (omega (arith, n, le)))))
    (cases_lt slot (length disks))

-- ---- roots

-- a root that a slot shows stands there
root_by : (disks : List (List ℕ)) (slot : ℕ) (x : Seen) (u : Uber) → slot < length disks → (o : Option Label) → x.label ≡ o → Shows (length (disk disks slot)) (disk disks slot) x
    → MatchOption o (x.ubers ≡ []) (λ l. AreRoots (length (disk disks slot)) (disk disks slot) 4 l x.ubers) → Contains x.ubers u → ShowsRoot disks slot u
root_by disks slot x u lt None is shows none has = absurd (let at = (subst (λ (us : List Uber). Contains us u) none has).1 in omega (arith, at))
root_by disks slot x u lt (Some l) is shows roots has =
    let at = roots.each u has in
    record { known = lt; label = l; first = subst (λ (o : Option Label). ShowsLabel (length (disk disks slot)) (disk disks slot) o) is shows.label; suits = at.0; ring = at.1; four = at.2; stands = at.3 }

pub root_of_shown : (disks : List (List ℕ)) (seen : List Seen) → ShowsAll disks seen → (slot : ℕ) (u : Uber) → IsShownAt seen slot u → ShowsRoot disks slot u
root_of_shown disks seen shown slot u at =
    ⊎_elim
    (λ (lt : slot < length seen).
    let shows = shows_at disks seen shown slot lt in
    root_by disks slot (seen_at seen slot) u (let n = long_seen disks seen shown in omega (arith, n, lt)) (seen_at seen slot).label refl shows shows.roots at)
    (λ (le : length seen ≤ slot). absurd (let none = (subst (λ (x : Seen). Contains x.ubers u) (past_seen seen slot le) at).1 in omega (arith, none)))
    (cases_lt slot (length seen))

-- and a root that stands there is shown
pub shown_of_root : (disks : List (List ℕ)) (seen : List Seen) → ShowsAll disks seen → (slot : ℕ) (u : Uber) → ShowsRoot disks slot u → IsShownAt seen slot u
shown_of_root disks seen shown slot u h =
    let shows = shows_at disks seen shown slot (let n = long_seen disks seen shown in let lt = h.known in omega (arith, n, lt)) in
    let is = same_label (length (disk disks slot)) (disk disks slot) (seen_at seen slot).label (Some h.label) shows.label h.first in
    let roots = subst (λ (o : Option Label). MatchOption o ((seen_at seen slot).ubers ≡ []) (λ l. AreRoots (length (disk disks slot)) (disk disks slot) 4 l (seen_at seen slot).ubers)) is shows.roots in
    roots.all u h.ring h.four h.stands h.suits

-- ---- devices

-- a place that is told by labels
first_same : (p : Option Label → Bool) (xs ys : List Seen) → length xs ≡ length ys → ((slot : ℕ) → (seen_at xs slot).label ≡ (seen_at ys slot).label) → position_or_len (λ (s : Seen). p s.label) xs ≡ position_or_len (λ (s : Seen). p s.label) ys
first_same p [] [] count labels = refl
first_same p [] (y ∷ ys) count labels = absurd (omega (arith, count))
first_same p (x ∷ xs) [] count labels = absurd (omega (arith, count))
first_same p (x ∷ xs) (y ∷ ys) count labels =
    let rest = first_same p xs ys (omega (arith, count)) (λ slot. labels (suc slot)) in
    ap (λ (o : Option Label). position_or_len (λ (s : Seen). p s.label) (record x { label = o } ∷ xs)) (labels 0)
    ∙ ap (λ (n : ℕ). cond (not (p y.label)) (1 + n) 0) rest

module _ (a b : List Seen) (count : length a ≡ length b) (labels : (slot : ℕ) → (seen_at a slot).label ≡ (seen_at b slot).label) where
  place_same : (p : Option Label → Bool) → position (λ (x : Seen). p x.label) a ≡ position (λ (x : Seen). p x.label) b
  place_same p =
      let first = first_same p a b count labels in
      ap (λ (n : ℕ). cond (nat_lt n (length a)) (Some n) None) first
      ∙ ap (λ (n : ℕ). cond (nat_lt (position_or_len (λ (x : Seen). p x.label) b) n) (Some (position_or_len (λ (x : Seen). p x.label) b)) None) count

  pub device_same : (u : Uber) (index : ℕ) → slot_of_device u a index ≡ slot_of_device u b index
  device_same u index = ap (λ (o : Option ℕ). if is_gone (row_at u index).state then None else o) (place_same (is_device u index))

  pub slots_same : (u : Uber) → slots_of u a ≡ slots_of u b
  slots_same u = ap (λ (f : ℕ → Option ℕ). map f (range_with_len 0 u.count)) (fun_ext (λ index. device_same u index))

-- a root with the devices of another has their slots
pub same_slots : (u next : Uber) (seen : List Seen) → next.guid ≡ u.guid → next.count ≡ u.count → next.rows ≡ u.rows → slots_of next seen ≡ slots_of u seen
same_slots u next seen guid count rows =
    ap (λ (n : ℕ). slots_of (record next { guid = n }) seen) guid
    ∙ (ap (λ (n : ℕ). slots_of (record next { guid = u.guid; count = n }) seen) count
    ∙ ap (λ (rs : List DevRow). slots_of (record next { guid = u.guid; count = u.count; rows = rs }) seen) rows)

-- a device with the row of another root's is where that is
module _ (u next : Uber) (d : ℕ) (guid : next.guid ≡ u.guid) (row : row_at next d ≡ row_at u d) where
  same_test : (o : Option Label) → is_device next d o ≡ is_device u d o
  same_test None = refl
  same_test (Some m) =
      ap (λ (n : ℕ). m.guid == n && (m.index == d && (m.added == (row_at next d).added && m.units == (row_at next d).units))) guid
      ∙ ap (λ (r : DevRow). m.guid == u.guid && (m.index == d && (m.added == r.added && m.units == r.units))) row

  pub place_by_row : (seen : List Seen) → slot_of_device next seen d ≡ slot_of_device u seen d
  place_by_row seen =
      ap (λ (r : DevRow). if is_gone r.state then None else position (λ (s : Seen). is_device next d s.label) seen) row
      ∙ ap (λ (q : Seen → Bool). if is_gone (row_at u d).state then None else position q seen) (fun_ext (λ (s : Seen). same_test s.label))

-- so is one of which no more has changed than whether it is leaving
module _ (u next : Uber) (d : ℕ) (guid : next.guid ≡ u.guid) (row : IsOneDevice (row_at u d) (row_at next d)) where
  alike_test : (o : Option Label) → is_device next d o ≡ is_device u d o
  alike_test None = refl
  alike_test (Some m) =
      ap (λ (n : ℕ). m.guid == n && (m.index == d && (m.added == (row_at next d).added && m.units == (row_at next d).units))) guid
      ∙ (ap (λ (n : ℕ). m.guid == u.guid && (m.index == d && (m.added == n && m.units == (row_at next d).units))) row.added
      ∙ ap (λ (n : ℕ). m.guid == u.guid && (m.index == d && (m.added == (row_at u d).added && m.units == n))) row.units)

  place_alike : (seen : List Seen) → slot_of_device next seen d ≡ slot_of_device u seen d
  place_alike seen =
      ap (λ (b : Bool). if b then None else position (λ (s : Seen). is_device next d s.label) seen) row.gone
      ∙ ap (λ (q : Seen → Bool). if is_gone (row_at u d).state then None else position q seen) (fun_ext (λ (s : Seen). alike_test s.label))

pub slots_alike : (u next : Uber) (seen : List Seen) → HasSameDevices u next → slots_of next seen ≡ slots_of u seen
slots_alike u next seen h =
    ap (λ (n : ℕ). map (slot_of_device next seen) (range_with_len 0 n)) h.count
    ∙ ap (λ (f : ℕ → Option ℕ). map f (range_with_len 0 u.count)) (fun_ext (λ (d : ℕ). place_alike u next d h.guid (h.rows d) seen))

-- the label of a device of the root
pub device_label : (u : Uber) (d : ℕ) (o : Option Label) → d < u.count → is_gone (row_at u d).state ≡ false → is_device u d o ≡ true → (l : Label) × (o ≡ Some l) × IsRootFor l u × (l.index ≡ d)
device_label u d None some there is = absurd cc
device_label u d (Some l) some there is =
    let guid = and_both (l.guid == u.guid) _ is in
    let index = and_both (l.index == d) _ guid.1 in
    let added = and_both (l.added == (row_at u d).added) _ index.1 in
    let zero_is : l.index ≡ d = eqb-true l.index d index.0 in (
      l,
      refl,
      record {
        pool = sym (eqb-true l.guid u.guid guid.0);
        index = omega (arith, zero_is, some);
        added = ap (λ (i : ℕ). (row_at u i).added) zero_is ∙ sym (eqb-true l.added (row_at u d).added added.0);
        concrete = ap (λ (i : ℕ). is_gone (row_at u i).state) zero_is ∙ there;
      },
      zero_is,
    )
  where
    and_both : (a b : Bool) → (a && b) ≡ true → (a ≡ true) × (b ≡ true)
    and_both true b h = (refl, h)
    and_both false b h = absurd cc

shown_place : (u : Uber) (d : ℕ) (seen : List Seen) (slot : ℕ) → slot_of_device u seen d ≡ Some slot → (slot < length seen) × (is_device u d (seen_at seen slot).label ≡ true)
shown_place u d seen slot is = by_state (is_gone (row_at u d).state) is
  where
    by_state : (gone : Bool) → (if gone then None else position (λ (s : Seen). is_device u d s.label) seen) ≡ Some slot → (slot < length seen) × (is_device u d (seen_at seen slot).label ≡ true)
    by_state true h = absurd cc
    by_state false h = let at = position-Some (λ (s : Seen). is_device u d s.label) seen slot (record { label = None; ubers = []; newer = None }) h in (at.0, at.1)

-- a device of the root, its slot, and the label that names it there
pub record IsPlacedAt (u : Uber) (d : ℕ) (seen : List Seen) (slot : ℕ) : Type 0 where
  pub known : slot < length seen
  pub label : Label
  pub is : (seen_at seen slot).label ≡ Some label
  pub suits : IsRootFor label u
  pub index : label.index ≡ d

pub placed_at : (u : Uber) (d : ℕ) (seen : List Seen) (slot : ℕ) → d < u.count → is_gone (row_at u d).state ≡ false → slot_of_device u seen d ≡ Some slot → IsPlacedAt u d seen slot
placed_at u d seen slot some there at =
    let place = shown_place u d seen slot at in
    let label = device_label u d (seen_at seen slot).label some there place.1 in
    record { known = place.0; label = label.0; is = label.1; suits = label.2; index = label.3 }

-- the slot of a device is that of the list of all
pub listed : (u : Uber) (seen : List Seen) (d : ℕ) → d < u.count → slot_of (slots_of u seen) d ≡ slot_of_device u seen d
listed u seen d some = get_or-map-range_with_len (slot_of_device u seen) 0 u.count d d None some (omega arith)

pub past_device : (u : Uber) (seen : List Seen) (d : ℕ) → u.count ≤ d → slot_of (slots_of u seen) d ≡ None
past_device u seen d le = get_or-eq_default (slots_of u seen) None (let long = length-map-range_with_len (slot_of_device u seen) 0 u.count in omega (arith, long, le))
