-- What the slots show once a root was put into their rings.
use Rattle.std.proofs.Common.{◌≡◌, ◌⊎◌, inl, inr, ℕ, zero, suc, ◌<◌, ◌≤◌, List, [], ◌∷◌, length, Option, Some, None, refl, sym, ◌∙◌, ap, subst, arith, ⊎_elim}
use Rattle.std.specs.Prelude.{Contains, MatchOption}
use Rattle.std.proofs.lemmas.Bool.{cases_lt}
use Rattle.std.proofs.Math.ListN.{get_or-eq_default}
use Rattle.zr_image.specs.Current.{IsShownAt, ShowsAll, seen_at}
use Rattle.zr_image.specs.Honest.Mark.{of_group, unknown}
use Rattle.zr_label.proofs.Labels.{one_label}
use Rattle.zr_label.proofs.Ubers.{one_uber}
use Rattle.zr_label.specs.Blocks.{IsUber, SpellsNewer, SpellsUber, uber_block}
use Rattle.zr_label.specs.Geometry.{slot_of}
use Rattle.zr_label.specs.declared.root.Label.{Label}
use Rattle.zr_label.specs.declared.root.Newer.{Newer}
use Rattle.zr_label.specs.declared.root.Seen.{Seen}
use Rattle.zr_label.specs.declared.root.Uber.{Uber}
use Rattle.zr_scan.proofs.Blocks.{known_or_not}
use Rattle.zr_scan.specs.Scan.{AreRoots, IsFirstLabel, IsLabelOf, IsRootFor, Shows, ShowsLabel, ShowsNewer, Stands, block_of, ring_block}
use Rattle.zr_shelf.specs.Disks.{disk}
use Rattle.zr_current.specs.Next.{IsNoMark, IsRingOf, PutsRoot, ShowsNext, StandsSomewhere}

-- ---- one slot

module _ (size : ℕ) (b a : List ℕ) (u : Uber) (lawful : IsUber u) (labels : (n : ℕ) → n < 4 → block_of size a n ≡ block_of size b n)
    (rings : (n k : ℕ) → n < 4 → k < 32 → IsRingOf u k (ring_block size b n k) (ring_block size a n k)) where
  label_back : (n : ℕ) → n < 4 → (l : Label) → IsLabelOf size (block_of size a n) l → IsLabelOf size (block_of size b n) l
  label_back n lt l is = subst (λ (block : List ℕ). IsLabelOf size block l) (labels n lt) is

  label_on : (n : ℕ) → n < 4 → (l : Label) → IsLabelOf size (block_of size b n) l → IsLabelOf size (block_of size a n) l
  label_on n lt l is = subst (λ (block : List ℕ). IsLabelOf size block l) (sym (labels n lt)) is

  one_first : (l m : Label) → IsFirstLabel size b l → IsFirstLabel size a m → m ≡ l
  one_first l m h k =
      ⊎_elim
      (λ (lt : h.label < k.label). absurd (k.before h.label lt l (label_on h.label h.four l h.here)))
      (λ (ge : k.label ≤ h.label).
      ⊎_elim
      (λ (lt : k.label < h.label). absurd (h.before k.label lt m (label_back k.label k.four m k.here)))
      (λ (le : h.label ≤ k.label).
      let same : k.label ≡ h.label = omega (arith, ge, le) in
      let there = label_back k.label k.four m k.here in
      let here = subst (λ (n : ℕ). IsLabelOf size (block_of size b n) m) same there in
      one_label (block_of size b h.label) m l here.spelled h.here.spelled)
      (cases_lt k.label h.label))
      (cases_lt h.label k.label)

  label_same : (o p : Option Label) → ShowsLabel size b o → ShowsLabel size a p → p ≡ o
  label_same None None h k = refl
  label_same None (Some m) h k = absurd (h k.label k.four m (label_back k.label k.four m k.here))
  label_same (Some l) None h k = absurd (k h.label h.four l (label_on h.label h.four l h.here))
  label_same (Some l) (Some m) h k = ap Some (one_first l m h k)

  module _ (x y : Seen) (had : Shows size b x) (has : Shows size a y) where
    pub labels_are : y.label ≡ x.label
    labels_are = label_same x.label y.label had.label has.label

    abbrev HasRoots : List ℕ → List Uber → Option Label → Type 0
    HasRoots bytes us o = MatchOption o (us ≡ []) (λ l. AreRoots size bytes 4 l us)

    -- a root in the place of this one is this one
    in_place : (block : List ℕ) (v : Uber) → (block ≡ uber_block u) ⊎ IsNoMark block → SpellsUber block v → v ≡ u
    in_place block v (inl put) stands = one_uber (uber_block u) v u (subst (λ (bytes : List ℕ). SpellsUber bytes v) put stands) (record { lawful = lawful; spelling = refl })
    in_place block v (inr none) stands = absurd (none (of_group v) stands)

    root_of : (o : Option Label) → HasRoots b x.ubers o → HasRoots a y.ubers o → (v : Uber) → Contains y.ubers v → Contains x.ubers v ⊎ (v ≡ u)
    root_of None old new v at = absurd (let in_none = (subst (λ (us : List Uber). Contains us v) new at).1 in omega (arith, in_none))
    root_of (Some l) old new v at =
        let e = new.each v at in
        let k = e.1 in
        let lt = e.2 in
        elim (rings k (slot_of v.txg) lt (omega arith)) [
          | inl same ↦ inl (old.all v k lt (subst (λ (block : List ℕ). SpellsUber block v) same e.3) e.0)
          | inr put ↦ inr (in_place (ring_block size a k (slot_of v.txg)) v put.1 e.3)
        ]

    pub roots_are : (v : Uber) → Contains y.ubers v → Contains x.ubers v ⊎ (v ≡ u)
    roots_are v at = root_of x.label had.roots (subst (λ (o : Option Label). HasRoots a y.ubers o) labels_are has.roots) v at

    abbrev HasNewer : List ℕ → Option Newer → Option Label → Type 0
    HasNewer bytes n o = MatchOption o (n ≡ None) (λ l. ShowsNewer size bytes 4 l.guid n)

    newer_by : (guid : ℕ) (n : Option Newer) (z : Newer) → ShowsNewer size b 4 guid n → ShowsNewer size a 4 guid (Some z) → (w : Newer) × (n ≡ Some w) × (z.txg ≤ w.txg)
    newer_by guid n z old new = by_place n old (rings new.label (slot_of z.txg) new.among (omega arith))
      where
        by_place : (m : Option Newer) → ShowsNewer size b 4 guid m → IsRingOf u (slot_of z.txg) (ring_block size b new.label (slot_of z.txg)) (ring_block size a new.label (slot_of z.txg)) → (w : Newer) × (m ≡ Some w) × (z.txg ≤ w.txg)
        by_place None none (inl same) = absurd (none new.label z.version z.txg new.among (subst (λ (block : List ℕ). SpellsNewer block guid z.version z.txg) same new.stands))
        by_place (Some w) was (inl same) = (w, refl, was.highest new.label z.version z.txg new.among (subst (λ (block : List ℕ). SpellsNewer block guid z.version z.txg) same new.stands))
        by_place m was (inr (place, inl put)) = absurd (known_or_not (uber_block u) u guid z.version z.txg (record { lawful = lawful; spelling = refl }) (subst (λ (block : List ℕ). SpellsNewer block guid z.version z.txg) put new.stands))
        by_place m was (inr (place, inr none)) = absurd (none (unknown guid z.version z.txg) new.stands)

    newer_of : (o : Option Label) → HasNewer b x.newer o → HasNewer a y.newer o → (z : Newer) → y.newer ≡ Some z → (w : Newer) × (x.newer ≡ Some w) × (z.txg ≤ w.txg)
    newer_of None old new z is = absurd (let e = sym new ∙ is in cc)
    newer_of (Some l) old new z is = newer_by l.guid x.newer z old (subst (λ (n : Option Newer). ShowsNewer size a 4 l.guid n) is new)

    pub newer_is : (z : Newer) → y.newer ≡ Some z → (w : Newer) × (x.newer ≡ Some w) × (z.txg ≤ w.txg)
    newer_is z is = newer_of x.label had.newer (subst (λ (o : Option Label). HasNewer a y.newer o) labels_are has.newer) z is

    root_in : (o : Option Label) → HasRoots a y.ubers o → (l : Label) → o ≡ Some l → (n : ℕ) → n < 4 → Stands size a n u → IsRootFor l u → Contains y.ubers u
    root_in None new l is n lt stands suits = absurd cc
    root_in (Some m) new l is n lt stands suits = let same : m ≡ l = cc in new.all u n lt stands (subst (λ (k : Label). IsRootFor k u) (sym same) suits)

-- a ring slot that was put into
ring_put : (u : Uber) (k : ℕ) (old new : List ℕ) → (new ≡ old) ⊎ ((k ≡ slot_of u.txg) × (new ≡ uber_block u)) → IsRingOf u k old new
ring_put u k old new (inl same) = inl same
ring_put u k old new (inr (place, put)) = inr (place, inl put)

-- ---- all slots

pub long_seen : (disks : List (List ℕ)) (seen : List Seen) → ShowsAll disks seen → length seen ≡ length disks
long_seen [] [] shows = refl
long_seen [] (x ∷ seen) shows = absurd shows
long_seen (bytes ∷ disks) [] shows = absurd shows
long_seen (bytes ∷ disks) (x ∷ seen) shows = let rest = long_seen disks seen shows.1 in omega (arith, rest)

pub shows_at : (disks : List (List ℕ)) (seen : List Seen) → ShowsAll disks seen → (slot : ℕ) → slot < length seen → Shows (length (disk disks slot)) (disk disks slot) (seen_at seen slot)
shows_at [] [] shows slot lt = absurd (omega (arith, lt))
shows_at [] (x ∷ seen) shows slot lt = absurd shows
shows_at (bytes ∷ disks) [] shows slot lt = absurd shows
shows_at (bytes ∷ disks) (x ∷ seen) shows zero lt = shows.0
shows_at (bytes ∷ disks) (x ∷ seen) shows (suc slot) lt = shows_at disks seen shows.1 slot (omega (arith, lt))

pub past_seen : (seen : List Seen) (slot : ℕ) → length seen ≤ slot → seen_at seen slot ≡ record { label = None; ubers = []; newer = None }
past_seen seen slot le = get_or-eq_default seen (record { label = None; ubers = []; newer = None }) le

module _ (before after : List (List ℕ)) (seen next : List Seen) (u : Uber) (lawful : IsUber u) (shown : ShowsAll before seen) (later : ShowsAll after next) (puts : PutsRoot before after u) (somewhere : StandsSomewhere after seen u) where
  count : length next ≡ length seen
  count = long_seen after next later ∙ (puts.count ∙ sym (long_seen before seen shown))

  module _ (slot : ℕ) (lt : slot < length seen) where
    abbrev size : ℕ
    size = length (disk before slot)

    had : Shows size (disk before slot) (seen_at seen slot)
    had = shows_at before seen shown slot lt

    has : Shows size (disk after slot) (seen_at next slot)
    has = subst (λ (n : ℕ). Shows n (disk after slot) (seen_at next slot)) (puts.sizes slot) (shows_at after next later slot (let n = count in omega (arith, n, lt)))

    ring_of : (n k : ℕ) → n < 4 → k < 32 → IsRingOf u k (ring_block size (disk before slot) n k) (ring_block size (disk after slot) n k)
    ring_of n k few low = ring_put u k (ring_block size (disk before slot) n k) (ring_block size (disk after slot) n k) (puts.rings slot n k few low)

    label_kept : (seen_at next slot).label ≡ (seen_at seen slot).label
    label_kept = labels_are size (disk before slot) (disk after slot) u lawful (λ n few. puts.labels slot n few) ring_of (seen_at seen slot) (seen_at next slot) had has

    roots_kept : (v : Uber) → IsShownAt next slot v → IsShownAt seen slot v ⊎ (v ≡ u)
    roots_kept v at = roots_are size (disk before slot) (disk after slot) u lawful (λ n few. puts.labels slot n few) ring_of (seen_at seen slot) (seen_at next slot) had has v at

    newer_kept : (z : Newer) → (seen_at next slot).newer ≡ Some z → (w : Newer) × ((seen_at seen slot).newer ≡ Some w) × (z.txg ≤ w.txg)
    newer_kept z is = newer_is size (disk before slot) (disk after slot) u lawful (λ n few. puts.labels slot n few) ring_of (seen_at seen slot) (seen_at next slot) had has z is

  past : (slot : ℕ) → length seen ≤ slot → seen_at next slot ≡ seen_at seen slot
  past slot le = past_seen next slot (let n = count in omega (arith, n, le)) ∙ sym (past_seen seen slot le)

  put_at : IsShownAt next somewhere.slot u
  put_at =
      let slot = somewhere.slot in
      let lt = somewhere.known in
      root_in (size slot lt) (disk before slot) (disk after slot) u lawful (λ n few. puts.labels slot n few) (ring_of slot lt) (seen_at seen slot) (seen_at next slot) (had slot lt) (has slot lt)
      (seen_at next slot).label (has slot lt).roots somewhere.label (label_kept slot lt ∙ somewhere.label_is) somewhere.ring somewhere.four
      (subst (λ (n : ℕ). Stands n (disk after slot) somewhere.ring u) (puts.sizes slot) somewhere.stands) somewhere.suits

  pub put_shown : ShowsNext seen next u
  put_shown = record {
    count = count;
    labels = λ slot. ⊎_elim (λ (lt : slot < length seen). label_kept slot lt) (λ (le : length seen ≤ slot). ap (λ (x : Seen). x.label) (past slot le)) (cases_lt slot (length seen));
    roots = λ slot v at. ⊎_elim (λ (lt : slot < length seen). roots_kept slot lt v at) (λ (le : length seen ≤ slot). inl (subst (λ (x : Seen). Contains x.ubers v) (past slot le) at)) (cases_lt slot (length seen));
    newer = λ slot z is.
        ⊎_elim
        (λ (lt : slot < length seen). newer_kept slot lt z is)
        (λ (le : length seen ≤ slot). (z, ap (λ (x : Seen). x.newer) (sym (past slot le)) ∙ is, omega arith))
        (cases_lt slot (length seen));
    shown = (somewhere.slot, put_at);
  }
