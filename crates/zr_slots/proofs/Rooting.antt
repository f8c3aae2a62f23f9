-- Roots put into several slots, and what the flushes between make of it.
use Rattle.std.proofs.Common.{◌≡◌, ◌≢◌, ◌⊎◌, inl, inr, ℕ, suc, ◌+◌, ◌-◌, ◌<◌, ◌≤◌, List, [], ◌∷◌, length, get_or, Result, Ok, Err, sym, subst, arith}
use Rattle.std.specs.Prelude.{slice_index, Contains, IsErr, OnOk}
use Rattle.std.proofs.lemmas.Bool.{cases_lt}
use Rattle.std.proofs.lemmas.List.{get_or_read}
use Rattle.std.proofs.lemmas.Grind.{get_or_default_zero}
use Rattle.zr_shelf.specs.Disks.{disk, Stand, PendingWrite, IsUntouched, IsSameOutside}
use Rattle.zr_shelf.specs.Moments.{World, IsStill}
use Rattle.zr_shelf.specs.Doings.{Adds, IsAdded, WritesOnly, latest}
use Rattle.zr_shelf.specs.Doings.Adds.{added_none, added}
use Rattle.zr_shelf.proofs.Doings.{writes_more, writes_still}
use Rattle.zr_label.specs.Blocks.{SpellsUber, uber_block}
use Rattle.zr_label.specs.Geometry.{ring_slot_at, slot_of}
use Rattle.zr_label.specs.declared.root.Uber.{Uber}
use Rattle.zr_label.specs.declared.root.Label.{Label}
use Rattle.zr_scan.specs.Puts.{puts, root_places}
use Rattle.zr_scan.specs.Scan.{Stands}
use Rattle.zr_scan.specs.declared.error.ScanErr.{ScanErr}
use Rattle.zr_slots.specs.Phases.{AreCleared, IsFlushed, IsLabelPut, IsRootPut, IsRingPut, HaveRoot, IsPublished, IsPublishedInPart, Publishes, Prepares, PutsLabels, PutsLast, SettlesLabel, IsPreparedToHalf}

-- writes that are allowed by less are allowed by more
module _ (A B : PendingWrite → Type 0) (wider : (w : PendingWrite) → A w → B w) where
  adds_wider : (old new : Stand) → Adds A old new → Adds B old new
  adds_wider old new (added_none is) = added_none is
  adds_wider old new (added w may written) = added w (wider w may) written

  added_wider : (more : List Stand) (first : Stand) → IsAdded A more first → IsAdded B more first
  added_wider [] first h = tt
  added_wider (s ∷ more) first h = (adds_wider (latest more first) s h.0, added_wider more first h.1)

  pub writes_wider : (old new : World) → WritesOnly A old new → WritesOnly B old new
  writes_wider old new h = record { more = h.more; joins = h.joins; added = added_wider h.more old.now h.added }

-- the root reads back from the two labels of the slot
pub record HasTwo (sizes : List ℕ) (slot first : ℕ) (u : Uber) (disks : List (List ℕ)) : Type 0 where
  pub one : Stands (slice_index sizes slot) (disk disks slot) first u
  pub other : Stands (slice_index sizes slot) (disk disks slot) (first + 2) u

-- writes to another slot leave this one
other_slot : (slot s : ℕ) (bytes : List ℕ) (places : List ℕ) (at n : ℕ) → slot ≢ s → IsUntouched (puts slot places bytes) s at n
other_slot slot s bytes [] at n ne = tt
other_slot slot s bytes (p ∷ places) at n ne = ((λ m. ne m.same), other_slot slot s bytes places at n ne)

module _ (sizes : List ℕ) (slot s first : ℕ) (u : Uber) (old new : List (List ℕ)) (rest : IsSameOutside (puts slot (root_places (slice_index sizes slot) first u.txg) (uber_block u)) old new) where
  stays_at : slot ≢ s → (n : ℕ) → Stands (slice_index sizes s) (disk old s) n u → Stands (slice_index sizes s) (disk new s) n u
  stays_at ne n h =
      let at = ring_slot_at (slice_index sizes s) n (slot_of u.txg) in
      let same = rest.bytes s at 4096 (other_slot slot s (uber_block u) (root_places (slice_index sizes slot) first u.txg) at 4096 ne) in
      subst (λ (b : List ℕ). SpellsUber b u) (sym same) h

  -- what was put stays or is put again
  pub two_stay : HasTwo sizes slot first u new → HasTwo sizes s first u old → HasTwo sizes s first u new
  two_stay here before = elim (cases_lt slot s) [
    | inl less ↦ record { one = stays_at (λ e. omega (arith, e, less)) first before.one; other = stays_at (λ e. omega (arith, e, less)) (first + 2) before.other }
    | inr more ↦ elim (cases_lt s slot) [
      | inl less ↦ record { one = stays_at (λ e. omega (arith, e, less)) first before.one; other = stays_at (λ e. omega (arith, e, less)) (first + 2) before.other }
      | inr most ↦ let same : slot ≡ s = omega arith in subst (λ (j : ℕ). HasTwo sizes j first u new) same here
    ]
  ]

-- one slot more
pub two_more : (sizes slots : List ℕ) (i first : ℕ) (u : Uber) (old new : List (List ℕ)) →
    IsSameOutside (puts (get_or slots i 0) (root_places (slice_index sizes (get_or slots i 0)) first u.txg) (uber_block u)) old new →
    HasTwo sizes (get_or slots i 0) first u new → ((k : ℕ) → k < i → HasTwo sizes (slice_index slots k) first u old) → (k : ℕ) → k < i + 1 → HasTwo sizes (slice_index slots k) first u new
two_more sizes slots i first u old new rest here before k lt = elim (cases_lt k i) [
  | inl small ↦ two_stay sizes (get_or slots i 0) (slice_index slots k) first u old new rest here (before k small)
  | inr large ↦ let same : i ≡ k = omega arith in subst (λ (j : ℕ). HasTwo sizes (get_or slots j 0) first u new) same here
]

pub have_all : (sizes slots : List ℕ) (i first : ℕ) (u : Uber) (disks : List (List ℕ)) → length slots ≤ i → ((k : ℕ) → k < i → HasTwo sizes (slice_index slots k) first u disks) → HaveRoot sizes slots first u disks
have_all sizes slots i first u disks long two = record { one = λ slot has. (each slot has).one; other = λ slot has. (each slot has).other }
  where
    each : (slot : ℕ) → Contains slots slot → HasTwo sizes slot first u disks
    each slot (k, lt, is) = subst (λ (s : ℕ). HasTwo sizes s first u disks) (sym (get_or_read slots k slot lt (sym is) 0)) (two k (omega arith))

-- the writes of one slot are among those of all
pub root_put : (sizes slots : List ℕ) (i first : ℕ) (u : Uber) → i < length slots → (w : PendingWrite) → Contains (puts (get_or slots i 0) (root_places (slice_index sizes (get_or slots i 0)) first u.txg) (uber_block u)) w → IsRootPut sizes slots first u w
root_put sizes slots i first u lt w h = record { slot = get_or slots i 0; among = (i, lt, get_or_any slots i (get_or slots i 0) lt); put = h }
  where
    get_or_any : (xs : List ℕ) (i d : ℕ) → i < length xs → get_or xs i (get_or xs i 0) ≡ get_or xs i 0
    get_or_any xs i d lt = get_or_default_zero xs i (get_or xs i 0) lt

-- what a flush made durable is what was read before it
pub root_durable : (sizes slots : List ℕ) (first : ℕ) (u : Uber) (old new : World) → IsFlushed old new → HaveRoot sizes slots first u old.now.seen → HaveRoot sizes slots first u new.now.durable
root_durable sizes slots first u old new flush have = subst (λ (s : Stand). HaveRoot sizes slots first u s.durable) (sym flush.step) have

module _ (sizes both all : List ℕ) (u : Uber) (old first half : World) (before : IsFlushed old first) (wrote : WritesOnly (IsRootPut sizes both 0 u) first half) where
  pub stopped_half : (new : World) → IsStill half new → IsPublishedInPart sizes both all u old new
  stopped_half new still = inr (inl (record { first = first; before = before; wrote = writes_more (IsRootPut sizes both 0 u) first half new wrote (writes_still (IsRootPut sizes both 0 u) half new still) }))

  module _ (second whole : World) (between : IsFlushed half second) (have : HaveRoot sizes both 0 u half.now.seen) (rest : WritesOnly (IsRootPut sizes all 1 u) second whole) where
    pub stopped_almost : (new : World) → IsStill whole new → IsPublishedInPart sizes both all u old new
    stopped_almost new still = inr (inr (record {
      first = first;
      half = half;
      second = second;
      before = before;
      wrote = wrote;
      between = between;
      rest = writes_more (IsRootPut sizes all 1 u) second whole new rest (writes_still (IsRootPut sizes all 1 u) whole new still);
      durable = root_durable sizes both 0 u half second between have;
    }))

    pub published : (new : World) → IsFlushed whole new → HaveRoot sizes all 1 u whole.now.seen → IsPublished sizes both all u old new
    published new behind have_all = record {
      first = first;
      half = half;
      second = second;
      whole = whole;
      before = before;
      wrote = wrote;
      between = between;
      rest = rest;
      behind = behind;
      durable = root_durable sizes both 0 u half second between have;
      all_durable = root_durable sizes all 1 u whole new behind have_all;
    }

pub published_err : (sizes both all : List ℕ) (u : Uber) (r : Result (Unit {0}) ScanErr) (old new : World) → IsErr r → IsPublishedInPart sizes both all u old new → Publishes sizes both all u r old new
published_err sizes both all u (Ok done) old new is h = absurd cc
published_err sizes both all u (Err e) old new is h = h

-- ---- labels

pub on_ok : {P Q : Type 0} (r : Result (Unit {0}) ScanErr) → (P → Q) → OnOk r P → OnOk r Q
on_ok (Ok done) f h = f h
on_ok (Err e) f h = h

pub settled_err : (size slot n : ℕ) (l : Label) (r : Result (Unit {0}) ScanErr) (old new : World) → IsErr r → WritesOnly (IsLabelPut size slot n l) old new → SettlesLabel size slot n l r old new
settled_err size slot n l (Ok done) old new is h = absurd cc
settled_err size slot n l (Err e) old new is h = h

pub settles_err : (size slot n : ℕ) (l : Label) (e : ScanErr) (r : Result (Unit {0}) ScanErr) (old new : World) → r ≡ Err e → SettlesLabel size slot n l r old new → WritesOnly (IsLabelPut size slot n l) old new
settles_err size slot n l e r old new is h = subst (λ (x : Result (Unit {0}) ScanErr). SettlesLabel size slot n l x old new) is h

pub settles_ok : (size slot n : ℕ) (l : Label) (done : Unit {0}) (r : Result (Unit {0}) ScanErr) (old new : World) → r ≡ Ok done → SettlesLabel size slot n l r old new → SettlesLabel size slot n l (Ok tt) old new
settles_ok size slot n l done r old new is h = subst (λ (x : Result (Unit {0}) ScanErr). SettlesLabel size slot n l x old new) is h

pub next_last : (size slot k : ℕ) (l : Label) (old mid new : World) → PutsLast size slot k l old mid → SettlesLabel size slot (3 - k) l (Ok tt) mid new → PutsLast size slot (k + 1) l old new
next_last size slot k l old mid new last step = subst (λ (n : ℕ). PutsLast size slot n l old new) (one_more_is k) (mid, last, step)
  where
    one_more_is : (n : ℕ) → suc n ≡ n + 1
    one_more_is n = omega arith

pub labels_err : (size slot : ℕ) (l : Label) (r : Result (Unit {0}) ScanErr) (old new : World) → IsErr r → (k : ℕ) × (k < 4) × (mid : World) × PutsLast size slot k l old mid × WritesOnly (IsLabelPut size slot (3 - k) l) mid new → PutsLabels size slot l r old new
labels_err size slot l (Ok done) old new is h = absurd cc
labels_err size slot l (Err e) old new is h = h

-- a slot whose rings were cleared
pub prepared_by : (size slot : ℕ) (l : Label) (r : Result (Unit {0}) ScanErr) (old cleared first new : World) → WritesOnly (IsRingPut size slot) old cleared → IsFlushed cleared first → AreCleared size slot first.now.seen → PutsLabels size slot l r first new → Prepares size slot l r old new
prepared_by size slot l (Ok done) old cleared first new rings between blank labels = record { cleared = cleared; first = first; rings = rings; between = between; blank = blank; labels = labels }
prepared_by size slot l (Err e) old cleared first new rings between blank (k, few, mid, last, labels) = inr (record { cleared = cleared; first = first; rings = rings; between = between; blank = blank; k = k; few = few; mid = mid; last = last; labels = labels })

pub prepared_err : (size slot : ℕ) (l : Label) (r : Result (Unit {0}) ScanErr) (old new : World) → IsErr r → WritesOnly (IsRingPut size slot) old new ⊎ IsPreparedToHalf size slot l old new → Prepares size slot l r old new
prepared_err size slot l (Ok done) old new is h = absurd cc
prepared_err size slot l (Err e) old new is h = h
