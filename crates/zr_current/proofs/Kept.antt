-- What the slots show where only units were written.
use Rattle.std.proofs.Common.{◌≡◌, ℕ, zero, suc, ◌<◌, ◌≤◌, List, [], ◌∷◌, length, map, Option, Some, None, sym, ◌∙◌, subst, arith}
use Rattle.std.specs.Prelude.{MatchOption, slice_index}
use Rattle.zr_image.specs.Current.{ShowsAll, seen_at}
use Rattle.zr_label.specs.Blocks.{SpellsNewer, SpellsUber}
use Rattle.zr_label.specs.Geometry.{label_block_at, ring_slot_at, slot_of}
use Rattle.zr_label.specs.declared.root.Label.{Label}
use Rattle.zr_label.specs.declared.root.Newer.{Newer}
use Rattle.zr_label.specs.declared.root.Seen.{Seen}
use Rattle.zr_label.specs.declared.root.Uber.{Uber}
use Rattle.zr_scan.specs.Scan.{AreRoots, HasNoLabel, IsLabelOf, Shows, ShowsLabel, ShowsNewer, block_of, ring_block}
use Rattle.zr_shelf.specs.Disks.{disk}
use Rattle.zr_shelf.specs.Moments.{World}
use Rattle.zr_sync.specs.Pools.{IsOpen}
use Rattle.zr_sync.specs.Writes.{WritesIntoFree}
use Rattle.zr_sync.specs.declared.open.OpenPool.{OpenPool}
use Rattle.zr_current.proofs.Committed.{count_of, label_aside, length_at, part_kept, ring_aside, sizes_kept}
use Rattle.zr_current.proofs.Put.{long_seen, shows_at}
use Rattle.zr_current.specs.Current.{IsShownFor}

-- ---- one slot

module _ (size : ℕ) (b a : List ℕ) (labels : (n : ℕ) → n < 4 → block_of size a n ≡ block_of size b n) where
  no_label : (n : ℕ) → n ≤ 4 → HasNoLabel size b n → HasNoLabel size a n
  no_label n few none k lt l is = none k lt l (subst (λ (block : List ℕ). IsLabelOf size block l) (labels k (omega (arith, lt, few))) is)

  -- the label that is seen stays
  pub label_is : (o : Option Label) → ShowsLabel size b o → ShowsLabel size a o
  label_is None none = no_label 4 (omega arith) none
  label_is (Some l) first = record {
    label = first.label;
    four = first.four;
    here = subst (λ (block : List ℕ). IsLabelOf size block l) (sym (labels first.label first.four)) first.here;
    before = no_label first.label (let lt = first.four in omega (arith, lt)) first.before;
  }

  module _ (rings : (n k : ℕ) → n < 4 → k < 32 → ring_block size a n k ≡ ring_block size b n k) where
    roots_of : (l : Label) (us : List Uber) → AreRoots size b 4 l us → AreRoots size a 4 l us
    roots_of l us are = record {
      each = λ u at. let e = are.each u at in (e.0, e.1, e.2, subst (λ (block : List ℕ). SpellsUber block u) (sym (rings e.1 (slot_of u.txg) e.2 (omega arith))) e.3);
      all = λ u k lt stands suits. are.all u k lt (subst (λ (block : List ℕ). SpellsUber block u) (rings k (slot_of u.txg) lt (omega arith)) stands) suits;
    }

    roots_are : (us : List Uber) (o : Option Label) → MatchOption o (us ≡ []) (λ l. AreRoots size b 4 l us) → MatchOption o (us ≡ []) (λ l. AreRoots size a 4 l us)
    roots_are us None none = none
    roots_are us (Some l) are = roots_of l us are

    newer_stands : (guid n version txg : ℕ) → n < 4 → SpellsNewer (ring_block size a n (slot_of txg)) guid version txg → SpellsNewer (ring_block size b n (slot_of txg)) guid version txg
    newer_stands guid n version txg lt is = subst (λ (block : List ℕ). SpellsNewer block guid version txg) (rings n (slot_of txg) lt (omega arith)) is

    newer_of : (guid : ℕ) (x : Option Newer) → ShowsNewer size b 4 guid x → ShowsNewer size a 4 guid x
    newer_of guid None none = λ k version txg lt is. none k version txg lt (newer_stands guid k version txg lt is)
    newer_of guid (Some x) newest = record {
      label = newest.label;
      among = newest.among;
      stands = subst (λ (block : List ℕ). SpellsNewer block guid x.version x.txg) (sym (rings newest.label (slot_of x.txg) newest.among (omega arith))) newest.stands;
      highest = λ k version txg lt is. newest.highest k version txg lt (newer_stands guid k version txg lt is);
      first = λ k version lt is. newest.first k version lt (newer_stands guid k version x.txg (let few = newest.among in omega (arith, lt, few)) is);
    }

    newer_is : (x : Option Newer) (o : Option Label) → MatchOption o (x ≡ None) (λ l. ShowsNewer size b 4 l.guid x) → MatchOption o (x ≡ None) (λ l. ShowsNewer size a 4 l.guid x)
    newer_is x None none = none
    newer_is x (Some l) is = newer_of l.guid x is

    pub shows_still : (x : Seen) → Shows size b x → Shows size a x
    shows_still x is = record { label = label_is x.label is.label; roots = roots_are x.ubers x.label is.roots; newer = newer_is x.newer x.label is.newer }

-- ---- all slots

pub all_shown : (disks : List (List ℕ)) (seen : List Seen) → length seen ≡ length disks → ((slot : ℕ) → slot < length seen → Shows (length (disk disks slot)) (disk disks slot) (seen_at seen slot)) → ShowsAll disks seen
all_shown [] [] same each = tt
all_shown [] (x ∷ seen) same each = absurd (omega (arith, same))
all_shown (bytes ∷ disks) [] same each = absurd (omega (arith, same))
all_shown (bytes ∷ disks) (x ∷ seen) same each = (each zero (omega arith), all_shown disks seen (omega (arith, same)) (λ slot lt. each (suc slot) (omega (arith, lt))))

module _ (sizes : List ℕ) (pool : OpenPool) (before mid : World) (ready : IsOpen sizes pool) (sized : map length before.now.seen ≡ sizes) (wrote : WritesIntoFree pool before mid) where
  same_sizes : map length mid.now.seen ≡ map length before.now.seen
  same_sizes = sizes_kept sizes pool ready before mid wrote

  module _ (sl : ℕ) where
    old_size : length (disk before.now.seen sl) ≡ slice_index sizes sl
    old_size = length_at before.now.seen sizes sl sized

    new_size : length (disk mid.now.seen sl) ≡ length (disk before.now.seen sl)
    new_size = length_at mid.now.seen sizes sl (same_sizes ∙ sized) ∙ sym old_size

    label_kept : (n : ℕ) → n < 4 → block_of (length (disk before.now.seen sl)) (disk mid.now.seen sl) n ≡ block_of (length (disk before.now.seen sl)) (disk before.now.seen sl) n
    label_kept n few =
        subst (λ (size : ℕ). block_of size (disk mid.now.seen sl) n ≡ block_of size (disk before.now.seen sl) n) (sym old_size)
        (part_kept sizes pool ready sl (label_block_at (slice_index sizes sl) n) before mid (label_aside (slice_index sizes sl) n 16384 few (omega arith)) wrote)

    ring_kept : (n k : ℕ) → n < 4 → k < 32 → ring_block (length (disk before.now.seen sl)) (disk mid.now.seen sl) n k ≡ ring_block (length (disk before.now.seen sl)) (disk before.now.seen sl) n k
    ring_kept n k few low =
        subst (λ (size : ℕ). ring_block size (disk mid.now.seen sl) n k ≡ ring_block size (disk before.now.seen sl) n k) (sym old_size)
        (part_kept sizes pool ready sl (ring_slot_at (slice_index sizes sl) n k) before mid (ring_aside (slice_index sizes sl) n k few low) wrote)

    still : (x : Seen) → Shows (length (disk before.now.seen sl)) (disk before.now.seen sl) x → Shows (length (disk mid.now.seen sl)) (disk mid.now.seen sl) x
    still x is =
        subst (λ (size : ℕ). Shows size (disk mid.now.seen sl) x) (sym new_size)
        (shows_still (length (disk before.now.seen sl)) (disk before.now.seen sl) (disk mid.now.seen sl) label_kept ring_kept x is)

  all_still : (seen : List Seen) → ShowsAll before.now.seen seen → ShowsAll mid.now.seen seen
  all_still seen shown =
      all_shown mid.now.seen seen (long_seen before.now.seen seen shown ∙ sym (count_of before.now.seen mid.now.seen same_sizes))
      (λ slot lt. still slot (seen_at seen slot) (shows_at before.now.seen seen shown slot lt))

  pub shown_still : (u : Uber) → IsShownFor before.now.seen u pool → IsShownFor mid.now.seen u pool
  shown_still u is = record { seen = is.seen; shown = all_still is.seen is.shown; current = is.current; slots = is.slots }
