-- The places of labels, rings and roots on a disk that is neither too small nor too large.
use Rattle.std.proofs.Common.{◌≡◌, ℕ, zero, suc, ◌+◌, ◌*◌, ◌-◌, ◌/◌, ◌%◌, ◌<◌, ◌≤◌, List, length, take, drop, get_or, refl, sym, ◌∙◌, ap, subst, arith, IsTrue}
use Rattle.std.specs.Prelude.{slice_index, ◌&&◌, Bool, true, false, Some, None, if◌then◌else◌}
use Rattle.std.specs.List.{AllByRecursion}
use Rattle.std.proofs.lemmas.Bool.{leb-true}
use Rattle.std.proofs.lemmas.List.{drop-take, drop-drop, take-take, drop-replicate, take-replicate}
use Rattle.zr_shelf.specs.Disks.{disk, part, Stand}
use Rattle.zr_label.specs.Geometry.{whole, is_disk_size, units_of_size, label_at, label_block_at, ring_slot_at, slot_of}
use Rattle.zr_scan.specs.Puts.{AreSpread, label_place, ring_at, ring_places, root_places}
use Rattle.zr_label.specs.Blocks.{SpellsLabel, SpellsUber, padding}
use Rattle.zr_label.specs.declared.root.Label.{Label}
use Rattle.zr_label.specs.declared.root.Uber.{Uber}
use Rattle.zr_scan.specs.Scan.{block_of, ring_block, Stands}
use Rattle.zr_scan.specs.Rings.{in_ring}

both : (a b : Bool) → IsTrue (a && b) → a ≡ true
both true b h = refl
both false b h = absurd cc

-- at least 8,388,608 bytes are used
pub used_enough : (size : ℕ) → IsTrue (is_disk_size 2 size) → 8388608 ≤ whole size
used_enough size h = leb-true 8388608 (whole size) (both _ _ h)

pub whole_fits : (size : ℕ) → whole size ≤ size
whole_fits size = omega arith

module _ (size : ℕ) (used : IsTrue (is_disk_size 2 size)) where
  -- a label ends before the disk does
  pub label_fits : (n : ℕ) → n < 4 → label_at size n + 262144 ≤ size
  label_fits zero lt = omega (arith, used_enough size used, whole_fits size)
  label_fits (suc zero) lt = omega (arith, used_enough size used, whole_fits size)
  label_fits (suc (suc zero)) lt = omega (arith, used_enough size used, whole_fits size)
  label_fits (suc (suc (suc zero))) lt = omega (arith, used_enough size used, whole_fits size)
  label_fits (suc (suc (suc (suc n)))) lt = absurd (omega arith)

  -- labels do not overlap
  pub label_next : (n : ℕ) → n < 3 → label_at size n + 262144 ≤ label_at size (n + 1)
  label_next zero lt = omega arith
  label_next (suc zero) lt = omega (arith, used_enough size used)
  label_next (suc (suc zero)) lt = omega (arith, used_enough size used)
  label_next (suc (suc (suc n))) lt = absurd (omega arith)

  pub label_fit : (k n : ℕ) → k < 4 → n ≡ 4096 → AllByRecursion (λ at. at + n ≤ size) (label_place size k)
  label_fit k n low is = (omega (arith, label_fits k low), tt)

  pub rings_fit : (n : ℕ) → n ≡ 131072 → AllByRecursion (λ at. at + n ≤ size) (ring_places size)
  rings_fit n is = (omega (arith, label_fits 0 (omega arith)), (omega (arith, label_fits 1 (omega arith)), (omega (arith, label_fits 2 (omega arith)), (omega (arith, label_fits 3 (omega arith)), tt))))

  pub rings_apart : (n : ℕ) → n ≡ 131072 → AreSpread n (ring_places size)
  rings_apart n is = (omega (arith, label_next 0 (omega arith)), (omega (arith, label_next 1 (omega arith)), (omega (arith, label_next 2 (omega arith)), tt)))

  pub roots_fit : (first txg n : ℕ) → first < 2 → n ≡ 4096 → AllByRecursion (λ at. at + n ≤ size) (root_places size first txg)
  roots_fit first txg n lt is =
      let place : txg % 32 < 32 = omega arith in
      (omega (arith, place, label_fits first (omega arith)), (omega (arith, place, label_fits (first + 2) (omega arith)), tt))

  pub roots_apart : (first txg n : ℕ) → first < 2 → n ≡ 4096 → AreSpread n (root_places size first txg)
  roots_apart zero txg n lt is = let place : txg % 32 < 32 = omega arith in (omega (arith, place, label_next 0 (omega arith), label_next 1 (omega arith)), tt)
  roots_apart (suc zero) txg n lt is = let place : txg % 32 < 32 = omega arith in (omega (arith, place, label_next 1 (omega arith), label_next 2 (omega arith)), tt)
  roots_apart (suc (suc first)) txg n lt is = absurd (omega arith)

pub ring_place : (size n : ℕ) → n < 4 → get_or (ring_places size) n 0 ≡ ring_at size n
ring_place size zero lt = refl
ring_place size (suc zero) lt = refl
ring_place size (suc (suc zero)) lt = refl
ring_place size (suc (suc (suc zero))) lt = refl
ring_place size (suc (suc (suc (suc n)))) lt = absurd (omega arith)

-- a block of a ring, read with the ring or alone
pub in_ring_is : (size : ℕ) (bytes : List ℕ) (n k : ℕ) → k < 32 → in_ring (part bytes (ring_at size n) 131072) k ≡ ring_block size bytes n k
in_ring_is size bytes n k lt =
    let rest = 131072 - 4096 * k in
    let at = ring_at size n in
    let split : 131072 ≡ 4096 * k + rest = omega arith in
    let behind : drop (4096 * k) (take 131072 (drop at bytes)) ≡ take rest (drop (4096 * k) (drop at bytes)) =
    ap (λ (m : ℕ). drop (4096 * k) (take m (drop at bytes))) split ∙ drop-take (4096 * k) rest (drop at bytes) in
    ap (take 4096) behind ∙ (take-take 4096 rest (drop (4096 * k) (drop at bytes)) (omega arith) ∙ ap (take 4096) (drop-drop (4096 * k) at bytes))

-- the bytes are read at each place
abbrev pub AreRead : List ℕ → List ℕ → List ℕ → Type 0
AreRead disk places bytes = (j : ℕ) → j < length places → part disk (slice_index places j) (length bytes) ≡ bytes

pub label_read : (disk : List ℕ) (size sz n : ℕ) (places block : List ℕ) (l : Label) → sz ≡ size → places ≡ label_place sz n → length block ≡ 4096 → SpellsLabel block l → AreRead disk places block → SpellsLabel (block_of size disk n) l
label_read disk size sz n places block l size_is places_are long spells read =
    let at_is : get_or places 0 0 ≡ label_block_at size n = ap (λ (ps : List ℕ). get_or ps 0 0) places_are ∙ ap (λ (s : ℕ). label_block_at s n) size_is in
    let one : length places ≡ 1 = ap length places_are in
    let here : block_of size disk n ≡ block =
    ap (λ (a : ℕ). part disk a 4096) (sym at_is) ∙ (ap (λ (m : ℕ). part disk (get_or places 0 0) m) (sym long) ∙ read 0 (omega (arith, one))) in
    subst (λ (b : List ℕ). SpellsLabel b l) (sym here) spells

module _ (disk : List ℕ) (size sz first : ℕ) (places block : List ℕ) (u : Uber) (size_is : sz ≡ size) (places_are : places ≡ root_places sz first u.txg) (long : length block ≡ 4096) (spells : SpellsUber block u) (read : AreRead disk places block) where
  read_at : (j n : ℕ) → j < 2 → get_or (root_places sz first u.txg) j 0 ≡ ring_slot_at sz n (slot_of u.txg) → Stands size disk n u
  read_at j n lt at =
      let at_is : get_or places j 0 ≡ ring_slot_at size n (slot_of u.txg) = ap (λ (ps : List ℕ). get_or ps j 0) places_are ∙ (at ∙ ap (λ (s : ℕ). ring_slot_at s n (slot_of u.txg)) size_is) in
      let two : length places ≡ 2 = ap length places_are in
      let here : ring_block size disk n (slot_of u.txg) ≡ block =
      ap (λ (a : ℕ). part disk a 4096) (sym at_is) ∙ (ap (λ (m : ℕ). part disk (get_or places j 0) m) (sym long) ∙ read j (omega arith)) in
      subst (λ (b : List ℕ). SpellsUber b u) (sym here) spells

  pub root_read : Stands size disk first u
  root_read = read_at 0 first (omega arith) refl

  pub root_read_too : Stands size disk (first + 2) u
  root_read_too = read_at 1 (first + 2) (omega arith) refl

block_of_zeros : (k : ℕ) → k < 32 → in_ring (padding 131072) k ≡ padding 4096
unfolding padding
block_of_zeros k lt = ap (take 4096) (drop-replicate (4096 * k) 131072 0) ∙ take-replicate 4096 (131072 - 4096 * k) 0 (omega arith)

pub ring_cleared : (disk : List ℕ) (size sz : ℕ) (places zeros : List ℕ) → sz ≡ size → places ≡ ring_places sz → length zeros ≡ 131072 → zeros ≡ padding 131072 → AreRead disk places zeros →
    (n k : ℕ) → n < 4 → k < 32 → ring_block size disk n k ≡ padding 4096
ring_cleared disk size sz places zeros size_is places_are long zeros_are read n k lt small =
    let at_is : get_or places n 0 ≡ ring_at size n = ap (λ (ps : List ℕ). get_or ps n 0) places_are ∙ (ring_place sz n lt ∙ ap (λ (s : ℕ). ring_at s n) size_is) in
    let four : length places ≡ 4 = ap length places_are in
    let here : part disk (ring_at size n) 131072 ≡ padding 131072 =
    ap (λ (a : ℕ). part disk a 131072) (sym at_is) ∙ (ap (λ (m : ℕ). part disk (get_or places n 0) m) (sym long) ∙ (read n (omega arith) ∙ zeros_are)) in
    sym (in_ring_is size disk n k small) ∙ (ap (λ (r : List ℕ). in_ring r k) here ∙ block_of_zeros k small)

-- a disk with units is neither too small nor too large
pub used_of : (size units : ℕ) → units_of_size size 2 ≡ Some units → IsTrue (is_disk_size 2 size)
used_of size units is = go (is_disk_size 2 size) is
  where
    go : (b : Bool) → (if b then Some ((whole size - 4718592) / 4096) else None) ≡ Some units → IsTrue b
    go true e = refl
    go false e = cc

-- what is read of a shelf that stands as it stood first
pub block_read : (now first : Stand) (slot at n size : ℕ) (out : List ℕ) → now ≡ first → at ≡ label_block_at size n → out ≡ part (disk now.seen slot) at 4096 → out ≡ block_of size (disk first.seen slot) n
block_read now first slot at n size out same at_is read =
    read ∙ (ap (λ (s : Stand). part (disk s.seen slot) at 4096) same ∙ ap (λ (a : ℕ). part (disk first.seen slot) a 4096) at_is)

pub ring_read : (now first : Stand) (slot at n size m : ℕ) (out : List ℕ) → now ≡ first → at ≡ ring_at size n → m ≡ 131072 → out ≡ part (disk now.seen slot) at m → out ≡ part (disk first.seen slot) (ring_at size n) 131072
ring_read now first slot at n size m out same at_is long read =
    read ∙ (ap (λ (s : Stand). part (disk s.seen slot) at m) same ∙ (ap (λ (a : ℕ). part (disk first.seen slot) a m) at_is ∙ ap (λ (k : ℕ). part (disk first.seen slot) (ring_at size n) k) long))
