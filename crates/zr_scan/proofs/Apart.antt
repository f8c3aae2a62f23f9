-- Which blocks a call leaves alone: labels, rings and roots do not overlap.
use Rattle.std.proofs.Common.{◌≡◌, ◌≢◌, ◌⊎◌, inl, inr, ℕ, zero, suc, ◌+◌, ◌*◌, ◌%◌, ◌<◌, ◌≤◌, List, length, refl, ap, subst, arith, IsTrue}
use Rattle.std.proofs.lemmas.Bool.{cases_lt}
use Rattle.zr_shelf.specs.Disks.{PendingWrite, Meets, IsUntouched}
use Rattle.zr_label.specs.Geometry.{is_disk_size, label_at, label_block_at, ring_slot_at, slot_of}
use Rattle.zr_scan.specs.Puts.{puts, label_place, ring_at, ring_places, root_places}
use Rattle.zr_scan.proofs.Putting.{one_put}
use Rattle.zr_scan.proofs.Spacing.{label_next}

module _ (size : ℕ) (used : IsTrue (is_disk_size 2 size)) where
  -- a later label lies behind an earlier one
  before : (n m : ℕ) → n < m → m < 4 → label_at size n + 262144 ≤ label_at size m
  before n zero lt four = absurd (omega arith)
  before n (suc m) lt four = elim (cases_lt n m) [
    | inl small ↦ let first = before n m small (omega arith) in let next = label_next size used m (omega arith) in let is : m + 1 ≡ suc m = omega arith in
        subst (λ (k : ℕ). label_at size n + 262144 ≤ label_at size k) is (omega (arith, first, next))
    | inr large ↦ let same : m ≡ n = omega arith in let is : n + 1 ≡ suc m = omega arith in
        subst (λ (k : ℕ). label_at size n + 262144 ≤ label_at size k) is (label_next size used n (omega arith))
  ]

  -- x bytes from a on in label n, and y bytes from b on in label m
  pub apart : (w : PendingWrite) (s at x n m a b y : ℕ) → n < 4 → m < 4 → at ≡ label_at size n + a → w.at ≡ label_at size m + b → length w.bytes ≡ y → a + x ≤ 262144 → b + y ≤ 262144 →
      (n ≡ m → (a + x ≤ b) ⊎ (b + y ≤ a)) → ¬ Meets w s at x
  apart w s at x n m a b y n_four m_four at_is w_is long a_in b_in same meets =
      let begins = meets.begins in
      let ends = meets.ends in
      elim (cases_lt n m) [
        | inl less ↦ let far = before n m less m_four in omega (arith, begins, ends, far)
        | inr more ↦ elim (cases_lt m n) [
          | inl less ↦ let far = before m n less n_four in omega (arith, begins, ends, far)
          | inr most ↦ here (omega arith)
        ]
      ]
    where
      here : n ≡ m → ⊥
      here is =
          let begins = meets.begins in
          let ends = meets.ends in
          let one = ap (label_at size) is in
          elim (same is) [
            | inl front ↦ omega (arith, begins, ends, one, front)
            | inr behind ↦ omega (arith, begins, ends, one, behind)
          ]

  -- clearing the rings leaves the labels
  pub clearing_keeps_label : (slot n : ℕ) (zeros : List ℕ) → length zeros ≡ 131072 → n < 4 → IsUntouched (puts slot (ring_places size) zeros) slot (label_block_at size n) 4096
  clearing_keeps_label slot n zeros long lt = (one 0 (omega arith), (one 1 (omega arith), (one 2 (omega arith), (one 3 (omega arith), tt))))
    where
      one : (m : ℕ) → m < 4 → ¬ Meets (one_put slot zeros (ring_at size m)) slot (label_block_at size n) 4096
      one m four = apart (one_put slot zeros (ring_at size m)) slot (label_block_at size n) 4096 n m 16384 131072 131072 lt four refl refl long (omega arith) (omega arith) (λ e. inl (omega arith))

  module _ (slot m : ℕ) (block : List ℕ) (long : length block ≡ 4096) (four : m < 4) where
    -- putting a label leaves the rings
    pub label_keeps_ring : (n k : ℕ) → n < 4 → k < 32 → IsUntouched (puts slot (label_place size m) block) slot (ring_slot_at size n k) 4096
    label_keeps_ring n k lt small = (apart (one_put slot block (label_block_at size m)) slot (ring_slot_at size n k) 4096 n m (131072 + 4096 * k) 16384 4096 lt four (omega arith) refl long (omega arith) (omega arith) (λ e. inr (omega arith)), tt)

    -- and the other label blocks
    pub label_keeps_label : (n : ℕ) → n < 4 → n ≢ m → IsUntouched (puts slot (label_place size m) block) slot (label_block_at size n) 4096
    label_keeps_label n lt other = (apart (one_put slot block (label_block_at size m)) slot (label_block_at size n) 4096 n m 16384 16384 4096 lt four refl refl long (omega arith) (omega arith) (λ e. absurd (other e)), tt)

  module _ (slot first txg : ℕ) (block : List ℕ) (long : length block ≡ 4096) (low : first < 2) where
    place_small : txg % 32 < 32
    place_small = omega arith

    -- putting a root leaves the labels
    pub root_keeps_label : (n : ℕ) → n < 4 → IsUntouched (puts slot (root_places size first txg) block) slot (label_block_at size n) 4096
    root_keeps_label n lt = (one first (omega arith), (one (first + 2) (omega arith), tt))
      where
        one : (m : ℕ) → m < 4 → ¬ Meets (one_put slot block (ring_slot_at size m (slot_of txg))) slot (label_block_at size n) 4096
        one m four =
            let small = place_small in
            apart (one_put slot block (ring_slot_at size m (slot_of txg))) slot (label_block_at size n) 4096 n m 16384 (131072 + 4096 * slot_of txg) 4096 lt four refl (omega arith) long (omega arith) (omega arith) (λ e. inl (omega arith))

    -- putting a root leaves the blocks of other slots, and those of the other two rings
    pub root_keeps_others : (n k : ℕ) → n < 4 → k < 32 → (k ≢ slot_of txg) ⊎ ((n ≢ first) × (n ≢ first + 2)) → IsUntouched (puts slot (root_places size first txg) block) slot (ring_slot_at size n k) 4096
    root_keeps_others n k lt in_ring other = (one first (omega arith) (λ is. elim other [ inl k_other ↦ k_other | inr n_other ↦ absurd (n_other.0 is) ]), (one (first + 2) (omega arith) (λ is. elim other [ inl k_other ↦ k_other | inr n_other ↦ absurd (n_other.1 is) ]), tt))
      where
        order : k ≢ slot_of txg → (k < slot_of txg) ⊎ (slot_of txg ≤ k) → ((131072 + 4096 * k) + 4096 ≤ 131072 + 4096 * slot_of txg) ⊎ ((131072 + 4096 * slot_of txg) + 4096 ≤ 131072 + 4096 * k)
        order ne (inl less) = inl (omega arith)
        order ne (inr more) = inr (omega arith)

        one : (m : ℕ) → m < 4 → (n ≡ m → k ≢ slot_of txg) → ¬ Meets (one_put slot block (ring_slot_at size m (slot_of txg))) slot (ring_slot_at size n k) 4096
        one m four differs =
            let small = place_small in
            apart (one_put slot block (ring_slot_at size m (slot_of txg))) slot (ring_slot_at size n k) 4096 n m (131072 + 4096 * k) (131072 + 4096 * slot_of txg) 4096 lt four (omega arith) (omega arith) long (omega arith) (omega arith)
            (λ e. order (differs e) (cases_lt k (slot_of txg)))
