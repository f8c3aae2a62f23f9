-- A root that is published stands in ring slots, and nothing else of labels and rings was changed.
use Rattle.std.proofs.Common.{◌≡◌, ◌≢◌, ◌⊎◌, inl, inr, ℕ, zero, suc, ◌+◌, ◌-◌, ◌*◌, ◌<◌, ◌≤◌, List, [], ◌∷◌, length, map, get_or, refl, sym, ◌∙◌, ap, subst, arith, ⊎_elim}
use Rattle.std.specs.Prelude.{Contains, slice_index}
use Rattle.std.proofs.lemmas.Bool.{cases_lt, cases_eq}
use Rattle.std.proofs.lemmas.Bool.Decides.{nat_tests}
use Rattle.std.proofs.lemmas.List.{length-map}
use Rattle.std.proofs.Math.ListN.{get_or-map}
use Rattle.zr_label.specs.Blocks.{uber_block}
use Rattle.zr_label.specs.Geometry.{label_at, label_block_at, ring_slot_at, slot_of, whole}
use Rattle.zr_label.specs.declared.root.Uber.{Uber}
use Rattle.zr_scan.proofs.Putting.{untouched_apart}
use Rattle.zr_scan.specs.Puts.{puts, root_places}
use Rattle.zr_scan.specs.Scan.{Stands, block_of, ring_block}
use Rattle.zr_shelf.specs.Disks.{Stand, PendingWrite, Meets, disk, part}
use Rattle.zr_shelf.specs.Doings.{Adds, WritesOnly}
use Rattle.zr_shelf.specs.Doings.Adds.{added_none, added}
use Rattle.zr_shelf.specs.Moments.{World}
use Rattle.zr_shelf.proofs.Doings.{added_throughout}
use Rattle.zr_slots.specs.Phases.{IsFlushed, IsPublished, IsRootPut}
use Rattle.zr_current.specs.Next.{PutsRoot}

-- ---- places of labels

-- where a label begins, on a disk whose labels end at w
abbrev pub IsLabelAt : ℕ → ℕ → ℕ → Type 0
IsLabelAt w n a = ((n ≤ 1) × (a ≡ 262144 * n)) ⊎ ((2 ≤ n) × (n < 4) × (a + 262144 * (4 - n) ≡ w))

label_apart : (w n m a b : ℕ) → 8388608 ≤ w → n ≢ m → IsLabelAt w n a → IsLabelAt w m b → (a + 262144 ≤ b) ⊎ (b + 262144 ≤ a)
label_apart w n m a b big differ (inl (low, is)) (inl (also, at)) = elim (cases_lt n m) [
  | inl lt ↦ inl (omega (arith, lt, is, at))
  | inr ge ↦ inr (elim (cases_eq n m) [
    | inl same ↦ absurd (differ same)
    | inr other ↦ omega (arith, ge, other, is, at)
  ])
]
label_apart w n m a b big differ (inl (low, is)) (inr (high, few, at)) = inl (omega (arith, low, is, high, few, at, big))
label_apart w n m a b big differ (inr (high, few, is)) (inl (low, at)) = inr (omega (arith, low, at, high, few, is, big))
label_apart w n m a b big differ (inr (high, few, is)) (inr (also, less, at)) = elim (cases_lt n m) [
  | inl lt ↦ inl (omega (arith, lt, few, less, is, at))
  | inr ge ↦ inr (elim (cases_eq n m) [
    | inl same ↦ absurd (differ same)
    | inr other ↦ omega (arith, ge, other, few, less, is, at)
  ])
]

pub is_label_at : (size n : ℕ) → 8388608 ≤ whole size → n < 4 → IsLabelAt (whole size) n (label_at size n)
is_label_at size n big few = elim (cases_lt 1 n) [
  | inl high ↦ inr (omega (arith, high), few, back (whole size) (label_at size n) big (grind (arith, nat_tests, high)))
  | inr low ↦ inl (low, grind (arith, nat_tests, low))
]
  where
    back : (w a : ℕ) → 8388608 ≤ w → a ≡ w - 262144 * (4 - n) → a + 262144 * (4 - n) ≡ w
    back w a le is = omega (arith, le, is, few)

-- the ring slots of two places, or the same place
module _ (size : ℕ) (big : 8388608 ≤ whole size) (n m k j : ℕ) (few : n < 4) (less : m < 4) (low : k < 32) (lower : j < 32) where
  apart : n ≢ m → (label_at size n + 262144 ≤ label_at size m) ⊎ (label_at size m + 262144 ≤ label_at size n)
  apart differ = label_apart (whole size) n m (label_at size n) (label_at size m) big differ (is_label_at size n big few) (is_label_at size m big less)

  pub rings_apart : (n ≢ m) ⊎ (k ≢ j) → (ring_slot_at size m j + 4096 ≤ ring_slot_at size n k) ⊎ (ring_slot_at size n k + 4096 ≤ ring_slot_at size m j)
  rings_apart differ = by_label (label_at size n) (label_at size m) (cases_eq n m) differ (λ other. apart other) (λ same. ap (label_at size) same)
    where
      by_label : (a b : ℕ) → (n ≡ m) ⊎ (n ≢ m) → (n ≢ m) ⊎ (k ≢ j) → (n ≢ m → (a + 262144 ≤ b) ⊎ (b + 262144 ≤ a)) → (n ≡ m → a ≡ b) → (b + 131072 + 4096 * j + 4096 ≤ a + 131072 + 4096 * k) ⊎ (a + 131072 + 4096 * k + 4096 ≤ b + 131072 + 4096 * j)
      by_label a b (inl same) (inl other) far near = absurd (other same)
      by_label a b (inl same) (inr other) far near = let e = near same in elim (cases_lt k j) [
        | inl lt ↦ inr (omega (arith, lt, e))
        | inr ge ↦ inl (elim (cases_eq k j) [
          | inl alike ↦ absurd (other alike)
          | inr away ↦ omega (arith, ge, away, e)
        ])
      ]
      by_label a b (inr other) differ far near = elim (far other) [
        | inl before ↦ inr (omega (arith, before, low, lower))
        | inr behind ↦ inl (omega (arith, behind, low, lower))
      ]

  pub label_clear : (ring_slot_at size m j + 4096 ≤ label_block_at size n) ⊎ (label_block_at size n + 4096 ≤ ring_slot_at size m j)
  label_clear = by_label (label_at size n) (label_at size m) (cases_eq n m) (λ other. apart other) (λ same. ap (label_at size) same)
    where
      by_label : (a b : ℕ) → (n ≡ m) ⊎ (n ≢ m) → (n ≢ m → (a + 262144 ≤ b) ⊎ (b + 262144 ≤ a)) → (n ≡ m → a ≡ b) → (b + 131072 + 4096 * j + 4096 ≤ a + 16384) ⊎ (a + 16384 + 4096 ≤ b + 131072 + 4096 * j)
      by_label a b (inl same) far near = let e = near same in inr (omega (arith, e))
      by_label a b (inr other) far near = elim (far other) [
        | inl before ↦ inr (omega (arith, before))
        | inr behind ↦ inl (omega (arith, behind, lower))
      ]

-- ---- what is written

pub has_or : (xs : List ℕ) (x : ℕ) → Contains xs x ⊎ (Contains xs x → ⊥)
has_or [] x = inr (λ has. let lt = has.1 in omega (arith, lt))
has_or (y ∷ xs) x = elim (cases_eq y x) [
  | inl same ↦ inl (0, omega arith, same)
  | inr other ↦ (elim (has_or xs x) [
    | inl has ↦ inl (suc has.0, (let lt = has.1 in omega (arith, lt)), has.2)
    | inr none ↦ inr (λ has. in_rest has.0 has.1 has.2 other none)
  ])
]
  where
    in_rest : (i : ℕ) → i < length (y ∷ xs) → get_or (y ∷ xs) i x ≡ x → y ≢ x → (Contains xs x → ⊥) → ⊥
    in_rest zero lt is other none = other is
    in_rest (suc i) lt is other none = none (i, omega (arith, lt), is)

module _ (sizes : List ℕ) (u : Uber) (long : length (uber_block u) ≡ 4096) where
  -- a write of the root meets no bytes that lie apart from both its places
  pub clear : (places : List ℕ) (first sl at : ℕ)
      → (Contains places sl → (m : ℕ) → (m ≡ first) ⊎ (m ≡ first + 2) → (ring_slot_at (slice_index sizes sl) m (slot_of u.txg) + 4096 ≤ at) ⊎ (at + 4096 ≤ ring_slot_at (slice_index sizes sl) m (slot_of u.txg)))
      → (w : PendingWrite) → IsRootPut sizes places first u w → ¬ Meets w sl at 4096
  clear places first sl at apart w put =
      untouched_apart (puts put.slot (root_places (slice_index sizes put.slot) first u.txg) (uber_block u)) w sl at 4096
      ((λ met. one first (inl refl) met), ((λ met. one (first + 2) (inr refl) met), tt)) put.put
    where
      one : (m : ℕ) → (m ≡ first) ⊎ (m ≡ first + 2) → Meets (record { slot = put.slot; at = ring_slot_at (slice_index sizes put.slot) m (slot_of u.txg); bytes = uber_block u }) sl at 4096 → ⊥
      one m is met =
          let place = apart (subst (λ (s : ℕ). Contains places s) met.same put.among) m is in
          let same = ap (λ (s : ℕ). ring_slot_at (slice_index sizes s) m (slot_of u.txg)) met.same in
          let begins = met.begins in
          let ends = met.ends in
          by_place (ring_slot_at (slice_index sizes put.slot) m (slot_of u.txg)) (ring_slot_at (slice_index sizes sl) m (slot_of u.txg)) same place begins (omega (arith, ends, long))
        where
          by_place : (r s : ℕ) → r ≡ s → (s + 4096 ≤ at) ⊎ (at + 4096 ≤ s) → r < at + 4096 → at < r + 4096 → ⊥
          by_place r s same (inl before) begins ends = omega (arith, same, before, ends)
          by_place r s same (inr behind) begins ends = omega (arith, same, behind, begins)

  keeps : (places : List ℕ) (first sl at : ℕ) (old new : World) → ((w : PendingWrite) → IsRootPut sizes places first u w → ¬ Meets w sl at 4096) → WritesOnly (IsRootPut sizes places first u) old new → part (disk new.now.seen sl) at 4096 ≡ part (disk old.now.seen sl) at 4096
  keeps places first sl at old new none writes =
      (added_throughout (λ (stand : Stand). part (disk stand.seen sl) at 4096 ≡ part (disk old.now.seen sl) at 4096) (IsRootPut sizes places first u) step old new writes refl).1
    where
      step : (a b : Stand) → Adds (IsRootPut sizes places first u) a b → part (disk a.seen sl) at 4096 ≡ part (disk old.now.seen sl) at 4096 → part (disk b.seen sl) at 4096 ≡ part (disk old.now.seen sl) at 4096
      step a b (added_none is) same = ap (λ (s : Stand). part (disk s.seen sl) at 4096) is ∙ same
      step a b (added w may written) same = written.seen.bytes sl at 4096 (none w may, tt) ∙ same

  sized : (places : List ℕ) (first : ℕ) (old new : World) → WritesOnly (IsRootPut sizes places first u) old new → map length new.now.seen ≡ map length old.now.seen
  sized places first old new writes = (added_throughout (λ (stand : Stand). map length stand.seen ≡ map length old.now.seen) (IsRootPut sizes places first u) step old new writes refl).1
    where
      step : (a b : Stand) → Adds (IsRootPut sizes places first u) a b → map length a.seen ≡ map length old.now.seen → map length b.seen ≡ map length old.now.seen
      step a b (added_none is) same = ap (λ (s : Stand). map length s.seen) is ∙ same
      step a b (added w may written) same = written.seen.sizes ∙ same

pub flush_seen : (old new : World) → IsFlushed old new → new.now.seen ≡ old.now.seen
flush_seen old new flush = ap (λ (s : Stand). s.seen) flush.step

pub flush_durable : (old new : World) → IsFlushed old new → new.now.durable ≡ old.now.seen
flush_durable old new flush = ap (λ (s : Stand). s.durable) flush.step

-- ---- a root that is published

module _ (sizes both all : List ℕ) (u : Uber) (long : length (uber_block u) ≡ 4096) (a b : World) (whole_disks : map length a.now.seen ≡ sizes)
    (big_both : (sl : ℕ) → Contains both sl → 8388608 ≤ whole (slice_index sizes sl)) (big_all : (sl : ℕ) → Contains all sl → 8388608 ≤ whole (slice_index sizes sl)) (p : IsPublished sizes both all u a b) where
  abbrev pub place : ℕ
  place = slot_of u.txg

  abbrev pub size_at : ℕ → ℕ
  size_at sl = slice_index sizes sl

  pub long_disk : (sl : ℕ) → length (disk a.now.seen sl) ≡ size_at sl
  long_disk sl = sym (get_or-map (λ (bytes : List ℕ). length bytes) a.now.seen sl []) ∙ ap (λ (ns : List ℕ). get_or ns sl 0) whole_disks

  first_seen : p.first.now.seen ≡ a.now.seen
  first_seen = flush_seen a p.first p.before

  second_seen : p.second.now.seen ≡ p.half.now.seen
  second_seen = flush_seen p.half p.second p.between

  last_seen : b.now.seen ≡ p.whole.now.seen
  last_seen = flush_seen p.whole b p.behind

  lengths : map length b.now.seen ≡ map length a.now.seen
  lengths =
      ap (λ (ds : List (List ℕ)). map length ds) last_seen
      ∙ (sized sizes u long all 1 p.second p.whole p.rest
      ∙ (ap (λ (ds : List (List ℕ)). map length ds) second_seen
      ∙ (sized sizes u long both 0 p.first p.half p.wrote
      ∙ ap (λ (ds : List (List ℕ)). map length ds) first_seen)))

  -- bytes that the first writes leave, and that the others do
  pub first_keeps : (sl at : ℕ) → (Contains both sl → (m : ℕ) → (m ≡ 0) ⊎ (m ≡ 2) → (ring_slot_at (size_at sl) m place + 4096 ≤ at) ⊎ (at + 4096 ≤ ring_slot_at (size_at sl) m place))
      → part (disk p.half.now.seen sl) at 4096 ≡ part (disk a.now.seen sl) at 4096
  first_keeps sl at apart_from =
      keeps sizes u long both 0 sl at p.first p.half (λ w put. clear sizes u long both 0 sl at apart_from w put) p.wrote
      ∙ ap (λ (ds : List (List ℕ)). part (disk ds sl) at 4096) first_seen

  rest_keeps : (sl at : ℕ) → (Contains all sl → (m : ℕ) → (m ≡ 1) ⊎ (m ≡ 3) → (ring_slot_at (size_at sl) m place + 4096 ≤ at) ⊎ (at + 4096 ≤ ring_slot_at (size_at sl) m place))
      → part (disk b.now.seen sl) at 4096 ≡ part (disk p.half.now.seen sl) at 4096
  rest_keeps sl at apart_from =
      ap (λ (ds : List (List ℕ)). part (disk ds sl) at 4096) last_seen
      ∙ (keeps sizes u long all 1 sl at p.second p.whole (λ w put. clear sizes u long all 1 sl at apart_from w put) p.rest
      ∙ ap (λ (ds : List (List ℕ)). part (disk ds sl) at 4096) second_seen)

  pub low_place : place < 32
  low_place = omega arith

  pub below_four : (m f : ℕ) → f ≤ 1 → (m ≡ f) ⊎ (m ≡ f + 2) → m < 4
  below_four m f le (inl is) = omega (arith, is, le)
  below_four m f le (inr is) = omega (arith, is, le)

  labels_kept : (sl n : ℕ) → n < 4 → block_of (size_at sl) (disk b.now.seen sl) n ≡ block_of (size_at sl) (disk a.now.seen sl) n
  labels_kept sl n few =
      rest_keeps sl (label_block_at (size_at sl) n) (λ has m is. label_clear (size_at sl) (big_all sl has) n m 0 place few (below_four m 1 (omega arith) is) (omega arith) low_place)
      ∙ first_keeps sl (label_block_at (size_at sl) n) (λ has m is. label_clear (size_at sl) (big_both sl has) n m 0 place few (below_four m 0 (omega arith) is) (omega arith) low_place)

  -- a slot of a ring that none of these writes has
  pub ring_first : (sl n k : ℕ) → n < 4 → k < 32 → (Contains both sl → (m : ℕ) → (m ≡ 0) ⊎ (m ≡ 2) → (n ≢ m) ⊎ (k ≢ place)) → ring_block (size_at sl) (disk p.half.now.seen sl) n k ≡ ring_block (size_at sl) (disk a.now.seen sl) n k
  ring_first sl n k few low differ =
      first_keeps sl (ring_slot_at (size_at sl) n k) (λ has m is. rings_apart (size_at sl) (big_both sl has) n m k place few (below_four m 0 (omega arith) is) low low_place (differ has m is))

  ring_rest : (sl n k : ℕ) → n < 4 → k < 32 → (Contains all sl → (m : ℕ) → (m ≡ 1) ⊎ (m ≡ 3) → (n ≢ m) ⊎ (k ≢ place)) → ring_block (size_at sl) (disk b.now.seen sl) n k ≡ ring_block (size_at sl) (disk p.half.now.seen sl) n k
  ring_rest sl n k few low differ =
      rest_keeps sl (ring_slot_at (size_at sl) n k) (λ has m is. rings_apart (size_at sl) (big_all sl has) n m k place few (below_four m 1 (omega arith) is) low low_place (differ has m is))

  pub not_odd : (n m : ℕ) → (n ≡ 0) ⊎ (n ≡ 2) → (m ≡ 1) ⊎ (m ≡ 3) → n ≢ m
  not_odd n m (inl is) (inl at) same = omega (arith, is, at, same)
  not_odd n m (inl is) (inr at) same = omega (arith, is, at, same)
  not_odd n m (inr is) (inl at) same = omega (arith, is, at, same)
  not_odd n m (inr is) (inr at) same = omega (arith, is, at, same)

  pub even_or_odd : (n : ℕ) → n < 4 → ((n ≡ 0) ⊎ (n ≡ 2)) ⊎ ((n ≡ 1) ⊎ (n ≡ 3))
  even_or_odd n few = elim (cases_eq n 0) [
    | inl zero_is ↦ inl (inl zero_is)
    | inr not_zero ↦ (elim (cases_eq n 1) [
      | inl one_is ↦ inr (inl one_is)
      | inr not_one ↦ (elim (cases_eq n 2) [
        | inl two_is ↦ inl (inr two_is)
        | inr not_two ↦ inr (inr (omega (arith, few, not_zero, not_one, not_two)))
      ])
    ])
  ]

  -- the root stands in the first labels of the one slots, and in the others of all
  pub stands_first : (sl n : ℕ) → (n ≡ 0) ⊎ (n ≡ 2) → Contains both sl → ring_block (size_at sl) (disk p.half.now.seen sl) n place ≡ uber_block u
  stands_first sl n is has =
      let durable = flush_durable p.half p.second p.between in
      ap (λ (ds : List (List ℕ)). ring_block (size_at sl) (disk ds sl) n place) (sym durable) ∙ by_label n is
    where
      by_label : (m : ℕ) → (m ≡ 0) ⊎ (m ≡ 2) → ring_block (size_at sl) (disk p.second.now.durable sl) m place ≡ uber_block u
      by_label m (inl at) = subst (λ (l : ℕ). ring_block (size_at sl) (disk p.second.now.durable sl) l place ≡ uber_block u) (sym at) (p.durable.one sl has).spelling
      by_label m (inr at) = subst (λ (l : ℕ). ring_block (size_at sl) (disk p.second.now.durable sl) l place ≡ uber_block u) (sym at) (p.durable.other sl has).spelling

  same_durable : b.now.durable ≡ b.now.seen
  same_durable = flush_durable p.whole b p.behind ∙ sym last_seen

  stands_last : (sl n : ℕ) → (n ≡ 1) ⊎ (n ≡ 3) → Contains all sl → Stands (size_at sl) (disk b.now.seen sl) n u
  stands_last sl n (inl at) has = subst (λ (ds : List (List ℕ)). Stands (size_at sl) (disk ds sl) n u) same_durable (subst (λ (l : ℕ). Stands (size_at sl) (disk b.now.durable sl) l u) (sym at) (p.all_durable.one sl has))
  stands_last sl n (inr at) has = subst (λ (ds : List (List ℕ)). Stands (size_at sl) (disk ds sl) n u) same_durable (subst (λ (l : ℕ). Stands (size_at sl) (disk b.now.durable sl) l u) (sym at) (p.all_durable.other sl has))

  abbrev RingIs : ℕ → ℕ → ℕ → Type 0
  RingIs sl n k = (ring_block (size_at sl) (disk b.now.seen sl) n k ≡ ring_block (size_at sl) (disk a.now.seen sl) n k) ⊎ ((k ≡ place) × (ring_block (size_at sl) (disk b.now.seen sl) n k ≡ uber_block u))

  even_ring : (sl n k : ℕ) → n < 4 → k < 32 → (n ≡ 0) ⊎ (n ≡ 2) → RingIs sl n k
  even_ring sl n k few low is =
      let later = ring_rest sl n k few low (λ has m at. inl (not_odd n m is at)) in
      elim (cases_eq k place) [
        | inl here ↦ (elim (has_or both sl) [
          | inl has ↦ inr (here, later ∙ (ap (λ (j : ℕ). ring_block (size_at sl) (disk p.half.now.seen sl) n j) here ∙ stands_first sl n is has))
          | inr none ↦ inl (later ∙ ring_first sl n k few low (λ has m at. absurd (none has)))
        ])
        | inr away ↦ inl (later ∙ ring_first sl n k few low (λ has m at. inr away))
      ]

  odd_ring : (sl n k : ℕ) → n < 4 → k < 32 → (n ≡ 1) ⊎ (n ≡ 3) → RingIs sl n k
  odd_ring sl n k few low is =
      let before = ring_first sl n k few low (λ has m at. inl (λ same. not_odd m n at is (sym same))) in
      elim (cases_eq k place) [
        | inl here ↦ (elim (has_or all sl) [
          | inl has ↦ inr (here, ap (λ (j : ℕ). ring_block (size_at sl) (disk b.now.seen sl) n j) here ∙ (stands_last sl n is has).spelling)
          | inr none ↦ inl (ring_rest sl n k few low (λ has m at. absurd (none has)) ∙ before)
        ])
        | inr away ↦ inl (ring_rest sl n k few low (λ has m at. inr away) ∙ before)
      ]

  ring_is : (sl n k : ℕ) → n < 4 → k < 32 → RingIs sl n k
  ring_is sl n k few low = ⊎_elim (λ even. even_ring sl n k few low even) (λ odd. odd_ring sl n k few low odd) (even_or_odd n few)

  pub puts_root : PutsRoot a.now.seen b.now.seen u
  puts_root = record {
    count = sym (length-map b.now.seen length) ∙ (ap (λ (ns : List ℕ). length ns) lengths ∙ length-map a.now.seen length);
    sizes = λ sl. sym (get_or-map (λ (bytes : List ℕ). length bytes) b.now.seen sl []) ∙ (ap (λ (ns : List ℕ). get_or ns sl 0) lengths ∙ get_or-map (λ (bytes : List ℕ). length bytes) a.now.seen sl []);
    labels = λ sl n few. subst (λ (size : ℕ). block_of size (disk b.now.seen sl) n ≡ block_of size (disk a.now.seen sl) n) (sym (long_disk sl)) (labels_kept sl n few);
    rings = λ sl n k few low.
        subst (λ (size : ℕ). (ring_block size (disk b.now.seen sl) n k ≡ ring_block size (disk a.now.seen sl) n k) ⊎ ((k ≡ place) × (ring_block size (disk b.now.seen sl) n k ≡ uber_block u))) (sym (long_disk sl)) (ring_is sl n k few low);
  }

  pub stands_in : (sl : ℕ) → Contains all sl → Stands (length (disk b.now.seen sl)) (disk b.now.seen sl) 1 u
  stands_in sl has = subst (λ (size : ℕ). Stands size (disk b.now.seen sl) 1 u) (sym (puts_root.sizes sl ∙ long_disk sl)) (stands_last sl 1 (inl refl) has)
