-- Where labels, rings and roots are written.
use Rattle.std.specs.Prelude.{ℕ, ◌+◌, ◌≤◌, List, [], ◌∷◌, map}
use Rattle.zr_shelf.specs.Disks.{PendingWrite}
use Rattle.zr_label.specs.Geometry.{label_at, label_block_at, ring_slot_at, slot_of}

-- the bytes are written at each of the places
abbrev pub puts : ℕ → List ℕ → List ℕ → List PendingWrite
puts slot places bytes = map (λ at. record { slot = slot; at = at; bytes = bytes }) places

-- each place is so many bytes or more behind the one before
abbrev pub AreSpread : ℕ → List ℕ → Type 0
AreSpread n [] = Unit {0}
AreSpread n (at ∷ []) = Unit {0}
AreSpread n (at ∷ next ∷ places) = (at + n ≤ next) × AreSpread n (next ∷ places)

-- the place of a label block, and no other
abbrev pub label_place : ℕ → ℕ → List ℕ
label_place size n = label_block_at size n ∷ []

-- the first byte of the ring of a label
abbrev pub ring_at : ℕ → ℕ → ℕ
ring_at size n = label_at size n + 131072

-- the places of the four rings
abbrev pub ring_places : ℕ → List ℕ
ring_places size = ring_at size 0 ∷ ring_at size 1 ∷ ring_at size 2 ∷ ring_at size 3 ∷ []

-- the places of the root of a group in a ring at the front and in one at the end
abbrev pub root_places : ℕ → ℕ → ℕ → List ℕ
root_places size first txg = ring_slot_at size first (slot_of txg) ∷ ring_slot_at size (first + 2) (slot_of txg) ∷ []
