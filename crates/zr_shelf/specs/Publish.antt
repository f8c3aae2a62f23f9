-- Rings of blocks on several disks, of which the newest block counts, and what a crash may leave of them.
--
-- `IsBlock ring k bytes root` says that these bytes are a valid block of that root in slot k of the ring, and `txg root`
-- is the number by which the newest is found. A block of a root stands in slot `txg root % 32`.
use Rattle.std.specs.Prelude.{◌≡◌, ◌≢◌, ◌⊎◌, ◌<◌, ◌≤◌, ℕ, ◌+◌, ◌*◌, ◌%◌, List, [], ◌∷◌, Option, Some, None}
use Rattle.std.specs.List.{AllByRecursion}
use Rattle.zr_shelf.specs.Disks.{disk, part, PendingWrite, Stand}

-- where a ring of 32 blocks of 4,096 bytes begins
pub record Ring : Type 0 where
  pub slot : ℕ
  pub at : ℕ

abbrev pub IsAmong : List Ring → Ring → Type 0
IsAmong [] ring = ⊥
IsAmong (r ∷ rings) ring = (r ≡ ring) ⊎ IsAmong rings ring

abbrev pub block_at : List (List ℕ) → Ring → ℕ → List ℕ
block_at disks ring k = part (disk disks ring.slot) (ring.at + 4096 * k) 4096

abbrev pub ring_write : Ring → ℕ → List ℕ → PendingWrite
ring_write ring k block = record { slot = ring.slot; at = ring.at + 4096 * k; bytes = block }

-- one of the writes was to put these bytes there
abbrev pub WasAsked : List PendingWrite → ℕ → ℕ → List ℕ → Type 0
WasAsked [] slot at bytes = ⊥
WasAsked (w ∷ writes) slot at bytes = ((w.slot ≡ slot) × (w.at ≡ at) × (w.bytes ≡ bytes)) ⊎ WasAsked writes slot at bytes

-- No forgery: a block has its old bytes, or those of a write, or bytes that are not valid.
abbrev pub IsHonestBlock : {Root : Type 0} → (List ℕ → Root → Type 0) → Stand → List (List ℕ) → ℕ → ℕ → Type 0
IsHonestBlock {Root = Root} IsValid stand image slot at =
    (part (disk image slot) at 4096 ≡ part (disk stand.durable slot) at 4096)
    ⊎ (WasAsked stand.writes slot at (part (disk image slot) at 4096) ⊎ ((root : Root) → ¬ IsValid (part (disk image slot) at 4096) root))

-- no block of the rings is forged
abbrev pub IsHonest : {Root : Type 0} → (Ring → ℕ → List ℕ → Root → Type 0) → List Ring → Stand → List (List ℕ) → Type 0
IsHonest IsBlock rings stand image = (r : Ring) (k : ℕ) → IsAmong rings r → k < 32 → IsHonestBlock (IsBlock r k) stand image r.slot (r.at + 4096 * k)

-- of all valid blocks in all rings, one of the highest txg
pub record IsCurrent {Root : Type 0} (txg : Root → ℕ) (IsBlock : Ring → ℕ → List ℕ → Root → Type 0) (rings : List Ring) (disks : List (List ℕ)) (root : Root) : Type 0 where
  pub ring : Ring
  pub slot : ℕ
  pub among : IsAmong rings ring
  pub in_ring : slot < 32
  pub valid : IsBlock ring slot (block_at disks ring slot) root
  pub highest : (r : Ring) (k : ℕ) (other : Root) → IsAmong rings r → k < 32 → IsBlock r k (block_at disks r k) other → txg other ≤ txg root

-- the root stands in its slot of some ring, and all else is older
pub record RingsHave {Root : Type 0} (txg : Root → ℕ) (IsBlock : Ring → ℕ → List ℕ → Root → Type 0) (rings : List Ring) (disks : List (List ℕ)) (root : Root) : Type 0 where
  pub ring : Ring
  pub among : IsAmong rings ring
  pub newest : IsBlock ring (txg root % 32) (block_at disks ring (txg root % 32)) root
  pub others : (r : Ring) (k : ℕ) (other : Root) → IsAmong rings r → k < 32 → IsBlock r k (block_at disks r k) other → ((k ≡ txg root % 32) × (other ≡ root)) ⊎ (txg other < txg root)

-- no block of the rings is valid
abbrev pub HaveNone : {Root : Type 0} → (Ring → ℕ → List ℕ → Root → Type 0) → List Ring → List (List ℕ) → Type 0
HaveNone {Root = Root} IsBlock rings disks = (r : Ring) (k : ℕ) (root : Root) → IsAmong rings r → k < 32 → ¬ IsBlock r k (block_at disks r k) root

-- the rings have this root, and it leads to this state; or they have none
abbrev pub Shows : {Root State : Type 0} → (Root → ℕ) → (Ring → ℕ → List ℕ → Root → Type 0) → List Ring → (Root → List (List ℕ) → State → Type 0) → Option (Root × State) → List (List ℕ) → Type 0
Shows txg IsBlock rings Means None disks = HaveNone IsBlock rings disks
Shows txg IsBlock rings Means (Some (root, state)) disks = RingsHave txg IsBlock rings disks root × Means root disks state

-- each write puts this block into this slot of one of the rings
abbrev pub AreRingWrites : List Ring → ℕ → List ℕ → List PendingWrite → Type 0
AreRingWrites rings k block = AllByRecursion (λ w. (r : Ring) × IsAmong rings r × (w ≡ ring_write r k block))

-- while a block is put into a slot of the rings
pub record IsPublishing (rings : List Ring) (k : ℕ) (block : List ℕ) (base : List (List ℕ)) (stand : Stand) : Type 0 where
  pub durable : stand.durable ≡ base
  pub writes : AreRingWrites rings k block stand.writes

-- the next root is newer, and has another slot
pub record IsNext (old next : ℕ) : Type 0 where
  pub newer : old < next
  pub other_slot : old % 32 ≢ next % 32

-- the ranges of a root, and all blocks of the rings
pub data Kept (rings : List Ring) (ranges : ℕ → ℕ → ℕ → Type 0) (slot at n : ℕ) : Type 0 where
  of_root : ranges slot at n → Kept rings ranges slot at n
  of_ring : (r : Ring) (k : ℕ) → IsAmong rings r → k < 32 → r.slot ≡ slot → r.at + 4096 * k ≡ at → 4096 ≡ n → Kept rings ranges slot at n

-- no block of a ring meets another
abbrev pub AreApart : List Ring → Type 0
AreApart rings = (r s : Ring) (j k : ℕ) → IsAmong rings r → IsAmong rings s → j < 32 → k < 32 → r.slot ≡ s.slot → r.at + 4096 * j < s.at + 4096 * k + 4096 → s.at + 4096 * k < r.at + 4096 * j + 4096 → (r ≡ s) × (j ≡ k)
