-- What a store of blocks holds, and what a call does to that.
use Rattle.std.specs.Prelude.{◌≡◌, ◌+◌, ◌<◌, ◌≤◌, ◌*◌, ◌-◌, ◌&&◌, ◌||◌, Bool, nat_eq, if◌then◌else◌, ℕ, List, [], ◌∷◌, length}
use Rattle.std.specs.List.{sum_by}
use Rattle.zr_base.specs.declared.space.Dva.{Dva}
use Rattle.zr_bptr.specs.declared.Bptr.{Bptr}
use Rattle.zr_bptr.specs.declared.Ptr.{Ptr}
use Rattle.zr_bptr.specs.Spelling.{IsPointer, SpellsTreeBlock}
use Rattle.sha2.specs.Sha256.{sha256}

-- the pointers that are stored, and the bytes that each pointer gives
pub record Stored : Type 0 where
  pub pointers : List Bptr
  pub bytes : Bptr → List ℕ

-- 1 for a pointer with this address
abbrev pub one_at : Dva → Bptr → ℕ
one_at at b = if nat_eq at.dev b.at.dev && (nat_eq at.start b.at.start && nat_eq at.len b.at.len) then 1 else 0

-- how many of the pointers have this address
abbrev pub hits : List Bptr → Dva → ℕ
hits pointers at = sum_by (one_at at) pointers

-- The pointers `out` were taken out and the pointers `into` came, and nothing else changed.
-- Each weight of pointers says so: the number at an address, the number of units in use, any other.
pub record Swaps (old new : Stored) (out into : List Bptr) : Type 0 where
  pub stored : (weight : Bptr → ℕ) → sum_by weight new.pointers + sum_by weight out ≡ sum_by weight old.pointers + sum_by weight into
  pub kept : (b : Bptr) → hits out b.at ≡ 0 → 0 < hits old.pointers b.at → new.bytes b ≡ old.bytes b

-- the block came, at an address where none was
pub record Puts (old : Stored) (b : Bptr) (bytes : List ℕ) (new : Stored) : Type 0 where
  pub fresh : hits old.pointers b.at ≡ 0
  pub given : new.bytes b ≡ bytes
  pub swaps : Swaps old new [] (b ∷ [])

-- what is held now, of which the fact is true
pub record Now (holds Is : Stored → Type 0) : Type 0 where
  pub stored : Stored
  pub held : holds stored
  pub is : Is stored

-- each of these is stored
abbrev pub AreStored : List Bptr → Stored → Type 0
AreStored pointers s = (weight : Bptr → ℕ) → sum_by weight pointers ≤ sum_by weight s.pointers

-- no address is stored twice
abbrev pub IsOnce : Stored → Type 0
IsOnce s = (at : Dva) → hits s.pointers at ≤ 1

-- 1, 2, 4, 8, 16 or 32 units of bytes
abbrev pub is_size : ℕ → Bool
is_size n = nat_eq n 4096 || nat_eq n 8192 || nat_eq n 16384 || nat_eq n 32768 || nat_eq n 65536 || nat_eq n 131072

-- the bytes are one tree block of pointers of this level
abbrev pub IsBlockOf : ℕ → List ℕ → Type 0
IsBlockOf below bytes = (fill : ℕ) × (pointers : List Ptr) × SpellsTreeBlock bytes below fill pointers

-- a pointer to these bytes: a tree block has as many leaves below as its pointers, and a leaf is one
pub record IsPointerTo (level : ℕ) (bytes : List ℕ) (b : Bptr) : Type 0 where
  pub level_is : b.level ≡ level
  pub pointer : IsPointer b
  pub size : 4096 * b.at.len ≡ length bytes
  pub checksum : b.sum ≡ sha256 bytes
  pub leaf : level ≡ 0 → b.fill ≡ 1
  pub leaves : (fill : ℕ) (pointers : List Ptr) → 0 < level → SpellsTreeBlock bytes (level - 1) fill pointers → b.fill ≡ fill
