-- Blocks that are kept in memory.
use Rattle.std.specs.Prelude.{◌≡◌, ◌+◌, ◌-◌, ◌<◌, ◌≤◌, ◌&&◌, Bool, true, false, nat_eq, nat_lt, if◌then◌else◌, ℕ, List, [], ◌∷◌, All, length}
use Rattle.zr_base.specs.declared.space.Dva.{Dva}
use Rattle.zr_bptr.specs.declared.Bptr.{Bptr}
use Rattle.zr_store.specs.Store.{Stored, IsOnce, hits, one_at}
use Rattle.std.proofs.Common.{sym, subst}
use Rattle.zr_store.specs.Causes.{Account}
use Rattle.zr_store.specs.declared.memory.Kept.{Kept}

-- the bytes at a pointer's address
abbrev pub bytes_at : List Kept → Bptr → List ℕ
bytes_at [] b = []
bytes_at (k ∷ ks) b = if nat_eq (one_at b.at k.at) 0 then bytes_at ks b else k.bytes.items

-- whether a block is kept at the address
abbrev pub is_kept : Dva → List Kept → Bool
is_kept at [] = false
is_kept at (k ∷ ks) = if nat_eq (one_at at k.at) 0 then is_kept at ks else true

abbrev pub pointers_of_kept : List Kept → List Bptr
pointers_of_kept [] = []
pointers_of_kept (k ∷ ks) = k.at ∷ pointers_of_kept ks

abbrev pub stored_of : List Kept → Stored
stored_of ks = record { pointers = pointers_of_kept ks; bytes = bytes_at ks }

-- the address lies within the one device, which has so many units
abbrev pub is_within : ℕ → Dva → Bool
is_within units at = nat_eq at.dev 0 && nat_lt (at.start + at.len) (units + 1)

-- no address comes twice, and all lie below the next and within the device
pub record IsSound (units next : ℕ) (ks : List Kept) : Type 0 where
  pub once : (at : Dva) → hits (pointers_of_kept ks) at ≤ 1
  pub below : All (λ k. k.at.at.start < next) ks
  pub within : (at : Dva) → 0 < hits (pointers_of_kept ks) at → is_within units at ≡ true

-- the blocks of a sound store in memory are what it holds
pub record IsHeld (units next : ℕ) (ks : List Kept) (s : Stored) : Type 0 where
  pub sound : IsSound units next ks
  pub same : s ≡ stored_of ks

-- a block that is kept is one piece of load
abbrev pub account_of : ℕ → ℕ → List Kept → Account
account_of units next ks = record { faults = 0; room = units - next; load = length ks; put_load = 1; free_load = 0; resolves = is_within units }

-- ---- the laws of the trait

pub held_once : (units next : ℕ) (ks : List Kept) (s : Stored) → IsHeld units next ks s → IsOnce s
held_once units next ks s held = subst IsOnce (sym held.same) held.sound.once

pub held_resolved : (units next : ℕ) (ks : List Kept) (s : Stored) → IsHeld units next ks s → (at : Dva) → 0 < hits s.pointers at → is_within units at ≡ true
held_resolved units next ks s held = let P : Stored → Type 0 = λ (t : Stored). (at : Dva) → 0 < hits t.pointers at → is_within units at ≡ true in subst P (sym held.same) held.sound.within
