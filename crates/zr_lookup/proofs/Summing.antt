-- The sum of an object, block by block.
use Rattle.std.proofs.Common.{◌≡◌, ◌∙◌, ◌<◌, ◌+◌, ◌++◌, ◌∷◌, [], ℕ, List, length, get_or, take, Option, Some, sym, ap, subst, append-nil}
use Rattle.std.specs.Prelude.{All}
use Rattle.std.specs.List.{flat_map}
use Rattle.std.proofs.lemmas.List.{take_more}
use Rattle.std.proofs.lemmas.List.Elements.{recursion_from_All}
use Rattle.std.proofs.lemmas.Grind.{flat_map-append}
use Rattle.sha2.specs.Hashers.{Holds256}
use Rattle.sha2.specs.declared.Sha256.{Sha256}
use Rattle.zr_bptr.specs.declared.Bptr.{Bptr}
use Rattle.zr_bptr.specs.declared.Ptr.{Ptr}
use Rattle.zr_bptr.specs.declared.Ptr.TheVariants.{Hole, At}
use Rattle.zr_store.specs.Store.{Stored}
use Rattle.zr_txg.specs.Tables.{value_at}
use Rattle.zr_txg.proofs.Keyed.{value_at-at}
use Rattle.zr_lookup.specs.Objects.{block_in, summed, HasLeaves}
use Rattle.zr_lookup.specs.Errors.{IsSoundBlock, IsSoundPointer}
use Rattle.zr_lookup.proofs.Groups.{each_value}

some_block : (p : Ptr) (b : Bptr) → Some b ≡ block_in p → At b ≡ p
some_block Hole b is = absurd cc
some_block (At c) b is = let same : b ≡ c = cc in ap (λ (x : Bptr). At x) same

-- a leaf is what the pointer at its index leads to
pub leaf_pointer : (at : ℕ → Ptr) (leaves : List (ℕ × Bptr)) (i : ℕ) (d : ℕ × Bptr) → HasLeaves at leaves → i < length leaves → At (get_or leaves i d).1 ≡ at (get_or leaves i d).0
leaf_pointer at leaves i d h lt =
    let x = get_or leaves i d in
    some_block (at x.0) x.1 (sym (value_at-at 0 i leaves d h.rising lt) ∙ h.each x.0)

sound_at : (s : Stored) (units : ℕ) (p : Ptr) (o : Option Bptr) → o ≡ block_in p → ((b : Bptr) → o ≡ Some b → IsSoundBlock s units b) → IsSoundPointer s units p
sound_at s units Hole o is sound = tt
sound_at s units (At b) o is sound = sound b is

pub all_sound : (s : Stored) (units : ℕ) (at : ℕ → Ptr) (leaves : List (ℕ × Bptr)) → HasLeaves at leaves → All (λ leaf. IsSoundBlock s units leaf.1) leaves → (index : ℕ) → IsSoundPointer s units (at index)
all_sound s units at leaves h all index =
    let P : ℕ × Bptr → Type 0 = λ leaf. IsSoundBlock s units leaf.1 in
    let by = recursion_from_All P leaves all in
    sound_at s units (at index) (value_at leaves index) (h.each index) (λ b is. each_value P index b leaves by is)

-- one block more
pub sum_more : (s : Stored) (before after : Sha256) (leaves : List (ℕ × Bptr)) (i : ℕ) (d : ℕ × Bptr) (bytes : List ℕ) → i < length leaves → bytes ≡ s.bytes (get_or leaves i d).1 → Holds256 before (flat_map (λ leaf. summed leaf.0 (s.bytes leaf.1)) (take i leaves))
    → ((m : List ℕ) → Holds256 before m → Holds256 after (m ++ summed (get_or leaves i d).0 bytes)) → Holds256 after (flat_map (λ leaf. summed leaf.0 (s.bytes leaf.1)) (take (i + 1) leaves))
sum_more s before after leaves i d bytes lt is h step =
    let f : ℕ × Bptr → List ℕ = λ leaf. summed leaf.0 (s.bytes leaf.1) in
    let x = get_or leaves i d in
    let more : flat_map f (take (i + 1) leaves) ≡ flat_map f (take i leaves) ++ f x =
    ap (flat_map f) (take_more leaves i d lt) ∙ flat_map-append f (take i leaves) (x ∷ []) ∙ ap (λ (b : List ℕ). flat_map f (take i leaves) ++ b) (append-nil (f x)) in
    subst (Holds256 after) (ap (λ (b : List ℕ). flat_map f (take i leaves) ++ summed x.0 b) is ∙ sym more) (step (flat_map f (take i leaves)) h)

-- what stands in no list
abbrev pub no_leaf : ℕ × Bptr
no_leaf = (0, record { at = record { dev = 0; start = 0; len = 0 }; level = 0; birth = 0; fill = 0; sum = [] })
