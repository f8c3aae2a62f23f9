-- Blocks of pieces, each of which is a spelling of its own.
use Rattle.std.proofs.Common.{◌≡◌, ℕ, zero, suc, ◌+◌, ◌*◌, ◌<◌, ◌≤◌, ◌/◌, List, [], ◌∷◌, ◌++◌, length, drop, take, map, get_or, add_comm, refl, sym, ap, subst, ◌∙◌, arith, sum_by}
use Rattle.std.specs.List.{AllByRecursion, flat_map}
use Rattle.std.specs.Simd.{first_chunks}
use Rattle.std.proofs.lemmas.List.{take_at, drop_at, take-append-drop, take_all, length-append, length-drop, length-map}
use Rattle.std.proofs.lemmas.List.Sums.{sum_by-cons}
use Rattle.std.proofs.Math.Nat.{mul-suc}
use Rattle.zr_bptr.specs.declared.Bptr.{Bptr}
use Rattle.zr_bptr.specs.declared.Ptr.{Ptr}
use Rattle.zr_bptr.specs.declared.Ptr.TheVariants.{Hole, At}
use Rattle.zr_bptr.specs.Spelling.{IsLawful, IsOfLevel, SpellsPointer, SpellsBelow, SpellsEach, SpellsTreeBlock, pointer_bytes, fill_of}
use Rattle.zr_bptr.proofs.Spelled.{one_pointer, fill_fits}

-- ---- lists

pub each_at : {X : Type 0} (P : X → Type 0) (xs : List X) (i : ℕ) (d : X) → AllByRecursion P xs → i < length xs → P (get_or xs i d)
each_at P [] i d h lt = absurd (omega arith)
each_at P (x ∷ xs) zero d h lt = h.0
each_at P (x ∷ xs) (suc i) d h lt = each_at P xs i d h.1 (omega arith)

pub each_more : {X : Type 0} (P : X → Type 0) (xs : List X) (x : X) → AllByRecursion P xs → P x → AllByRecursion P (xs ++ x ∷ [])
each_more P [] x h p = (p, tt)
each_more P (y ∷ xs) x h p = (h.0, each_more P xs x h.1 p)

-- all the pieces have this length
abbrev pub AreLong : {X : Type 0} → ℕ → (X → List ℕ) → List X → Type 0
AreLong n f xs = AllByRecursion (λ x. length (f x) ≡ n) xs

-- the pieces of what the pieces make
pub chunks-flat_map : {X : Type 0} (n : ℕ) (f : X → List ℕ) (xs : List X) → AreLong n f xs → first_chunks n (length xs) (flat_map f xs) ≡ map f xs
chunks-flat_map n f [] h = refl
chunks-flat_map n f (x ∷ xs) h =
    rw (take_at (f x) (flat_map f xs) n h.0, drop_at (f x) (flat_map f xs) n h.0) (ap (λ (t : List (List ℕ)). f x ∷ t) (chunks-flat_map n f xs h.1))

pub length-pieces : {X : Type 0} (n : ℕ) (f : X → List ℕ) (xs : List X) → AreLong n f xs → length (flat_map f xs) ≡ n * length xs
length-pieces n f [] h = omega arith
length-pieces n f (x ∷ xs) h =
    let others = length-pieces n f xs h.1 in
    length-append (f x) (flat_map f xs) ∙ (ap (λ (k : ℕ). k + length (flat_map f xs)) h.0 ∙ (ap (λ (k : ℕ). n + k) others ∙ (add_comm n (n * length xs) ∙ sym (mul-suc n (length xs)))))

pub flat_map-map : {X : Type 0} (f : X → List ℕ) (xs : List X) → flat_map (λ (c : List ℕ). c) (map f xs) ≡ flat_map f xs
flat_map-map f [] = refl
flat_map-map f (x ∷ xs) = ap (λ (t : List ℕ). f x ++ t) (flat_map-map f xs)

-- the pieces make the whole
pub joined : (n k : ℕ) (xs : List ℕ) → length xs ≡ n * k → flat_map (λ (c : List ℕ). c) (first_chunks n k xs) ≡ xs
joined n zero [] h = refl
joined n zero (x ∷ xs) h = absurd (omega arith)
joined n (suc k) xs h =
    let rest : length (drop n xs) ≡ n * k = omega (arith, length-drop n xs, mul-suc n k) in
    ap (λ (t : List ℕ). take n xs ++ t) (joined n k (drop n xs) rest) ∙ take-append-drop n xs

-- lists whose spellings are the same are the same, where one value's are
pub same_map : {X : Type 0} (f : X → List ℕ) (P : X → Type 0) → ((x y : X) → P x → P y → f x ≡ f y → x ≡ y) → (xs ys : List X) → AllByRecursion P xs → AllByRecursion P ys → map f xs ≡ map f ys → xs ≡ ys
same_map f P same [] [] h k e = refl
same_map f P same [] (y ∷ ys) h k e = absurd cc
same_map f P same (x ∷ xs) [] h k e = absurd cc
same_map {X = X} f P same (x ∷ xs) (y ∷ ys) h k e =
    let first : f x ≡ f y = cc in
    let others : map f xs ≡ map f ys = cc in
    ap (λ (z : X). z ∷ xs) (same x y h.0 k.0 first) ∙ ap (λ (zs : List X). y ∷ zs) (same_map f P same xs ys h.1 k.1 others)

pub length_from_map : {X Y : Type 0} (f : X → Y) (xs : List X) (ys : List Y) → ys ≡ map f xs → length xs ≡ length ys
length_from_map f xs ys e = sym (ap length e ∙ length-map xs f)

pub length-first_chunks : (n k : ℕ) (xs : List ℕ) → length (first_chunks n k xs) ≡ k
length-first_chunks n zero xs = refl
length-first_chunks n (suc k) xs = ap suc (length-first_chunks n k (drop n xs))

-- ---- pointers

pub pointer_long : (p : Ptr) → IsLawful p → length (pointer_bytes p) ≡ 128
unfolding pointer_bytes
pointer_long Hole h = refl
pointer_long (At b) h = omega (arith, h.digest)

pub pointers_long : (ps : List Ptr) → AllByRecursion IsLawful ps → AreLong 128 pointer_bytes ps
pointers_long [] h = tt
pointers_long (p ∷ ps) h = (pointer_long p h.0, pointers_long ps h.1)

pub same_pointer : (p q : Ptr) → IsLawful p → IsLawful q → pointer_bytes p ≡ pointer_bytes q → p ≡ q
same_pointer p q h k e = one_pointer (pointer_bytes p) p q (record { lawful = h; spelling = refl }) (record { lawful = k; spelling = e })

pub one_each : (level : ℕ) (pieces : List (List ℕ)) (ps qs : List Ptr) → SpellsEach level pieces ps → SpellsEach level pieces qs → ps ≡ qs
one_each level pieces ps qs h k = same_map pointer_bytes IsLawful same_pointer ps qs h.lawful k.lawful (sym h.spelling ∙ k.spelling)

-- a pointer of another level
pub wrong_level : (level : ℕ) (bytes : List ℕ) (b : Bptr) → SpellsPointer bytes (At b) → (b.level ≡ level → ⊥) → (p : Ptr) → SpellsBelow level bytes p → ⊥
wrong_level level bytes b h other p k = other (subst (λ (q : Ptr). IsOfLevel level q) (one_pointer bytes p (At b) k.pointer h) k.level_is)

-- the piece at a place spells the pointer there
pub at_place : (level : ℕ) (ps : List Ptr) (i : ℕ) (d : List ℕ) → i < length ps → AllByRecursion IsLawful ps → AllByRecursion (IsOfLevel level) ps → SpellsBelow level (get_or (map pointer_bytes ps) i d) (get_or ps i Hole)
at_place level [] i d lt h k = absurd (omega arith)
at_place level (p ∷ ps) zero d lt h k = record { pointer = record { lawful = h.0; spelling = refl }; level_is = k.0 }
at_place level (p ∷ ps) (suc i) d lt h k = at_place level ps i d (omega arith) h.1 k.1

-- a piece that spells no pointer of the level
pub no_each : (level : ℕ) (pieces : List (List ℕ)) (i : ℕ) (d : List ℕ) → i < length pieces → ((p : Ptr) → SpellsBelow level (get_or pieces i d) p → ⊥) → (ps : List Ptr) → SpellsEach level pieces ps → ⊥
no_each level pieces i d lt none ps h =
    let long = length_from_map pointer_bytes ps pieces h.spelling in
    none (get_or ps i Hole) (subst (λ (cs : List (List ℕ)). SpellsBelow level (get_or cs i d) (get_or ps i Hole)) (sym h.spelling) (at_place level ps i d (omega arith) h.lawful h.levels))

pub fill_small : (p : Ptr) → IsLawful p → fill_of p ≤ 33554432
fill_small Hole h = omega arith
fill_small (At b) h = fill_fits b h

pub fills_small : (ps : List Ptr) (i : ℕ) → AllByRecursion IsLawful ps → sum_by fill_of (take i ps) ≤ 33554432 * i
fills_small ps zero h = omega arith
fills_small [] (suc i) h = omega arith
fills_small (p ∷ ps) (suc i) h =
    let both : sum_by fill_of (take (suc i) (p ∷ ps)) ≡ fill_of p + sum_by fill_of (take i ps) = sum_by-cons fill_of p (take i ps) in
    let first = fill_small p h.0 in let others = fills_small ps i h.1 in omega arith

-- ---- tree blocks

pub full_size : (ps : List Ptr) (i : ℕ) (bytes : List ℕ) → bytes ≡ flat_map pointer_bytes (take i ps) → length ps ≤ i → length ps ≡ 32 → AllByRecursion IsLawful ps → length bytes ≡ 4096
full_size ps i bytes is over count h =
    ap length is ∙ (ap (λ (qs : List Ptr). length (flat_map pointer_bytes qs)) (take_all i ps over)
    ∙ (length-pieces 128 pointer_bytes ps (pointers_long ps h) ∙ ap (λ (n : ℕ). 128 * n) count))

pub block_long : (bytes : List ℕ) (level fill : ℕ) (ps : List Ptr) → SpellsTreeBlock bytes level fill ps → length bytes ≡ 4096
block_long bytes level fill ps h =
    ap length h.spelling ∙ (length-pieces 128 pointer_bytes ps (pointers_long ps h.lawful) ∙ ap (λ (n : ℕ). 128 * n) h.count)

pub each_of_block : (bytes : List ℕ) (level fill : ℕ) (ps : List Ptr) → SpellsTreeBlock bytes level fill ps → SpellsEach level (first_chunks 128 32 bytes) ps
each_of_block bytes level fill ps h = record {
  lawful = h.lawful;
  levels = h.levels;
  spelling =
      ap (first_chunks 128 32) h.spelling
      ∙ (ap (λ (n : ℕ). first_chunks 128 n (flat_map pointer_bytes ps)) (sym h.count) ∙ chunks-flat_map 128 pointer_bytes ps (pointers_long ps h.lawful));
}

pub count_of_each : (level : ℕ) (bytes : List ℕ) (ps : List Ptr) → SpellsEach level (first_chunks 128 32 bytes) ps → length ps ≡ 32
count_of_each level bytes ps h = length_from_map pointer_bytes ps _ h.spelling ∙ length-first_chunks 128 32 bytes

pub block_of_each : (bytes : List ℕ) (level fill : ℕ) (ps : List Ptr) → length bytes ≡ 4096 → SpellsEach level (first_chunks 128 32 bytes) ps → 0 < sum_by fill_of ps → sum_by fill_of ps ≡ fill → SpellsTreeBlock bytes level fill ps
block_of_each bytes level fill ps long h some leaves = record {
  count = count_of_each level bytes ps h;
  lawful = h.lawful;
  levels = h.levels;
  some = some;
  leaves = leaves;
  spelling = sym (joined 128 32 bytes long) ∙ (ap (flat_map (λ (c : List ℕ). c)) h.spelling ∙ flat_map-map pointer_bytes ps);
}

-- a block has one spelling, and one value
pub one_block : (bytes : List ℕ) (level other fill more : ℕ) (ps qs : List Ptr) → SpellsTreeBlock bytes level fill ps → SpellsTreeBlock bytes other more qs → ps ≡ qs
one_block bytes level other fill more ps qs h k =
    same_map pointer_bytes IsLawful same_pointer ps qs h.lawful k.lawful
    (sym (each_of_block bytes level fill ps h).spelling ∙ (each_of_block bytes other more qs k).spelling)

-- the pieces of a block of the right length
pub chunked : (bytes : List ℕ) (pieces : List (List ℕ)) → length bytes ≡ 4096 → pieces ≡ first_chunks 128 (length bytes / 128) bytes → pieces ≡ first_chunks 128 32 bytes
chunked bytes pieces long is = is ∙ ap (λ (n : ℕ). first_chunks 128 (n / 128) bytes) long

-- a piece is no pointer of the level
pub no_block : (bytes : List ℕ) (pieces : List (List ℕ)) (level fill : ℕ) → pieces ≡ first_chunks 128 32 bytes → ((ps : List Ptr) → SpellsEach level pieces ps → ⊥) → (ps : List Ptr) → SpellsTreeBlock bytes level fill ps → ⊥
no_block bytes pieces level fill is none ps h =
    none ps (subst (λ (cs : List (List ℕ)). SpellsEach level cs ps) (sym is) (each_of_block bytes level fill ps h))

-- the pointers have other leaves between them
pub other_fill : (bytes : List ℕ) (pieces : List (List ℕ)) (level fill : ℕ) (ps : List Ptr) → pieces ≡ first_chunks 128 32 bytes → SpellsEach level pieces ps →
    (0 < sum_by fill_of ps → sum_by fill_of ps ≡ fill → ⊥) → (qs : List Ptr) → SpellsTreeBlock bytes level fill qs → ⊥
other_fill bytes pieces level fill ps is h other qs k =
    let same = one_each level (first_chunks 128 32 bytes) qs ps (each_of_block bytes level fill qs k) (subst (λ (cs : List (List ℕ)). SpellsEach level cs ps) is h) in
    other (subst (λ (rs : List Ptr). 0 < sum_by fill_of rs) same k.some) (ap (sum_by fill_of) (sym same) ∙ k.leaves)

pub a_block : (bytes : List ℕ) (pieces : List (List ℕ)) (level fill : ℕ) (ps : List Ptr) → length bytes ≡ 4096 → pieces ≡ first_chunks 128 32 bytes → SpellsEach level pieces ps →
    0 < sum_by fill_of ps → sum_by fill_of ps ≡ fill → SpellsTreeBlock bytes level fill ps
a_block bytes pieces level fill ps long is h some leaves =
    block_of_each bytes level fill ps long (subst (λ (cs : List (List ℕ)). SpellsEach level cs ps) is h) some leaves

pub positive : (n m : ℕ) → n ≡ m → (n ≡ 0 → ⊥) → 0 < m
positive zero m e some = absurd (some refl)
positive (suc n) m e some = omega arith
