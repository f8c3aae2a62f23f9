-- A spelling has one value: reading the fields of a spelling gives the value back.
use Rattle.std.proofs.Common.{◌≡◌, ℕ, zero, suc, ◌+◌, ◌*◌, ◌^◌, ◌<◌, ◌≤◌, ◌/◌, ◌%◌, List, [], ◌∷◌, ◌++◌, drop, Bool, true, false, not, refl, sym, ap, subst, ◌∙◌, arith}
use Rattle.std.specs.Str.{bytes_eq}
use Rattle.std.proofs.lemmas.Slice.Eq.{bytes_eq-Decides}
use Rattle.std.proofs.lemmas.Bool.{false≢true}
use Rattle.std.proofs.lemmas.List.{append-nil}
use Rattle.byteorder.specs.Endian.{little_number}
use Rattle.byteorder.specs.Numbers.{little_number-reads_back}
use Rattle.zr_base.specs.declared.space.Dva.{Dva}
use Rattle.zr_base.specs.Words.{word, words, zeros, IsAddress}
use Rattle.zr_bptr.specs.declared.Bptr.{Bptr}
use Rattle.zr_bptr.specs.declared.Ptr.{Ptr}
use Rattle.zr_bptr.specs.declared.Ptr.TheVariants.{Hole, At}
use Rattle.zr_bptr.specs.Spelling.{IsPointer, SpellsPointer, pointer_bytes, properties}
use Rattle.zr_bptr.specs.Fields.{fields_of, word_at}

-- a word that was written is read back
pub word_back : (n : ℕ) (rest : List ℕ) → n < 2 ^ 64 → little_number 8 (word n ++ rest) ≡ n
word_back n rest small = little_number-reads_back 8 n rest (omega arith)

-- the words of an address, and the word of the properties, are below 2 ^ 64
pub address_fits : (d : Dva) → IsAddress d → (8 * d.len + 2 ^ 32 * d.dev < 2 ^ 64) × (8 * d.start < 2 ^ 64)
address_fits d h = let a = h.short in let b = h.dev in let c = h.start in (omega arith, omega arith)

pub properties_fit : (b : Bptr) → IsPointer b → properties b < 2 ^ 64
properties_fit b h = let a = h.address.short in let l = h.level in omega arith

-- the leaves below a pointer are at most those of the highest tree
pub leaves_below : (level : ℕ) → level ≤ 5 → 32 ^ level ≤ 33554432
leaves_below zero h = omega arith
leaves_below (suc zero) h = omega arith
leaves_below (suc (suc zero)) h = omega arith
leaves_below (suc (suc (suc zero))) h = omega arith
leaves_below (suc (suc (suc (suc zero)))) h = omega arith
leaves_below (suc (suc (suc (suc (suc zero))))) h = omega arith
leaves_below (suc (suc (suc (suc (suc (suc n)))))) h = absurd (omega arith)

pub fill_fits : (b : Bptr) → IsPointer b → b.fill ≤ 33554432
fill_fits b h = let most = h.most in let below = leaves_below b.level h.level in omega arith

-- a pointer by its fields
abbrev of_fields : ℕ → ℕ → ℕ → ℕ → ℕ → ℕ → List ℕ → Bptr
of_fields dev start len level birth fill sum = record { at = record { dev = dev; start = start; len = len }; level = level; birth = birth; fill = fill; sum = sum }

same_fields : (b : Bptr) (dev start len level birth fill : ℕ) (sum : List ℕ) →
    dev ≡ b.at.dev → start ≡ b.at.start → len ≡ b.at.len → level ≡ b.level → birth ≡ b.birth → fill ≡ b.fill → sum ≡ b.sum → of_fields dev start len level birth fill sum ≡ b
same_fields b dev start len level birth fill sum e1 e2 e3 e4 e5 e6 e7 = rw (e1, e2, e3, e4, e5, e6, e7) refl

dev_of : (len dev : ℕ) → len < 2 ^ 21 → (8 * len + 2 ^ 32 * dev) / 2 ^ 32 ≡ dev
dev_of len dev h = omega arith

len_of : (len dev : ℕ) → len < 2 ^ 21 → (8 * len + 2 ^ 32 * dev) % 2 ^ 32 / 8 ≡ len
len_of len dev h = omega arith

start_of : (start : ℕ) → 8 * start / 8 ≡ start
start_of start = omega arith

level_of : (b : Bptr) → IsPointer b → properties b / 2 ^ 56 % 2 ^ 7 ≡ b.level
level_of b h = let short = h.address.short in let low = h.level in omega arith

-- the fields of a spelling are the pointer's own
pub fields_back : (b : Bptr) → IsPointer b → fields_of (pointer_bytes (At b)) ≡ b
unfolding fields_of pointer_bytes
fields_back b h =
    let bytes = pointer_bytes (At b) in
    let w0 : word_at bytes 0 ≡ 8 * b.at.len + 2 ^ 32 * b.at.dev = word_back _ (drop 8 bytes) (address_fits b.at h.address).0 in
    let w1 : word_at bytes 8 ≡ 8 * b.at.start = word_back _ (drop 16 bytes) (address_fits b.at h.address).1 in
    let w6 : word_at bytes 48 ≡ properties b = word_back _ (drop 56 bytes) (properties_fit b h) in
    let w10 : word_at bytes 80 ≡ b.birth = word_back _ (drop 88 bytes) h.fits in
    let w11 : word_at bytes 88 ≡ b.fill = word_back _ (drop 96 bytes) (omega (arith, fill_fits b h)) in
    same_fields b _ _ _ _ _ _ _
    (ap (λ n. n / 2 ^ 32) w0 ∙ dev_of b.at.len b.at.dev h.address.short)
    (ap (λ n. n / 8) w1 ∙ start_of b.at.start)
    (ap (λ n. n % 2 ^ 32 / 8) w0 ∙ len_of b.at.len b.at.dev h.address.short)
    (ap (λ n. n / 2 ^ 56 % 2 ^ 7) w6 ∙ level_of b h)
    w10 w11 refl

pub hole_spelled : (p : Ptr) → p ≡ Hole → SpellsPointer (zeros 128) p
unfolding pointer_bytes
hole_spelled p is = subst (λ (x : Ptr). SpellsPointer (zeros 128) x) (sym is) (record { lawful = tt; spelling = refl })

pub hole_read : (bytes : List ℕ) (b : Bool) → b ≡ bytes_eq bytes (zeros 128) → b ≡ true → SpellsPointer bytes Hole
unfolding pointer_bytes
hole_read bytes b is passed = record { lawful = tt; spelling = (bytes_eq-Decides bytes (zeros 128)).0 (sym is ∙ passed) }

-- bytes that spell no pointer: neither zeros, nor what their own fields spell
pub none_read : (bytes : List ℕ) (b : Bptr) → b ≡ fields_of bytes → (bytes ≡ zeros 128 → ⊥) → (IsPointer b → pointer_bytes (At b) ≡ bytes → ⊥) → (p : Ptr) → SpellsPointer bytes p → ⊥
unfolding pointer_bytes
none_read bytes b is no_zeros other Hole h = no_zeros h.spelling
none_read bytes b is no_zeros other (At p) h =
    let same : b ≡ p = is ∙ (ap fields_of h.spelling ∙ fields_back p h.lawful) in
    other (subst IsPointer (sym same) h.lawful) (ap (λ (x : Bptr). pointer_bytes (At x)) same ∙ sym h.spelling)

pub not_zero : (bytes : List ℕ) (b : Bool) → b ≡ bytes_eq bytes (zeros 128) → b ≡ false → bytes ≡ zeros 128 → ⊥
not_zero bytes b is failed e = false≢true (sym failed ∙ (is ∙ (bytes_eq-Decides bytes (zeros 128)).1 e))

zero_len : (fields_of (zeros 128)).at.len ≡ 0
unfolding fields_of
zero_len = refl

-- the bytes of a pointer begin with its length, so they are no zeros
pub not_hole : (b : Bptr) → IsPointer b → pointer_bytes (At b) ≡ zeros 128 → ⊥
not_hole b h e =
    let len : (fields_of (pointer_bytes (At b))).at.len ≡ (fields_of (zeros 128)).at.len = ap (λ (x : List ℕ). (fields_of x).at.len) e in
    let back = ap (λ (x : Bptr). x.at.len) (fields_back b h) in
    let some = h.address.some in
    let none : (fields_of (zeros 128)).at.len ≡ 0 = zero_len in
    omega arith

-- a spelling has one value
pub one_pointer : (bytes : List ℕ) (p q : Ptr) → SpellsPointer bytes p → SpellsPointer bytes q → p ≡ q
unfolding pointer_bytes
one_pointer bytes Hole Hole h k = refl
one_pointer bytes Hole (At q) h k = absurd (not_hole q k.lawful (sym k.spelling ∙ h.spelling))
one_pointer bytes (At p) Hole h k = absurd (not_hole p h.lawful (sym h.spelling ∙ k.spelling))
one_pointer bytes (At p) (At q) h k = ap At (sym (fields_back p h.lawful) ∙ (ap fields_of (sym h.spelling ∙ k.spelling) ∙ fields_back q k.lawful))

-- the words of a pointer and its sum are its bytes
pub laid : (b : Bptr) (a p : ℕ) → a ≡ 8 * b.at.len + 2 ^ 32 * b.at.dev → p ≡ properties b →
    words (a ∷ (8 * b.at.start) ∷ 0 ∷ 0 ∷ 0 ∷ 0 ∷ p ∷ 0 ∷ 0 ∷ 0 ∷ b.birth ∷ b.fill ∷ []) ++ (b.sum ++ []) ≡ pointer_bytes (At b)
unfolding pointer_bytes
laid b a p e f =
    ap (λ (s : List ℕ). words (a ∷ (8 * b.at.start) ∷ 0 ∷ 0 ∷ 0 ∷ 0 ∷ p ∷ 0 ∷ 0 ∷ 0 ∷ b.birth ∷ b.fill ∷ []) ++ s) (append-nil b.sum)
    ∙ (ap (λ (n : ℕ). words (n ∷ (8 * b.at.start) ∷ 0 ∷ 0 ∷ 0 ∷ 0 ∷ p ∷ 0 ∷ 0 ∷ 0 ∷ b.birth ∷ b.fill ∷ []) ++ b.sum) e
    ∙ ap (λ (n : ℕ). words ((8 * b.at.len + 2 ^ 32 * b.at.dev) ∷ (8 * b.at.start) ∷ 0 ∷ 0 ∷ 0 ∷ 0 ∷ n ∷ 0 ∷ 0 ∷ 0 ∷ b.birth ∷ b.fill ∷ []) ++ b.sum) f)

pub was_other : (a b : List ℕ) (t : Bool) → t ≡ not (bytes_eq a b) → t ≡ true → a ≡ b → ⊥
was_other a b t is passed same = false≢true (sym (ap not ((bytes_eq-Decides a b).1 same)) ∙ (sym is ∙ passed))
