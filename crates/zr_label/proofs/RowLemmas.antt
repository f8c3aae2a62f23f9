-- A row has one spelling, and its fields are read back.
use Rattle.std.proofs.Common.{◌≡◌, ℕ, zero, suc, ◌*◌, ◌/◌, ◌^◌, ◌<◌, ◌≤◌, ◌==◌, List, [], ◌∷◌, ◌++◌, length, map, take, drop, Bool, true, false, ◌⊎◌, inl, inr, IsTrue, refl, sym, ap, subst, ◌∙◌, arith}
use Rattle.std.specs.Prelude.{if◌then◌else◌, nat_le, nat_lt, ◌&&◌}
use Rattle.std.specs.List.{AllByRecursion, flat_map, list_all}
use Rattle.std.specs.Simd.{first_chunks}
use Rattle.std.proofs.lemmas.Bool.{and_parts}
use Rattle.std.proofs.lemmas.Bool.Decides.{nat_tests}
use Rattle.std.proofs.lemmas.List.{take-append-drop}
use Rattle.zr_bptr.proofs.Pieces.{AreLong, chunks-flat_map, length-pieces}
use Rattle.std.proofs.Math.Dec.{eqb-suc-zero}
use Rattle.zr_base.specs.Words.{words}
use Rattle.zr_base.specs.declared.space.DevRow.{DevRow}
use Rattle.zr_base.specs.declared.space.DevState.{DevState}
use Rattle.zr_base.specs.declared.space.DevState.TheVariants.{On, Leaving, Gone}
use Rattle.zr_bptr.specs.Fields.{word_at}
use Rattle.zr_bptr.proofs.Spelled.{word_back}
use Rattle.zr_label.specs.Blocks.{IsTable, most_units, is_going, is_row, is_no_row, row_bytes, state_number, no_row}
use Rattle.zr_rules.specs.Places.{is_on}
use Rattle.zr_label.specs.Fields.{row_fields, state_of, table_fields}

-- a row that can be spelled: zeros alone where there is no device
pub record IsStored (r : DevRow) : Type 0 where
  pub none : r.added ≡ 0 → r ≡ no_row
  pub added_fits : r.added < 2 ^ 64
  pub units_fit : r.units < 2 ^ 64
  pub gone_fits : r.gone < 2 ^ 64

test : (n : ℕ) → (n ≡ 0 → ⊥) → (n == 0) ≡ false
test zero some = absurd (some refl)
test (suc n) some = eqb-suc-zero n

-- the words of a row of a device
abbrev device_words : DevRow → List ℕ
device_words r = state_number r.state ∷ r.added ∷ r.units ∷ r.gone ∷ []

row_some : (r : DevRow) → (r.added ≡ 0 → ⊥) → row_bytes r ≡ words (device_words r)
unfolding row_bytes
row_some r some = ap (λ (b : Bool). words (if b then 0 ∷ 0 ∷ 0 ∷ 0 ∷ [] else device_words r)) (test r.added some)

state_small : (s : DevState) → state_number s < 2 ^ 64
state_small On = omega arith
state_small Leaving = omega arith
state_small Gone = omega arith

state_back : (s : DevState) → state_of (state_number s) ≡ s
state_back On = refl
state_back Leaving = refl
state_back Gone = refl

abbrev made : DevState → ℕ → ℕ → ℕ → DevRow
made s added units gone = record { state = s; added = added; units = units; gone = gone }

is_zero : (n : ℕ) → (n ≡ 0) ⊎ (n ≡ 0 → ⊥)
is_zero zero = inl refl
is_zero (suc n) = inr (λ e. absurd (omega arith))

same_row : (r : DevRow) (s : DevState) (added units gone : ℕ) → s ≡ r.state → added ≡ r.added → units ≡ r.units → gone ≡ r.gone → made s added units gone ≡ r
same_row r s added units gone e1 e2 e3 e4 = rw (e1, e2, e3, e4) refl

device_back : (r : DevRow) → IsStored r → row_fields (words (device_words r)) ≡ r
unfolding row_fields
device_back r h =
    let bytes = words (device_words r) in
    let w0 : word_at bytes 0 ≡ state_number r.state = word_back _ (drop 8 bytes) (state_small r.state) in
    let w1 : word_at bytes 8 ≡ r.added = word_back _ (drop 16 bytes) h.added_fits in
    let w2 : word_at bytes 16 ≡ r.units = word_back _ (drop 24 bytes) h.units_fit in
    let w3 : word_at bytes 24 ≡ r.gone = word_back _ (drop 32 bytes) h.gone_fits in
    same_row r _ _ _ _ (ap state_of w0 ∙ state_back r.state) w1 w2 w3

none_back : row_fields (row_bytes no_row) ≡ no_row
unfolding row_fields row_bytes
none_back = refl

-- the fields of a row that is spelled are its own
pub row_back : (r : DevRow) → IsStored r → row_fields (row_bytes r) ≡ r
row_back r h = elim (is_zero r.added) [ inl e ↦ ap (λ (x : DevRow). row_fields (row_bytes x)) (h.none e) ∙ (none_back ∙ sym (h.none e)) | inr some ↦ ap row_fields (row_some r some) ∙ device_back r h ]

pub rows_back : (rs : List DevRow) → AllByRecursion IsStored rs → map row_fields (map row_bytes rs) ≡ rs
rows_back [] h = refl
rows_back (r ∷ rs) h = ap (λ (x : DevRow). x ∷ map row_fields (map row_bytes rs)) (row_back r h.0) ∙ ap (λ (xs : List DevRow). r ∷ xs) (rows_back rs h.1)

-- ---- the rows of a table

most_small : (b : Bool) (n : ℕ) → n ≤ (if b then 4193152 else 33553280) → n < 2 ^ 64
most_small true n h = omega arith
most_small false n h = omega arith

le_told : (m n : ℕ) → IsTrue (nat_le m n) → m ≤ n
le_told m n h = grind (arith, nat_tests)

eq_told : (m n : ℕ) → IsTrue (m == n) → m ≡ n
eq_told m n h = grind (arith, nat_tests)

going_fits : (s : DevState) (added gone txg : ℕ) → txg < 2 ^ 64 → IsTrue (is_going s added gone txg) → gone < 2 ^ 64
going_fits On added gone txg fits h = grind (arith, nat_tests)
going_fits Leaving added gone txg fits h = grind (arith, nat_tests)
going_fits Gone added gone txg fits h = let p = and_parts (nat_lt added gone) (nat_le gone txg) h in omega (arith, le_told gone txg p.1)

row_stored : (version txg : ℕ) → txg < 2 ^ 64 → (r : DevRow) → IsTrue (is_row version txg r) → IsStored r
row_stored version txg fits r h =
    let d = and_parts (nat_le 1 r.added && nat_le r.added txg && nat_le 896 r.units && nat_le r.units (most_units version)) (is_going r.state r.added r.gone txg) h in
    let c = and_parts (nat_le 1 r.added && nat_le r.added txg && nat_le 896 r.units) (nat_le r.units (most_units version)) d.0 in
    let b = and_parts (nat_le 1 r.added && nat_le r.added txg) (nat_le 896 r.units) c.0 in
    let a = and_parts (nat_le 1 r.added) (nat_le r.added txg) b.0 in
    let some : 1 ≤ r.added = le_told 1 r.added a.0 in let past : r.added ≤ txg = le_told r.added txg a.1 in
    record {
      none = λ e. absurd (omega arith);
      added_fits = omega arith;
      units_fit = most_small (version == 1) r.units (le_told _ _ c.1);
      gone_fits = going_fits r.state r.added r.gone txg fits d.1;
    }

on_told : (s : DevState) → IsTrue (is_on s) → s ≡ On
on_told On h = refl
on_told Leaving h = absurd cc
on_told Gone h = absurd cc

no_row_told : (r : DevRow) → IsTrue (is_no_row r) → r ≡ no_row
no_row_told r h =
    let c = and_parts _ _ h in let b = and_parts _ _ c.0 in let a = and_parts _ _ b.0 in
    sym (same_row r On 0 0 0 (sym (on_told r.state a.0)) (sym (eq_told _ _ a.1)) (sym (eq_told _ _ b.1)) (sym (eq_told _ _ c.1)))

none_stored : (r : DevRow) → IsTrue (is_no_row r) → IsStored r
none_stored r h = subst IsStored (sym (no_row_told r h)) (record { none = λ e. refl; added_fits = omega arith; units_fit = omega arith; gone_fits = omega arith })

all_stored : (p : DevRow → Bool) → ((r : DevRow) → IsTrue (p r) → IsStored r) → (rs : List DevRow) → IsTrue (list_all p rs) → AllByRecursion IsStored rs
all_stored p each [] h = tt
all_stored p each (r ∷ rs) h = let a = and_parts (p r) (list_all p rs) h in (each r a.0, all_stored p each rs a.1)

both_stored : (rs ss : List DevRow) → AllByRecursion IsStored rs → AllByRecursion IsStored ss → AllByRecursion IsStored (rs ++ ss)
both_stored [] ss h k = k
both_stored (r ∷ rs) ss h k = (h.0, both_stored rs ss h.1 k)

-- the rows of a table can be spelled
pub table_stored : (version txg count : ℕ) (rs : List DevRow) → txg < 2 ^ 64 → IsTable version txg count rs → AllByRecursion IsStored rs
table_stored version txg count rs fits h =
    subst (AllByRecursion IsStored) (take-append-drop count rs)
    (both_stored (take count rs) (drop count rs) (all_stored (is_row version txg) (row_stored version txg fits) (take count rs) h.devices) (all_stored is_no_row none_stored (drop count rs) h.rest))

words_long : (b : Bool) (r : DevRow) → length (words (if b then 0 ∷ 0 ∷ 0 ∷ 0 ∷ [] else device_words r)) ≡ 32
words_long true r = refl
words_long false r = refl

pub row_long : (r : DevRow) → length (row_bytes r) ≡ 32
unfolding row_bytes
row_long r = words_long (r.added == 0) r

pub rows_long : (rs : List DevRow) → AreLong 32 row_bytes rs
rows_long [] = tt
rows_long (r ∷ rs) = (row_long r, rows_long rs)

-- the rows of a table that is spelled are its own
pub table_back : (version txg count : ℕ) (rs : List DevRow) → txg < 2 ^ 64 → IsTable version txg count rs → table_fields (flat_map row_bytes rs) ≡ rs
unfolding table_fields
table_back version txg count rs fits h =
    ap (λ (n : ℕ). map row_fields (first_chunks 32 n (flat_map row_bytes rs))) (sym h.size)
    ∙ (ap (map row_fields) (chunks-flat_map 32 row_bytes rs (rows_long rs)) ∙ rows_back rs (table_stored version txg count rs fits h))

pub table_long : (rs : List DevRow) (n : ℕ) → length rs ≡ n → length (flat_map row_bytes rs) ≡ 32 * n
table_long rs n e = length-pieces 32 row_bytes rs (rows_long rs) ∙ ap (λ (k : ℕ). 32 * k) e

pub pieces_read : (bytes : List ℕ) (pieces : List (List ℕ)) → length bytes ≡ 1024 → pieces ≡ first_chunks 32 (length bytes / 32) bytes → map row_fields pieces ≡ table_fields bytes
unfolding table_fields
pieces_read bytes pieces long is = ap (map row_fields) (is ∙ ap (λ (n : ℕ). first_chunks 32 (n / 32) bytes) long)
