-- A spelling of an entry has one value: reading its fields gives the entry back.
use Rattle.std.proofs.Common.{◌≡◌, ℕ, ◌+◌, ◌*◌, ◌^◌, ◌<◌, ◌/◌, ◌%◌, List, [], ◌∷◌, ◌++◌, drop, Bool, true, not, refl, sym, ap, subst, ◌∙◌, arith}
use Rattle.std.specs.Str.{bytes_eq}
use Rattle.std.proofs.lemmas.Bool.{false≢true}
use Rattle.std.proofs.lemmas.Slice.Eq.{bytes_eq-Decides}
use Rattle.byteorder.specs.Endian.{little_number}
use Rattle.byteorder.specs.Numbers.{little_number-reads_back}
use Rattle.zr_base.specs.declared.space.Entry.{Entry}
use Rattle.zr_base.specs.Words.{word, words}
use Rattle.zr_imap.specs.Spelling.{IsWritable, SpellsEntry, entry_bytes, fields_of, word_at}

word_back : (n : ℕ) (rest : List ℕ) → n < 2 ^ 64 → little_number 8 (word n ++ rest) ≡ n
word_back n rest small = little_number-reads_back 8 n rest (omega arith)

same_fields : (e : Entry) (src dev dst len : ℕ) → src ≡ e.src → dev ≡ e.dev → dst ≡ e.dst → len ≡ e.len → record { src = src; dev = dev; dst = dst; len = len } ≡ e
same_fields e src dev dst len e1 e2 e3 e4 = rw (e1, e2, e3, e4) refl

times_8 : (n : ℕ) → 8 * n / 8 ≡ n
times_8 n = omega arith

dev_of : (len dev : ℕ) → len < 2 ^ 21 → (8 * len + 2 ^ 32 * dev) / 2 ^ 32 ≡ dev
dev_of len dev h = omega arith

len_of : (len dev : ℕ) → len < 2 ^ 21 → (8 * len + 2 ^ 32 * dev) % 2 ^ 32 / 8 ≡ len
len_of len dev h = omega arith

-- the fields of a spelling are the entry's own
pub fields_back : (e : Entry) → IsWritable e → fields_of (entry_bytes e) ≡ e
unfolding fields_of entry_bytes
fields_back e h =
    let bytes = entry_bytes e in
    let short = h.address.short in
    let dev = h.address.dev in
    let start = h.address.start in
    let w0 : word_at bytes 0 ≡ 8 * e.src = word_back _ (drop 8 bytes) (omega (arith, h.source)) in
    let w1 : word_at bytes 8 ≡ 8 * e.len + 2 ^ 32 * e.dev = word_back _ (drop 16 bytes) (omega arith) in
    let w2 : word_at bytes 16 ≡ 8 * e.dst = word_back _ (drop 24 bytes) (omega arith) in
    same_fields e _ _ _ _
    (ap (λ n. n / 8) w0 ∙ times_8 e.src)
    (ap (λ n. n / 2 ^ 32) w1 ∙ dev_of e.len e.dev short)
    (ap (λ n. n / 8) w2 ∙ times_8 e.dst)
    (ap (λ n. n % 2 ^ 32 / 8) w1 ∙ len_of e.len e.dev short)

-- bytes that are not what their own fields spell
pub none_read : (bytes : List ℕ) (e : Entry) → e ≡ fields_of bytes → (IsWritable e → entry_bytes e ≡ bytes → ⊥) → (x : Entry) → SpellsEntry bytes x → ⊥
none_read bytes e is other x h =
    let same : e ≡ x = is ∙ (ap fields_of h.spelling ∙ fields_back x h.lawful) in
    other (subst IsWritable (sym same) h.lawful) (ap entry_bytes same ∙ sym h.spelling)

-- the three words of an entry are its bytes
pub laid : (e : Entry) (a : ℕ) → a ≡ 8 * e.len + 2 ^ 32 * e.dev → words ((8 * e.src) ∷ a ∷ (8 * e.dst) ∷ []) ≡ entry_bytes e
unfolding entry_bytes
laid e a same = ap (λ (n : ℕ). words ((8 * e.src) ∷ n ∷ (8 * e.dst) ∷ [])) same

pub was_other : (a b : List ℕ) (t : Bool) → t ≡ not (bytes_eq a b) → t ≡ true → a ≡ b → ⊥
was_other a b t is passed same = false≢true (sym (ap not ((bytes_eq-Decides a b).1 same)) ∙ (sym is ∙ passed))
