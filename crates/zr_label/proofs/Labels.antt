-- A label block has one value.
use Rattle.std.proofs.Common.{◌≡◌, ℕ, ◌%◌, ◌^◌, ◌<◌, List, length, drop, Bool, IsTrue, ◌==◌, ◌-◌, ◌≤◌, refl, sym, ap, subst, ◌∙◌, arith}
use Rattle.std.specs.List.{list_all}
use Rattle.std.proofs.lemmas.List.{length-drop}
use Rattle.zr_bptr.specs.Fields.{word_at}
use Rattle.zr_bptr.proofs.Spelled.{word_back}
use Rattle.zr_label.specs.declared.root.Name.{Name}
use Rattle.zr_label.specs.declared.root.Label.{Label}
use Rattle.zr_label.specs.Blocks.{IsName, IsLabel, SpellsLabel, label_block, summed}
use Rattle.zr_label.specs.Fields.{label_fields}
use Rattle.zr_label.proofs.Filling.{front_is, zeros_iff}

abbrev made : ℕ → ℕ → ℕ → ℕ → ℕ → List ℕ → Label
made guid index added units len bytes = record { guid = guid; index = index; added = added; units = units; name = record { len = len; bytes = bytes } }

same_fields : (l : Label) (guid index added units len : ℕ) (bytes : List ℕ) →
    guid ≡ l.guid → index ≡ l.index → added ≡ l.added → units ≡ l.units → len ≡ l.name.len → bytes ≡ l.name.bytes → made guid index added units len bytes ≡ l
same_fields l guid index added units len bytes e1 e2 e3 e4 e5 e6 = rw (e1, e2, e3, e4, e5, e6) refl

small_mod : (n : ℕ) → n < 32 → n % 2 ^ 32 ≡ n
small_mod n h = omega arith

-- the fields of a label block are the label's own
pub label_back : (l : Label) → IsLabel l → label_fields (label_block l) ≡ l
unfolding label_fields label_block summed
label_back l h =
    let block = label_block l in
    let w2 : word_at block 16 ≡ l.guid = word_back _ (drop 24 block) h.guid_fits in
    let w3 : word_at block 24 ≡ l.index = word_back _ (drop 32 block) (omega (arith, h.index)) in
    let w4 : word_at block 32 ≡ l.added = word_back _ (drop 40 block) h.added_fits in
    let w5 : word_at block 40 ≡ l.units = word_back _ (drop 48 block) h.units_fit in
    same_fields l _ _ _ _ _ _ w2 (ap (λ (n : ℕ). n % 2 ^ 32) w3 ∙ small_mod l.index h.index) w4 w5 refl (front_is l.name.bytes _ _ 63 h.name.size)

-- a block that is not what its own fields spell
pub no_label : (block : List ℕ) (l : Label) → l ≡ label_fields block → (IsLabel l → SpellsLabel block l → ⊥) → (m : Label) → SpellsLabel block m → ⊥
no_label block l is other m h =
    let same : l ≡ m = is ∙ (ap label_fields h.spelling ∙ label_back m h.lawful) in
    let k = subst (SpellsLabel block) (sym same) h in other k.lawful k

-- a spelling has one value
pub one_label : (block : List ℕ) (l m : Label) → SpellsLabel block l → SpellsLabel block m → l ≡ m
one_label block l m h k = sym (label_back l h.lawful) ∙ (ap label_fields (sym h.spelling ∙ k.spelling) ∙ label_back m k.lawful)

pub name_iff : (n : Name) (b : Bool) → n.len ≤ 63 → length n.bytes ≡ 63 → b ≡ list_all (λ c. c == 0) (drop n.len n.bytes) → (IsTrue b → IsName n) × (IsName n → IsTrue b)
name_iff n b le size is =
    let z = zeros_iff (drop n.len n.bytes) (63 - n.len) (omega (arith, length-drop n.len n.bytes)) in
    (λ h. record { short = le; size = size; rest = z.0 (sym is ∙ h) }, λ k. is ∙ z.1 k.rest)

pub label_iff : (l : Label) (b : Bool) → (IsTrue b → IsName l.name) × (IsName l.name → IsTrue b) → 0 < l.guid → l.index < 32 → 0 < l.added → l.guid < 2 ^ 64 → l.added < 2 ^ 64 → l.units < 2 ^ 64 →
    (IsTrue b → IsLabel l) × (IsLabel l → IsTrue b)
label_iff l b name guid index added fits1 fits2 fits3 =
    (λ h. record { guid = guid; index = index; added = added; name = name.0 h; guid_fits = fits1; added_fits = fits2; units_fit = fits3 }, λ k. name.1 k.name)
