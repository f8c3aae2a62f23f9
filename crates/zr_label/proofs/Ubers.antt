-- An uberblock has one value.
use Rattle.std.proofs.Common.{◌≡◌, ℕ, ◌+◌, ◌*◌, ◌%◌, ◌^◌, ◌<◌, ◌≤◌, List, ◌∷◌, ◌++◌, length, take, drop, get_or, refl, sym, ap, subst, ◌∙◌, append_assoc, arith}
use Rattle.std.specs.List.{flat_map}
use Rattle.std.proofs.lemmas.List.{take_at, drop_at, drop-drop, get_or-drop, flat_map_more, length-append, length-take}
use Rattle.std.proofs.lemmas.Grind.{take_at_read}
use Rattle.zr_base.specs.declared.space.DevRow.{DevRow}
use Rattle.byteorder.specs.Endian.{little_number}
use Rattle.zr_base.specs.Words.{word}
use Rattle.zr_bptr.specs.declared.Ptr.{Ptr}
use Rattle.zr_bptr.specs.declared.Ptr.TheVariants.{Hole, At}
use Rattle.zr_bptr.specs.Spelling.{IsLawful, SpellsPointer, pointer_bytes}
use Rattle.zr_bptr.specs.Fields.{word_at}
use Rattle.zr_bptr.proofs.Pieces.{pointer_long}
use Rattle.zr_bptr.proofs.Spelled.{word_back, one_pointer}
use Rattle.zr_label.specs.declared.root.Name.{Name}
use Rattle.zr_label.specs.declared.root.Uber.{Uber}
use Rattle.zr_label.specs.Blocks.{IsFilled, IsMetaRoot, IsUber, SpellsUber, uber_block, uber_words, row_bytes, name_field, summed}
use Rattle.zr_label.specs.Fields.{name_at, table_fields, uber_fields}
use Rattle.zr_label.proofs.RowLemmas.{table_back, table_long}

-- one row more
pub put_more : (old mid new part : List ℕ) (rs : List DevRow) (i : ℕ) (d : DevRow) → i < length rs → part ≡ row_bytes (get_or rs i d) →
    ((done : List ℕ) → length done ≡ 256 → IsFilled old done → IsFilled mid (done ++ flat_map row_bytes (take i rs))) →
    ((done : List ℕ) → length done ≡ 256 + 32 * i → IsFilled mid done → IsFilled new (done ++ part)) →
    (done : List ℕ) → length done ≡ 256 → IsFilled old done → IsFilled new (done ++ flat_map row_bytes (take (i + 1) rs))
put_more old mid new part rs i d lt is before step done size h =
    let front = done ++ flat_map row_bytes (take i rs) in
    let count : length (take i rs) ≡ i = omega (arith, length-take i rs) in
    let long : length front ≡ 256 + 32 * i = omega (arith, length-append done (flat_map row_bytes (take i rs)), table_long (take i rs) i count) in
    let more : front ++ part ≡ done ++ flat_map row_bytes (take (i + 1) rs) =
    ap (λ (t : List ℕ). front ++ t) is ∙ (flat_map_more row_bytes done (take i rs) (get_or rs i d)
    ∙ ap (λ (t : List DevRow). done ++ flat_map row_bytes t) (sym (take_at_read rs i d lt).1)) in
    subst (IsFilled new) more (step front long (before done size h))

-- ---- the parts of a block

flat : (w p r n pad sum : List ℕ) → ((w ++ (p ++ (r ++ n))) ++ pad) ++ sum ≡ w ++ (p ++ (r ++ (n ++ (pad ++ sum))))
flat w p r n pad sum =
    append_assoc (w ++ (p ++ (r ++ n))) pad sum ∙ (append_assoc w (p ++ (r ++ n)) (pad ++ sum)
    ∙ ap (λ (t : List ℕ). w ++ t) (append_assoc p (r ++ n) (pad ++ sum) ∙ ap (λ (t : List ℕ). p ++ t) (append_assoc r n (pad ++ sum))))

behind_words : (w p t : List ℕ) → length w ≡ 128 → drop 128 (w ++ (p ++ t)) ≡ p ++ t
behind_words w p t lw = drop_at w (p ++ t) 128 lw

behind_root : (w p t : List ℕ) → length w ≡ 128 → length p ≡ 128 → drop 256 (w ++ (p ++ t)) ≡ t
behind_root w p t lw lp = sym (drop-drop 128 128 (w ++ (p ++ t))) ∙ (ap (drop 128) (behind_words w p t lw) ∙ drop_at p t 128 lp)

behind_rows : (w p r t : List ℕ) → length w ≡ 128 → length p ≡ 128 → length r ≡ 1024 → drop 1280 (w ++ (p ++ (r ++ t))) ≡ t
behind_rows w p r t lw lp lr = sym (drop-drop 1024 256 (w ++ (p ++ (r ++ t)))) ∙ (ap (drop 1024) (behind_root w p (r ++ t) lw lp) ∙ drop_at r t 1024 lr)

root_part : (w p t block : List ℕ) → length w ≡ 128 → length p ≡ 128 → block ≡ w ++ (p ++ t) → take 128 (drop 128 block) ≡ p
root_part w p t block lw lp e = ap (λ (b : List ℕ). take 128 (drop 128 b)) e ∙ (ap (take 128) (behind_words w p t lw) ∙ take_at p t 128 lp)

table_part : (w p r t block : List ℕ) → length w ≡ 128 → length p ≡ 128 → length r ≡ 1024 → block ≡ w ++ (p ++ (r ++ t)) → take 1024 (drop 256 block) ≡ r
table_part w p r t block lw lp lr e = ap (λ (b : List ℕ). take 1024 (drop 256 b)) e ∙ (ap (take 1024) (behind_root w p (r ++ t) lw lp) ∙ take_at r t 1024 lr)

same_name : (n : Name) (len : ℕ) (bytes : List ℕ) → len ≡ n.len → bytes ≡ n.bytes → record { len = len; bytes = bytes } ≡ n
same_name n len bytes e1 e2 = rw (e1, e2) refl

name_part : (w p r t block : List ℕ) (n : Name) → length w ≡ 128 → length p ≡ 128 → length r ≡ 1024 → length n.bytes ≡ 63 → block ≡ w ++ (p ++ (r ++ (name_field n ++ t))) → name_at block 1280 ≡ n
name_part w p r t block n lw lp lr ln e =
    let behind : drop 1280 block ≡ n.len ∷ (n.bytes ++ t) = ap (drop 1280) e ∙ behind_rows w p r (name_field n ++ t) lw lp lr in
    same_name n _ _ (sym (get_or-drop 1280 block 0 0) ∙ ap (λ (b : List ℕ). get_or b 0 0) behind)
    (ap (take 63) (sym (drop-drop 1 1280 block) ∙ ap (drop 1) behind) ∙ take_at n.bytes t 63 ln)

-- ---- the parts of a root

pub root_lawful : (p : Ptr) (len : ℕ) → IsMetaRoot p len → IsLawful p
root_lawful Hole len h = tt
root_lawful (At b) len h = h.0

pub words_long : (u : Uber) → length (uber_words u) ≡ 128
words_long u = refl

block_is : (u : Uber) → (t : List ℕ) × (uber_block u ≡ uber_words u ++ (pointer_bytes u.root ++ (flat_map row_bytes u.rows ++ (name_field u.name ++ t))))
unfolding uber_block summed
block_is u = (_, flat (uber_words u) (pointer_bytes u.root) (flat_map row_bytes u.rows) (name_field u.name) _ _)

root_at_place : (u : Uber) → IsUber u → take 128 (drop 128 (uber_block u)) ≡ pointer_bytes u.root
root_at_place u h = root_part (uber_words u) (pointer_bytes u.root) _ (uber_block u) (words_long u) (pointer_long u.root (root_lawful u.root u.len h.root)) (block_is u).1

abbrev made : ℕ → ℕ → ℕ → ℕ → ℕ → ℕ → Ptr → List DevRow → Name → Uber
made version txg guid len count reset root rows name = record { version = version; txg = txg; guid = guid; len = len; count = count; reset = reset; root = root; rows = rows; name = name }

same_fields : (u : Uber) (version txg guid len count reset : ℕ) (root : Ptr) (rows : List DevRow) (name : Name) →
    version ≡ u.version → txg ≡ u.txg → guid ≡ u.guid → len ≡ u.len → count ≡ u.count → reset ≡ u.reset → root ≡ u.root → rows ≡ u.rows → name ≡ u.name →
    made version txg guid len count reset root rows name ≡ u
same_fields u version txg guid len count reset root rows name e1 e2 e3 e4 e5 e6 e7 e8 e9 = rw (e1, e2, e3, e4, e5, e6, e7, e8, e9) refl

small_mod : (n : ℕ) → n ≤ 32 → n % 2 ^ 32 ≡ n
small_mod n h = omega arith

-- a word of a block, by what stands in front of and behind it
word_is : (block t : List ℕ) (at n : ℕ) → n < 2 ^ 64 → drop at block ≡ word n ++ t → word_at block at ≡ n
word_is block t at n fits e = ap (little_number 8) e ∙ word_back n t fits

-- the fields of the block of a root are its own
pub uber_back : (u : Uber) → IsUber u → uber_fields (uber_block u) u.root ≡ u
unfolding uber_fields
uber_back u h =
    let block = uber_block u in
    let lp = pointer_long u.root (root_lawful u.root u.len h.root) in
    let lr = table_long u.rows 32 h.table.size in
    let is = (block_is u).1 in
    same_fields u _ _ _ _ _ _ _ _ _
    (word_is block _ 8 u.version (omega (arith, h.head.newest)) (ap (drop 8) is))
    (word_is block _ 16 u.txg h.head.txg_fits (ap (drop 16) is))
    (word_is block _ 24 u.guid h.head.guid_fits (ap (drop 24) is))
    (word_is block _ 32 u.len (omega (arith, h.head.most)) (ap (drop 32) is))
    (ap (λ (n : ℕ). n % 2 ^ 32) (word_is block _ 40 u.count (omega (arith, h.head.devices)) (ap (drop 40) is)) ∙ small_mod u.count h.head.devices)
    (word_is block _ 48 u.reset (omega (arith, h.head.reset, h.head.txg_fits)) (ap (drop 48) is))
    refl
    (ap table_fields (table_part (uber_words u) (pointer_bytes u.root) (flat_map row_bytes u.rows) _ block (words_long u) lp lr is) ∙ table_back u.version u.txg u.count u.rows h.head.txg_fits h.table)
    (name_part (uber_words u) (pointer_bytes u.root) (flat_map row_bytes u.rows) _ block u.name (words_long u) lp lr h.name.size is)

-- the pointer of a block that is spelled
root_told : (block : List ℕ) (u : Uber) → SpellsUber block u → SpellsPointer (take 128 (drop 128 block)) u.root
root_told block u h = record {
  lawful = root_lawful u.root u.len h.lawful.root;
  spelling = ap (λ (b : List ℕ). take 128 (drop 128 b)) h.spelling ∙ root_at_place u h.lawful;
}

pub no_root : (block : List ℕ) → ((p : Ptr) → SpellsPointer (take 128 (drop 128 block)) p → ⊥) → (m : Uber) → SpellsUber block m → ⊥
no_root block none m h = none m.root (root_told block m h)

fields_told : (block : List ℕ) (root : Ptr) (m : Uber) → SpellsPointer (take 128 (drop 128 block)) root → SpellsUber block m → uber_fields block root ≡ m
fields_told block root m read h =
    ap (uber_fields block) (one_pointer _ root m.root read (root_told block m h)) ∙ (ap (λ (b : List ℕ). uber_fields b m.root) h.spelling ∙ uber_back m h.lawful)

-- a block that is not what its own fields spell
pub no_uber : (block : List ℕ) (root : Ptr) (u : Uber) → SpellsPointer (take 128 (drop 128 block)) root → u ≡ uber_fields block root → (IsUber u → SpellsUber block u → ⊥) → (m : Uber) → SpellsUber block m → ⊥
no_uber block root u read is other m h =
    let same : u ≡ m = is ∙ fields_told block root m read h in
    let k = subst (SpellsUber block) (sym same) h in other k.lawful k

-- a spelling has one value
pub one_uber : (block : List ℕ) (u m : Uber) → SpellsUber block u → SpellsUber block m → u ≡ m
one_uber block u m h k = sym (fields_told block u.root u (root_told block u h) h) ∙ fields_told block u.root m (root_told block u h) k

-- the parts that encoding puts
pub laid : (u : Uber) (w p n : List ℕ) → w ≡ uber_words u → p ≡ pointer_bytes u.root → n ≡ name_field u.name → summed (((w ++ p) ++ flat_map row_bytes u.rows) ++ n) ≡ uber_block u
unfolding uber_block
laid u w p n e1 e2 e3 =
    let rows = flat_map row_bytes u.rows in
    ap summed (append_assoc (w ++ p) rows n ∙ (append_assoc w p (rows ++ n)
    ∙ (ap (λ (t : List ℕ). t ++ (p ++ (rows ++ n))) e1
    ∙ (ap (λ (t : List ℕ). uber_words u ++ (t ++ (rows ++ n))) e2
    ∙ ap (λ (t : List ℕ). uber_words u ++ (pointer_bytes u.root ++ (rows ++ t))) e3))))
