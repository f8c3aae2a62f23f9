-- A leaf of the directory has one value.
use Rattle.std.proofs.Common.{◌≡◌, ℕ, zero, suc, ◌*◌, ◌<◌, ◌≤◌, ◌/◌, List, [], ◌∷◌, ◌++◌, length, drop, take, map, get_or, Bool, true, false, refl, sym, ap, subst, ◌∙◌, arith, IsTrue, Option, Some, None}
use Rattle.std.specs.Prelude.{IfSome, Result, Ok, Err, IfOk, option_map, Vec}
use Rattle.std.specs.Global.{Global}
use Rattle.zr_base.specs.Readers.{Reads}
use Rattle.std.proofs.lemmas.Bool.{false≢true}
use Rattle.std.proofs.lemmas.Bool.Decides.{nat_tests}
use Rattle.zr_bptr.proofs.Spelled.{one_pointer}
use Rattle.std.specs.Str.{bytes_eq}
use Rattle.std.specs.List.{AllByRecursion, flat_map}
use Rattle.std.specs.Simd.{first_chunks}
use Rattle.std.proofs.lemmas.Slice.Eq.{bytes_eq-Decides}
use Rattle.std.proofs.lemmas.List.{take_at, take_all, length-append}
use Rattle.zr_base.specs.Words.{words, zeros}
use Rattle.zr_bptr.specs.declared.Ptr.{Ptr}
use Rattle.zr_bptr.specs.declared.ObjRec.{ObjRec}
use Rattle.zr_base.specs.Blocks.{is_block_size}
use Rattle.zr_bptr.specs.Spelling.{IsObject, SpellsPointer, SpellsRecord, SpellsEachRecord, SpellsRecords, pointer_bytes, record_bytes}
use Rattle.zr_bptr.specs.Fields.{word_at}
use Rattle.zr_bptr.proofs.Spelled.{word_back}
use Rattle.zr_bptr.proofs.Pieces.{AreLong, chunks-flat_map, length-pieces, joined, flat_map-map, same_map, length_from_map, length-first_chunks, pointer_long}

abbrev made : ℕ → Ptr → ℕ → ObjRec
made units root height = record { units = units; tree = record { root = root; height = height } }

block_size_small : (n : ℕ) → IsTrue (is_block_size n) → n ≤ 32
block_size_small n h = grind (arith, nat_tests)

block_size_some : (n : ℕ) → IsTrue (is_block_size n) → 1 ≤ n
block_size_some n h = grind (arith, nat_tests)

pub units_back : (r : ObjRec) → IsObject r → word_at (record_bytes (Some r)) 0 ≡ r.units
unfolding record_bytes
units_back r h = word_back r.units (drop 8 (record_bytes (Some r))) (omega (arith, block_size_small r.units h.size))

pub height_back : (r : ObjRec) → IsObject r → word_at (record_bytes (Some r)) 8 ≡ r.tree.height
unfolding record_bytes
height_back r h = word_back r.tree.height (drop 16 (record_bytes (Some r))) (omega (arith, h.tree.low))

pub root_back : (r : ObjRec) → IsObject r → take 128 (drop 16 (record_bytes (Some r))) ≡ pointer_bytes r.tree.root
unfolding record_bytes
root_back r h = take_at (pointer_bytes r.tree.root) (zeros 112) 128 (pointer_long r.tree.root h.tree.lawful)

-- the words of a record and its root are its bytes
pub laid_record : (r : ObjRec) (u h : ℕ) (root : List ℕ) → u ≡ r.units → h ≡ r.tree.height → root ≡ pointer_bytes r.tree.root →
    words (u ∷ h ∷ []) ++ (root ++ zeros 112) ≡ record_bytes (Some r)
unfolding record_bytes
laid_record r u h root e1 e2 e3 =
    ap (λ (n : ℕ). words (n ∷ h ∷ []) ++ (root ++ zeros 112)) e1
    ∙ (ap (λ (n : ℕ). words (r.units ∷ n ∷ []) ++ (root ++ zeros 112)) e2
    ∙ ap (λ (t : List ℕ). words (r.units ∷ r.tree.height ∷ []) ++ (t ++ zeros 112)) e3)

pub none_spelled : (bytes : List ℕ) (b : Bool) → b ≡ bytes_eq bytes (zeros 256) → b ≡ true → SpellsRecord bytes None
unfolding record_bytes
none_spelled bytes b is passed = record { lawful = tt; spelling = (bytes_eq-Decides bytes (zeros 256)).0 (sym is ∙ passed) }

-- bytes that are no record: neither zeros, nor what a record spells
pub no_record : (bytes : List ℕ) (b : Bool) → b ≡ bytes_eq bytes (zeros 256) → b ≡ false → ((r : ObjRec) → IsObject r → bytes ≡ record_bytes (Some r) → ⊥) → (x : Option ObjRec) → SpellsRecord bytes x → ⊥
unfolding record_bytes
no_record bytes b is failed none None h = false≢true (sym failed ∙ (is ∙ (bytes_eq-Decides bytes (zeros 256)).1 h.spelling))
no_record bytes b is failed none (Some r) h = none r h.lawful h.spelling

-- the fields of a record that is spelled
pub record_units : (bytes : List ℕ) (r : ObjRec) → IsObject r → bytes ≡ record_bytes (Some r) → (word_at bytes 0 ≡ r.units) × (r.units ≤ 32)
record_units bytes r h e = (ap (λ (t : List ℕ). word_at t 0) e ∙ units_back r h, block_size_small r.units h.size)

pub record_height : (bytes : List ℕ) (r : ObjRec) → IsObject r → bytes ≡ record_bytes (Some r) → (word_at bytes 8 ≡ r.tree.height) × (r.tree.height ≤ 5)
record_height bytes r h e = (ap (λ (t : List ℕ). word_at t 8) e ∙ height_back r h, h.tree.low)

pub record_root : (bytes : List ℕ) (r : ObjRec) → IsObject r → bytes ≡ record_bytes (Some r) → SpellsPointer (take 128 (drop 16 bytes)) r.tree.root
record_root bytes r h e = record { lawful = h.tree.lawful; spelling = ap (λ (t : List ℕ). take 128 (drop 16 t)) e ∙ root_back r h }

same_fields : (r : ObjRec) (units height : ℕ) (root : Ptr) → units ≡ r.units → root ≡ r.tree.root → height ≡ r.tree.height → made units root height ≡ r
same_fields r units height root e1 e2 e3 = rw (e1, e2, e3) refl

pub record_is : (bytes : List ℕ) (units height : ℕ) (root : Ptr) → units ≡ word_at bytes 0 → height ≡ word_at bytes 8 → SpellsPointer (take 128 (drop 16 bytes)) root →
    (r : ObjRec) → IsObject r → bytes ≡ record_bytes (Some r) → made units root height ≡ r
record_is bytes units height root e1 e2 read r h e =
    same_fields r units height root (e1 ∙ (record_units bytes r h e).0) (one_pointer _ root r.tree.root read (record_root bytes r h e)) (e2 ∙ (record_height bytes r h e).0)

-- the record that the fields make is not lawful, or is spelled otherwise
pub not_spelled : (bytes : List ℕ) (units height : ℕ) (root : Ptr) → units ≡ word_at bytes 0 → height ≡ word_at bytes 8 → SpellsPointer (take 128 (drop 16 bytes)) root →
    (IsObject (made units root height) → record_bytes (Some (made units root height)) ≡ bytes → ⊥) → (r : ObjRec) → IsObject r → bytes ≡ record_bytes (Some r) → ⊥
not_spelled bytes units height root e1 e2 read other r h e =
    let same = record_is bytes units height root e1 e2 read r h e in
    other (subst IsObject (sym same) h) (ap (λ (x : ObjRec). record_bytes (Some x)) same ∙ sym e)

not_zeros : (r : ObjRec) → IsObject r → record_bytes (Some r) ≡ zeros 256 → ⊥
not_zeros r h e =
    let none : word_at (zeros 256) 0 ≡ 0 = refl in
    let units = ap (λ (t : List ℕ). word_at t 0) e in let back = units_back r h in let some = block_size_some r.units h.size in omega arith

-- a spelling has one value
pub one_record : (x y : Option ObjRec) → IfSome x IsObject → IfSome y IsObject → record_bytes x ≡ record_bytes y → x ≡ y
unfolding record_bytes
one_record None None h k e = refl
one_record None (Some y) h k e = absurd (not_zeros y k (sym e))
one_record (Some x) None h k e = absurd (not_zeros x h e)
one_record (Some x) (Some y) h k e =
    ap Some (record_is (record_bytes (Some x)) x.units x.tree.height x.tree.root (sym (units_back x h)) (sym (height_back x h)) (record_root _ x h refl) y k e)

-- ---- leaves

pub record_long : (x : Option ObjRec) → IfSome x IsObject → length (record_bytes x) ≡ 256
unfolding record_bytes
record_long None h = refl
record_long (Some r) h = omega (arith, pointer_long r.tree.root h.tree.lawful, length-append (pointer_bytes r.tree.root) (zeros 112))

pub records_long : (xs : List (Option ObjRec)) → AllByRecursion (λ x. IfSome x IsObject) xs → AreLong 256 record_bytes xs
records_long [] h = tt
records_long (x ∷ xs) h = (record_long x h.0, records_long xs h.1)

pub record_at_place : (xs : List (Option ObjRec)) (i : ℕ) (d : List ℕ) → i < length xs → AllByRecursion (λ x. IfSome x IsObject) xs → SpellsRecord (get_or (map record_bytes xs) i d) (get_or xs i None)
record_at_place [] i d lt h = absurd (omega arith)
record_at_place (x ∷ xs) zero d lt h = record { lawful = h.0; spelling = refl }
record_at_place (x ∷ xs) (suc i) d lt h = record_at_place xs i d (omega arith) h.1

pub no_each_record : (pieces : List (List ℕ)) (i : ℕ) (d : List ℕ) → i < length pieces → ((x : Option ObjRec) → SpellsRecord (get_or pieces i d) x → ⊥) → (xs : List (Option ObjRec)) → SpellsEachRecord pieces xs → ⊥
no_each_record pieces i d lt none xs h =
    let long = length_from_map record_bytes xs pieces h.spelling in
    none (get_or xs i None) (subst (λ (cs : List (List ℕ)). SpellsRecord (get_or cs i d) (get_or xs i None)) (sym h.spelling) (record_at_place xs i d (omega arith) h.lawful))

pub leaf_long : (bytes : List ℕ) (xs : List (Option ObjRec)) → SpellsRecords bytes xs → length bytes ≡ 4096
leaf_long bytes xs h = ap length h.spelling ∙ (length-pieces 256 record_bytes xs (records_long xs h.lawful) ∙ ap (λ (n : ℕ). 256 * n) h.count)

pub each_of_leaf : (bytes : List ℕ) (xs : List (Option ObjRec)) → SpellsRecords bytes xs → SpellsEachRecord (first_chunks 256 16 bytes) xs
each_of_leaf bytes xs h = record {
  lawful = h.lawful;
  spelling =
      ap (first_chunks 256 16) h.spelling
      ∙ (ap (λ (n : ℕ). first_chunks 256 n (flat_map record_bytes xs)) (sym h.count) ∙ chunks-flat_map 256 record_bytes xs (records_long xs h.lawful));
}

pub leaf_of_each : (bytes : List ℕ) (xs : List (Option ObjRec)) → length bytes ≡ 4096 → SpellsEachRecord (first_chunks 256 16 bytes) xs → SpellsRecords bytes xs
leaf_of_each bytes xs long h = record {
  count = length_from_map record_bytes xs _ h.spelling ∙ length-first_chunks 256 16 bytes;
  lawful = h.lawful;
  spelling = sym (joined 256 16 bytes long) ∙ (ap (flat_map (λ (c : List ℕ). c)) h.spelling ∙ flat_map-map record_bytes xs);
}

pieces_are : (bytes : List ℕ) (pieces : List (List ℕ)) → length bytes ≡ 4096 → pieces ≡ first_chunks 256 (length bytes / 256) bytes → pieces ≡ first_chunks 256 16 bytes
pieces_are bytes pieces long is = is ∙ ap (λ (n : ℕ). first_chunks 256 (n / 256) bytes) long

-- what reading the pieces says of the leaf
pub read_leaf : {E : Type 0} (bytes : List ℕ) (pieces : List (List ℕ)) (r : Result (Option (Vec (Option ObjRec) Global)) E) → length bytes ≡ 4096 → pieces ≡ first_chunks 256 (length bytes / 256) bytes →
    IfOk r (λ o. Reads (SpellsEachRecord pieces) (option_map (λ v. v.items) o)) → IfOk r (λ o. Reads (SpellsRecords bytes) (option_map (λ v. v.items) o))
read_leaf bytes pieces (Err e) long is h = tt
read_leaf bytes pieces (Ok None) long is h = λ xs k. h xs (subst (λ (cs : List (List ℕ)). SpellsEachRecord cs xs) (sym (pieces_are bytes pieces long is)) (each_of_leaf bytes xs k))
read_leaf bytes pieces (Ok (Some v)) long is h = leaf_of_each bytes v.items long (subst (λ (cs : List (List ℕ)). SpellsEachRecord cs v.items) (pieces_are bytes pieces long is) h)

-- a leaf has one value
pub one_leaf : (bytes : List ℕ) (xs ys : List (Option ObjRec)) → SpellsRecords bytes xs → SpellsRecords bytes ys → xs ≡ ys
one_leaf bytes xs ys h k =
    same_map record_bytes (λ x. IfSome x IsObject) one_record xs ys h.lawful k.lawful (sym (each_of_leaf bytes xs h).spelling ∙ (each_of_leaf bytes ys k).spelling)

pub full_leaf : (xs : List (Option ObjRec)) (i : ℕ) (bytes : List ℕ) → bytes ≡ flat_map record_bytes (take i xs) → length xs ≤ i → length xs ≡ 16 → AllByRecursion (λ x. IfSome x IsObject) xs → length bytes ≡ 4096
full_leaf xs i bytes is over count h =
    ap length is ∙ (ap (λ (ys : List (Option ObjRec)). length (flat_map record_bytes ys)) (take_all i xs over)
    ∙ (length-pieces 256 record_bytes xs (records_long xs h) ∙ ap (λ (n : ℕ). 256 * n) count))

pub empty_record : (r : Option ObjRec) → r ≡ None → zeros 256 ≡ record_bytes r
unfolding record_bytes
empty_record r is = ap record_bytes (sym is)
