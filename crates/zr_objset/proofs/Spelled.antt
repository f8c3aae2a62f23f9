-- What a leaf of the directory spells are the records in it.
use Rattle.std.proofs.Common.{◌≡◌, ◌≤◌, ◌∙◌, ℕ, List, [], ◌∷◌, map, take, drop, nat_eq, false, Bool, refl, ap, arith, Option, Some, None}
use Rattle.std.specs.Prelude.{if◌then◌else◌, IfSome, IsTrue}
use Rattle.std.specs.List.{AllByRecursion}
use Rattle.std.proofs.lemmas.Bool.{ne_eqb}
use Rattle.std.proofs.lemmas.Bool.Decides.{nat_tests}
use Rattle.zr_base.specs.Blocks.{is_block_size}
use Rattle.zr_bptr.specs.declared.Bptr.{Bptr}
use Rattle.zr_bptr.specs.declared.Ptr.{Ptr}
use Rattle.zr_bptr.specs.declared.Ptr.TheVariants.{Hole, At}
use Rattle.zr_bptr.specs.declared.ObjRec.{ObjRec}
use Rattle.zr_bptr.specs.Fields.{fields_of, word_at}
use Rattle.zr_bptr.specs.Spelling.{IsLawful, IsObject, SpellsRecords, pointer_bytes, record_bytes}
use Rattle.zr_bptr.proofs.Spelled.{fields_back}
use Rattle.zr_bptr.proofs.Leaves.{units_back, height_back, root_back, each_of_leaf}
use Rattle.zr_tree.specs.Blocks.{read_pointer}
use Rattle.zr_objset.specs.Records.{read_record, records_in}

no_len : (fields_of (pointer_bytes Hole)).at.len ≡ 0
unfolding fields_of pointer_bytes
no_len = refl

pointer_back : (p : Ptr) → IsLawful p → read_pointer (pointer_bytes p) ≡ p
pointer_back Hole lawful = ap (λ (n : ℕ). if nat_eq n 0 then Hole else At (fields_of (pointer_bytes Hole))) no_len
pointer_back (At b) lawful =
    let back = fields_back b lawful in
    let some = lawful.address.some in
    let not_none : nat_eq b.at.len 0 ≡ false = ne_eqb b.at.len 0 (λ e. omega arith) in
    ap (λ (x : Bptr). if nat_eq x.at.len 0 then Hole else At x) back ∙ ap (λ (t : Bool). if t then Hole else At b) not_none

some_units : (n : ℕ) → IsTrue (is_block_size n) → 1 ≤ n
some_units n h = grind (arith, nat_tests)

no_units : word_at (record_bytes None) 0 ≡ 0
unfolding record_bytes
no_units = refl

abbrev made : ℕ → Ptr → ℕ → ObjRec
made units root height = record { units = units; tree = record { root = root; height = height } }

record_back : (x : Option ObjRec) → IfSome x IsObject → read_record (record_bytes x) ≡ x
record_back None h =
    let bytes = record_bytes None in
    ap (λ (n : ℕ). if nat_eq n 0 then None else Some (made (word_at bytes 0) (read_pointer (take 128 (drop 16 bytes))) (word_at bytes 8))) no_units
record_back (Some r) h =
    let bytes = record_bytes (Some r) in
    let some = some_units r.units h.size in
    let not_none : nat_eq r.units 0 ≡ false = ne_eqb r.units 0 (λ e. omega arith) in
    let root = ap read_pointer (root_back r h) ∙ pointer_back r.tree.root h.tree.lawful in
    ap (λ (n : ℕ). if nat_eq n 0 then None else Some (made n (read_pointer (take 128 (drop 16 bytes))) (word_at bytes 8))) (units_back r h)
    ∙ ap (λ (p : Ptr). if nat_eq r.units 0 then None else Some (made r.units p (word_at bytes 8))) root
    ∙ ap (λ (n : ℕ). if nat_eq r.units 0 then None else Some (made r.units r.tree.root n)) (height_back r h)
    ∙ ap (λ (t : Bool). if t then None else Some r) not_none

records_back : (xs : List (Option ObjRec)) → AllByRecursion (λ x. IfSome x IsObject) xs → map read_record (map record_bytes xs) ≡ xs
records_back [] lawful = refl
records_back (x ∷ xs) lawful = ap (λ (y : Option ObjRec). y ∷ map read_record (map record_bytes xs)) (record_back x lawful.0) ∙ ap (λ (ys : List (Option ObjRec)). x ∷ ys) (records_back xs lawful.1)

pub spelled : (bytes : List ℕ) (records : List (Option ObjRec)) → SpellsRecords bytes records → records_in bytes ≡ records
unfolding records_in
spelled bytes records spells =
    let each = each_of_leaf bytes records spells in
    ap (map read_record) each.spelling ∙ records_back records each.lawful
