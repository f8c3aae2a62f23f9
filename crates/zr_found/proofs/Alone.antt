-- A directory means one thing.
use Rattle.std.proofs.Common.{◌≡◌, ◌≢◌, inl, inr, ◌<◌, ◌+◌, ◌*◌, ◌/◌, ◌%◌, ℕ, zero, suc, List, [], ◌∷◌, map, Bool, true, false, nat_eq, Option, Some, None, refl, sym, ◌∙◌, ap, arith}
use Rattle.std.specs.Prelude.{if◌then◌else◌, slice_index, slice_index_or, unwrap_or}
use Rattle.std.specs.Cmp.{nat_cmp_total}
use Rattle.std.specs.FinMap as fin
use Rattle.std.specs.FinMap.{nat_cmp-IsAntisymmetric}
use Rattle.std.specs.FinSet as set
use Rattle.std.specs.FinSet.{FinSet}
use Rattle.std.specs.Ordering.{nat_cmp}
use Rattle.std.proofs.Math.Nat.{div-add-mod, mod-lt}
use Rattle.std.specs.Simd.{first_chunks}
use Rattle.std.proofs.lemmas.Bool.Decides.{nat_tests}
use Rattle.zr_bptr.specs.Fields.{word_at}
use Rattle.zr_bptr.specs.declared.ObjRec.{ObjRec}
use Rattle.zr_bptr.specs.declared.Ptr.{Ptr}
use Rattle.zr_bptr.specs.declared.Ptr.TheVariants.{Hole, At}
use Rattle.zr_bptr.specs.declared.Tree.{Tree}
use Rattle.zr_store.specs.Store.{Stored}
use Rattle.zr_tree.specs.Trees.{tree_at}
use Rattle.zr_objset.specs.Records.{read_record, records_in, record_in, record_of}
use Rattle.zr_model.specs.Objects.{Bytes, Object, Objects, byte_at, bytes_at}
use Rattle.zr_image.specs.StateOf.{AreObjects, IsObject, IsObjectOf}
use Rattle.zr_held.proofs.Bytes.{byte_in}
use Rattle.zr_found.proofs.Object.{lost_or}

-- ---- a record has units

some_units : (units : ℕ) (t : Tree) (r : ObjRec) (none : Bool) → nat_eq units 0 ≡ none → (if none then None else Some (record { units = units; tree = t })) ≡ Some r → 0 < r.units
some_units units t r true test is = absurd (cc)
some_units units t r false test is =
    let same : some_units_of (Some (record { units = units; tree = t })) ≡ some_units_of (Some r) = ap some_units_of is in
    grind (arith, nat_tests, test, same)
  where
    some_units_of : Option ObjRec → ℕ
    some_units_of None = 0
    some_units_of (Some q) = q.units

read_some : (bytes : List ℕ) (r : ObjRec) → read_record bytes ≡ Some r → 0 < r.units
read_some bytes r is = some_units (word_at bytes 0) _ r (nat_eq (word_at bytes 0) 0) refl is

in_leaf : (cs : List (List ℕ)) (k : ℕ) (r : ObjRec) → slice_index_or (map read_record cs) k None ≡ Some r → 0 < r.units
in_leaf [] k r is = absurd (cc)
in_leaf (c ∷ cs) zero r is = read_some c r is
in_leaf (c ∷ cs) (suc k) r is = in_leaf cs k r is

in_records : (bytes : List ℕ) (k : ℕ) (r : ObjRec) → slice_index_or (records_in bytes) k None ≡ Some r → 0 < r.units
unfolding records_in
in_records bytes k r is = in_leaf (first_chunks 256 16 bytes) k r is

at_pointer : (s : Stored) (p : Ptr) (k : ℕ) (r : ObjRec) → record_in s p k ≡ Some r → 0 < r.units
at_pointer s Hole k r is = absurd (cc)
at_pointer s (At b) k r is = in_records (s.bytes b) k r is

-- ---- one object

same_truth : (x y : Bool) → (x ≡ true → y ≡ true) → (y ≡ true → x ≡ true) → x ≡ y
same_truth true y to from = sym (to refl)
same_truth false true to from = from refl
same_truth false false to from = refl

same_byte : (x y : Option ℕ) → x ≢ Some 0 → y ≢ Some 0 → unwrap_or x 0 ≡ unwrap_or y 0 → x ≡ y
same_byte None None p q is = refl
same_byte None (Some y) p q is = absurd (q (ap Some (sym is)))
same_byte (Some x) None p q is = absurd (p (ap Some is))
same_byte (Some x) (Some y) p q is = ap Some is

module _ (s : Stored) (r : ObjRec) (some : 0 < r.units) (o p : Object) (one : IsObject s r o) (other : IsObject s r p) where
  abbrev len : ℕ
  len = 4096 * r.units

  same_block : (i : ℕ) → bytes_at o.bytes (len * i) len ≡ bytes_at p.bytes (len * i) len
  same_block i = elim (lost_or s (tree_at s r.tree i)) [
    | inl lost ↦ one.lost i lost ∙ sym (other.lost i lost)
    | inr there ↦ one.blocks i there ∙ sym (other.blocks i there)
  ]

  same_at : (at : ℕ) → byte_at o.bytes at ≡ byte_at p.bytes at
  same_at at =
      let i = at / len in
      let k = at % len in
      let lt : k < len = mod-lt at (omega (arith, some)) in
      let whole : len * i + k ≡ at = div-add-mod at len in
      sym (ap (byte_at o.bytes) whole) ∙ sym (byte_in o.bytes (len * i) len k lt) ∙ ap (λ (bs : List ℕ). slice_index bs k) (same_block i) ∙ byte_in p.bytes (len * i) len k lt ∙ ap (byte_at p.bytes) whole

  same_bytes : o.bytes ≡ p.bytes
  same_bytes = fin.same_map nat_cmp_total nat_cmp-IsAntisymmetric o.bytes p.bytes (λ at. same_byte (fin.get o.bytes at) (fin.get p.bytes at) (one.nonzero at) (other.nonzero at) (same_at at))

  same_lost : o.lost ≡ p.lost
  same_lost = set.same_set nat_cmp_total nat_cmp-IsAntisymmetric o.lost p.lost (λ i. same_truth (set.contains o.lost i) (set.contains p.lost i) (λ in_o. (other.lost_are i).1 ((one.lost_are i).0 in_o)) (λ in_p. (one.lost_are i).1 ((other.lost_are i).0 in_p)))

  abbrev object : ℕ → Bytes → FinSet nat_cmp → Object
  object units bytes lost = record { units = units; bytes = bytes; lost = lost }

  same_object : o ≡ p
  same_object = ap (λ (u : ℕ). object u o.bytes o.lost) (one.units ∙ sym other.units) ∙ ap (λ (bs : Bytes). object p.units bs o.lost) same_bytes ∙ ap (λ (l : FinSet nat_cmp). object p.units p.bytes l) same_lost

same_found : (s : Stored) (x : Option ObjRec) → ((r : ObjRec) → x ≡ Some r → 0 < r.units) → (o p : Option Object) → IsObjectOf s x o → IsObjectOf s x p → o ≡ p
same_found s None some o p one other = one ∙ sym other
same_found s (Some r) some None p one other = absurd one
same_found s (Some r) some (Some o) None one other = absurd other
same_found s (Some r) some (Some o) (Some p) one other = ap Some (same_object s r (some r refl) o p one other)

pub one_meaning : (s : Stored) (dir : Tree) (x y : Objects) → AreObjects s dir x → AreObjects s dir y → x ≡ y
one_meaning s dir x y one other = fin.same_map nat_cmp_total nat_cmp-IsAntisymmetric x y
    (λ id. same_found s (record_of s dir id) (λ r is. at_pointer s (tree_at s dir (id / 16)) (id % 16) r is) (fin.get x id) (fin.get y id) (one id) (other id))
