-- The object of a record.
use Rattle.std.proofs.Common.{◌≡◌, ◌≢◌, ◌⊎◌, inl, inr, ◌<◌, ◌≤◌, ◌+◌, ◌*◌, ◌-◌, ◌/◌, ◌%◌, ◌^◌, ℕ, List, [], ◌∷◌, length, map, replicate, Some, refl, sym, ◌∙◌, ap, subst, arith, ⊎_elim}
use Rattle.std.specs.Prelude.{slice_index}
use Rattle.std.specs.List.{range_with_len}
use Rattle.std.specs.Ordering.{nat_cmp}
use Rattle.std.specs.FinMap as fin
use Rattle.std.proofs.Math.Nat.{mul-le-mul_left, mul_comm}
use Rattle.std.proofs.lemmas.Nat.{div-mul-add, mod-mul-add}
use Rattle.std.proofs.lemmas.Bool.{cases_lt, cases_eq}
use Rattle.std.proofs.lemmas.List.{get_or-replicate, length-replicate}
use Rattle.std.proofs.lemmas.List.FromFn.{get_or-map-range_with_len, length-map-range_with_len}
use Rattle.sha2.specs.Sha256.{sha256}
use Rattle.zr_bptr.specs.declared.Bptr.{Bptr}
use Rattle.zr_bptr.specs.declared.Ptr.{Ptr}
use Rattle.zr_bptr.specs.declared.Ptr.TheVariants.{Hole, At}
use Rattle.zr_bptr.specs.declared.ObjRec.{ObjRec}
use Rattle.zr_store.specs.Store.{Stored}
use Rattle.zr_tree.specs.Trees.{tree_at}
use Rattle.zr_objset.specs.Records.{bytes_of, block_of}
use Rattle.zr_model.specs.Objects.{Object, Bytes, byte_at, put_bytes}
use Rattle.zr_image.specs.StateOf.{IsLost, IsObject}
use Rattle.zr_held.proofs.Bytes.{put_within, put_above, put_none_zero, no_byte, bytes_are, zeros_are}
use Rattle.zr_found.proofs.Leaves.{tree_past}
use Rattle.zr_found.proofs.Tables.{set_upto, upto_is, upto_has}

-- ---- whether a leaf is lost

pub same_or : (xs ys : List ℕ) → (xs ≡ ys) ⊎ (xs ≢ ys)
same_or [] [] = inl refl
same_or [] (y ∷ ys) = inr (λ e. cc)
same_or (x ∷ xs) [] = inr (λ e. cc)
same_or (x ∷ xs) (y ∷ ys) = elim (cases_eq x y) [
  | inl first ↦ (elim (same_or xs ys) [
    | inl rest ↦ inl (ap (λ (z : ℕ). z ∷ xs) first ∙ ap (λ (zs : List ℕ). y ∷ zs) rest)
    | inr other ↦ inr (λ e. other (ap (λ (zs : List ℕ). rest_of zs) e))
  ])
  | inr other ↦ inr (λ e. other (ap (λ (zs : List ℕ). first_of zs) e))
]
  where
    first_of : List ℕ → ℕ
    first_of [] = 0
    first_of (z ∷ zs) = z

    rest_of : List ℕ → List ℕ
    rest_of [] = []
    rest_of (z ∷ zs) = zs

pub lost_or : (s : Stored) (p : Ptr) → IsLost s p ⊎ ¬ IsLost s p
lost_or s Hole = inr (λ lost. lost)
lost_or s (At b) = elim (same_or (sha256 (s.bytes b)) b.sum) [
  | inl same ↦ inr (λ lost. lost same)
  | inr other ↦ inl other
]

-- ---- its bytes

-- a byte of a block, 0 where it is lost
abbrev byte_in : {P : Type 0} → P ⊎ ¬ P → List ℕ → ℕ → ℕ
byte_in (inl lost) bytes k = 0
byte_in (inr there) bytes k = slice_index bytes k

module _ {P : Type 0} where
  byte_lost : (o : P ⊎ ¬ P) (bytes : List ℕ) (k : ℕ) → P → byte_in o bytes k ≡ 0
  byte_lost (inl lost) bytes k p = refl
  byte_lost (inr there) bytes k p = absurd (there p)

  byte_there : (o : P ⊎ ¬ P) (bytes : List ℕ) (k : ℕ) → ¬ P → byte_in o bytes k ≡ slice_index bytes k
  byte_there (inl lost) bytes k p = absurd (p lost)
  byte_there (inr there) bytes k p = refl

  byte_zero : (o : P ⊎ ¬ P) (n k : ℕ) → k < n → byte_in o (replicate n 0) k ≡ 0
  byte_zero (inl lost) n k lt = refl
  byte_zero (inr there) n k lt = get_or-replicate n k 0 0 lt

module _ (s : Stored) (r : ObjRec) (sized : (i : ℕ) (b : Bptr) → tree_at s r.tree i ≡ At b → length (s.bytes b) ≡ 4096 * r.units) where
  abbrev len : ℕ
  len = 4096 * r.units

  abbrev top : ℕ
  top = 32 ^ r.tree.height

  abbrev leaf : ℕ → Ptr
  leaf i = tree_at s r.tree i

  abbrev byte_of : ℕ → ℕ
  byte_of x = byte_in (lost_or s (leaf (x / len))) (bytes_of s r.units (leaf (x / len))) (x % len)

  abbrev all_bytes : List ℕ
  all_bytes = map byte_of (range_with_len 0 (len * top))

  abbrev its_bytes : Bytes
  its_bytes = put_bytes fin.empty 0 all_bytes

  many : length all_bytes ≡ len * top
  many = length-map-range_with_len byte_of 0 (len * top)

  low_byte : (x : ℕ) → x < len * top → byte_at its_bytes x ≡ byte_of x
  low_byte x lt =
      let m = many in
      let e : x - 0 ≡ x = omega arith in
      put_within fin.empty 0 x all_bytes (omega arith) (omega (arith, lt, m))
      ∙ ap (λ (k : ℕ). slice_index all_bytes k) e ∙ get_or-map-range_with_len byte_of 0 (len * top) x x 0 lt (omega arith)

  high_byte : (x : ℕ) → len * top ≤ x → byte_at its_bytes x ≡ 0
  high_byte x le = let m = many in put_above fin.empty 0 x all_bytes (omega (arith, le, m)) ∙ no_byte x

  hole_bytes : (p : Ptr) → p ≡ Hole → bytes_of s r.units p ≡ replicate len 0
  hole_bytes p is = ap (λ (q : Ptr). bytes_of s r.units q) is

  -- the byte at a place of a block
  in_block : (i k : ℕ) → k < len → byte_at its_bytes (len * i + k) ≡ byte_in (lost_or s (leaf i)) (bytes_of s r.units (leaf i)) k
  in_block i k lt =
      let turned : len * i + k ≡ i * len + k = ap (λ (n : ℕ). n + k) (mul_comm len i) in
      let d : (len * i + k) / len ≡ i = ap (λ (n : ℕ). n / len) turned ∙ div-mul-add i len k lt in
      let m : (len * i + k) % len ≡ k = ap (λ (n : ℕ). n % len) turned ∙ mod-mul-add i len k lt in
      ⊎_elim
      (λ (inside : i < top).
      let less : len * (i + 1) ≤ len * top = mul-le-mul_left len (omega (arith, inside)) in
      let more : len * (i + 1) ≡ len * i + len = mul_add len i in
      low_byte (len * i + k) (omega (arith, less, more, lt))
      ∙ ap (λ (j : ℕ). byte_in (lost_or s (leaf j)) (bytes_of s r.units (leaf j)) ((len * i + k) % len)) d
      ∙ ap (λ (j : ℕ). byte_in (lost_or s (leaf i)) (bytes_of s r.units (leaf i)) j) m)
      (λ (outside : top ≤ i).
      let past : len * top ≤ len * i = mul-le-mul_left len outside in
      let hole = hole_bytes (leaf i) (tree_past s r.tree i outside) in
      high_byte (len * i + k) (omega (arith, past)) ∙ sym (ap (λ (bs : List ℕ). byte_in (lost_or s (leaf i)) bs k) hole ∙ byte_zero (lost_or s (leaf i)) len k lt))
      (cases_lt i top)
    where
      mul_add : (n j : ℕ) → n * (j + 1) ≡ n * j + n
      mul_add n j = omega arith

  long_at : (p : Ptr) → ((b : Bptr) → p ≡ At b → length (s.bytes b) ≡ len) → length (bytes_of s r.units p) ≡ len
  long_at Hole each = length-replicate len 0
  long_at (At b) each = each b refl

  none_zero : (x : ℕ) → fin.get its_bytes x ≢ Some 0
  none_zero x = put_none_zero fin.empty 0 all_bytes (λ y e. absurd (let n = sym (fin.get-empty nat_cmp y) ∙ e in cc)) x

  pub object_of : (o : Object) × IsObject s r o
  object_of = (
    record { units = r.units; bytes = its_bytes; lost = set_upto (λ i. IsLost s (leaf i)) (λ i. lost_or s (leaf i)) top },
    record {
      units = refl;
      lost_are = λ i. (
        λ among. upto_is (λ j. IsLost s (leaf j)) (λ j. lost_or s (leaf j)) top i among,
        λ lost. ⊎_elim
            (λ (inside : i < top). upto_has (λ j. IsLost s (leaf j)) (λ j. lost_or s (leaf j)) top i inside lost)
            (λ (outside : top ≤ i). absurd (subst (IsLost s) (tree_past s r.tree i outside) lost))
            (cases_lt i top),
      );
      blocks = λ i there. bytes_are its_bytes (len * i) len (block_of s r i) (long_at (leaf i) (sized i)) (λ k lt. in_block i k lt ∙ byte_there (lost_or s (leaf i)) (bytes_of s r.units (leaf i)) k there);
      lost = λ i lost. zeros_are its_bytes (len * i) len (λ k lt. in_block i k lt ∙ byte_lost (lost_or s (leaf i)) (bytes_of s r.units (leaf i)) k lost);
      nonzero = none_zero;
    },
  )
