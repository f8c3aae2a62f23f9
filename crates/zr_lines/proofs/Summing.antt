-- The sum of an object's leaves is the sum of the object: both go over the blocks with a byte that is not 0, by rising index.
use Rattle.std.proofs.Common.{◌≡◌, ◌≢◌, ◌∙◌, ◌<◌, ◌≤◌, ◌+◌, ◌*◌, ◌/◌, ◌%◌, ℕ, zero, suc, List, ◌++◌, map, get_or, replicate, Option, Some, None, Bool, true, false, refl, sym, ap, subst, arith, ⊎_elim}
use Rattle.std.specs.Prelude.{not, ◌==◌, unwrap_or, is_some}
use Rattle.std.specs.Option.{option_map}
use Rattle.std.specs.List.{flat_map}
use Rattle.std.specs.FinMap as fin
use Rattle.std.proofs.Math.Nat.{div-add-mod, mod-lt, mul-le-mul_left}
use Rattle.std.proofs.lemmas.Bool.{ne_eqb, cases_lt}
use Rattle.std.proofs.lemmas.List.Folds.{Any-from_list_any, list_any_at}
use Rattle.std.proofs.lemmas.List.FromFn.{get_or-map-range_with_len}
use Rattle.sha2.specs.Sha256.{sha256}
use Rattle.zr_base.specs.Words.{word}
use Rattle.zr_bptr.specs.declared.Bptr.{Bptr}
use Rattle.zr_bptr.specs.declared.Ptr.{Ptr}
use Rattle.zr_bptr.specs.declared.Ptr.TheVariants.{Hole, At}
use Rattle.zr_bptr.specs.declared.ObjRec.{ObjRec}
use Rattle.zr_store.specs.Store.{Stored}
use Rattle.zr_objset.specs.Records.{bytes_of}
use Rattle.zr_txg.specs.Tables.{IsRisingFrom, value_at}
use Rattle.zr_lookup.specs.Objects.{record_now, pointer_now, block_now, block_in, IsObjectSum}
use Rattle.zr_lookup.specs.Errors.{IsSoundPointer}
use Rattle.zr_model.specs.Objects.{Object, Bytes, byte_at, bytes_at, once_each, object_sum}
use Rattle.zr_moves.specs.Account.{Account, IsObjectNow}
use Rattle.zr_held.proofs.Bytes.{length_of_bytes}
use Rattle.zr_held.proofs.Dropping.{one_list}
use Rattle.zr_held.proofs.Reading.{not_lost, block_bytes}
use Rattle.zr_lines.proofs.Marks.{marks, mark, not_falling, made_of, maker_of, rising_once, same_once, passing, rising_passing, passes, fails, joined, has_some, all_summed}

-- ---- whole parts

part_le : (size q p j k : ℕ) → size * q + j ≤ size * p + k → k < size → q ≤ p
part_le size q p j k le lt = ⊎_elim
    (λ below.
    let step : size * (p + 1) ≤ size * q = mul-le-mul_left size (omega (arith, below)) in
    let up : size * (p + 1) ≡ size * p + size = omega arith in
    absurd (omega (arith, step, up, le, lt)))
    (λ at_most. omega (arith, at_most))
    (cases_lt p q)

module _ (size : ℕ) (some : 0 < size) where
  parts_keep : (x y : ℕ) → x ≤ y → x / size ≤ y / size
  parts_keep x y le = part_le size (x / size) (y / size) (x % size) (y % size) (omega (arith, le, div-add-mod x size, div-add-mod y size)) (mod-lt y some)

  part_of : (i k : ℕ) → k < size → (size * i + k) / size ≡ i
  part_of i k lt =
      let at = size * i + k in
      let whole = div-add-mod at size in
      let up = part_le size (at / size) i (at % size) k (omega (arith, whole)) lt in
      let down = part_le size i (at / size) k (at % size) (omega (arith, whole)) (mod-lt at some) in
      omega (arith, up, down)

-- ---- bytes that are not 0

no_zeros : (n : ℕ) → has_some (replicate n 0) ≡ false
no_zeros zero = refl
no_zeros (suc n) = no_zeros n

is_stored : (o : Option ℕ) → not (unwrap_or o 0 == 0) ≡ true → is_some o ≡ true
is_stored None h = absurd (cc)
is_stored (Some v) h = refl

is_nonzero : (o : Option ℕ) → is_some o ≡ true → o ≢ Some 0 → not (unwrap_or o 0 == 0) ≡ true
is_nonzero None some other = absurd (cc)
is_nonzero (Some v) some other = rw (ne_eqb v 0 (λ e. other (ap (λ (n : ℕ). Some n) e))) refl

mark_of : {V : Type 0} (found : Option V) → is_some found ≡ true → option_map mark found ≡ Some tt
mark_of None there = absurd (cc)
mark_of (Some v) there = refl

-- the bytes of a block of this size
abbrev block_in_bytes : Bytes → ℕ → ℕ → List ℕ
block_in_bytes bytes size i = bytes_at bytes (size * i) size

-- the block of each byte
abbrev blocks_in_bytes : Bytes → ℕ → List ℕ
blocks_in_bytes bytes size = map (λ at. at / size) (fin.keys bytes)

module _ (bytes : Bytes) (nonzero : (at : ℕ) → fin.get bytes at ≢ Some 0) (size : ℕ) (some : 0 < size) where
  abbrev block : ℕ → List ℕ
  block i = block_in_bytes bytes size i

  abbrev parts : List ℕ
  parts = blocks_in_bytes bytes size

  -- a block with such a byte has a key
  has_part : (i : ℕ) → has_some (block i) ≡ true → value_at (marks parts) i ≡ Some tt
  has_part i met =
      let any = Any-from_list_any (λ b. not (b == 0)) (block i) met in
      let k = any.0 in
      let lt : k < size = omega (arith, any.2, length_of_bytes bytes (size * i) size) in
      let at = size * i + k in
      let is : any.1 ≡ byte_at bytes at = sym any.3 ∙ get_or-map-range_with_len (byte_at bytes) (size * i) size k at any.1 lt refl in
      let there = is_stored (fin.get bytes at) (subst (λ (b : ℕ). not (b == 0) ≡ true) is any.4) in
      let made = made_of (λ x. x / size) (fin.keys bytes) at (sym (fin.contains_key-keys bytes at) ∙ there) in
      subst (λ (j : ℕ). value_at (marks parts) j ≡ Some tt) (part_of size some i k lt) made

  -- and a key is of such a block
  part_has : (i : ℕ) → value_at (marks parts) i ≡ Some tt → has_some (block i) ≡ true
  part_has i is =
      let maker = maker_of (λ x. x / size) (fin.keys bytes) i is in
      let at = maker.0 in
      let k = at % size in
      let lt : k < size = mod-lt at some in
      let there = fin.contains_key-keys bytes at ∙ maker.1 in
      let whole : size * i + k ≡ at = ap (λ (j : ℕ). size * j + k) (sym maker.2) ∙ div-add-mod at size in
      let byte : get_or (block i) k 0 ≡ byte_at bytes at = get_or-map-range_with_len (byte_at bytes) (size * i) size k at 0 lt whole in
      list_any_at (λ b. not (b == 0)) (block i) k 0 (omega (arith, lt, length_of_bytes bytes (size * i) size))
      (subst (λ (b : ℕ). not (b == 0) ≡ true) (sym byte) (is_nonzero (fin.get bytes at) there (nonzero at)))

  no_part : (i : ℕ) (found : Option (Unit {0})) → value_at (marks parts) i ≡ found → has_some (block i) ≡ false → found ≡ None
  no_part i None is unmet = refl
  no_part i (Some u) is unmet = absurd (let met = part_has i is in let e = sym met ∙ unmet in cc)

  -- where each block with such a byte has an entry, the entries of such blocks are the parts
  same_parts : {V : Type 0} (es : List (ℕ × V)) → ((i : ℕ) → has_some (block i) ≡ true → is_some (value_at es i) ≡ true) → (i : ℕ)
      → value_at (marks (once_each parts)) i ≡ value_at (passing (λ k. has_some (block k)) es) i
  same_parts {V} es each i = same_once parts i ∙ by_test (has_some (block i)) refl
    where
      by_test : (b : Bool) → has_some (block i) ≡ b → value_at (marks parts) i ≡ value_at (passing (λ k. has_some (block k)) es) i
      by_test true is = has_part i is ∙ sym (passes (λ k. has_some (block k)) es i is ∙ mark_of (value_at es i) (each i is))
      by_test false is = no_part i (value_at (marks parts) i) refl is ∙ sym (fails (λ k. has_some (block k)) es i is)

  rising_parts : IsRisingFrom 0 (marks (once_each parts))
  rising_parts = rising_once 0 parts (not_falling (λ x. x / size) (parts_keep size some) (fin.entries bytes) (fin.entries_sorted bytes))

-- ---- the leaves

-- the sum of bytes in blocks of so many units
abbrev sum_in : Bytes → ℕ → List ℕ
sum_in bytes units = sha256 (flat_map (λ i. word i ++ bytes_at bytes (4096 * units * i) (4096 * units)) (once_each (map (λ at. at / (4096 * units)) (fin.keys bytes))))

module _ (s : Stored) (a : Account) (id : ℕ) (r : ObjRec) (o : Object) (found : record_now s a.dir a.changes id ≡ Some r) (is : IsObjectNow s a id r o)
    (some : 0 < r.units) (sound : (index : ℕ) → IsSoundPointer s r.units (pointer_now s a.changes id r index)) where
  block_is : (i : ℕ) → bytes_at o.bytes (4096 * r.units * i) (4096 * r.units) ≡ block_now s a.changes id r i
  block_is i = block_bytes s a id r o found is i (not_lost s r.units (pointer_now s a.changes id r i) (sound i))

  leaf_bytes : (i : ℕ) (b : Bptr) (p : Ptr) → pointer_now s a.changes id r i ≡ p → block_in p ≡ Some b → s.bytes b ≡ bytes_at o.bytes (4096 * r.units * i) (4096 * r.units)
  leaf_bytes i b Hole at here = absurd (cc)
  leaf_bytes i b (At c) at here =
      let same : c ≡ b = cc in
      sym (block_is i ∙ (ap (λ (p : Ptr). bytes_of s r.units p) at ∙ ap s.bytes same))

  has_leaf : (i : ℕ) (p : Ptr) → pointer_now s a.changes id r i ≡ p → has_some (bytes_at o.bytes (4096 * r.units * i) (4096 * r.units)) ≡ true → is_some (block_in p) ≡ true
  has_leaf i Hole at met =
      let zeros = block_is i ∙ ap (λ (p : Ptr). bytes_of s r.units p) at in
      let unmet = ap has_some zeros ∙ no_zeros (4096 * r.units) in
      absurd (let e = sym met ∙ unmet in cc)
  has_leaf i (At c) at met = refl

  pub sum_of_leaves : (sum : List ℕ) → IsObjectSum s a.changes id r sum → sum ≡ object_sum o
  sum_of_leaves sum sums =
      let many : 0 < 4096 * r.units = omega (arith, some) in
      let f = block_in_bytes o.bytes (4096 * r.units) in
      let blocks = once_each (blocks_in_bytes o.bytes (4096 * r.units)) in
      let leaves = sums.leaves in
      let each = sums.are_leaves.each in
      let over = all_summed f s.bytes 0 leaves sums.are_leaves.rising (λ i b here. leaf_bytes i b (pointer_now s a.changes id r i) refl (sym (each i) ∙ here)) in
      let alike = same_parts o.bytes is.nonzero (4096 * r.units) many leaves
      (λ i met. ap is_some (each i) ∙ has_leaf i (pointer_now s a.changes id r i) refl met) in
      let lists = one_list 0 (marks blocks) (passing (λ k. has_some (f k)) leaves)
      (rising_parts o.bytes is.nonzero (4096 * r.units) many) (rising_passing (λ k. has_some (f k)) 0 leaves sums.are_leaves.rising) alike in
      let flat = joined f blocks ∙ ap (λ (es : List (ℕ × Unit {0})). flat_map (λ (e : ℕ × Unit {0}). word e.0 ++ f e.0) es) lists in
      sums.sum_is ∙ (ap sha256 (over ∙ sym flat) ∙ ap (λ (units : ℕ). sum_in o.bytes units) (sym is.units))
