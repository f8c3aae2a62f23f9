-- The bytes of an object of which a range is changed.
use Rattle.std.proofs.Common.{◌≡◌, ◌∙◌, ◌<◌, ◌≤◌, ◌+◌, ◌-◌, ◌*◌, ◌/◌, ◌⊎◌, ℕ, inl, inr, List, ◌++◌, map, length, replicate, Bool, true, false, Option, Some, None, refl, sym, ap, subst, arith, ⊎_elim, lt-ltb, le-ltb, nat_lt}
use Rattle.std.specs.Prelude.{if◌then◌else◌, ◌&&◌, not, nat_le, slice_index}
use Rattle.std.specs.List.{All}
use Rattle.std.specs.FinMap as fin
use Rattle.std.specs.FinSet as set
use Rattle.std.specs.Global.{Vec}
use Rattle.std.specs.Ordering.{nat_cmp}
use Rattle.std.specs.FinMap.{nat_cmp-IsAntisymmetric}
use Rattle.std.proofs.Math.Nat.{lt-mul-div-succ, mul-div-le, mul-le-mul_left}
use Rattle.std.proofs.lemmas.Bool.{cases_lt, le-leb, lt-leb}
use Rattle.sha2.specs.Sha256.{sha256}
use Rattle.zr_bptr.specs.declared.Ptr.{Ptr}
use Rattle.zr_bptr.specs.declared.Ptr.TheVariants.{Hole, At}
use Rattle.zr_bptr.specs.declared.ObjRec.{ObjRec}
use Rattle.zr_store.specs.Store.{Stored, AreStored, IsOnce}
use Rattle.zr_objset.specs.Records.{bytes_of}
use Rattle.zr_lookup.specs.Objects.{record_now, pointer_now, block_now, IsTouched}
use Rattle.zr_change.specs.declared.plans.Planned.{Planned}
use Rattle.zr_change.specs.declared.ranges.Edit.{Edit}
use Rattle.zr_change.specs.Edits.{IsEdited, IsPart, IsCovered, touched, byte_after, byte_put}
use Rattle.zr_change.specs.Plans.{IsPlannedFor, IsChanged, IsPointerFor, bytes_of_new, olds_of, leaves_of}
use Rattle.zr_change.proofs.Editing.{touched_at}
use Rattle.zr_model.specs.Objects.{Object, Objects, byte_at, bytes_at, put_bytes, with_bytes, covers_block, meets_block, changes_lost}
use Rattle.zr_image.specs.StateOf.{IsLost}
use Rattle.zr_moves.specs.Account.{Account, leaf_now, IsObjectNow, IsObjectAt}
use Rattle.zr_held.specs.Held.{HasAllBlocks, HasObjects}
use Rattle.zr_held.specs.Steps.{IsObjectOf}
use Rattle.std.proofs.lemmas.List.Sums.{sum_by-append}
use Rattle.zr_tree.specs.Trees.{tree_reach, tree_blocks}
use Rattle.zr_held.proofs.Frames.{leaf_of, leaf_is}
use Rattle.zr_held.proofs.One.{objects_then, object_stored}
use Rattle.zr_held.proofs.Bytes.{put_below, put_above, put_within, put_none_zero, byte_in, bytes_are, length_of_bytes, given_here, given_there}
use Rattle.zr_held.proofs.Reading.{not_lost, block_bytes, object_of}
use Rattle.zr_held.proofs.Lost.{none_met}
use Rattle.zr_held.proofs.Leaves.{set_leaves, index_of, FoundAt, find_at, in_plan, keys_of, have_keys, untouched}
use Rattle.zr_held.proofs.Edits.{had, other_group, found_then, leaf_kept, pointer_then, changes_blocks, olds_among}

-- ---- a byte after an edit

after_within : (e : Edit) (at old : ℕ) → e.off ≤ at → at < e.off + e.len → byte_after e at old ≡ byte_put e.bytes (at - e.off)
after_within e at old le lt = rw (le-leb e.off at le, lt-ltb at (e.off + e.len) lt) refl

after_outside : (e : Edit) (at old : ℕ) → (at < e.off) ⊎ (e.off + e.len ≤ at) → byte_after e at old ≡ old
after_outside e at old (inl lt) = rw (lt-leb e.off at lt) refl
after_outside e at old (inr le) = no_end (nat_le e.off at)
  where
    no_end : (y : Bool) → (if y && nat_lt at (e.off + e.len) then byte_put e.bytes (at - e.off) else old) ≡ old
    no_end true = rw (le-ltb at (e.off + e.len) le) refl
    no_end false = refl

put_outside : (bytes : _) (off x : ℕ) (bs : List ℕ) → (x < off) ⊎ (off + length bs ≤ x) → byte_at (put_bytes bytes off bs) x ≡ byte_at bytes x
put_outside bytes off x bs (inl lt) = put_below bytes off x bs lt
put_outside bytes off x bs (inr le) = put_above bytes off x bs le

-- a new block has its sum
new_not_lost : (n : Stored) (units : ℕ) (new : Option (Vec ℕ)) (p : Ptr) → IsPointerFor new p → bytes_of n units p ≡ bytes_of_new units new → ¬ IsLost n p
new_not_lost n units None p for_it same lost = subst (λ (q : Ptr). IsLost n q) for_it lost
new_not_lost n units (Some v) p for_it same lost =
    let q = for_it.0 in
    let here : n.bytes q ≡ v.items = ap (λ (x : Ptr). bytes_of n units x) (sym for_it.1) ∙ same in
    let sum : q.sum ≡ sha256 v.items = for_it.2.checksum in
    (subst (λ (x : Ptr). IsLost n x) for_it.1 lost) (ap sha256 here ∙ sym sum)

both_true : (x y : Bool) → (x && y) ≡ true → (x ≡ true) × (y ≡ true)
both_true true y is = (refl, is)
both_true false y is = absurd (cc)

not_true : (x : Bool) → not x ≡ true → x ≡ false
not_true true is = absurd (cc)
not_true false is = refl

-- a block that is covered is told so
covered_told : (o : Object) (r : ObjRec) (off len i : ℕ) → o.units ≡ r.units → (off ≤ 4096 * r.units * i) → (4096 * r.units * (i + 1) ≤ off + len) → covers_block o off len i ≡ true
covered_told o r off len i units from to =
    subst (λ (u : ℕ). (nat_le off (4096 * u * i) && nat_le (4096 * u * (i + 1)) (off + len)) ≡ true) (sym units)
    (rw (le-leb off (4096 * r.units * i) from, le-leb (4096 * r.units * (i + 1)) (off + len) to) refl)

-- and one that is not
uncovered_told : (o : Object) (r : ObjRec) (off len i : ℕ) → o.units ≡ r.units → (4096 * r.units * i < off) ⊎ (off + len < 4096 * r.units * (i + 1)) → covers_block o off len i ≡ false
uncovered_told o r off len i units (inl lt) =
    subst (λ (u : ℕ). (nat_le off (4096 * u * i) && nat_le (4096 * u * (i + 1)) (off + len)) ≡ false) (sym units) (rw (lt-leb off (4096 * r.units * i) lt) refl)
uncovered_told o r off len i units (inr lt) =
    subst (λ (u : ℕ). (nat_le off (4096 * u * i) && nat_le (4096 * u * (i + 1)) (off + len)) ≡ false) (sym units) (no_end (nat_le off (4096 * r.units * i)))
  where
    no_end : (y : Bool) → (y && nat_le (4096 * r.units * (i + 1)) (off + len)) ≡ false
    no_end true = rw (lt-leb (4096 * r.units * (i + 1)) (off + len) lt) refl
    no_end false = refl

and_false : (x : Bool) → (x && false) ≡ false
and_false true = refl
and_false false = refl

-- a block before the range, or behind it, is not met
pub unmet_told : (o : Object) (r : ObjRec) (off len i : ℕ) → o.units ≡ r.units → (4096 * r.units * (i + 1) ≤ off) ⊎ (off + len ≤ 4096 * r.units * i) → meets_block o off len i ≡ false
unmet_told o r off len i units (inl le) =
    subst (λ (u : ℕ). (nat_lt off (4096 * u * (i + 1)) && nat_lt (4096 * u * i) (off + len)) ≡ false) (sym units) (rw (le-ltb off (4096 * r.units * (i + 1)) le) refl)
unmet_told o r off len i units (inr le) =
    subst (λ (u : ℕ). (nat_lt off (4096 * u * (i + 1)) && nat_lt (4096 * u * i) (off + len)) ≡ false) (sym units) (rw (le-ltb (4096 * r.units * i) (off + len) le) (and_false (nat_lt off (4096 * r.units * (i + 1)))))

retained : (keep : ℕ → Bool) (lost : _) (i : ℕ) → set.contains (set.retain {R = nat_cmp} lost keep) i ≡ (set.contains lost i && keep i)
retained keep lost i = set.contains-retain lost keep i (λ x e. ap keep (sym (nat_cmp-IsAntisymmetric i x e)))

module _ (s n : Stored) (a b : Account) (id : ℕ) (r : ObjRec) (e : Edit) (plan : List Planned) (h : HasAllBlocks s a.dir a.changes) (o : Object)
    (small : id < 65536) (found : record_now s a.dir a.changes id ≡ Some r) (some : 0 < r.units) (more : 0 < e.len)
    (row : map index_of plan ≡ touched r.units e)
    (planned : All (IsPlannedFor s a.changes id r e) plan)
    (dir : b.dir ≡ a.dir) (changed : IsChanged id r plan s a.changes n b.changes) (once : IsOnce n)
    (is : IsObjectNow s a id r o)
    (bs : List ℕ) (size : length bs ≡ e.len) (each : (k : ℕ) → k < e.len → slice_index bs k ≡ byte_put e.bytes k) where
  abbrev low : ℕ
  low = e.off / (4096 * r.units)

  abbrev last : ℕ
  last = (e.off + e.len - 1) / (4096 * r.units)

  abbrev count : ℕ
  count = last + 1 - low

  pub olds : All (λ p. p.old ≡ pointer_now s a.changes id r p.index) plan
  olds k d lt = (planned k d lt).old

  abbrev edited : Object
  edited = with_bytes o e.off bs

  units_same : o.units ≡ r.units
  units_same = is.units

  abbrev leaf_then : ℕ → Ptr
  leaf_then i = pointer_now n b.changes id r i

  leaf_now_is : (i : ℕ) → leaf_now n b id i ≡ leaf_then i
  leaf_now_is i = leaf_is n b id r (found_then s n a b id r plan low count h small found row olds dir changed once) i

  keep : ℕ → Bool
  keep i = not (covers_block o e.off (length bs) i)

  positive : 0 < 4096 * r.units
  positive = omega (arith, some)

  up : (i : ℕ) → 4096 * r.units * (i + 1) ≡ 4096 * r.units * i + 4096 * r.units
  up i = omega arith

  -- ---- a block outside of the range

  abbrev IsOut : ℕ → Type 0
  IsOut i = (i < low) ⊎ (low + count ≤ i)

  out_bytes : (i : ℕ) → IsOut i → (4096 * r.units * (i + 1) ≤ e.off) ⊎ (e.off + e.len ≤ 4096 * r.units * i)
  out_bytes i (inl lt) =
      let under = mul-div-le e.off (4096 * r.units) in
      let down : 4096 * r.units * (i + 1) ≤ 4096 * r.units * low = mul-le-mul_left (4096 * r.units) (omega (arith, lt)) in
      inl (omega (arith, under, down))
  out_bytes i (inr le) =
      let over = lt-mul-div-succ (e.off + e.len - 1) positive in
      let above : 4096 * r.units * (last + 1) ≤ 4096 * r.units * i = mul-le-mul_left (4096 * r.units) (omega (arith, le)) in
      inr (omega (arith, over, above, more))

  out_pointer : (i : ℕ) → IsOut i → leaf_then i ≡ pointer_now s a.changes id r i
  out_pointer i out =
      pointer_then s n a b id r plan low count h small found row olds dir changed once i
      ∙ untouched changed.recorded.changes count i low (pointer_now s a.changes id r i) (keys_of plan changed.recorded.changes (have_keys plan changed.recorded.changes changed.recorded.are_changes) ∙ row) out

  out_leaf : (i : ℕ) → IsOut i → leaf_now n b id i ≡ leaf_now s a id i
  out_leaf i out = leaf_now_is i ∙ (out_pointer i out ∙ sym (leaf_is s a id r found i))

  out_same_bytes : (i : ℕ) → IsOut i → (p : Ptr) → leaf_now s a id i ≡ p → (bytes_of n r.units p ≡ bytes_of s r.units p) × ((IsLost n p → IsLost s p) × (IsLost s p → IsLost n p))
  out_same_bytes i out Hole at = (refl, (λ x. x, λ x. x))
  out_same_bytes i out (At q) at =
      let same = leaf_kept s n a b id r plan low count h small found row olds dir changed once i q out (sym (leaf_is s a id r found i) ∙ at) in
      (same, (λ lost e2. lost (ap sha256 same ∙ e2), λ lost e2. lost (ap sha256 (sym same) ∙ e2)))

  out_byte : (i k : ℕ) → IsOut i → k < 4096 * r.units → byte_at (put_bytes o.bytes e.off bs) (4096 * r.units * i + k) ≡ byte_at o.bytes (4096 * r.units * i + k)
  out_byte i k out lt = put_outside o.bytes e.off (4096 * r.units * i + k) bs
      (⊎_elim (λ le. let u = up i in inl (omega (arith, le, lt, u))) (λ le. inr (omega (arith, le, size))) (out_bytes i out))

  out_kept : (i : ℕ) → IsOut i → keep i ≡ true
  unfolding keep
  out_kept i out = ap not (uncovered_told o r e.off (length bs) i units_same
      (⊎_elim (λ le. let u = up i in inl (omega (arith, le, u, positive))) (λ le. let u = up i in inr (omega (arith, le, u, positive, size))) (out_bytes i out)))

  out_range : (i : ℕ) → IsOut i → bytes_at edited.bytes (4096 * r.units * i) (4096 * r.units) ≡ bytes_at o.bytes (4096 * r.units * i) (4096 * r.units)
  out_range i out = bytes_are edited.bytes (4096 * r.units * i) (4096 * r.units) (bytes_at o.bytes (4096 * r.units * i) (4096 * r.units)) (length_of_bytes o.bytes (4096 * r.units * i) (4096 * r.units))
      (λ k lt. out_byte i k out lt ∙ sym (byte_in o.bytes (4096 * r.units * i) (4096 * r.units) k lt))

  -- ---- a block within it

  module _ (i : ℕ) (from : low ≤ i) (to : i < low + count) where
    f : FoundAt plan changed.recorded.changes i
    f = find_at plan changed.recorded.changes low count i row changed.recorded.are_changes from to

    plans : IsPlannedFor s a.changes id r e f.planned
    plans = in_plan (IsPlannedFor s a.changes id r e) f planned

    becomes : block_now n b.changes id r i ≡ bytes_of_new r.units f.planned.new
    becomes = ap (λ (k : ℕ). block_now n b.changes id r k) (sym f.index) ∙ in_plan (λ (p : Planned). block_now n b.changes id r p.index ≡ bytes_of_new r.units p.new) f changed.blocks

    new_pointer : IsPointerFor f.planned.new (leaf_then i)
    new_pointer = subst (λ (p : Ptr). IsPointerFor f.planned.new p)
        (sym (pointer_then s n a b id r plan low count h small found row olds dir changed once i ∙ f.becomes (pointer_now s a.changes id r i))) f.for_it.pointer

    in_not_lost : ¬ IsLost n (leaf_now n b id i)
    in_not_lost lost = new_not_lost n r.units f.planned.new (leaf_then i) new_pointer becomes (subst (λ (p : Ptr). IsLost n p) (leaf_now_is i) lost)

    is_touched : IsTouched r.units e.off e.len i
    is_touched = touched_at r.units e.off e.len i some more from (omega (arith, from, to))

    old_is : f.planned.old ≡ pointer_now s a.changes id r i
    old_is = plans.old ∙ ap (λ (k : ℕ). pointer_now s a.changes id r k) f.index

    old_sound : ¬ IsCovered r.units e i → ¬ IsLost s (pointer_now s a.changes id r i)
    old_sound part lost =
        let is_part : IsPart r.units e f.planned.index = subst (λ (k : ℕ). IsPart r.units e k) (sym f.index) (record { touched_at = is_touched; part = part }) in
        not_lost s r.units f.planned.old (plans.sound is_part) (subst (λ (p : Ptr). IsLost s p) (sym old_is) lost)

    edit_here : IsEdited e r.units i (bytes_of s r.units f.planned.old) (bytes_of_new r.units f.planned.new)
    edit_here = subst (λ (k : ℕ). IsEdited e r.units k (bytes_of s r.units f.planned.old) (bytes_of_new r.units f.planned.new)) f.index plans.bytes

    outside_byte : (k : ℕ) → k < 4096 * r.units → (4096 * r.units * i + k < e.off) ⊎ (e.off + e.len ≤ 4096 * r.units * i + k)
        → byte_at edited.bytes (4096 * r.units * i + k) ≡ slice_index (bytes_of_new r.units f.planned.new) k
    outside_byte k lt out =
        let at = 4096 * r.units * i + k in
        let part : ¬ IsCovered r.units e i = λ c. let u = up i in let c0 = c.0 in let c1 = c.1 in ⊎_elim (λ x. absurd (omega (arith, x, c0))) (λ x. absurd (omega (arith, x, c1, u, lt))) out in
        let sound = old_sound part in
        let put = put_outside o.bytes e.off at bs (⊎_elim (λ x. inl x) (λ x. inr (omega (arith, x, size))) out) in
        let old : byte_at o.bytes at ≡ slice_index (bytes_of s r.units f.planned.old) k =
        sym (byte_in o.bytes (4096 * r.units * i) (4096 * r.units) k lt)
        ∙ (ap (λ (xs : List ℕ). slice_index xs k) (block_bytes s a id r o found is i sound)
        ∙ ap (λ (p : Ptr). slice_index (bytes_of s r.units p) k) (sym old_is)) in
        put ∙ (old ∙ sym (edit_here.bytes k lt ∙ after_outside e at (slice_index (bytes_of s r.units f.planned.old) k) out))

    inside_byte : (k : ℕ) → k < 4096 * r.units → e.off ≤ 4096 * r.units * i + k → 4096 * r.units * i + k < e.off + e.len
        → byte_at edited.bytes (4096 * r.units * i + k) ≡ slice_index (bytes_of_new r.units f.planned.new) k
    inside_byte k lt le less =
        let at = 4096 * r.units * i + k in
        put_within o.bytes e.off at bs le (omega (arith, less, size))
        ∙ (each (at - e.off) (omega (arith, le, less))
        ∙ sym (edit_here.bytes k lt ∙ after_within e at (slice_index (bytes_of s r.units f.planned.old) k) le less))

    in_byte : (k : ℕ) → k < 4096 * r.units → byte_at edited.bytes (4096 * r.units * i + k) ≡ slice_index (bytes_of_new r.units f.planned.new) k
    in_byte k lt = ⊎_elim
        (λ before. outside_byte k lt (inl before))
        (λ from_off. ⊎_elim (λ less. inside_byte k lt from_off less) (λ past. outside_byte k lt (inr past)) (cases_lt (4096 * r.units * i + k) (e.off + e.len)))
        (cases_lt (4096 * r.units * i + k) e.off)

    in_range : bytes_at edited.bytes (4096 * r.units * i) (4096 * r.units) ≡ bytes_of n r.units (leaf_now n b id i)
    in_range =
        bytes_are edited.bytes (4096 * r.units * i) (4096 * r.units) (bytes_of_new r.units f.planned.new) edit_here.size in_byte
        ∙ sym (ap (λ (p : Ptr). bytes_of n r.units p) (leaf_now_is i) ∙ becomes)

    -- a lost block in the range is covered
    in_gone : set.contains (set.retain o.lost keep) i ≡ true → ⊥
    unfolding keep
    in_gone among =
        let parts = both_true (set.contains o.lost i) (keep i) (sym (retained keep o.lost i) ∙ among) in
        let lost = subst (λ (p : Ptr). IsLost s p) (leaf_is s a id r found i) ((is.lost_are i).0 parts.0) in
        let uncovered = not_true (covers_block o e.off (length bs) i) parts.1 in
        old_sound (λ c.
        let told = covered_told o r e.off (length bs) i units_same c.0 (let c1 = c.1 in omega (arith, c1, size)) in
        absurd (let x = sym told ∙ uncovered in cc)) lost

  -- ---- the object

  by_place : {P : Type 0} (i : ℕ) → (IsOut i → P) → (low ≤ i → i < low + count → P) → P
  by_place i out within = ⊎_elim (λ lt. out (inl lt)) (λ le. ⊎_elim (λ lt. within le lt) (λ ge. out (inr ge)) (cases_lt i (low + count))) (cases_lt i low)

  lost_then : (i : ℕ) → set.contains (set.retain o.lost keep) i ≡ true → IsLost n (leaf_now n b id i)
  lost_then i among = by_place i
      (λ out.
      let parts = both_true (set.contains o.lost i) (keep i) (sym (retained keep o.lost i) ∙ among) in
      subst (λ (p : Ptr). IsLost n p) (sym (out_leaf i out)) ((out_same_bytes i out (leaf_now s a id i) refl).1.1 ((is.lost_are i).0 parts.0)))
      (λ from to. absurd (in_gone i from to among))

  lost_before : (i : ℕ) → IsOut i → IsLost n (leaf_now n b id i) → IsLost s (leaf_now s a id i)
  lost_before i out lost = (out_same_bytes i out (leaf_now s a id i) refl).1.0 (subst (λ (p : Ptr). IsLost n p) (out_leaf i out) lost)

  lost_told : (i : ℕ) → IsLost n (leaf_now n b id i) → set.contains (set.retain o.lost keep) i ≡ true
  lost_told i lost = by_place i
      (λ out. retained keep o.lost i ∙ rw ((is.lost_are i).1 (lost_before i out lost), out_kept i out) refl)
      (λ from to. absurd (in_not_lost i from to lost))

  bytes_then : (i : ℕ) → ¬ IsLost n (leaf_now n b id i) → bytes_at edited.bytes (4096 * r.units * i) (4096 * r.units) ≡ bytes_of n r.units (leaf_now n b id i)
  bytes_then i there = by_place i
      (λ out.
      let same = out_same_bytes i out (leaf_now s a id i) refl in
      out_range i out ∙ (is.blocks i (λ lost. there (subst (λ (p : Ptr). IsLost n p) (sym (out_leaf i out)) (same.1.1 lost)))
      ∙ sym (ap (λ (p : Ptr). bytes_of n r.units p) (out_leaf i out) ∙ same.0)))
      (λ from to. in_range i from to)

  zeros_then : (i : ℕ) → IsLost n (leaf_now n b id i) → bytes_at edited.bytes (4096 * r.units * i) (4096 * r.units) ≡ replicate (4096 * r.units) 0
  zeros_then i lost = by_place i
      (λ out. out_range i out ∙ is.lost i (lost_before i out lost))
      (λ from to. absurd (in_not_lost i from to lost))

  pub is_edited : IsObjectNow n b id r edited
  unfolding keep
  is_edited = record {
    units = is.units;
    lost_are = λ i. (lost_then i, lost_told i);
    blocks = bytes_then;
    lost = zeros_then;
    nonzero = put_none_zero o.bytes e.off bs is.nonzero;
  }

  -- no lost block is changed in part
  pub none_needed : changes_lost o e.off (length bs) ≡ false
  none_needed = none_met (λ i. meets_block o e.off (length bs) i && not (covers_block o e.off (length bs) i)) o.lost (λ i among. by_place i
      (λ out. ap (λ (x : Bool). x && not (covers_block o e.off (length bs) i)) (unmet_told o r e.off (length bs) i units_same (⊎_elim (λ le. inl le) (λ le. inr (omega (arith, le, size))) (out_bytes i out))))
      (λ from to. covered_only i from to among (covers_block o e.off (length bs) i) refl))
    where
      covered_only : (i : ℕ) (from : low ≤ i) (to : i < low + count) → set.contains o.lost i ≡ true → (y : Bool) → covers_block o e.off (length bs) i ≡ y → (meets_block o e.off (length bs) i && not (covers_block o e.off (length bs) i)) ≡ false
      covered_only i from to among true told = ap (λ (y : Bool). meets_block o e.off (length bs) i && not y) told ∙ and_false (meets_block o e.off (length bs) i)
      covered_only i from to among false told =
          let lost = subst (λ (p : Ptr). IsLost s p) (leaf_is s a id r found i) ((is.lost_are i).0 among) in
          absurd (old_sound i from to (λ c. let x = sym (covered_told o r e.off (length bs) i units_same c.0 (let c1 = c.1 in omega (arith, c1, size))) ∙ told in absurd (cc)) lost)

module _ (s : Stored) (a : Account) (objects : Objects) (id : ℕ) (r : ObjRec) (e : Edit) (plan : List Planned) (has : HasObjects s a objects) (found : record_now s a.dir a.changes id ≡ Some r)
    (row : map index_of plan ≡ touched r.units e) (planned : All (IsPlannedFor s a.changes id r e) plan) where
  -- the old blocks are among the object's
  pub edit_stored : AreStored (olds_of plan) s
  edit_stored weight =
      let low = e.off / (4096 * r.units) in
      let count = (e.off + e.len - 1) / (4096 * r.units) + 1 - low in
      let less = olds_among s a id r plan low count has.blocks found row (λ k d lt. (planned k d lt).old) weight in
      let all = object_stored s a.dir a.changes has.blocks id weight in
      omega (arith, less, all, sum_by-append weight (tree_reach s a.dir) (has.blocks.blocks id))

pub edit_done : (s n : Stored) (a b : Account) (objects : Objects) (id : ℕ) (r : ObjRec) (e : Edit) (plan : List Planned) (bytes : List ℕ) → HasObjects s a objects → id < 65536 → record_now s a.dir a.changes id ≡ Some r
    → 0 < r.units → 0 < e.len → map index_of plan ≡ touched r.units e → All (IsPlannedFor s a.changes id r e) plan → b.dir ≡ a.dir → IsChanged id r plan s a.changes n b.changes → IsOnce n
    → length bytes ≡ e.len → ((k : ℕ) → k < e.len → slice_index bytes k ≡ byte_put e.bytes k)
    → IsObjectOf objects id (λ o. (changes_lost o e.off (length bytes) ≡ false) × HasObjects n b (fin.insert objects id (with_bytes o e.off bytes)))
edit_done s n a b objects id r e plan bytes has small found some more row planned dir changed once size each =
    let o = object_of s a objects id r has found in
    let low = e.off / (4096 * r.units) in
    let count = (e.off + e.len - 1) / (4096 * r.units) + 1 - low in
    let olds : All (λ p. p.old ≡ pointer_now s a.changes id r p.index) plan = λ k d lt. (planned k d lt).old in
    let now = is_edited s n a b id r e plan has.blocks o.0 small found some more row planned dir changed once o.2 bytes size each in
    let there = found_then s n a b id r plan low count has.blocks small found row olds dir changed once in (
      o.0,
      o.1,
      (
        none_needed s n a b id r e plan has.blocks o.0 small found some more row planned dir changed once o.2 bytes size each,
        objects_then s n a b id (olds_of plan) (leaves_of changed.recorded.changes) (map leaf_of (set_leaves (had s n a b id r plan low count has.blocks small found row olds dir changed once).leaves changed.recorded.changes) ++ tree_blocks s r.tree) small has.blocks
            (other_group s n a b id r plan low count has.blocks small found row olds dir changed once)
            (changes_blocks s n a b id r plan low count has.blocks small found row olds dir changed once)
            objects (fin.insert objects id (with_bytes o.0 e.off bytes)) has.each
            (λ i apart. given_there objects id i (with_bytes o.0 e.off bytes) (λ x. apart (sym x)))
            (subst (λ (x : Option ObjRec). IsObjectAt n b id x (fin.get (fin.insert objects id (with_bytes o.0 e.off bytes)) id)) (sym there)
            (subst (λ (x : Option Object). IsObjectAt n b id (Some r) x) (sym (given_here objects id (with_bytes o.0 e.off bytes))) now)),
      ),
    )
