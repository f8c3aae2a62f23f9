-- A device as a root records it.
use Rattle.std.proofs.Common.{◌≡◌, ℕ, ◌+◌, ◌-◌, ◌≤◌, ◌<◌, ◌^◌, true, false, nat_lt, List, [], ◌∷◌, length, get_or, refl, ap, arith}
use Rattle.std.proofs.lemmas.Bool.Decides.{nat_tests}
use Rattle.std.proofs.lemmas.List.Sums.{get_or-le-sum_by}
use Rattle.zr_base.specs.declared.space.Extent.{Extent}
use Rattle.zr_base.specs.declared.space.Dva.{Dva}
use Rattle.zr_base.specs.declared.space.DevRow.{DevRow}
use Rattle.zr_base.specs.Extents.{has_unit, unit_count, EndsBy}
use Rattle.zr_rules.specs.Places.{one_if, in_address, address_hits}
use Rattle.zr_units.specs.Apart.{IsWithin}
use Rattle.zr_units.specs.Uses.{Freed, unused}
use Rattle.zr_space.specs.Views.{units_there}
use Rattle.zr_space.specs.Reads.{CanRead, CanKeep, Marks, CanReadLate, MarksLate, CanReadMeta, IsRead}

pub ends_in : (units : ℕ) (es : List Extent) → EndsBy units es → IsWithin es units
ends_in units [] ends u is = absurd (false_true is)
  where
    false_true : false ≡ true → ⊥
    false_true e = cc
ends_in units (e ∷ es) ends u is = let r = ends_in units es ends.1 u in let le = ends.0 in grind (arith, nat_tests, r, le, is)

-- what was read of the device's sets
pub device_read : (row : DevRow) (units : ℕ) (held kept : List Extent) (l1 l2 : Freed) (spare : ℕ) (u0 u1 u2 u3 : List Extent) → row.units < 2 ^ 40 → units ≡ units_there row → u0 ≡ []
    → CanRead held u0 units → Marks held u0 u1 → CanKeep kept held units → CanReadLate l1 u1 units → MarksLate l1 u1 u2 → CanReadLate l2 u2 units → MarksLate l2 u2 u3
    → IsRead row (record (unused units) { held = held; kept = kept; late1 = l1; late2 = l2; spare = spare }) u3
device_read row units held kept l1 l2 spare u0 u1 u2 u3 small there none ch mh ck c1 m1 c2 m2 = record {
  row_units = there;
  small = small;
  born = refl;
  kept = ck.maximal;
  among = ck.among;
  came = refl;
  went = refl;
  copies = refl;
  freed = refl;
  once = λ u. first u (in_two u (in_one u));
  within = λ u is.
      let a = mh.members u in let b = m1.members u in let d = m2.members u in
      let n = none_has u in
      let w = ends_in units held ch.within u in
      let wb1 = ends_in units l1.blocks c1.blocks.within u in
      let wm1 = ends_in units l1.meta c1.meta.within u in
      let wb2 = ends_in units l2.blocks c2.blocks.within u in
      let wm2 = ends_in units l2.meta c2.meta.within u in
      grind (arith, nat_tests, a, b, d, n, w, wb1, wm1, wb2, wm2, is);
  count = let a = mh.count in let b = m1.count in let d = m2.count in let n = ap unit_count none in omega (arith, a, b, d, n);
  lists = record { held = ch.maximal; born = tt; kept = ck.maximal; came = tt; went = tt; copies = tt; freed = record { blocks = tt; meta = tt }; late1 = record { blocks = c1.blocks.maximal; meta = c1.meta.maximal }; late2 = record { blocks = c2.blocks.maximal; meta = c2.meta.maximal }; meta = tt; saved = tt };
}
  where
    none_has : (u : ℕ) → has_unit u0 u ≡ false
    none_has u = ap (λ (es : List Extent). has_unit es u) none

    in_one : (u : ℕ) → one_if (has_unit held u) + (one_if (has_unit l1.blocks u) + one_if (has_unit l1.meta u)) ≡ one_if (has_unit u2 u)
    in_one u =
        let a = mh.members u in let b = m1.members u in let n = none_has u in
        let p = c1.blocks.apart u in let q = c1.meta.apart u in let r = c1.apart u in
        grind (arith, nat_tests, a, b, n, p, q, r)

    in_two : (u : ℕ) → one_if (has_unit held u) + (one_if (has_unit l1.blocks u) + one_if (has_unit l1.meta u)) ≡ one_if (has_unit u2 u) → one_if (has_unit held u) + (one_if (has_unit l1.blocks u) + one_if (has_unit l1.meta u)) + (one_if (has_unit l2.blocks u) + one_if (has_unit l2.meta u)) ≡ one_if (has_unit u3 u)
    in_two u one =
        let d = m2.members u in
        let p = c2.blocks.apart u in let q = c2.meta.apart u in let r = c2.apart u in
        grind (arith, nat_tests, one, d, p, q, r)

    first : (u : ℕ) → one_if (has_unit held u) + (one_if (has_unit l1.blocks u) + one_if (has_unit l1.meta u)) + (one_if (has_unit l2.blocks u) + one_if (has_unit l2.meta u)) ≡ one_if (has_unit u3 u) → one_if (has_unit held u) + 0 + (one_if (has_unit l1.blocks u) + one_if (has_unit l1.meta u)) + (one_if (has_unit l2.blocks u) + one_if (has_unit l2.meta u)) + 0 + 0 ≡ one_if (has_unit u3 u)
    first u e = omega (arith, e)

-- an address of metadata that can be read ends within the device
pub meta_within : (list : List Dva) (dev : ℕ) (used : List Extent) (units i : ℕ) → CanReadMeta list dev used units → i < length list → (get_or list i (record { dev = 0; start = 0; len = 0 })).dev ≡ dev → 0 < (get_or list i (record { dev = 0; start = 0; len = 0 })).len
    → (get_or list i (record { dev = 0; start = 0; len = 0 })).start + (get_or list i (record { dev = 0; start = 0; len = 0 })).len ≤ units
meta_within list dev used units i can lt is some =
    let a : Dva = get_or list i (record { dev = 0; start = 0; len = 0 }) in
    let last : ℕ = a.start + a.len - 1 in
    let once = can last in
    let one = get_or-le-sum_by (λ (d : Dva). one_if (in_address d dev last)) list i (record { dev = 0; start = 0; len = 0 }) lt in
    let in_it : in_address a dev last ≡ true = grind (arith, nat_tests, is, some) in
    let hit : one_if (in_address a dev last) ≡ 1 = ap one_if in_it in
    let below : last < units = below_as last units (omega (arith, once, one, hit)) in
    omega (arith, below, some)
  where
    below_as : (u n : ℕ) → 1 ≤ one_if (nat_lt u n) → u < n
    below_as u n le = grind (arith, nat_tests, le)

-- an address has its first unit
pub has_hit : (list : List Dva) (i : ℕ) → i < length list → 0 < (get_or list i (record { dev = 0; start = 0; len = 0 })).len
    → 1 ≤ address_hits list (get_or list i (record { dev = 0; start = 0; len = 0 })).dev (get_or list i (record { dev = 0; start = 0; len = 0 })).start
has_hit list i lt some =
    let a : Dva = get_or list i (record { dev = 0; start = 0; len = 0 }) in
    let one = get_or-le-sum_by (λ (d : Dva). one_if (in_address d a.dev a.start)) list i (record { dev = 0; start = 0; len = 0 }) lt in
    let in_it : in_address a a.dev a.start ≡ true = grind (arith, nat_tests, some) in
    let hit : one_if (in_address a a.dev a.start) ≡ 1 = ap one_if in_it in
    omega (arith, one, hit)
