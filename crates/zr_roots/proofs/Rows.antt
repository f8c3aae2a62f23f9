-- The rows of a root, and the spaces that have them.
use Rattle.std.proofs.Common.{◌≡◌, inl, inr, ◌⊎◌, ℕ, zero, suc, ◌+◌, ◌-◌, ◌<◌, ◌≤◌, ◌^◌, List, [], ◌∷◌, ◌++◌, length, get_or, take, drop, Bool, true, false, Option, refl, sym, ◌∙◌, ap, subst, arith, length-append}
use Rattle.std.specs.Prelude.{◌==◌, ◌&&◌, IsTrue, nat_le, nat_lt, if◌then◌else◌}
use Rattle.std.specs.List.{list_all}
use Rattle.std.proofs.lemmas.Bool.{cases_eq, cases_lt, eqb-true}
use Rattle.std.proofs.lemmas.Bool.Decides.{nat_tests}
use Rattle.std.proofs.lemmas.List.{get_or-take, get_or-drop, length-take-le, length-drop}
use Rattle.std.proofs.lemmas.List.Folds.{list_all_at}
use Rattle.std.proofs.Math.ListN.{get_or-eq_default}
use Rattle.zr_base.specs.declared.space.DevPart.{DevPart}
use Rattle.zr_base.specs.declared.space.DevRow.{DevRow}
use Rattle.zr_base.specs.declared.space.DevState.{DevState}
use Rattle.zr_base.specs.declared.space.DevState.TheVariants.{On, Leaving, Gone}
use Rattle.zr_label.specs.Blocks.{IsUber, is_row, is_going, is_no_row, no_row, most_units}
use Rattle.zr_label.specs.declared.root.Uber.{Uber}
use Rattle.zr_rules.specs.Equation.{devices_in}
use Rattle.zr_rules.specs.Places.{is_on, is_gone, no_part, part_of}
use Rattle.zr_rules.specs.Space.{Space}
use Rattle.zr_image.specs.Current.{row_at}
use Rattle.zr_vdev.specs.Mounts.{AreMounted}
use Rattle.zr_view.specs.Runs.{HasDisk}
use Rattle.zr_roots.specs.Devices.{HasItsDisks}
use Rattle.zr_roots.specs.Devices.{HasRows}

true_or_false : (b : Bool) → (b ≡ true) ⊎ (b ≡ false)
true_or_false true = inl refl
true_or_false false = inr refl

pub both : (a b : Bool) → IsTrue (a && b) → IsTrue a × IsTrue b
both true b h = (refl, h)
both false b h = absurd cc

join : (a b : Bool) → IsTrue a → IsTrue b → IsTrue (a && b)
join true b h k = k
join false b h k = absurd cc

-- what a test says of all is so of each
pub each_is : {X : Type 0} (p : X → Bool) (xs : List X) (i : ℕ) (d : X) → IsTrue (list_all p xs) → i < length xs → IsTrue (p (get_or xs i d))
each_is p xs i d all lt = elim (true_or_false (p (get_or xs i d))) [
  | inl hit ↦ hit
  | inr miss ↦ let none = list_all_at p xs i d lt miss in absurd cc
]

pub list_all_of : {X : Type 0} (p q : X → Bool) → ((x : X) → IsTrue (p x) → IsTrue (q x)) → (xs : List X) → IsTrue (list_all p xs) → IsTrue (list_all q xs)
list_all_of p q wider [] h = refl
list_all_of p q wider (x ∷ xs) h = let two = both (p x) (list_all p xs) h in join (q x) (list_all q xs) (wider x two.0) (list_all_of p q wider xs two.1)

-- ---- one row

on_is : (s : DevState) → IsTrue (is_on s) → On ≡ s
on_is On h = refl
on_is Leaving h = absurd cc
on_is Gone h = absurd cc

-- the tests of a row
record IsRow (version txg : ℕ) (r : DevRow) : Type 0 where
  pub first : 1 ≤ r.added
  pub past : r.added ≤ txg
  pub least : 896 ≤ r.units
  pub most : r.units ≤ most_units version
  pub going : IsTrue (is_going r.state r.added r.gone txg)

row_tests : (version txg : ℕ) (r : DevRow) → IsTrue (is_row version txg r) → IsRow version txg r
row_tests version txg r h =
    let a = nat_le 1 r.added in
    let b = nat_le r.added txg in
    let c = nat_le 896 r.units in
    let d = nat_le r.units (most_units version) in
    let e = is_going r.state r.added r.gone txg in
    let four = both (a && b && c && d) e h in
    let three = both (a && b && c) d four.0 in
    let two = both (a && b) c three.0 in
    let one = both a b two.0 in
    let one0 : IsTrue a = one.0 in
    let one1 : IsTrue b = one.1 in
    let two1 : IsTrue c = two.1 in
    let three1 : IsTrue d = three.1 in
    record { first = grind (arith, nat_tests, one0); past = grind (arith, nat_tests, one1); least = grind (arith, nat_tests, two1); most = grind (arith, nat_tests, three1); going = four.1 }

is_le : (a b : ℕ) → a ≤ b → IsTrue (nat_le a b)
is_le a b h = grind (arith, nat_tests, h)

going_later : (s : DevState) (added gone txg : ℕ) → IsTrue (is_going s added gone txg) → IsTrue (is_going s added gone (txg + 1))
going_later On added gone txg h = h
going_later Leaving added gone txg h = h
going_later Gone added gone txg h =
    let two = both (nat_lt added gone) (nat_le gone txg) h in
    let last : IsTrue (nat_le gone txg) = two.1 in
    join (nat_lt added gone) (nat_le gone (txg + 1)) two.0 (grind (arith, nat_tests, last))

pub row_later : (version txg : ℕ) (r : DevRow) → IsTrue (is_row version txg r) → IsTrue (is_row version (txg + 1) r)
row_later version txg r h =
    let t = row_tests version txg r h in
    let past = t.past in
    join _ _ (join _ _ (join _ _ (join _ _ (is_le 1 r.added t.first) (is_le r.added (txg + 1) (omega (arith, past)))) (is_le 896 r.units t.least)) (is_le r.units (most_units version) t.most)) (going_later r.state r.added r.gone txg t.going)

going_until : (s : DevState) (added gone txg later : ℕ) → txg ≤ later → IsTrue (is_going s added gone txg) → IsTrue (is_going s added gone later)
going_until On added gone txg later le h = h
going_until Leaving added gone txg later le h = h
going_until Gone added gone txg later le h =
    let two = both (nat_lt added gone) (nat_le gone txg) h in
    let last : IsTrue (nat_le gone txg) = two.1 in
    join (nat_lt added gone) (nat_le gone later) two.0 (grind (arith, nat_tests, last, le))

row_until : (version txg later : ℕ) (r : DevRow) → txg ≤ later → IsTrue (is_row version txg r) → IsTrue (is_row version later r)
row_until version txg later r le h =
    let t = row_tests version txg r h in
    let past = t.past in
    join _ _ (join _ _ (join _ _ (join _ _ (is_le 1 r.added t.first) (is_le r.added later (omega (arith, past, le)))) (is_le 896 r.units t.least)) (is_le r.units (most_units version) t.most)) (going_until r.state r.added r.gone txg later le t.going)

-- so are those of a later group
pub rows_until : (version txg later : ℕ) (rs : List DevRow) → txg ≤ later → IsTrue (list_all (is_row version txg) rs) → IsTrue (list_all (is_row version later) rs)
rows_until version txg later rs le all = list_all_of (is_row version txg) (is_row version later) (λ r. row_until version txg later r le) rs all

no_row_is : (r : DevRow) → IsTrue (is_no_row r) → r ≡ no_row
no_row_is r h =
    let a = is_on r.state in
    let b = r.added == 0 in
    let c = r.units == 0 in
    let d = r.gone == 0 in
    let three = both (a && b && c) d h in
    let two = both (a && b) c three.0 in
    let one = both a b two.0 in
    sym (ap (λ (s : DevState). make s 0 0 0) (on_is r.state one.0)
    ∙ (ap (λ (n : ℕ). make r.state n 0 0) (sym (eqb-true r.added 0 one.1))
    ∙ (ap (λ (n : ℕ). make r.state r.added n 0) (sym (eqb-true r.units 0 two.1))
    ∙ ap (λ (n : ℕ). make r.state r.added r.units n) (sym (eqb-true r.gone 0 three.1)))))
  where
    make : DevState → ℕ → ℕ → ℕ → DevRow
    make s added units gone = record { state = s; added = added; units = units; gone = gone }

most_small : (version : ℕ) → most_units version ≤ 2 ^ 26
most_small version = elim (version == 1) as (λ b. (if b then 4193152 else 33553280) ≤ 2 ^ 26) [ true ↦ omega arith | false ↦ omega arith ]

-- ---- the table of a root

module _ (u : Uber) (is : IsUber u) where
  pub count_few : u.count ≤ 32
  count_few = is.head.devices

  pub taken_is : length (take u.count u.rows) ≡ u.count
  taken_is = let size = is.table.size in let few = is.head.devices in length-take-le u.count u.rows (omega (arith, size, few))

  pub row_is : (d : ℕ) → d < u.count → IsTrue (is_row u.version u.txg (row_at u d))
  row_is d lt = subst (λ (r : DevRow). IsTrue (is_row u.version u.txg r)) (get_or-take u.count u.rows d no_row lt) (each_is (is_row u.version u.txg) (take u.count u.rows) d no_row is.table.devices (let t = taken_is in omega (arith, t, lt)))

  pub some_row : (d : ℕ) → d < u.count → 1 ≤ (row_at u d).added
  some_row d lt = (row_tests u.version u.txg (row_at u d) (row_is d lt)).first

  pub past_rows : (d : ℕ) → u.count ≤ d → row_at u d ≡ no_row
  past_rows d ge = elim (cases_lt d 32) [
    | inl lt ↦
        let size = is.table.size in
        let left = length-drop u.count u.rows in
        let back : u.count + (d - u.count) ≡ d = omega (arith, ge) in
        let is_none = each_is is_no_row (drop u.count u.rows) (d - u.count) no_row is.table.rest (omega (arith, left, size, lt, ge)) in
        sym (ap (λ (n : ℕ). get_or u.rows n no_row) back) ∙ (sym (get_or-drop u.count u.rows (d - u.count) no_row) ∙ no_row_is (get_or (drop u.count u.rows) (d - u.count) no_row) is_none)
    | inr ge32 ↦ let size = is.table.size in get_or-eq_default u.rows no_row (omega (arith, size, ge32))
  ]

  -- the rows of the devices, by index
  pub row_of : (d : ℕ) → get_or (take u.count u.rows) d no_row ≡ row_at u d
  row_of d = elim (cases_lt d u.count) [
    | inl lt ↦ get_or-take u.count u.rows d no_row lt
    | inr ge ↦ let t = taken_is in get_or-eq_default (take u.count u.rows) no_row (omega (arith, t, ge)) ∙ sym (past_rows d ge)
  ]

  pub row_units : (d : ℕ) → d < u.count → (row_at u d).units ≤ 2 ^ 26
  row_units d lt = let t = row_tests u.version u.txg (row_at u d) (row_is d lt) in let most = t.most in let small = most_small u.version in omega (arith, most, small)

  pub small_row : (d : ℕ) → (row_at u d).units ≤ 2 ^ 40
  small_row d = elim (cases_lt d u.count) [
    | inl lt ↦ let few = row_units d lt in omega (arith, few)
    | inr ge ↦ let none = ap (λ (r : DevRow). r.units) (past_rows d ge) in omega (arith, none)
  ]

  -- a space that has the rows of the root is mounted where that has its disks
  pub mounted_rows : (sizes : List ℕ) (slots : List (Option ℕ)) (s : Space) → HasItsDisks sizes slots u → HasRows u s.parts.devs → AreMounted sizes slots (devices_in s)
  mounted_rows sizes slots s h rows = record {
    few = let n = rows.count in let few = is.head.devices in omega (arith, n, few);
    disks = λ d lt there.
        let inside : d < u.count = (let n = rows.count in omega (arith, n, lt)) in
        let row = rows.each d inside in
        subst (λ (r : DevRow). HasDisk sizes slots d r.units) (sym row) (h.disks d inside (subst (λ (r : DevRow). is_gone r.state ≡ false) row there));
    small = λ d. elim (cases_lt d u.count) [
      | inl lt ↦ let same = ap (λ (r : DevRow). r.units) (rows.each d lt) in let small = small_row d in omega (arith, same, small)
      | inr ge ↦ let n = rows.count in let none = ap (λ (p : DevPart). p.row.units) (get_or-eq_default s.parts.devs no_part {n = d} (omega (arith, n, ge))) in omega (arith, none)
    ];
    apart = h.apart;
  }
