-- What was copied has the bytes of its units.
use Rattle.std.proofs.Common.{◌≡◌, ◌≢◌, ◌⊎◌, ℕ, ◌+◌, ◌-◌, ◌*◌, ◌<◌, ◌≤◌, ◌==◌, Bool, true, false, List, [], ◌∷◌, ◌++◌, zero, suc, Option, Some, None, inl, inr, refl, sym, ◌∙◌, ap, subst, arith, take, drop}
use Rattle.std.specs.Prelude.{if◌then◌else◌}
use Rattle.std.specs.List.{sum_by}
use Rattle.std.proofs.lemmas.List.Sums.{sum_by-cons}
use Rattle.std.proofs.lemmas.List.{drop-drop, drop-take, take-take}
use Rattle.std.proofs.Math.Seq.{drop-nil}
use Rattle.std.proofs.lemmas.Bool.Decides.{nat_tests}
use Rattle.zr_base.specs.declared.space.DevPart.{DevPart}
use Rattle.zr_base.specs.declared.space.DevRow.{DevRow}
use Rattle.zr_base.specs.declared.space.DevState.{DevState}
use Rattle.zr_base.specs.declared.space.DevState.TheVariants.{On}
use Rattle.zr_base.specs.declared.space.Dva.{Dva}
use Rattle.zr_base.specs.declared.space.Entry.{Entry}
use Rattle.zr_base.specs.Extents.{has_unit}
use Rattle.zr_shelf.specs.Disks.{disk}
use Rattle.zr_shelf.specs.Moments.{World}
use Rattle.zr_shelf.specs.Doings.{WritesOnly}
use Rattle.zr_label.specs.Geometry.{unit_at}
use Rattle.zr_chain.specs.Visits.{as_part}
use Rattle.zr_chain.proofs.Ways.{cases_bool}
use Rattle.zr_rules.specs.Mappings.{target, in_source}
use Rattle.zr_rules.specs.Places.{Place, one_if, is_fresh, is_held, is_kept, is_leaving, in_address, part_of, state_of_dev}
use Rattle.zr_rules.specs.Roles.{is_copy_role}
use Rattle.zr_rules.specs.Roles.Role.{Free, FreshCopy}
use Rattle.zr_rules.specs.Space.{Space, role_at, copy_hits, is_copy_by, IsLawful}
use Rattle.zr_space.specs.Plans.{IsPlan, MakesCopy}
use Rattle.zr_space.specs.declared.copy.Plan.{Plan}
use Rattle.zr_view.specs.Views.{slot_of, unit_bytes}
use Rattle.zr_view.specs.Runs.{bytes_from, run_bytes}
use Rattle.zr_vdev.specs.Alike.{IsCopyAt, CopiesStand}
use Rattle.zr_vdev.specs.Copies.{run_of}
use Rattle.zr_vdev.specs.Puts.{IsWriteOf}
use Rattle.zr_vdev.proofs.Alike.{copies_over, unit_kept, source_out}

false_true : false ≡ true → ⊥
false_true e = cc

none_some : {A : Type 0} (x : A) → None ≡ Some x → ⊥
none_some x e = cc

if_yes : {A : Type 0} (b : Bool) (x y : A) → b ≡ true → (if b then x else y) ≡ x
if_yes true x y h = refl
if_yes false x y h = cc

if_no : {A : Type 0} (b : Bool) (x y : A) → b ≡ false → (if b then x else y) ≡ y
if_no true x y h = cc
if_no false x y h = refl

-- ---- a unit that has a copy is held there

abbrev some_place : ℕ → ℕ → Option Place
some_place d u = Some (d, u)

pub same_place : (d u : ℕ) (q : Place) → some_place d u ≡ Some q → (q.0 ≡ d) × (q.1 ≡ u)
same_place d u q e = (cc, cc)

-- the place of a unit in an entry is a copy by it
pub copies_by : (p : DevPart) (e : Entry) (u : ℕ) → in_source e u ≡ true → has_unit p.fresh u ≡ false → is_copy_by p e.dev (e.dst + (u - e.src)) e ≡ true
copies_by p e u inside unmarked =
    let from : e.src ≤ u = grind (arith, nat_tests, inside) in
    let to : u < e.src + e.len = grind (arith, nat_tests, inside) in
    let same : e.src + (e.dst + (u - e.src) - e.dst) ≡ u = omega (arith, from) in
    let none : has_unit p.fresh (e.src + (e.dst + (u - e.src) - e.dst)) ≡ false = ap (has_unit p.fresh) same ∙ unmarked in
    grind (arith, nat_tests, from, to, none)

pub entries_copy : (p : DevPart) (u : ℕ) (q : Place) → has_unit p.fresh u ≡ false → (es : List Entry) → target es u ≡ Some q → 0 < sum_by (λ (e : Entry). one_if (is_copy_by p q.0 q.1 e)) es
entries_copy p u q unmarked [] is = absurd (none_some q is)
entries_copy p u q unmarked (e ∷ es) is = by (in_source e u) refl (entries_copy p u q unmarked es)
  where
    by : (b : Bool) → in_source e u ≡ b → (target es u ≡ Some q → 0 < sum_by (λ (x : Entry). one_if (is_copy_by p q.0 q.1 x)) es) → 0 < sum_by (λ (x : Entry). one_if (is_copy_by p q.0 q.1 x)) (e ∷ es)
    by true here rest =
        let there = same_place e.dev (e.dst + (u - e.src)) q (sym (if_yes (in_source e u) (some_place e.dev (e.dst + (u - e.src))) (target es u) here) ∙ is) in
        let copy : is_copy_by p q.0 q.1 e ≡ true = rw there.0 rw there.1 (copies_by p e u here unmarked) in
        let s = sum_by-cons (λ (x : Entry). one_if (is_copy_by p q.0 q.1 x)) e es in
        let one = ap one_if copy in
        omega (arith, s, one)
    by false out rest =
        let s = sum_by-cons (λ (x : Entry). one_if (is_copy_by p q.0 q.1 x)) e es in
        let r = rest (sym (if_no (in_source e u) (some_place e.dev (e.dst + (u - e.src))) (target es u) out) ∙ is) in
        omega (arith, s, r)

abbrev each_copies : Place → DevPart → ℕ
each_copies q p = if is_leaving p.row.state then sum_by (λ (e : Entry). one_if (is_copy_by p q.0 q.1 e)) p.entries else 0

pub parts_copy : (q : Place) (u : ℕ) (ps : List DevPart) (d : ℕ) → is_leaving (state_of_dev ps d) ≡ true → is_fresh ps d u ≡ false → target (part_of ps d).entries u ≡ Some q → 0 < copy_hits ps q.0 q.1
parts_copy q u [] d leaving unmarked is = absurd (false_true leaving)
parts_copy q u (p ∷ ps) zero leaving unmarked is =
    let s = sum_by-cons (each_copies q) p ps in
    let some = entries_copy p u q unmarked p.entries is in
    let all = if_yes (is_leaving p.row.state) (sum_by (λ (e : Entry). one_if (is_copy_by p q.0 q.1 e)) p.entries) 0 leaving in
    omega (arith, s, some, all)
parts_copy q u (p ∷ ps) (suc d) leaving unmarked is =
    let s = sum_by-cons (each_copies q) p ps in
    let r = parts_copy q u ps d leaving unmarked is in
    omega (arith, s, r)

held_not_free : (s : Space) (d u : ℕ) → is_held s.parts.devs d u ≡ true → role_at s d u ≡ Free → ⊥
unfolding role_at
held_not_free s d u held is = grind (arith, nat_tests, held, is)

held_if : (b : Bool) (n k : ℕ) → n + k ≤ one_if b → 0 < n → b ≡ true
held_if true n k le some = refl
held_if false n k le some = absurd (omega (arith, le, some))

-- the place of an unmarked copy is not free
copy_not_free : (s : Space) → IsLawful s → (d u : ℕ) (q : Place) → is_leaving (state_of_dev s.parts.devs d) ≡ true → is_fresh s.parts.devs d u ≡ false → target (part_of s.parts.devs d).entries u ≡ Some q → role_at s q.0 q.1 ≡ Free → ⊥
copy_not_free s lawful d u q leaving unmarked leads free =
    held_not_free s q.0 q.1
    (held_if (is_held s.parts.devs q.0 q.1) (copy_hits s.parts.devs q.0 q.1) (one_if (is_kept s.parts.devs q.0 q.1)) (lawful.copies q.0 q.1) (parts_copy q u s.parts.devs d leaving unmarked leads)) free

-- ---- one more entry

target_more : (xs : List Entry) (e : Entry) (u : ℕ) (q : Place) → target (xs ++ e ∷ []) u ≡ Some q → (target xs u ≡ Some q) ⊎ ((in_source e u ≡ true) × (some_place e.dev (e.dst + (u - e.src)) ≡ Some q))
target_more [] e u q is = by (in_source e u) refl
  where
    by : (b : Bool) → in_source e u ≡ b → (target [] u ≡ Some q) ⊎ ((in_source e u ≡ true) × (some_place e.dev (e.dst + (u - e.src)) ≡ Some q))
    by true here = inr (here, sym (if_yes (in_source e u) (some_place e.dev (e.dst + (u - e.src))) (target [] u) here) ∙ is)
    by false out = inl (sym (if_no (in_source e u) (some_place e.dev (e.dst + (u - e.src))) (target [] u) out) ∙ is)
target_more (x ∷ xs) e u q is = by (in_source x u) refl (target_more xs e u q)
  where
    by : (b : Bool) → in_source x u ≡ b → (target (xs ++ e ∷ []) u ≡ Some q → (target xs u ≡ Some q) ⊎ ((in_source e u ≡ true) × (some_place e.dev (e.dst + (u - e.src)) ≡ Some q)))
        → (target (x ∷ xs) u ≡ Some q) ⊎ ((in_source e u ≡ true) × (some_place e.dev (e.dst + (u - e.src)) ≡ Some q))
    by true here rest =
        inl (if_yes (in_source x u) (some_place x.dev (x.dst + (u - x.src))) (target xs u) here ∙ (sym (if_yes (in_source x u) (some_place x.dev (x.dst + (u - x.src))) (target (xs ++ e ∷ []) u) here) ∙ is))
    by false out rest = elim (rest (sym (if_no (in_source x u) (some_place x.dev (x.dst + (u - x.src))) (target (xs ++ e ∷ []) u) out) ∙ is)) [
      | inl old ↦ inl (if_no (in_source x u) (some_place x.dev (x.dst + (u - x.src))) (target xs u) out ∙ old)
      | inr new ↦ inr new
    ]

-- ---- the units of a run

unit_of_run : (disks : List (List ℕ)) (slot : Option ℕ) (start n k : ℕ) → k < n → unit_bytes disks slot (start + k) ≡ take 4096 (drop (4096 * k) (bytes_from disks slot start (4096 * n)))
unit_of_run disks None start n k lt = sym (ap (λ (l : List ℕ). take 4096 l) (drop-nil (4096 * k)))
unit_of_run disks (Some slot) start n k lt =
    let bytes = disk disks slot in
    let rest : 4096 * n ≡ 4096 * k + (4096 * n - 4096 * k) = omega (arith, lt) in
    let enough : 4096 ≤ 4096 * n - 4096 * k = omega (arith, lt) in
    let on : drop (4096 * k) (drop (unit_at start) bytes) ≡ drop (unit_at (start + k)) bytes = drop-drop (4096 * k) (unit_at start) bytes ∙ ap (λ (j : ℕ). drop j bytes) (omega arith) in
    sym (ap (λ (j : ℕ). take 4096 (drop (4096 * k) (take j (drop (unit_at start) bytes)))) rest
    ∙ (ap (λ (l : List ℕ). take 4096 l) (drop-take (4096 * k) (4096 * n - 4096 * k) (drop (unit_at start) bytes))
    ∙ (take-take 4096 (4096 * n - 4096 * k) (drop (4096 * k) (drop (unit_at start) bytes)) enough
    ∙ ap (λ (l : List ℕ). take 4096 l) on)))

-- ---- the copy

on_serves : (st : DevState) → st ≡ On → is_leaving st ≡ false
on_serves st is = ap is_leaving is

own_device : (at : Dva) (d u : ℕ) → in_address at d u ≡ true → at.dev ≡ d
own_device at d u is = grind (arith, nat_tests, is)

module _ (slots : List (Option ℕ)) (apart : (d e slot : ℕ) → slot_of slots d ≡ Some slot → slot_of slots e ≡ Some slot → d ≡ e) (old : Space) (d : ℕ) (p : Plan) (h : IsPlan old d p) (before now : World) (writes : WritesOnly (IsWriteOf slots p.to) before now) where
  more : 0 < p.to.len
  more = let some = h.some in let len = h.len in omega (arith, some, len)

  serves : is_leaving (state_of_dev old.parts.devs p.to.dev) ≡ false
  serves = on_serves (state_of_dev old.parts.devs p.to.dev) h.on

  place_free : (e u : ℕ) → in_address p.to e u ≡ true → role_at old e u ≡ Free
  place_free e u is =
      let same = own_device p.to e u is in
      subst (λ x. role_at old x u ≡ Free) same (h.free u (subst (λ x. in_address p.to x u ≡ true) (sym same) is))

  -- where nothing was copied after all
  pub copies_left : CopiesStand before.now.seen slots old → CopiesStand now.now.seen slots old
  copies_left stand = copies_over slots p.to apart more before now writes old serves place_free stand

  module _ (new : Space) (m : MakesCopy old new d p) (there : run_bytes now.now.seen slots (as_part p.to) ≡ run_bytes before.now.seen slots (run_of d p.from)) where
    -- a unit of the source and its copy
    carried : (k : ℕ) → k < p.from.len → unit_bytes now.now.seen (slot_of slots p.to.dev) (p.to.start + k) ≡ unit_bytes before.now.seen (slot_of slots d) (p.from.start + k)
    carried k lt =
        let len = h.len in
        unit_of_run now.now.seen (slot_of slots p.to.dev) p.to.start p.to.len k (omega (arith, lt, len))
        ∙ (ap (λ (l : List ℕ). take 4096 (drop (4096 * k) l)) there ∙ sym (unit_of_run before.now.seen (slot_of slots d) p.from.start p.from.len k lt))

    -- each device has its row still
    row_still : (e : ℕ) → (part_of new.parts.devs e).row ≡ (part_of old.parts.devs e).row
    row_still e = elim (cases_bool (e == d)) [
      | inl is ↦ let same : e ≡ d = grind (arith, nat_tests, is) in subst (λ (x : ℕ). (part_of new.parts.devs x).row ≡ (part_of old.parts.devs x).row) (sym same) m.row_is
      | inr is ↦ let other : e ≢ d = λ same. let yes : (e == d) ≡ true = grind (arith, nat_tests, same) in false_true (sym is ∙ yes) in (m.elsewhere.others e other).row
    ]

    -- an entry of before is that of a copy of before
    was_there : (e u : ℕ) (q : Place) → IsCopyAt new e u q → is_leaving (state_of_dev old.parts.devs e) ≡ true → is_fresh old.parts.devs e u ≡ false → IsLawful old → target (part_of old.parts.devs e).entries u ≡ Some q → IsCopyAt old e u q
    was_there e u q c leaving unmarked lawful leads = record { leaving = leaving; within = subst (λ (r : DevRow). u < r.units) (row_still e) c.within; unmarked = unmarked; leads = leads; copy = by (in_address p.to q.0 q.1) refl }
      where
        by : (b : Bool) → in_address p.to q.0 q.1 ≡ b → is_copy_role (role_at old q.0 q.1) ≡ true
        by true is = absurd (copy_not_free old lawful e u q leaving unmarked leads (place_free q.0 q.1 is))
        by false out = sym (ap is_copy_role (m.roles q.0 q.1 ∙ if_no (in_address p.to q.0 q.1) FreshCopy (role_at old q.0 q.1) out)) ∙ c.copy

    pub copies_made : IsLawful old → CopiesStand before.now.seen slots old → CopiesStand now.now.seen slots new
    copies_made lawful stand e u q c = by (e == d) refl
      where
        goes_on : IsCopyAt old e u q → unit_bytes now.now.seen (slot_of slots q.0) q.1 ≡ unit_bytes now.now.seen (slot_of slots e) u
        goes_on was =
            let out : in_address p.to q.0 q.1 ≡ false = elim (cases_bool (in_address p.to q.0 q.1)) [
              | inl is ↦ absurd (false_true (sym (ap is_copy_role (place_free q.0 q.1 is)) ∙ was.copy))
              | inr out ↦ out
            ] in
            unit_kept slots p.to apart more before now writes q.0 q.1 out
            ∙ (stand e u q was ∙ sym (unit_kept slots p.to apart more before now writes e u (source_out slots p.to apart more before now writes old serves e u was.leaving)))

        by : (b : Bool) → (e == d) ≡ b → unit_bytes now.now.seen (slot_of slots q.0) q.1 ≡ unit_bytes now.now.seen (slot_of slots e) u
        by false is =
            let other : e ≢ d = λ same. let yes : (e == d) ≡ true = grind (arith, nat_tests, same) in false_true (sym is ∙ yes) in
            let part = m.elsewhere.others e other in
            goes_on (was_there e u q c (sym (ap (λ (r : DevRow). is_leaving r.state) part.row) ∙ c.leaving) (sym (m.elsewhere.fresh e u other) ∙ c.unmarked) lawful (sym (ap (λ (es : List Entry). target es u) part.entries) ∙ c.leads))
        by true is =
            let same : e ≡ d = grind (arith, nat_tests, is) in
            elim (target_more (part_of old.parts.devs d).entries (record { src = p.from.start; dev = p.to.dev; dst = p.to.start; len = p.from.len }) u q
            (sym (ap (λ (es : List Entry). target es u) m.entries) ∙ subst (λ x. target (part_of new.parts.devs x).entries u ≡ Some q) same c.leads)) [
              | inl leads ↦ goes_on (was_there e u q c (subst (λ x. is_leaving (state_of_dev old.parts.devs x) ≡ true) (sym same) h.leaving) (unmarked same) lawful (subst (λ x. target (part_of old.parts.devs x).entries u ≡ Some q) (sym same) leads))
              | inr (inside, at) ↦ by_new same inside (same_place p.to.dev (p.to.start + (u - p.from.start)) q at)
            ]
          where
            unmarked : e ≡ d → is_fresh old.parts.devs e u ≡ false
            unmarked same = subst (λ x. is_fresh old.parts.devs x u ≡ false) (sym same) (sym (ap (λ es. has_unit es u) m.fresh) ∙ subst (λ x. is_fresh new.parts.devs x u ≡ false) same c.unmarked)

            by_new : e ≡ d → in_source (record { src = p.from.start; dev = p.to.dev; dst = p.to.start; len = p.from.len }) u ≡ true → (q.0 ≡ p.to.dev) × (q.1 ≡ p.to.start + (u - p.from.start))
                → unit_bytes now.now.seen (slot_of slots q.0) q.1 ≡ unit_bytes now.now.seen (slot_of slots e) u
            by_new same inside at =
                let from : p.from.start ≤ u = grind (arith, nat_tests, inside) in
                let to : u < p.from.start + p.from.len = grind (arith, nat_tests, inside) in
                let back : p.from.start + (u - p.from.start) ≡ u = omega (arith, from) in
                let source = source_out slots p.to apart more before now writes old serves d u h.leaving in
                ap (λ x. unit_bytes now.now.seen (slot_of slots x) q.1) at.0 ∙ (ap (λ x. unit_bytes now.now.seen (slot_of slots p.to.dev) x) at.1
                ∙ (carried (u - p.from.start) (omega (arith, from, to)) ∙ (ap (λ x. unit_bytes before.now.seen (slot_of slots d) x) back
                ∙ (sym (unit_kept slots p.to apart more before now writes d u source) ∙ ap (λ x. unit_bytes now.now.seen (slot_of slots x) u) (sym same)))))
