-- Where frees leave nothing held but what was kept, they freed all that was in use.
use Rattle.std.proofs.Common.{◌≡◌, inl, inr, ℕ, zero, suc, ◌+◌, ◌-◌, ◌<◌, ◌≤◌, ◌==◌, ◌&&◌, Bool, true, false, not, nat_lt, nat_le, List, [], ◌∷◌, length, Some, refl, sym, ◌∙◌, ap, subst, arith}
use Rattle.std.specs.Prelude.{if◌then◌else◌}
use Rattle.std.specs.List.{list_any, sum_by}
use Rattle.std.proofs.lemmas.Bool.{cases_Bool}
use Rattle.std.proofs.lemmas.Bool.Decides.{nat_tests}
use Rattle.std.proofs.lemmas.List.Elements.{All-cons, All-nil}
use Rattle.std.proofs.lemmas.List.Folds.{list_any-append}
use Rattle.std.proofs.lemmas.List.Sums.{sum_by-cons}
use Rattle.zr_base.specs.Extents.{has_unit}
use Rattle.zr_base.specs.declared.space.Dva.{Dva}
use Rattle.zr_base.specs.declared.space.DevPart.{DevPart}
use Rattle.zr_base.specs.declared.space.DevRow.{DevRow}
use Rattle.zr_base.specs.declared.space.DevState.{DevState}
use Rattle.zr_base.specs.declared.space.DevState.TheVariants.{On, Leaving, Gone}
use Rattle.zr_base.specs.declared.space.Entry.{Entry}
use Rattle.zr_freed.specs.Chains.{FreesInTurn, HasSingleCopies, LeavesKept}
use Rattle.zr_rules.specs.Devices.{Devices}
use Rattle.zr_rules.specs.Equation.{devices_in, live_hits}
use Rattle.zr_rules.specs.Frees.{Frees, copy_from, is_copy_of, leads_to_copied}
use Rattle.zr_rules.specs.Mappings.{in_source, target}
use Rattle.zr_rules.specs.Places.{Place, is_fresh, is_gone, is_held, is_kept, is_leaving, one_if, part_of, state_of_dev}
use Rattle.zr_rules.specs.Resolve.{leads_to, pass_hits, resolve_hits}
use Rattle.zr_rules.specs.Roles.{Role, is_copy_role, is_live_role}
use Rattle.zr_rules.specs.Space.{Space, copy_hits, is_copy_by, role_at}
use Rattle.zr_space.specs.Live.{IsFreeable}
use Rattle.zr_vdev.proofs.Follows.{give_devices}
use Rattle.zr_vdev.proofs.Leading.{Resolves, false_true, leads_some, ways_lead, zero_or}
use Rattle.zr_vdev.proofs.Placed.{copies_by, entries_copy, parts_copy, same_place}
use Rattle.zr_vdev.proofs.Uses.{copies_counted, entry_copies, give_ends, give_keeps}
use Rattle.zr_vdev.specs.Alike.{IsCopyAt}
use Rattle.zr_vdev.specs.Stores.{LeadsToAll}
use Rattle.zr_vdev.specs.declared.kind.Kind.TheVariants.{Block}

-- ---- roles

-- a unit in use is held
pub live_held : (s : Space) (d u : ℕ) → is_live_role (role_at s d u) ≡ true → is_held s.parts.devs d u ≡ true
unfolding role_at
live_held s d u live = grind (arith, nat_tests, live)

pub copy_held : (s : Space) (d u : ℕ) → is_copy_role (role_at s d u) ≡ true → is_held s.parts.devs d u ≡ true
unfolding role_at
copy_held s d u copy = grind (arith, nat_tests, copy)

-- what is kept is in use by no block, and no copy
kept_not_live : (s : Space) (d u : ℕ) → is_kept s.parts.devs d u ≡ true → is_live_role (role_at s d u) ≡ false
unfolding role_at
kept_not_live s d u kept = grind (arith, nat_tests, kept)

kept_no_copy : (s : Space) (d u : ℕ) → is_kept s.parts.devs d u ≡ true → is_copy_role (role_at s d u) ≡ false
unfolding role_at
kept_no_copy s d u kept = grind (arith, nat_tests, kept)

-- ---- an address that may be freed leads to the source of each copy that is freed with it

if_yes : {A : Type 0} (b : Bool) (x y : A) → b ≡ true → (if b then x else y) ≡ x
if_yes true x y is = refl
if_yes false x y is = absurd (false_true is)

if_no : {A : Type 0} (b : Bool) (x y : A) → b ≡ false → (if b then x else y) ≡ y
if_no true x y is = absurd (false_true (sym is))
if_no false x y is = refl

abbrev copies_in : DevPart → Place → List Entry → ℕ
copies_in p q es = sum_by (λ (e : Entry). one_if (is_copy_by p q.0 q.1 e)) es

module _ (s : Space) (a : Dva) (u : ℕ) (q : Place) where
  abbrev leads_by : DevPart → ℕ → Entry → Bool
  leads_by p source e = leads_to_copied s a p source q.0 q.1 e

  by_entries : (p : DevPart) (source : ℕ) (es : List Entry) → has_unit p.fresh u ≡ false → target es u ≡ Some q → copies_in p q es ≤ 1 → list_any (leads_by p source) es ≡ true → leads_to (devices_in s) a source u ≡ true
  by_entries p source [] unmarked is one any = absurd (false_true any)
  by_entries p source (e ∷ es) unmarked is one any =
      let sum = sum_by-cons (λ (x : Entry). one_if (is_copy_by p q.0 q.1 x)) e es in
      let more = list_any-append (leads_by p source) (e ∷ []) es in
      elim (cases_Bool (in_source e u)) [
        | inl here ↦
            let at = same_place e.dev (e.dst + (u - e.src)) q (sym (if_yes (in_source e u) (Some (e.dev, e.dst + (u - e.src))) (target es u) here) ∙ is) in
            let copy : is_copy_by p q.0 q.1 e ≡ true = rw at.0 rw at.1 (copies_by p e u here unmarked) in
            let unit : e.src + (q.1 - e.dst) ≡ u = let second = at.1 in grind (arith, nat_tests, here, second) in
            let counted = ap one_if copy in
            elim (cases_Bool (leads_by p source e)) [
              | inl led ↦ subst (λ (w : ℕ). leads_to (devices_in s) a source w ≡ true) unit (grind (arith, nat_tests, led))
              | inr none ↦ let other = entry_copies s a p source q.0 q.1 es (grind (arith, nat_tests, more, any, none)) in absurd (omega (arith, sum, counted, other, one))
            ]
        | inr out ↦
            let rest = sym (if_no (in_source e u) (Some (e.dev, e.dst + (u - e.src))) (target es u) out) ∙ is in
            let some = entries_copy p u q unmarked es rest in
            elim (cases_Bool (leads_by p source e)) [
              | inl led ↦
                  let copy : is_copy_by p q.0 q.1 e ≡ true = grind (arith, nat_tests, led) in
                  let counted = ap one_if copy in
                  absurd (omega (arith, sum, counted, some, one))
              | inr none ↦ by_entries p source es unmarked rest (omega (arith, sum, one)) (grind (arith, nat_tests, more, any, none))
            ]
      ]

  abbrev own_copies : DevPart → ℕ
  own_copies p = if is_leaving p.row.state then copies_in p q p.entries else 0

  by_parts : (ps : List DevPart) (d first : ℕ) → is_leaving (state_of_dev ps d) ≡ true → is_fresh ps d u ≡ false → target (part_of ps d).entries u ≡ Some q → copy_hits ps q.0 q.1 ≤ 1 → copy_from s a first ps q.0 q.1 ≡ true → leads_to (devices_in s) a (first + d) u ≡ true
  by_parts [] d first leaving unmarked is one copy = absurd (false_true copy)
  by_parts (p ∷ ps) zero first leaving unmarked is one copy =
      let sum = sum_by-cons own_copies p ps in
      let own = if_yes (is_leaving p.row.state) (copies_in p q p.entries) 0 leaving in
      let some = entries_copy p u q unmarked p.entries is in
      let index : first + 0 ≡ first = omega arith in
      elim (cases_Bool (is_leaving p.row.state && list_any (leads_by p first) p.entries)) [
        | inl here ↦ subst (λ (i : ℕ). leads_to (devices_in s) a i u ≡ true) (sym index) (by_entries p first p.entries unmarked is (omega (arith, sum, own, one)) (grind (arith, nat_tests, here)))
        | inr none ↦ let other = copies_counted s a (first + 1) ps q.0 q.1 (grind (arith, nat_tests, copy, none)) in absurd (omega (arith, sum, own, some, other, one))
      ]
  by_parts (p ∷ ps) (suc d) first leaving unmarked is one copy =
      let sum = sum_by-cons own_copies p ps in
      let some = parts_copy q u ps d leaving unmarked is in
      let index : first + 1 + d ≡ first + suc d = omega arith in
      elim (cases_Bool (is_leaving p.row.state && list_any (leads_by p first) p.entries)) [
        | inl here ↦
            let leaves : is_leaving p.row.state ≡ true = grind (arith, nat_tests, here) in
            let own = if_yes (is_leaving p.row.state) (copies_in p q p.entries) 0 leaves in
            let other = entry_copies s a p first q.0 q.1 p.entries (grind (arith, nat_tests, here)) in
            absurd (omega (arith, sum, own, some, other, one))
        | inr none ↦ subst (λ (i : ℕ). leads_to (devices_in s) a i u ≡ true) index (by_parts ps d (first + 1) leaving unmarked is (omega (arith, sum, one)) (grind (arith, nat_tests, copy, none)))
      ]

leads_to_source : (s : Space) (a : Dva) (d u : ℕ) (q : Place) → copy_hits s.parts.devs q.0 q.1 ≤ 1 → IsCopyAt s d u q → is_copy_of s a q.0 q.1 ≡ true → leads_to (devices_in s) a d u ≡ true
leads_to_source s a d u q one copy is =
    let index : 0 + d ≡ d = omega arith in
    subst (λ (i : ℕ). leads_to (devices_in s) a i u ≡ true) index (by_parts s a u q s.parts.devs d 0 copy.leaving copy.unmarked copy.leads one is)

-- ---- where more is marked there are no more copies

one_fewer : (a b c marked now : Bool) → (marked ≡ true → now ≡ true) → one_if (a && (b && (c && not now))) ≤ one_if (a && (b && (c && not marked)))
one_fewer a b c true true still = omega arith
one_fewer a b c true false still = absurd (false_true (still refl))
one_fewer false b c false now still = omega arith
one_fewer true false c false now still = omega arith
one_fewer true true false false now still = omega arith
one_fewer true true true false true still = omega arith
one_fewer true true true false false still = omega arith

entries_fewer : (p r : DevPart) (q : Place) (es : List Entry) → ((u : ℕ) → has_unit p.fresh u ≡ true → has_unit r.fresh u ≡ true) → copies_in r q es ≤ copies_in p q es
entries_fewer p r q [] still = omega arith
entries_fewer p r q (e ∷ es) still =
    let now = sum_by-cons (λ (x : Entry). one_if (is_copy_by r q.0 q.1 x)) e es in
    let was = sum_by-cons (λ (x : Entry). one_if (is_copy_by p q.0 q.1 x)) e es in
    let u : ℕ = e.src + (q.1 - e.dst) in
    let first : one_if (is_copy_by r q.0 q.1 e) ≤ one_if (is_copy_by p q.0 q.1 e) = one_fewer (e.dev == q.0) (nat_le e.dst q.1) (nat_lt q.1 (e.dst + e.len)) (has_unit p.fresh u) (has_unit r.fresh u) (still u) in
    let rest = entries_fewer p r q es still in
    omega (arith, now, was, first, rest)

own_fewer : (p r : DevPart) (q : Place) → r.row ≡ p.row → r.entries ≡ p.entries → ((u : ℕ) → has_unit p.fresh u ≡ true → has_unit r.fresh u ≡ true)
    → (if is_leaving r.row.state then copies_in r q r.entries else 0) ≤ (if is_leaving p.row.state then copies_in p q p.entries else 0)
own_fewer p r q row entries still =
    let few = entries_fewer p r q p.entries still in
    let now : (if is_leaving r.row.state then copies_in r q r.entries else 0) ≡ (if is_leaving p.row.state then copies_in r q p.entries else 0) =
    ap (λ (w : DevRow). if is_leaving w.state then copies_in r q r.entries else 0) row ∙ ap (λ (es : List Entry). if is_leaving p.row.state then copies_in r q es else 0) entries in
    elim (cases_Bool (is_leaving p.row.state)) [
      | inl leaves ↦
          let one = if_yes (is_leaving p.row.state) (copies_in r q p.entries) 0 leaves in
          let other = if_yes (is_leaving p.row.state) (copies_in p q p.entries) 0 leaves in
          omega (arith, now, few, one, other)
      | inr not_leaving ↦ let one = if_no (is_leaving p.row.state) (copies_in r q p.entries) 0 not_leaving in omega (arith, now, one)
    ]

parts_fewer : (ps rs : List DevPart) (q : Place) → length rs ≡ length ps → ((d : ℕ) → (part_of rs d).row ≡ (part_of ps d).row) → ((d : ℕ) → (part_of rs d).entries ≡ (part_of ps d).entries)
    → ((d u : ℕ) → is_fresh ps d u ≡ true → is_fresh rs d u ≡ true) → copy_hits rs q.0 q.1 ≤ copy_hits ps q.0 q.1
parts_fewer [] [] q count rows entries still = omega arith
parts_fewer [] (r ∷ rs) q count rows entries still = absurd (omega (arith, count))
parts_fewer (p ∷ ps) [] q count rows entries still = omega arith
parts_fewer (p ∷ ps) (r ∷ rs) q count rows entries still =
    let now = sum_by-cons (λ (x : DevPart). if is_leaving x.row.state then copies_in x q x.entries else 0) r rs in
    let was = sum_by-cons (λ (x : DevPart). if is_leaving x.row.state then copies_in x q x.entries else 0) p ps in
    let first = own_fewer p r q (rows 0) (entries 0) (still 0) in
    let rest = parts_fewer ps rs q (omega (arith, count)) (λ d. rows (suc d)) (λ d. entries (suc d)) (λ d. still (suc d)) in
    omega (arith, now, was, first, rest)

-- ---- one free

leaving_stays : (state : DevState) → is_leaving state ≡ true → is_gone state ≡ false
leaving_stays On leaving = absurd (false_true leaving)
leaving_stays Leaving leaving = refl
leaving_stays Gone leaving = absurd (false_true leaving)

live_no_copy : (r : Role) → is_live_role r ≡ true → is_copy_role r ≡ false
live_no_copy r live = grind (arith, nat_tests, live)

module _ (birth : ℕ) (old new : Space) (a : Dva) (may : IsFreeable old a) (frees : Frees old new a birth) where
  abbrev ds : Devices
  ds = devices_in old

  same : devices_in new ≡ ds
  same = give_devices Block old new a birth frees

  marked : (d u : ℕ) → is_fresh old.parts.devs d u ≡ true → is_fresh new.parts.devs d u ≡ true
  marked d u is = frees.fresh d u ∙ grind (arith, nat_tests, is)

  single_still : HasSingleCopies old → HasSingleCopies new
  single_still single d u =
      let few = parts_fewer old.parts.devs new.parts.devs (d, u) frees.frame.devices (λ e. (frees.frame.each e).row) (λ e. (frees.frame.each e).entries) marked in
      let one = single d u in
      omega (arith, few, one)

  module _ (single : HasSingleCopies old) (d u : ℕ) (q : Place) (dead : is_live_role (role_at old d u) ≡ false) (copy : IsCopyAt old d u q) where
    not_led : leads_to ds a d u ≡ false
    not_led = elim (cases_Bool (leads_to ds a d u)) [
      | inl led ↦ absurd (false_true (sym dead ∙ may.used d u led))
      | inr out ↦ out
    ]

    not_passed : pass_hits ds a d u ≡ 0
    not_passed = elim (zero_or (pass_hits ds a d u)) [
      | inl none ↦ none
      | inr some ↦
          let sum = sum_by-cons (λ (x : Dva). pass_hits ds x d u) a [] in
          let way = ways_lead ds (a ∷ []) d u (All-cons (Resolves ds) a [] may.resolves (All-nil (Resolves ds))) (omega (arith, sum, some)) in
          absurd (false_true (sym (leaving_stays (state_of_dev old.parts.devs d) copy.leaving) ∙ way.gone))
    ]

    still_unmarked : is_fresh new.parts.devs d u ≡ false
    still_unmarked = let none = not_passed in let out = not_led in let was = copy.unmarked in frees.fresh d u ∙ grind (arith, nat_tests, none, out, was)

    place_out : leads_to ds a q.0 q.1 ≡ false
    place_out = elim (cases_Bool (leads_to ds a q.0 q.1)) [
      | inl led ↦ absurd (false_true (sym (live_no_copy (role_at old q.0 q.1) (may.used q.0 q.1 led)) ∙ copy.copy))
      | inr out ↦ out
    ]

    place_kept : is_copy_of old a q.0 q.1 ≡ false
    place_kept = elim (cases_Bool (is_copy_of old a q.0 q.1)) [
      | inl is ↦ absurd (false_true (sym not_led ∙ leads_to_source old a d u q (single q.0 q.1) copy is))
      | inr none ↦ none
    ]

    place_role : role_at new q.0 q.1 ≡ role_at old q.0 q.1
    place_role = frees.roles q.0 q.1 ∙ (if_no (leads_to ds a q.0 q.1) _ _ place_out ∙ if_no (is_copy_of old a q.0 q.1) _ _ place_kept)

    still_copy : IsCopyAt new d u q
    still_copy = record {
      leaving = ap (λ (r : DevRow). is_leaving r.state) (frees.frame.each d).row ∙ copy.leaving;
      within = subst (λ (r : DevRow). u < r.units) (sym (frees.frame.each d).row) copy.within;
      unmarked = still_unmarked;
      leads = ap (λ (es : List Entry). target es u) (frees.frame.each d).entries ∙ copy.leads;
      copy = ap is_copy_role place_role ∙ copy.copy;
    }

  still_dead : (d u : ℕ) → is_live_role (role_at old d u) ≡ false → is_live_role (role_at new d u) ≡ false
  still_dead d u dead = elim (cases_Bool (is_live_role (role_at new d u))) [
    | inl live ↦ absurd (false_true (sym dead ∙ (sym (ap is_live_role (give_ends Block old new a birth may frees d u live).1) ∙ live)))
    | inr none ↦ none
  ]

-- ---- frees in turn

-- a unit in use to which no address leads stays in use
stays_live : (birth : ℕ) (old new : Space) (list : List Dva) → FreesInTurn birth old new list → (d u : ℕ) → live_hits (devices_in old) list d u ≡ 0 → is_live_role (role_at old d u) ≡ true → is_live_role (role_at new d u) ≡ true
stays_live birth old new [] is d u none live = ap (λ (s : Space). is_live_role (role_at s d u)) is ∙ live
stays_live birth old new (a ∷ list) (mid, (may, frees), rest) d u none live =
    let sum = sum_by-cons (λ (x : Dva). resolve_hits (devices_in old) x d u) a list in
    let alike = ap (λ (ds : Devices). live_hits ds list d u) (same birth old mid a may frees) in
    let out : leads_to (devices_in old) a d u ≡ false = elim (cases_Bool (leads_to (devices_in old) a d u)) [
      | inl led ↦ let some = leads_some (devices_in old) a d u led in absurd (omega (arith, sum, some, none))
      | inr out ↦ out
    ] in
    stays_live birth mid new list rest d u (omega (arith, sum, alike, none)) (ap is_live_role (give_keeps Block old mid a birth may frees d u out live) ∙ live)

-- a copy of a unit that is in use by no block stays
stays_copy : (birth : ℕ) (old new : Space) (list : List Dva) → FreesInTurn birth old new list → HasSingleCopies old → (d u : ℕ) (q : Place) → is_live_role (role_at old d u) ≡ false → IsCopyAt old d u q → is_copy_role (role_at new q.0 q.1) ≡ true
stays_copy birth old new [] is single d u q dead copy = ap (λ (s : Space). is_copy_role (role_at s q.0 q.1)) is ∙ copy.copy
stays_copy birth old new (a ∷ list) (mid, (may, frees), rest) single d u q dead copy =
    stays_copy birth mid new list rest (single_still birth old mid a may frees single) d u q (still_dead birth old mid a may frees d u dead) (still_copy birth old mid a may frees single d u q dead copy)

pub freed_lead_to_all : (birth : ℕ) (old new : Space) (list : List Dva) → HasSingleCopies old → LeavesKept old new → FreesInTurn birth old new list → LeadsToAll old list
freed_lead_to_all birth old new list single left freed = record {
  used = λ d u live. elim (zero_or (live_hits (devices_in old) list d u)) [
    | inl none ↦ absurd (false_true (sym (kept_not_live old d u (sym (left d u) ∙ live_held new d u (stays_live birth old new list freed d u none live))) ∙ live))
    | inr some ↦ some
  ];
  copied = λ d u q copy. elim (cases_Bool (is_live_role (role_at old d u))) [
    | inl live ↦ live
    | inr dead ↦ absurd (false_true (sym (kept_no_copy old q.0 q.1 (sym (left q.0 q.1) ∙ copy_held new q.0 q.1 (stays_copy birth old new list freed single d u q dead copy))) ∙ copy.copy))
  ];
}
