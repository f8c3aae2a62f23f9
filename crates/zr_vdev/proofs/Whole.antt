-- That some pointer leads to each unit in use, by blocks or by the metadata of the current root, after what a store does.
use Rattle.std.proofs.Common.{◌≡◌, inl, inr, ℕ, ◌+◌, ◌-◌, ◌<◌, ◌≤◌, Bool, true, false, List, [], ◌∷◌, Some, refl, sym, ◌∙◌, ap, subst, arith}
use Rattle.std.specs.Prelude.{if◌then◌else◌}
use Rattle.std.specs.List.{list_any}
use Rattle.std.proofs.lemmas.Bool.Decides.{nat_tests}
use Rattle.std.proofs.lemmas.List.Folds.{list_any-append}
use Rattle.std.proofs.lemmas.List.Sums.{sum_by-cons}
use Rattle.zr_base.specs.declared.space.DevPart.{DevPart}
use Rattle.zr_base.specs.declared.space.Dva.{Dva}
use Rattle.zr_base.specs.declared.space.Entry.{Entry}
use Rattle.zr_base.specs.declared.space.Policy.{Policy}
use Rattle.zr_base.specs.Extents.{has_unit}
use Rattle.zr_chain.proofs.Ways.{cases_bool}
use Rattle.zr_rules.specs.Devices.{Devices}
use Rattle.zr_rules.specs.Frees.{is_copy_of, leads_to_copied}
use Rattle.zr_rules.specs.Mappings.{in_source, target}
use Rattle.zr_rules.specs.Places.{Place, in_address, part_of}
use Rattle.zr_rules.specs.Resolve.{leads_to, resolve_hits}
use Rattle.zr_rules.specs.Roles.{Role, is_live_role, is_copy_role, is_meta_role, freed}
use Rattle.zr_rules.specs.Space.{Space, role_at}
use Rattle.zr_rules.specs.Equation.{devices_in, live_hits}
use Rattle.zr_space.proofs.FreeImages.{has_copy}
use Rattle.zr_vdev.specs.declared.kind.Kind.{Kind}
use Rattle.zr_vdev.specs.declared.kind.Kind.TheVariants as kinds
use Rattle.zr_vdev.specs.Alike.{IsCopyAt}
use Rattle.zr_vdev.specs.Puts.{Takes, GivesBack}
use Rattle.zr_vdev.specs.Stores.{IsAll, IsInUse, IsTaken, LeadsToAll, LeadsToMeta, is_current}
use Rattle.zr_vdev.proofs.Alike.{AreNoNewCopies, was_copy, with_others, given_no_copy, taken_copy}
use Rattle.zr_vdev.proofs.Back.{Parts}
use Rattle.zr_vdev.proofs.Follows.{takes_others, taken_role, gives_others}
use Rattle.zr_vdev.proofs.Leading.{false_true, zero_or, leads_some, some_leads}
use Rattle.zr_vdev.proofs.Uses.{taken_was_free, take_keeps, taken_own, own_taken, give_keeps, give_ends}

-- where the devices, the units in use and the copies are the same
pub all_same : (s t : Space) (list : List Dva) → devices_in t ≡ devices_in s → ((d u : ℕ) → is_live_role (role_at t d u) ≡ is_live_role (role_at s d u)) → AreNoNewCopies s t → LeadsToAll s list → LeadsToAll t list
all_same s t list devices roles copies all = record {
  used = λ d u live. subst (λ (ds : Devices). 0 < live_hits ds list d u) (sym devices) (all.used d u (sym (roles d u) ∙ live));
  copied = λ d u p copy. roles d u ∙ all.copied d u p (was_copy s t copies d u p copy);
}

-- where the devices and the units of metadata are the same
pub meta_same : (s t : Space) (list : List Dva) → devices_in t ≡ devices_in s → ((d u : ℕ) → is_current (role_at t d u) ≡ is_current (role_at s d u)) → LeadsToMeta s list → LeadsToMeta t list
meta_same s t list devices roles all = record {
  used = λ d u is. subst (λ (ds : Devices). 0 < live_hits ds list d u) (sym devices) (all.used d u (sym (roles d u) ∙ is));
  current = λ d u some. roles d u ∙ all.current d u (subst (λ (ds : Devices). 0 < live_hits ds list d u) devices some);
}

-- ---- units that are taken

-- units in use are none of those that are taken
live_out : (policy : Policy) (want : ℕ) (old new : Space) (at : Dva) → Takes kinds.Block policy want old new at → (d u : ℕ) → is_live_role (role_at old d u) ≡ true → in_address at d u ≡ false
live_out policy want old new at takes d u live = elim (cases_bool (in_address at d u)) [
  | inl is ↦ absurd (false_true (sym (ap is_live_role (taken_was_free kinds.Block policy want old new at takes d u is)) ∙ live))
  | inr out ↦ out
]

-- nor are units of metadata
meta_out : (policy : Policy) (want : ℕ) (old new : Space) (at : Dva) → Takes kinds.Meta policy want old new at → (d u : ℕ) → is_current (role_at old d u) ≡ true → in_address at d u ≡ false
meta_out policy want old new at takes d u current = elim (cases_bool (in_address at d u)) [
  | inl is ↦ absurd (false_true (sym (ap is_current (taken_was_free kinds.Meta policy want old new at takes d u is)) ∙ current))
  | inr out ↦ out
]

taken_no_more : (kind : Kind) (policy : Policy) (want : ℕ) (old new : Space) (at : Dva) → Takes kind policy want old new at → AreNoNewCopies old new
taken_no_more kind policy want old new at takes = with_others kind old new (takes_others kind policy want old new at takes) (λ d u is. taken_copy kind policy want old new at takes d u is)

module _ (kind : Kind) (s : Space) (at : Dva) (taken : IsTaken kind s at) where
  out_of : (d u : ℕ) → leads_to (devices_in s) at d u ≡ false → in_address at d u ≡ false
  out_of d u out = elim (cases_bool (in_address at d u)) [
    | inl is ↦ absurd (false_true (sym out ∙ own_taken kind s at taken d u is))
    | inr outside ↦ outside
  ]

  not_led : (d u : ℕ) → in_address at d u ≡ false → leads_to (devices_in s) at d u ≡ false
  not_led d u out = elim (cases_bool (leads_to (devices_in s) at d u)) [
    | inl led ↦ absurd (false_true (sym out ∙ taken_own kind s at taken d u led))
    | inr nowhere ↦ nowhere
  ]

  no_hits : (d u : ℕ) → in_address at d u ≡ false → resolve_hits (devices_in s) at d u ≡ 0
  no_hits d u out = elim (zero_or (resolve_hits (devices_in s) at d u)) [
    | inl none ↦ none
    | inr more ↦ absurd (false_true (sym (not_led d u out) ∙ some_leads (devices_in s) at d u more))
  ]

current_meta : (r : Role) → is_current r ≡ true → is_meta_role r ≡ true
current_meta r is = grind (arith, nat_tests, is)

pub all_taken : (kind : Kind) (policy : Policy) (want : ℕ) (old new : Space) (at : Dva) (list : List Dva) → Takes kind policy want old new at → devices_in new ≡ devices_in old → IsTaken kind new at → IsAll kind old list → IsAll kind new (at ∷ list)
all_taken kinds.Block policy want old new at list takes devices taken all = record {
  used = λ d u live.
      let sum = sum_by-cons (λ (a : Dva). resolve_hits (devices_in new) a d u) at list in
      elim (cases_bool (in_address at d u)) [
        | inl is ↦ let own = leads_some (devices_in new) at d u (own_taken kinds.Block new at taken d u is) in omega (arith, own, sum)
        | inr out ↦
            let was = all.used d u (sym (ap is_live_role (take_keeps kinds.Block policy want old new at takes d u out)) ∙ live) in
            let same = ap (λ (ds : Devices). live_hits ds list d u) devices in
            omega (arith, was, same, sum)
      ];
  copied = λ d u p copy.
      let was = all.copied d u p (was_copy old new (taken_no_more kinds.Block policy want old new at takes) d u p copy) in
      ap is_live_role (take_keeps kinds.Block policy want old new at takes d u (live_out policy want old new at takes d u was)) ∙ was;
}
all_taken kinds.Meta policy want old new at list takes devices taken all = record {
  used = λ d u is.
      let sum = sum_by-cons (λ (a : Dva). resolve_hits (devices_in new) a d u) at list in
      elim (cases_bool (in_address at d u)) [
        | inl inside ↦ let own = leads_some (devices_in new) at d u (own_taken kinds.Meta new at taken d u inside) in omega (arith, own, sum)
        | inr out ↦
            let was = all.used d u (sym (ap is_current (take_keeps kinds.Meta policy want old new at takes d u out)) ∙ is) in
            let same = ap (λ (ds : Devices). live_hits ds list d u) devices in
            omega (arith, was, same, sum)
      ];
  current = λ d u some.
      let sum = sum_by-cons (λ (a : Dva). resolve_hits (devices_in new) a d u) at list in
      elim (cases_bool (in_address at d u)) [
        | inl inside ↦ ap is_current (taken_role kinds.Meta policy want old new at takes d u inside)
        | inr out ↦
            let none = no_hits kinds.Meta new at taken d u out in
            let same = ap (λ (ds : Devices). live_hits ds list d u) devices in
            ap is_current (take_keeps kinds.Meta policy want old new at takes d u out) ∙ all.current d u (omega (arith, some, none, same, sum))
      ];
}

-- ---- units that are taken and given back

pub all_back : (kind : Kind) (policy : Policy) (want : ℕ) (old mid new : Space) (at : Dva) (txg : ℕ) (list : List Dva) → Takes kind policy want old mid at → devices_in mid ≡ devices_in old → IsTaken kind mid at → GivesBack kind mid new at txg → devices_in new ≡ devices_in mid → IsAll kind old list → IsAll kind new list
all_back kinds.Block policy want old mid new at txg list takes before taken gives after all = record {
  used = λ d u live.
      let ends = give_ends kinds.Block mid new at txg taken.used gives d u live in
      let kept = take_keeps kinds.Block policy want old mid at takes d u (out_of kinds.Block mid at taken d u ends.0) in
      subst (λ (ds : Devices). 0 < live_hits ds list d u) (sym (after ∙ before)) (all.used d u (sym (ap is_live_role (ends.1 ∙ kept)) ∙ live));
  copied = λ d u p copy.
      let between = was_copy mid new (given_no_copy kinds.Block mid new at txg (gives_others kinds.Block mid new at txg taken.used gives) gives) d u p copy in
      let was = all.copied d u p (was_copy old mid (taken_no_more kinds.Block policy want old mid at takes) d u p between) in
      let out = live_out policy want old mid at takes d u was in
      let live : is_live_role (role_at mid d u) ≡ true = ap is_live_role (take_keeps kinds.Block policy want old mid at takes d u out) ∙ was in
      ap is_live_role (give_keeps kinds.Block mid new at txg taken.used gives d u (not_led kinds.Block mid at taken d u out) live) ∙ live;
}
all_back kinds.Meta policy want old mid new at txg list takes before taken gives after all = record {
  used = λ d u is.
      let ends = give_ends kinds.Meta mid new at txg taken.used gives d u (current_meta (role_at new d u) is) in
      let kept = take_keeps kinds.Meta policy want old mid at takes d u (out_of kinds.Meta mid at taken d u ends.0) in
      subst (λ (ds : Devices). 0 < live_hits ds list d u) (sym (after ∙ before)) (all.used d u (sym (ap is_current (ends.1 ∙ kept)) ∙ is));
  current = λ d u some.
      let was = all.current d u (subst (λ (ds : Devices). 0 < live_hits ds list d u) (after ∙ before) some) in
      let out = meta_out policy want old mid at takes d u was in
      let kept = take_keeps kinds.Meta policy want old mid at takes d u out in
      let mine : is_current (role_at mid d u) ≡ true = ap is_current kept ∙ was in
      ap is_current (give_keeps kinds.Meta mid new at txg taken.used gives d u (not_led kinds.Meta mid at taken d u out) (current_meta (role_at mid d u) mine)) ∙ mine;
}

-- ---- a block is given back

if_true : {A : Type 0} (b : Bool) (x y : A) → b ≡ true → (if b then x else y) ≡ x
if_true true x y h = refl
if_true false x y h = cc

if_false : {A : Type 0} (b : Bool) (x y : A) → b ≡ false → (if b then x else y) ≡ y
if_false true x y h = cc
if_false false x y h = refl

some_same : (p q : Place) → Some p ≡ Some q → p ≡ q
some_same p q e = cc

-- the entry of an unmarked unit to which the address leads has put its copy there
image_copied : (s : Space) (a : Dva) (part : DevPart) (source u : ℕ) (e : Entry) → in_source e u ≡ true → has_unit part.fresh u ≡ false → leads_to (devices_in s) a source u ≡ true → leads_to_copied s a part source e.dev (e.dst + (u - e.src)) e ≡ true
image_copied s a part source u e here unmarked led =
    let low : e.src ≤ u = grind (arith, nat_tests, here) in
    let high : u < e.src + e.len = grind (arith, nat_tests, here) in
    let back : e.src + (e.dst + (u - e.src) - e.dst) ≡ u = omega (arith, low) in
    let clear : has_unit part.fresh (e.src + (e.dst + (u - e.src) - e.dst)) ≡ false = ap (has_unit part.fresh) back ∙ unmarked in
    let leads : leads_to (devices_in s) a source (e.src + (e.dst + (u - e.src) - e.dst)) ≡ true = ap (leads_to (devices_in s) a source) back ∙ led in
    let ends : e.dst + (u - e.src) < e.dst + e.len = omega (arith, low, high) in
    grind (arith, nat_tests, clear, leads, ends)

entry_copied : (s : Space) (a : Dva) (part : DevPart) (source u : ℕ) (p : Place) (es : List Entry) → target es u ≡ Some p → has_unit part.fresh u ≡ false → leads_to (devices_in s) a source u ≡ true → list_any (leads_to_copied s a part source p.0 p.1) es ≡ true
entry_copied s a part source u p [] to unmarked led = cc
entry_copied s a part source u p (e ∷ es) to unmarked led =
    let any = list_any-append (leads_to_copied s a part source p.0 p.1) (e ∷ []) es in
    elim (cases_bool (in_source e u)) [
      | inl here ↦
          let is : (e.dev, e.dst + (u - e.src)) ≡ p = some_same (e.dev, e.dst + (u - e.src)) p (sym (if_true (in_source e u) _ _ here) ∙ to) in
          let first : leads_to_copied s a part source p.0 p.1 e ≡ true = subst (λ (q : Place). leads_to_copied s a part source q.0 q.1 e ≡ true) is (image_copied s a part source u e here unmarked led) in
          grind (arith, nat_tests, any, first)
      | inr other ↦
          let rest = entry_copied s a part source u p es (sym (if_false (in_source e u) _ _ other) ∙ to) unmarked led in
          grind (arith, nat_tests, any, rest)
    ]

live_no_copy : (r : Role) → is_live_role r ≡ true → is_copy_role r ≡ false
live_no_copy r is = grind (arith, nat_tests, is)

freed_no_copy : (r : Role) → is_copy_role (freed r) ≡ false
freed_no_copy r = grind (arith, nat_tests)

-- so the copy of a unit that was given back is none
copy_ends : (old new : Space) (a : Dva) (birth : ℕ) → IsInUse kinds.Block old a → GivesBack kinds.Block old new a birth → (d u : ℕ) (p : Place) → IsCopyAt old d u p → leads_to (devices_in old) a d u ≡ true → is_copy_role (role_at new p.0 p.1) ≡ false
copy_ends old new a birth used gives d u p copy led = elim (cases_bool (leads_to (devices_in old) a p.0 p.1)) [
  | inl there ↦ absurd (false_true (sym (live_no_copy (role_at old p.0 p.1) (used.used p.0 p.1 there)) ∙ copy.copy))
  | inr out ↦
      let from : d ≡ 0 + d = omega arith in
      let any = entry_copied old a (part_of old.parts.devs d) d u p (part_of old.parts.devs d).entries copy.leads copy.unmarked led in
      let image : is_copy_of old a p.0 p.1 ≡ true = has_copy old a 0 old.parts.devs p.0 p.1 d copy.leaving (subst (λ (e : ℕ). list_any (leads_to_copied old a (part_of old.parts.devs d) e p.0 p.1) (part_of old.parts.devs d).entries ≡ true) from any) in
      ap is_copy_role (gives.roles p.0 p.1 ∙ if_false (leads_to (devices_in old) a p.0 p.1) _ _ out ∙ if_true (is_copy_of old a p.0 p.1) _ _ image) ∙ freed_no_copy (role_at old p.0 p.1)
]

pub all_freed : (kind : Kind) (old new : Space) (a : Dva) (birth : ℕ) (all left : List Dva) → devices_in new ≡ devices_in old → IsInUse kind old a → GivesBack kind old new a birth → Parts all left a
    → ((d u : ℕ) → live_hits (devices_in old) all d u ≤ 1) → IsAll kind old all → IsAll kind new left
all_freed kinds.Block old new a birth list left devices used gives parts once all = record {
  used = λ d u live.
      let ends = give_ends kinds.Block old new a birth used gives d u live in
      let was = all.used d u (sym (ap is_live_role ends.1) ∙ live) in
      let sum = parts (λ (x : Dva). resolve_hits (devices_in old) x d u) in
      let same = ap (λ (ds : Devices). live_hits ds left d u) devices in
      elim (zero_or (resolve_hits (devices_in old) a d u)) [
        | inl none ↦ omega (arith, was, sum, same, none)
        | inr more ↦ absurd (false_true (sym ends.0 ∙ some_leads (devices_in old) a d u more))
      ];
  copied = λ d u p copy.
      let was = was_copy old new (given_no_copy kinds.Block old new a birth (gives_others kinds.Block old new a birth used gives) gives) d u p copy in
      let live = all.copied d u p was in
      elim (cases_bool (leads_to (devices_in old) a d u)) [
        | inl led ↦ absurd (false_true (sym (copy_ends old new a birth used gives d u p was led) ∙ copy.copy))
        | inr out ↦ ap is_live_role (give_keeps kinds.Block old new a birth used gives d u out live) ∙ live
      ];
}
all_freed kinds.Meta old new a birth list left devices used gives parts once all = record {
  used = λ d u is.
      let ends = give_ends kinds.Meta old new a birth used gives d u (current_meta (role_at new d u) is) in
      let was = all.used d u (sym (ap is_current ends.1) ∙ is) in
      let sum = parts (λ (x : Dva). resolve_hits (devices_in old) x d u) in
      let same = ap (λ (ds : Devices). live_hits ds left d u) devices in
      elim (zero_or (resolve_hits (devices_in old) a d u)) [
        | inl none ↦ omega (arith, was, sum, same, none)
        | inr more ↦ absurd (false_true (sym ends.0 ∙ some_leads (devices_in old) a d u more))
      ];
  current = λ d u some.
      let sum = parts (λ (x : Dva). resolve_hits (devices_in old) x d u) in
      let same = ap (λ (ds : Devices). live_hits ds left d u) devices in
      let few = once d u in
      let mine = all.current d u (omega (arith, some, sum, same)) in
      let none : resolve_hits (devices_in old) a d u ≡ 0 = omega (arith, some, sum, same, few) in
      elim (cases_bool (leads_to (devices_in old) a d u)) [
        | inl led ↦ absurd (let more = leads_some (devices_in old) a d u led in omega (arith, more, none))
        | inr out ↦ ap is_current (give_keeps kinds.Meta old new a birth used gives d u out (current_meta (role_at old d u) mine)) ∙ mine
      ];
}
