-- Where units lead and what they pass, a step at a time: with more devices to go over than come after, more do not matter.
use Rattle.std.proofs.Common.{◌≡◌, ℕ, zero, suc, ◌+◌, ◌-◌, ◌<◌, ◌≤◌, ◌⊎◌, Bool, true, false, ◌&&◌, ◌||◌, nat_lt, nat_le, List, [], ◌∷◌, inl, inr, refl, sym, ap, subst, ◌∙◌, arith, ⊎_elim, Option, Some, None}
use Rattle.std.specs.Prelude.{if◌then◌else◌, option_and_then}
use Rattle.std.specs.List.{AllByRecursion, list_any}
use Rattle.std.proofs.lemmas.Bool.Decides.{nat_tests}
use Rattle.std.proofs.lemmas.List.{append-nil}
use Rattle.std.proofs.lemmas.List.Elements.{recursion_from_All}
use Rattle.zr_base.specs.declared.space.Entry.{Entry}
use Rattle.zr_rules.specs.Places.{Place, is_gone, is_place}
use Rattle.zr_rules.specs.Devices.{Devices, state_at}
use Rattle.zr_rules.specs.Mappings.{target, in_source}
use Rattle.zr_rules.specs.Resolve.{IsDestination, IsRanked, is_there, resolve, resolved, passed, passed_units}
use Rattle.zr_chain.proofs.Ranks.{later_count, fewer_after, few_after, destination_after}

pub and_left_of : (x y : Bool) → (x && y) ≡ true → x ≡ true
and_left_of true y h = refl
and_left_of false y h = absurd (cc)

pub and_right_of : (x y : Bool) → (x && y) ≡ true → y ≡ true
and_right_of true y h = h
and_right_of false y h = absurd (cc)

pub leb-le : (a b : ℕ) → nat_le a b ≡ true → a ≤ b
leb-le a b h = grind (arith, nat_tests)

pub ltb-lt : (a b : ℕ) → nat_lt a b ≡ true → a < b
ltb-lt a b h = grind (arith, nat_tests)

pub cases_bool : (b : Bool) → (b ≡ true) ⊎ (b ≡ false)
cases_bool true = inl refl
cases_bool false = inr refl

pub if_same : {A : Type 0} (b : Bool) (x y z : A) → (b ≡ true → x ≡ y) → (if b then x else z) ≡ (if b then y else z)
if_same true x y z h = h refl
if_same false x y z h = refl

pub then_same : (o : Option Place) (f g : Place → Option Place) → ((p : Place) → o ≡ Some p → f p ≡ g p) → option_and_then f o ≡ option_and_then g o
then_same None f g h = refl
then_same (Some p) f g h = h p refl

-- what holds of each entry holds of the one that says where a unit went
pub record IsTarget (P : Entry → Type 0) (p : Place) : Type 0 where
  pub entry : Entry
  pub holds : P entry
  pub device : entry.dev ≡ p.0
  pub from : entry.dst ≤ p.1
  pub within : p.1 < entry.dst + entry.len

pub target_entry : (P : Entry → Type 0) (es : List Entry) (u : ℕ) (p : Place) → AllByRecursion P es → target es u ≡ Some p → IsTarget P p
target_entry P [] u p all is = absurd (cc)
target_entry P (e ∷ es) u p all is = ⊎_elim
    (λ got.
    let step : (if in_source e u then Some (e.dev, e.dst + (u - e.src)) else target es u) ≡ Some (e.dev, e.dst + (u - e.src)) = rw got refl in
    let same : Some (e.dev, e.dst + (u - e.src)) ≡ Some p = sym step ∙ is in
    let device : e.dev ≡ p.0 = cc in
    let place : e.dst + (u - e.src) ≡ p.1 = cc in
    let starts : e.src ≤ u = leb-le e.src u (and_left_of (nat_le e.src u) (nat_lt u (e.src + e.len)) got) in
    let ends : u < e.src + e.len = ltb-lt u (e.src + e.len) (and_right_of (nat_le e.src u) (nat_lt u (e.src + e.len)) got) in
    record { entry = e; holds = all.0; device = device; from = omega arith; within = omega arith })
    (λ not_it.
    let step : (if in_source e u then Some (e.dev, e.dst + (u - e.src)) else target es u) ≡ target es u = rw not_it refl in
    target_entry P es u p all.1 (sym step ∙ is))
    (cases_bool (in_source e u))

-- where a unit of a removed device went: to a known device that comes after, within its units
pub record IsStep (ds : Devices) (d : ℕ) (p : Place) : Type 0 where
  pub known : p.0 < ds.count
  pub fewer : later_count ds p.0 < later_count ds d
  pub within : p.1 < (ds.row p.0).units

pub step_of : (ds : Devices) (d u : ℕ) (p : Place) → IsRanked ds → is_gone (state_at ds d) ≡ true → target (ds.entries d) u ≡ Some p → IsStep ds d p
step_of ds d u p ranked gone is =
    let at : IsTarget (IsDestination ds d) p = target_entry (IsDestination ds d) (ds.entries d) u p (recursion_from_All (IsDestination ds d) (ds.entries d) (ranked d)) is in
    let after = destination_after ds d at.entry gone at.holds in
    let units : at.entry.dst + at.entry.len ≤ (ds.row p.0).units = subst (λ (t : ℕ). at.entry.dst + at.entry.len ≤ (ds.row t).units) at.device at.holds.within in
    record {
      known = subst (λ (t : ℕ). t < ds.count) at.device at.holds.known;
      fewer = subst (λ (t : ℕ). later_count ds t < later_count ds d) at.device (fewer_after ds d at.entry.dev at.holds.known after);
      within = omega (arith, at.within);
    }

-- ---- where a unit leads

pub resolve_more : (ds : Devices) (h d u : ℕ) → IsRanked ds → later_count ds d < h → resolve (suc h) ds d u ≡ resolve h ds d u
resolve_more ds zero d u ranked lt = absurd (omega arith)
resolve_more ds (suc h) d u ranked lt =
    if_same (is_gone (state_at ds d)) _ _ _
    (λ gone. then_same (target (ds.entries d) u) (λ (p : Place). resolve (suc h) ds p.0 p.1) (λ (p : Place). resolve h ds p.0 p.1)
    (λ p is. let step = step_of ds d u p ranked gone is in resolve_more ds h p.0 p.1 ranked (omega (arith, step.fewer))))

resolve_step : (ds : Devices) (n d u : ℕ) → IsRanked ds → later_count ds d < n → is_gone (state_at ds d) ≡ true → resolve n ds d u ≡ option_and_then (λ (p : Place). resolve n ds p.0 p.1) (target (ds.entries d) u)
resolve_step ds zero d u ranked lt gone = absurd (omega arith)
resolve_step ds (suc h) d u ranked lt gone =
    rw gone
    (then_same (target (ds.entries d) u) (λ (p : Place). resolve h ds p.0 p.1) (λ (p : Place). resolve (suc h) ds p.0 p.1)
    (λ p is. let step = step_of ds d u p ranked gone is in sym (resolve_more ds h p.0 p.1 ranked (omega (arith, step.fewer)))))

-- a unit of a removed device leads to where its mapping's unit leads
pub resolved_gone : (ds : Devices) (d u : ℕ) → IsRanked ds → d < ds.count → is_gone (state_at ds d) ≡ true → resolved ds d u ≡ option_and_then (λ (p : Place). resolved ds p.0 p.1) (target (ds.entries d) u)
resolved_gone ds d u ranked known gone = resolve_step ds ds.count d u ranked (few_after ds d known) gone

resolve_there : (ds : Devices) (n d u : ℕ) → 0 < n → is_gone (state_at ds d) ≡ false → is_there ds d u ≡ true → resolve n ds d u ≡ Some (d, u)
resolve_there ds zero d u some there within = absurd (omega arith)
resolve_there ds (suc n) d u some there within = rw (there, within) refl

there_test : (a b c d : ℕ) → a < b → c < d → (nat_lt a b && nat_lt c d) ≡ true
there_test a b c d h k = grind (arith, nat_tests)

-- a unit of a device that is there leads to itself
pub resolved_there : (ds : Devices) (d u : ℕ) → d < ds.count → is_gone (state_at ds d) ≡ false → u < (ds.row d).units → resolved ds d u ≡ Some (d, u)
resolved_there ds d u known there within = resolve_there ds ds.count d u (omega arith) there (there_test d ds.count u (ds.row d).units known within)

-- ---- what a unit passes

pub cases_option : {A : Type 0} (o : Option A) → (o ≡ None) ⊎ ((x : A) × (o ≡ Some x))
cases_option None = inl refl
cases_option (Some x) = inr (x, refl)

passed_some : (ds : Devices) (h d u : ℕ) (p : Place) → is_gone (state_at ds d) ≡ true → target (ds.entries d) u ≡ Some p → passed (suc h) ds d u ≡ (d, u) ∷ passed h ds p.0 p.1
passed_some ds h d u p gone is = rw (gone, is) (ap (λ (t : List Place). (d, u) ∷ t) (append-nil (passed h ds p.0 p.1)))

passed_none : (ds : Devices) (h d u : ℕ) → is_gone (state_at ds d) ≡ true → target (ds.entries d) u ≡ None → passed (suc h) ds d u ≡ (d, u) ∷ []
passed_none ds h d u gone is = rw (gone, is) refl

passed_stop : (ds : Devices) (n d u : ℕ) → is_gone (state_at ds d) ≡ false → passed n ds d u ≡ []
passed_stop ds zero d u there = refl
passed_stop ds (suc n) d u there = rw there refl

pub passed_more : (ds : Devices) (h d u : ℕ) → IsRanked ds → later_count ds d < h → passed (suc h) ds d u ≡ passed h ds d u
passed_more ds zero d u ranked lt = absurd (omega arith)
passed_more ds (suc h) d u ranked lt = ⊎_elim
    (λ gone. ⊎_elim
    (λ nothing. passed_none ds (suc h) d u gone nothing ∙ sym (passed_none ds h d u gone nothing))
    (λ (p : (p : Place) × (target (ds.entries d) u ≡ Some p)).
    let step = step_of ds d u p.0 ranked gone p.1 in
    passed_some ds (suc h) d u p.0 gone p.1
    ∙ (ap (λ (t : List Place). (d, u) ∷ t) (passed_more ds h p.0.0 p.0.1 ranked (omega (arith, step.fewer))) ∙ sym (passed_some ds h d u p.0 gone p.1)))
    (cases_option (target (ds.entries d) u)))
    (λ there. passed_stop ds (suc (suc h)) d u there ∙ sym (passed_stop ds (suc h) d u there))
    (cases_bool (is_gone (state_at ds d)))

passed_step : (ds : Devices) (n d u : ℕ) (p : Place) → IsRanked ds → later_count ds d < n → is_gone (state_at ds d) ≡ true → target (ds.entries d) u ≡ Some p → passed n ds d u ≡ (d, u) ∷ passed n ds p.0 p.1
passed_step ds zero d u p ranked lt gone is = absurd (omega arith)
passed_step ds (suc h) d u p ranked lt gone is =
    let step = step_of ds d u p ranked gone is in
    passed_some ds h d u p gone is ∙ ap (λ (t : List Place). (d, u) ∷ t) (sym (passed_more ds h p.0 p.1 ranked (omega (arith, step.fewer))))

-- a unit of a removed device passes itself, and what its mapping's unit passes
pub passed_gone : (ds : Devices) (d u : ℕ) (p : Place) → IsRanked ds → d < ds.count → is_gone (state_at ds d) ≡ true → target (ds.entries d) u ≡ Some p → passed_units ds d u ≡ (d, u) ∷ passed_units ds p.0 p.1
passed_gone ds d u p ranked known gone is = passed_step ds ds.count d u p ranked (few_after ds d known) gone is

pub passed_there : (ds : Devices) (d u : ℕ) → is_gone (state_at ds d) ≡ false → passed_units ds d u ≡ []
passed_there ds d u there = passed_stop ds ds.count d u there

itself : (d u : ℕ) → is_place (d, u) d u ≡ true
itself d u = grind (arith, nat_tests)

any_first : (x y : Bool) → x ≡ true → (x || y) ≡ true
any_first true y h = refl
any_first false y h = absurd (cc)

passes_first : (ds : Devices) (n d u : ℕ) → 0 < n → is_gone (state_at ds d) ≡ true → list_any (λ q. is_place q d u) (passed n ds d u) ≡ true
passes_first ds zero d u some gone = absurd (omega arith)
passes_first ds (suc n) d u some gone = rw gone (any_first _ _ (itself d u))

pub passes_itself : (ds : Devices) (d u : ℕ) → d < ds.count → is_gone (state_at ds d) ≡ true → list_any (λ q. is_place q d u) (passed_units ds d u) ≡ true
passes_itself ds d u known gone = passes_first ds ds.count d u (omega arith) gone
