-- Where addresses lead, and what they pass on the way.
use Rattle.std.proofs.Common.{◌≡◌, ◌⊎◌, inl, inr, ℕ, zero, suc, ◌+◌, ◌-◌, ◌<◌, ◌≤◌, ◌==◌, ◌&&◌, Bool, true, false, nat_le, nat_lt, List, [], ◌∷◌, map, Option, Some, None, refl, sym, ◌∙◌, ap, subst, arith}
use Rattle.std.specs.Prelude.{All, is_some, option_and_then}
use Rattle.std.specs.List.{range_with_len, sum_by}
use Rattle.std.proofs.lemmas.List.{append-nil}
use Rattle.std.proofs.lemmas.List.Sums.{sum_by-cons}
use Rattle.std.proofs.lemmas.List.Elements.{All-head, All-tail}
use Rattle.std.proofs.lemmas.Bool.Decides.{nat_tests}
use Rattle.zr_base.specs.declared.space.Dva.{Dva}
use Rattle.zr_chain.proofs.Ways.{cases_bool}
use Rattle.zr_rules.specs.Places.{Place, one_if, is_gone, is_place, in_address, address_hits}
use Rattle.zr_rules.specs.Devices.{Devices, state_at}
use Rattle.zr_rules.specs.Mappings.{target}
use Rattle.zr_rules.specs.Resolve.{resolve, resolved, passed, passed_units, is_there, is_at, is_resolved, leads_to, resolve_hits, pass_hits}
use Rattle.zr_rules.specs.Equation.{live_hits, way_hits}
use Rattle.zr_space.proofs.Leads.{leads_within, passes_none}
use Rattle.zr_space.proofs.Paths.{nowhere}
use Rattle.zr_space.proofs.Freeables.{leads_each, there_of}
use Rattle.zr_space.proofs.Freeing.{leads_hits}

pub false_true : false ≡ true → ⊥
false_true e = cc

pub zero_or : (n : ℕ) → (n ≡ 0) ⊎ (0 < n)
zero_or zero = inl refl
zero_or (suc n) = inr (omega arith)

pub some_or : (o : Option Place) → is_some o ≡ true → (p : Place) × (o ≡ Some p)
some_or None is = cc
some_or (Some p) is = (p, refl)

-- ---- more hops lead nowhere else

then_leads : (f g : Place → Option Place) (o : Option Place) (p : Place) → ((q : Place) → f q ≡ Some p → g q ≡ Some p) → option_and_then f o ≡ Some p → option_and_then g o ≡ Some p
then_leads f g None p more is = cc
then_leads f g (Some q) p more is = more q is

step_gone : (n : ℕ) (ds : Devices) (d u : ℕ) → is_gone (state_at ds d) ≡ true → resolve (suc n) ds d u ≡ option_and_then (λ (q : Place). resolve n ds q.0 q.1) (target (ds.entries d) u)
step_gone n ds d u gone = rw gone refl

step_there : (n m : ℕ) (ds : Devices) (d u : ℕ) → is_gone (state_at ds d) ≡ false → resolve (suc n) ds d u ≡ resolve (suc m) ds d u
step_there n m ds d u there = rw there refl

resolve_more : (n : ℕ) (ds : Devices) (d u : ℕ) (p : Place) → resolve n ds d u ≡ Some p → resolve (suc n) ds d u ≡ Some p
resolve_more zero ds d u p is = cc
resolve_more (suc n) ds d u p is = elim (cases_bool (is_gone (state_at ds d))) [
  | inl gone ↦
      step_gone (suc n) ds d u gone
      ∙ then_leads (λ (q : Place). resolve n ds q.0 q.1) (λ (q : Place). resolve (suc n) ds q.0 q.1) (target (ds.entries d) u) p (λ q more. resolve_more n ds q.0 q.1 p more) (sym (step_gone n ds d u gone) ∙ is)
  | inr there ↦ step_there (suc n) n ds d u there ∙ is
]

resolve_up : (k n : ℕ) (ds : Devices) (d u : ℕ) (p : Place) → resolve n ds d u ≡ Some p → resolve (n + k) ds d u ≡ Some p
resolve_up zero n ds d u p is = let e : n ≡ n + zero = omega arith in subst (λ (m : ℕ). resolve m ds d u ≡ Some p) e is
resolve_up (suc k) n ds d u p is = let e : suc (n + k) ≡ n + suc k = omega arith in subst (λ (m : ℕ). resolve m ds d u ≡ Some p) e (resolve_more (n + k) ds d u p (resolve_up k n ds d u p is))

-- ---- a unit that is passed leads where the one that passes it does

-- how often a unit passes a place over at most so many devices
abbrev way : ℕ → Devices → ℕ → ℕ → ℕ → ℕ → ℕ
way n ds e w d u = sum_by (λ (q : Place). one_if (is_place q e w)) (passed n ds d u)

-- the place is on a device that is gone, and leads on within so many hops
pub record IsPassed (ds : Devices) (n e w : ℕ) (p : Place) : Type 0 where
  pub hops : ℕ
  pub few : hops ≤ n
  pub leads : resolve hops ds e w ≡ Some p
  pub gone : is_gone (state_at ds e) ≡ true

way_there : (n : ℕ) (ds : Devices) (e w d u : ℕ) → is_gone (state_at ds d) ≡ false → way n ds e w d u ≡ 0
way_there n ds e w d u there = ap (λ (ps : List Place). sum_by (λ (q : Place). one_if (is_place q e w)) ps) (passes_none n ds d u there)

passed_next : (n : ℕ) (ds : Devices) (d u : ℕ) (q : Place) → is_gone (state_at ds d) ≡ true → target (ds.entries d) u ≡ Some q → passed (suc n) ds d u ≡ (d, u) ∷ passed n ds q.0 q.1
passed_next n ds d u q gone to = rw (gone, to) (ap (λ (t : List Place). (d, u) ∷ t) (append-nil (passed n ds q.0 q.1)))

way_next : (n : ℕ) (ds : Devices) (e w d u : ℕ) (q : Place) → is_gone (state_at ds d) ≡ true → target (ds.entries d) u ≡ Some q → way (suc n) ds e w d u ≡ one_if (is_place (d, u) e w) + way n ds e w q.0 q.1
way_next n ds e w d u q gone to =
    ap (λ (ps : List Place). sum_by (λ (p : Place). one_if (is_place p e w)) ps) (passed_next n ds d u q gone to)
    ∙ sum_by-cons (λ (p : Place). one_if (is_place p e w)) (d, u) (passed n ds q.0 q.1)

none_some : (p : Place) → None ≡ Some p → ⊥
none_some p e = cc

option_or : (o : Option Place) → (o ≡ None) ⊎ ((q : Place) × (o ≡ Some q))
option_or None = inl refl
option_or (Some q) = inr (q, refl)

way_leads : (n : ℕ) (ds : Devices) (d u e w : ℕ) (p : Place) → resolve n ds d u ≡ Some p → 0 < way n ds e w d u → IsPassed ds n e w p
way_leads zero ds d u e w p is some = cc
way_leads (suc n) ds d u e w p is some = elim (cases_bool (is_gone (state_at ds d))) [
  | inr there ↦ let none = way_there (suc n) ds e w d u there in absurd (omega (arith, some, none))
  | inl gone ↦ elim (option_or (target (ds.entries d) u)) [
    | inl none ↦ absurd (none_some p (sym (step_gone n ds d u gone ∙ ap (option_and_then (λ (q : Place). resolve n ds q.0 q.1)) none) ∙ is))
    | inr to ↦
        let next = way_next n ds e w d u to.0 gone to.1 in
        let leads : resolve n ds to.0.0 to.0.1 ≡ Some p = sym (step_gone n ds d u gone ∙ ap (option_and_then (λ (q : Place). resolve n ds q.0 q.1)) to.1) ∙ is in
        elim (cases_bool (is_place (d, u) e w)) [
          | inl here ↦
              let dev : d ≡ e = grind (arith, nat_tests, here) in
              let unit : u ≡ w = grind (arith, nat_tests, here) in
              record {
                hops = suc n;
                few = omega arith;
                leads = subst (λ (x : ℕ). resolve (suc n) ds x w ≡ Some p) dev (subst (λ (x : ℕ). resolve (suc n) ds d x ≡ Some p) unit is);
                gone = subst (λ (x : ℕ). is_gone (state_at ds x) ≡ true) dev gone;
              }
          | inr other ↦
              let none : one_if (is_place (d, u) e w) ≡ 0 = ap one_if other in
              let rest = way_leads n ds to.0.0 to.0.1 e w p leads (omega (arith, some, next, none)) in
              let few = rest.few in
              record { hops = rest.hops; few = omega (arith, few); leads = rest.leads; gone = rest.gone }
        ]
  ]
]

-- ---- the units of addresses

-- how many of the units lead to a place
abbrev led : Devices → ℕ → ℕ → ℕ → ℕ → ℕ → ℕ
led ds dev from n d u = sum_by (λ (q : Option Place). one_if (is_at q d u)) (map (λ (p : Place). resolved ds p.0 p.1) (map (λ (v : ℕ). (dev, v)) (range_with_len from n)))

led-next : (ds : Devices) (dev from n d u : ℕ) → led ds dev from (suc n) d u ≡ one_if (is_at (resolved ds dev from) d u) + led ds dev (from + 1) n d u
led-next ds dev from n d u = sum_by-cons (λ (q : Option Place). one_if (is_at q d u)) (resolved ds dev from) (map (λ (p : Place). resolved ds p.0 p.1) (map (λ (v : ℕ). (dev, v)) (range_with_len (from + 1) n)))

at_itself : (o : Option Place) (p : Place) → o ≡ Some p → one_if (is_at o p.0 p.1) ≡ 1
at_itself o p is = ap (λ (x : Option Place). one_if (is_at x p.0 p.1)) is ∙ grind (arith, nat_tests)

-- units that pass a place lead where it leads
pub record LeadsOn (ds : Devices) (hits : ℕ → ℕ → ℕ) (e w : ℕ) : Type 0 where
  pub place : Place
  pub leads : resolved ds e w ≡ Some place
  pub some : 0 < hits place.0 place.1
  pub gone : is_gone (state_at ds e) ≡ true

units_lead : (ds : Devices) (dev from n e w : ℕ) → ((v : ℕ) → from ≤ v → v < from + n → is_some (resolved ds dev v) ≡ true)
    → 0 < sum_by (λ (p : Place). sum_by (λ (q : Place). one_if (is_place q e w)) (passed_units ds p.0 p.1)) (map (λ (v : ℕ). (dev, v)) (range_with_len from n)) → LeadsOn ds (led ds dev from n) e w
units_lead ds dev from zero e w all some = absurd (omega (arith, some))
units_lead ds dev from (suc n) e w all some =
    let sum = sum_by-cons (λ (p : Place). sum_by (λ (q : Place). one_if (is_place q e w)) (passed_units ds p.0 p.1)) (dev, from) (map (λ (v : ℕ). (dev, v)) (range_with_len (from + 1) n)) in
    elim (zero_or (way ds.count ds e w dev from)) [
      | inl none ↦
          let rest = units_lead ds dev (from + 1) n e w (λ v le lt. all v (omega (arith, le)) (omega (arith, lt))) (omega (arith, some, sum, none)) in
          let hit = rest.some in
          record { place = rest.place; leads = rest.leads; some = omega (arith, hit, led-next ds dev from n rest.place.0 rest.place.1); gone = rest.gone }
      | inr more ↦
          let to = some_or (resolved ds dev from) (all from (omega arith) (omega arith)) in
          let is = way_leads ds.count ds dev from e w to.0 to.1 more in
          let few = is.few in
          let one = at_itself (resolved ds dev from) to.0 to.1 in
          record {
            place = to.0;
            leads = let all : is.hops + (ds.count - is.hops) ≡ ds.count = omega (arith, few) in subst (λ (m : ℕ). resolve m ds e w ≡ Some to.0) all (resolve_up (ds.count - is.hops) is.hops ds e w to.0 is.leads);
            some = omega (arith, one, led-next ds dev from n to.0.0 to.0.1);
            gone = is.gone;
          }
    ]

-- each unit of an address that resolves leads somewhere
pub each_leads : (ds : Devices) (a : Dva) → is_resolved ds a ≡ true → (v : ℕ) → a.start ≤ v → v < a.start + a.len → is_some (resolved ds a.dev v) ≡ true
each_leads ds a all v ge lt =
    let at : a.start + (v - a.start) ≡ v = omega (arith, ge) in
    ap (λ (i : ℕ). is_some (resolved ds a.dev i)) (sym at) ∙ leads_each ds a all (v - a.start) (omega (arith, ge, lt))

abbrev pub Resolves : Devices → Dva → Type 0
Resolves ds a = is_resolved ds a ≡ true

-- addresses that pass a place lead where it leads
pub ways_lead : (ds : Devices) (live : List Dva) (e w : ℕ) → All (Resolves ds) live → 0 < way_hits ds live e w → LeadsOn ds (live_hits ds live) e w
ways_lead ds [] e w all some = absurd (omega (arith, some))
ways_lead ds (a ∷ more) e w all some =
    let sum = sum_by-cons (λ (x : Dva). pass_hits ds x e w) a more in
    elim (zero_or (pass_hits ds a e w)) [
      | inl none ↦
          let rest = ways_lead ds more e w (All-tail (Resolves ds) a more all) (omega (arith, some, sum, none)) in
          let hit = rest.some in
          record { place = rest.place; leads = rest.leads; some = omega (arith, hit, sum_by-cons (λ (x : Dva). resolve_hits ds x rest.place.0 rest.place.1) a more); gone = rest.gone }
      | inr it ↦
          let first = units_lead ds a.dev a.start a.len e w (each_leads ds a (All-head (Resolves ds) a more all)) it in
          let hit = first.some in
          record { place = first.place; leads = first.leads; some = omega (arith, hit, sum_by-cons (λ (x : Dva). resolve_hits ds x first.place.0 first.place.1) a more); gone = first.gone }
    ]

-- ---- the units of an address themselves

-- an address that has a unit leads where it leads
unit_leads : (ds : Devices) (dev from n d u : ℕ) (p : Place) → resolved ds d u ≡ Some p → one_if (dev == d && (nat_le from u && nat_lt u (from + n))) ≤ led ds dev from n p.0 p.1
unit_leads ds dev from zero d u p to = grind (arith, nat_tests)
unit_leads ds dev from (suc n) d u p to =
    let rest = unit_leads ds dev (from + 1) n d u p to in
    let sum = led-next ds dev from n p.0 p.1 in
    by (is_place (dev, from) d u) refl rest sum
  where
    by : (b : Bool) → is_place (dev, from) d u ≡ b → one_if (dev == d && (nat_le (from + 1) u && nat_lt u (from + 1 + n))) ≤ led ds dev (from + 1) n p.0 p.1 → led ds dev from (suc n) p.0 p.1 ≡ one_if (is_at (resolved ds dev from) p.0 p.1) + led ds dev (from + 1) n p.0 p.1
        → one_if (dev == d && (nat_le from u && nat_lt u (from + suc n))) ≤ led ds dev from (suc n) p.0 p.1
    by true here rest sum =
        let dev_is : d ≡ dev = grind (arith, nat_tests, here) in
        let unit : u ≡ from = grind (arith, nat_tests, here) in
        let one = at_itself (resolved ds dev from) p (subst (λ (x : ℕ). resolved ds x from ≡ Some p) dev_is (subst (λ (x : ℕ). resolved ds d x ≡ Some p) unit to)) in
        let most = one_most (dev == d && (nat_le from u && nat_lt u (from + suc n))) in
        omega (arith, one, sum, most)
      where
        one_most : (b : Bool) → one_if b ≤ 1
        one_most true = omega arith
        one_most false = omega arith
    by false other rest sum =
        let same : one_if (dev == d && (nat_le from u && nat_lt u (from + suc n))) ≡ one_if (dev == d && (nat_le (from + 1) u && nat_lt u (from + 1 + n))) = grind (arith, nat_tests, other) in
        omega (arith, rest, sum, same)

pub address_leads : (ds : Devices) (a : Dva) (d u : ℕ) (p : Place) → resolved ds d u ≡ Some p → one_if (in_address a d u) ≤ resolve_hits ds a p.0 p.1
address_leads ds a d u p to = unit_leads ds a.dev a.start a.len d u p to

addresses_lead : (ds : Devices) (live : List Dva) (d u : ℕ) (p : Place) → resolved ds d u ≡ Some p → address_hits live d u ≤ live_hits ds live p.0 p.1
addresses_lead ds [] d u p to = omega arith
addresses_lead ds (a ∷ more) d u p to =
    let first = address_leads ds a d u p to in
    let rest = addresses_lead ds more d u p to in
    omega (arith, first, rest, sum_by-cons (λ (x : Dva). one_if (in_address x d u)) a more, sum_by-cons (λ (x : Dva). resolve_hits ds x p.0 p.1) a more)

-- a unit of an address that resolves leads somewhere
pub inside_leads : (ds : Devices) (a : Dva) (d u : ℕ) → is_resolved ds a ≡ true → in_address a d u ≡ true → is_some (resolved ds d u) ≡ true
inside_leads ds a d u all is =
    let dev : a.dev ≡ d = grind (arith, nat_tests, is) in
    let low : a.start ≤ u = grind (arith, nat_tests, is) in
    let high : u < a.start + a.len = grind (arith, nat_tests, is) in
    subst (λ (x : ℕ). is_some (resolved ds x u) ≡ true) dev (each_leads ds a all u low high)

none_inside : (ds : Devices) (live : List Dva) (d u : ℕ) → All (Resolves ds) live → resolved ds d u ≡ None → address_hits live d u ≡ 0
none_inside ds [] d u all none = refl
none_inside ds (a ∷ more) d u all none =
    let rest = none_inside ds more d u (All-tail (Resolves ds) a more all) none in
    let sum = sum_by-cons (λ (x : Dva). one_if (in_address x d u)) a more in
    by (in_address a d u) refl rest sum
  where
    by : (b : Bool) → in_address a d u ≡ b → address_hits more d u ≡ 0 → address_hits (a ∷ more) d u ≡ one_if (in_address a d u) + address_hits more d u → address_hits (a ∷ more) d u ≡ 0
    by true is rest sum = absurd (false_true (sym (ap (λ (o : Option Place). is_some o) none) ∙ inside_leads ds a d u (All-head (Resolves ds) a more all) is))
    by false is rest sum = let z = ap one_if is in omega (arith, rest, sum, z)

-- no unit is in two addresses where none is led to twice
pub apart_units : (ds : Devices) (live : List Dva) → All (Resolves ds) live → ((d u : ℕ) → live_hits ds live d u ≤ 1) → (d u : ℕ) → address_hits live d u ≤ 1
apart_units ds live all once d u = by (resolved ds d u) refl
  where
    by : (o : Option Place) → resolved ds d u ≡ o → address_hits live d u ≤ 1
    by None none = let z = none_inside ds live d u all none in omega (arith, z)
    by (Some p) to = let few = addresses_lead ds live d u p to in let one = once p.0 p.1 in omega (arith, few, one)

-- ---- an address on a device that is not gone leads to its own units

module _ (ds : Devices) (dev : ℕ) (stays : is_gone (state_at ds dev) ≡ false) where
  pub own_unit : (u : ℕ) → is_some (resolved ds dev u) ≡ true → resolved ds dev u ≡ Some (dev, u)
  own_unit u some =
      let there = there_of ds dev u stays some in
      let known : dev < ds.count = grind (arith, nat_tests, there) in
      leads_within ds.count ds dev u (omega (arith, known)) stays there

  pub own_within : (u : ℕ) → dev < ds.count → u < (ds.row dev).units → resolved ds dev u ≡ Some (dev, u)
  own_within u known lt = leads_within ds.count ds dev u (omega (arith, known)) stays (grind (arith, nat_tests, known, lt))

  own_or : (v : ℕ) → (resolved ds dev v ≡ None) ⊎ (resolved ds dev v ≡ Some (dev, v))
  own_or v = by (is_there ds dev v) refl
    where
      by : (b : Bool) → is_there ds dev v ≡ b → (resolved ds dev v ≡ None) ⊎ (resolved ds dev v ≡ Some (dev, v))
      by true is = let known : dev < ds.count = grind (arith, nat_tests, is) in inr (leads_within ds.count ds dev v (omega (arith, known)) stays is)
      by false is = inl (nowhere ds.count ds dev v stays is)

  inside_some : (from n d u : ℕ) → 0 < led ds dev from n d u → (dev == d && (nat_le from u && nat_lt u (from + n))) ≡ true
  inside_some from zero d u some = absurd (omega (arith, some))
  inside_some from (suc n) d u some =
      let sum = led-next ds dev from n d u in
      elim (own_or from) [
        | inl none ↦
            let first : one_if (is_at (resolved ds dev from) d u) ≡ 0 = ap (λ (p : Option Place). one_if (is_at p d u)) none in
            let rest = inside_some (from + 1) n d u (omega (arith, some, sum, first)) in
            grind (arith, nat_tests, rest)
        | inr itself ↦
            let first : one_if (is_at (resolved ds dev from) d u) ≡ one_if (is_place (dev, from) d u) = ap (λ (p : Option Place). one_if (is_at p d u)) itself in
            elim (cases_bool (is_place (dev, from) d u)) [
              | inl here ↦ grind (arith, nat_tests, here)
              | inr other ↦
                  let z = ap one_if other in
                  let rest = inside_some (from + 1) n d u (omega (arith, some, sum, first, z)) in
                  grind (arith, nat_tests, rest)
            ]
      ]

-- how often a list has what is tested is more than nothing where it has it
pub leads_some : (ds : Devices) (a : Dva) (d u : ℕ) → leads_to ds a d u ≡ true → 0 < resolve_hits ds a d u
leads_some ds a d u is = let e = leads_hits ds a d u in grind (arith, nat_tests, is, e)

pub some_leads : (ds : Devices) (a : Dva) (d u : ℕ) → 0 < resolve_hits ds a d u → leads_to ds a d u ≡ true
some_leads ds a d u is = let e = leads_hits ds a d u in grind (arith, nat_tests, is, e)

module _ (ds : Devices) (a : Dva) (stays : is_gone (state_at ds a.dev) ≡ false) where
  pub leads_own : (d u : ℕ) → leads_to ds a d u ≡ true → in_address a d u ≡ true
  leads_own d u is = inside_some ds a.dev stays a.start a.len d u (leads_some ds a d u is)

  pub not_own : (d u : ℕ) → in_address a d u ≡ false → leads_to ds a d u ≡ false
  not_own d u out = by (leads_to ds a d u) refl
    where
      by : (b : Bool) → leads_to ds a d u ≡ b → leads_to ds a d u ≡ false
      by true is = absurd (false_true (sym out ∙ leads_own d u is))
      by false is = is

  pub own_leads : is_resolved ds a ≡ true → (d u : ℕ) → in_address a d u ≡ true → leads_to ds a d u ≡ true
  own_leads all d u is =
      let dev : a.dev ≡ d = grind (arith, nat_tests, is) in
      let low : a.start ≤ u = grind (arith, nat_tests, is) in
      let high : u < a.start + a.len = grind (arith, nat_tests, is) in
      let to : resolved ds d u ≡ Some (d, u) = subst (λ (x : ℕ). resolved ds x u ≡ Some (x, u)) dev (own_unit ds a.dev stays u (each_leads ds a all u low high)) in
      let few = address_leads ds a d u (d, u) to in
      let one = ap one_if is in
      some_leads ds a d u (omega (arith, few, one))

  -- and to none of them twice
  pub own_hits : (d u : ℕ) → resolve_hits ds a d u ≤ one_if (in_address a d u)
  own_hits d u = own_most a.start a.len d u
    where
      own_most : (from n d u : ℕ) → led ds a.dev from n d u ≤ one_if (a.dev == d && (nat_le from u && nat_lt u (from + n)))
      own_most from zero d u = omega arith
      own_most from (suc n) d u =
          let sum = led-next ds a.dev from n d u in
          let rest = own_most (from + 1) n d u in
          elim (own_or ds a.dev stays from) [
            | inl none ↦
                let first : one_if (is_at (resolved ds a.dev from) d u) ≡ 0 = ap (λ (p : Option Place). one_if (is_at p d u)) none in
                grind (arith, nat_tests, sum, rest, first)
            | inr itself ↦
                let first : one_if (is_at (resolved ds a.dev from) d u) ≡ one_if (a.dev == d && (from == u)) = ap (λ (p : Option Place). one_if (is_at p d u)) itself in
                grind (arith, nat_tests, sum, rest, first)
          ]
