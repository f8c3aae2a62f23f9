-- Devices whose mappings lead alike with each unit that is passed: each address leads to the same places, passes the same units and has the same bytes.
use Rattle.std.proofs.Common.{◌≡◌, ◌⊎◌, inl, inr, ℕ, zero, suc, ◌+◌, ◌<◌, Bool, true, false, List, [], ◌∷◌, map, Option, Some, None, refl, ◌∙◌, sym, ap, ap₂, arith}
use Rattle.std.specs.Prelude.{◌&&◌, nat_lt, if◌then◌else◌, is_some, option_and_then}
use Rattle.std.specs.List.{flat_map, list_all, list_any, sum_by}
use Rattle.std.proofs.Math.Path.{fun_ext}
use Rattle.std.proofs.lemmas.List.{append-nil}
use Rattle.std.proofs.lemmas.List.Sums.{sum_by-cons}
use Rattle.std.proofs.lemmas.Bool.Decides.{nat_tests}
use Rattle.zr_base.specs.declared.space.Dva.{Dva}
use Rattle.zr_rules.specs.Devices.{Devices, state_at}
use Rattle.zr_rules.specs.Equation.{live_hits, way_hits}
use Rattle.zr_rules.specs.Mappings.{target}
use Rattle.zr_rules.specs.Places.{Place, is_gone, is_place, one_if, places_of}
use Rattle.zr_rules.specs.Resolve.{is_at, is_resolved, is_there, leads_to, pass_hits, passed, passed_units, resolve, resolve_hits, resolved, resolved_units}
use Rattle.zr_view.specs.Views.{View, address_bytes, place_bytes}

-- how often the places have this one
abbrev hits_of : ℕ → ℕ → List Place → ℕ
hits_of e w ps = sum_by (λ (q : Place). one_if (is_place q e w)) ps

hits_here : (d u : ℕ) (ps : List Place) → 0 < hits_of d u ((d, u) ∷ ps)
hits_here d u ps = let itself : one_if (is_place (d, u) d u) ≡ 1 = grind (arith, nat_tests) in omega (arith, itself, sum_by-cons (λ (q : Place). one_if (is_place q d u)) (d, u) ps)

hits_later : (e w d u : ℕ) (ps : List Place) → 0 < hits_of e w ps → 0 < hits_of e w ((d, u) ∷ ps)
hits_later e w d u ps some = omega (arith, some, sum_by-cons (λ (q : Place). one_if (is_place q e w)) (d, u) ps)

passed_next : (n : ℕ) (ds : Devices) (d u : ℕ) (q : Place) → is_gone (state_at ds d) ≡ true → target (ds.entries d) u ≡ Some q → passed (suc n) ds d u ≡ (d, u) ∷ passed n ds q.0 q.1
passed_next n ds d u q gone to = rw (gone, to) (ap (λ (t : List Place). (d, u) ∷ t) (append-nil (passed n ds q.0 q.1)))

passed_end : (n : ℕ) (ds : Devices) (d u : ℕ) → is_gone (state_at ds d) ≡ true → target (ds.entries d) u ≡ None → passed (suc n) ds d u ≡ (d, u) ∷ []
passed_end n ds d u gone to = rw (gone, to) refl

passed_stop : (n : ℕ) (ds : Devices) (d u : ℕ) → is_gone (state_at ds d) ≡ false → passed (suc n) ds d u ≡ []
passed_stop n ds d u there = rw there refl

resolve_gone : (n : ℕ) (ds : Devices) (d u : ℕ) → is_gone (state_at ds d) ≡ true → resolve (suc n) ds d u ≡ option_and_then (λ (q : Place). resolve n ds q.0 q.1) (target (ds.entries d) u)
resolve_gone n ds d u gone = rw gone refl

resolve_stop : (n : ℕ) (ds : Devices) (d u : ℕ) → is_gone (state_at ds d) ≡ false → resolve (suc n) ds d u ≡ (if is_there ds d u then Some (d, u) else None)
resolve_stop n ds d u there = rw there refl

gone_or : (b : Bool) → (b ≡ true) ⊎ (b ≡ false)
gone_or true = inl refl
gone_or false = inr refl

option_or : (o : Option Place) → (o ≡ None) ⊎ ((q : Place) × (o ≡ Some q))
option_or None = inl refl
option_or (Some q) = inr (q, refl)

module _ (es ds : Devices) (count : es.count ≡ ds.count) (gone : (d : ℕ) → is_gone (state_at es d) ≡ is_gone (state_at ds d)) (units : (d : ℕ) → (es.row d).units ≡ (ds.row d).units) where
  -- the mappings lead to the same place with the unit
  abbrev pub LeadAlike : ℕ → ℕ → Type 0
  LeadAlike e w = target (es.entries e) w ≡ target (ds.entries e) w

  there_same : (d u : ℕ) → is_there es d u ≡ is_there ds d u
  there_same d u = ap (λ (n : ℕ). nat_lt d n && nat_lt u (es.row d).units) count ∙ ap (λ (n : ℕ). nat_lt d ds.count && nat_lt u n) (units d)

  -- ---- a unit

  record IsAlike (n d u : ℕ) : Type 0 where
    leads : resolve n es d u ≡ resolve n ds d u
    passes : passed n es d u ≡ passed n ds d u

  alike : (n d u : ℕ) → ((e w : ℕ) → 0 < hits_of e w (passed n ds d u) → LeadAlike e w) → IsAlike n d u
  alike zero d u all = record { leads = refl; passes = refl }
  alike (suc n) d u all = elim (gone_or (is_gone (state_at ds d))) [
    | inr there ↦ record {
      leads = resolve_stop n es d u (gone d ∙ there) ∙ (ap (λ (b : Bool). if b then Some (d, u) else None) (there_same d u) ∙ sym (resolve_stop n ds d u there));
      passes = passed_stop n es d u (gone d ∙ there) ∙ sym (passed_stop n ds d u there);
    }
    | inl is ↦ elim (option_or (target (ds.entries d) u)) [
      | inl none ↦
          let way = passed_end n ds d u is none in
          let same : LeadAlike d u = all d u (rw way (hits_here d u [])) in
          record {
            leads = resolve_gone n es d u (gone d ∙ is) ∙ (ap (λ (o : Option Place). option_and_then (λ (q : Place). resolve n es q.0 q.1) o) (same ∙ none) ∙ sym (resolve_gone n ds d u is ∙ ap (λ (o : Option Place). option_and_then (λ (q : Place). resolve n ds q.0 q.1) o) none));
            passes = passed_end n es d u (gone d ∙ is) (same ∙ none) ∙ sym way;
          }
      | inr to ↦
          let way = passed_next n ds d u to.0 is to.1 in
          let same : LeadAlike d u = all d u (rw way (hits_here d u (passed n ds to.0.0 to.0.1))) in
          let rest = alike n to.0.0 to.0.1 (λ e w some. all e w (rw way (hits_later e w d u (passed n ds to.0.0 to.0.1) some))) in
          record {
            leads = resolve_gone n es d u (gone d ∙ is) ∙ (ap (λ (o : Option Place). option_and_then (λ (q : Place). resolve n es q.0 q.1) o) (same ∙ to.1) ∙ (rest.leads ∙ sym (resolve_gone n ds d u is ∙ ap (λ (o : Option Place). option_and_then (λ (q : Place). resolve n ds q.0 q.1) o) to.1)));
            passes = passed_next n es d u to.0 (gone d ∙ is) (same ∙ to.1) ∙ (ap (λ (ps : List Place). (d, u) ∷ ps) rest.passes ∙ sym way);
          }
    ]
  ]

  -- ---- an address

  abbrev hits_in : Devices → List Place → ℕ → ℕ → ℕ
  hits_in these ps e w = sum_by (λ (p : Place). hits_of e w (passed_units these p.0 p.1)) ps

  hits-cons : (these : Devices) (p : Place) (ps : List Place) (e w : ℕ) → hits_in these (p ∷ ps) e w ≡ hits_of e w (passed_units these p.0 p.1) + hits_in these ps e w
  hits-cons these p ps e w = sum_by-cons (λ (q : Place). hits_of e w (passed_units these q.0 q.1)) p ps

  unit_alike : (p : Place) → ((e w : ℕ) → 0 < hits_of e w (passed_units ds p.0 p.1) → LeadAlike e w) → IsAlike ds.count p.0 p.1
  unit_alike p all = alike ds.count p.0 p.1 all

  places_lead : (ps : List Place) → ((e w : ℕ) → 0 < hits_in ds ps e w → LeadAlike e w) → map (λ (p : Place). resolved es p.0 p.1) ps ≡ map (λ (p : Place). resolved ds p.0 p.1) ps
  places_lead [] all = refl
  places_lead (p ∷ ps) all =
      let first = unit_alike p (λ e w some. all e w (omega (arith, some, hits-cons ds p ps e w))) in
      ap₂ (λ (o : Option Place) (os : List (Option Place)). o ∷ os) (ap (λ (n : ℕ). resolve n es p.0 p.1) count ∙ first.leads) (places_lead ps (λ e w some. all e w (omega (arith, some, hits-cons ds p ps e w))))

  places_pass : (ps : List Place) (d u : ℕ) → ((e w : ℕ) → 0 < hits_in ds ps e w → LeadAlike e w) → hits_in es ps d u ≡ hits_in ds ps d u
  places_pass [] d u all = refl
  places_pass (p ∷ ps) d u all =
      let first = unit_alike p (λ e w some. all e w (omega (arith, some, hits-cons ds p ps e w))) in
      let here : hits_of d u (passed_units es p.0 p.1) ≡ hits_of d u (passed_units ds p.0 p.1) = ap (hits_of d u) (ap (λ (n : ℕ). passed n es p.0 p.1) count ∙ first.passes) in
      let rest = places_pass ps d u (λ e w some. all e w (omega (arith, some, hits-cons ds p ps e w))) in
      omega (arith, here, rest, hits-cons es p ps d u, hits-cons ds p ps d u)

  module _ (a : Dva) (all : (e w : ℕ) → 0 < pass_hits ds a e w → LeadAlike e w) where
    pub units_alike : resolved_units es a ≡ resolved_units ds a
    units_alike = places_lead (places_of a) all

    pub resolves_alike : is_resolved es a ≡ is_resolved ds a
    resolves_alike = ap (λ (ps : List (Option Place)). list_all (λ p. is_some p) ps) units_alike

    pub hits_alike : (d u : ℕ) → resolve_hits es a d u ≡ resolve_hits ds a d u
    hits_alike d u = ap (λ (ps : List (Option Place)). sum_by (λ p. one_if (is_at p d u)) ps) units_alike

    pub leads_alike : (d u : ℕ) → leads_to es a d u ≡ leads_to ds a d u
    leads_alike d u = ap (λ (ps : List (Option Place)). list_any (λ p. is_at p d u) ps) units_alike

    pub pass_alike : (d u : ℕ) → pass_hits es a d u ≡ pass_hits ds a d u
    pass_alike d u = places_pass (places_of a) d u all

    module _ (disks : List (List ℕ)) (slots : List (Option ℕ)) where
      abbrev by_es : View
      by_es = record { disks = disks; slots = slots; devices = es }

      abbrev by_ds : View
      by_ds = record { disks = disks; slots = slots; devices = ds }

      place_same : (p : Option Place) → place_bytes by_es p ≡ place_bytes by_ds p
      place_same None = refl
      place_same (Some p) = refl

      pub bytes_alike : address_bytes by_es a ≡ address_bytes by_ds a
      bytes_alike = ap (λ (ps : List (Option Place)). flat_map (place_bytes by_es) ps) units_alike ∙ ap (λ (f : Option Place → List ℕ). flat_map f (resolved_units ds a)) (fun_ext place_same)

  -- ---- addresses

  pub ways_alike : (live : List Dva) → ((e w : ℕ) → 0 < way_hits ds live e w → LeadAlike e w) → (d u : ℕ) → way_hits es live d u ≡ way_hits ds live d u
  ways_alike [] all d u = refl
  ways_alike (a ∷ live) all d u =
      let first = pass_alike a (λ e w some. all e w (omega (arith, some, sum_by-cons (λ (x : Dva). pass_hits ds x e w) a live))) d u in
      let rest = ways_alike live (λ e w some. all e w (omega (arith, some, sum_by-cons (λ (x : Dva). pass_hits ds x e w) a live))) d u in
      omega (arith, first, rest, sum_by-cons (λ (x : Dva). pass_hits es x d u) a live, sum_by-cons (λ (x : Dva). pass_hits ds x d u) a live)

  pub live_alike : (live : List Dva) → ((e w : ℕ) → 0 < way_hits ds live e w → LeadAlike e w) → (d u : ℕ) → live_hits es live d u ≡ live_hits ds live d u
  live_alike [] all d u = refl
  live_alike (a ∷ live) all d u =
      let first = hits_alike a (λ e w some. all e w (omega (arith, some, sum_by-cons (λ (x : Dva). pass_hits ds x e w) a live))) d u in
      let rest = live_alike live (λ e w some. all e w (omega (arith, some, sum_by-cons (λ (x : Dva). pass_hits ds x e w) a live))) d u in
      omega (arith, first, rest, sum_by-cons (λ (x : Dva). resolve_hits es x d u) a live, sum_by-cons (λ (x : Dva). resolve_hits ds x d u) a live)
