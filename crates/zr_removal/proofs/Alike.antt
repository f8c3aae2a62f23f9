-- Devices that lead alike: the same are gone, with the same mappings, and each has as many units.
use Rattle.std.proofs.Common.{◌≡◌, ℕ, zero, suc, Bool, true, false, List, map, Option, Some, None, refl, ◌∙◌, ap}
use Rattle.std.specs.Prelude.{◌&&◌, nat_lt, if◌then◌else◌, is_some, option_and_then}
use Rattle.std.specs.List.{flat_map, list_all, list_any, sum_by}
use Rattle.std.proofs.Math.Path.{fun_ext}
use Rattle.zr_base.specs.declared.space.Dva.{Dva}
use Rattle.zr_base.specs.declared.space.Entry.{Entry}
use Rattle.zr_rules.specs.Devices.{Devices, state_at}
use Rattle.zr_rules.specs.Equation.{live_hits, way_hits}
use Rattle.zr_rules.specs.Mappings.{target}
use Rattle.zr_rules.specs.Places.{Place, is_gone, is_place, one_if, places_of}
use Rattle.zr_rules.specs.Resolve.{is_at, is_resolved, is_there, leads_to, pass_hits, passed, passed_units, resolve, resolve_hits, resolved, resolved_units}
use Rattle.zr_view.specs.Views.{View, address_bytes, place_bytes}

module _ (es ds : Devices) (count : es.count ≡ ds.count) (gone : (d : ℕ) → is_gone (state_at es d) ≡ is_gone (state_at ds d)) (units : (d : ℕ) → (es.row d).units ≡ (ds.row d).units) (entries : (d : ℕ) → is_gone (state_at ds d) ≡ true → es.entries d ≡ ds.entries d) where
  there_same : (d u : ℕ) → is_there es d u ≡ is_there ds d u
  there_same d u = ap (λ (n : ℕ). nat_lt d n && nat_lt u (es.row d).units) count ∙ ap (λ (n : ℕ). nat_lt d ds.count && nat_lt u n) (units d)

  -- ---- where a unit leads

  resolve_same : (n : ℕ) → resolve n es ≡ resolve n ds
  resolve_same zero = fun_ext (λ (d : ℕ). fun_ext (λ (u : ℕ). refl))
  resolve_same (suc n) = let rest = resolve_same n in fun_ext (λ (d : ℕ). fun_ext (λ (u : ℕ). step rest d u (is_gone (state_at ds d)) refl))
    where
      step : resolve n es ≡ resolve n ds → (d u : ℕ) (b : Bool) → is_gone (state_at ds d) ≡ b → resolve (suc n) es d u ≡ resolve (suc n) ds d u
      step rest d u true is =
          let also = gone d ∙ is in
          rw (also, is)
          (ap (λ (f : ℕ → ℕ → Option Place). option_and_then (λ (p : Place). f p.0 p.1) (target (es.entries d) u)) rest
          ∙ ap (λ (list : List Entry). option_and_then (λ (p : Place). resolve n ds p.0 p.1) (target list u)) (entries d is))
      step rest d u false is = let also = gone d ∙ is in rw (also, is) (ap (λ (b : Bool). if b then Some (d, u) else None) (there_same d u))

  resolved_same : resolved es ≡ resolved ds
  resolved_same = ap (λ (n : ℕ). resolve n es) count ∙ resolve_same ds.count

  pub units_same : (a : Dva) → resolved_units es a ≡ resolved_units ds a
  units_same a = ap (λ (f : ℕ → ℕ → Option Place). map (λ (p : Place). f p.0 p.1) (places_of a)) resolved_same

  pub unit_same : (d u : ℕ) → resolved es d u ≡ resolved ds d u
  unit_same d u = ap (λ (f : ℕ → ℕ → Option Place). f d u) resolved_same

  pub is_resolved_same : (a : Dva) → is_resolved es a ≡ is_resolved ds a
  is_resolved_same a = ap (λ (ps : List (Option Place)). list_all (λ p. is_some p) ps) (units_same a)

  pub hits_same : (a : Dva) (d u : ℕ) → resolve_hits es a d u ≡ resolve_hits ds a d u
  hits_same a d u = ap (λ (ps : List (Option Place)). sum_by (λ p. one_if (is_at p d u)) ps) (units_same a)

  pub leads_same : (a : Dva) (d u : ℕ) → leads_to es a d u ≡ leads_to ds a d u
  leads_same a d u = ap (λ (ps : List (Option Place)). list_any (λ p. is_at p d u) ps) (units_same a)

  pub live_same : (live : List Dva) (d u : ℕ) → live_hits es live d u ≡ live_hits ds live d u
  live_same live d u = ap (λ (f : Dva → ℕ). sum_by f live) (fun_ext (λ (a : Dva). hits_same a d u))

  -- ---- what it passes

  passed_same : (n : ℕ) → passed n es ≡ passed n ds
  passed_same zero = fun_ext (λ (d : ℕ). fun_ext (λ (u : ℕ). refl))
  passed_same (suc n) = let rest = passed_same n in fun_ext (λ (d : ℕ). fun_ext (λ (u : ℕ). step rest d u (is_gone (state_at ds d)) refl))
    where
      step : passed n es ≡ passed n ds → (d u : ℕ) (b : Bool) → is_gone (state_at ds d) ≡ b → passed (suc n) es d u ≡ passed (suc n) ds d u
      step rest d u true is = let also = gone d ∙ is in let list = entries d is in rw (also, is) rw rest rw list refl
      step rest d u false is = let also = gone d ∙ is in rw (also, is) refl

  way_same : passed_units es ≡ passed_units ds
  way_same = ap (λ (n : ℕ). passed n es) count ∙ passed_same ds.count

  pass_same : (a : Dva) (d u : ℕ) → pass_hits es a d u ≡ pass_hits ds a d u
  pass_same a d u = ap (λ (f : ℕ → ℕ → List Place). sum_by (λ (p : Place). sum_by (λ (q : Place). one_if (is_place q d u)) (f p.0 p.1)) (places_of a)) way_same

  pub ways_same : (live : List Dva) (d u : ℕ) → way_hits es live d u ≡ way_hits ds live d u
  ways_same live d u = ap (λ (f : Dva → ℕ). sum_by f live) (fun_ext (λ (a : Dva). pass_same a d u))

  -- ---- what it reads

  module _ (disks : List (List ℕ)) (slots : List (Option ℕ)) where
    abbrev by_es : View
    by_es = record { disks = disks; slots = slots; devices = es }

    abbrev by_ds : View
    by_ds = record { disks = disks; slots = slots; devices = ds }

    place_same : (p : Option Place) → place_bytes by_es p ≡ place_bytes by_ds p
    place_same None = refl
    place_same (Some p) = refl

    pub bytes_same : (a : Dva) → address_bytes by_es a ≡ address_bytes by_ds a
    bytes_same a = ap (λ (ps : List (Option Place)). flat_map (place_bytes by_es) ps) (units_same a) ∙ ap (λ (f : Option Place → List ℕ). flat_map f (resolved_units ds a)) (fun_ext place_same)
