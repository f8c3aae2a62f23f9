-- Where an address leads, and what it passes, as runs.
use Rattle.std.proofs.Common.{◌≡◌, ℕ, zero, suc, ◌+◌, ◌-◌, ◌<◌, ◌≤◌, Bool, true, false, ◌&&◌, ◌||◌, nat_lt, List, [], ◌∷◌, ◌++◌, map, refl, ◌∙◌, sym, ap, ap₂, arith, if◌then◌else◌, ⊎_elim, Option, Some, None}
use Rattle.std.specs.Prelude.{filter}
use Rattle.std.specs.Option.{option_and_then}
use Rattle.std.specs.List.{sum_by, range_with_len, list_any, flat_map}
use Rattle.std.proofs.lemmas.Option.{option_and_then_some}
use Rattle.std.proofs.lemmas.Bool.{cases_lt}
use Rattle.std.proofs.lemmas.Bool.Decides.{nat_tests}
use Rattle.std.proofs.lemmas.List.Folds.{list_any-append}
use Rattle.std.proofs.lemmas.List.Sums.{sum_by-cons}
use Rattle.zr_base.specs.declared.space.Dva.{Dva}
use Rattle.zr_base.specs.declared.space.Entry.{Entry}
use Rattle.zr_rules.specs.Places.{Place, one_if, in_address, is_gone, is_place}
use Rattle.zr_rules.specs.Devices.{Devices, state_at}
use Rattle.zr_rules.specs.Mappings.{in_source, target, IsRisingFrom, IsRising}
use Rattle.zr_rules.specs.Resolve.{is_there, is_at, resolve, resolved, passed, passed_units, leads_to, passes}
use Rattle.zr_rules.specs.Frees.{in_any}
use Rattle.zr_rules.specs.Steps.{moved_part, meets}
use Rattle.zr_reckon.specs.Pieces.{ends, ends_of}

abbrev pub parts_of : ℕ → ℕ → List Entry → List Dva
parts_of s n es = map (moved_part s n) (filter (meets s n) es)

-- the runs of removed devices that are passed
abbrev pub ways : ℕ → Devices → ℕ → ℕ → ℕ → List Dva
ways zero ds d u n = []
ways (suc hops) ds d u n =
    if is_gone (state_at ds d)
    then record { dev = d; start = u; len = n } ∷ flat_map (λ (m : Dva). ways hops ds m.dev m.start m.len) (map (moved_part u n) (filter (meets u n) (ds.entries d)))
    else []

pub any_append : (xs ys : List Dva) (d u : ℕ) → in_any (xs ++ ys) d u ≡ (in_any xs d u || in_any ys d u)
any_append [] ys d u = refl
any_append (x ∷ xs) ys d u = let r = any_append xs ys d u in grind (arith, r)

target_low : (low v : ℕ) (es : List Entry) (p : Place) → IsRisingFrom low es → target es v ≡ Some p → low ≤ v
target_low low v [] p r is = absurd (cc)
target_low low v (e ∷ es) p r is = by_test (in_source e v) refl (target_low (e.src + e.len) v es p r.2)
  where
    by_test : (b : Bool) → in_source e v ≡ b → (target es v ≡ Some p → e.src + e.len ≤ v) → low ≤ v
    by_test true here later = let a = r.0 in grind (arith, nat_tests, here, a)
    by_test false here later = let a = r.0 in let h = later (rw here at is) in omega (arith, h, a)

at_is : (o : Option Place) (d u : ℕ) → is_at o d u ≡ true → o ≡ Some (d, u)
at_is None d u is = absurd (cc)
at_is (Some p) d u is =
    let a : p.0 ≡ d = grind (arith, nat_tests, is) in
    let b : p.1 ≡ u = grind (arith, nat_tests, is) in
    ap₂ (λ (x y : ℕ). let q : Place = (x, y) in Some q) a b

is_at_it : (o : Option Place) (d u : ℕ) → o ≡ Some (d, u) → is_at o d u ≡ true
is_at_it o d u is = ap (λ (x : Option Place). is_at x d u) is ∙ (let same : is_at (Some (d, u)) d u ≡ true = grind (arith, nat_tests) in same)

-- a unit of a run at which a test holds
pub record Hit (test : ℕ → Bool) (s n : ℕ) : Type 0 where
  pub unit : ℕ
  pub from : s ≤ unit
  pub to : unit < s + n
  pub holds : test unit ≡ true

-- a unit of a run that the mapping sends to where a test holds
record Sent (test : ℕ → ℕ → Bool) (s n : ℕ) (es : List Entry) : Type 0 where
  pub unit : ℕ
  pub from : s ≤ unit
  pub to : unit < s + n
  pub place : Place
  pub target_is : target es unit ≡ Some place
  pub holds : test place.0 place.1 ≡ true

module _ (d u : ℕ) (test : ℕ → ℕ → Bool) (runs : Dva → List Dva) where
  parts_cons : (s n : ℕ) (e : Entry) (es : List Entry) → in_any (flat_map runs (parts_of s n (e ∷ es))) d u ≡ ((meets s n e && in_any (runs (moved_part s n e)) d u) || in_any (flat_map runs (parts_of s n es)) d u)
  parts_cons s n e es = by_test (meets s n e) refl
    where
      by_test : (b : Bool) → meets s n e ≡ b → in_any (flat_map runs (parts_of s n (e ∷ es))) d u ≡ ((meets s n e && in_any (runs (moved_part s n e)) d u) || in_any (flat_map runs (parts_of s n es)) d u)
      by_test true is = rw is (any_append (runs (moved_part s n e)) (flat_map runs (parts_of s n es)) d u)
      by_test false is = rw is refl

  forward : (s n v : ℕ) (es : List Entry) (p : Place) → ((m : Dva) (w : ℕ) → m.start ≤ w → w < m.start + m.len → test m.dev w ≡ true → in_any (runs m) d u ≡ true)
      → s ≤ v → v < s + n → target es v ≡ Some p → test p.0 p.1 ≡ true → in_any (flat_map runs (parts_of s n es)) d u ≡ true
  forward s n v [] p each from to is holds = absurd (cc)
  forward s n v (e ∷ es) p each from to is holds = by_test (in_source e v) refl (λ later. forward s n v es p each from to later holds)
    where
      by_test : (b : Bool) → in_source e v ≡ b → (target es v ≡ Some p → in_any (flat_map runs (parts_of s n es)) d u ≡ true) → in_any (flat_map runs (parts_of s n (e ∷ es))) d u ≡ true
      by_test true here later =
          let first : Some (e.dev, e.dst + (v - e.src)) ≡ Some p = rw here at is in
          let dev : p.0 ≡ e.dev = cc in
          let unit : p.1 ≡ e.dst + (v - e.src) = cc in
          let m = moved_part s n e in
          let hit : test m.dev p.1 ≡ true = ap (λ (k : ℕ). test k p.1) (sym dev) ∙ holds in
          let meet : meets s n e ≡ true = grind (arith, nat_tests, here, from, to) in
          let inside = each m p.1 (grind (arith, nat_tests, here, from, to, unit)) (grind (arith, nat_tests, here, from, to, unit)) hit in
          let parts = parts_cons s n e es in
          grind (arith, parts, meet, inside)
      by_test false here later =
          let rest = later (rw here at is) in
          let parts = parts_cons s n e es in
          grind (arith, parts, rest)

  backward : (low s n : ℕ) (es : List Entry) → IsRisingFrom low es → ((m : Dva) → in_any (runs m) d u ≡ true → Hit (test m.dev) m.start m.len) → in_any (flat_map runs (parts_of s n es)) d u ≡ true → Sent test s n es
  backward low s n [] r each is = absurd (cc)
  backward low s n (e ∷ es) r each is = by_test (meets s n e && in_any (runs (moved_part s n e)) d u) refl (backward (e.src + e.len) s n es r.2 each)
    where
      by_test : (b : Bool) → (meets s n e && in_any (runs (moved_part s n e)) d u) ≡ b → (in_any (flat_map runs (parts_of s n es)) d u ≡ true → Sent test s n es) → Sent test s n (e ∷ es)
      by_test true here later =
          let hit = each (moved_part s n e) (grind (arith, here)) in
          let w = hit.unit in
          let v = e.src + (w - e.dst) in
          let a = hit.from in
          let b = hit.to in
          let inside : in_source e v ≡ true = grind (arith, nat_tests, a, b) in
          let same : w ≡ e.dst + (v - e.src) = omega (arith, a, b) in
          record {
            unit = v;
            from = omega (arith, a, b);
            to = omega (arith, a, b);
            place = (e.dev, e.dst + (v - e.src));
            target_is = rw inside refl;
            holds = ap (test e.dev) (sym same) ∙ hit.holds;
          }
      by_test false here later =
          let parts = parts_cons s n e es in
          let rest = later (grind (arith, parts, here, is)) in
          let low_is = target_low (e.src + e.len) rest.unit es rest.place r.2 rest.target_is in
          let outside : in_source e rest.unit ≡ false = grind (arith, nat_tests, low_is) in
          record { unit = rest.unit; from = rest.from; to = rest.to; place = rest.place; target_is = rw outside rest.target_is; holds = rest.holds }

module _ (ds : Devices) (d u : ℕ) where
  -- ---- where a unit leads

  leads_here : ℕ → ℕ → ℕ → Bool
  leads_here hops dev v = is_at (resolve hops ds dev v) d u

  into_ends : (hops d0 s n v : ℕ) → s ≤ v → v < s + n → resolve hops ds d0 v ≡ Some (d, u) → in_any (ends hops ds d0 s n) d u ≡ true
  into_ends zero d0 s n v from to is = absurd (cc)
  into_ends (suc hops) d0 s n v from to is = by_state (is_gone (state_at ds d0)) refl
      (λ (m : Dva) (w : ℕ) (a : m.start ≤ w) (b : w < m.start + m.len) (h : is_at (resolve hops ds m.dev w) d u ≡ true). into_ends hops m.dev m.start m.len w a b (at_is (resolve hops ds m.dev w) d u h))
    where
      by_state : (b : Bool) → is_gone (state_at ds d0) ≡ b → ((m : Dva) (w : ℕ) → m.start ≤ w → w < m.start + m.len → is_at (resolve hops ds m.dev w) d u ≡ true → in_any (ends hops ds m.dev m.start m.len) d u ≡ true)
          → in_any (ends (suc hops) ds d0 s n) d u ≡ true
      by_state true gone deeper =
          let sent : option_and_then (λ (p : Place). resolve hops ds p.0 p.1) (target (ds.entries d0) v) ≡ Some (d, u) = rw gone at is in
          rw gone (option_and_then_some (λ (p : Place). resolve hops ds p.0 p.1) (target (ds.entries d0) v) (d, u) sent
          (λ p t r. forward d u (λ dev w. is_at (resolve hops ds dev w) d u) (λ (m : Dva). ends hops ds m.dev m.start m.len) s n v (ds.entries d0) p deeper from to t (is_at_it (resolve hops ds p.0 p.1) d u r)))
      by_state false stays deeper = rw stays (by_place (is_there ds d0 v) refl)
        where
          by_place : (b : Bool) → is_there ds d0 v ≡ b → (in_address (record { dev = d0; start = s; len = n }) d u || false) ≡ true
          by_place true there =
              let y : is_at (Some (d0, v)) d u ≡ true = is_at_it (Some (d0, v)) d u (rw there at (rw stays at is)) in
              grind (arith, nat_tests, y, from, to)
          by_place false there = let y : is_at None d u ≡ true = is_at_it None d u (rw there at (rw stays at is)) in absurd (cc)

  module _ (there : is_there ds d u ≡ true) (rising : (e : ℕ) → IsRising (ds.entries e)) where
    from_ends : (hops d0 s n : ℕ) → in_any (ends hops ds d0 s n) d u ≡ true → Hit (λ v. is_at (resolve hops ds d0 v) d u) s n
    from_ends zero d0 s n is = absurd (cc)
    from_ends (suc hops) d0 s n is = by_state (is_gone (state_at ds d0)) refl (λ (m : Dva) (h : in_any (ends hops ds m.dev m.start m.len) d u ≡ true). from_ends hops m.dev m.start m.len h)
      where
        by_state : (b : Bool) → is_gone (state_at ds d0) ≡ b → ((m : Dva) → in_any (ends hops ds m.dev m.start m.len) d u ≡ true → Hit (λ v. is_at (resolve hops ds m.dev v) d u) m.start m.len)
            → Hit (λ v. is_at (resolve (suc hops) ds d0 v) d u) s n
        by_state true gone deeper =
            let sent = backward d u (λ dev w. is_at (resolve hops ds dev w) d u) (λ (m : Dva). ends hops ds m.dev m.start m.len) 0 s n (ds.entries d0) (rising d0) deeper (rw gone at is) in
            record { unit = sent.unit; from = sent.from; to = sent.to; holds = rw gone (rw sent.target_is sent.holds) }
        by_state false stays deeper =
            let here : (in_address (record { dev = d0; start = s; len = n }) d u || false) ≡ true = rw stays at is in
            let dev : d0 ≡ d = grind (arith, nat_tests, here) in
            let known : is_there ds d0 u ≡ true = ap (λ (k : ℕ). is_there ds k u) dev ∙ there in
            record { unit = u; from = grind (arith, nat_tests, here); to = grind (arith, nat_tests, here); holds = rw stays (rw known (grind (arith, nat_tests, dev))) }

  -- ---- what a unit passes

  into_ways : (hops d0 s n v : ℕ) → s ≤ v → v < s + n → list_any (λ (q : Place). is_place q d u) (passed hops ds d0 v) ≡ true → in_any (ways hops ds d0 s n) d u ≡ true
  into_ways zero d0 s n v from to is = absurd (cc)
  into_ways (suc hops) d0 s n v from to is = by_state (is_gone (state_at ds d0)) refl
      (λ (m : Dva) (w : ℕ) (a : m.start ≤ w) (b : w < m.start + m.len) (h : list_any (λ (q : Place). is_place q d u) (passed hops ds m.dev w) ≡ true). into_ways hops m.dev m.start m.len w a b h)
    where
      by_state : (b : Bool) → is_gone (state_at ds d0) ≡ b → ((m : Dva) (w : ℕ) → m.start ≤ w → w < m.start + m.len → list_any (λ (q : Place). is_place q d u) (passed hops ds m.dev w) ≡ true → in_any (ways hops ds m.dev m.start m.len) d u ≡ true)
          → in_any (ways (suc hops) ds d0 s n) d u ≡ true
      by_state true gone deeper = rw gone (by_target (target (ds.entries d0) v) refl)
        where
          by_target : (o : Option Place) → target (ds.entries d0) v ≡ o → (in_address (record { dev = d0; start = s; len = n }) d u || in_any (flat_map (λ (m : Dva). ways hops ds m.dev m.start m.len) (parts_of s n (ds.entries d0))) d u) ≡ true
          by_target None t =
              let x : (is_place (d0, v) d u || false) ≡ true = rw t at (rw gone at is) in
              grind (arith, nat_tests, x, from, to)
          by_target (Some p) t =
              let x : (is_place (d0, v) d u || list_any (λ (q : Place). is_place q d u) (passed hops ds p.0 p.1 ++ [])) ≡ true = rw t at (rw gone at is) in
              let y = list_any-append (λ (q : Place). is_place q d u) (passed hops ds p.0 p.1) [] in
              let z = forward d u (λ dev w. list_any (λ (q : Place). is_place q d u) (passed hops ds dev w)) (λ (m : Dva). ways hops ds m.dev m.start m.len) s n v (ds.entries d0) p deeper from to t in
              grind (arith, nat_tests, x, y, z, from, to)
      by_state false stays deeper = let x : false ≡ true = rw stays at is in absurd (cc)

  module _ (rising : (e : ℕ) → IsRising (ds.entries e)) where
    from_ways : (hops d0 s n : ℕ) → in_any (ways hops ds d0 s n) d u ≡ true → Hit (λ v. list_any (λ (q : Place). is_place q d u) (passed hops ds d0 v)) s n
    from_ways zero d0 s n is = absurd (cc)
    from_ways (suc hops) d0 s n is = by_state (is_gone (state_at ds d0)) refl (λ (m : Dva) (h : in_any (ways hops ds m.dev m.start m.len) d u ≡ true). from_ways hops m.dev m.start m.len h)
      where
        by_state : (b : Bool) → is_gone (state_at ds d0) ≡ b → ((m : Dva) → in_any (ways hops ds m.dev m.start m.len) d u ≡ true → Hit (λ v. list_any (λ (q : Place). is_place q d u) (passed hops ds m.dev v)) m.start m.len)
            → Hit (λ v. list_any (λ (q : Place). is_place q d u) (passed (suc hops) ds d0 v)) s n
        by_state true gone deeper = by_first (in_address (record { dev = d0; start = s; len = n }) d u) refl
          where
            all : (in_address (record { dev = d0; start = s; len = n }) d u || in_any (flat_map (λ (m : Dva). ways hops ds m.dev m.start m.len) (parts_of s n (ds.entries d0))) d u) ≡ true
            all = rw gone at is

            by_first : (b : Bool) → in_address (record { dev = d0; start = s; len = n }) d u ≡ b → Hit (λ v. list_any (λ (q : Place). is_place q d u) (passed (suc hops) ds d0 v)) s n
            by_first true here =
                let dev : d0 ≡ d = grind (arith, nat_tests, here) in
                let first : is_place (d0, u) d u ≡ true = grind (arith, nat_tests, dev) in
                record { unit = u; from = grind (arith, nat_tests, here); to = grind (arith, nat_tests, here); holds = rw gone (rw first refl) }
            by_first false here =
                let rest = all in
                let sent = backward d u (λ dev w. list_any (λ (q : Place). is_place q d u) (passed hops ds dev w)) (λ (m : Dva). ways hops ds m.dev m.start m.len) 0 s n (ds.entries d0) (rising d0) deeper (grind (arith, rest, here)) in
                let y = list_any-append (λ (q : Place). is_place q d u) (passed hops ds sent.place.0 sent.place.1) [] in
                let h = sent.holds in
                record { unit = sent.unit; from = sent.from; to = sent.to; holds = rw gone (rw sent.target_is (grind (arith, y, h))) }
        by_state false stays deeper = let x : false ≡ true = rw stays at is in absurd (cc)

-- ---- all units of an address

any_hit : (R : ℕ → Option Place) (dev s n d u : ℕ) → list_any (λ (o : Option Place). is_at o d u) (map (λ (p : Place). R p.1) (map (λ (v : ℕ). (dev, v)) (range_with_len s n))) ≡ true → Hit (λ v. is_at (R v) d u) s n
any_hit R dev s zero d u is = absurd (cc)
any_hit R dev s (suc n) d u is = by_first (is_at (R s) d u) refl (any_hit R dev (s + 1) n d u)
  where
    by_first : (b : Bool) → is_at (R s) d u ≡ b → (list_any (λ (o : Option Place). is_at o d u) (map (λ (p : Place). R p.1) (map (λ (v : ℕ). (dev, v)) (range_with_len (s + 1) n))) ≡ true → Hit (λ v. is_at (R v) d u) (s + 1) n) → Hit (λ v. is_at (R v) d u) s (suc n)
    by_first true here later = record { unit = s; from = omega arith; to = omega arith; holds = here }
    by_first false here later =
        let rest = later (rw here at is) in
        let a = rest.from in
        let b = rest.to in
        record { unit = rest.unit; from = omega (arith, a); to = omega (arith, b); holds = rest.holds }

hit_any : (R : ℕ → Option Place) (dev s n d u v : ℕ) → s ≤ v → v < s + n → is_at (R v) d u ≡ true → list_any (λ (o : Option Place). is_at o d u) (map (λ (p : Place). R p.1) (map (λ (v : ℕ). (dev, v)) (range_with_len s n))) ≡ true
hit_any R dev s zero d u v from to is = absurd (omega (arith, from, to))
hit_any R dev s (suc n) d u v from to is = ⊎_elim
    (λ later. let r = hit_any R dev (s + 1) n d u v (omega (arith, later)) (omega (arith, to)) is in grind (arith, r))
    (λ here. let same : v ≡ s = omega (arith, from, here) in let h = ap (λ (k : ℕ). is_at (R k) d u) (sym same) ∙ is in grind (arith, h))
    (cases_lt s v)

pub leads_into : (ds : Devices) (a : Dva) (d u : ℕ) → leads_to ds a d u ≡ true → in_any (ends_of ds a) d u ≡ true
leads_into ds a d u is =
    let hit = any_hit (λ v. resolved ds a.dev v) a.dev a.start a.len d u (any_same ds a d u ∙ is) in
    into_ends ds d u ds.count a.dev a.start a.len hit.unit hit.from hit.to (at_is (resolved ds a.dev hit.unit) d u hit.holds)
  where
    any_same : (ds : Devices) (a : Dva) (d u : ℕ) → list_any (λ (o : Option Place). is_at o d u) (map (λ (p : Place). resolved ds a.dev p.1) (map (λ (v : ℕ). (a.dev, v)) (range_with_len a.start a.len))) ≡ leads_to ds a d u
    any_same ds a d u = same_on (range_with_len a.start a.len)
      where
        same_on : (vs : List ℕ) → list_any (λ (o : Option Place). is_at o d u) (map (λ (p : Place). resolved ds a.dev p.1) (map (λ (v : ℕ). (a.dev, v)) vs)) ≡ list_any (λ (o : Option Place). is_at o d u) (map (λ (p : Place). resolved ds p.0 p.1) (map (λ (v : ℕ). (a.dev, v)) vs))
        same_on [] = refl
        same_on (v ∷ vs) = ap (λ (b : Bool). is_at (resolved ds a.dev v) d u || b) (same_on vs)

pub into_leads : (ds : Devices) (a : Dva) (d u : ℕ) → is_there ds d u ≡ true → ((e : ℕ) → IsRising (ds.entries e)) → in_any (ends_of ds a) d u ≡ true → leads_to ds a d u ≡ true
into_leads ds a d u there rising is =
    let hit = from_ends ds d u there rising ds.count a.dev a.start a.len is in
    sym (same_on (range_with_len a.start a.len)) ∙ hit_any (λ v. resolved ds a.dev v) a.dev a.start a.len d u hit.unit hit.from hit.to hit.holds
  where
    same_on : (vs : List ℕ) → list_any (λ (o : Option Place). is_at o d u) (map (λ (p : Place). resolved ds a.dev p.1) (map (λ (v : ℕ). (a.dev, v)) vs)) ≡ list_any (λ (o : Option Place). is_at o d u) (map (λ (p : Place). resolved ds p.0 p.1) (map (λ (v : ℕ). (a.dev, v)) vs))
    same_on [] = refl
    same_on (v ∷ vs) = ap (λ (b : Bool). is_at (resolved ds a.dev v) d u || b) (same_on vs)

-- hits of places, counted or not
some_hit : (d u : ℕ) (qs : List Place) → nat_lt 0 (sum_by (λ (q : Place). one_if (is_place q d u)) qs) ≡ list_any (λ (q : Place). is_place q d u) qs
some_hit d u [] = refl
some_hit d u (q ∷ qs) = let r = some_hit d u qs in let m = sum_by-cons (λ (q : Place). one_if (is_place q d u)) q qs in grind (arith, nat_tests, r, m)

module _ (ds : Devices) (dev d u : ℕ) where
  abbrev way_hits : ℕ → ℕ
  way_hits v = sum_by (λ (q : Place). one_if (is_place q d u)) (passed_units ds dev v)

  sum_hit : (s n : ℕ) → nat_lt 0 (sum_by (λ (p : Place). sum_by (λ (q : Place). one_if (is_place q d u)) (passed_units ds p.0 p.1)) (map (λ (v : ℕ). (dev, v)) (range_with_len s n))) ≡ true → Hit (λ v. list_any (λ (q : Place). is_place q d u) (passed_units ds dev v)) s n
  sum_hit s zero is = absurd (cc)
  sum_hit s (suc n) is = by_first (list_any (λ (q : Place). is_place q d u) (passed_units ds dev s)) refl (sum_hit (s + 1) n)
    where
      more : sum_by (λ (p : Place). sum_by (λ (q : Place). one_if (is_place q d u)) (passed_units ds p.0 p.1)) (map (λ (v : ℕ). (dev, v)) (range_with_len s (suc n))) ≡ way_hits s + sum_by (λ (p : Place). sum_by (λ (q : Place). one_if (is_place q d u)) (passed_units ds p.0 p.1)) (map (λ (v : ℕ). (dev, v)) (range_with_len (s + 1) n))
      more = sum_by-cons (λ (p : Place). sum_by (λ (q : Place). one_if (is_place q d u)) (passed_units ds p.0 p.1)) (dev, s) (map (λ (v : ℕ). (dev, v)) (range_with_len (s + 1) n))

      by_first : (b : Bool) → list_any (λ (q : Place). is_place q d u) (passed_units ds dev s) ≡ b
          → (nat_lt 0 (sum_by (λ (p : Place). sum_by (λ (q : Place). one_if (is_place q d u)) (passed_units ds p.0 p.1)) (map (λ (v : ℕ). (dev, v)) (range_with_len (s + 1) n))) ≡ true → Hit (λ v. list_any (λ (q : Place). is_place q d u) (passed_units ds dev v)) (s + 1) n)
          → Hit (λ v. list_any (λ (q : Place). is_place q d u) (passed_units ds dev v)) s (suc n)
      by_first true here later = record { unit = s; from = omega arith; to = omega arith; holds = here }
      by_first false here later =
          let none = some_hit d u (passed_units ds dev s) ∙ here in
          let m = more in
          let rest = later (grind (arith, nat_tests, none, m, is)) in
          let a = rest.from in
          let b = rest.to in
          record { unit = rest.unit; from = omega (arith, a); to = omega (arith, b); holds = rest.holds }

  hit_sum : (s n v : ℕ) → s ≤ v → v < s + n → list_any (λ (q : Place). is_place q d u) (passed_units ds dev v) ≡ true → nat_lt 0 (sum_by (λ (p : Place). sum_by (λ (q : Place). one_if (is_place q d u)) (passed_units ds p.0 p.1)) (map (λ (v : ℕ). (dev, v)) (range_with_len s n))) ≡ true
  hit_sum s zero v from to is = absurd (omega (arith, from, to))
  hit_sum s (suc n) v from to is =
      let more = sum_by-cons (λ (p : Place). sum_by (λ (q : Place). one_if (is_place q d u)) (passed_units ds p.0 p.1)) (dev, s) (map (λ (v : ℕ). (dev, v)) (range_with_len (s + 1) n)) in
      ⊎_elim
      (λ later. let r = hit_sum (s + 1) n v (omega (arith, later)) (omega (arith, to)) is in grind (arith, nat_tests, r, more))
      (λ here.
      let same : v ≡ s = omega (arith, from, here) in
      let h = some_hit d u (passed_units ds dev s) ∙ (ap (λ (k : ℕ). list_any (λ (q : Place). is_place q d u) (passed_units ds dev k)) (sym same) ∙ is) in
      grind (arith, nat_tests, h, more))
      (cases_lt s v)

pub passes_into : (ds : Devices) (a : Dva) (d u : ℕ) → passes ds a d u ≡ true → in_any (ways ds.count ds a.dev a.start a.len) d u ≡ true
passes_into ds a d u is =
    let hit = sum_hit ds a.dev d u a.start a.len is in
    into_ways ds d u ds.count a.dev a.start a.len hit.unit hit.from hit.to hit.holds

pub into_passes : (ds : Devices) (a : Dva) (d u : ℕ) → ((e : ℕ) → IsRising (ds.entries e)) → in_any (ways ds.count ds a.dev a.start a.len) d u ≡ true → passes ds a d u ≡ true
into_passes ds a d u rising is =
    let hit = from_ways ds d u rising ds.count a.dev a.start a.len is in
    hit_sum ds a.dev d u a.start a.len hit.unit hit.from hit.to hit.holds
