-- Where addresses lead, unit by unit.
use Rattle.std.proofs.Common.{◌≡◌, ℕ, zero, suc, ◌+◌, ◌-◌, ◌<◌, ◌≤◌, ◌^◌, Bool, true, false, ◌||◌, nat_le, nat_lt, min, List, [], ◌∷◌, ◌++◌, map, length, take, get_or, Option, None, refl, ◌∙◌, sym, ap, subst, arith, ⊎_elim}
use Rattle.std.specs.List.{range_with_len, list_any}
use Rattle.std.proofs.lemmas.Bool.Decides.{nat_tests}
use Rattle.std.proofs.lemmas.Bool.{cases_lt}
use Rattle.std.proofs.lemmas.List.{map-append, take_all}
use Rattle.std.proofs.lemmas.List.Folds.{list_any-append, list_any_more}
use Rattle.std.proofs.lemmas.List.FromFn.{map-range_with_len_more}
use Rattle.zr_base.specs.declared.space.Dva.{Dva}
use Rattle.zr_base.specs.declared.space.Entry.{Entry}
use Rattle.zr_chain.specs.declared.visit.Visited.{Visited}
use Rattle.zr_chain.specs.declared.visit.Visited.TheVariants.{Hop, Piece}
use Rattle.zr_chain.specs.Visits.{Visits}
use Rattle.zr_rules.specs.Devices.{Devices, state_at}
use Rattle.zr_rules.specs.Mappings.{IsRising, IsRisingFrom, target, in_source}
use Rattle.zr_rules.specs.Places.{Place, is_gone}
use Rattle.zr_rules.specs.Resolve.{resolve, resolved, is_at, is_resolved, leads_to}
use Rattle.zr_space.specs.Freeing.{end_hits}
use Rattle.zr_space.proofs.Freeing.{ends_are, leads_hits, told_all}
use Rattle.zr_audit.specs.Found.{is_end_at, ends_at, LeadsOn, AreEnds, HasLoose, front_of}

-- so many units of a device from one on
abbrev pub units_at : ℕ → ℕ → ℕ → Dva
units_at dev from n = record { dev = dev; start = from; len = n }

leads_none : (ds : Devices) (dev from d u : ℕ) → leads_to ds (units_at dev from 0) d u ≡ false
leads_none ds dev from d u = refl

leads_one : (ds : Devices) (dev from d u : ℕ) → leads_to ds (units_at dev from 1) d u ≡ is_at (resolved ds dev from) d u
leads_one ds dev from d u = grind (arith, nat_tests)

-- one unit more
leads_more : (ds : Devices) (dev from n d u : ℕ) → leads_to ds (units_at dev from (n + 1)) d u ≡ (leads_to ds (units_at dev from n) d u || leads_to ds (units_at dev (from + n) 1) d u)
leads_more ds dev from n d u =
    let test = λ (p : Option Place). is_at p d u in
    let to = λ (p : Place). resolved ds p.0 p.1 in
    let place : ℕ → Place = λ v. (dev, v) in
    let last = ap (λ (ps : List Place). list_any test (map to ps)) (map-range_with_len_more place from n (from + n) refl) in
    let apart = ap (list_any test) (map-append to (map place (range_with_len from n)) ((dev, from + n) ∷ [])) in
    last ∙ (apart ∙ list_any-append test (map to (map place (range_with_len from n))) (to (dev, from + n) ∷ []))

-- units that lead nowhere add nothing
leads_past : (ds : Devices) (dev from m j d u : ℕ) → ((k : ℕ) → m ≤ k → k < m + j → resolved ds dev (from + k) ≡ None) → leads_to ds (units_at dev from (m + j)) d u ≡ leads_to ds (units_at dev from m) d u
leads_past ds dev from m zero d u none = ap (λ (n : ℕ). leads_to ds (units_at dev from n) d u) (omega arith)
leads_past ds dev from m (suc j) d u none =
    let rest = leads_past ds dev from m j d u (λ k ge lt. none k ge (omega (arith, lt))) in
    let one = leads_one ds dev (from + (m + j)) d u in
    let last : is_at (resolved ds dev (from + (m + j))) d u ≡ false = ap (λ (p : Option Place). is_at p d u) (none (m + j) (omega arith) (omega arith)) in
    ap (λ (n : ℕ). leads_to ds (units_at dev from n) d u) (omega arith) ∙ (leads_more ds dev from (m + j) d u ∙ grind (arith, nat_tests, rest, one, last))

-- ---- units that no device has

-- no entry has a unit so far up
far_up : (low : ℕ) (es : List Entry) (u : ℕ) → IsRisingFrom low es → 2 ^ 62 ≤ u → target es u ≡ None
far_up low [] u rising far = refl
far_up low (e ∷ es) u rising far =
    let rest = far_up (e.src + e.len) es u rising.2 far in
    let ends = rising.1.source in
    let out : in_source e u ≡ false = grind (arith, nat_tests, ends, far) in
    rw out rest

gone_far : (n : ℕ) (ds : Devices) (d u : ℕ) → is_gone (state_at ds d) ≡ true → target (ds.entries d) u ≡ None → resolve n ds d u ≡ None
gone_far zero ds d u gone none = refl
gone_far (suc n) ds d u gone none = rw gone rw none refl

pub far_nowhere : (ds : Devices) (dev u : ℕ) → is_gone (state_at ds dev) ≡ true → IsRising (ds.entries dev) → 2 ^ 62 ≤ u → resolved ds dev u ≡ None
far_nowhere ds dev u gone rising far = gone_far ds.count ds dev u gone (far_up 0 (ds.entries dev) u rising far)

-- the units of an address below one from which on none leads anywhere
front_leads : (ds : Devices) (a : Dva) (end d u : ℕ) → ((v : ℕ) → end ≤ v → resolved ds a.dev v ≡ None) → leads_to ds (front_of a end) d u ≡ leads_to ds a d u
front_leads ds a end d u none = ⊎_elim
    (λ below. within below)
    (λ past. beyond past)
    (cases_lt a.start end)
  where
    beyond : end ≤ a.start → leads_to ds (front_of a end) d u ≡ leads_to ds a d u
    beyond past =
        let test : nat_le end a.start ≡ true = grind (arith, nat_tests, past) in
        let all = leads_past ds a.dev a.start 0 a.len d u (λ k ge lt. none (a.start + k) (omega (arith, past))) in
        rw test (sym (ap (λ (n : ℕ). leads_to ds (units_at a.dev a.start n) d u) (omega arith) ∙ all))

    within : a.start < end → leads_to ds (front_of a end) d u ≡ leads_to ds a d u
    within below =
        let test : nat_le end a.start ≡ false = grind (arith, nat_tests, below) in
        let m = min a.len (end - a.start) in
        let all = leads_past ds a.dev a.start m (a.len - m) d u (λ k ge lt. none (a.start + k) (omega (arith, ge, lt, below))) in
        rw test (sym (ap (λ (n : ℕ). leads_to ds (units_at a.dev a.start n) d u) (omega (arith, below)) ∙ all))

-- ---- visits

any_end : (vs : List Visited) (d u : ℕ) → ends_at vs d u ≡ nat_lt 0 (end_hits vs d u)
any_end [] d u = refl
any_end (Hop dev e ∷ vs) d u = any_end vs d u
any_end (Piece split dev e ∷ vs) d u = let rest = any_end vs d u in grind (arith, nat_tests, rest)

-- an address that leads somewhere with each unit is followed to its end
pub followed : (ds : Devices) (a : Dva) (first told old new : List Visited) → is_resolved ds a ≡ true → first ≡ [] → Visits ds a first told → new ≡ old ++ told → LeadsOn ds a old new
followed ds a first told old new all none v after d u =
    let is : told ≡ v.visits = told_all ds a first told none v in
    let ends = any_end v.visits d u in
    let hits = ends_are ds a first told d u all v in
    let leads = leads_hits ds a d u in
    ap (λ (vs : List Visited). ends_at vs d u) (after ∙ ap (λ (vs : List Visited). old ++ vs) is)
    ∙ (list_any-append (is_end_at d u) old v.visits ∙ ap (λ (b : Bool). ends_at old d u || b) (ends ∙ (ap (λ (n : ℕ). nat_lt 0 n) hits ∙ sym leads)))

-- a unit by itself that leads nowhere
loose_one : (ds : Devices) (dev v d u : ℕ) → HasLoose ds (units_at dev v 1) → leads_to ds (units_at dev v 1) d u ≡ false
loose_one ds dev v d u loose =
    let lt = loose.1 in
    let first : v ≡ v + loose.0 = omega (arith, lt) in
    leads_one ds dev v d u ∙ ap (λ (p : Option Place). is_at p d u) (ap (resolved ds dev) first ∙ loose.2)

-- one unit of the address more
next_unit : (ds : Devices) (dev from n : ℕ) (old mid new : List Visited) → LeadsOn ds (units_at dev from n) old mid → LeadsOn ds (units_at dev (from + n) 1) mid new → LeadsOn ds (units_at dev from (n + 1)) old new
next_unit ds dev from n old mid new before more d u =
    let a = before d u in
    let b = more d u in
    let c = leads_more ds dev from n d u in
    grind (arith, nat_tests, a, b, c)

no_unit : (ds : Devices) (dev v : ℕ) (old new : List Visited) → HasLoose ds (units_at dev v 1) → new ≡ old → LeadsOn ds (units_at dev v 1) old new
no_unit ds dev v old new loose same d u =
    let none = loose_one ds dev v d u loose in
    let is = ap (λ (vs : List Visited). ends_at vs d u) same in
    grind (arith, nat_tests, none, is)

-- whether it leads somewhere or not
pub unit_more : (ds : Devices) (dev from n at : ℕ) (whole : Bool) (old mid new : List Visited) → at ≡ n → LeadsOn ds (units_at dev from n) old mid → (whole ≡ true → LeadsOn ds (units_at dev (from + at) 1) mid new)
    → (whole ≡ false → HasLoose ds (units_at dev (from + at) 1) × (new ≡ mid)) → LeadsOn ds (units_at dev from (n + 1)) old new
unit_more ds dev from n at whole old mid new is before led lost =
    next_unit ds dev from n old mid new before (subst (λ (k : ℕ). LeadsOn ds (units_at dev (from + k) 1) mid new) is (either whole led lost))
  where
    either : (b : Bool) → (b ≡ true → LeadsOn ds (units_at dev (from + at) 1) mid new) → (b ≡ false → HasLoose ds (units_at dev (from + at) 1) × (new ≡ mid)) → LeadsOn ds (units_at dev (from + at) 1) mid new
    either true led lost = led refl
    either false led lost = let out = lost refl in no_unit ds dev (from + at) mid new out.0 out.1

-- what the front of an address leads to is what it leads to
pub all_of_front : (ds : Devices) (a r : Dva) (end : ℕ) (old new : List Visited) → r ≡ front_of a end → ((v : ℕ) → end ≤ v → resolved ds a.dev v ≡ None) → LeadsOn ds r old new → LeadsOn ds a old new
all_of_front ds a r end old new is none more d u = more d u ∙ ap (λ (b : Bool). ends_at old d u || b) (ap (λ (x : Dva). leads_to ds x d u) is ∙ front_leads ds a end d u none)

-- ---- a list of addresses

pub next_address : (ds : Devices) (list : List Dva) (i : ℕ) (a : Dva) (old new : List Visited) → i < length list → AreEnds ds (take i list) old → LeadsOn ds (get_or list i a) old new → AreEnds ds (take (i + 1) list) new
next_address ds list i a old new lt before more d u =
    more d u ∙ (ap (λ (b : Bool). b || leads_to ds (get_or list i a) d u) (before d u) ∙ sym (list_any_more (λ (x : Dva). leads_to ds x d u) list i a lt))

pub all_addresses : (ds : Devices) (list : List Dva) (i : ℕ) (vs : List Visited) → length list ≤ i → AreEnds ds (take i list) vs → AreEnds ds list vs
all_addresses ds list i vs le so_far = subst (λ (xs : List Dva). AreEnds ds xs vs) (take_all i list le) so_far
