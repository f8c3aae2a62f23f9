-- Where no device is leaving or gone a free touches one piece, and where the walk over removed devices comes to.
use Rattle.std.proofs.Common.{◌≡◌, ◌⊎◌, inl, inr, ◌∙◌, ⊎_elim, ℕ, zero, suc, ◌+◌, ◌-◌, ◌≤◌, ◌<◌, Bool, true, false, ◌||◌, nat_lt, List, [], ◌∷◌, Some, None, length, refl, subst, map, ◌==◌, Option, sym, ap, ap₂, arith, Result, Ok, Err}
use Rattle.std.specs.Prelude.{is_some, OnOk, IfErr}
use Rattle.std.specs.Option.{option_and_then}
use Rattle.std.specs.List.{list_all, list_any, sum_by, range_with_len}
use Rattle.std.proofs.lemmas.List.{append-nil}
use Rattle.std.proofs.lemmas.List.Folds.{list_any-append}
use Rattle.std.proofs.lemmas.Bool.{cases_lt}
use Rattle.std.proofs.lemmas.Bool.Decides.{nat_tests}
use Rattle.zr_base.specs.declared.space.Dva.{Dva}
use Rattle.zr_base.specs.declared.space.Entry.{Entry}
use Rattle.zr_base.specs.declared.space.DevPart.{DevPart}
use Rattle.zr_rules.specs.Places.{Place, one_if, is_place, is_gone, no_part, part_of}
use Rattle.zr_rules.specs.Devices.{Devices, state_at}
use Rattle.zr_rules.specs.Mappings.{has_source, in_source, target}
use Rattle.zr_rules.specs.Resolve.{resolve, resolved, passed, passed_units, is_there, is_resolved}
use Rattle.zr_rules.specs.Steps.{pieces}
use Rattle.zr_imap.specs.declared.image.Piece.{Piece as Part}
use Rattle.zr_imap.specs.Searches.{FollowFrom, piece_target}
use Rattle.zr_chain.specs.declared.visit.ChainErr.{ChainErr}
use Rattle.zr_chain.specs.declared.visit.ChainErr.TheVariants.{NoEntry, NoMemory}
use Rattle.zr_chain.specs.declared.visit.Visited.{Visited}
use Rattle.zr_chain.specs.Visits.{Visits, HasGap, IsWithin, pieces_of}
use Rattle.zr_chain.proofs.Ways.{cases_bool}
use Rattle.zr_space.specs.Paths.{AreInService, LeadsNowhere, StandsWithin}
use Rattle.zr_space.proofs.Leads.{leads_within}

-- a unit past the end of its device leads nowhere
pub nowhere : (n : ℕ) (ds : Devices) (d u : ℕ) → is_gone (state_at ds d) ≡ false → is_there ds d u ≡ false → resolve n ds d u ≡ None
nowhere zero ds d u on past = refl
nowhere (suc n) ds d u on past = rw on rw past refl

-- a unit that its device does not have is not there
past_end : (ds : Devices) (d u : ℕ) → (d < ds.count → (ds.row d).units ≤ u) → is_there ds d u ≡ false
past_end ds d u past = grind (arith, nat_tests, past)

-- a unit past the end of a device that is not gone leads nowhere
pub leads_nowhere : (ds : Devices) (a : Dva) (k : ℕ) → is_gone (state_at ds a.dev) ≡ false → (a.dev < ds.count → (ds.row a.dev).units ≤ a.start + k) → resolved ds a.dev (a.start + k) ≡ None
leads_nowhere ds a k there past = nowhere ds.count ds a.dev (a.start + k) there (past_end ds a.dev (a.start + k) past)

-- there is no part past the end
pub part_past : (parts : List DevPart) (d : ℕ) → length parts ≤ d → part_of parts d ≡ no_part
part_past [] zero le = refl
part_past [] (suc d) le = refl
part_past (p ∷ ps) zero le = absurd (omega (arith, le))
part_past (p ∷ ps) (suc d) le = part_past ps d (omega (arith, le))

pub one_piece : (n : ℕ) (ds : Devices) (d u len : ℕ) → AreInService ds → pieces n ds d u len ≡ 1
one_piece zero ds d u len on = refl
one_piece (suc n) ds d u len on = let g = on.there d in let l = on.stays d in rw g rw l refl

-- ---- results

pub on_ok : {T E : Type 0} (r : Result T E) (P Q : Type 0) → (P → Q) → OnOk r P → OnOk r Q
on_ok (Ok x) P Q f h = f h
on_ok (Err e) P Q f h = tt

pub if_err : {T E : Type 0} (r : Result T E) (P Q : E → Type 0) → ((e : E) → P e → Q e) → IfErr r P → IfErr r Q
if_err (Ok x) P Q f h = tt
if_err (Err e) P Q f h = f e h

false_true : false ≡ true → ⊥
false_true e = cc

-- ---- a unit that passes one without an entry leads nowhere

no_target : (es : List Entry) (u : ℕ) → has_source es u ≡ false → target es u ≡ None
no_target [] u none = refl
no_target (e ∷ es) u none =
    let first : in_source e u ≡ false = grind (arith, nat_tests, none) in
    let rest : has_source es u ≡ false = grind (arith, nat_tests, none) in
    rw first (no_target es u rest)

-- where an option is none there is none, and else the place that it has leads nowhere
then_none : (o : Option Place) (f : Place → Option Place) → ((p : Place) → o ≡ Some p → f p ≡ None) → option_and_then f o ≡ None
then_none None f none = refl
then_none (Some p) f none = none p refl

here_or_later : (d u dev unit : ℕ) (later : Bool) → (is_place (d, u) dev unit || later) ≡ true → ((d ≡ dev) × (u ≡ unit)) ⊎ (later ≡ true)
here_or_later d u dev unit true is = inr refl
here_or_later d u dev unit false is = inl (grind (arith, nat_tests, is), grind (arith, nat_tests, is))

pub passes_gap : (n : ℕ) (ds : Devices) (d u dev unit : ℕ) → has_source (ds.entries dev) unit ≡ false → list_any (λ q. is_place q dev unit) (passed n ds d u) ≡ true → resolve n ds d u ≡ None
passes_gap zero ds d u dev unit missing passes = refl
passes_gap (suc n) ds d u dev unit missing passes = ⊎_elim
    (λ gone. rw gone (then_none (target (ds.entries d) u) (λ (p : Place). resolve n ds p.0 p.1) (λ p is.
    let way : passed (suc n) ds d u ≡ (d, u) ∷ passed n ds p.0 p.1 = rw (gone, is) (ap (λ (t : List Place). (d, u) ∷ t) (append-nil (passed n ds p.0 p.1))) in
    let any : (is_place (d, u) dev unit || list_any (λ q. is_place q dev unit) (passed n ds p.0 p.1)) ≡ true = sym (any_cons (d, u) (passed n ds p.0 p.1)) ∙ (sym (ap (λ (ps : List Place). list_any (λ q. is_place q dev unit) ps) way) ∙ passes) in
    ⊎_elim
    (λ (same : (d ≡ dev) × (u ≡ unit)).
    let none : target (ds.entries d) u ≡ None = no_target (ds.entries d) u (ap₂ (λ (i j : ℕ). has_source (ds.entries i) j) same.0 same.1 ∙ missing) in
    absurd (some_none p (sym is ∙ none)))
    (λ later. passes_gap n ds p.0 p.1 dev unit missing later)
    (here_or_later d u dev unit (list_any (λ q. is_place q dev unit) (passed n ds p.0 p.1)) any))))
    (λ there.
    let way : passed (suc n) ds d u ≡ [] = rw there refl in
    absurd (false_true (ap (λ (ps : List Place). list_any (λ q. is_place q dev unit) ps) (sym way) ∙ passes)))
    (cases_bool (is_gone (state_at ds d)))
  where
    some_none : (p : Place) → Some p ≡ None → ⊥
    some_none p e = cc

    any_cons : (p : Place) (ps : List Place) → list_any (λ q. is_place q dev unit) (p ∷ ps) ≡ (is_place p dev unit || list_any (λ q. is_place q dev unit) ps)
    any_cons p ps = list_any-append (λ q. is_place q dev unit) (p ∷ []) ps ∙ grind (arith, nat_tests)

-- the walk ends at a unit that leads nowhere
pub gap_nowhere : (ds : Devices) (a : Dva) (e : ChainErr) → HasGap ds a e → LeadsNowhere ds a e
gap_nowhere ds a (NoEntry dev unit) gap = (gap.place, gap.within, passes_gap ds.count ds a.dev (a.start + gap.place) dev unit gap.missing gap.passes)
gap_nowhere ds a NoMemory gap = tt

-- ---- an address that is visited to its end leads somewhere with each unit

follow_some : (from end : ℕ) (ps : List Part) → FollowFrom from end ps → (k : ℕ) → from ≤ k → k < end → is_some (piece_target ps k) ≡ true
follow_some from end [] is k le lt = absurd (omega (arith, is, le, lt))
follow_some from end (p ∷ ps) follow k le lt = ⊎_elim
    (λ below. let b : nat_lt k (p.split + p.at.len) ≡ true = grind (arith, nat_tests, below) in rw b refl)
    (λ past. let b : nat_lt k (p.split + p.at.len) ≡ false = grind (arith, nat_tests, past) in rw b (follow_some (p.split + p.at.len) end ps follow.2 k (omega (arith, past)) lt))
    (cases_lt k (p.split + p.at.len))

all_lead : (ds : Devices) (dev from n : ℕ) → ((u : ℕ) → from ≤ u → u < from + n → is_some (resolved ds dev u) ≡ true)
    → list_all (λ (p : Option Place). is_some p) (map (λ (p : Place). resolved ds p.0 p.1) (map (λ (u : ℕ). (dev, u)) (range_with_len from n))) ≡ true
all_lead ds dev from zero leads = refl
all_lead ds dev from (suc n) leads =
    let first = leads from (omega arith) (omega arith) in
    rw first (all_lead ds dev (from + 1) n (λ u le lt. leads u (omega (arith, le)) (omega (arith, lt))))

-- an address within its device leads to its own units, where all devices are in service
pub within_resolves : (ds : Devices) (a : Dva) → AreInService ds → a.dev < ds.count → a.start + a.len ≤ (ds.row a.dev).units → is_resolved ds a ≡ true
within_resolves ds a on known within = all_lead ds a.dev a.start a.len (λ u from to.
    ap (λ (p : Option Place). is_some p) (leads_within ds.count ds a.dev u (omega (arith, known)) (on.there a.dev) (grind (arith, nat_tests, known, within, to))))

pub none_resolves : (ds : Devices) (a : Dva) → a.len ≡ 0 → is_resolved ds a ≡ true
none_resolves ds a none = all_lead ds a.dev a.start a.len (λ u from to. absurd (omega (arith, none, from, to)))

pub visits_resolve : (ds : Devices) (a : Dva) (old new : List Visited) → StandsWithin ds a → Visits ds a old new → is_resolved ds a ≡ true
visits_resolve ds a old new stands v = all_lead ds a.dev a.start a.len (λ u from to.
    let k : ℕ = u - a.start in
    let lt : k < a.len = omega (arith, from, to) in
    let at : a.start + k ≡ u = omega (arith, from) in
    let in_it : IsWithin ds a.dev (a.start + k) = ⊎_elim (λ gone. inl gone) (λ there. let w = stands.within there in inr (omega (arith, w, at, to))) (cases_bool (is_gone (state_at ds a.dev))) in
    ap (λ (w : ℕ). is_some (resolved ds a.dev w)) (sym at) ∙ (ap (λ (p : Option Place). is_some p) (sym (v.targets k lt in_it)) ∙ follow_some 0 a.len (pieces_of v.visits) v.follow k (omega arith) lt))

-- an address of no units is visited as none
pub no_visit : (ds : Devices) (a : Dva) → a.len ≡ 0 → (v : List Visited) → Visits ds a v v
no_visit ds a none v = record {
  visits = [];
  appended = sym (append-nil v);
  order = let e : (a.len == 0) ≡ true = grind (arith, nat_tests, none) in rw e refl;
  follow = sym none;
  targets = λ k lt in_it. absurd (omega (arith, lt, none));
  passed = λ d u. let P : ℕ → Type 0 = λ n. 0 ≡ sum_by (λ (p : Place). sum_by (λ (q : Place). one_if (is_place q d u)) (passed_units ds p.0 p.1)) (map (λ (w : ℕ). (a.dev, w)) (range_with_len a.start n)) in subst P (sym none) refl;
  entries = λ d u passes. let lt = passes.within in absurd (omega (arith, lt, none));
  touched = λ lt. absurd (omega (arith, lt, none));
}
