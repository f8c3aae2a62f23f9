-- Addresses that may be given back one after another, and what a change of the space leaves of that.
use Rattle.std.proofs.Common.{◌≡◌, inl, inr, ℕ, zero, suc, ◌+◌, ◌<◌, ◌≤◌, ◌||◌, Bool, true, false, nat_lt, List, [], ◌∷◌, length, Some, refl, sym, ◌∙◌, ap, subst, arith}
use Rattle.std.specs.Prelude.{All, slice_index}
use Rattle.std.specs.List.{sum_by}
use Rattle.std.proofs.lemmas.List.Sums.{sum_by-cons}
use Rattle.std.proofs.lemmas.List.Elements.{All-cons, All-nil}
use Rattle.std.proofs.lemmas.Bool.Decides.{nat_tests}
use Rattle.zr_base.specs.declared.space.Dva.{Dva}
use Rattle.zr_base.specs.declared.space.Entry.{Entry}
use Rattle.zr_base.specs.declared.space.DevState.{DevState}
use Rattle.zr_base.specs.declared.space.DevState.TheVariants.{On, Leaving, Gone}
use Rattle.zr_rules.specs.Places.{Place, one_if, count_below, is_gone, is_leaving, is_fresh, part_of, state_of_dev}
use Rattle.zr_rules.specs.Devices.{Devices, state_at}
use Rattle.zr_rules.specs.Mappings.{entry_at}
use Rattle.zr_rules.specs.Resolve.{leads_to, pass_hits, resolve_hits}
use Rattle.zr_rules.specs.Space.{Space}
use Rattle.zr_rules.specs.Frees.{Frees, marks}
use Rattle.zr_rules.specs.Equation.{Spends, devices_in, fresh_in, live_hits, way_hits, ways_in}
use Rattle.zr_space.specs.Paths.{AreInService}
use Rattle.zr_space.proofs.Leads.{hits_none}
use Rattle.zr_vdev.proofs.Leading.{Resolves, false_true, ways_lead, zero_or}

-- what holds at each unit of the two of each pair holds of their counts
count_pairs : (n : ℕ) (f g h k : ℕ → Bool) → ((u : ℕ) → one_if (f u) + one_if (g u) ≤ one_if (h u) + one_if (k u)) → count_below n f + count_below n g ≤ count_below n h + count_below n k
count_pairs zero f g h k each = omega arith
count_pairs (suc n) f g h k each =
    let rest = count_pairs n f g h k each in
    let last = each n in
    omega (arith, rest, last)

-- where no unit that is passed becomes obsolete, and no unit counts more than before, fewer addresses may go back
pub spends_turn : (s t : Space) (all left : List Dva) → devices_in t ≡ devices_in s → ((d : ℕ) → (part_of t.parts.devs d).counts ≡ (part_of s.parts.devs d).counts)
    → ((d u : ℕ) → 0 < way_hits (devices_in s) left d u → is_fresh t.parts.devs d u ≡ false)
    → ((d u : ℕ) → is_gone (state_of_dev s.parts.devs d) ≡ true → one_if (is_fresh t.parts.devs d u) + one_if (nat_lt 0 (way_hits (devices_in s) left d u)) ≤ one_if (is_fresh s.parts.devs d u) + one_if (nat_lt 0 (way_hits (devices_in s) all d u)))
    → Spends s all → Spends t left
spends_turn s t all left devices counts unmarked points sp = record {
  passed = λ d u some. unmarked d u (subst (λ (ds : Devices). 0 < way_hits ds left d u) devices some);
  entries = λ d i gone lt.
      let same : (part_of t.parts.devs d).entries ≡ (part_of s.parts.devs d).entries = ap (λ (ds : Devices). ds.entries d) devices in
      let was_gone : is_gone (state_of_dev s.parts.devs d) ≡ true = sym (ap (λ (ds : Devices). is_gone (state_at ds d)) devices) ∙ gone in
      let was = sp.entries d i was_gone (subst (λ (es : List Entry). i < length es) same lt) in
      let e : Entry = entry_at (part_of s.parts.devs d).entries i in
      let n = ap (λ (cs : List ℕ). slice_index cs i) (counts d) in
      let pairs = count_pairs e.len (λ k. is_fresh t.parts.devs d (e.src + k)) (λ k. nat_lt 0 (way_hits (devices_in s) left d (e.src + k))) (λ k. is_fresh s.parts.devs d (e.src + k)) (λ k. nat_lt 0 (way_hits (devices_in s) all d (e.src + k)))
      (λ k. points d (e.src + k) was_gone) in
      let ways = ap (λ (ds : Devices). ways_in ds left d e) devices in
      let now : slice_index (part_of t.parts.devs d).counts i + fresh_in (part_of t.parts.devs d) e + ways_in (devices_in t) left d e ≤ e.len = omega (arith, was, n, pairs, ways) in
      subst (λ (es : List Entry). slice_index (part_of t.parts.devs d).counts i + fresh_in (part_of t.parts.devs d) (entry_at es i) + ways_in (devices_in t) left d (entry_at es i) ≤ (entry_at es i).len) (sym same) now;
}

more_some : (m n : ℕ) → m ≤ n → one_if (nat_lt 0 m) ≤ one_if (nat_lt 0 n)
more_some m n le = grind (arith, nat_tests, le)

-- fewer addresses may go back where more may
pub spends_fewer : (s : Space) (all some : List Dva) → ((d u : ℕ) → way_hits (devices_in s) some d u ≤ way_hits (devices_in s) all d u) → Spends s all → Spends s some
spends_fewer s all some fewer sp =
    spends_turn s s all some refl (λ d. refl)
    (λ d u way. let f = fewer d u in sp.passed d u (omega (arith, f, way)))
    (λ d u gone. let m = more_some (way_hits (devices_in s) some d u) (way_hits (devices_in s) all d u) (fewer d u) in omega (arith, m))
    sp

-- where nothing is marked the same addresses may go back
pub spends_same : (s t : Space) (live : List Dva) → devices_in t ≡ devices_in s → ((d : ℕ) → (part_of t.parts.devs d).counts ≡ (part_of s.parts.devs d).counts) → ((d u : ℕ) → is_fresh t.parts.devs d u ≡ is_fresh s.parts.devs d u) → Spends s live → Spends t live
spends_same s t live devices counts fresh sp =
    spends_turn s t live live devices counts
    (λ d u way. fresh d u ∙ sp.passed d u way)
    (λ d u gone. let e = ap one_if (fresh d u) in omega (arith, e))
    sp

-- where all devices are in service any addresses may
ways_none : (ds : Devices) (live : List Dva) (d u : ℕ) → AreInService ds → way_hits ds live d u ≡ 0
ways_none ds [] d u on = refl
ways_none ds (a ∷ more) d u on =
    let first = hits_none ds a.dev a.start a.len d u (on.there a.dev) in
    let rest = ways_none ds more d u on in
    omega (arith, first, rest, sum_by-cons (λ (x : Dva). pass_hits ds x d u) a more)

pub spends_service : (s : Space) (live : List Dva) → AreInService (devices_in s) → Spends s live
spends_service s live on = record {
  passed = λ d u some. let none = ways_none (devices_in s) live d u on in absurd (omega (arith, none, some));
  entries = λ d i gone lt. absurd (false_true (sym (on.there d) ∙ gone));
}

-- ---- an address that passes nothing

passes_nothing : (ds : Devices) (a : Dva) → is_gone (state_at ds a.dev) ≡ false → (d u : ℕ) → pass_hits ds a d u ≡ 0
passes_nothing ds a stays d u = hits_none ds a.dev a.start a.len d u stays

-- may go back with what may
pub spends_with : (s : Space) (a : Dva) (live : List Dva) → is_gone (state_at (devices_in s) a.dev) ≡ false → Spends s live → Spends s (a ∷ live)
spends_with s a live stays sp =
    spends_fewer s live (a ∷ live)
    (λ d u. let none = passes_nothing (devices_in s) a stays d u in omega (arith, none, sum_by-cons (λ (x : Dva). pass_hits (devices_in s) x d u) a live))
    sp

-- and alone
pub spends_alone : (s : Space) (a : Dva) (live : List Dva) → is_gone (state_at (devices_in s) a.dev) ≡ false → Spends s live → Spends s (a ∷ [])
spends_alone s a live stays sp =
    spends_fewer s live (a ∷ [])
    (λ d u. let none = passes_nothing (devices_in s) a stays d u in omega (arith, none, sum_by-cons (λ (x : Dva). pass_hits (devices_in s) x d u) a []))
    sp

-- ---- an address is freed

-- a list is another one with an address
abbrev pub Parts : List Dva → List Dva → Dva → Type 0
Parts all left a = (f : Dva → ℕ) → sum_by f left + f a ≡ sum_by f all

bits : (old : Bool) (left own all : ℕ) → left + own ≡ all → (0 < left → 0 < own → ⊥) → one_if (old || nat_lt 0 own) + one_if (nat_lt 0 left) ≤ one_if old + one_if (nat_lt 0 all)
bits old zero zero all sum apart = grind (arith, nat_tests, sum)
bits old (suc m) zero all sum apart = grind (arith, nat_tests, sum)
bits true zero (suc n) all sum apart = grind (arith, nat_tests, sum)
bits false zero (suc n) all sum apart = grind (arith, nat_tests, sum)
bits old (suc m) (suc n) all sum apart = absurd (apart (omega arith) (omega arith))

gone_stays : (state : DevState) → is_gone state ≡ true → is_leaving state ≡ false
gone_stays On gone = cc
gone_stays Leaving gone = cc
gone_stays Gone gone = refl

some_same : (p q : Place) → Some p ≡ Some q → p ≡ q
some_same p q e = cc

one_each : (ds : Devices) (a : Dva) → Resolves ds a → All (Resolves ds) (a ∷ [])
one_each ds a is = All-cons (Resolves ds) a [] is (All-nil (Resolves ds))

module _ (old new : Space) (a : Dva) (birth : ℕ) (frees : Frees old new a birth) (devices : devices_in new ≡ devices_in old) where
  abbrev ds : Devices
  ds = devices_in old

  -- what a free marks on a device that is gone is what the address passes
  marks_gone : (d u : ℕ) → is_gone (state_of_dev old.parts.devs d) ≡ true → marks old a d u ≡ nat_lt 0 (pass_hits ds a d u)
  marks_gone d u gone =
      let stays = gone_stays (state_of_dev old.parts.devs d) gone in
      grind (arith, nat_tests, stays)

  fresh_gone : (d u : ℕ) → is_gone (state_of_dev old.parts.devs d) ≡ true → is_fresh new.parts.devs d u ≡ (is_fresh old.parts.devs d u || nat_lt 0 (pass_hits ds a d u))
  fresh_gone d u gone = frees.fresh d u ∙ ap (λ (b : Bool). is_fresh old.parts.devs d u || b) (marks_gone d u gone)

  module _ (all left : List Dva) (parts : Parts all left a) (each : All (Resolves ds) left) (own : Resolves ds a) (once : (d u : ℕ) → live_hits ds all d u ≤ 1) where
    -- no unit is passed by it and by another
    apart : (d u : ℕ) → 0 < way_hits ds left d u → 0 < pass_hits ds a d u → ⊥
    apart d u others it =
        let x = ways_lead ds left d u each others in
        let y = ways_lead ds (a ∷ []) d u (one_each ds a own) (let s = sum_by-cons (λ (z : Dva). pass_hits ds z d u) a [] in omega (arith, it, s)) in
        let same : x.place ≡ y.place = some_same x.place y.place (sym x.leads ∙ y.leads) in
        let hit : 0 < live_hits ds left y.place.0 y.place.1 = subst (λ (p : Place). 0 < live_hits ds left p.0 p.1) same x.some in
        let hits = y.some in
        let sum = parts (λ (z : Dva). resolve_hits ds z y.place.0 y.place.1) in
        let few = once y.place.0 y.place.1 in
        let one = sum_by-cons (λ (z : Dva). resolve_hits ds z y.place.0 y.place.1) a [] in
        absurd (omega (arith, hit, hits, sum, few, one))

    -- so the others may still go back
    pub spends_freed : Spends old all → Spends new left
    spends_freed sp =
        spends_turn old new all left devices (λ d. (frees.frame.each d).counts)
        (λ d u way.
        let sum = parts (λ (z : Dva). pass_hits ds z d u) in
        let was = sp.passed d u (omega (arith, way, sum)) in
        let gone = (ways_lead ds left d u each way).gone in
        let none : nat_lt 0 (pass_hits ds a d u) ≡ false = elim (zero_or (pass_hits ds a d u)) [
          | inl z ↦ grind (arith, nat_tests, z)
          | inr it ↦ absurd (apart d u way it)
        ] in
        fresh_gone d u gone ∙ grind (arith, nat_tests, was, none))
        (λ d u gone.
        let pair = bits (is_fresh old.parts.devs d u) (way_hits ds left d u) (pass_hits ds a d u) (way_hits ds all d u) (parts (λ (z : Dva). pass_hits ds z d u)) (apart d u) in
        let now = ap one_if (fresh_gone d u gone) in
        omega (arith, pair, now))
        sp

  -- where it lies on a device in service nothing is marked
  pub marks_none : is_gone (state_at ds a.dev) ≡ false → is_leaving (state_at ds a.dev) ≡ false → ((d u : ℕ) → leads_to ds a d u ≡ true → d ≡ a.dev) → (d u : ℕ) → is_fresh new.parts.devs d u ≡ is_fresh old.parts.devs d u
  marks_none stays serves here d u =
      let none = passes_nothing ds a stays d u in
      let nothing : marks old a d u ≡ false = by (leads_to ds a d u) refl none in
      frees.fresh d u ∙ grind (arith, nat_tests, nothing)
    where
      by : (b : Bool) → leads_to ds a d u ≡ b → pass_hits ds a d u ≡ 0 → marks old a d u ≡ false
      by true is none =
          let dev = here d u is in
          let not_leaving : is_leaving (state_of_dev old.parts.devs d) ≡ false = subst (λ (x : ℕ). is_leaving (state_of_dev old.parts.devs x) ≡ false) (sym dev) serves in
          grind (arith, nat_tests, none, not_leaving)
      by false is none = grind (arith, nat_tests, none, is)
