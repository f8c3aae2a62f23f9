-- Where all devices are in service, an address may be freed just where it is live.
use Rattle.std.proofs.Common.{◌≡◌, ℕ, zero, suc, ◌+◌, ◌-◌, ◌≤◌, ◌<◌, true, false, ◌==◌, ◌&&◌, nat_le, nat_lt, Bool, List, [], ◌∷◌, map, length, Option, Some, None, refl, ◌∙◌, sym, ap, subst, ⊎_elim, arith}
use Rattle.std.specs.Prelude.{is_some}
use Rattle.std.specs.List.{range_with_len, list_all, sum_by}
use Rattle.std.proofs.lemmas.List.Sums.{sum_by-cons}
use Rattle.std.proofs.lemmas.Bool.{cases_lt}
use Rattle.std.proofs.lemmas.Bool.Decides.{nat_tests}
use Rattle.zr_base.specs.declared.space.Dva.{Dva}
use Rattle.zr_base.specs.declared.space.Entry.{Entry}
use Rattle.zr_base.specs.declared.space.DevPart.{DevPart}
use Rattle.zr_base.specs.declared.space.DevState.{DevState}
use Rattle.zr_base.specs.declared.space.DevState.TheVariants.{On, Leaving, Gone}
use Rattle.zr_rules.specs.Mappings.{IsRising}
use Rattle.zr_rules.specs.Steps.{pieces}
use Rattle.zr_metaslab.specs.Devices.{Devices as Slabs}
use Rattle.zr_indirect.specs.Mapped.{Mapped}
use Rattle.zr_space.specs.declared.whole.Whole.{Whole}
use Rattle.zr_space.specs.Views.{Kept, kept_of, part_in, IsMoved, IsSpace}
use Rattle.zr_space.proofs.Devs.{entries_are}
use Rattle.zr_rules.specs.Places.{Place, one_if, is_gone, is_leaving}
use Rattle.zr_rules.specs.Devices.{Devices, state_at, devices_of}
use Rattle.zr_rules.specs.Resolve.{resolved, is_at, is_there, is_resolved, pass_hits}
use Rattle.zr_rules.specs.Equation.{devices_in, way_hits}
use Rattle.zr_rules.specs.Space.{Space}
use Rattle.zr_space.specs.Live.{IsLive, IsFreeable}
use Rattle.zr_space.specs.Paths.{AreInService}
use Rattle.zr_space.proofs.Leads.{leads_within, hits_none}
use Rattle.zr_space.proofs.Paths.{within_resolves, nowhere, part_past}

-- units that lead to themselves lead to each place once at most
hits_once : (ds : Devices) (dev from n d u : ℕ) → ((v : ℕ) → from ≤ v → v < from + n → resolved ds dev v ≡ Some (dev, v))
    → sum_by (λ (p : Option Place). one_if (is_at p d u)) (map (λ (p : Place). resolved ds p.0 p.1) (map (λ (v : ℕ). (dev, v)) (range_with_len from n))) ≡ one_if (dev == d && (nat_le from u && nat_lt u (from + n)))
hits_once ds dev from zero d u here = grind (arith, nat_tests)
hits_once ds dev from (suc n) d u here =
    let rest = hits_once ds dev (from + 1) n d u (λ v le lt. here v (omega (arith, le)) (omega (arith, lt))) in
    let first : one_if (is_at (resolved ds dev from) d u) ≡ one_if (dev == d && (from == u)) = ap (λ (p : Option Place). one_if (is_at p d u)) (here from (omega arith) (omega arith)) in
    let more = sum_by-cons (λ (p : Option Place). one_if (is_at p d u)) (resolved ds dev from) (map (λ (p : Place). resolved ds p.0 p.1) (map (λ (v : ℕ). (dev, v)) (range_with_len (from + 1) n))) in
    more ∙ grind (arith, nat_tests, first, rest)

one_le : (b : Bool) → one_if b ≤ 1
one_le true = omega arith
one_le false = omega arith

pub way_one : (ds : Devices) (a : Dva) (d u : ℕ) → way_hits ds (a ∷ []) d u ≡ pass_hits ds a d u
way_one ds a d u = sum_by-cons (λ (x : Dva). pass_hits ds x d u) a [] ∙ omega arith

-- the address passes no removed device
ways_none : (ds : Devices) (a : Dva) (d u : ℕ) → AreInService ds → way_hits ds (a ∷ []) d u ≡ 0
ways_none ds a d u on = let one = way_one ds a d u in let none = hits_none ds a.dev a.start a.len d u (on.there a.dev) in omega (arith, one, none)

pub live_freeable : (s : Space) (a : Dva) → AreInService (devices_in s) → IsLive s a → IsFreeable s a
live_freeable s a on live =
    let ds : Devices = devices_in s in
    record {
      known = live.known;
      some = live.some;
      resolves = within_resolves ds a on live.known live.within;
      once = λ d u. let is = hits_once ds a.dev a.start a.len d u (λ v le lt. leads_within ds.count ds a.dev v (let k = live.known in omega (arith, k)) (on.there a.dev) (let k = live.known in let w = live.within in grind (arith, nat_tests, k, w, lt))) in
          omega (arith, is, one_le (a.dev == d && (nat_le a.start u && nat_lt u (a.start + a.len))));
      used = live.used;
      spends = record {
        passed = λ d u some. let none = ways_none ds a d u on in absurd (omega (arith, none, some));
        entries = λ d i gone lt. absurd (false_true (sym (on.there d) ∙ gone));
      };
    }
  where
    false_true : false ≡ true → ⊥
    false_true e = cc

-- ---- and the other way

both : (b c : Bool) → (b && c) ≡ true → (b ≡ true) × (c ≡ true)
both true c is = (refl, is)
both false c is = absurd (false_true is)
  where
    false_true : false ≡ true → ⊥
    false_true e = cc

all_at : (ds : Devices) (dev from n : ℕ) → list_all (λ (p : Option Place). is_some p) (map (λ (p : Place). resolved ds p.0 p.1) (map (λ (u : ℕ). (dev, u)) (range_with_len from n))) ≡ true
    → (u : ℕ) → from ≤ u → u < from + n → is_some (resolved ds dev u) ≡ true
all_at ds dev from zero all u ge lt = absurd (omega (arith, ge, lt))
all_at ds dev from (suc n) all u ge lt =
    let parts = both (is_some (resolved ds dev from)) (list_all (λ (p : Option Place). is_some p) (map (λ (p : Place). resolved ds p.0 p.1) (map (λ (v : ℕ). (dev, v)) (range_with_len (from + 1) n)))) all in
    ⊎_elim
    (λ above. all_at ds dev (from + 1) n parts.1 u (omega (arith, above)) (omega (arith, lt)))
    (λ le. let same : from ≡ u = omega (arith, ge, le) in ap (λ (v : ℕ). is_some (resolved ds dev v)) (sym same) ∙ parts.0)
    (cases_lt from u)

-- each unit of an address that resolves leads somewhere
pub leads_each : (ds : Devices) (a : Dva) → is_resolved ds a ≡ true → (k : ℕ) → k < a.len → is_some (resolved ds a.dev (a.start + k)) ≡ true
leads_each ds a all k lt = all_at ds a.dev a.start a.len all (a.start + k) (omega arith) (omega (arith, lt))

pub none_some : (p : Option Place) → p ≡ None → is_some p ≡ true → ⊥
none_some None e is = cc
none_some (Some q) e is = cc

-- a unit that leads somewhere, on a device that is not gone, is there
pub there_of : (ds : Devices) (d u : ℕ) → is_gone (state_at ds d) ≡ false → is_some (resolved ds d u) ≡ true → is_there ds d u ≡ true
there_of ds d u on leads = by (is_there ds d u) refl
  where
    by : (b : Bool) → is_there ds d u ≡ b → is_there ds d u ≡ true
    by true is = is
    by false is = absurd (none_some (resolved ds d u) (nowhere ds.count ds d u on is) leads)

pub freeable_live : (s : Space) (a : Dva) → AreInService (devices_in s) → IsFreeable s a → IsLive s a
freeable_live s a on free =
    let ds : Devices = devices_in s in
    record {
      known = free.known;
      some = free.some;
      within = let some = free.some in let last : is_there ds a.dev (a.start + (a.len - 1)) ≡ true = there_of ds a.dev (a.start + (a.len - 1)) (on.there a.dev) (leads_each ds a free.resolves (a.len - 1) (omega (arith, some))) in
          grind (arith, nat_tests, last, some);
      used = free.used;
    }

-- ---- the mappings of a space, and devices that it does not know

stage_rising : (st : DevState) (k : Kept) → k.row.state ≡ st → IsMoved k.row k.moves → IsRising k.moves.entries
stage_rising On k is moved = subst (λ (es : List Entry). IsRising es) (sym (ap (λ (m : Mapped). m.entries) (moved.service is))) tt
stage_rising Leaving k is moved = (moved.leaving is).rising
stage_rising Gone k is moved = (moved.gone is).rising

pub all_rising : {whole : Whole} (slabs : Slabs) (devs : List Kept) → IsSpace whole slabs devs → (d : ℕ) → IsRising ((devices_of (map part_in devs)).entries d)
all_rising slabs devs space d = subst (λ (es : List Entry). IsRising es) (sym (entries_are devs d)) (stage_rising (kept_of devs d).row.state (kept_of devs d) refl (space.moved d))

-- an extent of a device that is not known is one piece
pub unknown_piece : (h : ℕ) (parts : List DevPart) (d u n : ℕ) → length parts ≤ d → pieces h (devices_of parts) d u n ≡ 1
unknown_piece zero parts d u n past = refl
unknown_piece (suc h) parts d u n past =
    let none = part_past parts d past in
    let there : is_gone (state_at (devices_of parts) d) ≡ false = ap (λ (p : DevPart). is_gone p.row.state) none in
    let stays : is_leaving (state_at (devices_of parts) d) ≡ false = ap (λ (p : DevPart). is_leaving p.row.state) none in
    rw there rw stays refl
