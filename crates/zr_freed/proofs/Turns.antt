-- From the last free to the first: what may be freed behind a free might be freed before it, and leads elsewhere.
use Rattle.std.proofs.Common.{◌≡◌, inl, inr, ℕ, zero, suc, ◌+◌, ◌<◌, ◌≤◌, ◌||◌, Bool, true, false, nat_lt, List, [], ◌∷◌, Option, None, refl, sym, ◌∙◌, ap, subst, arith}
use Rattle.std.specs.Prelude.{All}
use Rattle.std.specs.List.{sum_by}
use Rattle.std.proofs.lemmas.Bool.Decides.{nat_tests}
use Rattle.std.proofs.lemmas.List.Elements.{All-head, All-tail, All-cons, All-nil}
use Rattle.std.proofs.lemmas.List.Sums.{sum_by-cons}
use Rattle.zr_base.specs.declared.space.Dva.{Dva}
use Rattle.zr_base.specs.declared.space.DevState.{DevState}
use Rattle.zr_base.specs.declared.space.DevState.TheVariants.{On, Leaving, Gone}
use Rattle.zr_bptr.specs.declared.Bptr.{Bptr}
use Rattle.zr_cache.specs.declared.table.Cache.{Cache}
use Rattle.zr_freed.specs.Chains.{AreInUse, FreesInTurn}
use Rattle.zr_rules.specs.Devices.{Devices, state_at}
use Rattle.zr_obsolete.specs.Obsolete.{Fits}
use Rattle.zr_rules.specs.Equation.{Spends, devices_in, live_hits, way_hits, ways_in}
use Rattle.zr_rules.specs.Mappings.{entry_at}
use Rattle.zr_rules.specs.Frees.{Frees, marks}
use Rattle.zr_rules.specs.Places.{one_if, count_below, is_fresh, is_gone, is_leaving, part_of, state_of_dev}
use Rattle.zr_rules.specs.Resolve.{leads_to, pass_hits, resolve_hits}
use Rattle.zr_rules.specs.Space.{Space}
use Rattle.zr_space.specs.Live.{IsFreeable}
use Rattle.zr_store.specs.Store.{Stored}
use Rattle.zr_vdev.proofs.Back.{spends_turn, spends_freed}
use Rattle.zr_vdev.proofs.Follows.{give_devices}
use Rattle.zr_vdev.proofs.GoingBack.{tail_back}
use Rattle.zr_vdev.proofs.Leading.{Resolves, false_true, zero_or, some_leads}
use Rattle.zr_vdev.proofs.Moves.{bytes_now, holds_all}
use Rattle.zr_vdev.proofs.Uses.{give_ends, use_along}
use Rattle.zr_vdev.specs.Caches.{AreRead}
use Rattle.zr_vdev.specs.Stores.{HoldsBlocks, IsStoredAt, LeadsToAll, addresses_of}
use Rattle.zr_vdev.specs.declared.kind.Kind.TheVariants.{Block}

-- a unit that is obsolete behind the free and was not before is one that the address passes
bits : (was now : Bool) (own rest : ℕ) → now ≡ (was || nat_lt 0 own) → (0 < own → was ≡ false) → (0 < rest → now ≡ false) → one_if was + one_if (nat_lt 0 (own + rest)) ≤ one_if now + one_if (nat_lt 0 rest)
bits true now zero zero is own_none rest_none = grind (arith, nat_tests, is)
bits true now (suc m) rest is own_none rest_none = absurd (false_true (sym (own_none (omega arith))))
bits true now zero (suc n) is own_none rest_none = absurd (false_true (sym (rest_none (omega arith)) ∙ is))
bits false now zero zero is own_none rest_none = grind (arith, nat_tests, is)
bits false now (suc m) zero is own_none rest_none = grind (arith, nat_tests, is)
bits false now zero (suc n) is own_none rest_none = grind (arith, nat_tests, is)
bits false now (suc m) (suc n) is own_none rest_none = grind (arith, nat_tests, is)

gone_stays : (state : DevState) → is_gone state ≡ true → is_leaving state ≡ false
gone_stays On gone = cc
gone_stays Leaving gone = cc
gone_stays Gone gone = refl

not_before : (was mark now : Bool) → now ≡ (was || mark) → now ≡ false → was ≡ false
not_before true mark now is none = sym is ∙ none
not_before false mark now is none = refl

module _ (birth : ℕ) (old new : Space) (a : Dva) (may : IsFreeable old a) (frees : Frees old new a birth) where
  abbrev ds : Devices
  ds = devices_in old

  same : devices_in new ≡ ds
  same = give_devices Block old new a birth frees

  -- ---- obsolete units

  own_ways : (list : List Dva) (d u : ℕ) → way_hits (devices_in new) (a ∷ list) d u ≡ pass_hits ds a d u + way_hits (devices_in new) list d u
  own_ways list d u =
      let sum = sum_by-cons (λ (x : Dva). pass_hits (devices_in new) x d u) a list in
      let first = ap (λ (es : Devices). pass_hits es a d u) same in
      omega (arith, sum, first)

  own_unmarked : (d u : ℕ) → 0 < pass_hits ds a d u → is_fresh old.parts.devs d u ≡ false
  own_unmarked d u some = may.spends.passed d u (let sum = sum_by-cons (λ (x : Dva). pass_hits ds x d u) a [] in omega (arith, sum, some))

  fresh_gone : (d u : ℕ) → is_gone (state_of_dev old.parts.devs d) ≡ true → is_fresh new.parts.devs d u ≡ (is_fresh old.parts.devs d u || nat_lt 0 (pass_hits ds a d u))
  fresh_gone d u gone =
      let stays = gone_stays (state_of_dev old.parts.devs d) gone in
      let own : marks old a d u ≡ nat_lt 0 (pass_hits ds a d u) = grind (arith, nat_tests, stays) in
      frees.fresh d u ∙ ap (λ (b : Bool). is_fresh old.parts.devs d u || b) own

  was_gone : (d : ℕ) → is_gone (state_of_dev new.parts.devs d) ≡ true → is_gone (state_of_dev old.parts.devs d) ≡ true
  was_gone d gone = sym (ap (λ (es : Devices). is_gone (state_at es d)) same) ∙ gone

  spends_before : (list : List Dva) → Spends new list → Spends old (a ∷ list)
  spends_before list sp =
      spends_turn new old list (a ∷ list) (sym same) (λ d. sym (frees.frame.each d).counts)
      (λ d u way. elim (zero_or (pass_hits ds a d u)) [
        | inr some ↦ own_unmarked d u some
        | inl none ↦
            let sum = own_ways list d u in
            not_before (is_fresh old.parts.devs d u) (marks old a d u) (is_fresh new.parts.devs d u) (frees.fresh d u) (sp.passed d u (omega (arith, way, sum, none)))
      ])
      (λ d u gone.
      let each = bits (is_fresh old.parts.devs d u) (is_fresh new.parts.devs d u) (pass_hits ds a d u) (way_hits (devices_in new) list d u) (fresh_gone d u (was_gone d gone)) (own_unmarked d u) (sp.passed d u) in
      subst (λ (n : ℕ). one_if (is_fresh old.parts.devs d u) + one_if (nat_lt 0 n) ≤ one_if (is_fresh new.parts.devs d u) + one_if (nat_lt 0 (way_hits (devices_in new) list d u))) (sym (own_ways list d u)) each)
      sp

  one_parts : (f : Dva → ℕ) → sum_by f [] + f a ≡ sum_by f (a ∷ [])
  one_parts f = let sum = sum_by-cons f a [] in omega (arith, sum)

  one_once : (d u : ℕ) → live_hits ds (a ∷ []) d u ≤ 1
  one_once d u = let few = may.once d u in let sum = sum_by-cons (λ (x : Dva). resolve_hits ds x d u) a [] in omega (arith, few, sum)

  spends_after : Spends new []
  spends_after = spends_freed old new a birth frees same (a ∷ []) [] one_parts (All-nil (Resolves ds)) may.resolves one_once may.spends

  -- ---- where the others lead

  ends : (b : Dva) → IsFreeable new b → (d u : ℕ) → leads_to ds b d u ≡ true → leads_to ds a d u ≡ false
  ends b is d u led = (give_ends Block old new a birth may frees d u (is.used d u (subst (λ (es : Devices). leads_to es b d u ≡ true) (sym same) led))).0

  -- what may be freed behind the free might be freed before it
  before : (b : Dva) → IsFreeable new b → IsFreeable old b
  before b is =
      use_along Block new old b (sym same) (λ sp. tail_back Block old a (b ∷ []) (spends_before (b ∷ []) sp))
      (λ d u led. sym (give_ends Block old new a birth may frees d u (is.used d u led)).1) is

  -- and leads to none of its units
  none_led : (list : List Dva) → All (IsFreeable new) list → (d u : ℕ) → leads_to ds a d u ≡ true → live_hits ds list d u ≡ 0
  none_led [] all d u led = refl
  none_led (b ∷ list) all d u led =
      let rest = none_led list (All-tail (IsFreeable new) b list all) d u led in
      let sum = sum_by-cons (λ (x : Dva). resolve_hits ds x d u) b list in
      elim (zero_or (resolve_hits ds b d u)) [
        | inl none ↦ omega (arith, none, rest, sum)
        | inr some ↦ absurd (false_true (sym (ends b (All-head (IsFreeable new) b list all) d u (some_leads ds b d u some)) ∙ led))
      ]

  once_before : (list : List Dva) → AreInUse new list → (d u : ℕ) → live_hits ds (a ∷ list) d u ≤ 1
  once_before list are d u =
      let sum = sum_by-cons (λ (x : Dva). resolve_hits ds x d u) a list in
      let own = may.once d u in
      let others = are.once d u in
      let alike = ap (λ (es : Devices). live_hits es list d u) same in
      elim (zero_or (resolve_hits ds a d u)) [
        | inl none ↦ omega (arith, none, sum, others, alike)
        | inr some ↦ let none = none_led list are.each d u (some_leads ds a d u some) in omega (arith, own, sum, none)
      ]

  one_more : (list : List Dva) → AreInUse new list → AreInUse old (a ∷ list)
  one_more list are = record {
    each = All-cons (IsFreeable old) a list may (λ i e lt. before _ (are.each i e lt));
    once = once_before list are;
    spends = spends_before list are.spends;
  }

pub freed_in_use : (birth : ℕ) (old new : Space) (list : List Dva) → Spends old [] → FreesInTurn birth old new list → AreInUse old list
freed_in_use birth old new [] none is = record { each = All-nil (IsFreeable old); once = λ d u. omega arith; spends = none }
freed_in_use birth old new (a ∷ list) none (mid, (may, frees), rest) =
    one_more birth old mid a may frees list (freed_in_use birth mid new list (spends_after birth old mid a may frees) rest)

-- ---- nothing at all

none_counted : (n : ℕ) → count_below n (λ k. nat_lt 0 0) ≡ 0
none_counted zero = refl
none_counted (suc n) = let rest = none_counted n in omega (arith, rest)

pub fits_spends : (s : Space) → ((d : ℕ) → Fits (part_of s.parts.devs d).entries (part_of s.parts.devs d).counts (part_of s.parts.devs d).fresh) → Spends s []
fits_spends s fits = record {
  passed = λ d u some. absurd (omega (arith, some));
  entries = λ d i gone lt.
      let p = part_of s.parts.devs d in
      let e = entry_at p.entries i in
      let own = fits d i lt in
      let none : ways_in (devices_in s) [] d e ≡ 0 = none_counted e.len in
      omega (arith, own, none);
}

-- ---- what is held

all_stored : (s : Space) (ps : List Bptr) → All (IsFreeable s) (addresses_of ps) → All (λ (b : Bptr). IsStoredAt Block s None b.at) ps
all_stored s [] all = All-nil (λ (b : Bptr). IsStoredAt Block s None b.at)
all_stored s (p ∷ ps) all =
    All-cons (λ (b : Bptr). IsStoredAt Block s None b.at) p ps (record { used = All-head (IsFreeable s) p.at (addresses_of ps) all; whole = tt })
    (all_stored s ps (All-tail (IsFreeable s) p.at (addresses_of ps) all))

-- the blocks, as the disks have them
abbrev pub held_blocks : List (Option ℕ) → List (List ℕ) → Space → List Bptr → Stored
held_blocks slots disks s ps = record { pointers = ps; bytes = bytes_now Block slots disks s None }

pub in_use_held : (told : Type 0) (disks : List (List ℕ)) (slots : List (Option ℕ)) (cache : Cache) (s : Space) (ps : List Bptr) → told → AreRead disks slots s cache → AreInUse s (addresses_of ps) → LeadsToAll s (addresses_of ps)
    → HoldsBlocks Block slots told disks s None cache (held_blocks slots disks s ps)
in_use_held told disks slots cache s ps is_told read are all = holds_all Block slots told disks s None cache ps is_told read refl (all_stored s ps are.each) are.once all are.spends
