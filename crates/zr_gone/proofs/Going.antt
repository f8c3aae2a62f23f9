-- Where units lead once a device that was leaving is gone: what led to it leads where its mapping does.
use Rattle.std.proofs.Common.{◌≡◌, ◌≢◌, ◌⊎◌, inl, inr, ℕ, zero, suc, ◌+◌, ◌<◌, ◌≤◌, ◌==◌, ◌&&◌, ◌||◌, not, Bool, true, false, nat_lt, List, [], ◌∷◌, Option, Some, None, refl, sym, ◌∙◌, ap, subst, arith}
use Rattle.std.specs.Prelude.{if◌then◌else◌, option_and_then}
use Rattle.std.specs.List.{sum_by}
use Rattle.std.proofs.lemmas.List.{append-nil}
use Rattle.std.proofs.lemmas.List.Elements.{recursion_from_All}
use Rattle.std.proofs.lemmas.List.Sums.{sum_by-cons}
use Rattle.std.proofs.lemmas.Bool.{cases_eq}
use Rattle.std.proofs.lemmas.Bool.Decides.{nat_tests}
use Rattle.zr_base.specs.declared.space.DevRow.{DevRow}
use Rattle.zr_base.specs.declared.space.DevState.{DevState}
use Rattle.zr_base.specs.declared.space.DevState.TheVariants.{On, Leaving, Gone}
use Rattle.zr_base.specs.declared.space.Entry.{Entry}
use Rattle.zr_chain.proofs.Ranks.{comes_after, few_after, fewer_after, later_count}
use Rattle.zr_chain.proofs.Ways.{IsTarget, cases_bool, cases_option, target_entry}
use Rattle.zr_rules.specs.Devices.{Devices, state_at}
use Rattle.zr_rules.specs.Equation.{devices_in}
use Rattle.zr_rules.specs.Mappings.{target}
use Rattle.zr_rules.specs.Places.{Place, is_gone, is_leaving, is_place, one_if}
use Rattle.zr_rules.specs.Resolve.{IsDestination, MayLeadTo, is_there, passed, resolve, resolved}
use Rattle.zr_rules.specs.Space.{Space}
use Rattle.zr_rules.specs.Steps.{Finishes}
use Rattle.zr_gone.specs.Order.{MayGo}

pub false_true : false ≡ true → ⊥
false_true e = cc

-- how often the places have this one
abbrev pub hits_of : ℕ → ℕ → List Place → ℕ
hits_of x y ps = sum_by (λ (q : Place). one_if (is_place q x y)) ps

-- ---- a hop

passed_next : (n : ℕ) (ds : Devices) (d u : ℕ) (q : Place) → is_gone (state_at ds d) ≡ true → target (ds.entries d) u ≡ Some q → passed (suc n) ds d u ≡ (d, u) ∷ passed n ds q.0 q.1
passed_next n ds d u q gone to = rw (gone, to) (ap (λ (t : List Place). (d, u) ∷ t) (append-nil (passed n ds q.0 q.1)))

passed_end : (n : ℕ) (ds : Devices) (d u : ℕ) → is_gone (state_at ds d) ≡ true → target (ds.entries d) u ≡ None → passed (suc n) ds d u ≡ (d, u) ∷ []
passed_end n ds d u gone to = rw (gone, to) refl

passed_stop : (n : ℕ) (ds : Devices) (d u : ℕ) → is_gone (state_at ds d) ≡ false → passed n ds d u ≡ []
passed_stop zero ds d u there = refl
passed_stop (suc n) ds d u there = rw there refl

hits_next : (n : ℕ) (ds : Devices) (d u : ℕ) (q : Place) (x y : ℕ) → is_gone (state_at ds d) ≡ true → target (ds.entries d) u ≡ Some q → hits_of x y (passed (suc n) ds d u) ≡ one_if (is_place (d, u) x y) + hits_of x y (passed n ds q.0 q.1)
hits_next n ds d u q x y gone to = ap (hits_of x y) (passed_next n ds d u q gone to) ∙ sum_by-cons (λ (p : Place). one_if (is_place p x y)) (d, u) (passed n ds q.0 q.1)

resolve_gone : (n : ℕ) (ds : Devices) (d u : ℕ) → is_gone (state_at ds d) ≡ true → resolve (suc n) ds d u ≡ option_and_then (λ (q : Place). resolve n ds q.0 q.1) (target (ds.entries d) u)
resolve_gone n ds d u gone = rw gone refl

resolve_next : (n : ℕ) (ds : Devices) (d u : ℕ) (q : Place) → is_gone (state_at ds d) ≡ true → target (ds.entries d) u ≡ Some q → resolve (suc n) ds d u ≡ resolve n ds q.0 q.1
resolve_next n ds d u q gone to = resolve_gone n ds d u gone ∙ ap (option_and_then (λ (q : Place). resolve n ds q.0 q.1)) to

resolve_end : (n : ℕ) (ds : Devices) (d u : ℕ) → is_gone (state_at ds d) ≡ true → target (ds.entries d) u ≡ None → resolve (suc n) ds d u ≡ None
resolve_end n ds d u gone to = resolve_gone n ds d u gone ∙ ap (option_and_then (λ (q : Place). resolve n ds q.0 q.1)) to

resolve_stop : (n : ℕ) (ds : Devices) (d u : ℕ) → is_gone (state_at ds d) ≡ false → resolve (suc n) ds d u ≡ (if is_there ds d u then Some (d, u) else None)
resolve_stop n ds d u there = rw there refl

-- a unit of a device that is there leads to itself
record IsItself (ds : Devices) (d u : ℕ) (p : Place) : Type 0 where
  there : is_there ds d u ≡ true
  is : (d, u) ≡ p

itself : (n : ℕ) (ds : Devices) (d u : ℕ) (p : Place) → is_gone (state_at ds d) ≡ false → resolve (suc n) ds d u ≡ Some p → IsItself ds d u p
itself n ds d u p stays to = by (is_there ds d u) refl (sym (resolve_stop n ds d u stays) ∙ to)
  where
    by : (b : Bool) → is_there ds d u ≡ b → (if b then Some (d, u) else None) ≡ Some p → IsItself ds d u p
    by true is same = record { there = is; is = cc }
    by false is same = absurd (no same)
      where
        no : None ≡ Some p → ⊥
        no e = cc

stays_there : (n : ℕ) (ds : Devices) (d u : ℕ) → 0 < n → is_gone (state_at ds d) ≡ false → d < ds.count → u < (ds.row d).units → resolve n ds d u ≡ Some (d, u)
stays_there zero ds d u some stays known within = absurd (omega (arith, some))
stays_there (suc n) ds d u some stays known within =
    let there : is_there ds d u ≡ true = grind (arith, nat_tests, known, within) in
    resolve_stop n ds d u stays ∙ ap (λ (b : Bool). if b then Some (d, u) else None) there

leaving_stays : (st : DevState) → is_leaving st ≡ true → is_gone st ≡ false
leaving_stays On is = refl
leaving_stays Leaving is = refl
leaving_stays Gone is = absurd (false_true is)

comes : (x y : Bool) (a b : ℕ) → x ≡ true → (y ≡ false) ⊎ (a < b) → (x && (not y || nat_lt a b)) ≡ true
comes false y a b h later = absurd (false_true h)
comes true false a b h later = refl
comes true true a b h (inl there) = absurd (cc)
comes true true a b h (inr lt) = grind (arith, nat_tests, lt)

at_same : (d u : ℕ) → is_place (d, u) d u ≡ true
at_same d u = grind (arith, nat_tests)

same_dev : (d : ℕ) → (d == d) ≡ true
same_dev d = grind (arith, nat_tests)

other_dev : (e d : ℕ) → e ≢ d → (e == d) ≡ false
other_dev e d other = grind (arith, nat_tests, other)

-- ---- the step

module _ (old new : Space) (d txg : ℕ) (may : MayGo old d txg) (fin : Finishes old new d txg) where
  abbrev pub devices_then : Devices
  devices_then = devices_in old

  abbrev pub devices_now : Devices
  devices_now = devices_in new

  pub count_same : devices_now.count ≡ devices_then.count
  count_same = fin.elsewhere.devices

  pub gone_now : is_gone (state_at devices_now d) ≡ true
  gone_now = ap (λ (r : DevRow). is_gone r.state) fin.row_is

  pub there_then : is_gone (state_at devices_then d) ≡ false
  there_then = leaving_stays (state_at devices_then d) may.order.leaving

  pub gone_other : (e : ℕ) → e ≢ d → is_gone (state_at devices_now e) ≡ is_gone (state_at devices_then e)
  gone_other e other = ap (λ (r : DevRow). is_gone r.state) (fin.elsewhere.others e other).row

  when_other : (e : ℕ) → e ≢ d → (devices_now.row e).gone ≡ (devices_then.row e).gone
  when_other e other = ap (λ (r : DevRow). r.gone) (fin.elsewhere.others e other).row

  when_now : (devices_now.row d).gone ≡ txg
  when_now = ap (λ (r : DevRow). r.gone) fin.row_is

  pub not_it : (e : ℕ) → is_gone (state_at devices_then e) ≡ true → e ≢ d
  not_it e gone same = false_true (sym there_then ∙ (ap (λ (k : ℕ). is_gone (state_at devices_then k)) (sym same) ∙ gone))

  pub units_same : (e : ℕ) → (devices_now.row e).units ≡ (devices_then.row e).units
  units_same e = elim (cases_eq e d) [
    | inl here ↦ subst (λ (k : ℕ). (devices_now.row k).units ≡ (devices_then.row k).units) (sym here) (ap (λ (r : DevRow). r.units) fin.row_is)
    | inr other ↦ ap (λ (r : DevRow). r.units) (fin.elsewhere.others e other).row
  ]

  pub entries_same : (e : ℕ) → devices_now.entries e ≡ devices_then.entries e
  entries_same e = elim (cases_eq e d) [
    | inl here ↦ subst (λ (k : ℕ). devices_now.entries k ≡ devices_then.entries k) (sym here) fin.entries
    | inr other ↦ (fin.elsewhere.others e other).entries
  ]

  target_now : (e u : ℕ) (o : Option Place) → target (devices_then.entries e) u ≡ o → target (devices_now.entries e) u ≡ o
  target_now e u o is = ap (λ (es : List Entry). target es u) (entries_same e) ∙ is

  -- ---- ranks

  after : (e t : ℕ) → e ≢ t → is_gone (state_at devices_now e) ≡ true → MayLeadTo devices_then e t → comes_after devices_now e t ≡ true
  after e t other gone lead = elim (cases_eq t d) [
    | inl here ↦
        let away : e ≢ d = λ same. other (same ∙ sym here) in
        let was : is_gone (state_at devices_then e) ≡ true = sym (gone_other e away) ∙ gone in
        let before = may.later e was in
        let mine = when_other e away in
        let at : (devices_now.row t).gone ≡ txg = ap (λ (k : ℕ). (devices_now.row k).gone) here ∙ when_now in
        comes (is_gone (state_at devices_now e)) (is_gone (state_at devices_now t)) (devices_now.row e).gone (devices_now.row t).gone gone (inr (omega (arith, before, mine, at)))
    | inr away ↦ elim lead [
      | inl there ↦ comes (is_gone (state_at devices_now e)) (is_gone (state_at devices_now t)) (devices_now.row e).gone (devices_now.row t).gone gone (inl (gone_other t away ∙ there))
      | inr later ↦
          let mine = when_other e (not_it e later.0) in
          let its = when_other t away in
          let lt = later.1 in
          comes (is_gone (state_at devices_now e)) (is_gone (state_at devices_now t)) (devices_now.row e).gone (devices_now.row t).gone gone (inr (omega (arith, lt, mine, its)))
    ]
  ]

  -- where a unit of a device that is gone now went
  record IsNext (e : ℕ) (q : Place) : Type 0 where
    known : q.0 < devices_now.count
    other : e ≢ q.0
    within : q.1 < (devices_now.row q.0).units
    lead : MayLeadTo devices_then e q.0

  next_of : (e u : ℕ) (q : Place) → target (devices_then.entries e) u ≡ Some q → IsNext e q
  next_of e u q is =
      let at : IsTarget (IsDestination devices_then e) q = target_entry (IsDestination devices_then e) (devices_then.entries e) u q (recursion_from_All (IsDestination devices_then e) (devices_then.entries e) (may.order.ranked e)) is in
      let known : q.0 < devices_then.count = subst (λ (t : ℕ). t < devices_then.count) at.device at.holds.known in
      let units : at.entry.dst + at.entry.len ≤ (devices_then.row q.0).units = subst (λ (t : ℕ). at.entry.dst + at.entry.len ≤ (devices_then.row t).units) at.device at.holds.within in
      let high = at.within in
      let same = units_same q.0 in
      record {
        known = let many = count_same in omega (arith, known, many);
        other = λ here. at.holds.other (at.device ∙ sym here);
        within = omega (arith, units, high, same);
        lead = subst (λ (t : ℕ). MayLeadTo devices_then e t) at.device at.holds.later;
      }

  -- no device is its own destination
  pub maps_away : (e u : ℕ) (q : Place) → target (devices_then.entries e) u ≡ Some q → e ≢ q.0
  maps_away e u q is = (next_of e u q is).other

  fewer : (e : ℕ) (q : Place) → is_gone (state_at devices_now e) ≡ true → IsNext e q → later_count devices_now q.0 < later_count devices_now e
  fewer e q gone step = fewer_after devices_now e q.0 step.known (after e q.0 step.other gone step.lead)

  -- the device's own mapping leads to devices that are there
  end_stays : (q : Place) → IsNext d q → is_gone (state_at devices_now q.0) ≡ false
  end_stays q step = elim step.lead [
    | inl there ↦ gone_other q.0 (λ here. step.other (sym here)) ∙ there
    | inr later ↦ absurd (false_true (sym there_then ∙ later.0))
  ]

  -- ---- where a place leads now

  abbrev pub next : Place → Option Place
  next p = if p.0 == d then target (devices_then.entries d) p.1 else Some p

  abbrev pub is_mine : Place → ℕ → ℕ → Bool
  is_mine p x y = p.0 == d && is_place p x y

  pub record Turns (n m e u : ℕ) (p : Place) : Type 0 where
    pub leads : resolve n devices_now e u ≡ next p
    pub passes : (x y : ℕ) → hits_of x y (passed n devices_now e u) ≡ hits_of x y (passed m devices_then e u) + one_if (is_mine p x y)

  pub next_here : (u : ℕ) → next (d, u) ≡ target (devices_then.entries d) u
  next_here u = ap (λ (b : Bool). if b then target (devices_then.entries d) u else Some (d, u)) (same_dev d)

  pub next_away : (p : Place) → p.0 ≢ d → next p ≡ Some p
  next_away p other = ap (λ (b : Bool). if b then target (devices_then.entries d) p.1 else Some p) (other_dev p.0 d other)

  -- a unit of the device itself
  turns_here : (n m u : ℕ) → later_count devices_now d < suc n → Turns (suc n) m d u (d, u)
  turns_here n m u few = elim (cases_option (target (devices_then.entries d) u)) [
    | inl none ↦
        let now = target_now d u None none in
        record {
          leads = resolve_end n devices_now d u gone_now now ∙ sym (next_here u ∙ none);
          passes = λ x y. (
              let one = ap (hits_of x y) (passed_end n devices_now d u gone_now now) in
              let was = ap (hits_of x y) (passed_stop m devices_then d u there_then) in
              let sum = sum_by-cons (λ (q : Place). one_if (is_place q x y)) (d, u) [] in
              let mine = ap (λ (b : Bool). one_if (b && is_place (d, u) x y)) (same_dev d) in
              omega (arith, one, was, sum, mine));
        }
    | inr to ↦
        let now = target_now d u (Some to.0) to.1 in
        let step = next_of d u to.0 to.1 in
        let less = fewer d to.0 gone_now step in
        let stays = end_stays to.0 step in
        record {
          leads = resolve_next n devices_now d u to.0 gone_now now ∙ (stays_there n devices_now to.0.0 to.0.1 (omega (arith, less, few)) stays step.known step.within ∙ sym (next_here u ∙ to.1));
          passes = λ x y. (
              let one = hits_next n devices_now d u to.0 x y gone_now now in
              let end = ap (hits_of x y) (passed_stop n devices_now to.0.0 to.0.1 stays) in
              let was = ap (hits_of x y) (passed_stop m devices_then d u there_then) in
              let mine = ap (λ (b : Bool). one_if (b && is_place (d, u) x y)) (same_dev d) in
              omega (arith, one, end, was, mine));
        }
  ]

  -- a unit of another device that is there
  turns_there : (n m e u : ℕ) → e ≢ d → is_gone (state_at devices_then e) ≡ false → is_there devices_then e u ≡ true → Turns (suc n) m e u (e, u)
  turns_there n m e u other stays there =
      let still = gone_other e other ∙ stays in
      let count = count_same in
      let units = units_same e in
      let also : is_there devices_now e u ≡ true = grind (arith, nat_tests, there, count, units) in
      record {
        leads = resolve_stop n devices_now e u still ∙ (ap (λ (b : Bool). if b then Some (e, u) else None) also ∙ sym (next_away (e, u) other));
        passes = λ x y. (
            let now = ap (hits_of x y) (passed_stop (suc n) devices_now e u still) in
            let was = ap (hits_of x y) (passed_stop m devices_then e u stays) in
            let mine = ap (λ (b : Bool). one_if (b && is_place (e, u) x y)) (other_dev e d other) in
            omega (arith, now, was, mine));
      }

  turns : (n m e u : ℕ) (p : Place) → e < devices_now.count → later_count devices_now e < n → resolve m devices_then e u ≡ Some p → Turns n m e u p
  turns zero m e u p known few is = absurd (omega (arith, few))
  turns (suc n) zero e u p known few is = absurd (no is)
    where
      no : None ≡ Some p → ⊥
      no e = cc
  turns (suc n) (suc m) e u p known few is = elim (cases_bool (is_gone (state_at devices_then e))) [
    | inl gone ↦ elim (cases_option (target (devices_then.entries e) u)) [
      | inl none ↦
          let no : None ≡ Some p = sym (resolve_end m devices_then e u gone none) ∙ is in
          absurd (cc)
      | inr to ↦
          let still = gone_other e (not_it e gone) ∙ gone in
          let now = target_now e u (Some to.0) to.1 in
          let step = next_of e u to.0 to.1 in
          let less = fewer e to.0 still step in
          let rest = turns n m to.0.0 to.0.1 p step.known (omega (arith, less, few)) (sym (resolve_next m devices_then e u to.0 gone to.1) ∙ is) in
          record {
            leads = resolve_next n devices_now e u to.0 still now ∙ rest.leads;
            passes = λ x y. (
                let one = hits_next n devices_now e u to.0 x y still now in
                let two = hits_next m devices_then e u to.0 x y gone to.1 in
                let more = rest.passes x y in
                omega (arith, one, two, more));
          }
    ]
    | inr stays ↦
        let own = itself m devices_then e u p stays is in
        elim (cases_eq e d) [
          | inl here ↦
              let at : Turns (suc n) (suc m) d u (d, u) = turns_here n (suc m) u (subst (λ (k : ℕ). later_count devices_now k < suc n) here few) in
              subst (λ (q : Place). Turns (suc n) (suc m) e u q) own.is (subst (λ (k : ℕ). Turns (suc n) (suc m) k u (k, u)) (sym here) at)
          | inr other ↦ subst (λ (q : Place). Turns (suc n) (suc m) e u q) own.is (turns_there n (suc m) e u other stays own.there)
        ]
  ]

  -- a unit that led to a place leads where the place does
  pub unit_turns : (e u : ℕ) (p : Place) → e < devices_then.count → resolved devices_then e u ≡ Some p → Turns devices_now.count devices_then.count e u p
  unit_turns e u p known is =
      let also : e < devices_now.count = let many = count_same in omega (arith, known, many) in
      turns devices_now.count devices_then.count e u p also (few_after devices_now e also) is
