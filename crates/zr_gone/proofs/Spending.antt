-- What may be freed, and what a store holds, once the device is gone.
use Rattle.std.proofs.Common.{◌≡◌, ◌≢◌, inl, inr, ℕ, zero, suc, ◌+◌, ◌<◌, ◌≤◌, ◌==◌, ◌||◌, Bool, true, false, nat_lt, List, [], ◌∷◌, length, replicate, Option, Some, None, refl, sym, ◌∙◌, ap, subst, arith}
use Rattle.std.specs.Prelude.{All, Contains, if◌then◌else◌, slice_index}
use Rattle.std.proofs.Math.Path.{fun_ext}
use Rattle.std.proofs.lemmas.List.Elements.{All-cons, All-head, All-nil, All-tail}
use Rattle.std.proofs.lemmas.List.Sums.{sum_by-cons}
use Rattle.std.proofs.lemmas.Bool.{cases_eq}
use Rattle.std.proofs.lemmas.Bool.Decides.{nat_tests}
use Rattle.zr_base.specs.Extents.{has_unit}
use Rattle.zr_base.specs.declared.space.Dva.{Dva}
use Rattle.zr_base.specs.declared.space.Entry.{Entry}
use Rattle.zr_base.specs.declared.space.Extent.{Extent}
use Rattle.zr_bptr.specs.declared.Bptr.{Bptr}
use Rattle.zr_cache.specs.Entries.{entries}
use Rattle.zr_cache.specs.Sums.{Entry as Cached}
use Rattle.zr_cache.specs.declared.table.Cache.{Cache}
use Rattle.zr_chain.proofs.Ways.{cases_bool}
use Rattle.zr_rules.specs.Equation.{Spends, devices_in, fresh_in, live_hits, way_hits, ways_in}
use Rattle.zr_rules.specs.Mappings.{entry_at}
use Rattle.zr_rules.specs.Places.{Place, count_below, is_fresh, is_gone, one_if, part_of, state_of_dev}
use Rattle.zr_rules.specs.Resolve.{pass_hits, resolve_hits}
use Rattle.zr_rules.specs.Roles.{Role, is_copy_role, is_live_role, taken_over}
use Rattle.zr_rules.specs.Roles.Role.{Absent}
use Rattle.zr_rules.specs.Space.{Space, role_at}
use Rattle.zr_rules.specs.Steps.{Finishes}
use Rattle.zr_space.specs.Live.{IsFreeable}
use Rattle.zr_store.specs.Store.{Now, Stored, Swaps}
use Rattle.zr_vdev.proofs.Leading.{leads_some, zero_or}
use Rattle.zr_vdev.proofs.Moves.{held_again}
use Rattle.zr_vdev.specs.Alike.{CopiesStand}
use Rattle.zr_vdev.specs.Caches.{AreRead}
use Rattle.zr_vdev.specs.Runs.{view_of}
use Rattle.zr_vdev.specs.Stores.{HoldsBlocks, IsStoredAt, LeadsToAll, addresses_of}
use Rattle.zr_vdev.specs.declared.kind.Kind.TheVariants.{Block}
use Rattle.zr_view.specs.Views.{address_bytes}
use Rattle.zr_gone.specs.Order.{MayGo}
use Rattle.zr_gone.proofs.Going.{false_true, gone_other, next, next_away, next_here}
use Rattle.zr_gone.proofs.Leading.{IsUsed, address_here, address_once, address_other, address_reads, address_role, address_some, address_through, address_unmarked, cause}

zeros : (n i : ℕ) → slice_index (replicate n 0) i ≡ 0
zeros zero zero = refl
zeros zero (suc i) = refl
zeros (suc n) zero = refl
zeros (suc n) (suc i) = zeros n i

-- tests that exclude each other hold for no more numbers than there are
no_both : (n : ℕ) (f g : ℕ → Bool) → ((k : ℕ) → g k ≡ true → f k ≡ false) → count_below n f + count_below n g ≤ n
no_both zero f g apart = omega arith
no_both (suc n) f g apart =
    let rest = no_both n f g apart in
    let own = one_of (f n) (g n) (apart n) in
    omega (arith, rest, own)
  where
    one_of : (a b : Bool) → (b ≡ true → a ≡ false) → one_if a + one_if b ≤ 1
    one_of a false apart = one_most a
      where
        one_most : (a : Bool) → one_if a + 0 ≤ 1
        one_most true = omega arith
        one_most false = omega arith
    one_of a true apart = let none = ap one_if (apart refl) in omega (arith, none)

none_cached : (e : Cached) → Contains [] e → ⊥
none_cached e among = let lt = among.1 in omega (arith, lt)

module _ (old new : Space) (d txg : ℕ) (may : MayGo old d txg) (fin : Finishes old new d txg) where
  abbrev Used : Dva → Type 0
  Used a = IsUsed old new d txg may fin a

  used_of : (a : Dva) → IsFreeable old a → Used a
  used_of a is = record { known = is.known; resolves = is.resolves; used = is.used }

  -- ---- addresses

  abbrev source : ℕ → ℕ → ℕ × ℕ
  source x y = cause old new d txg may fin x y

  pub lives_once : (list : List Dva) (x y : ℕ) → All Used list → live_hits (devices_in new) list x y ≤ live_hits (devices_in old) list (source x y).0 (source x y).1
  lives_once [] x y all = omega arith
  lives_once (a ∷ more) x y all =
      let c = source x y in
      let first = address_once old new d txg may fin a (All-head Used a more all) x y in
      let rest = lives_once more x y (All-tail Used a more all) in
      omega (arith, first, rest, sum_by-cons (λ (b : Dva). resolve_hits (devices_in new) b x y) a more, sum_by-cons (λ (b : Dva). resolve_hits (devices_in old) b c.0 c.1) a more)

  lives_through : (list : List Dva) (p q : Place) → All Used list → next old new d txg may fin p ≡ Some q → live_hits (devices_in old) list p.0 p.1 ≤ live_hits (devices_in new) list q.0 q.1
  lives_through [] p q all to = omega arith
  lives_through (a ∷ more) p q all to =
      let first = address_through old new d txg may fin a (All-head Used a more all) p q to in
      let rest = lives_through more p q (All-tail Used a more all) to in
      omega (arith, first, rest, sum_by-cons (λ (b : Dva). resolve_hits (devices_in new) b q.0 q.1) a more, sum_by-cons (λ (b : Dva). resolve_hits (devices_in old) b p.0 p.1) a more)

  ways_other : (list : List Dva) (x y : ℕ) → x ≢ d → All Used list → way_hits (devices_in new) list x y ≡ way_hits (devices_in old) list x y
  ways_other [] x y other all = refl
  ways_other (a ∷ more) x y other all =
      let first = address_other old new d txg may fin a (All-head Used a more all) x y other in
      let rest = ways_other more x y other (All-tail Used a more all) in
      omega (arith, first, rest, sum_by-cons (λ (b : Dva). pass_hits (devices_in new) b x y) a more, sum_by-cons (λ (b : Dva). pass_hits (devices_in old) b x y) a more)

  ways_here : (list : List Dva) (y : ℕ) → All Used list → way_hits (devices_in new) list d y ≡ way_hits (devices_in old) list d y + live_hits (devices_in old) list d y
  ways_here [] y all = refl
  ways_here (a ∷ more) y all =
      let first = address_here old new d txg may fin a (All-head Used a more all) y in
      let rest = ways_here more y (All-tail Used a more all) in
      omega (arith, first, rest, sum_by-cons (λ (b : Dva). pass_hits (devices_in new) b d y) a more, sum_by-cons (λ (b : Dva). pass_hits (devices_in old) b d y) a more, sum_by-cons (λ (b : Dva). resolve_hits (devices_in old) b d y) a more)

  lives_unmarked : (list : List Dva) (y : ℕ) → All Used list → 0 < live_hits (devices_in old) list d y → is_fresh old.parts.devs d y ≡ false
  lives_unmarked [] y all some = absurd (omega (arith, some))
  lives_unmarked (a ∷ more) y all some = elim (zero_or (resolve_hits (devices_in old) a d y)) [
    | inl none ↦ lives_unmarked more y (All-tail Used a more all) (omega (arith, some, none, sum_by-cons (λ (b : Dva). resolve_hits (devices_in old) b d y) a more))
    | inr it ↦ address_unmarked old new d txg may fin a (All-head Used a more all) y it
  ]

  -- ---- what they spend

  fresh_same : (e u : ℕ) → is_fresh new.parts.devs e u ≡ is_fresh old.parts.devs e u
  fresh_same e u = elim (cases_eq e d) [
    | inl here ↦ subst (λ (k : ℕ). is_fresh new.parts.devs k u ≡ is_fresh old.parts.devs k u) (sym here) (ap (λ (list : List Extent). has_unit list u) fin.fresh)
    | inr other ↦ fin.elsewhere.fresh e u other
  ]

  module _ (list : List Dva) (sp : Spends old list) (all : All Used list) where
    passed_here : (y : ℕ) → 0 < way_hits (devices_in new) list d y → is_fresh new.parts.devs d y ≡ false
    passed_here y some =
        let now = ways_here list y all in
        fresh_same d y ∙ elim (zero_or (way_hits (devices_in old) list d y)) [
          | inl none ↦ lives_unmarked list y all (omega (arith, some, now, none))
          | inr more ↦ sp.passed d y more
        ]

    passed_still : (x y : ℕ) → 0 < way_hits (devices_in new) list x y → is_fresh new.parts.devs x y ≡ false
    passed_still x y some = elim (cases_eq x d) [
      | inl here ↦ subst (λ (k : ℕ). is_fresh new.parts.devs k y ≡ false) (sym here) (passed_here y (subst (λ (k : ℕ). 0 < way_hits (devices_in new) list k y) here some))
      | inr other ↦ let same = ways_other list x y other all in fresh_same x y ∙ sp.passed x y (omega (arith, some, same))
    ]

    abbrev HasRoom : ℕ → Type 0
    HasRoom e = (i : ℕ) → i < length (part_of new.parts.devs e).entries →
        slice_index (part_of new.parts.devs e).counts i + fresh_in (part_of new.parts.devs e) (entry_at (part_of new.parts.devs e).entries i) + ways_in (devices_in new) list e (entry_at (part_of new.parts.devs e).entries i) ≤ (entry_at (part_of new.parts.devs e).entries i).len

    -- what is passed of the device is not obsolete, and nothing is counted yet
    room_here : HasRoom d
    room_here i lt =
        let it = entry_at (part_of new.parts.devs d).entries i in
        let counts : slice_index (part_of new.parts.devs d).counts i ≡ 0 = ap (λ (ns : List ℕ). slice_index ns i) fin.counts ∙ zeros (length (part_of old.parts.devs d).entries) i in
        let few = no_both it.len (λ k. has_unit (part_of new.parts.devs d).fresh (it.src + k)) (λ k. nat_lt 0 (way_hits (devices_in new) list d (it.src + k))) (λ k is. passed_here (it.src + k) (grind (arith, nat_tests, is))) in
        omega (arith, counts, few)

    room_other : (e : ℕ) → e ≢ d → is_gone (state_of_dev new.parts.devs e) ≡ true → HasRoom e
    room_other e other gone i lt =
        let part = fin.elsewhere.others e other in
        let was = part_of old.parts.devs e in
        let now = part_of new.parts.devs e in
        let entry : entry_at now.entries i ≡ entry_at was.entries i = ap (λ (them : List Entry). entry_at them i) part.entries in
        let counts : slice_index now.counts i ≡ slice_index was.counts i = ap (λ (ns : List ℕ). slice_index ns i) part.counts in
        let at = entry_at was.entries i in
        let fresh : fresh_in now at ≡ fresh_in was at = ap (λ (test : ℕ → Bool). count_below at.len (λ k. test (at.src + k))) (fun_ext (λ (u : ℕ). fresh_same e u)) in
        let ways : ways_in (devices_in new) list e at ≡ ways_in (devices_in old) list e at = ap (λ (hits : ℕ → ℕ). count_below at.len (λ k. nat_lt 0 (hits (at.src + k)))) (fun_ext (λ (w : ℕ). ways_other list e w other all)) in
        let most = sp.entries e i (sym (gone_other old new d txg may fin e other) ∙ gone) (let same = ap (λ (them : List Entry). length them) part.entries in omega (arith, same, lt)) in
        subst (λ (it : Entry). slice_index now.counts i + fresh_in now it + ways_in (devices_in new) list e it ≤ it.len) (sym entry) (omega (arith, counts, fresh, ways, most))

    pub spends_still : Spends new list
    spends_still = record {
      passed = passed_still;
      entries = λ e i gone lt.
          let room : HasRoom e = elim (cases_eq e d) [
            | inl here ↦ subst HasRoom (sym here) room_here
            | inr other ↦ room_other e other gone
          ] in
          room i lt;
    }

  -- ---- all units in use

  -- a unit in use was one, or a copy
  role_before : (b : Bool) (r : Role) → is_live_role (if b then Absent else taken_over r) ≡ true → (b ≡ false) × ((is_live_role r || is_copy_role r) ≡ true)
  role_before true r is = absurd (false_true is)
  role_before false r is = (refl, grind (arith, nat_tests, is))

  no_copy : (b : Bool) (r : Role) → is_copy_role (if b then Absent else taken_over r) ≡ false
  no_copy true r = refl
  no_copy false r = grind (arith)

  -- so what led to it, or to the unit of which it is a copy, leads to it
  used_still : (list : List Dva) → All Used list → LeadsToAll old list → (x y : ℕ) → is_live_role (role_at new x y) ≡ true → 0 < live_hits (devices_in new) list x y
  used_still list all leads x y live =
      let was = role_before (x == d) (role_at old x y) (subst (λ (r : Role). is_live_role r ≡ true) (fin.roles x y) live) in
      elim (cases_bool (is_live_role (role_at old x y))) [
        | inl there ↦
            let away : x ≢ d = grind (arith, nat_tests, was.0) in
            let some = leads.used x y there in
            let more = lives_through list (x, y) (x, y) all (next_away old new d txg may fin (x, y) away) in
            omega (arith, some, more)
        | inr not_it ↦
            let copy : is_copy_role (role_at old x y) ≡ true = (let none = not_it in let one = was.1 in grind (arith, none, one)) in
            let from = may.order.sources x y copy in
            let some = leads.used d from.0 (leads.copied d from.0 (x, y) from.1) in
            let more = lives_through list (d, from.0) (x, y) all (next_here old new d txg may fin from.0 ∙ from.1.leads) in
            omega (arith, some, more)
      ]

  -- no unit is a copy any more
  pub leads_still : (list : List Dva) → All Used list → LeadsToAll old list → LeadsToAll new list
  leads_still list all leads = record {
    used = used_still list all leads;
    copied = λ e u p c. absurd (false_true (sym (ap is_copy_role (fin.roles p.0 p.1) ∙ no_copy (p.0 == d) (role_at old p.0 p.1)) ∙ c.copy));
  }

  -- ---- what may be freed

  alone : (a : Dva) → IsFreeable old a → All Used (a ∷ [])
  alone a is = All-cons Used a [] (used_of a is) (All-nil Used)

  pub freeable_still : (a : Dva) → IsFreeable old a → IsFreeable new a
  freeable_still a is =
      let it = used_of a is in
      record {
        known = (let known = is.known in let many = fin.elsewhere.devices in omega (arith, known, many));
        some = is.some;
        resolves = address_some old new d txg may fin a it;
        once = λ x y. (let most = is.once (source x y).0 (source x y).1 in let few = address_once old new d txg may fin a it x y in omega (arith, most, few));
        used = λ x y leads. address_role old new d txg may fin a it x y (leads_some (devices_in new) a x y leads);
        spends = spends_still (a ∷ []) is.spends (alone a is);
      }

  pub reads_still : (disks : List (List ℕ)) (slots : List (Option ℕ)) → CopiesStand disks slots old → (a : Dva) → IsFreeable old a → address_bytes (view_of disks slots new) a ≡ address_bytes (view_of disks slots old) a
  reads_still disks slots stands a is = address_reads old new d txg may fin a (used_of a is) disks slots stands

  -- ---- what a store holds

  stored_used : (ps : List Bptr) → All (λ (b : Bptr). IsStoredAt Block old None b.at) ps → All Used (addresses_of ps)
  stored_used [] all = All-nil Used
  stored_used (p ∷ ps) all =
      All-cons Used p.at (addresses_of ps) (used_of p.at (All-head (λ (b : Bptr). IsStoredAt Block old None b.at) p ps all).used) (stored_used ps (All-tail (λ (b : Bptr). IsStoredAt Block old None b.at) p ps all))

  pub held_still : (slots : List (Option ℕ)) (tells : Type 0) (disks : List (List ℕ)) (cache empty : Cache) (st : Stored) → CopiesStand disks slots old → entries empty ≡ [] → HoldsBlocks Block slots tells disks old None cache st
      → Now (HoldsBlocks Block slots tells disks new None empty) (λ n. Swaps st n [] [])
  held_still slots tells disks cache empty st stands none held =
      let all = stored_used st.pointers held.stored in
      let read : AreRead disks slots new empty = λ e among. absurd (none_cached e (subst (λ (them : List Cached). Contains them e) none among)) in
      held_again Block slots tells tells disks disks old new None cache empty st held.told read
      (λ a is. record { used = freeable_still a is.used; whole = tt })
      (λ a is. reads_still disks slots stands a is.used)
      (λ x y. (let most = held.once (source x y).0 (source x y).1 in let few = lives_once (addresses_of st.pointers) x y all in omega (arith, most, few)))
      (leads_still (addresses_of st.pointers) all held.all)
      (spends_still (addresses_of st.pointers) held.back all)
      held
