-- A block of one unit that is in use is one piece everywhere, so it may be freed.
use Rattle.std.proofs.Common.{◌≡◌, ◌⊎◌, inl, inr, ℕ, ◌+◌, ◌-◌, ◌<◌, Bool, true, false, ◌&&◌, ◌||◌, nat_lt, List, [], ◌∷◌, ◌++◌, refl, ◌∙◌, sym, ap, subst, arith, if◌then◌else◌, ⊎_elim, Option, Some, None, is_some}
use Rattle.std.specs.List.{All, sum_by, list_any, list_all, flat_map}
use Rattle.std.proofs.lemmas.Bool.Decides.{nat_tests}
use Rattle.std.proofs.lemmas.List.Elements.{All-cons, All-nil}
use Rattle.std.proofs.lemmas.List.Sums.{sum_by-cons}
use Rattle.zr_base.specs.declared.space.Dva.{Dva}
use Rattle.zr_base.specs.declared.space.DevPart.{DevPart}
use Rattle.zr_base.specs.declared.space.Entry.{Entry}
use Rattle.zr_rules.specs.Places.{Place, one_if, is_leaving, is_fresh, is_held, part_of}
use Rattle.zr_rules.specs.Devices.{Devices, state_at}
use Rattle.zr_rules.specs.Mappings.{IsRising}
use Rattle.zr_rules.specs.Resolve.{is_at, is_resolved, is_there, leads_to, resolved, resolved_units, IsRanked}
use Rattle.zr_rules.specs.Roles.{Role, is_live_role, is_copy_role}
use Rattle.zr_rules.specs.Roles.Role.{FreshLive, Live, FreshCopy, Copy}
use Rattle.zr_rules.specs.Space.{Space, copy_hits, is_copy_by, role_at, IsLawful}
use Rattle.zr_rules.specs.Equation.{devices_in}
use Rattle.zr_rules.specs.Frees.{copy_from, in_any, leads_to_copied, marks}
use Rattle.zr_reckon.specs.Uses.{AllAre, IsWhole}
use Rattle.zr_reckon.specs.Pieces.{copies_at, copies_of, ends_of, IsFreeable, IsWholeCopy}
use Rattle.zr_reckon.proofs.Cancelled.{is_a_copy}
use Rattle.zr_reckon.proofs.Copies.{into_copy}
use Rattle.zr_reckon.proofs.FreePieces.{live_there}
use Rattle.zr_reckon.proofs.FreeUnit.{one_end, one_part}
use Rattle.zr_reckon.proofs.Leads.{leads_into}

-- ---- copies are counted

entry_hits : (p : DevPart) (d u : ℕ) (test : Entry → Bool) → ((e : Entry) → test e ≡ true → is_copy_by p d u e ≡ true) → (es : List Entry) → list_any test es ≡ true → 0 < sum_by (λ (e : Entry). one_if (is_copy_by p d u e)) es
entry_hits p d u test by [] is = absurd (cc)
entry_hits p d u test by (e ∷ es) is = by_first (test e) refl (by e) (entry_hits p d u test by es)
  where
    by_first : (b : Bool) → test e ≡ b → (test e ≡ true → is_copy_by p d u e ≡ true) → (list_any test es ≡ true → 0 < sum_by (λ (x : Entry). one_if (is_copy_by p d u x)) es) → 0 < sum_by (λ (x : Entry). one_if (is_copy_by p d u x)) (e ∷ es)
    by_first true here it rest =
        let s = sum_by-cons (λ (x : Entry). one_if (is_copy_by p d u x)) e es in
        let one = ap one_if (it here) in
        omega (arith, s, one)
    by_first false here it rest =
        let s = sum_by-cons (λ (x : Entry). one_if (is_copy_by p d u x)) e es in
        let r = rest (rw here at is) in
        omega (arith, s, r)

copy_by : (s : Space) (a : Dva) (p : DevPart) (source d u : ℕ) (e : Entry) → leads_to_copied s a p source d u e ≡ true → is_copy_by p d u e ≡ true
copy_by s a p source d u e is = first (is_copy_by p d u e) (leads_to (devices_in s) a source (e.src + (u - e.dst))) is
  where
    first : (x y : Bool) → (x && y) ≡ true → x ≡ true
    first true y is = refl
    first false y is = is

copied_hits : (s : Space) (a : Dva) (d u source : ℕ) (parts : List DevPart) → copy_from s a source parts d u ≡ true → 0 < copy_hits parts d u
copied_hits s a d u source [] is = absurd (cc)
copied_hits s a d u source (p ∷ parts) is = by_first (is_leaving p.row.state) (list_any (leads_to_copied s a p source d u) p.entries) refl refl (copied_hits s a d u (source + 1) parts)
  where
    each : DevPart → ℕ
    each q = if is_leaving q.row.state then sum_by (λ (e : Entry). one_if (is_copy_by q d u e)) q.entries else 0

    by_first : (x y : Bool) → is_leaving p.row.state ≡ x → list_any (leads_to_copied s a p source d u) p.entries ≡ y → (copy_from s a (source + 1) parts d u ≡ true → 0 < copy_hits parts d u) → 0 < copy_hits (p ∷ parts) d u
    by_first true true leaving some rest =
        let c = sum_by-cons each p parts in
        let h = entry_hits p d u (leads_to_copied s a p source d u) (copy_by s a p source d u) p.entries some in
        let w : each p ≡ sum_by (λ (e : Entry). one_if (is_copy_by p d u e)) p.entries = rw leaving refl in
        omega (arith, c, h, w)
    by_first true false leaving some rest =
        let c = sum_by-cons each p parts in
        let r = rest (later (is_leaving p.row.state) (list_any (leads_to_copied s a p source d u) p.entries) (copy_from s a (source + 1) parts d u) some is) in
        omega (arith, c, r)
      where
        later : (x y z : Bool) → y ≡ false → ((x && y) || z) ≡ true → z ≡ true
        later true y z none either = grind (arith, none, either)
        later false y z none either = either
    by_first false y leaving some rest =
        let c = sum_by-cons each p parts in
        let r = rest (later (is_leaving p.row.state) (list_any (leads_to_copied s a p source d u) p.entries) (copy_from s a (source + 1) parts d u) leaving is) in
        omega (arith, c, r)
      where
        later : (x y z : Bool) → x ≡ false → ((x && y) || z) ≡ true → z ≡ true
        later x y z none either = grind (arith, none, either)

-- ---- roles

live_roles : (r : Role) → is_live_role r ≡ true → (r ≡ FreshLive) ⊎ (r ≡ Live)
live_roles FreshLive is = inl refl
live_roles Live is = inr refl
live_roles _ is = absurd (cc)

copy_roles : (r : Role) → is_copy_role r ≡ true → (r ≡ FreshCopy) ⊎ (r ≡ Copy)
copy_roles FreshCopy is = inl refl
copy_roles Copy is = inr refl
copy_roles _ is = absurd (cc)

all_one : (s : Space) (m : Dva) (r : Role) → m.len ≡ 1 → role_at s m.dev m.start ≡ r → AllAre s m r
all_one s m r one is u inside = let same : u ≡ m.start = grind (arith, nat_tests, inside, one) in ap (role_at s m.dev) same ∙ is

-- ---- where the unit leads

-- a place to which an address of one unit leads
record Led (ds : Devices) (a : Dva) : Type 0 where
  pub dev : ℕ
  pub unit : ℕ
  pub leads : leads_to ds a dev unit ≡ true

led : (ds : Devices) (a : Dva) → a.len ≡ 1 → is_resolved ds a ≡ true → Led ds a
led ds a one is = by_place (resolved ds a.dev a.start) refl
  where
    units : resolved_units ds a ≡ resolved ds a.dev a.start ∷ []
    units = ap (λ (n : ℕ). resolved_units ds (record a { len = n })) one

    by_place : (o : Option Place) → resolved ds a.dev a.start ≡ o → Led ds a
    by_place None none =
        let x : is_resolved ds a ≡ false = ap (list_all (λ (p : Option Place). is_some p)) (units ∙ ap (λ (o : Option Place). o ∷ []) none) in
        let y : false ≡ true = sym x ∙ is in
        absurd (cc)
    by_place (Some p) some = record {
      dev = p.0;
      unit = p.1;
      leads = ap (list_any (λ (o : Option Place). is_at o p.0 p.1)) (units ∙ ap (λ (o : Option Place). o ∷ []) some) ∙ (grind (arith, nat_tests));
    }

module _ (s : Space) (a : Dva) (l : IsLawful s) (ranked : IsRanked (devices_in s)) (rising : (d : ℕ) → IsRising (part_of s.parts.devs d).entries) (one : a.len ≡ 1) (there : is_resolved (devices_in s) a ≡ true)
    (used : (d u : ℕ) → leads_to (devices_in s) a d u ≡ true → is_live_role (role_at s d u) ≡ true) (unmarked : (d u : ℕ) → marks s a d u ≡ true → is_fresh s.parts.devs d u ≡ false) where
  at_end : (m : Dva) → ends_of (devices_in s) a ≡ m ∷ [] → m.len ≡ 1 → is_live_role (role_at s m.dev m.start) ≡ true
  at_end m is len =
      let p = led (devices_in s) a one there in
      let inside = ap (λ (ms : List Dva). in_any ms p.dev p.unit) (sym is) ∙ leads_into (devices_in s) a p.dev p.unit p.leads in
      let dev : p.dev ≡ m.dev = grind (arith, nat_tests, inside) in
      let unit : p.unit ≡ m.start = grind (arith, nat_tests, inside, len) in
      ap (λ (d : ℕ). is_live_role (role_at s d m.start)) (sym dev) ∙ (ap (λ (u : ℕ). is_live_role (role_at s p.dev u)) (sym unit) ∙ used p.dev p.unit p.leads)

  whole_end : (m : Dva) → ends_of (devices_in s) a ≡ m ∷ [] → m.len ≡ 1 → IsWhole s m
  whole_end m is len = ⊎_elim
      (λ fresh. inl (all_one s m FreshLive len fresh))
      (λ old. inr (all_one s m Live len old))
      (live_roles (role_at s m.dev m.start) (at_end m is len))

  known : (m : Dva) → ends_of (devices_in s) a ≡ m ∷ [] → m.len ≡ 1 → (d u : ℕ) → in_any (ends_of (devices_in s) a) d u ≡ true → is_there (devices_in s) d u ≡ true
  known m is len d u inside =
      let here = ap (λ (ms : List Dva). in_any ms d u) (sym is) ∙ inside in
      let dev : d ≡ m.dev = grind (arith, nat_tests, here) in
      let unit : u ≡ m.start = grind (arith, nat_tests, here, len) in
      let live = ap (λ (k : ℕ). is_live_role (role_at s k u)) dev ∙ (ap (λ (v : ℕ). is_live_role (role_at s m.dev v)) unit ∙ at_end m is len) in
      let h = live_there s d u live in
      grind (arith, nat_tests, h)

  whole_copy : (m c : Dva) → ends_of (devices_in s) a ≡ m ∷ [] → m.len ≡ 1 → copies_of (devices_in s) a ≡ c ∷ [] → c.len ≡ 1 → IsWholeCopy s c
  whole_copy m c is len copies short =
      let first : in_any (c ∷ []) c.dev c.start ≡ true = grind (arith, nat_tests, short) in
      let inside = ap (λ (ms : List Dva). in_any ms c.dev c.start) copies ∙ first in
      let copied = into_copy s a c.dev c.start (known m is len) rising unmarked inside in
      let hits = copied_hits s a c.dev c.start 0 s.parts.devs copied in
      let lawful = l.copies c.dev c.start in
      let held : is_held s.parts.devs c.dev c.start ≡ true = grind (arith, nat_tests, lawful, hits) in
      let role = is_a_copy s l c.dev c.start held ∙ (let some : nat_lt 0 (copy_hits s.parts.devs c.dev c.start) ≡ true = grind (arith, nat_tests, hits) in some) in
      ⊎_elim
      (λ fresh. inl (all_one s c FreshCopy short fresh))
      (λ old. inr (all_one s c Copy short old))
      (copy_roles (role_at s c.dev c.start) role)

  whole_copies : (m : Dva) → ends_of (devices_in s) a ≡ m ∷ [] → m.len ≡ 1 → All (IsWholeCopy s) (copies_of (devices_in s) a)
  whole_copies m is len = by_state (is_leaving (state_at (devices_in s) m.dev)) refl
    where
      by_state : (b : Bool) → is_leaving (state_at (devices_in s) m.dev) ≡ b → All (IsWholeCopy s) (copies_of (devices_in s) a)
      by_state false stays =
          let none : copies_of (devices_in s) a ≡ [] = ap (flat_map (copies_at (devices_in s))) is ∙ (rw stays refl) in
          subst (All (IsWholeCopy s)) (sym none) (All-nil (IsWholeCopy s))
      by_state true leaving = ⊎_elim
          (λ none.
          let empty : copies_of (devices_in s) a ≡ [] = ap (flat_map (copies_at (devices_in s))) is ∙ (rw leaving (ap (λ (ms : List Dva). ms ++ []) none)) in
          subst (All (IsWholeCopy s)) (sym empty) (All-nil (IsWholeCopy s)))
          (λ some.
          let single : copies_of (devices_in s) a ≡ some.run ∷ [] = ap (flat_map (copies_at (devices_in s))) is ∙ (rw leaving (ap (λ (ms : List Dva). ms ++ []) some.is)) in
          subst (All (IsWholeCopy s)) (sym single) (All-cons (IsWholeCopy s) some.run [] (whole_copy m some.run is len single some.len) (All-nil (IsWholeCopy s))))
          (one_part (devices_in s) m.dev m.start m.len 0 ((devices_in s).entries m.dev) len (rising m.dev) (ranked m.dev))

  pub unit_freeable : IsFreeable s a
  unit_freeable = ⊎_elim
      (λ none.
      let copies : copies_of (devices_in s) a ≡ [] = ap (flat_map (copies_at (devices_in s))) none in
      record { blocks = subst (All (IsWhole s)) (sym none) (All-nil (IsWhole s)); copies = subst (All (IsWholeCopy s)) (sym copies) (All-nil (IsWholeCopy s)); unmarked = unmarked; rising = rising })
      (λ some. record {
        blocks = subst (All (IsWhole s)) (sym some.is) (All-cons (IsWhole s) some.run [] (whole_end some.run some.is some.len) (All-nil (IsWhole s)));
        copies = whole_copies some.run some.is some.len;
        unmarked = unmarked;
        rising = rising;
      })
      (one_end (devices_in s) rising ranked (devices_in s).count a.dev a.start a.len one)
