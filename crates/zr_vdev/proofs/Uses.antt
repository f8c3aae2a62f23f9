-- Which units are in use, and what taking and giving back makes of them.
use Rattle.std.proofs.Common.{◌≡◌, ◌⊎◌, inl, inr, ℕ, ◌+◌, ◌<◌, ◌≤◌, ◌&&◌, Bool, true, false, not, nat_lt, List, [], ◌∷◌, length, Option, Some, refl, sym, ◌∙◌, ap, subst, arith}
use Rattle.std.specs.Prelude.{if◌then◌else◌, is_some}
use Rattle.std.specs.List.{list_any, sum_by}
use Rattle.std.proofs.lemmas.Bool.Decides.{nat_tests}
use Rattle.std.proofs.lemmas.List.Folds.{list_any-append}
use Rattle.std.proofs.lemmas.List.Sums.{sum_by-cons}
use Rattle.zr_base.specs.declared.space.Dva.{Dva}
use Rattle.zr_base.specs.declared.space.DevPart.{DevPart}
use Rattle.zr_base.specs.declared.space.DevState.{DevState}
use Rattle.zr_base.specs.declared.space.DevState.TheVariants.{On, Leaving, Gone}
use Rattle.zr_base.specs.declared.space.Entry.{Entry}
use Rattle.zr_base.specs.declared.space.Policy.{Policy}
use Rattle.zr_base.proofs.ExtentSets.{has_unit-at}
use Rattle.zr_base.specs.Extents.{in_extent, extent_at, has_unit}
use Rattle.zr_chain.proofs.Ways.{cases_bool}
use Rattle.zr_rules.specs.Places.{Place, one_if, is_on, is_gone, is_leaving, is_held, is_kept, in_address, address_hits, part_of, state_of_dev, units_of_dev}
use Rattle.zr_rules.specs.Devices.{Devices, state_at}
use Rattle.zr_rules.specs.Resolve.{resolved, leads_to, is_resolved, resolve_hits}
use Rattle.zr_rules.specs.Roles.{Role, is_live_role, is_meta_role, is_free_role, freed, kept_of, dropped}
use Rattle.zr_rules.specs.Roles.Role.{Absent, Free, FreshLive, Live, FreshCopy, Copy, Kept, DeferredBlock, DeferredMeta, Late1Block, Late1Meta, Late2Block, Late2Meta, Meta, SavedMeta}
use Rattle.zr_rules.specs.Space.{Space, role_at, has_place, has_late, is_born, opened_of, copy_hits, is_copy_by}
use Rattle.zr_rules.specs.Placement.{IsPlacement}
use Rattle.zr_rules.specs.Columns.{free_of}
use Rattle.zr_rules.specs.Frees.{keeps, copy_from, is_copy_of, leads_to_copied, in_any}
use Rattle.zr_rules.specs.Equation.{devices_in}
use Rattle.zr_space.specs.Drops.{HasRole, IsMeta}
use Rattle.zr_space.specs.Paths.{AreInService}
use Rattle.zr_space.proofs.Paths.{within_resolves}
use Rattle.zr_vdev.specs.declared.kind.Kind.{Kind}
use Rattle.zr_vdev.specs.declared.kind.Kind.TheVariants as kinds
use Rattle.zr_vdev.specs.Puts.{Takes, GivesBack}
use Rattle.zr_vdev.specs.Stores.{IsInUse, IsTaken, MayGoBack}
use Rattle.zr_vdev.proofs.Taking.{takes_place}
use Rattle.zr_vdev.proofs.Reading.{all-led}
use Rattle.zr_vdev.proofs.Leading.{false_true, own_within, leads_own, not_own, own_leads, own_hits}

-- ---- where an address leads, with all devices in service

module _ (ds : Devices) (on : AreInService ds) where
  pub itself : (d u : ℕ) → d < ds.count → u < (ds.row d).units → resolved ds d u ≡ Some (d, u)
  itself d u known lt = own_within ds d (on.there d) u known lt

  pub leads_inside : (a : Dva) (d u : ℕ) → leads_to ds a d u ≡ true → in_address a d u ≡ true
  leads_inside a d u is = leads_own ds a (on.there a.dev) d u is

  pub leads_there : (a : Dva) (d u : ℕ) → a.dev < ds.count → a.start + a.len ≤ (ds.row a.dev).units → in_address a d u ≡ true → leads_to ds a d u ≡ true
  leads_there a d u known within is = own_leads ds a (on.there a.dev) (within_resolves ds a on known within) d u is

-- ---- roles

-- the roles of what is of the kind
abbrev pub is_of : Kind → Role → Bool
is_of kinds.Block r = is_live_role r
is_of kinds.Meta r = is_meta_role r

pub same_place : (a : Dva) (d u : ℕ) → in_address a d u ≡ true → d ≡ a.dev
same_place a d u is = grind (arith, nat_tests, is)

absent : (s : Space) (d u : ℕ) → has_place s d u ≡ false → role_at s d u ≡ Absent
unfolding role_at
absent s d u none = rw none refl

-- metadata is on a device that is there
meta_place : (s : Space) (d u : ℕ) → is_meta_role (role_at s d u) ≡ true → has_place s d u ≡ true
meta_place s d u is = elim (cases_bool (has_place s d u)) [
  | inl has ↦ has
  | inr none ↦ absurd (false_true (sym (ap is_meta_role (absent s d u none)) ∙ is))
]

-- ---- a copy is of no block

no_live : (p h k c b x1 x2 x3 x4 x5 x6 x7 x8 : Bool) → c ≡ true
    → is_live_role (if not p then Absent else (if h then (if k then Kept else (if c then (if b then FreshCopy else Copy) else (if b then FreshLive else Live)))
    else (if x1 then DeferredBlock else (if x2 then DeferredMeta else (if x3 then Late1Block else (if x4 then Late1Meta else (if x5 then Late2Block else (if x6 then Late2Meta else (if x7 then Meta else (if x8 then SavedMeta else Free)))))))))) ≡ false
no_live false h k c b x1 x2 x3 x4 x5 x6 x7 x8 is = refl
no_live true true true c b x1 x2 x3 x4 x5 x6 x7 x8 is = refl
no_live true true false true true x1 x2 x3 x4 x5 x6 x7 x8 is = refl
no_live true true false true false x1 x2 x3 x4 x5 x6 x7 x8 is = refl
no_live true true false false b x1 x2 x3 x4 x5 x6 x7 x8 is = cc
no_live true false k c b true x2 x3 x4 x5 x6 x7 x8 is = refl
no_live true false k c b false true x3 x4 x5 x6 x7 x8 is = refl
no_live true false k c b false false true x4 x5 x6 x7 x8 is = refl
no_live true false k c b false false false true x5 x6 x7 x8 is = refl
no_live true false k c b false false false false true x6 x7 x8 is = refl
no_live true false k c b false false false false false true x7 x8 is = refl
no_live true false k c b false false false false false false true x8 is = refl
no_live true false k c b false false false false false false false true is = refl
no_live true false k c b false false false false false false false false is = refl

copied_role : (s : Space) (d u : ℕ) → nat_lt 0 (copy_hits s.parts.devs d u) ≡ true → is_live_role (role_at s d u) ≡ false
unfolding role_at
copied_role s d u is =
    no_live (has_place s d u) (is_held s.parts.devs d u) (is_kept s.parts.devs d u) (nat_lt 0 (copy_hits s.parts.devs d u)) (is_born s d u) (has_unit (opened_of s d).deferred u) (has_unit (opened_of s d).dropped u)
    (has_late false (part_of s.parts.devs d).late1 u) (has_late true (part_of s.parts.devs d).late1 u) (has_late false (part_of s.parts.devs d).late2 u) (has_late true (part_of s.parts.devs d).late2 u)
    (nat_lt 0 (address_hits s.meta d u)) (nat_lt 0 (address_hits s.saved_meta d u)) is

pub entry_copies : (s : Space) (a : Dva) (p : DevPart) (source d u : ℕ) (es : List Entry) → list_any (leads_to_copied s a p source d u) es ≡ true → 0 < sum_by (λ (e : Entry). one_if (is_copy_by p d u e)) es
entry_copies s a p source d u [] is = absurd (false_true is)
entry_copies s a p source d u (e ∷ es) is =
    let more = list_any-append (leads_to_copied s a p source d u) (e ∷ []) es in
    let sum = sum_by-cons (λ (x : Entry). one_if (is_copy_by p d u x)) e es in
    elim (cases_bool (is_copy_by p d u e)) [
      | inl here ↦ let one = ap one_if here in omega (arith, one, sum)
      | inr none ↦ let rest = entry_copies s a p source d u es (grind (arith, nat_tests, more, is, none)) in omega (arith, rest, sum)
    ]

pub copies_counted : (s : Space) (a : Dva) (source : ℕ) (parts : List DevPart) (d u : ℕ) → copy_from s a source parts d u ≡ true → 0 < copy_hits parts d u
copies_counted s a source [] d u is = absurd (false_true is)
copies_counted s a source (p ∷ ps) d u is =
    let sum = sum_by-cons (λ (q : DevPart). if is_leaving q.row.state then sum_by (λ (e : Entry). one_if (is_copy_by q d u e)) q.entries else 0) p ps in
    elim (cases_bool (is_leaving p.row.state && list_any (leads_to_copied s a p source d u) p.entries)) [
      | inl here ↦
          let leaves : is_leaving p.row.state ≡ true = grind (arith, nat_tests, here) in
          let any : list_any (leads_to_copied s a p source d u) p.entries ≡ true = grind (arith, nat_tests, here) in
          let some = entry_copies s a p source d u p.entries any in
          let own : (if is_leaving p.row.state then sum_by (λ (e : Entry). one_if (is_copy_by p d u e)) p.entries else 0) ≡ sum_by (λ (e : Entry). one_if (is_copy_by p d u e)) p.entries = rw leaves refl in
          omega (arith, some, own, sum)
      | inr none ↦ let rest = copies_counted s a (source + 1) ps d u (grind (arith, nat_tests, is, none)) in omega (arith, rest, sum)
    ]

copy_not_live : (s : Space) (a : Dva) (d u : ℕ) → is_copy_of s a d u ≡ true → is_live_role (role_at s d u) ≡ false
copy_not_live s a d u is = let some = copies_counted s a 0 s.parts.devs d u is in copied_role s d u (grind (arith, nat_tests, some))

-- ---- what is in use

pub use_known : (kind : Kind) (s : Space) (a : Dva) → IsInUse kind s a → a.dev < length s.parts.devs
use_known kinds.Block s a h = h.known
use_known kinds.Meta s a h = h.known

pub use_some : (kind : Kind) (s : Space) (a : Dva) → IsInUse kind s a → 0 < a.len
use_some kinds.Block s a h = h.some
use_some kinds.Meta s a h = h.some

at_dev : (s : Space) (a : Dva) (d u : ℕ) (is : in_address a d u ≡ true) → role_at s a.dev u ≡ role_at s d u
at_dev s a d u is = ap (λ (e : ℕ). role_at s e u) (sym (same_place a d u is))

own_dev : (a : Dva) (d u : ℕ) → in_address a d u ≡ true → in_address a a.dev u ≡ true
own_dev a d u is = grind (arith, nat_tests, is)

meta_roles : (s : Space) (a : Dva) → HasRole s a Meta ⊎ HasRole s a SavedMeta → (d u : ℕ) → in_address a d u ≡ true → is_meta_role (role_at s d u) ≡ true
meta_roles s a (inl has) d u is = ap is_meta_role (sym (at_dev s a d u is) ∙ has u (own_dev a d u is))
meta_roles s a (inr has) d u is = ap is_meta_role (sym (at_dev s a d u is) ∙ has u (own_dev a d u is))

module _ (s : Space) (a : Dva) (h : IsMeta s a) where
  -- metadata is on a device that is not gone
  pub meta_stays : is_gone (state_at (devices_in s) a.dev) ≡ false
  meta_stays =
      let some = h.some in
      let first : in_address a a.dev a.start ≡ true = grind (arith, nat_tests, some) in
      let has = meta_place s a.dev a.start (meta_roles s a h.used a.dev a.start first) in
      grind (arith, nat_tests, has)

  meta_resolves : is_resolved (devices_in s) a ≡ true
  meta_resolves =
      all-led (devices_in s) a.dev a.start a.len (λ k lt.
      let known = h.known in let within = h.within in
      ap (λ (o : Option Place). is_some o) (own_within (devices_in s) a.dev meta_stays (a.start + k) (omega (arith, known)) (omega (arith, within, lt))))

pub use_resolves : (kind : Kind) (s : Space) (a : Dva) → IsInUse kind s a → is_resolved (devices_in s) a ≡ true
use_resolves kinds.Block s a h = h.resolves
use_resolves kinds.Meta s a h = meta_resolves s a h

-- each unit to which an address in use leads has a role of the kind
pub use_roles : (kind : Kind) (s : Space) (a : Dva) → IsInUse kind s a → (d u : ℕ) → leads_to (devices_in s) a d u ≡ true → is_of kind (role_at s d u) ≡ true
use_roles kinds.Block s a h d u is = h.used d u is
use_roles kinds.Meta s a h d u is = meta_roles s a h.used d u (leads_own (devices_in s) a (meta_stays s a h) d u is)

one_most : (b : Bool) → one_if b ≤ 1
one_most true = omega arith
one_most false = omega arith

-- and is led to once
pub use_once : (kind : Kind) (s : Space) (a : Dva) → IsInUse kind s a → (d u : ℕ) → resolve_hits (devices_in s) a d u ≤ 1
use_once kinds.Block s a h d u = h.once d u
use_once kinds.Meta s a h d u = let few = own_hits (devices_in s) a (meta_stays s a h) d u in let one = one_most (in_address a d u) in omega (arith, few, one)

module _ (s t : Space) (a : Dva) (same : ((u : ℕ) → in_address a a.dev u ≡ true → role_at t a.dev u ≡ role_at s a.dev u)) where
  roles_along : HasRole s a Meta ⊎ HasRole s a SavedMeta → HasRole t a Meta ⊎ HasRole t a SavedMeta
  roles_along (inl has) = inl (λ u is. same u is ∙ has u is)
  roles_along (inr has) = inr (λ u is. same u is ∙ has u is)

units_along : (s t : Space) (d : ℕ) → devices_in t ≡ devices_in s → units_of_dev t.parts.devs d ≡ units_of_dev s.parts.devs d
units_along s t d same = ap (λ (ds : Devices). (ds.row d).units) same

-- an address whose units keep their roles, and which may still go back, stays in use
pub use_along : (kind : Kind) (s t : Space) (a : Dva) → devices_in t ≡ devices_in s → (MayGoBack kind s (a ∷ []) → MayGoBack kind t (a ∷ [])) → ((d u : ℕ) → leads_to (devices_in s) a d u ≡ true → role_at t d u ≡ role_at s d u) → IsInUse kind s a → IsInUse kind t a
use_along kinds.Block s t a same back roles h =
    let count : length t.parts.devs ≡ length s.parts.devs = ap (λ (ds : Devices). ds.count) same in
    let known = h.known in
    record {
      known = omega (arith, known, count);
      some = h.some;
      resolves = subst (λ (ds : Devices). is_resolved ds a ≡ true) (sym same) h.resolves;
      once = λ d u. subst (λ (ds : Devices). resolve_hits ds a d u ≤ 1) (sym same) (h.once d u);
      used = λ d u leads.
          let was : leads_to (devices_in s) a d u ≡ true = subst (λ (ds : Devices). leads_to ds a d u ≡ true) same leads in
          ap is_live_role (roles d u was) ∙ h.used d u was;
      spends = back h.spends;
    }
use_along kinds.Meta s t a same back roles h =
    let count : length t.parts.devs ≡ length s.parts.devs = ap (λ (ds : Devices). ds.count) same in
    let units = units_along s t a.dev same in
    let known = h.known in let within = h.within in
    record {
      known = omega (arith, known, count);
      some = h.some;
      within = omega (arith, within, units);
      used = roles_along s t a (λ u is. roles a.dev u (own_leads (devices_in s) a (meta_stays s a h) (meta_resolves s a h) a.dev u is)) h.used;
    }

-- ---- units that are taken

free_is : (r : Role) → is_free_role r ≡ true → r ≡ Free
free_is Absent h = cc
free_is Free h = refl
free_is FreshLive h = cc
free_is Live h = cc
free_is FreshCopy h = cc
free_is Copy h = cc
free_is Kept h = cc
free_is DeferredBlock h = cc
free_is DeferredMeta h = cc
free_is Late1Block h = cc
free_is Late1Meta h = cc
free_is Late2Block h = cc
free_is Late2Meta h = cc
free_is Meta h = cc
free_is SavedMeta h = cc

both_first : (a b : Bool) → (a && b) ≡ true → a ≡ true
both_first true b h = refl
both_first false b h = cc

-- a placement has free units
placed_free : (s : Space) (policy : Policy) (want : ℕ) (at : Dva) → IsPlacement (free_of s) policy want at → (d u : ℕ) → in_address at d u ≡ true → role_at s d u ≡ Free
placed_free s policy want at p d u is =
    let len = p.len in let fits = p.fits in let front = p.front in
    let inside : in_extent (extent_at p.runs p.index) u ≡ true = grind (arith, nat_tests, is, len, fits, front) in
    let has = has_unit-at p.index u p.runs (record { start = 0; len = 0 }) p.inside inside in
    let free : is_free_role (role_at s at.dev u) ≡ true = both_first _ _ (sym (p.are_runs.members u) ∙ has) in
    sym (at_dev s at d u is) ∙ free_is (role_at s at.dev u) free

if_true : {A : Type 0} (b : Bool) (x y : A) → b ≡ true → (if b then x else y) ≡ x
if_true true x y h = refl
if_true false x y h = cc

if_false : {A : Type 0} (b : Bool) (x y : A) → b ≡ false → (if b then x else y) ≡ y
if_false true x y h = cc
if_false false x y h = refl

pub taken_was_free : (kind : Kind) (policy : Policy) (want : ℕ) (old new : Space) (at : Dva) → Takes kind policy want old new at → (d u : ℕ) → in_address at d u ≡ true → role_at old d u ≡ Free
taken_was_free kind policy want old new at takes = placed_free old policy want at (takes_place kind policy want old new at takes)

pub take_keeps : (kind : Kind) (policy : Policy) (want : ℕ) (old new : Space) (at : Dva) → Takes kind policy want old new at → (d u : ℕ) → in_address at d u ≡ false → role_at new d u ≡ role_at old d u
take_keeps kinds.Block policy want old new at takes d u out = takes.roles d u ∙ if_false (in_address at d u) FreshLive (role_at old d u) out
take_keeps kinds.Meta policy want old new at takes d u out = takes.roles d u ∙ if_false (in_address at d u) Meta (role_at old d u) out

on_there : (state : DevState) → is_on state ≡ true → (is_gone state ≡ false) × (is_leaving state ≡ false)
on_there On on = (refl, refl)
on_there Leaving on = cc
on_there Gone on = cc

-- what is taken lies on a device in service
pub taken_serves : (kind : Kind) (policy : Policy) (want : ℕ) (old new : Space) (at : Dva) → Takes kind policy want old new at → devices_in new ≡ devices_in old → is_on (state_of_dev new.parts.devs at.dev) ≡ true
taken_serves kind policy want old new at takes same = ap (λ (ds : Devices). is_on (state_at ds at.dev)) same ∙ (takes_place kind policy want old new at takes).serves

pub serves_stays : (s : Space) (d : ℕ) → is_on (state_of_dev s.parts.devs d) ≡ true → (is_gone (state_at (devices_in s) d) ≡ false) × (is_leaving (state_at (devices_in s) d) ≡ false)
serves_stays s d on = on_there (state_of_dev s.parts.devs d) on

-- what was taken is in use
pub taken_in_use : (kind : Kind) (policy : Policy) (want : ℕ) (old new : Space) (at : Dva) → Takes kind policy want old new at → devices_in new ≡ devices_in old → MayGoBack kind new (at ∷ []) → 0 < want → at.start + at.len ≤ units_of_dev new.parts.devs at.dev → IsInUse kind new at
taken_in_use kinds.Block policy want old new at takes same back some within =
    let len = takes.place.len in
    let stays = (serves_stays new at.dev (taken_serves kinds.Block policy want old new at takes same)).0 in
    let known : at.dev < length new.parts.devs = let k = takes.place.known in let c : length new.parts.devs ≡ length old.parts.devs = ap (λ (ds : Devices). ds.count) same in omega (arith, k, c) in
    record {
      known = known;
      some = omega (arith, len, some);
      resolves = all-led (devices_in new) at.dev at.start at.len (λ k lt. ap (λ (o : Option Place). is_some o) (own_within (devices_in new) at.dev stays (at.start + k) known (omega (arith, within, lt))));
      once = λ d u. let few = own_hits (devices_in new) at stays d u in let one = one_most (in_address at d u) in omega (arith, few, one);
      used = λ d u leads. ap is_live_role (takes.roles d u ∙ if_true (in_address at d u) FreshLive (role_at old d u) (leads_own (devices_in new) at stays d u leads));
      spends = back;
    }
taken_in_use kinds.Meta policy want old new at takes same back some within =
    let len = takes.place.len in
    record {
      known = let k = takes.place.known in let c : length new.parts.devs ≡ length old.parts.devs = ap (λ (ds : Devices). ds.count) same in omega (arith, k, c);
      some = omega (arith, len, some);
      within = within;
      used = inl (λ u is. takes.roles at.dev u ∙ if_true (in_address at at.dev u) Meta (role_at old at.dev u) is);
    }

-- what a put took leads to its own units
module _ (kind : Kind) (s : Space) (a : Dva) (h : IsTaken kind s a) where
  pub taken_own : (d u : ℕ) → leads_to (devices_in s) a d u ≡ true → in_address a d u ≡ true
  taken_own d u is = leads_own (devices_in s) a (serves_stays s a.dev h.serves).0 d u is

  pub own_taken : (d u : ℕ) → in_address a d u ≡ true → leads_to (devices_in s) a d u ≡ true
  own_taken d u is = own_leads (devices_in s) a (serves_stays s a.dev h.serves).0 (use_resolves kind s a h.used) d u is

-- ---- units that are given back

freed_other : (b : Bool) (r : Role) → is_live_role (if b then kept_of r else freed r) ≡ false
freed_other true r = grind (arith, nat_tests)
freed_other false r = grind (arith, nat_tests)

copy_other : (r : Role) → is_live_role (freed r) ≡ false
copy_other r = grind (arith, nat_tests)

dropped_other : (r : Role) → is_meta_role (dropped r) ≡ false
dropped_other r = grind (arith, nat_tests)

any_one : (a : Dva) (d u : ℕ) → in_any (a ∷ []) d u ≡ in_address a d u
any_one a d u = grind (arith, nat_tests)

-- units in use to which the address does not lead keep their roles
pub give_keeps : (kind : Kind) (old new : Space) (a : Dva) (birth : ℕ) → IsInUse kind old a → GivesBack kind old new a birth → (d u : ℕ) → leads_to (devices_in old) a d u ≡ false → is_of kind (role_at old d u) ≡ true → role_at new d u ≡ role_at old d u
give_keeps kinds.Block old new a birth h gives d u out live = elim (cases_bool (is_copy_of old a d u)) [
  | inl copy ↦ absurd (false_true (sym (copy_not_live old a d u copy) ∙ live))
  | inr none ↦ gives.roles d u ∙ if_false (leads_to (devices_in old) a d u) _ _ out ∙ if_false (is_copy_of old a d u) _ _ none
]
give_keeps kinds.Meta old new a birth h gives d u out live = elim (cases_bool (in_address a d u)) [
  | inl inside ↦ absurd (false_true (sym out ∙ own_leads (devices_in old) a (meta_stays old a h) (meta_resolves old a h) d u inside))
  | inr outside ↦ gives.0.roles d u ∙ if_false (in_any (a ∷ []) d u) _ _ (any_one a d u ∙ outside)
]

-- what is in use then is none of the units that were given back, and was so before
pub give_ends : (kind : Kind) (old new : Space) (a : Dva) (birth : ℕ) → IsInUse kind old a → GivesBack kind old new a birth → (d u : ℕ) → is_of kind (role_at new d u) ≡ true → (leads_to (devices_in old) a d u ≡ false) × (role_at new d u ≡ role_at old d u)
give_ends kinds.Block old new a birth h gives d u live = elim (cases_bool (leads_to (devices_in old) a d u)) [
  | inl leads ↦ absurd (false_true (sym (ap is_live_role (gives.roles d u ∙ if_true (leads_to (devices_in old) a d u) _ _ leads) ∙ freed_other (keeps old.parts.ckpt birth) (role_at old d u)) ∙ live))
  | inr out ↦ elim (cases_bool (is_copy_of old a d u)) [
    | inl copy ↦ absurd (false_true (sym (ap is_live_role (gives.roles d u ∙ if_false (leads_to (devices_in old) a d u) _ _ out ∙ if_true (is_copy_of old a d u) _ _ copy) ∙ copy_other (role_at old d u)) ∙ live))
    | inr none ↦ (out, gives.roles d u ∙ if_false (leads_to (devices_in old) a d u) _ _ out ∙ if_false (is_copy_of old a d u) _ _ none)
  ]
]
give_ends kinds.Meta old new a birth h gives d u live = elim (cases_bool (in_address a d u)) [
  | inl inside ↦ absurd (false_true (sym (ap is_meta_role (gives.0.roles d u ∙ if_true (in_any (a ∷ []) d u) _ _ (any_one a d u ∙ inside)) ∙ dropped_other (role_at old d u)) ∙ live))
  | inr outside ↦ (not_own (devices_in old) a (meta_stays old a h) d u outside, gives.0.roles d u ∙ if_false (in_any (a ∷ []) d u) _ _ (any_one a d u ∙ outside))
]

-- ---- what a unit becomes that may have been given back

-- the role is as it was, or what giving back makes of it
abbrev pub IsGiven : Kind → Role → Role → Type 0
IsGiven kinds.Block old new = (new ≡ old) ⊎ ((new ≡ freed old) ⊎ (new ≡ kept_of old))
IsGiven kinds.Meta old new = (new ≡ old) ⊎ (new ≡ dropped old)

kept_or : (b : Bool) (r q : Role) → q ≡ (if b then kept_of r else freed r) → IsGiven kinds.Block r q
kept_or true r q is = inr (inr is)
kept_or false r q is = inr (inl is)

pub given_roles : (kind : Kind) (old new : Space) (a : Dva) (birth : ℕ) → GivesBack kind old new a birth → (d u : ℕ) → IsGiven kind (role_at old d u) (role_at new d u)
given_roles kinds.Block old new a birth gives d u = elim (cases_bool (leads_to (devices_in old) a d u)) [
  | inl leads ↦ kept_or (keeps old.parts.ckpt birth) (role_at old d u) (role_at new d u) (gives.roles d u ∙ if_true (leads_to (devices_in old) a d u) _ _ leads)
  | inr out ↦ elim (cases_bool (is_copy_of old a d u)) [
    | inl copy ↦ inr (inl (gives.roles d u ∙ if_false (leads_to (devices_in old) a d u) _ _ out ∙ if_true (is_copy_of old a d u) _ _ copy))
    | inr none ↦ inl (gives.roles d u ∙ if_false (leads_to (devices_in old) a d u) _ _ out ∙ if_false (is_copy_of old a d u) _ _ none)
  ]
]
given_roles kinds.Meta old new a birth gives d u = elim (cases_bool (in_any (a ∷ []) d u)) [
  | inl inside ↦ inr (gives.0.roles d u ∙ if_true (in_any (a ∷ []) d u) _ _ inside)
  | inr outside ↦ inl (gives.0.roles d u ∙ if_false (in_any (a ∷ []) d u) _ _ outside)
]
