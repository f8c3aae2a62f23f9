-- Copies keep the bytes of their units.
use Rattle.std.proofs.Common.{◌≡◌, ℕ, ◌*◌, ◌<◌, Bool, true, false, List, Option, Some, None, inl, inr, refl, sym, ◌∙◌, ap, subst, arith}
use Rattle.std.specs.Prelude.{if◌then◌else◌}
use Rattle.std.proofs.lemmas.Bool.Decides.{nat_tests}
use Rattle.zr_base.specs.declared.space.DevRow.{DevRow}
use Rattle.zr_base.specs.declared.space.DevState.{DevState}
use Rattle.zr_base.specs.declared.space.DevState.TheVariants.{On, Leaving, Gone}
use Rattle.zr_base.specs.declared.space.Dva.{Dva}
use Rattle.zr_base.specs.declared.space.Entry.{Entry}
use Rattle.zr_base.specs.declared.space.Policy.{Policy}
use Rattle.zr_shelf.specs.Moments.{World}
use Rattle.zr_shelf.specs.Doings.{WritesOnly}
use Rattle.zr_chain.specs.Visits.{as_part}
use Rattle.zr_chain.proofs.Ways.{cases_bool}
use Rattle.zr_rules.specs.Mappings.{target}
use Rattle.zr_rules.specs.Places.{Place, is_on, is_fresh, is_leaving, in_address, part_of, state_of_dev}
use Rattle.zr_rules.specs.Roles.{Role, is_copy_role, is_held_role, freed, kept_of, dropped, aged, cleared}
use Rattle.zr_rules.specs.Roles.Role.{Free, FreshLive, Meta as MetaRole}
use Rattle.zr_rules.specs.Space.{Space, role_at}
use Rattle.zr_rules.specs.Steps.{Commits}
use Rattle.zr_view.specs.Views.{slot_of, unit_bytes}
use Rattle.zr_view.specs.Runs.{bytes_from}
use Rattle.zr_vdev.specs.declared.kind.Kind.{Kind}
use Rattle.zr_vdev.specs.declared.kind.Kind.TheVariants as kinds
use Rattle.zr_vdev.specs.Alike.{IsCopyAt, CopiesStand}
use Rattle.zr_vdev.specs.Puts.{Takes, GivesBack, MayPut, IsWriteOf}
use Rattle.zr_vdev.specs.Stores.{KeepsMarks, KeepsOthers, may_change}
use Rattle.zr_vdev.proofs.Taking.{takes_place}
use Rattle.zr_vdev.proofs.Overwriting.{run_kept}
use Rattle.zr_vdev.proofs.Apart.{unit_apart}
use Rattle.zr_vdev.proofs.Held.{one_unit}
use Rattle.zr_vdev.proofs.Uses.{IsGiven, taken_was_free, take_keeps, given_roles}

false_true : false ≡ true → ⊥
false_true e = cc

-- ---- where the space changes alone

-- rows and entries are the same, what was obsolete is so, and a copy was one before
pub record AreNoNewCopies (old new : Space) : Type 0 where
  pub row : (d : ℕ) → (part_of new.parts.devs d).row ≡ (part_of old.parts.devs d).row
  pub entries : (d : ℕ) → (part_of new.parts.devs d).entries ≡ (part_of old.parts.devs d).entries
  pub marks : (d u : ℕ) → is_fresh old.parts.devs d u ≡ true → is_fresh new.parts.devs d u ≡ true
  pub copy : (d u : ℕ) → is_copy_role (role_at new d u) ≡ true → is_copy_role (role_at old d u) ≡ true

unmarked_before : (a b : Bool) → (a ≡ true → b ≡ true) → b ≡ false → a ≡ false
unmarked_before true b up is = absurd (false_true (sym is ∙ up refl))
unmarked_before false b up is = refl

pub was_copy : (old new : Space) → AreNoNewCopies old new → (d u : ℕ) (p : Place) → IsCopyAt new d u p → IsCopyAt old d u p
was_copy old new h d u p c = record {
  leaving = sym (ap (λ (r : DevRow). is_leaving r.state) (h.row d)) ∙ c.leaving;
  within = subst (λ (r : DevRow). u < r.units) (h.row d) c.within;
  unmarked = unmarked_before (is_fresh old.parts.devs d u) (is_fresh new.parts.devs d u) (h.marks d u) c.unmarked;
  leads = sym (ap (λ (es : List Entry). target es u) (h.entries d)) ∙ c.leads;
  copy = h.copy p.0 p.1 c.copy;
}

pub copies_stay : (disks : List (List ℕ)) (slots : List (Option ℕ)) (old new : Space) → AreNoNewCopies old new → CopiesStand disks slots old → CopiesStand disks slots new
copies_stay disks slots old new h stand d u p c = stand d u p (was_copy old new h d u p c)

freed_copy : (r : Role) → is_copy_role (freed r) ≡ true → is_copy_role r ≡ true
freed_copy r is = grind (arith, nat_tests, is)

kept_copy : (r : Role) → is_copy_role (kept_of r) ≡ true → is_copy_role r ≡ true
kept_copy r is = grind (arith, nat_tests, is)

dropped_copy : (r : Role) → is_copy_role (dropped r) ≡ true → is_copy_role r ≡ true
dropped_copy r is = grind (arith, nat_tests, is)

aged_copy : (r : Role) → is_copy_role (aged r) ≡ true → is_copy_role r ≡ true
aged_copy r is = grind (arith, nat_tests, is)

cleared_copy : (r : Role) → is_copy_role (cleared r) ≡ true → is_copy_role r ≡ true
cleared_copy r is = grind (arith, nat_tests, is)

-- giving back makes no copy
given_copy : (kind : Kind) (old new : Role) → IsGiven kind old new → is_copy_role new ≡ true → is_copy_role old ≡ true
given_copy kinds.Block old new (inl same) is = sym (ap is_copy_role same) ∙ is
given_copy kinds.Block old new (inr (inl r)) is = freed_copy old (sym (ap is_copy_role r) ∙ is)
given_copy kinds.Block old new (inr (inr r)) is = kept_copy old (sym (ap is_copy_role r) ∙ is)
given_copy kinds.Meta old new (inl same) is = sym (ap is_copy_role same) ∙ is
given_copy kinds.Meta old new (inr r) is = dropped_copy old (sym (ap is_copy_role r) ∙ is)

-- what was obsolete is so
pub marks_on : (kind : Kind) (old new : Space) → KeepsMarks kind old new → (d u : ℕ) → is_fresh old.parts.devs d u ≡ true → is_fresh new.parts.devs d u ≡ true
marks_on kinds.Block old new h d u is = h d u is
marks_on kinds.Meta old new h d u is = h d u ∙ is

-- with others kept, just the roles are left to be told
pub with_others : (kind : Kind) (old new : Space) → KeepsOthers kind old new → ((d u : ℕ) → is_copy_role (role_at new d u) ≡ true → is_copy_role (role_at old d u) ≡ true) → AreNoNewCopies old new
with_others kind old new h copy = record {
  row = λ d. (h.rows.each d).row;
  entries = λ d. (h.rows.each d).entries;
  marks = marks_on kind old new h.marks;
  copy = copy;
}

pub given_no_copy : (kind : Kind) (old new : Space) (a : Dva) (birth : ℕ) → KeepsOthers kind old new → GivesBack kind old new a birth → AreNoNewCopies old new
given_no_copy kind old new a birth others gives = with_others kind old new others (λ d u is. given_copy kind (role_at old d u) (role_at new d u) (given_roles kind old new a birth gives d u) is)

if_yes : {A : Type 0} (b : Bool) (x y : A) → b ≡ true → (if b then x else y) ≡ x
if_yes true x y h = refl
if_yes false x y h = cc

taken_no_copy : (kind : Kind) (policy : Policy) (want : ℕ) (old new : Space) (at : Dva) → Takes kind policy want old new at → (d u : ℕ) → in_address at d u ≡ true → is_copy_role (role_at new d u) ≡ false
taken_no_copy kinds.Block policy want old new at takes d u is = ap is_copy_role (takes.roles d u ∙ if_yes (in_address at d u) FreshLive (role_at old d u) is)
taken_no_copy kinds.Meta policy want old new at takes d u is = ap is_copy_role (takes.roles d u ∙ if_yes (in_address at d u) MetaRole (role_at old d u) is)

pub taken_copy : (kind : Kind) (policy : Policy) (want : ℕ) (old new : Space) (at : Dva) → Takes kind policy want old new at → (d u : ℕ) → is_copy_role (role_at new d u) ≡ true → is_copy_role (role_at old d u) ≡ true
taken_copy kind policy want old new at takes d u copy = elim (cases_bool (in_address at d u)) [
  | inl is ↦ absurd (false_true (sym (taken_no_copy kind policy want old new at takes d u is) ∙ copy))
  | inr out ↦ sym (ap is_copy_role (take_keeps kind policy want old new at takes d u out)) ∙ copy
]

-- where metadata alone was given back or taken, what is held stays
held_copy : (r : Role) → is_copy_role r ≡ true → is_held_role r ≡ true
held_copy r is = grind (arith, nat_tests, is)

pub held_stays : (r : Role) → is_held_role r ≡ true → may_change kinds.Meta r ≡ false
held_stays r is = grind (arith, nat_tests, is)

pub metadata_no_copy : (old new : Space) → KeepsOthers kinds.Meta old new → AreNoNewCopies old new
metadata_no_copy old new h = with_others kinds.Meta old new h (λ d u is.
    let held = sym (h.held d u) ∙ held_copy (role_at new d u) is in
    sym (ap is_copy_role (h.stays d u (held_stays (role_at old d u) held))) ∙ is)

-- a group ends
ended_copy : (reset : Bool) (r q : Role) → q ≡ (if reset then cleared r else aged r) → is_copy_role q ≡ true → is_copy_role r ≡ true
ended_copy true r q is copy = cleared_copy r (sym (ap is_copy_role is) ∙ copy)
ended_copy false r q is copy = aged_copy r (sym (ap is_copy_role is) ∙ copy)

pub commits_no_copy : (reset : Bool) (old new : Space) → Commits reset old new → AreNoNewCopies old new
commits_no_copy reset old new h = record {
  row = h.rows;
  entries = h.entries;
  marks = λ d u is. h.fresh d u ∙ is;
  copy = λ d u is. ended_copy reset (role_at old d u) (role_at new d u) (h.roles d u) is;
}

pub copies_none : (disks : List (List ℕ)) (slots : List (Option ℕ)) (s : Space) → ((d : ℕ) → is_leaving (state_of_dev s.parts.devs d) ≡ false) → CopiesStand disks slots s
copies_none disks slots s none d u p c = absurd (false_true (sym (none d) ∙ c.leaving))

-- ---- where free units are written

pub unit_run : (disks : List (List ℕ)) (slot : Option ℕ) (u : ℕ) → unit_bytes disks slot u ≡ bytes_from disks slot u (4096 * 1)
unit_run disks None u = refl
unit_run disks (Some slot) u = refl

own_device : (at : Dva) (d u : ℕ) → in_address at d u ≡ true → at.dev ≡ d
own_device at d u is = grind (arith, nat_tests, is)

on_stays : (st : DevState) → is_on st ≡ true → is_leaving st ≡ false
on_stays On is = refl
on_stays Leaving is = absurd (false_true is)
on_stays Gone is = refl

module _ (slots : List (Option ℕ)) (at : Dva) (apart : (d e slot : ℕ) → slot_of slots d ≡ Some slot → slot_of slots e ≡ Some slot → d ≡ e) (some : 0 < at.len) (old new : World) (writes : WritesOnly (IsWriteOf slots at) old new) where
  -- a unit that is none of the address has its bytes
  pub unit_kept : (d u : ℕ) → in_address at d u ≡ false → unit_bytes new.now.seen (slot_of slots d) u ≡ unit_bytes old.now.seen (slot_of slots d) u
  unit_kept d u out =
      unit_run new.now.seen (slot_of slots d) u ∙ (run_kept slots at apart old new writes (as_part (one_unit d u)) (unit_apart at d u some out) ∙ sym (unit_run old.now.seen (slot_of slots d) u))

  module _ (s : Space) (serves : is_leaving (state_of_dev s.parts.devs at.dev) ≡ false) where
    -- a device that is leaving has none of them
    pub source_out : (d u : ℕ) → is_leaving (state_of_dev s.parts.devs d) ≡ true → in_address at d u ≡ false
    source_out d u leaving = elim (cases_bool (in_address at d u)) [
      | inl is ↦ absurd (false_true (sym serves ∙ subst (λ e. is_leaving (state_of_dev s.parts.devs e) ≡ true) (sym (own_device at d u is)) leaving))
      | inr out ↦ out
    ]

    pub copies_over : ((d u : ℕ) → in_address at d u ≡ true → role_at s d u ≡ Free) → CopiesStand old.now.seen slots s → CopiesStand new.now.seen slots s
    copies_over free stand d u p c = unit_kept p.0 p.1 place_out ∙ (stand d u p c ∙ sym (unit_kept d u (source_out d u c.leaving)))
      where
        place_out : in_address at p.0 p.1 ≡ false
        place_out = elim (cases_bool (in_address at p.0 p.1)) [
          | inl is ↦ absurd (false_true (sym (ap is_copy_role (free p.0 p.1 is)) ∙ c.copy))
          | inr out ↦ out
        ]

-- a put
pub copies_put : (kind : Kind) (policy : Policy) (want : ℕ) (slots : List (Option ℕ)) → ((d e slot : ℕ) → slot_of slots d ≡ Some slot → slot_of slots e ≡ Some slot → d ≡ e) → 0 < want
    → (s t : Space) (before now : World) (taken : Option Dva) → KeepsOthers kind s t → MayPut kind policy want slots s t before now taken → CopiesStand before.now.seen slots s → CopiesStand now.now.seen slots t
copies_put kind policy want slots apart some s t before now None others (same, still) stand =
    subst (λ (w : World). CopiesStand w.now.seen slots t) (sym still) (subst (λ (x : Space). CopiesStand before.now.seen slots x) (sym same) stand)
copies_put kind policy want slots apart some s t before now (Some at) others (takes, writes) stand =
    let place = takes_place kind policy want s t at takes in
    let len = place.len in
    let serves = on_stays (state_of_dev s.parts.devs at.dev) place.serves in
    copies_stay now.now.seen slots s t (with_others kind s t others (λ d u is. taken_copy kind policy want s t at takes d u is))
    (copies_over slots at apart (omega (arith, len, some)) before now writes s serves (λ d u is. taken_was_free kind policy want s t at takes d u is) stand)
