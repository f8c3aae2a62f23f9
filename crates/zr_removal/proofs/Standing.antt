-- Copies have the bytes of their units behind each line of a removal: where a removal begins, ends or is given up there are none.
use Rattle.std.proofs.Common.{◌≡◌, ◌≢◌, ◌∙◌, inl, inr, ℕ, suc, ◌+◌, ◌<◌, Bool, true, false, List, [], ◌∷◌, length, Option, Some, None, refl, sym, ap, subst, arith}
use Rattle.std.specs.Prelude.{◌==◌, ◌&&◌, if◌then◌else◌, not}
use Rattle.std.proofs.lemmas.Bool.{cases_eq}
use Rattle.std.proofs.lemmas.List.{get_or-set_other}
use Rattle.zr_base.specs.declared.space.CondPart.{CondPart}
use Rattle.zr_base.specs.declared.space.Condensed.{Condensed}
use Rattle.zr_base.specs.declared.space.DevPart.{DevPart}
use Rattle.zr_base.specs.declared.space.DevRow.{DevRow}
use Rattle.zr_base.specs.declared.space.DevState.{DevState}
use Rattle.zr_base.specs.declared.space.DevState.TheVariants.{Gone, Leaving, On}
use Rattle.zr_base.specs.declared.space.Entry.{Entry}
use Rattle.zr_base.specs.declared.space.Extent.{Extent}
use Rattle.zr_rules.specs.Condense.{folded, is_due}
use Rattle.zr_rules.specs.Frees.{IsSamePart}
use Rattle.zr_rules.specs.Mappings.{target}
use Rattle.zr_rules.specs.Places.{Place, is_gone, is_leaving, part_of, state_of_dev}
use Rattle.zr_rules.specs.Roles.{Role, given_up, is_copy_role, taken_over}
use Rattle.zr_rules.specs.Roles.Role.{Absent}
use Rattle.zr_rules.specs.Space.{Space, role_at}
use Rattle.zr_rules.specs.Steps.{Condenses, CondensesFrom, CondensesSome, Remaps, due_device, due_from, worked}
use Rattle.zr_space.specs.Condensing.{IsUnderWay}
use Rattle.zr_sync.specs.Copies.{HasCopies}
use Rattle.zr_sync.specs.declared.open.OpenPool.{OpenPool}
use Rattle.zr_sync.specs.declared.open.Table.{Table}
use Rattle.zr_vdev.proofs.Alike.{copies_stay, metadata_no_copy}
use Rattle.zr_vdev.specs.Alike.{CopiesStand, IsCopyAt}
use Rattle.zr_view.specs.Views.{slot_of, unit_bytes}
use Rattle.zr_removal.specs.Refusals.{HasNoRemoval}
use Rattle.zr_removal.specs.Turns.{ComesBack, ForgetsSlot, LeavesPool, Vanishes}
use Rattle.zr_removal.proofs.Condensed.{both_ways}

false_true : false ≡ true → ⊥
false_true e = cc

-- ---- where no unit is a copy

uncopied_stand : (disks : List (List ℕ)) (slots : List (Option ℕ)) (s : Space) → ((d u : ℕ) → is_copy_role (role_at s d u) ≡ false) → CopiesStand disks slots s
uncopied_stand disks slots s none d u p c = absurd (false_true (sym (none p.0 p.1) ∙ c.copy))

taken_none : (b : Bool) (r : Role) → is_copy_role (if b then Absent else taken_over r) ≡ false
taken_none true r = refl
taken_none false r = grind (arith)

given_none : (r : Role) → is_copy_role (given_up r) ≡ false
given_none r = grind (arith)

-- a device is gone: its copies are blocks like others
pub copies_vanished : (disks : List (List ℕ)) (x y : OpenPool) (d : ℕ) → Vanishes x y d → HasCopies disks y
copies_vanished disks x y d h =
    copies_stay disks y.table.slots h.gone y.space (metadata_no_copy h.gone y.space h.streams)
    (uncopied_stand disks y.table.slots h.gone (λ e u. ap is_copy_role (h.finishes.roles e u) ∙ taken_none (e == d) (role_at h.given e u)))

-- a removal is given up: its copies are freed
pub copies_back : (disks : List (List ℕ)) (x y : OpenPool) (d : ℕ) → ComesBack x y d → HasCopies disks y
copies_back disks x y d h =
    copies_stay disks y.table.slots h.back y.space (metadata_no_copy h.back y.space h.streams)
    (uncopied_stand disks y.table.slots h.back (λ e u. ap is_copy_role (h.cancels.roles e u) ∙ given_none (role_at x.space e u)))

-- ---- a removal begins

-- the device that begins to leave has no entries yet, and no other is leaving
pub copies_out : (disks : List (List ℕ)) (x y : OpenPool) (d : ℕ) → LeavesPool x y d → HasNoRemoval x.space → HasCopies disks y
copies_out disks x y d h none e u p c = elim (cases_eq e d) [
  | inl here ↦
      let empty : (part_of y.space.parts.devs e).entries ≡ [] = ap (λ (k : ℕ). (part_of y.space.parts.devs k).entries) here ∙ h.leaves.entries in
      let no_way : None ≡ Some p = sym (ap (λ (es : List Entry). target es u) empty) ∙ c.leads in
      absurd cc
  | inr other ↦ absurd (false_true (sym (none e) ∙ (sym (ap (λ (r : DevRow). is_leaving r.state) (h.leaves.elsewhere.others e other).row) ∙ c.leaving)))
]

-- ---- the disk of a device that is gone is forgotten

-- a device is there that has a copy
there_alone : (a g b : Bool) (r : Role) → is_copy_role (if not (a && (not g && b)) then Absent else r) ≡ true → g ≡ false
there_alone a false b r is = refl
there_alone true true b r is = absurd (false_true is)
there_alone false true b r is = absurd (false_true is)

copy_there : (s : Space) (d u : ℕ) → is_copy_role (role_at s d u) ≡ true → is_gone (state_of_dev s.parts.devs d) ≡ false
unfolding role_at
copy_there s d u is = there_alone _ (is_gone (state_of_dev s.parts.devs d)) _ _ is

leaving_there : (s : DevState) → is_leaving s ≡ true → is_gone s ≡ false
leaving_there On is = refl
leaving_there Leaving is = refl
leaving_there Gone is = absurd (false_true is)

module _ (x y : OpenPool) (d : ℕ) (h : ForgetsSlot x y d) (gone : is_gone (state_of_dev x.space.parts.devs d) ≡ true) where
  -- each device that is there has its slot
  pub slot_stays : (e : ℕ) → is_gone (state_of_dev x.space.parts.devs e) ≡ false → slot_of y.table.slots e ≡ slot_of x.table.slots e
  slot_stays e there = ap (λ (t : Table). slot_of t.slots e) h.table ∙ get_or-set_other x.table.slots d e None None other
    where
      other : e ≢ d
      other here = false_true (sym there ∙ (ap (λ (k : ℕ). is_gone (state_of_dev x.space.parts.devs k)) here ∙ gone))

  pub copies_forgotten : (disks : List (List ℕ)) → HasCopies disks x → HasCopies disks y
  copies_forgotten disks stand = subst (λ (s : Space). CopiesStand disks y.table.slots s) (sym (ap (λ (p : OpenPool). p.space) h.rest)) (λ e u p c.
      ap (λ (slot : Option ℕ). unit_bytes disks slot p.1) (slot_stays p.0 (copy_there x.space p.0 p.1 c.copy))
      ∙ (stand e u p c ∙ sym (ap (λ (slot : Option ℕ). unit_bytes disks slot u) (slot_stays e (leaving_there (state_of_dev x.space.parts.devs e) c.leaving)))))

-- ---- a mapping is condensed

-- each copy was one before
abbrev pub WereCopies : Space → Space → Type 0
WereCopies s t = (e u : ℕ) (p : Place) → IsCopyAt t e u p → IsCopyAt s e u p

-- the mapping of a device that is gone is another
copies_remapped : (s t : Space) (d : ℕ) (entries : List Entry) (counts : List ℕ) (fresh : List Extent) (cond : Option CondPart) → Remaps s t d entries counts fresh cond → is_gone (state_of_dev s.parts.devs d) ≡ true → WereCopies s t
copies_remapped s t d entries counts fresh cond r gone e u p c = record {
  leaving = sym (ap (λ (row : DevRow). is_leaving row.state) part.row) ∙ c.leaving;
  within = subst (λ (row : DevRow). u < row.units) part.row c.within;
  unmarked = sym (r.elsewhere.fresh e u other) ∙ c.unmarked;
  leads = sym (ap (λ (es : List Entry). target es u) part.entries) ∙ c.leads;
  copy = sym (ap is_copy_role (r.roles p.0 p.1)) ∙ c.copy;
}
  where
    other : e ≢ d
    other here =
        let still : is_gone (state_of_dev t.parts.devs e) ≡ true = ap (λ (k : ℕ). is_gone (state_of_dev t.parts.devs k)) here ∙ (ap (λ (row : DevRow). is_gone row.state) r.row_is ∙ gone) in
        false_true (sym (leaving_there (state_of_dev t.parts.devs e) c.leaving) ∙ still)

    part : IsSamePart (part_of s.parts.devs e) (part_of t.parts.devs e)
    part = r.elsewhere.others e other

copies_through : (s t : Space) (counts : List ℕ) (fresh : List Extent) (c : CondPart) (outcome : Condensed) → Condenses s counts fresh c outcome t → is_gone (state_of_dev s.parts.devs c.dev) ≡ true → WereCopies s t
copies_through s t counts fresh c outcome m gone =
    both_ways ((worked (part_of s.parts.devs c.dev).entries counts c).at == length (part_of s.parts.devs c.dev).entries) m
    (λ done. copies_remapped s t c.dev _ _ _ _ done.1 gone)
    (λ kept. copies_remapped s t c.dev _ _ _ _ kept.1 gone)

same_some : (a b : ℕ) → Some a ≡ Some b → a ≡ b
same_some a b e = cc

-- a device whose mapping is due is gone
due_gone : (parts : List DevPart) (k d : ℕ) → due_from k parts ≡ Some d → (i : ℕ) × (d ≡ k + i) × (is_gone (part_of parts i).row.state ≡ true)
due_gone [] k d is = cc
due_gone (p ∷ ps) k d is = by (is_gone p.row.state) (is_due p) refl is (λ later. due_gone ps (k + 1) d later)
  where
    by : (g b : Bool) → is_gone p.row.state ≡ g → (if g && b then Some k else due_from (k + 1) ps) ≡ Some d → (due_from (k + 1) ps ≡ Some d → (i : ℕ) × (d ≡ k + 1 + i) × (is_gone (part_of ps i).row.state ≡ true)) → (i : ℕ) × (d ≡ k + i) × (is_gone (part_of (p ∷ ps) i).row.state ≡ true)
    by true true gone here rest = (0, (let e : k ≡ d = same_some k d here in omega (arith, e)), gone)
    by true false gone later rest = let found = rest later in (suc found.0, (let e = found.1 in omega (arith, e)), found.2)
    by false b gone later rest = let found = rest later in (suc found.0, (let e = found.1 in omega (arith, e)), found.2)

due_is_gone : (s : Space) (d : ℕ) → due_device s ≡ Some d → is_gone (state_of_dev s.parts.devs d) ≡ true
due_is_gone s d is =
    let found = due_gone s.parts.devs 0 d is in
    subst (λ (k : ℕ). is_gone (state_of_dev s.parts.devs k) ≡ true) (let e = found.1 in omega (arith, e)) found.2

copies_from : (cond : Option CondPart) (due : Option ℕ) (s t : Space) (outcome : Condensed) → CondensesFrom cond due s outcome t → ((c : CondPart) → cond ≡ Some c → IsUnderWay s c) → ((d : ℕ) → due ≡ Some d → is_gone (state_of_dev s.parts.devs d) ≡ true) → WereCopies s t
copies_from (Some c) due s t outcome m under_way dues =
    copies_through s t (part_of s.parts.devs c.dev).counts (part_of s.parts.devs c.dev).fresh c outcome m (ap (λ (state : DevState). is_gone state) (under_way c refl).gone)
copies_from None (Some d) s t outcome m under_way dues =
    copies_through s t (folded (part_of s.parts.devs d).entries (part_of s.parts.devs d).counts (part_of s.parts.devs d).fresh) [] (record { dev = d; at = 0; entries = []; counts = [] }) outcome m (dues d refl)
copies_from None None s t outcome m under_way dues = subst (λ (space : Space). WereCopies s space) (sym m.1) (λ e u p c. c)

pub were_condensed : (s t : Space) (outcome : Condensed) → CondensesSome s outcome t → ((c : CondPart) → s.parts.cond ≡ Some c → IsUnderWay s c) → WereCopies s t
were_condensed s t outcome step under_way = copies_from s.parts.cond (due_device s) s t outcome step under_way (due_is_gone s)

pub copies_condensed : (disks : List (List ℕ)) (slots : List (Option ℕ)) (s t : Space) (outcome : Condensed) → CondensesSome s outcome t → ((c : CondPart) → s.parts.cond ≡ Some c → IsUnderWay s c) → CopiesStand disks slots s → CopiesStand disks slots t
copies_condensed disks slots s t outcome step under_way stand e u p c = stand e u p (were_condensed s t outcome step under_way e u p c)
