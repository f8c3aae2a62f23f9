-- A space of which some devices were changed.
use Rattle.std.proofs.Common.{◌≡◌, ℕ, suc, ◌+◌, ◌<◌, ◌^◌, ◌&&◌, true, false, ◌==◌, nat_lt, List, [], ◌∷◌, ◌++◌, map, length, refl, ◌∙◌, sym, ap, ap₂, subst, arith, ⊎_elim, if◌then◌else◌}
use Rattle.std.specs.List.{sum_by}
use Rattle.std.proofs.lemmas.List.Sums.{sum_by-cons}
use Rattle.std.proofs.lemmas.Bool.{cases_eq}
use Rattle.std.proofs.lemmas.Bool.Decides.{nat_tests}
use Rattle.std.proofs.lemmas.List.{length-map}
use Rattle.zr_base.specs.declared.space.Extent.{Extent}
use Rattle.zr_base.specs.declared.space.DevPart.{DevPart}
use Rattle.zr_base.specs.declared.space.DevRow.{DevRow}
use Rattle.zr_base.specs.declared.space.Entry.{Entry}
use Rattle.zr_base.specs.Extents.{has_unit}
use Rattle.zr_rules.specs.Places.{one_if, part_of, is_on, is_leaving, is_fresh}
use Rattle.zr_rules.specs.Space.{copy_hits, is_copy_by}
use Rattle.zr_rules.specs.Resolve.{IsRanked}
use Rattle.zr_rules.specs.Frees.{IsSamePart, IsSameFrame}
use Rattle.zr_metaslab.specs.Devices.{Devices, free_at, count_at, KeepsDevices}
use Rattle.zr_units.specs.Uses.{IsAccount}
use Rattle.zr_indirect.specs.Changes.{was_fresh_in}
use Rattle.zr_space.specs.declared.whole.Whole.{Whole}
use Rattle.zr_space.specs.Views.{Kept, kept_of, part_in, late_runs, space_of, synced_in, meta_from, saved_from, addresses, units_there, IsMoved, IsTied, IsSpace}
use Rattle.zr_space.specs.FreeVisits.{IsSameBut}
use Rattle.zr_space.proofs.Devs.{same_devices}
use Rattle.zr_space.proofs.Keeps.{lawful, still_condensing}
use Rattle.zr_space.proofs.Rooted.{SameUses, was_held_is, was_kept_is, was_fresh_is}
use Rattle.zr_space.proofs.Views.{part_is}

-- where one device was changed, what holds of it and of the others holds of each
pub but_each : (devs next : List Kept) (d : ℕ) (P : ℕ → Kept → Type 0) → IsSameBut devs next d → P d (kept_of next d) → ((j : ℕ) → (j == d) ≡ false → P j (kept_of devs j)) → (j : ℕ) → P j (kept_of next j)
but_each devs next d P same here others j =
    ⊎_elim
    (λ is. subst (λ (i : ℕ). P i (kept_of next i)) (sym is) here)
    (λ other. let ne = other_is j d other in subst (P j) (sym (same.others j ne)) (others j ne))
    (cases_eq j d)
  where
    other_is : (j d : ℕ) → (j ≡ d → ⊥) → (j == d) ≡ false
    other_is j d ne = grind (arith, nat_tests, ne)

-- what a list of devices shows is the same where what each shows is
shown_same : {A : Type 0} (show : ℕ → List Kept → A) (more : ℕ → Kept → A → A) (i : ℕ) (devs next : List Kept) → ((i : ℕ) (x : Kept) (xs : List Kept) → show i (x ∷ xs) ≡ more i x (show (i + 1) xs))
    → length next ≡ length devs → ((d i : ℕ) (a : A) → more i (kept_of next d) a ≡ more i (kept_of devs d) a) → show i next ≡ show i devs
shown_same show more i [] [] is count same = refl
shown_same show more i [] (y ∷ ys) is count same = absurd (omega (arith, count))
shown_same show more i (x ∷ xs) [] is count same = absurd (omega (arith, count))
shown_same show more i (x ∷ xs) (y ∷ ys) is count same =
    is i y ys ∙ (same 0 i (show (i + 1) ys) ∙ (ap (more i x) (shown_same show more (i + 1) xs ys is (omega (arith, count)) (λ d. same (suc d))) ∙ sym (is i x xs)))

abbrev pub copies_in : DevPart → ℕ → ℕ → ℕ
copies_in p d u = if is_leaving p.row.state then sum_by (λ (e : Entry). one_if (is_copy_by p d u e)) p.entries else 0

-- the copies are those that each device has
pub hits_same : (devs next : List Kept) (d u : ℕ) → length next ≡ length devs → ((j : ℕ) → copies_in (part_in (kept_of next j)) d u ≡ copies_in (part_in (kept_of devs j)) d u) → copy_hits (map part_in next) d u ≡ copy_hits (map part_in devs) d u
hits_same devs next d u count same =
    shown_same (λ i ks. copy_hits (map part_in ks) d u) (λ i k n. copies_in (part_in k) d u + n) 0 devs next (λ i x xs. sum_by-cons (λ p. copies_in p d u) (part_in x) (map part_in xs)) count (λ j i n. ap (λ (m : ℕ). m + n) (same j))

-- what the changes are for the account
pub record AreChanged (whole : Whole) (s t : Devices) (devs next : List Kept) : Type 0 where
  pub count : length next ≡ length devs
  pub row : (d : ℕ) → (kept_of next d).row ≡ (kept_of devs d).row
  pub entries : (d : ℕ) → (kept_of next d).moves.entries ≡ (kept_of devs d).moves.entries
  pub counts : (d : ℕ) → (kept_of next d).moves.counts ≡ (kept_of devs d).moves.counts
  pub moved : (d : ℕ) → IsMoved (kept_of next d).row (kept_of next d).moves
  pub units : (d : ℕ) → (kept_of next d).uses.units ≡ (kept_of devs d).uses.units
  pub account : (d : ℕ) → IsAccount (free_at t d) (count_at t d) (kept_of next d).uses
  pub copies : (d u : ℕ) → copy_hits (map part_in next) d u ≡ one_if (has_unit (kept_of next d).uses.copies u)
  pub devices : KeepsDevices s t
  pub tied : (d : ℕ) → is_leaving (kept_of next d).row.state ≡ true → IsTied whole (kept_of next d)

pub changed_space : (whole : Whole) (s t : Devices) (devs next : List Kept) → IsSpace whole s devs → AreChanged whole s t devs next → IsSpace whole t next
changed_space whole s t devs next a c = record {
  devices = let e = a.devices in let k = c.devices.devs in let l = c.count in omega (arith, e, k, l);
  few = let f = a.few in let l = c.count in omega (arith, f, l);
  units = λ d. c.devices.units d ∙ (a.units d ∙ sym (c.units d));
  rows = λ d. c.units d ∙ (a.rows d ∙ ap units_there (sym (c.row d)));
  small = λ d. subst (λ (r : DevRow). r.units < 2 ^ 40) (sym (c.row d)) (a.small d);
  moved = c.moved;
  serves = λ d. c.devices.serves d ∙ (a.serves d ∙ ap₂ (λ (n : ℕ) (r : DevRow). nat_lt d n && is_on r.state) (sym c.count) (sym (c.row d)));
  account = c.account;
  copies = c.copies;
  single = λ i j one two. a.single i j (subst (λ (r : DevRow). is_leaving r.state ≡ true) (c.row i) one) (subst (λ (r : DevRow). is_leaving r.state ≡ true) (c.row j) two);
  ranked = subst IsRanked (sym (same_devices devs next c.count c.row c.entries)) a.ranked;
  tied = c.tied;
  condensing = λ e is. still_condensing e (kept_of devs e.dev) (kept_of next e.dev) (c.row e.dev) (c.entries e.dev) (c.counts e.dev) (a.condensing e is);
}

-- what is no use of a block's unit is the same, and so is what the current root has
pub record IsSameBeside (devs next : List Kept) : Type 0 where
  pub meta : (d : ℕ) → (kept_of next d).uses.meta ≡ (kept_of devs d).uses.meta
  pub saved : (d : ℕ) → (kept_of next d).uses.saved ≡ (kept_of devs d).uses.saved
  pub late1 : (d : ℕ) → (kept_of next d).uses.late1 ≡ (kept_of devs d).uses.late1
  pub late2 : (d : ℕ) → (kept_of next d).uses.late2 ≡ (kept_of devs d).uses.late2
  pub synced : (d : ℕ) → (kept_of next d).moves.synced ≡ (kept_of devs d).moves.synced
  pub root : (d : ℕ) → SameUses (kept_of devs d).uses (kept_of next d).uses
  pub marks : (d u : ℕ) → was_fresh_in (kept_of next d).moves u ≡ was_fresh_in (kept_of devs d).moves u

module _ (whole : Whole) (s t : Devices) (devs next : List Kept) (old : IsSpace whole s devs) (c : AreChanged whole s t devs next) (b : IsSameBeside devs next) where
  pub same_meta : meta_from 0 next ≡ meta_from 0 devs
  same_meta = shown_same meta_from (λ i k rest. addresses i k.uses.meta ++ rest) 0 devs next (λ i x xs. refl) c.count (λ d i rest. ap (λ (es : List Extent). addresses i es ++ rest) (b.meta d))

  same_saved : saved_from 0 next ≡ saved_from 0 devs
  same_saved = shown_same saved_from (λ i k rest. addresses i k.uses.saved ++ rest) 0 devs next (λ i x xs. refl) c.count (λ d i rest. ap (λ (es : List Extent). addresses i es ++ rest) (b.saved d))

  same_synced : synced_in next ≡ synced_in devs
  same_synced = shown_same (λ i ks. synced_in ks) (λ i k n. k.moves.synced + n) 0 devs next (λ i x xs. sum_by-cons (λ (k : Kept). k.moves.synced) x xs) c.count (λ d i n. ap (λ (m : ℕ). m + n) (b.synced d))

  same_part : (d : ℕ) → IsSamePart (part_of (map part_in devs) d) (part_of (map part_in next) d)
  same_part d =
      subst (λ (p : DevPart). IsSamePart p (part_of (map part_in next) d)) (sym (part_is devs d))
      (subst (λ (p : DevPart). IsSamePart (part_in (kept_of devs d)) p) (sym (part_is next d))
      (record { row = c.row d; entries = c.entries d; counts = c.counts d; late1 = ap late_runs (b.late1 d); late2 = ap late_runs (b.late2 d) }))

  pub changed_frame : IsSameFrame (space_of whole devs) (space_of whole next)
  changed_frame = record {
    version = refl;
    cond = refl;
    ckpt = refl;
    synced = same_synced;
    saved_meta = same_saved;
    devices = length-map next part_in ∙ (c.count ∙ sym (length-map devs part_in));
    each = same_part;
    root = record {
      held = λ d u. was_held_is whole next d u ∙ ((b.root d).held u ∙ sym (was_held_is whole devs d u));
      kept = λ d u. was_kept_is whole next d u ∙ ((b.root d).kept u ∙ sym (was_kept_is whole devs d u));
      fresh = λ d u. was_fresh_is whole next d u ∙ (b.marks d u ∙ sym (was_fresh_is whole devs d u));
    };
    lawful = λ was. lawful whole t next (changed_space whole s t devs next old c);
  }

pub fresh_is : (whole : Whole) (devs : List Kept) (d u : ℕ) → is_fresh (space_of whole devs).parts.devs d u ≡ has_unit (kept_of devs d).moves.fresh u
fresh_is whole devs d u = ap (λ (p : DevPart). has_unit p.fresh u) (part_is devs d)
