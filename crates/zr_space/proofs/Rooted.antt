-- What the current root has of a device's sets stays while the open group changes them.
use Rattle.std.proofs.Common.{◌≡◌, ℕ, ◌<◌, Bool, true, ◌&&◌, ◌||◌, not, List, length, refl, ◌∙◌, sym, ap₂, arith}
use Rattle.std.proofs.Math.ListN.{set}
use Rattle.std.proofs.lemmas.Bool.Decides.{nat_tests}
use Rattle.zr_base.specs.declared.space.Extent.{Extent}
use Rattle.zr_base.specs.declared.space.DevPart.{DevPart}
use Rattle.zr_base.specs.Extents.{has_unit, in_extent, HasAll, HasNone}
use Rattle.zr_rules.specs.Space.{OpenSets, was_in, was_held, was_kept, was_fresh}
use Rattle.zr_rules.specs.Frees.{IsSameRoot}
use Rattle.zr_units.specs.Uses.{Uses, IsAccount}
use Rattle.zr_units.specs.Changes.{Holds, HoldsMeta, DropsMeta, DropsSaved, FreesUnits, KeepsUnits, DiscardsUnits}
use Rattle.zr_indirect.specs.Changes.{was_fresh_in}
use Rattle.zr_space.specs.Views.{Kept, kept_of, space_of}
use Rattle.zr_space.proofs.Views.{part_is, opened_is}
use Rattle.zr_space.proofs.Keeps.{on_each}
use Rattle.zr_space.specs.declared.whole.Whole.{Whole}

abbrev pub was_held_in : Uses → ℕ → Bool
was_held_in x u = (has_unit x.held u && not (has_unit x.born u)) || has_unit x.freed.blocks u

abbrev pub was_kept_in : Uses → ℕ → Bool
was_kept_in x u = (has_unit x.kept u && not (has_unit x.came u)) || has_unit x.went u

-- the current root has the same of both
pub record SameUses (x y : Uses) : Type 0 where
  pub held : (u : ℕ) → was_held_in y u ≡ was_held_in x u
  pub kept : (u : ℕ) → was_kept_in y u ≡ was_kept_in x u

-- ---- each change of a device

pub holds_root : (f : ℕ → Bool) (n : ℕ) (x y : Uses) (e : Extent) → IsAccount f n x → Holds x y e → ((u : ℕ) → in_extent e u ≡ true → f u ≡ true) → SameUses x y
holds_root f n x y e a h free = record {
  held = λ u. grind (arith, nat_tests, a.once u, h.held.members u, h.born.members u, h.others, free u);
  kept = λ u. grind (arith, nat_tests, h.others);
}

pub holds_meta_root : (x y : Uses) (e : Extent) → HoldsMeta x y e → SameUses x y
holds_meta_root x y e h = record { held = λ u. grind (arith, nat_tests, h.others); kept = λ u. grind (arith, nat_tests, h.others) }

pub drops_root : (x y : Uses) (e : Extent) → DropsMeta x y e → SameUses x y
drops_root x y e h = record { held = λ u. grind (arith, nat_tests, h.others); kept = λ u. grind (arith, nat_tests, h.others) }

pub drops_saved_root : (x y : Uses) (e : Extent) → DropsSaved x y e → SameUses x y
drops_saved_root x y e h = record { held = λ u. grind (arith, nat_tests, h.others); kept = λ u. grind (arith, nat_tests, h.others) }

pub frees_root : (f : ℕ → Bool) (n : ℕ) (x y : Uses) (e : Extent) → IsAccount f n x → FreesUnits x y e → HasAll x.held e → SameUses x y
frees_root f n x y e a h all = record {
  held = λ u. grind (arith, nat_tests, a.once u, h.held.members u, h.born u, h.deferred u, h.others, all u);
  kept = λ u. grind (arith, nat_tests, h.others);
}

pub keeps_root : (f : ℕ → Bool) (n : ℕ) (x y : Uses) (e : Extent) → IsAccount f n x → KeepsUnits x y e → HasNone x.kept e → SameUses x y
keeps_root f n x y e a h unkept = record {
  held = λ u. grind (arith, nat_tests, h.held u, h.born u, h.others);
  kept = λ u. grind (arith, nat_tests, h.kept u, h.came u, h.others, unkept u, a.keeping.came u);
}

pub discards_root : (f : ℕ → Bool) (n : ℕ) (x y : Uses) (e : Extent) → IsAccount f n x → DiscardsUnits x y e → HasAll x.kept e → SameUses x y
discards_root f n x y e a h all = record {
  held = λ u. grind (arith, nat_tests, h.held.members u, h.deferred.members u, h.others, all u, a.keeping.held u, a.keeping.settled u);
  kept = λ u. grind (arith, nat_tests, h.kept.members u, h.came u, h.went u, h.others, all u, a.keeping.came u);
}

-- ---- a device of the space

pub was_held_is : (whole : Whole) (devs : List Kept) (d u : ℕ) → was_held (space_of whole devs) d u ≡ was_held_in (kept_of devs d).uses u
was_held_is whole devs d u =
    ap₂ (λ (p : DevPart) (o : OpenSets). (has_unit p.held u && not (has_unit o.born u)) || has_unit o.deferred u) (part_is devs d) (opened_is whole devs d)

pub was_kept_is : (whole : Whole) (devs : List Kept) (d u : ℕ) → was_kept (space_of whole devs) d u ≡ was_kept_in (kept_of devs d).uses u
was_kept_is whole devs d u = ap₂ (λ (p : DevPart) (o : OpenSets). was_in (has_unit p.kept u) o.kept u) (part_is devs d) (opened_is whole devs d)

pub was_fresh_is : (whole : Whole) (devs : List Kept) (d u : ℕ) → was_fresh (space_of whole devs) d u ≡ was_fresh_in (kept_of devs d).moves u
was_fresh_is whole devs d u = ap₂ (λ (p : DevPart) (o : OpenSets). was_in (has_unit p.fresh u) o.fresh u) (part_is devs d) (opened_is whole devs d)

pub same_root : (whole : Whole) (devs : List Kept) (d : ℕ) (x : Kept) → d < length devs → SameUses (kept_of devs d).uses x.uses → ((u : ℕ) → was_fresh_in x.moves u ≡ was_fresh_in (kept_of devs d).moves u) → IsSameRoot (space_of whole devs) (space_of whole (set devs d x))
same_root whole devs d x there same marks = record {
  held = λ j u.
      was_held_is whole (set devs d x) j u
      ∙ (on_each devs d x (λ i y. was_held_in y.uses u ≡ was_held_in (kept_of devs i).uses u) there (same.held u) (λ i ne. refl) j
      ∙ sym (was_held_is whole devs j u));
  kept = λ j u.
      was_kept_is whole (set devs d x) j u
      ∙ (on_each devs d x (λ i y. was_kept_in y.uses u ≡ was_kept_in (kept_of devs i).uses u) there (same.kept u) (λ i ne. refl) j
      ∙ sym (was_kept_is whole devs j u));
  fresh = λ j u.
      was_fresh_is whole (set devs d x) j u
      ∙ (on_each devs d x (λ i y. was_fresh_in y.moves u ≡ was_fresh_in (kept_of devs i).moves u) there (marks u) (λ i ne. refl) j
      ∙ sym (was_fresh_is whole devs j u));
}
