-- What the current root has stays while a copy gets its entry.
use Rattle.std.proofs.Common.{◌≡◌, ℕ, ◌<◌, Bool, true, List, length, refl, ◌∙◌, sym, ap, subst, arith}
use Rattle.std.proofs.Math.ListN.{set}
use Rattle.std.proofs.lemmas.Bool.Decides.{nat_tests}
use Rattle.std.proofs.lemmas.List.{length-set}
use Rattle.zr_base.specs.declared.space.Extent.{Extent}
use Rattle.zr_base.specs.Extents.{in_extent}
use Rattle.zr_rules.specs.Frees.{IsSameRoot}
use Rattle.zr_rules.specs.Space.{Space}
use Rattle.zr_metaslab.specs.Devices.{Devices, free_at, count_at, extent_of}
use Rattle.zr_units.specs.Changes.{HoldsCopy}
use Rattle.zr_units.specs.Uses.{Uses, IsAccount}
use Rattle.zr_indirect.specs.Changes.{was_fresh_in}
use Rattle.zr_indirect.specs.Mapped.{Mapped}
use Rattle.zr_space.specs.Copying.{IsUnderway}
use Rattle.zr_space.specs.Views.{Kept, kept_of, space_of}
use Rattle.zr_space.specs.declared.copy.Plan.{Plan}
use Rattle.zr_space.specs.declared.whole.Whole.{Whole}
use Rattle.zr_space.proofs.Rooted.{SameUses, same_root}
use Rattle.zr_space.proofs.Underway.{IsDone, known, away, source_there}
use Rattle.zr_space.proofs.Views.{kept_other}

pub root_then : (a b c : Space) → IsSameRoot a b → IsSameRoot b c → IsSameRoot a c
root_then a b c x y = record { held = λ d u. y.held d u ∙ x.held d u; kept = λ d u. y.kept d u ∙ x.kept d u; fresh = λ d u. y.fresh d u ∙ x.fresh d u }

pub root_itself : (a : Space) → IsSameRoot a a
root_itself a = record { held = λ d u. refl; kept = λ d u. refl; fresh = λ d u. refl }

pub holds_copy_root : (f : ℕ → Bool) (n : ℕ) (x y : Uses) (e : Extent) → IsAccount f n x → HoldsCopy x y e → ((u : ℕ) → in_extent e u ≡ true → f u ≡ true) → SameUses x y
holds_copy_root f n x y e a h free = record {
  held = λ u. grind (arith, nat_tests, a.once u, h.held.members u, h.born.members u, h.others, free u);
  kept = λ u. grind (arith, nat_tests, h.others);
}

pub same_uses : (x y : Uses) → y ≡ x → SameUses x y
same_uses x y is = rw is (record { held = λ u. refl; kept = λ u. refl })

module _ (whole : Whole) (t : Devices) (devs : List Kept) (d : ℕ) (p : Plan) (k1 k2 : Kept) (y : Uses) (m : Mapped) (h : IsDone whole t devs d p k1 k2 y m) where
  abbrev placed : Kept
  placed = record k1 { uses = y }

  abbrev between : List Kept
  between = set devs p.to.dev placed

  under : IsUnderway whole t devs d p
  under = h.under

  holds : HoldsCopy (kept_of devs p.to.dev).uses y (extent_of p.to)
  holds = subst (λ (k : Kept). HoldsCopy k.uses y (extent_of p.to)) h.first h.holds

  place_uses : SameUses (kept_of devs p.to.dev).uses y
  place_uses = holds_copy_root (free_at under.was p.to.dev) (count_at under.was p.to.dev) (kept_of devs p.to.dev).uses y (extent_of p.to) (under.space.account p.to.dev) holds under.taken.were_free

  place_marks : (u : ℕ) → was_fresh_in k1.moves u ≡ was_fresh_in (kept_of devs p.to.dev).moves u
  place_marks u = ap (λ (k : Kept). was_fresh_in k.moves u) h.first

  first_root : IsSameRoot (space_of whole devs) (space_of whole between)
  first_root = same_root whole devs p.to.dev placed (known whole t devs d p under) place_uses place_marks

  between_source : k2 ≡ kept_of between d
  between_source = h.second ∙ sym (kept_other devs p.to.dev d placed (let a = away whole t devs d p under k1 y h.first h.holds in grind (arith, nat_tests, a)))

  between_there : d < length between
  between_there = let l = length-set devs p.to.dev placed in let n = source_there whole t devs d p under k1 y h.first h.holds in omega (arith, l, n)

  pub done_root : IsSameRoot (space_of whole devs) (space_of whole (set (set devs p.to.dev (record k1 { uses = y })) d (record k2 { moves = m })))
  done_root =
      root_then (space_of whole devs) (space_of whole between) (space_of whole (set between d (record k2 { moves = m }))) first_root
      (same_root whole between d (record k2 { moves = m }) between_there (same_uses (kept_of between d).uses k2.uses (ap (λ (k : Kept). k.uses) between_source))
      (λ u. ap (λ (x : Mapped). was_fresh_in x u) h.copies.others ∙ ap (λ (k : Kept). was_fresh_in k.moves u) between_source))
