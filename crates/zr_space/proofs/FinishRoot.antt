-- What the current root has where a removal ends.
use Rattle.std.proofs.Common.{◌≡◌, ◌≢◌, ℕ, ◌<◌, false, ◌==◌, List, length, refl, ◌∙◌, sym, ap, subst, arith}
use Rattle.std.proofs.Math.ListN.{set}
use Rattle.std.proofs.lemmas.List.{length-set}
use Rattle.zr_base.specs.declared.space.DevPart.{DevPart}
use Rattle.zr_rules.specs.Places.{part_of}
use Rattle.zr_rules.specs.Space.{Space, was_held, was_kept, was_fresh}
use Rattle.zr_metaslab.specs.Devices.{Devices}
use Rattle.zr_indirect.specs.Changes.{was_fresh_in}
use Rattle.zr_indirect.specs.Mapped.{Mapped}
use Rattle.zr_space.specs.Leavings.{without_copies, gone_device}
use Rattle.zr_space.specs.Views.{Kept, kept_of, space_of, part_in, IsSameKept}
use Rattle.zr_space.specs.declared.whole.Whole.{Whole}
use Rattle.zr_space.proofs.Ending.{IsEnding, moves_are}
use Rattle.zr_space.proofs.Keeps.{on_each}
use Rattle.zr_space.proofs.Ready.{leaving_there}
use Rattle.zr_space.proofs.Rooted.{was_held_in, was_kept_in, was_held_is, was_kept_is, was_fresh_is}
use Rattle.zr_space.proofs.Views.{kept_other, kept_same, part_is}

-- What it has as held and kept on the other devices, and its marks. Of the device that is gone it has neither, and its counts.
pub record IsRootBeside (old new : Space) (d : ℕ) : Type 0 where
  pub held : (j u : ℕ) → j ≢ d → was_held new j u ≡ was_held old j u
  pub kept : (j u : ℕ) → j ≢ d → was_kept new j u ≡ was_kept old j u
  pub marks : (j u : ℕ) → was_fresh new j u ≡ was_fresh old j u
  pub none_held : (u : ℕ) → was_held new d u ≡ false
  pub none_kept : (u : ℕ) → was_kept new d u ≡ false
  pub counts : (part_of new.parts.devs d).counts ≡ (part_of old.parts.devs d).counts

module _ (whole : Whole) (s t : Devices) (devs turned : List Kept) (d txg spare : ℕ) (k x : Kept) (n : Mapped) (h : IsEnding whole s t devs turned d txg k x n) where
  abbrev gone : Kept
  gone = gone_device x.row txg spare x.moves

  abbrev mid : Kept
  mid = record k { moves = n }

  there : d < length turned
  there = let l = leaving_there devs d h.leaving in let c = h.over.count in let m = length-set devs d mid in omega (arith, l, c, m)

  other : (j : ℕ) → (j == d) ≡ false → IsSameKept (without_copies (kept_of devs j)) (kept_of turned j)
  other j ne = subst (λ (z : Kept). IsSameKept (without_copies z) (kept_of turned j)) (kept_other devs d j mid ne) (h.over.each j)

  pub finish_root : IsRootBeside (space_of whole devs) (space_of whole (set turned d (gone_device x.row txg spare x.moves))) d
  finish_root = record {
    held = λ j u away.
        was_held_is whole (set turned d gone) j u
        ∙ (on_each turned d gone (λ i y. i ≢ d → was_held_in y.uses u ≡ was_held_in (kept_of devs i).uses u) there (λ no. absurd (no refl)) (λ i ne no. ap (λ (z : Kept). was_held_in z.uses u) (other i ne)) j away
        ∙ sym (was_held_is whole devs j u));
    kept = λ j u away.
        was_kept_is whole (set turned d gone) j u
        ∙ (on_each turned d gone (λ i y. i ≢ d → was_kept_in y.uses u ≡ was_kept_in (kept_of devs i).uses u) there (λ no. absurd (no refl)) (λ i ne no. ap (λ (z : Kept). was_kept_in z.uses u) (other i ne)) j away
        ∙ sym (was_kept_is whole devs j u));
    marks = λ j u.
        was_fresh_is whole (set turned d gone) j u
        ∙ (on_each turned d gone (λ i y. was_fresh_in y.moves u ≡ was_fresh_in (kept_of devs i).moves u) there (ap (λ (m : Mapped). was_fresh_in m u) (moves_are whole s t devs turned d txg spare k x n h)) (λ i ne. ap (λ (z : Kept). was_fresh_in z.moves u) (other i ne)) j
        ∙ sym (was_fresh_is whole devs j u));
    none_held = λ u. was_held_is whole (set turned d gone) d u ∙ ap (λ (z : Kept). was_held_in z.uses u) (kept_same turned d gone there);
    none_kept = λ u. was_kept_is whole (set turned d gone) d u ∙ ap (λ (z : Kept). was_kept_in z.uses u) (kept_same turned d gone there);
    counts =
        ap (λ (q : DevPart). q.counts) (part_is (set turned d gone) d ∙ ap part_in (kept_same turned d gone there))
        ∙ (ap (λ (m : Mapped). m.counts) (moves_are whole s t devs turned d txg spare k x n h) ∙ sym (ap (λ (q : DevPart). q.counts) (part_is devs d)));
  }
