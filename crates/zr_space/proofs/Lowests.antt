-- The lowest extent that is to be copied yet.
use Rattle.std.proofs.Common.{◌≡◌, ℕ, Bool, true, false, List, map, refl, ◌∙◌, sym, ap, ap₂, subst, arith}
use Rattle.std.specs.Prelude.{Option, Some, None, IfSome, IfNone}
use Rattle.std.proofs.lemmas.Bool.Decides.{nat_tests}
use Rattle.zr_base.specs.declared.space.DevPart.{DevPart}
use Rattle.zr_base.specs.declared.space.Extent.{Extent}
use Rattle.zr_base.specs.Extents.{has_unit, IsMaximal, first_part_from, IsFirstPart, HasNoneFrom}
use Rattle.zr_rules.specs.Mappings.{end_of_last}
use Rattle.zr_rules.specs.Places.{is_leaving, part_of, state_of_dev}
use Rattle.zr_rules.specs.Roles.{is_held_role}
use Rattle.zr_rules.specs.Space.{role_at, frontier, is_uncopied}
use Rattle.zr_metaslab.specs.Devices.{Devices, free_at, count_at}
use Rattle.zr_indirect.specs.Mapped.{IsLeaving}
use Rattle.zr_space.specs.Plans.{IsCopied, IsLowestOf}
use Rattle.zr_space.specs.Views.{Kept, kept_of, part_in, space_of, IsSpace}
use Rattle.zr_space.specs.declared.whole.Whole.{Whole}
use Rattle.zr_space.proofs.FirstParts.{value_is}
use Rattle.zr_space.proofs.Planning.{held_as}
use Rattle.zr_space.proofs.Roles.{roles_are}
use Rattle.zr_space.proofs.Synced.{leaving_state}
use Rattle.zr_space.proofs.Views.{part_is}

-- what is read of the device that is leaving
pub record IsRead (whole : Whole) (s : Devices) (devs : List Kept) (d : ℕ) (k : Kept) (es : List Extent) (u : ℕ) : Type 0 where
  pub space : IsSpace whole s devs
  pub leaving : is_leaving (kept_of devs d).row.state ≡ true
  pub kept : k ≡ kept_of devs d
  pub held : es ≡ k.uses.held
  pub opened : u ≡ k.moves.opened

module _ (whole : Whole) (s : Devices) (devs : List Kept) (d : ℕ) (k : Kept) (es : List Extent) (u : ℕ) (h : IsRead whole s devs d k es u) where
  said : is_leaving (state_of_dev (map part_in devs) d) ≡ true
  said = ap (λ (q : DevPart). is_leaving q.row.state) (part_is devs d) ∙ h.leaving

  held_is : es ≡ (part_of (map part_in devs) d).held
  held_is = h.held ∙ (ap (λ (z : Kept). z.uses.held) h.kept ∙ sym (ap (λ (q : DevPart). q.held) (part_is devs d)))

  was_leaving : IsLeaving (kept_of devs d).moves
  was_leaving = (h.space.moved d).leaving (leaving_state (kept_of devs d).row.state h.leaving)

  from_is : u ≡ frontier (space_of whole devs) d
  from_is = h.opened ∙ (ap (λ (z : Kept). z.moves.opened) h.kept ∙ (was_leaving.marks.frontier ∙ sym (ap (λ (q : DevPart). end_of_last q.entries) (part_is devs d))))

  held_role : (v : ℕ) → is_held_role (role_at (space_of whole devs) d v) ≡ has_unit es v
  held_role v =
      ap is_held_role (roles_are whole devs d v h.space)
      ∙ (held_as (free_at s d) (count_at s d) (kept_of devs d).uses (h.space.account d) v
      ∙ ap (λ (xs : List Extent). has_unit xs v) (ap (λ (z : Kept). z.uses.held) (sym h.kept) ∙ sym h.held))

  maximal : IsMaximal es
  maximal = subst (λ (xs : List Extent). IsMaximal xs) (sym (h.held ∙ ap (λ (z : Kept). z.uses.held) h.kept)) (h.space.account d).lists.held

  pub lowest_some : (o : Option Extent) → IfSome o (IsFirstPart es u) → IfSome o (λ front. (x : ℕ) × IsLowestOf (space_of whole devs) x front)
  lowest_some None first = tt
  lowest_some (Some f) first = (
    d,
    record {
      leaving = said;
      lowest = sym (value_is 0 u es f maximal first ∙ ap₂ first_part_from from_is held_is);
      some = first.not_empty;
      above = let a = first.from in let e = from_is in omega (arith, a, e);
      gap = λ v le lt. held_role v ∙ first.gap v (let e = from_is in omega (arith, le, e)) lt;
      held = λ v is. held_role v ∙ first.covered v is;
    },
  )

  no_more : HasNoneFrom es u → IsCopied (space_of whole devs)
  no_more none i v = by (is_leaving (state_of_dev (map part_in devs) i)) refl
    where
      only : is_leaving (state_of_dev (map part_in devs) i) ≡ true → i ≡ d
      only is = h.space.single i d (sym (ap (λ (q : DevPart). is_leaving q.row.state) (part_is devs i)) ∙ is) h.leaving

      here : is_uncopied (space_of whole devs) d v ≡ false
      here =
          let past = none v in
          let held = ap (λ (xs : List Extent). has_unit xs v) held_is in
          let from = from_is in
          let l = said in
          grind (arith, nat_tests, past, held, from, l)

      by : (b : Bool) → is_leaving (state_of_dev (map part_in devs) i) ≡ b → is_uncopied (space_of whole devs) i v ≡ false
      by true is = subst (λ j. is_uncopied (space_of whole devs) j v ≡ false) (sym (only is)) here
      by false is = rw is refl

  pub lowest_none : (o : Option Extent) → IfNone o (HasNoneFrom es u) → IfNone o (IsCopied (space_of whole devs))
  lowest_none None none = no_more none
  lowest_none (Some f) none = tt
