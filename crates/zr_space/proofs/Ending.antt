-- When a removal can end: nothing is left to copy, and no metadata is on the device.
use Rattle.std.proofs.Common.{◌≡◌, ℕ, ◌<◌, Bool, true, false, List, [], map, length, ◌∙◌, sym, ap, subst, arith}
use Rattle.std.proofs.Math.ListN.{set}
use Rattle.std.proofs.lemmas.Bool.Decides.{nat_tests}
use Rattle.zr_base.specs.declared.space.DevPart.{DevPart}
use Rattle.zr_base.specs.declared.space.DevRow.{DevRow}
use Rattle.zr_base.specs.declared.space.DevState.TheVariants.{Gone}
use Rattle.zr_base.specs.Extents.{has_unit}
use Rattle.zr_rules.specs.Mappings.{end_of_last}
use Rattle.zr_rules.specs.Places.{is_gone, is_leaving, part_of, state_of_dev}
use Rattle.zr_rules.specs.Roles.{is_meta_role}
use Rattle.zr_rules.specs.Space.{role_at, frontier}
use Rattle.zr_rules.specs.Steps.{Finishes}
use Rattle.zr_metaslab.specs.Devices.{Devices, free_at, count_at, Forgets}
use Rattle.zr_units.specs.Uses.{Uses, IsAccount}
use Rattle.zr_indirect.specs.Mapped.{Mapped, IsLeaving, IsGone}
use Rattle.zr_space.specs.Plans.{IsCopied}
use Rattle.zr_space.specs.Leavings.{gone_device, without_copies}
use Rattle.zr_space.specs.Views.{Kept, kept_of, part_in, space_of, role_in, IsSpace, IsSameKept, AreTurned}
use Rattle.zr_space.specs.declared.whole.Whole.{Whole}
use Rattle.zr_space.proofs.Finishing.{IsEnded, none_list, gone_space, finishes}
use Rattle.zr_space.proofs.Ready.{leaving_there}
use Rattle.zr_space.proofs.Roles.{roles_are}
use Rattle.zr_space.proofs.Synced.{leaving_state}
use Rattle.zr_space.proofs.Views.{part_is, kept_same}

meta_as : (f : ℕ → Bool) (n : ℕ) (x : Uses) → IsAccount f n x → (u : ℕ) → is_meta_role (role_in x u) ≡ false → has_unit x.meta u ≡ false
meta_as f n x a u none = let o = a.once u in grind (arith, nat_tests, o, none)

saved_as : (f : ℕ → Bool) (n : ℕ) (x : Uses) → IsAccount f n x → (u : ℕ) → is_meta_role (role_in x u) ≡ false → has_unit x.saved u ≡ false
saved_as f n x a u none = let o = a.once u in grind (arith, nat_tests, o, none)

module _ (whole : Whole) (s : Devices) (devs : List Kept) (d : ℕ) (space : IsSpace whole s devs) (is : is_leaving (kept_of devs d).row.state ≡ true) where
  said : is_leaving (state_of_dev (map part_in devs) d) ≡ true
  said = ap (λ (q : DevPart). is_leaving q.row.state) (part_is devs d) ∙ is

  was_leaving : IsLeaving (kept_of devs d).moves
  was_leaving = (space.moved d).leaving (leaving_state (kept_of devs d).row.state is)

  pub none_left : IsCopied (space_of whole devs) → (kept_of devs d).moves.left ≡ []
  none_left copied = none_list (kept_of devs d).moves.left was_leaving.left_maximal
      (λ u.
      let none = copied d u in
      let l = said in
      let left = (space.tied d is).left u in
      let held : has_unit (part_of (map part_in devs) d).held u ≡ has_unit (kept_of devs d).uses.held u = ap (λ (q : DevPart). has_unit q.held u) (part_is devs d) in
      let front : frontier (space_of whole devs) d ≡ (kept_of devs d).moves.opened = ap (λ (q : DevPart). end_of_last q.entries) (part_is devs d) ∙ sym was_leaving.marks.frontier in
      grind (arith, nat_tests, none, l, left, held, front))

  no_role : ((d u : ℕ) → is_leaving (state_of_dev (map part_in devs) d) ≡ true → is_meta_role (role_at (space_of whole devs) d u) ≡ false) → (u : ℕ) → is_meta_role (role_in (kept_of devs d).uses u) ≡ false
  no_role none u = ap is_meta_role (sym (roles_are whole devs d u space)) ∙ none d u said

  pub no_meta : ((d u : ℕ) → is_leaving (state_of_dev (map part_in devs) d) ≡ true → is_meta_role (role_at (space_of whole devs) d u) ≡ false) → (u : ℕ) → has_unit (kept_of devs d).uses.meta u ≡ false
  no_meta none u = meta_as (free_at s d) (count_at s d) (kept_of devs d).uses (space.account d) u (no_role none u)

  pub no_saved : ((d u : ℕ) → is_leaving (state_of_dev (map part_in devs) d) ≡ true → is_meta_role (role_at (space_of whole devs) d u) ≡ false) → (u : ℕ) → has_unit (kept_of devs d).uses.saved u ≡ false
  no_saved none u = saved_as (free_at s d) (count_at s d) (kept_of devs d).uses (space.account d) u (no_role none u)

pub goes_later : (whole : Whole) (devs : List Kept) (txg : ℕ) → ((d : ℕ) → is_gone (state_of_dev (map part_in devs) d) ≡ true → (part_of (map part_in devs) d).row.gone < txg) → (j : ℕ) → is_gone (kept_of devs j).row.state ≡ true → (kept_of devs j).row.gone < txg
goes_later whole devs txg later j is =
    let l = later j (ap (λ (q : DevPart). is_gone q.row.state) (part_is devs j) ∙ is) in
    let e = ap (λ (q : DevPart). q.row.gone) (part_is devs j) in
    omega (arith, l, e)

-- what is kept of the device while the removal ends: before, with its mapping given up, and once the copies are taken over
pub record IsEnding (whole : Whole) (s t : Devices) (devs turned : List Kept) (d txg : ℕ) (k x : Kept) (n : Mapped) : Type 0 where
  pub space : IsSpace whole s devs
  pub leaving : is_leaving (kept_of devs d).row.state ≡ true
  pub kept : k ≡ kept_of devs d
  pub over : AreTurned without_copies (set devs d (record k { moves = n })) turned
  pub now : x ≡ kept_of turned d
  pub finished : n ≡ record k.moves { state = Gone; synced = 0; opened = 0; spare = n.spare }
  pub gone : x.moves.state ≡ Gone → IsGone x.moves
  pub meta : (e u : ℕ) → is_leaving (state_of_dev (map part_in devs) e) ≡ true → is_meta_role (role_at (space_of whole devs) e u) ≡ false
  pub later : (e : ℕ) → is_gone (state_of_dev (map part_in devs) e) ≡ true → (part_of (map part_in devs) e).row.gone < txg
  pub forgets : Forgets s t d

module _ (whole : Whole) (s t : Devices) (devs turned : List Kept) (d txg spare : ℕ) (k x : Kept) (n : Mapped) (h : IsEnding whole s t devs turned d txg k x n) where
  there : d < length devs
  there = leaving_there devs d h.leaving

  over : AreTurned without_copies (set devs d (record (kept_of devs d) { moves = n })) turned
  over = subst (λ (z : Kept). AreTurned without_copies (set devs d (record z { moves = n })) turned) h.kept h.over

  turned_is : IsSameKept (without_copies (record (kept_of devs d) { moves = n })) (kept_of turned d)
  turned_is = subst (λ (z : Kept). IsSameKept (without_copies z) (kept_of turned d)) (kept_same devs d (record (kept_of devs d) { moves = n }) there) (over.each d)

  row_is : x.row ≡ (kept_of devs d).row
  row_is = ap (λ (z : Kept). z.row) h.now ∙ ap (λ (z : Kept). z.row) turned_is

  pub moves_are : x.moves ≡ record (kept_of devs d).moves { state = Gone; synced = 0; opened = 0; spare = x.moves.spare }
  moves_are =
      ap (λ (z : Kept). z.moves) h.now
      ∙ (ap (λ (z : Kept). z.moves) turned_is
      ∙ (ap (λ (m : Mapped). record m { spare = (kept_of turned d).moves.spare }) (h.finished ∙ ap (λ (z : Kept). record z.moves { state = Gone; synced = 0; opened = 0; spare = n.spare }) h.kept)
      ∙ ap (λ (z : Kept). record (kept_of devs d).moves { state = Gone; synced = 0; opened = 0; spare = z.moves.spare }) (sym h.now)))

  ended : IsEnded whole s t devs turned d txg n x.moves
  ended = record {
    space = h.space;
    there = there;
    leaving = h.leaving;
    meta = no_meta whole s devs d h.space h.leaving h.meta;
    saved = no_saved whole s devs d h.space h.leaving h.meta;
    later = goes_later whole devs txg h.later;
    over = over;
    moves = moves_are;
    gone = h.gone (ap (λ (m : Mapped). m.state) moves_are);
    forgets = h.forgets;
  }

  pub ended_space : IsSpace whole t (set turned d (gone_device x.row txg spare x.moves))
  ended_space = subst (λ (r : DevRow). IsSpace whole t (set turned d (gone_device r txg spare x.moves))) (sym row_is) (gone_space whole s t devs turned d txg spare n x.moves ended)

  pub ends : Finishes (space_of whole devs) (space_of whole (set turned d (gone_device x.row txg spare x.moves))) d txg
  ends = subst (λ (r : DevRow). Finishes (space_of whole devs) (space_of whole (set turned d (gone_device r txg spare x.moves))) d txg) (sym row_is) (finishes whole s t devs turned d txg spare n x.moves ended)
