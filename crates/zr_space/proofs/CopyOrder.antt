-- What a device that is leaving has below its frontier, as the space shows it.
use Rattle.std.proofs.Common.{◌≡◌, ℕ, ◌<◌, true, false, ◌∙◌, List, map, sym, ap, arith}
use Rattle.std.proofs.lemmas.Bool.Decides.{nat_tests}
use Rattle.zr_base.specs.declared.space.CkptPart.TheVariants.{Clear}
use Rattle.zr_base.specs.declared.space.DevPart.{DevPart}
use Rattle.zr_base.specs.Extents.{has_unit}
use Rattle.zr_rules.specs.Mappings.{end_of_last, has_source}
use Rattle.zr_rules.specs.Places.{is_fresh, is_held, is_kept, is_leaving, part_of, state_of_dev}
use Rattle.zr_rules.specs.Roles.{is_copy_role}
use Rattle.zr_rules.specs.Space.{Space, frontier, role_at}
use Rattle.zr_metaslab.specs.Devices.{Devices}
use Rattle.zr_indirect.specs.Mapped.{IsLeaving}
use Rattle.zr_units.specs.Uses.{Uses}
use Rattle.zr_space.specs.Views.{Kept, kept_of, part_in, space_of, role_in, IsTied, IsSpace}
use Rattle.zr_space.specs.declared.whole.Whole.{Whole}
use Rattle.zr_space.proofs.Ready.{leaving_as}
use Rattle.zr_space.proofs.Roles.{roles_are}
use Rattle.zr_space.proofs.Synced.{leaving_state}
use Rattle.zr_space.proofs.Views.{part_is}

-- what is held below the frontier has an entry, and is not marked, and the unit is not kept
pub record IsInOrder (s : Space) (d u : ℕ) : Type 0 where
  pub copied : is_held s.parts.devs d u ≡ true → u < frontier s d → has_source (part_of s.parts.devs d).entries u ≡ true
  pub unmarked : is_held s.parts.devs d u ≡ true → u < frontier s d → is_fresh s.parts.devs d u ≡ false
  pub clear : s.parts.ckpt ≡ Clear
  pub no_copies : is_copy_role (role_at s d u) ≡ false
  pub unkept : is_kept s.parts.devs d u ≡ false

no_copy : (x : Uses) (u : ℕ) → has_unit x.copies u ≡ false → is_copy_role (role_in x u) ≡ false
no_copy x u none = grind (arith, nat_tests, none)

pub in_order : (whole : Whole) (slabs : Devices) (devs : List Kept) (d u : ℕ) → IsSpace whole slabs devs → is_leaving (state_of_dev (space_of whole devs).parts.devs d) ≡ true → IsInOrder (space_of whole devs) d u
in_order whole slabs devs d u space said =
    let is : is_leaving (kept_of devs d).row.state ≡ true = leaving_as whole devs d said in
    let tied : IsTied whole (kept_of devs d) = space.tied d is in
    let leaves : IsLeaving (kept_of devs d).moves = (space.moved d).leaving (leaving_state (kept_of devs d).row.state is) in
    let front : frontier (space_of whole devs) d ≡ (kept_of devs d).moves.opened = ap (λ (q : DevPart). end_of_last q.entries) (part_is devs d) ∙ sym leaves.marks.frontier in
    let held : is_held (map part_in devs) d u ≡ has_unit (kept_of devs d).uses.held u = ap (λ (q : DevPart). has_unit q.held u) (part_is devs d) in
    record {
      copied = λ has below. ap (λ (q : DevPart). has_source q.entries u) (part_is devs d) ∙ (tied.copied u (sym held ∙ has) (omega (arith, below, front))).0;
      unmarked = λ has below. ap (λ (q : DevPart). has_unit q.fresh u) (part_is devs d) ∙ (tied.copied u (sym held ∙ has) (omega (arith, below, front))).1;
      clear = tied.quiet;
      no_copies = ap is_copy_role (roles_are whole devs d u space) ∙ no_copy (kept_of devs d).uses u (tied.uncopied u);
      unkept = ap (λ (q : DevPart). has_unit q.kept u) (part_is devs d) ∙ tied.unkept u;
    }
