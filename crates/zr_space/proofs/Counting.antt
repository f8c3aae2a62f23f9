-- The columns of a device are the sums of its sets.
use Rattle.std.proofs.Common.{◌≡◌, ℕ, ◌+◌, ◌≤◌, Bool, false, List, map, refl, ◌∙◌, sym, ap, arith}
use Rattle.zr_base.specs.declared.space.DevPart.{DevPart}
use Rattle.zr_base.specs.Extents.{unit_count}
use Rattle.zr_rules.specs.Places.{count_below, units_of_dev}
use Rattle.zr_rules.specs.Roles.{Role, is_free_role, is_allocated_role, is_deferred_role, is_kept_role}
use Rattle.zr_rules.specs.Roles.Role.{Absent}
use Rattle.zr_rules.specs.Space.{role_at}
use Rattle.zr_rules.specs.Columns as columns
use Rattle.zr_metaslab.specs.Devices.{Devices, free_at, count_at}
use Rattle.zr_units.specs.Uses.{freed_count}
use Rattle.zr_space.specs.Views.{Kept, kept_of, part_in, space_of, role_in, IsSpace}
use Rattle.zr_space.proofs.Views.{part_is}
use Rattle.zr_space.proofs.Roles.{roles_are}
use Rattle.zr_space.proofs.Counts.{count_as, count_beyond, absent_in, allocated_count, deferred_count, kept_count}
use Rattle.zr_space.proofs.Keeps.{same_free, most_units}
use Rattle.zr_space.specs.declared.whole.Whole.{Whole}

role_below : (whole : Whole) (slabs : Devices) (devs : List Kept) (s : IsSpace whole slabs devs) (kind : Role → Bool) (d : ℕ) → kind Absent ≡ false → columns.role_count (space_of whole devs) kind d ≡ count_below (kept_of devs d).uses.units (λ u. kind (role_in (kept_of devs d).uses u))
role_below whole slabs devs s kind d none =
    let x = (kept_of devs d).uses in
    let units : units_of_dev (map part_in devs) d ≡ (kept_of devs d).row.units = ap (λ (p : DevPart). p.row.units) (part_is devs d) in
    ap (λ n. count_below n (λ u. kind (role_at (space_of whole devs) d u))) units
    ∙ (count_as (kept_of devs d).row.units (λ u. kind (role_at (space_of whole devs) d u)) (λ u. kind (role_in x u)) (λ u. ap kind (roles_are whole devs d u s))
    ∙ count_beyond (kept_of devs d).row.units x.units (λ u. kind (role_in x u)) (most_units (kept_of devs d) (s.rows d)) (λ u past. ap kind (absent_in x u past) ∙ none))

pub columns_are : (whole : Whole) (slabs : Devices) (devs : List Kept) (d allocated kept deferred free : ℕ) (k : Kept) → IsSpace whole slabs devs → k ≡ kept_of devs d
    → allocated + kept ≡ unit_count k.uses.held + unit_count k.uses.meta + unit_count k.uses.saved → kept ≡ unit_count k.uses.kept → deferred ≡ freed_count k.uses.freed + freed_count k.uses.late1 + freed_count k.uses.late2 → free ≡ count_at slabs d
    → record { allocated = allocated; checkpointed = kept; deferred = deferred; free = free } ≡ columns.columns (space_of whole devs) d
columns_are whole slabs devs d allocated kept deferred free k s is a c b f =
    let x = (kept_of devs d).uses in
    let acc = s.account d in
    let e1 : columns.role_count (space_of whole devs) is_allocated_role d ≡ allocated =
    (let below = role_below whole slabs devs s is_allocated_role d refl in
    let count = allocated_count (free_at slabs d) (count_at slabs d) x acc in
    let sum = ap (λ (z : Kept). unit_count z.uses.held + unit_count z.uses.meta + unit_count z.uses.saved) is in
    let keep = ap (λ (z : Kept). unit_count z.uses.kept) is in
    omega (arith, below, count, sum, keep, a, c)) in
    let e2 : columns.role_count (space_of whole devs) is_kept_role d ≡ kept = role_below whole slabs devs s is_kept_role d refl ∙ (kept_count (free_at slabs d) (count_at slabs d) x acc ∙ (ap (λ (z : Kept). unit_count z.uses.kept) (sym is) ∙ sym c)) in
    let e3 : columns.role_count (space_of whole devs) is_deferred_role d ≡ deferred =
    role_below whole slabs devs s is_deferred_role d refl ∙ (deferred_count (free_at slabs d) (count_at slabs d) x acc ∙ (ap (λ (z : Kept). freed_count z.uses.freed + freed_count z.uses.late1 + freed_count z.uses.late2) (sym is) ∙ sym b)) in
    let e4 : columns.role_count (space_of whole devs) is_free_role d ≡ free = (same_free whole slabs devs s).count d ∙ sym f in
    rw e1 rw e2 rw e3 rw e4 refl

-- no more units are kept than are in use
pub kept_fits : {whole : Whole} (slabs : Devices) (devs : List Kept) (d : ℕ) (k : Kept) → IsSpace whole slabs devs → k ≡ kept_of devs d → unit_count k.uses.kept ≤ unit_count k.uses.held + unit_count k.uses.meta + unit_count k.uses.saved
kept_fits slabs devs d k s is =
    let count = allocated_count (free_at slabs d) (count_at slabs d) (kept_of devs d).uses (s.account d) in
    let sum = ap (λ (z : Kept). unit_count z.uses.held + unit_count z.uses.meta + unit_count z.uses.saved) is in
    let keep = ap (λ (z : Kept). unit_count z.uses.kept) is in
    omega (arith, count, sum, keep)
