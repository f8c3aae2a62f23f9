use Rattle.std.proofs.Common.{refl}
use Rattle.zr_rules.specs.Roles.{is_allocated_role, is_kept_role, is_deferred_role, is_free_role}
use Rattle.zr_rules.specs.Space.{role_at}
use Rattle.zr_laws.proofs.Columns.{same_roles}
use Rattle.zr_laws.proofs.counts.columns_count_roles.Goals as goal

pub returns-clause-same : goal.returns-clause-same
returns-clause-same c = λ s t d units each.
    let allocated = same_roles s t d is_allocated_role units each in
    let kept = same_roles s t d is_kept_role units each in
    let deferred = same_roles s t d is_deferred_role units each in
    let free = same_roles s t d is_free_role units each in
    cc

pub returns-clause-cut : goal.returns-clause-cut
unfolding role_at
returns-clause-cut c = refl

pub returns-clause-twice : goal.returns-clause-twice
unfolding role_at
returns-clause-twice c = refl

pub returns-clause-late_cut : goal.returns-clause-late_cut
unfolding role_at
returns-clause-late_cut c = refl

pub returns-clause-late_twice : goal.returns-clause-late_twice
unfolding role_at
returns-clause-late_twice c = refl

pub returns-clause-column : goal.returns-clause-column
unfolding role_at
returns-clause-column c = refl
