use Rattle.std.proofs.Common.{◌≡◌, ◌∙◌, ◌↔◌, ◌≤◌, ℕ, List, length, None, IsOk, IfErr, ap, subst, arith}
use Rattle.zr_base.specs.declared.refusal.Refusal.{Refusal}
use Rattle.zr_base.specs.declared.refusal.Refusal.TheVariants.{NoRoom}
use Rattle.zr_bptr.specs.declared.Ptr.{Ptr}
use Rattle.zr_rules.specs.Columns.{free_units}
use Rattle.zr_rules.specs.Owed.{owed}
use Rattle.zr_rules.specs.Space.{Space}
use Rattle.zr_room.specs.Counts.{sizes_with}
use Rattle.zr_txg.proofs.Counts.{block_count-record}
use Rattle.zr_lines.proofs.drops.demand_to_drop.Goals as goal

same_room : (s : Space) (a b c a' b' c' : ℕ) → a ≡ a' → b ≡ b' → c ≡ c' → owed (sizes_with s a b c) ≡ owed (sizes_with s a' b' c')
same_room s a b c a' b' c' p q r =
    ap (λ (n : ℕ). owed (sizes_with s n b c)) p ∙ (ap (λ (n : ℕ). owed (sizes_with s a' n c)) q ∙ ap (λ (n : ℕ). owed (sizes_with s a' b' n)) r)

pub overflow_sub-changed : goal.overflow_sub-changed
overflow_sub-changed c =
    let all = block_count-record c.args.pool.now.group.objects c.args.id None c.objects.ensures.rising in
    let own = ap (λ (xs : List (ℕ × Ptr)). length xs) c.changes.ensures.changes in
    let kept = c.blocks-2.ensures in
    omega (arith, all, own, kept)

pub returns-clause-enough : goal.returns-clause-enough
returns-clause-enough c =
    let g = c.args.pool.now.group in
    let own = ap (λ (xs : List (ℕ × Ptr)). length xs) c.changes.ensures.changes in
    let kept = c.blocks-2.ensures in
    let count = c.objects.ensures.count in
    let new = c.new_objects.ensures.new in
    let needed = c.owed_with.ensures.owed ∙ same_room c.args.pool.now.space _ _ _ _ _ _ (omega (arith, own, kept)) (omega (arith, count, new)) c.pieces_of.ensures.pieces in
    subst (λ (n : ℕ). IsOk c.demand.result ↔ n ≤ free_units c.args.pool.now.space) needed c.demand.ensures.enough

pub returns-clause-short : goal.returns-clause-short
returns-clause-short c =
    let own = ap (λ (xs : List (ℕ × Ptr)). length xs) c.changes.ensures.changes in
    let kept = c.blocks-2.ensures in
    let count = c.objects.ensures.count in
    let new = c.new_objects.ensures.new in
    let needed = c.owed_with.ensures.owed ∙ same_room c.args.pool.now.space _ _ _ _ _ _ (omega (arith, own, kept)) (omega (arith, count, new)) c.pieces_of.ensures.pieces in
    subst (λ (n : ℕ). IfErr c.demand.result (λ (r : Refusal). r ≡ NoRoom n (free_units c.args.pool.now.space))) needed c.demand.ensures.short
