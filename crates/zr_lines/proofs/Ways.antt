-- An open pool through the steps of a line on a whole object.
use Rattle.std.proofs.Common.{◌≡◌, ℕ, ◌+◌, ◌≤◌, Bool, true, false, List, [], Option, inl, inr, refl, sym, ◌∙◌, ap, subst, arith}
use Rattle.std.specs.Prelude.{length, if◌then◌else◌, is_some}
use Rattle.zr_bptr.specs.declared.ObjRec.{ObjRec}
use Rattle.zr_lookup.specs.Groups.{IsLawfulGroup}
use Rattle.zr_lines.specs.Sought.{CanTake}
use Rattle.zr_txg.specs.Changes.{Changes, object_in, block_count}
use Rattle.zr_change.specs.Changes.{SetsObject}
use Rattle.zr_sync.specs.declared.open.OpenPool.{OpenPool}
use Rattle.zr_shelf.specs.Counts.{Counts}
use Rattle.zr_shelf.specs.Moments.{World}
use Rattle.zr_sync.specs.Pools.{IsOpen, IsInLimits}
use Rattle.zr_sync.specs.Writes.{WritesBlocks}
use Rattle.zr_sync.proofs.Pools.{blocks_open}
use Rattle.zr_vdev.specs.declared.kind.Kind.TheVariants.{Block}
use Rattle.zr_vdev.proofs.Follows.{continues_itself}
use Rattle.zr_lines.specs.Counts.{new_object}
use Rattle.zr_lines.specs.Groups.{IsReadyGroup}

-- the group alone changes
pub group_open : (n : List ℕ) (c : Counts) (t : Type 0) (w : World) (x y : OpenPool) → IsOpen n x → y ≡ record x { group = y.group } → y.group.txg ≡ x.group.txg → IsLawfulGroup y.group → IsInLimits y.group → IsOpen n y
group_open n c t w x y o rest txg lawful limits =
    let alone : WritesBlocks n n c c t t w w x (record x { group = y.group }) = record { goes = continues_itself Block x.table.slots n c t w x.space x.cache; rest = refl; txg = txg } in
    subst (IsOpen n) (sym rest) (blocks_open n n c c t t w w x (record x { group = y.group }) o alone lawful limits)

-- ---- the group that is ready

pub ready_group : (id objects : ℕ) (done : Bool) (x y : OpenPool) → objects ≡ new_object x.group id → (done ≡ false → y ≡ x) → (done ≡ true → CanTake 0 objects x.group → ⊥) → (done ≡ true → y.group.objects ≡ []) → (done ≡ true → y.group.txg ≡ x.group.txg + 1) → IsReadyGroup id x.group y.group
ready_group id objects false x y is stays due empty txg = inl (ap (λ (o : OpenPool). o.group) (stays refl))
ready_group id objects true x y is stays due empty txg = inr (record { full = λ can. due refl (subst (λ (n : ℕ). CanTake 0 n x.group) (sym is) can); empty = empty refl; txg = txg refl })

new_at_most : (g : Changes) (id : ℕ) → new_object g id ≤ 1
new_at_most g id = (elim (is_some (object_in g id)) as (λ (b : Bool). (if b then 0 else 1) ≤ 1) [ true ↦ omega arith | false ↦ omega arith ])

-- it can take the object
pub ready_takes : (id objects : ℕ) (old g : Changes) → IsReadyGroup id old g → objects ≡ new_object old id → CanTake 0 objects g → CanTake 0 (new_object g id) g
ready_takes id objects old g (inl same) is takes =
    let e : objects ≡ new_object g id = is ∙ ap (λ (h : Changes). new_object h id) (sym same) in
    subst (λ (n : ℕ). CanTake 0 n g) e takes
ready_takes id objects old g (inr behind) is takes =
    let few = new_at_most g id in
    let none : length g.objects ≡ 0 = rw behind.empty refl in
    let blocks = takes.0 in
    (blocks, omega (arith, few, none))

-- with the object it is within the limits
pub set_limits : (id : ℕ) (object : Option ObjRec) (g h : Changes) → CanTake 0 (new_object g id) g → SetsObject id object g h → block_count h.objects ≤ block_count g.objects → IsInLimits h
set_limits id object g h takes sets fewer =
    let b = takes.0 in
    let o = takes.1 in
    let count = sets.object_count in
    record { blocks = omega (arith, b, fewer); objects = omega (arith, o, count) }
