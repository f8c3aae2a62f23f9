use Rattle.std.proofs.Common.{◌∷◌, [], ℕ, List, length, sym, ap, subst, arith}
use Rattle.std.specs.Prelude.{All, map}
use Rattle.std.proofs.lemmas.List.Elements.{All-nil, All-cons, All-head, All-tail, All-append}
use Rattle.std.proofs.lemmas.List.{length-map, length-append}
use Rattle.zr_bptr.specs.declared.Bptr.{Bptr}
use Rattle.zr_bptr.specs.declared.Ptr.TheVariants.{At}
use Rattle.zr_bptr.specs.Spelling.{IsPointer}
use Rattle.zr_tree.specs.Blocks.{FitsAt}
use Rattle.zr_lookup.proofs.leaves.blocks_of.Goals as goal

pointers_lawful : (xs : List (ℕ × Bptr)) → All (λ leaf. FitsAt 0 (At leaf.1)) xs → All IsPointer (map (λ leaf. leaf.1) xs)
pointers_lawful [] h = All-nil IsPointer
pointers_lawful (x ∷ xs) h =
    let P : ℕ × Bptr → Type 0 = λ leaf. FitsAt 0 (At leaf.1) in
    All-cons IsPointer x.1 (map (λ leaf. leaf.1) xs) (All-head P x xs h).1 (pointers_lawful xs (All-tail P x xs h))

pub returns-clause-lawful : goal.returns-clause-lawful
returns-clause-lawful g c =
    let P : ℕ × Bptr → Type 0 = λ leaf. FitsAt 0 (At leaf.1) in
    let h = c.in_ok-walked.ensures in
    let first = subst (All IsPointer) (sym c.in_ok-blocks.ensures) (pointers_lawful c.as_slice.result.now (subst (All P) (sym c.as_slice.ensures.value) h.leaves_fit)) in
    let second = subst (All IsPointer) (sym c.as_slice-2.ensures.value) h.blocks_fit in
    subst (All IsPointer) (sym c.in_ok-extend_from_slice.ensures.items) (All-append IsPointer c.in_ok-blocks.blocks.items c.as_slice-2.result.now first second)

pub returns-clause-few : goal.returns-clause-few
returns-clause-few g c =
    let h = c.in_ok-walked.ensures in
    let leaves = ap (λ (xs : List (ℕ × Bptr)). length xs) c.as_slice.ensures.value in
    let tree = ap (λ (xs : List Bptr). length xs) c.as_slice-2.ensures.value in
    let mapped = ap (λ (xs : List Bptr). length xs) c.in_ok-blocks.ensures in
    let same = length-map c.as_slice.result.now (λ (leaf : ℕ × Bptr). leaf.1) in
    let all = ap (λ (xs : List Bptr). length xs) c.in_ok-extend_from_slice.ensures.items in
    let both = length-append c.in_ok-blocks.blocks.items c.as_slice-2.result.now in
    let few_leaves = h.few_leaves in
    let few_blocks = h.few_blocks in
    omega (arith, leaves, tree, mapped, same, all, both, few_leaves, few_blocks)
