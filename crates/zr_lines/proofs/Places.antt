-- An empty group has a place for the blocks that are in reach.
use Rattle.std.proofs.Common.{◌≡◌, ℕ, suc, ◌+◌, ◌-◌, ◌*◌, ◌/◌, ◌%◌, ◌<◌, ◌≤◌, Bool, true, false, List, [], ◌∷◌, length, refl, ap, arith}
use Rattle.std.specs.Prelude.{IsTrue, is_some, if◌then◌else◌}
use Rattle.std.proofs.lemmas.Bool.Decides.{nat_tests}
use Rattle.std.proofs.lemmas.List.FromFn.{length-range_with_len}
use Rattle.std.proofs.lemmas.List.Sums.{sum_by-cons}
use Rattle.std.proofs.lemmas.Nat.{div-add-mod', div_below}
use Rattle.std.proofs.Math.Nat.{mod-lt, add-mul}
use Rattle.zr_base.specs.Blocks.{is_block_size}
use Rattle.zr_change.specs.Changes.{new_in}
use Rattle.zr_change.specs.Edits.{touched}
use Rattle.zr_change.specs.declared.ranges.Edit.{Edit}
use Rattle.zr_lookup.proofs.Touching.{some_units}
use Rattle.zr_txg.specs.Changes.{Changes, block_count, change_in, object_in, ObjectChange}
use Rattle.zr_lines.specs.Intents.{IsFull}
use Rattle.zr_lines.specs.Reaches.{is_in_reach, first_block, last_block}
use Rattle.zr_lines.specs.declared.range.Reach.{Reach}
use Rattle.zr_lines.specs.declared.range.Reach.TheVariants.{Fill, Write, Punch}

one_at_most : (b : Bool) → (if b then 0 else 1) ≤ 1
one_at_most true = omega arith
one_at_most false = omega arith

more_at_most : (b : Bool) (n m : ℕ) → n ≤ m → (if b then 0 else 1) + n ≤ suc m
more_at_most true n m le = omega (arith, le)
more_at_most false n m le = omega (arith, le)

new_at_most : (g : Changes) (id : ℕ) (ks : List ℕ) → new_in g id ks ≤ length ks
new_at_most g id [] = omega arith
new_at_most g id (k ∷ ks) =
    let both = sum_by-cons (λ (x : ℕ). if is_some (change_in g id x) then 0 else 1) k ks in
    let more = more_at_most (is_some (change_in g id k)) (new_in g id ks) (length ks) (new_at_most g id ks) in
    omega (arith, both, more)

-- 8,192 bytes touch at most three blocks
span_short : (off len d : ℕ) → 4096 ≤ d → len ≤ 8192 → (off + len - 1) / d < off / d + 3
span_short off len d le short =
    let parts = div-add-mod' off d in
    let rest : off % d < d = mod-lt off (omega (arith, le)) in
    let split = add-mul (off / d) 3 d in
    div_below (off + len - 1) d (off / d + 3) (omega (arith, le)) (omega (arith, parts, rest, split, le, short))

span_of : (reach : Reach) (units : ℕ) (e : Edit) → IsTrue (is_block_size units) → is_in_reach reach units e ≡ true → (reach ≡ Write → e.len ≤ 8192) → last_block units e + 1 - first_block units e ≤ 64
span_of Fill units e size reach short = grind (arith, nat_tests, reach)
span_of Punch units e size reach short = grind (arith, nat_tests, reach)
span_of Write units e size reach short =
    let some = some_units units size in
    let few = span_short e.off e.len (4096 * units) (omega (arith, some)) (short refl) in
    omega (arith, few)

pub takes_all : (reach : Reach) (g : Changes) (id : ℕ) (e : Edit) → g.objects ≡ [] → (reach ≡ Write → e.len ≤ 8192) → IsFull reach g id e → ⊥
takes_all reach g id e empty short full =
    let span = span_of reach full.units e full.size full.within short in
    let most = new_at_most g id (touched full.units e) in
    let long = length-range_with_len (first_block full.units e) (last_block full.units e + 1 - first_block full.units e) in
    let none : block_count g.objects ≡ 0 = ap block_count empty in
    let zero_objects : length g.objects ≡ 0 = ap (λ (xs : List (ℕ × ObjectChange)). length xs) empty in
    let one = one_at_most (is_some (object_in g id)) in
    full.full (omega (arith, span, most, long, none), omega (arith, zero_objects, one))
