-- The numbers from which the room that is needed is computed.
use Rattle.std.proofs.Common.{◌≡◌, ℕ, ◌+◌, ◌-◌, ◌*◌, ◌^◌, ◌≤◌, List, [], ◌∷◌, length, map, Option, Some, None, ◌∙◌, sym, ap, subst, arith}
use Rattle.std.specs.Prelude.{All, IsTrue}
use Rattle.std.specs.Global.{Vec}
use Rattle.std.proofs.lemmas.Bool.Decides.{nat_tests}
use Rattle.std.proofs.lemmas.List.{length-map, length-append}
use Rattle.std.proofs.lemmas.List.Concat.{flat_map-cons}
use Rattle.std.proofs.lemmas.List.Elements.{All-nil, All-cons, All-head, All-tail, All-append}
use Rattle.std.proofs.lemmas.List.FromFn.{length-range_with_len}
use Rattle.std.proofs.lemmas.List.Sums.{sum_by-cons}
use Rattle.std.proofs.Math.Nat.{mul-le-mul}
use Rattle.zr_base.specs.Blocks.{is_block_size}
use Rattle.zr_bptr.specs.Spelling.{IsLawful, IsPointer}
use Rattle.zr_bptr.specs.declared.Bptr.{Bptr}
use Rattle.zr_bptr.specs.declared.Ptr.{Ptr}
use Rattle.zr_bptr.specs.declared.Ptr.TheVariants.{Hole, At}
use Rattle.zr_change.specs.Changes.{new_in}
use Rattle.zr_change.specs.Plans.{puts_of, put_of, olds_of}
use Rattle.zr_change.specs.declared.plans.Planned.{Planned}
use Rattle.zr_lines.specs.Counts.{new_object, pieces_in}
use Rattle.zr_room.specs.Counts.{sizes_with}
use Rattle.zr_rules.specs.Equation.{devices_in}
use Rattle.zr_rules.specs.Owed.{owed}
use Rattle.zr_rules.specs.Space.{Space}
use Rattle.zr_tree.specs.Blocks.{FitsAt}
use Rattle.zr_tree.specs.Trees.{own}
use Rattle.zr_txg.specs.Changes.{Changes, block_count}
use Rattle.zr_lines.specs.Intents.{IsIntent}
use Rattle.zr_lines.specs.Rooms.{owed_after}
use Rattle.zr_lines.specs.declared.intent.Intent.{Intent}

pub few_planned : (g : Changes) (id : ℕ) (i : Intent) → IsIntent g id i → length i.plan.items ≤ 2 ^ 25
few_planned g id i is =
    let same = length-map i.plan.items (λ (p : Planned). p.index) in
    let long = length-range_with_len i.first (i.last + 1 - i.first) in
    let row = ap (λ (ks : List ℕ). length ks) is.row in
    let order = is.order in
    let top = is.top in
    omega (arith, same, long, row, order, top)

one_put : (new : Option (Vec ℕ)) → put_of new ≤ 1
one_put None = omega arith
one_put (Some bytes) = omega arith

pub puts_short : (plan : List Planned) → puts_of plan ≤ length plan
puts_short [] = omega arith
puts_short (p ∷ plan) =
    let rest = puts_short plan in
    let one = one_put p.new in
    let both = sum_by-cons (λ (q : Planned). put_of q.new) p plan in
    omega (arith, rest, one, both)

one_old : (p : Ptr) → length (own p) ≤ 1
one_old Hole = omega arith
one_old (At b) = omega arith

pub olds_short : (plan : List Planned) → length (olds_of plan) ≤ length plan
olds_short [] = omega arith
olds_short (p ∷ plan) =
    let rest = olds_short plan in
    let one = one_old p.old in
    let both = length-append (own p.old) (olds_of plan) in
    let whole = ap (λ (bs : List Bptr). length bs) (flat_map-cons (λ (q : Planned). own q.old) p plan) in
    omega (arith, rest, one, both, whole)

-- the old blocks are lawful where their pointers are
one_lawful : (p : Ptr) → IsLawful p → All IsPointer (own p)
one_lawful Hole h = All-nil IsPointer
one_lawful (At b) h = All-cons IsPointer b [] h (All-nil IsPointer)

pub olds_lawful : (plan : List Planned) → All (λ (p : Planned). FitsAt 0 p.old) plan → All IsPointer (olds_of plan)
olds_lawful [] h = All-nil IsPointer
olds_lawful (p ∷ plan) h =
    let P : Planned → Type 0 = λ q. FitsAt 0 q.old in
    subst (All IsPointer) (sym (flat_map-cons (λ (q : Planned). own q.old) p plan)) (All-append IsPointer (own p.old) (olds_of plan) (one_lawful p.old (All-head P p plan h).1) (olds_lawful plan (All-tail P p plan h)))

small_units : (n : ℕ) → IsTrue (is_block_size n) → n ≤ 32
small_units n h = grind (arith, nat_tests, h)

pub few_units : (g : Changes) (id : ℕ) (i : Intent) → IsIntent g id i → i.rec.units * puts_of i.plan.items ≤ 2 ^ 30
few_units g id i is =
    let units = small_units i.rec.units is.object.size in
    let puts = puts_short i.plan.items in
    let planned = few_planned g id i is in
    let few : puts_of i.plan.items ≤ 33554432 = omega (arith, puts, planned) in
    let product : i.rec.units * puts_of i.plan.items ≤ 32 * 33554432 = mul-le-mul units few in
    omega (arith, product)

pub owed_is : (s : Space) (g : Changes) (id : ℕ) (plan : List Planned) (blocks new objects more puts pieces : ℕ)
    → blocks ≡ block_count g.objects → new ≡ new_in g id (map (λ p. p.index) plan) → objects ≡ length g.objects → more ≡ new_object g id → puts ≡ puts_of plan → pieces ≡ pieces_in (devices_in s) (olds_of plan)
    → owed (sizes_with s (blocks + new) (objects + more) (puts + pieces)) ≡ owed_after s g id plan
owed_is s g id plan blocks new objects more puts pieces e1 e2 e3 e4 e5 e6 =
    let all_blocks : blocks + new ≡ block_count g.objects + new_in g id (map (λ p. p.index) plan) = omega (arith, e1, e2) in
    let all_objects : objects + more ≡ length g.objects + new_object g id = omega (arith, e3, e4) in
    let all_pieces : puts + pieces ≡ puts_of plan + pieces_in (devices_in s) (olds_of plan) = omega (arith, e5, e6) in
    ap (λ (n : ℕ). owed (sizes_with s n (objects + more) (puts + pieces))) all_blocks
    ∙ (ap (λ (n : ℕ). owed (sizes_with s (block_count g.objects + new_in g id (map (λ p. p.index) plan)) n (puts + pieces))) all_objects
    ∙ ap (λ (n : ℕ). owed (sizes_with s (block_count g.objects + new_in g id (map (λ p. p.index) plan)) (length g.objects + new_object g id) n)) all_pieces)
