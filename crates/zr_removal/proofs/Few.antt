-- Numbers that are small.
use Rattle.std.proofs.Common.{ℕ, zero, suc, ◌+◌, ◌-◌, ◌*◌, ◌<◌, ◌≤◌, ◌^◌, List, [], ◌∷◌, length, take, get_or, sum_by, arith}
use Rattle.std.specs.Int.{div_ceil}
use Rattle.std.proofs.lemmas.List.Sums.{sum_by-cons}
use Rattle.zr_base.specs.declared.space.DevPart.{DevPart}
use Rattle.zr_base.specs.declared.space.Extent.{Extent}
use Rattle.zr_base.specs.Extents.{unit_count, EndsBy, IsMaximalFrom}
use Rattle.zr_rules.specs.Places.{part_of, units_of_dev}
use Rattle.zr_space.specs.Totals.{units_ever}
use Rattle.zr_sync.specs.Pools.{IsOpen}
use Rattle.zr_sync.specs.declared.open.OpenPool.{OpenPool}
use Rattle.zr_sync.proofs.Pools.{small_device}
use Rattle.zr_removal.specs.Devices.{copy_pieces}

-- a set that ends by a unit has no more units
set_small : (low n : ℕ) (es : List Extent) → IsMaximalFrom low es → EndsBy n es → unit_count es ≤ n - low
set_small low n [] m ends = omega arith
set_small low n (e ∷ es) m ends =
    let rest = set_small (e.start + e.len + 1) n es m.3 ends.1 in
    let a = m.0 in
    let b = ends.0 in
    omega (arith, rest, a, b)

-- a device holds few units
pub few_held : (sizes : List ℕ) (x : OpenPool) (d : ℕ) → IsOpen sizes x → d < x.table.count → unit_count (part_of x.space.parts.devs d).held ≤ 2 ^ 26
few_held sizes x d o lt =
    let set = (o.lawful.sets d).held in
    let small = small_device sizes x d o lt in
    let within = set_small 0 (part_of x.space.parts.devs d).row.units (part_of x.space.parts.devs d).held set.maximal set.within in
    omega (arith, small, within)

ceil_few : (n : ℕ) → div_ceil n 256 ≤ n
ceil_few n = omega arith

pub pieces_few : (es : List Extent) → copy_pieces es ≤ unit_count es
pieces_few [] = omega arith
pieces_few (e ∷ es) =
    let one = ceil_few e.len in
    let rest = pieces_few es in
    let both = sum_by-cons (λ (x : Extent). div_ceil x.len 256) e es in
    omega (arith, one, rest, both)

-- those so far, and those of the next extent
pub pieces_next : (es : List Extent) (i : ℕ) (d : Extent) → i < length es → copy_pieces (take i es) + div_ceil (get_or es i d).len 256 ≤ unit_count es
pieces_next [] i d lt = absurd (omega (arith, lt))
pieces_next (e ∷ es) zero d lt = let one = ceil_few e.len in omega (arith, one)
pieces_next (e ∷ es) (suc i) d lt =
    let one = ceil_few e.len in
    let rest = pieces_next es i d (omega (arith, lt)) in
    let both = sum_by-cons (λ (x : Extent). div_ceil x.len 256) e (take i es) in
    omega (arith, one, rest, both)

sum_few : (parts : List DevPart) (b : ℕ) → ((d : ℕ) → d < length parts → units_of_dev parts d ≤ b) → sum_by (λ (p : DevPart). p.row.units) parts ≤ length parts * b
sum_few [] b few = omega arith
sum_few (p ∷ parts) b few =
    let one : p.row.units ≤ b = few 0 (omega arith) in
    let rest = sum_few parts b (λ d lt. few (suc d) (omega (arith, lt))) in
    let both = sum_by-cons (λ (q : DevPart). q.row.units) p parts in
    omega (arith, one, rest, both)

pub few_ever : (sizes : List ℕ) (x : OpenPool) → IsOpen sizes x → units_ever x.space ≤ 2 ^ 31
few_ever sizes x o =
    let all = sum_few x.space.parts.devs (2 ^ 26) (λ d lt. small_device sizes x d o (let n = o.devices in omega (arith, lt, n))) in
    let n = o.devices in
    let few = o.few in
    omega (arith, all, n, few)

pub pieces_so_far : (es : List Extent) (i : ℕ) → copy_pieces (take i es) ≤ unit_count es
pieces_so_far [] zero = omega arith
pieces_so_far [] (suc i) = omega arith
pieces_so_far (e ∷ es) zero = omega arith
pieces_so_far (e ∷ es) (suc i) =
    let one = ceil_few e.len in
    let rest = pieces_so_far es i in
    let both = sum_by-cons (λ (x : Extent). div_ceil x.len 256) e (take i es) in
    omega (arith, one, rest, both)
