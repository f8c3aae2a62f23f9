-- Putting units into a set that may have some of them.
use Rattle.std.proofs.Common.{◌≡◌, ℕ, ◌+◌, ◌≤◌, ◌<◌, ◌&&◌, ◌||◌, nat_le, nat_lt, List, [], take, length, get_or, subst, ◌∙◌, ap, arith}
use Rattle.std.proofs.lemmas.Bool.Decides.{nat_tests}
use Rattle.std.proofs.lemmas.List.{take_more, take_all}
use Rattle.std.proofs.lemmas.List.Folds.{list_any_more}
use Rattle.zr_base.specs.declared.space.Extent.{Extent}
use Rattle.zr_chain.specs.declared.visit.Visited.{Visited}
use Rattle.zr_base.specs.Extents.{has_unit, in_extent}
use Rattle.zr_space.proofs.Reading.{has_snoc}
use Rattle.zr_audit.specs.Found.{IsUnion, IsUnionTo, is_end_at, ends_at}

-- one run more, where the last one ended
pub union_more : (old mid new : List Extent) (from at to : ℕ) → from ≤ at → at ≤ to → IsUnionTo old mid from at → IsUnionTo mid new at to → IsUnionTo old new from to
union_more old mid new from at to le more one two u = grind (arith, nat_tests, le, more, one u, two u)

pub union_none : (es : List Extent) (from : ℕ) → IsUnionTo es es from from
union_none es from u = grind (arith, nat_tests)

pub union_all : (old new : List Extent) (e : Extent) (at : ℕ) → e.start + e.len ≤ at → at ≤ e.start + e.len → IsUnionTo old new e.start at → IsUnion old new e
union_all old new e at low high all u = let end : at ≡ e.start + e.len = omega (arith, low, high) in all u ∙ ap (λ n. has_unit old u || (nat_le e.start u && nat_lt u n)) end

-- ---- parts, and the units of another set

-- the set has the units below a bound that some part has
abbrev pub Has : List Extent → List Extent → List Visited → ℕ → ℕ → Type 0
Has old new visits dev units = (u : ℕ) → has_unit new u ≡ (has_unit old u || (ends_at visits dev u && nat_lt u units))

pub has_none : (es : List Extent) (dev units : ℕ) → Has es es [] dev units
has_none es dev units u = grind (arith, nat_tests)

pub has_more : (old mid new : List Extent) (visits : List Visited) (i dev units : ℕ) (v : Visited) (e : Extent) → i < length visits → Has old mid (take i visits) dev units → IsUnion mid new e
    → ((u : ℕ) → in_extent e u ≡ (is_end_at dev u (get_or visits i v) && nat_lt u units)) → Has old new (take (i + 1) visits) dev units
has_more old mid new visits i dev units v e lt has union is u = grind (arith, nat_tests, list_any_more (is_end_at dev u) visits i v lt, has u, union u, is u)

pub has_all : (old new : List Extent) (visits : List Visited) (i dev units : ℕ) → length visits ≤ i → Has old new (take i visits) dev units → Has old new visits dev units
has_all old new visits i dev units le has = subst (λ (xs : List Visited). Has old new xs dev units) (take_all i visits le) has

-- the set has the units below a bound that the other has
abbrev pub HasUnits : List Extent → List Extent → List Extent → ℕ → Type 0
HasUnits old new other units = (u : ℕ) → has_unit new u ≡ (has_unit old u || (has_unit other u && nat_lt u units))

pub units_none : (es : List Extent) (units : ℕ) → HasUnits es es [] units
units_none es units u = grind (arith, nat_tests)

unit_more : (es : List Extent) (i u : ℕ) (x : Extent) → i < length es → has_unit (take (i + 1) es) u ≡ (has_unit (take i es) u || in_extent (get_or es i x) u)
unit_more es i u x lt = ap (λ (xs : List Extent). has_unit xs u) (take_more es i x lt) ∙ has_snoc (take i es) (get_or es i x) u

pub units_more : (old mid new other : List Extent) (i units : ℕ) (x e : Extent) → i < length other → HasUnits old mid (take i other) units → IsUnion mid new e
    → ((u : ℕ) → in_extent e u ≡ (in_extent (get_or other i x) u && nat_lt u units)) → HasUnits old new (take (i + 1) other) units
units_more old mid new other i units x e lt has union is u = grind (arith, nat_tests, unit_more other i u x lt, has u, union u, is u)

pub units_all : (old new other : List Extent) (i units : ℕ) → length other ≤ i → HasUnits old new (take i other) units → HasUnits old new other units
units_all old new other i units le has = subst (λ (xs : List Extent). HasUnits old new xs units) (take_all i other le) has
