-- What a metaslab's runs are for the device.
use Rattle.std.proofs.Common.{◌≡◌, ℕ, ◌+◌, ◌-◌, ◌*◌, ◌≤◌, ◌<◌, ◌/◌, List, [], ◌∷◌, true, false, length, get_or, ◌^◌, zero, suc, arith, subst, sym, ◌==◌, ⊎_elim, if◌then◌else◌}
use Rattle.std.proofs.Math.ListN.{set}
use Rattle.std.proofs.lemmas.List.{get_or-set_same, get_or-set_other}
use Rattle.std.proofs.lemmas.List.Sums.{sum_by-set}
use Rattle.std.proofs.lemmas.Bool.{cases_eq, cases_lt}
use Rattle.std.proofs.lemmas.Bool.Decides.{nat_tests}
use Rattle.std.proofs.lemmas.Grind.{common_steps}
use Rattle.zr_base.specs.declared.space.Extent.{Extent}
use Rattle.zr_base.specs.declared.space.Policy.{Policy}
use Rattle.zr_base.specs.Extents.{longest_len, has_unit, in_extent, unit_count, IsMaximal, IsMaximalFrom, AddsUnits, RemovesUnits, HasNone, HasAll}
use Rattle.zr_metaslab.specs.Trees.{Tree, leaf_at, HasLeaf}
use Rattle.zr_metaslab.specs.Metaslabs.{slab_at, longest_of, free_count, AreInside, IsSlab, AreSlabs, TakesRun, TakesFirst, LosesUnits, GainsUnits, HasNoneFree, IsDevice}

pub slab_below : (slabs : List (List Extent)) (k : ℕ) → longest_len (slab_at slabs k) ≤ longest_of slabs
slab_below [] k = omega arith
slab_below (s ∷ ss) zero = omega arith
slab_below (s ∷ ss) (suc k) = omega (arith, slab_below ss k)

longest_least : (slabs : List (List Extent)) (n : ℕ) → ((k : ℕ) → longest_len (slab_at slabs k) ≤ n) → longest_of slabs ≤ n
longest_least [] n all = omega arith
longest_least (s ∷ ss) n all =
    let here : longest_len s ≤ n = all zero in
    omega (arith, here, longest_least ss n (λ k. all (suc k)))

-- the root of the tree is the longest run
pub longest_is : (slabs : List (List Extent)) (t : Tree) (n : ℕ) → ((k : ℕ) → leaf_at t k ≡ longest_len (slab_at slabs k)) → ((k : ℕ) → leaf_at t k ≤ n) → (0 < n → HasLeaf t n) → n ≡ longest_of slabs
longest_is slabs t n kept most some =
    let le : longest_of slabs ≤ n = longest_least slabs n (λ k. omega (arith, kept k, most k)) in
    let there : 0 < n → n ≤ longest_of slabs = λ h. let leaf : HasLeaf t n = some h in omega (arith, leaf.has, kept leaf.leaf, slab_below slabs leaf.leaf) in
    grind (arith, le, there)

-- where each metaslab is too short, so is the longest
pub longest_short : (slabs : List (List Extent)) (t : Tree) (want : ℕ) → 0 < want → ((k : ℕ) → leaf_at t k ≡ longest_len (slab_at slabs k)) → ((k : ℕ) → leaf_at t k < want) → longest_of slabs < want
longest_short slabs t want some kept all =
    let le : longest_of slabs ≤ want - 1 = longest_least slabs (want - 1) (λ k. omega (arith, kept k, all k)) in
    omega (arith, le)

-- a metaslab with a run is there
pub slab_there : (slabs : List (List Extent)) (k : ℕ) → 0 < longest_len (slab_at slabs k) → k < length slabs
slab_there slabs k some = ⊎_elim (λ lt. lt) (λ ge. absurd (grind (arith, common_steps, ge, some))) (cases_lt k (length slabs))

-- an item read with itself as the default
pub read : (slabs : List (List Extent)) (k : ℕ) (x : List Extent) → k < length slabs → x ≡ get_or slabs k x → x ≡ slab_at slabs k
read slabs k x there is = grind (arith, common_steps, is)

slab_set_other : (slabs : List (List Extent)) (k j : ℕ) (new : List Extent) → (j == k) ≡ false → slab_at (set slabs k new) j ≡ slab_at slabs j
slab_set_other slabs k j new ne = grind (arith, nat_tests, common_steps, ne, get_or-set_other slabs k j new [])

slab_set_same : (slabs : List (List Extent)) (k : ℕ) (new : List Extent) → k < length slabs → slab_at (set slabs k new) k ≡ new
slab_set_same slabs k new there = grind (arith, common_steps, get_or-set_same slabs k new [])

-- a metaslab is written
pub sound_set : (units k : ℕ) (slabs : List (List Extent)) (new : List Extent) → k < length slabs → AreSlabs units slabs → IsSlab units k new → AreSlabs units (set slabs k new)
sound_set units k slabs new there sound here j =
    ⊎_elim
    (λ same. let P : ℕ → Type 0 = λ i. IsSlab units i (slab_at (set slabs k new) i) in subst P (sym same) (subst (λ (s : List Extent). IsSlab units k s) (sym (slab_set_same slabs k new there)) here))
    (λ other. subst (λ (s : List Extent). IsSlab units j s) (sym (slab_set_other slabs k j new (grind (arith, nat_tests, other)))) (sound j))
    (cases_eq j k)

pub kept_set : (t s : Tree) (slabs : List (List Extent)) (k n : ℕ) (new : List Extent) → k < length slabs → ((j : ℕ) → leaf_at t j ≡ longest_len (slab_at slabs j)) → ((j : ℕ) → leaf_at s j ≡ (if j == k then n else leaf_at t j)) → n ≡ longest_len new → (j : ℕ) → leaf_at s j ≡ longest_len (slab_at (set slabs k new) j)
kept_set t s slabs k n new there kept leaf is j =
    ⊎_elim
    (λ same. grind (arith, nat_tests, same, leaf j, is, slab_set_same slabs k new there))
    (λ other. grind (arith, nat_tests, other, leaf j, kept j, slab_set_other slabs k j new))
    (cases_eq j k)

-- units of a metaslab that come back
pub record IsGain (units k : ℕ) (slabs : List (List Extent)) (new : List Extent) (e : Extent) : Type 0 where
  pub there : k < length slabs
  pub sound : AreSlabs units slabs
  pub added : AddsUnits (slab_at slabs k) new e
  pub some : 0 < e.len
  pub from : 512 * k ≤ e.start
  pub to : e.start + e.len ≤ 512 * k + 512
  pub within : e.start + e.len ≤ units

in_slab : (k u : ℕ) (e : Extent) → 512 * k ≤ e.start → e.start + e.len ≤ 512 * k + 512 → in_extent e u ≡ true → u / 512 ≡ k
in_slab k u e from to h = grind (arith, nat_tests, from, to, h)

pub apart_in : (k : ℕ) (slabs : List (List Extent)) (e : Extent) → 512 * k ≤ e.start → e.start + e.len ≤ 512 * k + 512 → HasNoneFree slabs e → HasNone (slab_at slabs k) e
apart_in k slabs e from to apart u h = subst (λ (i : ℕ). has_unit (slab_at slabs i) u ≡ false) (in_slab k u e from to h) (apart u h)

pub gain_units : (units k : ℕ) (slabs : List (List Extent)) (new : List Extent) (e : Extent) → IsGain units k slabs new e → GainsUnits slabs (set slabs k new) e
gain_units units k slabs new e g = record {
  free = λ u. ⊎_elim
      (λ same. grind (arith, nat_tests, same, g.added.members u, slab_set_same slabs k new g.there))
      (λ other. grind (arith, nat_tests, other, in_slab k u e g.from g.to, slab_set_other slabs k (u / 512) new))
      (cases_eq (u / 512) k);
  count = grind (arith, common_steps, sum_by-set unit_count slabs k new [] g.there, g.added.count);
}

pub gain_sound : (units k : ℕ) (slabs : List (List Extent)) (new : List Extent) (e : Extent) → IsGain units k slabs new e → AreSlabs units (set slabs k new)
gain_sound units k slabs new e g = sound_set units k slabs new g.there g.sound (record {
  maximal = g.added.maximal;
  inside = record {
    from = λ u h. grind (arith, nat_tests, h, g.added.members u, (g.sound k).inside.from u, g.from);
    to = λ u h. grind (arith, nat_tests, h, g.added.members u, (g.sound k).inside.to u, g.to);
  };
  below = λ u h. grind (arith, nat_tests, h, g.added.members u, (g.sound k).below u, g.within);
})

-- units of a metaslab that are given out
pub record IsLoss (units k : ℕ) (slabs : List (List Extent)) (new : List Extent) (e : Extent) : Type 0 where
  pub there : k < length slabs
  pub sound : AreSlabs units slabs
  pub were_free : HasAll (slab_at slabs k) e
  pub removed : RemovesUnits (slab_at slabs k) new e
  pub some : 0 < e.len

lost_in : (units k u : ℕ) (slabs : List (List Extent)) (new : List Extent) (e : Extent) → IsLoss units k slabs new e → in_extent e u ≡ true → u / 512 ≡ k
lost_in units k u slabs new e l h = grind (arith, nat_tests, (l.sound k).inside.from u, (l.sound k).inside.to u, l.were_free u h)

pub loss_units : (units k : ℕ) (slabs : List (List Extent)) (new : List Extent) (e : Extent) → IsLoss units k slabs new e → LosesUnits slabs (set slabs k new) e
loss_units units k slabs new e l = record {
  were_free = λ u h. subst (λ (i : ℕ). has_unit (slab_at slabs i) u ≡ true) (sym (lost_in units k u slabs new e l h)) (l.were_free u h);
  free = λ u. ⊎_elim
      (λ same. grind (arith, nat_tests, same, l.removed.members u, slab_set_same slabs k new l.there))
      (λ other. grind (arith, nat_tests, other, lost_in units k u slabs new e l, slab_set_other slabs k (u / 512) new))
      (cases_eq (u / 512) k);
  count = grind (arith, common_steps, sum_by-set unit_count slabs k new [] l.there, l.removed.count);
}

pub loss_sound : (units k : ℕ) (slabs : List (List Extent)) (new : List Extent) (e : Extent) → IsLoss units k slabs new e → AreSlabs units (set slabs k new)
loss_sound units k slabs new e l = sound_set units k slabs new l.there l.sound (record {
  maximal = l.removed.maximal;
  inside = record {
    from = λ u h. grind (arith, nat_tests, h, l.removed.members u, (l.sound k).inside.from u);
    to = λ u h. grind (arith, nat_tests, h, l.removed.members u, (l.sound k).inside.to u);
  };
  below = λ u h. grind (arith, nat_tests, h, l.removed.members u, (l.sound k).below u);
})

-- what is given out ends within the device
pub loss_within : (units k : ℕ) (slabs : List (List Extent)) (new : List Extent) (e : Extent) → IsLoss units k slabs new e → e.start + e.len ≤ units
loss_within units k slabs new e l =
    let last : has_unit (slab_at slabs k) (e.start + e.len - 1) ≡ true = l.were_free (e.start + e.len - 1) (grind (arith, nat_tests, l.some)) in
    omega (arith, (l.sound k).below (e.start + e.len - 1) last, l.some)

pub first_taken : (k want : ℕ) (slabs : List (List Extent)) (new : List Extent) (policy : Policy) (e : Extent) → k < length slabs → ((j : ℕ) → j < k → longest_len (slab_at slabs j) < want) → TakesRun (slab_at slabs k) new policy want e → TakesFirst slabs (set slabs k new) policy want e
first_taken k want slabs new policy e there before taken = record {
  slab = k;
  there = there;
  before = before;
  taken = subst (λ (s : List Extent). TakesRun (slab_at slabs k) s policy want e) (sym (slab_set_same slabs k new there)) taken;
}

count_to : (low high : ℕ) (es : List Extent) → IsMaximalFrom low es → ((u : ℕ) → has_unit es u ≡ true → u < high) → low ≤ high → unit_count es + low ≤ high
count_to low high [] m all le = omega arith
count_to low high (e ∷ []) m all le =
    let last : e.start + e.len - 1 < high = all (e.start + e.len - 1) (grind (arith, nat_tests, m.1)) in
    omega (arith, m.0, m.1)
count_to low high (e ∷ (f ∷ es)) m all le =
    let last : f.start < high = all f.start (grind (arith, nat_tests, m.3.1)) in
    let rest : unit_count (f ∷ es) + (e.start + e.len + 1) ≤ high = count_to (e.start + e.len + 1) high (f ∷ es) m.3 (λ u h. all u (grind (arith, nat_tests, h))) (omega (arith, m.3.0)) in
    omega (arith, m.0, m.1, rest)

-- a metaslab has at most 512 units
slab_count : (base : ℕ) (es : List Extent) → IsMaximal es → AreInside base es → unit_count es ≤ 512
slab_count base [] m inside = omega arith
slab_count base (e ∷ es) m inside =
    let first : base ≤ e.start = inside.from e.start (grind (arith, nat_tests, m.1)) in
    let all : unit_count (e ∷ es) + base ≤ base + 512 = count_to base (base + 512) (e ∷ es) (first, m.1, m.2, m.3) inside.to (omega arith) in
    omega (arith, all)

count_all : (slabs : List (List Extent)) → ((k : ℕ) → unit_count (slab_at slabs k) ≤ 512) → free_count slabs ≤ 512 * length slabs
count_all [] all = omega arith
count_all (s ∷ ss) all =
    let here : unit_count s ≤ 512 = all zero in
    let rest : free_count ss ≤ 512 * length ss = count_all ss (λ k. all (suc k)) in
    grind (arith, common_steps, here, rest)

pub count_bound : (units : ℕ) (slabs : List (List Extent)) → AreSlabs units slabs → free_count slabs ≤ 512 * length slabs
count_bound units slabs sound = count_all slabs (λ k. slab_count (512 * k) (slab_at slabs k) (sound k).maximal (sound k).inside)

-- one write of the tree follows the write of a metaslab
pub record Follows (t s : Tree) (k n : ℕ) (new : List Extent) : Type 0 where
  pub leaf : (j : ℕ) → leaf_at s j ≡ (if j == k then n else leaf_at t j)
  pub longest : n ≡ longest_len new
  pub size : s.size ≡ t.size
  pub made : 0 < length s.nodes

length_set : (slabs : List (List Extent)) (k : ℕ) (new : List Extent) → length (set slabs k new) ≡ length slabs
length_set slabs k new = grind (arith, common_steps)

pub gain_device : (units free k n : ℕ) (t s : Tree) (slabs : List (List Extent)) (new : List Extent) (e : Extent) → IsDevice units free t slabs → IsGain units k slabs new e → Follows t s k n new → IsDevice units (free + e.len) s (set slabs k new)
gain_device units free k n t s slabs new e d g f = record {
  sound = gain_sound units k slabs new e g;
  counted = omega (arith, d.counted, (gain_units units k slabs new e g).count);
  kept = kept_set t s slabs k n new g.there d.kept f.leaf f.longest;
  leaves = omega (arith, d.leaves, f.size, length_set slabs k new);
  made = λ h. f.made;
  reach = omega (arith, d.reach, length_set slabs k new);
  close = omega (arith, d.close, length_set slabs k new);
  small = d.small;
}

pub gain_fits : (units free k : ℕ) (t : Tree) (slabs : List (List Extent)) (new : List Extent) (e : Extent) → IsDevice units free t slabs → IsGain units k slabs new e → free + e.len < 2 ^ 42
gain_fits units free k t slabs new e d g =
    omega (arith, d.counted, (gain_units units k slabs new e g).count, count_bound units (set slabs k new) (gain_sound units k slabs new e g), length_set slabs k new, d.close, d.small)

pub loss_device : (units free k n : ℕ) (t s : Tree) (slabs : List (List Extent)) (new : List Extent) (e : Extent) → IsDevice units free t slabs → IsLoss units k slabs new e → Follows t s k n new → IsDevice units (free - e.len) s (set slabs k new)
loss_device units free k n t s slabs new e d l f = record {
  sound = loss_sound units k slabs new e l;
  counted = omega (arith, d.counted, (loss_units units k slabs new e l).count);
  kept = kept_set t s slabs k n new l.there d.kept f.leaf f.longest;
  leaves = omega (arith, d.leaves, f.size, length_set slabs k new);
  made = λ h. f.made;
  reach = omega (arith, d.reach, length_set slabs k new);
  close = omega (arith, d.close, length_set slabs k new);
  small = d.small;
}

later : (base k : ℕ) (s : List Extent) → AreInside (base + 512 * suc k) s → AreInside (base + 512 + 512 * k) s
later base k s i = record { from = λ u h. omega (arith, i.from u h); to = λ u h. omega (arith, i.to u h) }

from_zero : (k : ℕ) (s : List Extent) → AreInside (512 * k) s → AreInside (0 + 512 * k) s
from_zero k s i = record { from = λ u h. omega (arith, i.from u h); to = λ u h. omega (arith, i.to u h) }

-- no more units are free than lie between the first metaslab and the end of the device
count_below : (units base : ℕ) (slabs : List (List Extent)) → ((k : ℕ) → IsMaximal (slab_at slabs k)) → ((k : ℕ) → AreInside (base + 512 * k) (slab_at slabs k)) → ((k u : ℕ) → has_unit (slab_at slabs k) u ≡ true → u < units) → free_count slabs ≤ units - base
count_below units base [] maximal inside below = omega arith
count_below units base ([] ∷ ss) maximal inside below =
    let rest : free_count ss ≤ units - (base + 512) = count_below units (base + 512) ss (λ k. maximal (suc k)) (λ k. later base k (slab_at ss k) (inside (suc k))) (λ k u. below (suc k) u) in
    grind (arith, common_steps, rest)
count_below units base ((e ∷ es) ∷ ss) maximal inside below =
    let rest : free_count ss ≤ units - (base + 512) = count_below units (base + 512) ss (λ k. maximal (suc k)) (λ k. later base k (slab_at ss k) (inside (suc k))) (λ k u. below (suc k) u) in
    let m : IsMaximal (e ∷ es) = maximal zero in
    let here : has_unit (e ∷ es) e.start ≡ true = grind (arith, nat_tests, m.1) in
    let first : base ≤ e.start = omega (arith, (inside zero).from e.start here) in
    let end : e.start < units = below zero e.start here in
    let slab : unit_count (e ∷ es) + base ≤ base + 512 = count_to base (base + 512) (e ∷ es) (first, m.1, m.2, m.3) (λ u h. omega (arith, (inside zero).to u h)) (omega arith) in
    let device : unit_count (e ∷ es) + base ≤ units = count_to base units (e ∷ es) (first, m.1, m.2, m.3) (below zero) (omega (arith, first, end)) in
    grind (arith, common_steps, rest, slab, device)

-- no more units are free than the device has
pub count_within : (units : ℕ) (slabs : List (List Extent)) → AreSlabs units slabs → free_count slabs ≤ units
count_within units slabs sound = omega (arith, count_below units 0 slabs (λ k. (sound k).maximal) (λ k. from_zero k (slab_at slabs k) (sound k).inside) (λ k. (sound k).below))
