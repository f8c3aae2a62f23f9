-- The nodes of a tree of maxima.
use Rattle.std.proofs.Common.{◌≡◌, ℕ, zero, suc, ◌+◌, ◌-◌, ◌*◌, ◌/◌, ◌%◌, ◌^◌, ◌<◌, ◌≤◌, ⊎_elim, List, length, max, arith, ap, add-one, ◌∙◌, sym, subst}
use Rattle.std.proofs.Math.Nat.{pow-succ'}
use Rattle.std.proofs.Math.Pow.{pow_mono}
use Rattle.std.proofs.lemmas.Nat.{pow_pos}
use Rattle.std.proofs.lemmas.Bool.{cases_lt}
use Rattle.std.proofs.lemmas.Grind.{common_steps}
use Rattle.zr_metaslab.specs.Trees.{Tree, node_at, IsTree, HasLeaf, IsFirstLeaf}

-- a node has at most what its parent has
pub below_parent : (height size : ℕ) (nodes : List ℕ) (n : ℕ) → IsTree height size nodes → 1 < n → n < 2 * size → node_at nodes n ≤ node_at nodes (n / 2)
below_parent height size nodes n t above inside =
    let parents : node_at nodes (n / 2) ≡ max (node_at nodes (2 * (n / 2))) (node_at nodes (2 * (n / 2) + 1)) = t.parents (n / 2) (omega arith) (omega arith) in
    ⊎_elim
    (λ even.
    let e : 2 * (n / 2) ≡ n = omega (arith, even) in
    let c : node_at nodes (2 * (n / 2)) ≡ node_at nodes n = ap (λ m. node_at nodes m) e in
    omega (arith, parents, c))
    (λ odd.
    let e : 2 * (n / 2) + 1 ≡ n = omega (arith, odd) in
    let c : node_at nodes (2 * (n / 2) + 1) ≡ node_at nodes n = ap (λ m. node_at nodes m) e in
    omega (arith, parents, c))
    (cases_lt (n % 2) 1)

below_root_by : (fuel height size : ℕ) (nodes : List ℕ) (n : ℕ) → n ≤ fuel → IsTree height size nodes → 0 < n → n < 2 * size → node_at nodes n ≤ node_at nodes 1
below_root_by zero height size nodes n le t some inside = absurd (omega arith)
below_root_by (suc fuel) height size nodes n le t some inside =
    ⊎_elim
    (λ deep.
    let up : node_at nodes (n / 2) ≤ node_at nodes 1 = below_root_by fuel height size nodes (n / 2) (omega arith) t (omega arith) (omega arith) in
    omega (arith, up, below_parent height size nodes n t deep inside))
    (λ top. let e : n ≡ 1 = omega arith in let c : node_at nodes n ≡ node_at nodes 1 = ap (λ m. node_at nodes m) e in omega (arith, c))
    (cases_lt 1 n)

pub below_root : (height size : ℕ) (nodes : List ℕ) (n : ℕ) → IsTree height size nodes → 0 < n → n < 2 * size → node_at nodes n ≤ node_at nodes 1
below_root height size nodes n t some inside = below_root_by n height size nodes n (omega arith) t some inside

has_leaf_like : (t : Tree) (a b : ℕ) → HasLeaf t a → a ≡ b → HasLeaf t b
has_leaf_like t a b h e = record { leaf = h.leaf; has = omega (arith, h.has, e) }

attained_by : (fuel height size : ℕ) (nodes : List ℕ) (n : ℕ) → 2 * size ≤ fuel + n → IsTree height size nodes → 0 < n → n < 2 * size → HasLeaf (record { size = size; nodes = nodes }) (node_at nodes n)
attained_by zero height size nodes n le t some inside = absurd (omega arith)
attained_by (suc fuel) height size nodes n le t some inside =
    ⊎_elim
    (λ inner.
    let parents : node_at nodes n ≡ max (node_at nodes (2 * n)) (node_at nodes (2 * n + 1)) = t.parents n some inner in
    ⊎_elim
    (λ right. has_leaf_like _ _ _ (attained_by fuel height size nodes (2 * n + 1) (omega arith) t (omega arith) (omega arith)) (omega (arith, parents, right)))
    (λ left. has_leaf_like _ _ _ (attained_by fuel height size nodes (2 * n) (omega arith) t (omega arith) (omega arith)) (omega (arith, parents, left)))
    (cases_lt (node_at nodes (2 * n)) (node_at nodes (2 * n + 1))))
    (λ leaf.
    let e : size + (n - size) ≡ n = omega arith in
    record { leaf = n - size; has = ap (λ m. node_at nodes m) e })
    (cases_lt n size)

-- some leaf has what the root has
pub attained : (height size : ℕ) (nodes : List ℕ) → IsTree height size nodes → HasLeaf (record { size = size; nodes = nodes }) (node_at nodes 1)
attained height size nodes t = let some : 0 < size = t.some in attained_by (2 * size) height size nodes 1 (omega arith) t (omega arith) (omega arith)

-- no leaf has more than the root
pub leaf_below : (height size : ℕ) (nodes : List ℕ) (k : ℕ) → IsTree height size nodes → node_at nodes (size + k) ≤ node_at nodes 1
leaf_below height size nodes k t =
    let some : 0 < size = t.some in
    ⊎_elim
    (λ lt. below_root height size nodes (size + k) t (omega arith) (omega arith))
    (λ ge. ⊎_elim
    (λ none. grind (arith, common_steps, none))
    (λ made. let full : length nodes ≡ 2 * size = t.full made in grind (arith, common_steps, full, ge))
    (cases_lt (length nodes) 1))
    (cases_lt k size)

doubled : (c : ℕ) → 2 ^ (c + 1) ≡ 2 * 2 ^ c
doubled c = rw add-one (pow-succ' 2 c)

double_le : (c h : ℕ) → c < h → 2 * 2 ^ c ≤ 2 ^ h
double_le c h lt =
    let le : 2 ^ (c + 1) ≤ 2 ^ h = pow_mono (omega arith) in
    omega (arith, le, doubled c)

-- a node of the level has enough, and none before it in the level
pub record IsDown (nodes : List ℕ) (want level n : ℕ) : Type 0 where
  pub from : 2 ^ level ≤ n
  pub to : n < 2 * 2 ^ level
  pub enough : want ≤ node_at nodes n
  pub before : (m : ℕ) → 2 ^ level ≤ m → m < n → node_at nodes m < want

pub down_root : (height size : ℕ) (nodes : List ℕ) (want value : ℕ) → IsTree height size nodes → HasLeaf (record { size = size; nodes = nodes }) value → want ≤ value → IsDown nodes want 0 1
down_root height size nodes want value t h le = record {
  from = omega arith;
  to = omega arith;
  enough = omega (arith, h.has, leaf_below height size nodes h.leaf t);
  before = λ m ge lt. absurd (omega arith);
}

-- a node of the next level whose parent is before the node
before_next : (height size : ℕ) (nodes : List ℕ) (want level n m : ℕ) → IsTree height size nodes → level < height → IsDown nodes want level n → 2 ^ (level + 1) ≤ m → m < n * 2 → node_at nodes m < want
before_next height size nodes want level n m t lt d ge below =
    let up : node_at nodes (m / 2) < want = d.before (m / 2) (omega (arith, doubled level)) (omega arith) in
    let some : 1 < m = omega (arith, doubled level, pow_pos level) in
    let inside : m < 2 * size = omega (arith, double_le level height lt, t.power, d.to) in
    omega (arith, up, below_parent height size nodes m t some inside)

inner_node : (height size : ℕ) (nodes : List ℕ) (want level n : ℕ) → IsTree height size nodes → level < height → IsDown nodes want level n → node_at nodes n ≡ max (node_at nodes (2 * n)) (node_at nodes (2 * n + 1))
inner_node height size nodes want level n t lt d = t.parents n (omega (arith, d.from, pow_pos level)) (omega (arith, d.to, double_le level height lt, t.power))

twice : (n : ℕ) → 2 * n ≡ n * 2
twice n = omega arith

pub down_left : (height size : ℕ) (nodes : List ℕ) (want level n : ℕ) → IsTree height size nodes → level < height → IsDown nodes want level n → want ≤ node_at nodes (n * 2) → IsDown nodes want (level + 1) (n * 2)
down_left height size nodes want level n t lt d enough = record {
  from = omega (arith, doubled level, d.from);
  to = omega (arith, doubled level, d.to);
  enough = enough;
  before = λ m ge below. before_next height size nodes want level n m t lt d ge below;
}

pub down_right : (height size : ℕ) (nodes : List ℕ) (want level n : ℕ) → IsTree height size nodes → level < height → IsDown nodes want level n → node_at nodes (n * 2) < want → IsDown nodes want (level + 1) (n * 2 + 1)
down_right height size nodes want level n t lt d less =
    let left : node_at nodes (2 * n) ≡ node_at nodes (n * 2) = ap (λ m. node_at nodes m) (twice n) in
    let right : node_at nodes (2 * n + 1) ≡ node_at nodes (n * 2 + 1) = ap (λ m. node_at nodes (m + 1)) (twice n) in
    record {
      from = omega (arith, doubled level, d.from);
      to = omega (arith, doubled level, d.to);
      enough = omega (arith, d.enough, left, right, inner_node height size nodes want level n t lt d);
      before = λ m ge below. ⊎_elim
          (λ earlier. before_next height size nodes want level n m t lt d ge earlier)
          (λ here. let e : m ≡ n * 2 = omega arith in let c : node_at nodes m ≡ node_at nodes (n * 2) = ap (λ k. node_at nodes k) e in omega (arith, c))
          (cases_lt m (n * 2));
    }

-- a node that is not 0 is there
pub there : (nodes : List ℕ) (n : ℕ) → 0 < node_at nodes n → n < length nodes
there nodes n some = ⊎_elim (λ lt. lt) (λ ge. absurd (grind (arith, common_steps, ge, some))) (cases_lt n (length nodes))

pub fits_down : (height size : ℕ) (nodes : List ℕ) (want level n : ℕ) → 0 < want → IsTree height size nodes → level < height → IsDown nodes want level n → n * 2 + 1 < length nodes
fits_down height size nodes want level n some t lt d =
    let here : n < length nodes = there nodes n (omega (arith, d.enough)) in
    let full : length nodes ≡ 2 * size = t.full (omega arith) in
    omega (arith, full, d.to, double_le level height lt, t.power)

pub down_leaf : (height size : ℕ) (nodes : List ℕ) (want level n : ℕ) → IsTree height size nodes → level ≡ height → IsDown nodes want level n → (size ≤ n) × IsFirstLeaf (record { size = size; nodes = nodes }) want (n - size)
down_leaf height size nodes want level n t same d =
    let power : 2 ^ level ≡ size = ap (λ h. 2 ^ h) same ∙ sym t.power in
    let le : size ≤ n = omega (arith, power, d.from) in
    let e : size + (n - size) ≡ n = omega arith in (
      le,
      record {
        enough = subst (λ (m : ℕ). want ≤ node_at nodes m) (sym e) d.enough;
        before = λ j lt. d.before (size + j) (omega (arith, power)) (omega arith);
      },
    )
