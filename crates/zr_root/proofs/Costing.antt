-- What it takes to put a tree.
use Rattle.std.proofs.Common.{◌≡◌, ◌+◌, ◌*◌, ◌-◌, ◌<◌, ◌≤◌, ℕ, Result, ap, arith}
use Rattle.std.specs.Int.{div_ceil}
use Rattle.zr_base.specs.Trees.{tree_units}
use Rattle.zr_store.specs.declared.StoreErr.{StoreErr}
use Rattle.zr_store.specs.Causes.{Account, Costs, HasCause}
use Rattle.zr_store.proofs.Causes.{costs_then, costs_most, cause_then, cause_most}
use Rattle.zr_root.proofs.Joining.{join_units, units_least}

module _ {a b : Account} (n p : ℕ) (some : 1 < n) (p_is : p ≡ div_ceil n 32) (first : Costs p 0 a b) where
  groups_most : p ≤ tree_units n - n
  groups_most = let u = join_units n some in omega (arith, u, p_is)

  pub groups_costs : Costs (tree_units n - n) 0 a b
  groups_costs = costs_most (tree_units n - n) 0 groups_most (omega arith) first

  pub groups_cause : {T : Type 0} {r : Result T StoreErr} → HasCause p a b r → HasCause (tree_units n - n) a b r
  groups_cause h = cause_most (tree_units n - n) groups_most h

  join_most : (q : ℕ) → q ≡ div_ceil n 32 → p + (tree_units q - q) ≤ tree_units n - n
  join_most q q_is =
      let u = join_units n some in
      let e : tree_units q ≡ tree_units (div_ceil n 32) = ap tree_units q_is in
      omega (arith, u, p_is, q_is, e)

  pub join_costs : {c : Account} (q : ℕ) → q ≡ div_ceil n 32 → Costs (tree_units q - q) 0 b c → Costs (tree_units n - n) 0 a c
  join_costs q q_is second = costs_most (tree_units n - n) 0 (join_most q q_is) (omega arith) (costs_then first second)

  pub join_cause : {c : Account} {T : Type 0} {r : Result T StoreErr} (q : ℕ) → q ≡ div_ceil n 32 → HasCause (tree_units q - q) b c r → HasCause (tree_units n - n) a c r
  join_cause q q_is h = cause_most (tree_units n - n) (join_most q q_is) (cause_then first h)

module _ {a b : Account} (n p : ℕ) (p_is : p ≡ n) (first : Costs p 0 a b) where
  leaves_most : p ≤ tree_units n
  leaves_most = let u = units_least n in omega (arith, u, p_is)

  pub leaves_costs : Costs (tree_units n) 0 a b
  leaves_costs = costs_most (tree_units n) 0 leaves_most (omega arith) first

  pub leaves_cause : {T : Type 0} {r : Result T StoreErr} → HasCause p a b r → HasCause (tree_units n) a b r
  leaves_cause h = cause_most (tree_units n) leaves_most h

  all_most : (q : ℕ) → q ≡ n → p + (tree_units q - q) ≤ tree_units n
  all_most q q_is =
      let u = units_least n in
      let e : tree_units q ≡ tree_units n = ap tree_units q_is in
      omega (arith, u, p_is, q_is, e)

  pub all_costs : {c : Account} (q : ℕ) → q ≡ n → Costs (tree_units q - q) 0 b c → Costs (tree_units n) 0 a c
  all_costs q q_is second = costs_most (tree_units n) 0 (all_most q q_is) (omega arith) (costs_then first second)

  pub all_cause : {c : Account} {T : Type 0} {r : Result T StoreErr} (q : ℕ) → q ≡ n → HasCause (tree_units q - q) b c r → HasCause (tree_units n) a c r
  all_cause q q_is h = cause_most (tree_units n) (all_most q q_is) (cause_then first h)

-- ---- appending

-- n leaves are put, and a tree is changed at n places
module _ {a b : Account} (n : ℕ) (first : Costs 0 0 a b) where
  pub tail_costs : Costs (6 * n + 4) (5 * n + 1) a b
  tail_costs = costs_most (6 * n + 4) (5 * n + 1) (omega arith) (omega arith) first

  module _ {c : Account} (k : ℕ) (k_is : k ≡ n) (second : Costs k 0 b c) where
    pub puts_costs : Costs (6 * n + 4) (5 * n + 1) a c
    puts_costs = costs_most (6 * n + 4) (5 * n + 1) (omega (arith, k_is)) (omega arith) (costs_then first second)

    module _ {d : Account} (m : ℕ) (m_is : m ≡ n) (third : Costs (5 * m + 4) (5 * m) c d) where
      pub tree_costs : Costs (6 * n + 4) (5 * n + 1) a d
      tree_costs = costs_most (6 * n + 4) (5 * n + 1) (omega (arith, k_is, m_is)) (omega (arith, m_is)) (costs_then (costs_then first second) third)

      pub end_costs : {e : Account} → Costs 0 1 d e → Costs (6 * n + 4) (5 * n + 1) a e
      end_costs last = costs_most (6 * n + 4) (5 * n + 1) (omega (arith, k_is, m_is)) (omega (arith, m_is)) (costs_then (costs_then (costs_then first second) third) last)

      pub end_cause : {e : Account} {T : Type 0} {r : Result T StoreErr} → HasCause 0 d e r → HasCause (6 * n + 4) a e r
      end_cause h = cause_most (6 * n + 4) (omega (arith, k_is, m_is)) (cause_then (costs_then (costs_then first second) third) h)

  pub puts_cause : {c : Account} {T : Type 0} {r : Result T StoreErr} (k : ℕ) → k ≡ n → HasCause k b c r → HasCause (6 * n + 4) a c r
  puts_cause k k_is h = cause_most (6 * n + 4) (omega (arith, k_is)) (cause_then first h)

  pub tree_cause : {c d : Account} {T : Type 0} {r : Result T StoreErr} (k : ℕ) → k ≡ n → Costs k 0 b c → (m : ℕ) → m ≡ n → HasCause (5 * m + 4) c d r → HasCause (6 * n + 4) a d r
  tree_cause k k_is second m m_is h = cause_most (6 * n + 4) (omega (arith, k_is, m_is)) (cause_then (costs_then first second) h)
