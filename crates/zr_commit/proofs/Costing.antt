-- What writing a group takes.
use Rattle.std.proofs.Common.{◌≡◌, ◌+◌, ◌*◌, ◌<◌, ℕ, List, length, take, Result, arith}
use Rattle.zr_store.specs.declared.StoreErr.{StoreErr}
use Rattle.zr_store.specs.Causes.{Account, Costs, HasCause}
use Rattle.zr_store.proofs.Causes.{costs_then, costs_most, cause_then, cause_most}
use Rattle.zr_txg.specs.Changes.{ObjectChange, block_count}
use Rattle.zr_commit.specs.Objects.{entry}
use Rattle.zr_commit.proofs.Entries.{count_more, count_most}

module _ {a b : Account} (es : List (ℕ × ObjectChange)) (i : ℕ) (lt : i < length es) (so_far : Costs (5 * block_count (take i es) + 4 * i) (5 * block_count (take i es)) a b) where
  pub more_costs : {c : Account} → Costs (5 * length (entry es i).1.blocks + 4) (5 * length (entry es i).1.blocks) b c → Costs (5 * block_count (take (i + 1) es) + 4 * (i + 1)) (5 * block_count (take (i + 1) es)) a c
  more_costs one = let m = count_more es i lt in costs_most (5 * block_count (take (i + 1) es) + 4 * (i + 1)) (5 * block_count (take (i + 1) es)) (omega (arith, m)) (omega (arith, m)) (costs_then so_far one)

  pub most_costs : {c : Account} → Costs (5 * length (entry es i).1.blocks + 4) (5 * length (entry es i).1.blocks) b c → Costs (5 * block_count es + 4 * length es) (5 * block_count es) a c
  most_costs one =
      let m = count_more es i lt in
      let n = count_most es (i + 1) in
      costs_most (5 * block_count es + 4 * length es) (5 * block_count es) (omega (arith, m, n, lt)) (omega (arith, m, n)) (costs_then so_far one)

  pub most_cause : {c : Account} {T : Type 0} {r : Result T StoreErr} → HasCause (5 * length (entry es i).1.blocks + 4) b c r → HasCause (5 * block_count es + 4 * length es) a c r
  most_cause h =
      let m = count_more es i lt in
      let n = count_most es (i + 1) in
      cause_most (5 * block_count es + 4 * length es) (omega (arith, m, n, lt)) (cause_then so_far h)

module _ {a b : Account} (blocks objects records : ℕ) (all : records ≡ objects) (some : 0 < objects) (so_far : Costs (5 * blocks + 4 * objects) (5 * blocks) a b) where
  pub group_costs : {c : Account} → Costs (4 * records + 2) (4 * records) b c → Costs (5 * blocks + 10 * objects) (5 * blocks + 4 * objects) a c
  group_costs one = costs_most (5 * blocks + 10 * objects) (5 * blocks + 4 * objects) (omega (arith, all, some)) (omega (arith, all)) (costs_then so_far one)

  pub group_cause : {c : Account} {T : Type 0} {r : Result T StoreErr} → HasCause (4 * records + 2) b c r → HasCause (5 * blocks + 10 * objects) a c r
  group_cause h = cause_most (5 * blocks + 10 * objects) (omega (arith, all, some)) (cause_then so_far h)
