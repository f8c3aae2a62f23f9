use Rattle.std.proofs.Common.{◌≡◌, ◌/◌, List, [], ℕ, length, Vec, Global, ◌∙◌, ap, arith}
use Rattle.std.specs.Int.{div_ceil}
use Rattle.std.proofs.lemmas.Result.{err_from_is_err_and}
use Rattle.zr_bptr.specs.declared.Bptr.{Bptr}
use Rattle.zr_bptr.specs.declared.Tree.{Tree}
use Rattle.zr_store.proofs.Causes.{cause_from}
use Rattle.zr_tree.proofs.Wholes.{tells_from}
use Rattle.zr_root.proofs.Lists.{chunks_are}
use Rattle.zr_root.proofs.Costing.{leaves_costs, leaves_cause, all_costs, all_cause}
use Rattle.zr_root.proofs.Written.{written_now}
use Rattle.zr_root.proofs.bytes.write_bytes.Goals as goal

pub returns-in_err-leaves-clause-costs : goal.returns-in_err-leaves-clause-costs
returns-in_err-leaves-clause-costs g c =
    let len = ap (λ (xs : List ℕ). length xs) c.as_slice.ensures.value ∙ c.in_ok-all.ensures.len in
    leaves_costs (div_ceil (length c.args.bytes.now) 4096) (length c.as_chunks.result.0.now) (omega (arith, c.as_chunks.ensures.front_len, len)) c.put_leaves.ensures.costs

pub returns-in_err-leaves-clause-cause : goal.returns-in_err-leaves-clause-cause
returns-in_err-leaves-clause-cause g c =
    let len = ap (λ (xs : List ℕ). length xs) c.as_slice.ensures.value ∙ c.in_ok-all.ensures.len in
    let x = c.from_residual-in_err-leaves in
    cause_from {T = Vec Bptr Global} x.result c.in_err-leaves.field-0.0 (err_from_is_err_and x.result x.ensures.1)
    (leaves_cause (div_ceil (length c.args.bytes.now) 4096) (length c.as_chunks.result.0.now) (omega (arith, c.as_chunks.ensures.front_len, len)) c.put_leaves.ensures.costs c.in_err-leaves.ensures.cause)

pub returns-in_err-t-clause-costs : goal.returns-in_err-t-clause-costs
returns-in_err-t-clause-costs g c =
    let len = ap (λ (xs : List ℕ). length xs) c.as_slice.ensures.value ∙ c.in_ok-all.ensures.len in
    let count = ap (λ (xs : List Bptr). length xs) c.as_slice-2.ensures.value ∙ c.in_ok-leaves.ensures.count in
    all_costs (div_ceil (length c.args.bytes.now) 4096) (length c.as_chunks.result.0.now) (omega (arith, c.as_chunks.ensures.front_len, len)) c.put_leaves.ensures.costs (length c.as_slice-2.result.now) (omega (arith, count, c.as_chunks.ensures.front_len, len)) c.join.ensures.costs

pub returns-in_err-t-clause-cause : goal.returns-in_err-t-clause-cause
returns-in_err-t-clause-cause g c =
    let len = ap (λ (xs : List ℕ). length xs) c.as_slice.ensures.value ∙ c.in_ok-all.ensures.len in
    let count = ap (λ (xs : List Bptr). length xs) c.as_slice-2.ensures.value ∙ c.in_ok-leaves.ensures.count in
    let x = c.from_residual-in_err-t in
    cause_from {T = Tree} x.result c.in_err-t.field-0.0 (err_from_is_err_and x.result x.ensures.1)
    (all_cause (div_ceil (length c.args.bytes.now) 4096) (length c.as_chunks.result.0.now) (omega (arith, c.as_chunks.ensures.front_len, len)) c.put_leaves.ensures.costs (length c.as_slice-2.result.now) (omega (arith, count, c.as_chunks.ensures.front_len, len)) c.in_err-t.ensures.cause)

pub returns-clause-costs : goal.returns-clause-costs
returns-clause-costs g c =
    let len = ap (λ (xs : List ℕ). length xs) c.as_slice.ensures.value ∙ c.in_ok-all.ensures.len in
    let count = ap (λ (xs : List Bptr). length xs) c.as_slice-2.ensures.value ∙ c.in_ok-leaves.ensures.count in
    all_costs (div_ceil (length c.args.bytes.now) 4096) (length c.as_chunks.result.0.now) (omega (arith, c.as_chunks.ensures.front_len, len)) c.put_leaves.ensures.costs (length c.as_slice-2.result.now) (omega (arith, count, c.as_chunks.ensures.front_len, len)) c.join.ensures.costs

pub returns-clause-stores : goal.returns-clause-stores
returns-clause-stores g c = λ s held.
    let k = div_ceil (length c.args.bytes.now) 4096 in
    let leaves = c.in_ok-leaves.leaves.items in
    let len = ap (λ (xs : List ℕ). length xs) c.as_slice.ensures.value ∙ c.in_ok-all.ensures.len in
    let count : length c.as_slice.result.now / 4096 ≡ k = omega (arith, len) in
    let cut = chunks_are 4096 k c.as_slice.result.now c.in_ok-all.all.items c.as_chunks.result.0.now c.as_chunks.ensures.front c.as_slice.ensures.value count in
    let leaves_count : length leaves ≡ k = omega (arith, c.in_ok-leaves.ensures.count, c.as_chunks.ensures.front_len, len) in
    written_now (g.B.Blocks.holds c.put_leaves.new.store) (g.B.Blocks.holds c.join.new.store) s c.in_ok-t.t leaves c.as_slice-2.result.now c.as_chunks.result.0.now k c.args.bytes.now c.in_ok-all.all.items c.as_slice-2.ensures.value
    (c.in_ok-leaves.ensures.puts s held) (λ m h. c.in_ok-t.ensures.joins m h) c.in_ok-leaves.ensures.units cut leaves_count (omega arith) c.in_ok-all.ensures.len c.in_ok-all.ensures.items

pub returns-in_err-t-clause-errors : goal.returns-in_err-t-clause-errors
returns-in_err-t-clause-errors g c = λ s.
    let e = c.in_err-t in
    let x = c.from_residual-in_err-t in
    tells_from {T = Tree} s [] x.result e.field-0.0 (err_from_is_err_and x.result x.ensures.1) (e.ensures.errors s)

pub returns-in_err-leaves-clause-errors : goal.returns-in_err-leaves-clause-errors
returns-in_err-leaves-clause-errors g c = λ s.
    let e = c.in_err-leaves in
    let x = c.from_residual-in_err-leaves in
    tells_from {T = Vec Bptr Global} s [] x.result e.field-0.0 (err_from_is_err_and x.result x.ensures.1) (e.ensures.errors s)
