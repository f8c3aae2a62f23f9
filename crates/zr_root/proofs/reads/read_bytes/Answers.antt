use Rattle.std.proofs.Common.{◌≡◌, ◌*◌, ◌-◌, ◌<◌, length, ap, arith, rules, List, ℕ, Vec, Global, subst, sym, drop, Err, ◌^◌, []}
use Rattle.std.specs.Int.{div_ceil}
use Rattle.std.proofs.lemmas.Result.{err_from_is_err_and}
use Rattle.zr_bptr.specs.declared.Bptr.{Bptr}
use Rattle.zr_bptr.specs.declared.Tree.{Tree}
use Rattle.zr_tree.specs.Trees.{tree_blocks, tree_reach}
use Rattle.zr_tree.proofs.Wholes.{among_within}
use Rattle.zr_root.specs.Levels.{IsLevel, TellsOfForm, ReadsLeaves}
use Rattle.zr_root.specs.Streams.{HasLeaves, HasBytes}
use Rattle.zr_base.specs.Words.{zeros}
use Rattle.zr_store.specs.declared.StoreErr.{StoreErr}
use Rattle.zr_root.proofs.Joining.{ceil_of}
use Rattle.zr_root.proofs.Reading.{form_from, form_bad, among_at}
use Rattle.zr_root.proofs.Standing.{by_root, blocks_within, leaves_within, no_leaves, not_long, no_padding, has_bytes, reads_sum}
use Rattle.zr_root.proofs.reads.read_bytes.Goals as goal

pub returns-in_err-leaves-clause-errors : goal.returns-in_err-leaves-clause-errors
returns-in_err-leaves-clause-errors g c = λ s held.
    let e = c.in_err-leaves in
    let x = c.from_residual in
    let t = c.args.t.now in
    let same = by_root t c.in-At.root c.in-At.is in
    let told = subst (λ (u : Tree). TellsOfForm {T = Vec Bptr Global} s (tree_blocks s u) (λ b. (leaves : List Bptr) → c.div_ceil-n.result ≡ div_ceil (length leaves) (32 ^ 0) → ¬ HasLeaves s u leaves) (Err e.field-0.0)) same (e.ensures.errors s held) in
    form_from {T = Vec Bptr Global} s (tree_blocks s t) (tree_reach s t) (λ b. (leaves : List Bptr) → c.div_ceil-n.result ≡ div_ceil (length leaves) (32 ^ 0) → ¬ HasLeaves s t leaves) _ x.result e.field-0.0 (err_from_is_err_and x.result x.ensures.1) (blocks_within s t)
    (λ b none. no_leaves s t c.args.len c.div_ceil-n.result c.div_ceil-n.ensures none) told

pub returns-in_err-bytes-clause-errors : goal.returns-in_err-bytes-clause-errors
returns-in_err-bytes-clause-errors g c = λ s held.
    let e = c.in_err-bytes in
    let x = c.from_residual-in_err-bytes in
    let t = c.args.t.now in
    let leaves = c.in_ok-leaves.leaves.items in
    let is = subst (λ (u : Tree). IsLevel s u 0 leaves) (by_root t c.in-At.root c.in-At.is) (c.in_ok-leaves.ensures.level s held) in
    form_from {T = Vec ℕ Global} s c.as_slice-bs.result.now (tree_reach s t) _ _ x.result e.field-0.0 (err_from_is_err_and x.result x.ensures.1) (leaves_within s t leaves c.as_slice-bs.result.now c.as_slice-bs.ensures.value is)
    (λ b other. not_long s t c.args.len c.div_ceil-n.result leaves [] c.div_ceil-n.ensures c.in_ok-leaves.ensures.count is c.as_slice-bs.result.now c.as_slice-bs.ensures.value other) (e.ensures.errors s (c.level_of.ensures.same s held))

pub returns-then-not-is_padded-clause-errors : goal.returns-then-not-is_padded-clause-errors
returns-then-not-is_padded-clause-errors g c = λ s held.
    let t = c.args.t.now in
    let leaves = c.in_ok-leaves.leaves.items in
    let is = subst (λ (u : Tree). IsLevel s u 0 leaves) (by_root t c.in-At.root c.in-At.is) (c.in_ok-leaves.ensures.level s held) in
    let reads = subst (λ (bs : List Bptr). ReadsLeaves s bs c.in_ok-bytes.bytes.items) c.as_slice-bs.ensures.value (c.in_ok-bytes.ensures.reads s (c.level_of.ensures.same s held)) in
    let xs = c.as_slice.result.now in
    let bad : ¬ (drop c.args.len xs ≡ zeros (length (drop c.args.len xs))) = search rules in
    let ceil = ceil_of c.args.len 4096 (omega arith) in
    let count = c.in_ok-leaves.ensures.count in
    let n = c.div_ceil-n.result in
    let len = ap (λ (bs : List Bptr). length bs) c.as_slice-bs.ensures.value in
    let lt : n - 1 < length c.as_slice-bs.result.now = omega (arith, len, count, c.div_ceil-n.ensures, ceil.0, c.requires.some) in
    subst (λ (e : StoreErr). TellsOfForm {T = Vec ℕ Global} s (tree_reach s t) (λ b. (bytes : List ℕ) → length bytes ≡ c.args.len → ¬ HasBytes s t bytes) (Err e)) (sym c.malformed.ensures)
    (form_bad s (tree_reach s t) _ _ (among_within _ c.as_slice-bs.result.now (tree_reach s t) (leaves_within s t leaves c.as_slice-bs.result.now c.as_slice-bs.ensures.value is) (among_at c.as_slice-bs.result.now (n - 1) _ lt))
    (reads_sum s leaves c.as_slice-bs.result.now c.in_ok-bytes.bytes.items c.as_slice-bs.ensures.value reads (n - 1) _ lt)
    (no_padding s t c.args.len n leaves c.in_ok-bytes.bytes.items c.div_ceil-n.ensures count is (drop c.args.len xs) (ap (drop c.args.len) c.as_slice.ensures.value) bad reads))

pub returns-clause-bytes : goal.returns-clause-bytes
returns-clause-bytes g c = λ s held.
    let t = c.args.t.now in
    let leaves = c.in_ok-leaves.leaves.items in
    let is = subst (λ (u : Tree). IsLevel s u 0 leaves) (by_root t c.in-At.root c.in-At.is) (c.in_ok-leaves.ensures.level s held) in
    let reads = subst (λ (bs : List Bptr). ReadsLeaves s bs c.in_ok-bytes.bytes.items) c.as_slice-bs.ensures.value (c.in_ok-bytes.ensures.reads s (c.level_of.ensures.same s held)) in
    let xs = c.as_slice.result.now in
    let fine : drop c.args.len xs ≡ zeros (length (drop c.args.len xs)) = search rules in
    let ceil = ceil_of c.args.len 4096 (omega arith) in
    let count = c.in_ok-leaves.ensures.count in
    let n = c.div_ceil-n.result in
    let len = ap (λ (bs : List Bptr). length bs) c.as_slice-bs.ensures.value in
    let size : length c.in_ok-bytes.bytes.items ≡ 4096 * n = omega (arith, c.in_ok-bytes.ensures.len, len, count) in
    (has_bytes s t c.args.len n leaves c.in_ok-bytes.bytes.items c.div_ceil-n.ensures count is (drop c.args.len xs) c.truncate.new.self.items (omega (arith, ceil.0, c.div_ceil-n.ensures)) size (ap (drop c.args.len) c.as_slice.ensures.value) fine c.truncate.ensures.items reads).1
