use Rattle.std.proofs.Common.{rules, ◌≡◌, ◌+◌, ◌*◌, ◌-◌, ◌/◌, ◌^◌, ◌<◌, ◌≤◌, List, [], ℕ, suc, length, Vec, Global, subst, sym, ◌∙◌, ap, arith}
use Rattle.std.specs.Prelude.{All}
use Rattle.std.specs.Int.{div_ceil}
use Rattle.std.specs.Simd.{first_chunks}
use Rattle.std.proofs.lemmas.Result.{err_from_is_err_and}
use Rattle.zr_base.specs.Trees.{IsHeight}
use Rattle.zr_bptr.specs.declared.Bptr.{Bptr}
use Rattle.zr_bptr.specs.declared.Ptr.{Ptr}
use Rattle.zr_bptr.specs.declared.Tree.{Tree}
use Rattle.zr_store.proofs.Causes.{cause_from}
use Rattle.zr_tree.proofs.Wholes.{tells_from}
use Rattle.zr_root.specs.Streams.{IsUnitAt, IsGroup}
use Rattle.zr_root.proofs.Lists.{chunks_are}
use Rattle.zr_root.proofs.Joining.{ceil_of, tops_small, bs_small, height_up, level_groups, join_one, join_now}
use Rattle.zr_root.proofs.Costing.{groups_costs, groups_cause, join_costs, join_cause}
use Rattle.zr_root.proofs.levels.+join.Goals as goal

pub returns-then-bs-eq1-clause-joins : goal.returns-then-bs-eq1-clause-joins
returns-then-bs-eq1-clause-joins g t c = λ s held stored. record { stored = s; held = held; is = join_one c.args.level s c.args.bs.now _ c.if-bs-eq1.true }

pub padded-requires : goal.padded-requires
padded-requires g t c = bs_small c.args.level (length c.args.bs.now) c.requires.small

pub put_groups-requires-clause-groups : goal.put_groups-requires-clause-groups
put_groups-requires-clause-groups g t c =
    let n = length c.args.bs.now in
    let m = div_ceil n 32 in
    let ceil = ceil_of n 32 (omega arith) in
    let len = ap (λ (xs : List Ptr). length xs) c.as_slice.ensures.value ∙ c.in_ok-pointers.ensures.len in
    let count : length c.as_slice.result.now / 32 ≡ m = omega (arith, len) in
    let cut = chunks_are 32 m c.as_slice.result.now c.in_ok-pointers.pointers.items c.as_chunks.result.0.now c.as_chunks.ensures.front c.as_slice.ensures.value count ∙ ap (λ (xs : List Ptr). first_chunks 32 m xs) c.in_ok-pointers.ensures.items in
    subst (All (IsGroup c.args.level)) (sym cut) (level_groups c.args.level (32 * m - n) m c.args.bs.now c.requires.fit (omega (arith, ceil.0)) (omega (arith, ceil.1)))

pub returns-in_err-tops-clause-costs : goal.returns-in_err-tops-clause-costs
returns-in_err-tops-clause-costs g t c =
    let len = ap (λ (xs : List Ptr). length xs) c.as_slice.ensures.value ∙ c.in_ok-pointers.ensures.len in
    groups_costs (length c.args.bs.now) (length c.as_chunks.result.0.now) (omega (arith, c.requires.some, c.if-bs-eq1.false)) (omega (arith, c.as_chunks.ensures.front_len, len)) c.put_groups.ensures.costs

pub returns-in_err-tops-clause-cause : goal.returns-in_err-tops-clause-cause
returns-in_err-tops-clause-cause g t c =
    let len = ap (λ (xs : List Ptr). length xs) c.as_slice.ensures.value ∙ c.in_ok-pointers.ensures.len in
    let x = c.from_residual-in_err-tops in
    cause_from {T = Vec Bptr Global} x.result c.in_err-tops.field-0.0 (err_from_is_err_and x.result x.ensures.1)
    (groups_cause (length c.args.bs.now) (length c.as_chunks.result.0.now) (omega (arith, c.requires.some, c.if-bs-eq1.false)) (omega (arith, c.as_chunks.ensures.front_len, len)) c.put_groups.ensures.costs c.in_err-tops.ensures.cause)

pub join-requires : goal.join-requires
join-requires g t c κs within =
    let n = length c.args.bs.now in
    let m = div_ceil n 32 in
    let ceil = ceil_of n 32 (omega arith) in
    let len = ap (λ (xs : List Ptr). length xs) c.as_slice.ensures.value ∙ c.in_ok-pointers.ensures.len in
    let tops_len = ap (λ (xs : List Bptr). length xs) c.as_slice-2.ensures.value ∙ c.in_ok-tops.ensures.count in
    let long : length c.as_slice-2.result.now ≡ m = omega (arith, tops_len, c.as_chunks.ensures.front_len, len) in
    let more : 1 < n = omega (arith, c.requires.some, c.if-bs-eq1.false) in
    let h = tops_small c.args.level n m c.requires.tall more c.requires.small ceil.1 in
    let smaller : length c.as_slice-2.result.now < n = omega (arith, long, ceil.1, more) in
    let some : 0 < length c.as_slice-2.result.now = omega (arith, long, ceil.0, more) in
    let low : c.args.level + 1 ≤ 5 = omega (arith, h.0) in
    let small : length c.as_slice-2.result.now ≤ 32 ^ (5 - (c.args.level + 1)) = subst (λ (k : ℕ). k ≤ 32 ^ (5 - (c.args.level + 1))) (sym long) h.1 in
    let fit : All (IsUnitAt (c.args.level + 1)) c.as_slice-2.result.now = subst (All (IsUnitAt (c.args.level + 1))) (sym c.as_slice-2.ensures.value) c.in_ok-tops.ensures.fit in
    search rules

pub returns-in_err-t-clause-costs : goal.returns-in_err-t-clause-costs
returns-in_err-t-clause-costs g t c =
    let len = ap (λ (xs : List Ptr). length xs) c.as_slice.ensures.value ∙ c.in_ok-pointers.ensures.len in
    let tops_len = ap (λ (xs : List Bptr). length xs) c.as_slice-2.ensures.value ∙ c.in_ok-tops.ensures.count in
    join_costs (length c.args.bs.now) (length c.as_chunks.result.0.now) (omega (arith, c.requires.some, c.if-bs-eq1.false)) (omega (arith, c.as_chunks.ensures.front_len, len)) c.put_groups.ensures.costs
    (length c.as_slice-2.result.now) (omega (arith, tops_len, c.as_chunks.ensures.front_len, len)) c.join.ensures.costs

pub returns-in_err-t-clause-cause : goal.returns-in_err-t-clause-cause
returns-in_err-t-clause-cause g t c =
    let len = ap (λ (xs : List Ptr). length xs) c.as_slice.ensures.value ∙ c.in_ok-pointers.ensures.len in
    let tops_len = ap (λ (xs : List Bptr). length xs) c.as_slice-2.ensures.value ∙ c.in_ok-tops.ensures.count in
    let x = c.from_residual-in_err-t in
    cause_from {T = Tree} x.result c.in_err-t.field-0.0 (err_from_is_err_and x.result x.ensures.1)
    (join_cause (length c.args.bs.now) (length c.as_chunks.result.0.now) (omega (arith, c.requires.some, c.if-bs-eq1.false)) (omega (arith, c.as_chunks.ensures.front_len, len)) c.put_groups.ensures.costs
    (length c.as_slice-2.result.now) (omega (arith, tops_len, c.as_chunks.ensures.front_len, len)) c.in_err-t.ensures.cause)

pub returns-clause-costs : goal.returns-clause-costs
returns-clause-costs g t c =
    let len = ap (λ (xs : List Ptr). length xs) c.as_slice.ensures.value ∙ c.in_ok-pointers.ensures.len in
    let tops_len = ap (λ (xs : List Bptr). length xs) c.as_slice-2.ensures.value ∙ c.in_ok-tops.ensures.count in
    join_costs (length c.args.bs.now) (length c.as_chunks.result.0.now) (omega (arith, c.requires.some, c.if-bs-eq1.false)) (omega (arith, c.as_chunks.ensures.front_len, len)) c.put_groups.ensures.costs
    (length c.as_slice-2.result.now) (omega (arith, tops_len, c.as_chunks.ensures.front_len, len)) c.join.ensures.costs

pub returns-clause-height : goal.returns-clause-height
returns-clause-height g t c =
    let n = length c.args.bs.now in
    let m = div_ceil n 32 in
    let ceil = ceil_of n 32 (omega arith) in
    let len = ap (λ (xs : List Ptr). length xs) c.as_slice.ensures.value ∙ c.in_ok-pointers.ensures.len in
    let tops_len = ap (λ (xs : List Bptr). length xs) c.as_slice-2.ensures.value ∙ c.in_ok-tops.ensures.count in
    let long : length c.as_slice-2.result.now ≡ m = omega (arith, tops_len, c.as_chunks.ensures.front_len, len) in
    let above = c.in_ok-t.ensures.above in
    let h = c.in_ok-t.t.height in
    let up : suc (h - (c.args.level + 1)) ≡ h - c.args.level = omega (arith, above) in
    subst (IsHeight n) up (height_up n m (h - (c.args.level + 1)) (omega (arith, c.requires.some, c.if-bs-eq1.false)) ceil.0 ceil.1 (subst (λ (k : ℕ). IsHeight k (h - (c.args.level + 1))) long c.in_ok-t.ensures.height))

pub returns-clause-joins : goal.returns-clause-joins
returns-clause-joins g t c = λ s held stored.
    let n = length c.args.bs.now in
    let m = div_ceil n 32 in
    let len = ap (λ (xs : List Ptr). length xs) c.as_slice.ensures.value ∙ c.in_ok-pointers.ensures.len in
    let count : length c.as_slice.result.now / 32 ≡ m = omega (arith, len) in
    let cut = chunks_are 32 m c.as_slice.result.now c.in_ok-pointers.pointers.items c.as_chunks.result.0.now c.as_chunks.ensures.front c.as_slice.ensures.value count in
    join_now (g.B.Blocks.holds c.put_groups.new.store) (g.B.Blocks.holds c.join.new.store) c.args.level (c.args.level + 1) (32 * m - n) m c.args.bs.now c.in_ok-tops.tops.items c.as_slice-2.result.now c.as_chunks.result.0.now c.in_ok-pointers.pointers.items s c.in_ok-t.t (omega arith) c.as_slice-2.ensures.value
    (c.in_ok-tops.ensures.puts s held) cut c.in_ok-pointers.ensures.len c.in_ok-pointers.ensures.items stored (λ x h. c.in_ok-t.ensures.joins x h)

pub returns-in_err-t-clause-errors : goal.returns-in_err-t-clause-errors
returns-in_err-t-clause-errors g t c = λ s.
    let e = c.in_err-t in
    let x = c.from_residual-in_err-t in
    tells_from {T = Tree} s [] x.result e.field-0.0 (err_from_is_err_and x.result x.ensures.1) (e.ensures.errors s)

pub returns-in_err-tops-clause-errors : goal.returns-in_err-tops-clause-errors
returns-in_err-tops-clause-errors g t c = λ s.
    let e = c.in_err-tops in
    let x = c.from_residual-in_err-tops in
    tells_from {T = Vec Bptr Global} s [] x.result e.field-0.0 (err_from_is_err_and x.result x.ensures.1) (e.ensures.errors s)
