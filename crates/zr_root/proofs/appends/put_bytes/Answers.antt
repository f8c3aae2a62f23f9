use Rattle.std.proofs.Common.{◌≡◌, ◌/◌, List, ℕ, length, ◌∙◌, ap, arith}
use Rattle.std.specs.Int.{div_ceil}
use Rattle.zr_root.proofs.Lists.{chunks_are}
use Rattle.zr_root.proofs.Tails.{put_bytes_now}
use Rattle.zr_root.proofs.appends.put_bytes.Goals as goal

pub returns-clause-puts : goal.returns-clause-puts
returns-clause-puts g c = λ s held.
    let k = div_ceil (length c.args.bytes.now) 4096 in
    let leaves = c.in_ok-leaves.leaves.items in
    let all = c.in_ok-all.all.items in
    let len = ap (λ (xs : List ℕ). length xs) c.as_slice.ensures.value ∙ c.in_ok-all.ensures.len in
    let count : length c.as_slice.result.now / 4096 ≡ k = omega (arith, len) in
    let cut = chunks_are 4096 k c.as_slice.result.now all c.as_chunks.result.0.now c.as_chunks.ensures.front c.as_slice.ensures.value count in
    let many : length leaves ≡ k = omega (arith, c.in_ok-leaves.ensures.count, c.as_chunks.ensures.front_len, len) in
    put_bytes_now (g.B.Blocks.holds c.put_leaves.new.store) s leaves c.as_chunks.result.0.now k c.args.bytes.now all (c.in_ok-leaves.ensures.puts s held) cut many c.in_ok-all.ensures.len c.in_ok-all.ensures.items
