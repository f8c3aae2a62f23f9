use Rattle.std.proofs.Common.{◌≡◌, ◌≤◌, ◌+◌, ◌*◌, ◌<◌, take, ℕ, List, length, get_or, arith}
use Rattle.std.specs.Prelude.{All, IsTrue, max}
use Rattle.std.proofs.lemmas.Bool.Decides.{nat_tests}
use Rattle.std.proofs.lemmas.List.Sums.{sum_by_more}
use Rattle.zr_base.specs.Blocks.{is_block_size}
use Rattle.zr_bptr.specs.Spelling.{IsPointer}
use Rattle.zr_bptr.specs.declared.Bptr.{Bptr}
use Rattle.zr_rules.specs.Devices.{Devices}
use Rattle.zr_rules.specs.Equation.{devices_in}
use Rattle.zr_rules.specs.Steps.{touch}
use Rattle.zr_lines.specs.Counts.{pieces_in}
use Rattle.zr_lines.proofs.counts.pieces_of.Goals as goal

pieces_more : (ds : Devices) (blocks : List Bptr) (i pieces one : ℕ) (d : Bptr) → i < length blocks → pieces ≡ pieces_in ds (take i blocks) → one ≡ touch ds (get_or blocks i d).at → pieces + one ≡ pieces_in ds (take (i + 1) blocks)
pieces_more ds blocks i pieces one d lt so_far is = let more = sum_by_more (λ (b : Bptr). touch ds b.at) blocks i d lt in omega (arith, more, so_far, is)

-- a block has 32 units at most, and each leads over 32 removed devices at most
short_block : (n : ℕ) → IsTrue (is_block_size n) → max 1 n ≤ 32
short_block n h = grind (arith, nat_tests, h)

one_more : (blocks : List Bptr) (i pieces one : ℕ) (d : Bptr) → All IsPointer blocks → i < length blocks → pieces ≤ 1056 * i → one ≤ 33 * max 1 (get_or blocks i d).at.len → pieces + one ≤ 1056 * (i + 1)
one_more blocks i pieces one d lawful lt most few =
    let short = short_block (get_or blocks i d).at.len (lawful i d lt).size in
    omega (arith, most, few, short)

pub overflow_add-pieces : goal.overflow_add-pieces
overflow_add-pieces c =
    let lt = c.loop-b-test.true in
    let count = c.requires.count in
    let more = one_more c.args.blocks.now c.loop-b.b-index c.loop-b.pieces c.touch-pieces.result _ c.requires.lawful lt c.loop-b.invariant.most c.touch-pieces.ensures.few in
    omega (arith, more, lt, count)

pub loop-b-preserved : goal.loop-b-preserved
loop-b-preserved c =
    let ds = devices_in c.args.pool.now.space in
    let lt = c.loop-b-test.true in
    record {
      pieces = pieces_more ds c.args.blocks.now c.loop-b.b-index c.loop-b.pieces c.touch-pieces.result _ lt c.loop-b.invariant.pieces c.touch-pieces.ensures.pieces;
      most = one_more c.args.blocks.now c.loop-b.b-index c.loop-b.pieces c.touch-pieces.result _ c.requires.lawful lt c.loop-b.invariant.most c.touch-pieces.ensures.few;
    }
