use Rattle.std.proofs.Common.{◌≡◌, ◌+◌, [], ◌∷◌, length-append, arith}
use Rattle.zr_rows.proofs.Rising.{after_more}
use Rattle.zr_rows.proofs.mappings.hundred.Goals as goal

pub loop-i-preserved : goal.loop-i-preserved
loop-i-preserved c = rw c.in_ok-push.ensures.ok (record {
  after = after_more c.loop-i.map.entries _ _ c.loop-i.invariant.after (omega arith);
  count = let l = length-append c.loop-i.map.entries (record { src = c.loop-i.i; dev = 1; dst = 1000 + c.loop-i.i; len = 1 } ∷ []) in let n = c.loop-i.invariant.count in omega (arith, l, n);
})
